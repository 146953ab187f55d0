-- Whether a policy has a rule that C computes in `__int128`, for which compilers for 32 bits and for BPF have no code.
use Rattle.std.specs.Prelude.{Bool, true, false, ◌||◌, List, Option, Some, None}
use Rattle.std.specs.List.{list_any}
use Rattle.policy_tree.specs.declared.typed.Event.{Event}
use Rattle.policy_tree.specs.declared.typed.Event.TheVariants as event
use Rattle.policy_tree.specs.Meaning.{BatchTree, CaseTree, KeyTree, Meaning, PlaceTree, SetTree, cases_on}
use Rattle.policy_tree.specs.Meaning.{greatest_first, here, least, least_first, preferring}
use Rattle.policy_tree.specs.Trees.{CondTree, ExprTree, always, negated, both, either, test}
use Rattle.c_printer.specs.declared.words.Width.{Width}
use Rattle.c_printer.specs.declared.words.Width.TheVariants as width
use Rattle.c_printer.specs.Widths.{width_of}

abbrev pub is_wide : Width → Bool
is_wide width.Small = false
is_wide width.Long = false
is_wide width.Wide = true

abbrev pub has_wide_value : Meaning → ExprTree → Bool
has_wide_value p e = is_wide (width_of p e)

-- whether a side of one of its comparisons is so
abbrev pub has_wide_test : Meaning → CondTree → Bool
has_wide_test p always = false
has_wide_test p (negated c) = has_wide_test p c
has_wide_test p (both l r) = has_wide_test p l || has_wide_test p r
has_wide_test p (either l r) = has_wide_test p l || has_wide_test p r
has_wide_test p (test how l r) = has_wide_value p l || has_wide_value p r

abbrev pub is_wide_key : Meaning → KeyTree → Bool
is_wide_key p (least_first e) = has_wide_value p e
is_wide_key p (greatest_first e) = has_wide_value p e
is_wide_key p (preferring c) = has_wide_test p c

abbrev pub has_wide_key : Meaning → List KeyTree → Bool
has_wide_key p keys = list_any (is_wide_key p) keys

abbrev pub is_wide_batch : Meaning → Option BatchTree → Bool
is_wide_batch p None = false
is_wide_batch p (Some b) = has_wide_test p b.condition

abbrev pub is_wide_place : Meaning → PlaceTree → Bool
is_wide_place p here = false
is_wide_place p (least e) = has_wide_value p e

abbrev pub is_wide_set : Meaning → SetTree → Bool
is_wide_set p s = has_wide_value p s.expr

abbrev pub is_wide_case : Meaning → CaseTree → Bool
is_wide_case p c = has_wide_test p c.guard || list_any (is_wide_set p) c.sets

abbrev pub is_wide_event : Meaning → Event → Bool
is_wide_event p e = list_any (is_wide_case p) (cases_on p.handlers e)

-- whether the filter, an order, the batch or the placement is so
abbrev pub has_wide_rule : Meaning → Bool
has_wide_rule p =
    has_wide_test p p.filter || (has_wide_key p p.choose || (has_wide_key p p.steal
    || (has_wide_key p p.elect || (is_wide_batch p p.batch || is_wide_place p p.place))))

abbrev pub has_wide_event : Meaning → Bool
has_wide_event p =
    is_wide_event p event.Enqueue || (is_wide_event p event.Tick
    || (is_wide_event p event.Yield || is_wide_event p event.Block))

abbrev pub is_wide_policy : Meaning → Bool
is_wide_policy p = has_wide_rule p || has_wide_event p
