-- The limits of a language: which a syntax passes first, in the order of its tokens.
use Rattle.std.specs.Prelude.{ℕ, zero, suc, ◌+◌, Bool, true, false, nat_lt, if◌then◌else◌, List, [], ◌∷◌, Option, Some}
use Rattle.std.specs.Prelude.{None}
use Rattle.policy_syntax.specs.declared.syntax.AttrSyntax.{AttrSyntax}
use Rattle.policy_syntax.specs.declared.syntax.PlaceSyntax.{PlaceSyntax}
use Rattle.policy_syntax.specs.declared.syntax.PlaceSyntax.TheVariants as place
use Rattle.policy_syntax.specs.declared.syntax.SetSyntax.{SetSyntax}
use Rattle.policy_syntax.specs.declared.syntax.FactorSyntax.{FactorSyntax}
use Rattle.policy_syntax.specs.declared.syntax.TimesSyntax.{TimesSyntax}
use Rattle.policy_syntax.specs.declared.syntax.TermSyntax.{TermSyntax}
use Rattle.policy_syntax.specs.declared.syntax.AddedSyntax.{AddedSyntax}
use Rattle.policy_syntax.specs.declared.syntax.ExprSyntax.{ExprSyntax}
use Rattle.policy_syntax.specs.SyntaxTrees.{ConditionTree, always, negated, grouped, all, any, test, ConditionTrees}
use Rattle.policy_syntax.specs.SyntaxTrees.{no_more, more, KeySyntaxTree, ranked, preferring}
use Rattle.policy_syntax.specs.SyntaxTrees.{OrderSyntaxTree, ElectSyntaxTree, BatchSyntaxTree, CaseSyntaxTree}
use Rattle.policy_syntax.specs.SyntaxTrees.{HandlerSyntaxTree, SyntaxTree}
use Rattle.policy_grammar.specs.declared.limits.Limits.{Limits}
use Rattle.policy_grammar.specs.declared.fault.ParseFault.{ParseFault}
use Rattle.policy_grammar.specs.declared.fault.ParseFault.TheVariants.{Deep, Many}

-- the token opens one more where so many are open
abbrev pub deep : Limits → ℕ → ℕ → Option ParseFault
deep limits at open_here = if nat_lt open_here limits.nesting then None else Some (Deep at)

-- the token begins one more where there are so many
abbrev pub many : ℕ → ℕ → ℕ → Option ParseFault
many limit at count = if nat_lt count limit then None else Some (Many at limit)

abbrev pub first_of : Option ParseFault → Option ParseFault → Option ParseFault
first_of None later = later
first_of (Some fault) later = Some fault

-- signs from a token on, where so many are open and so many operators came before
abbrev pub breaks_signs : Limits → ℕ → ℕ → ℕ → ℕ → Option ParseFault
breaks_signs limits depth operators at zero = None
breaks_signs limits depth operators at (suc signs) =
    first_of (first_of (many limits.operators at operators) (deep limits at depth))
    (breaks_signs limits (depth + 1) (operators + 1) (at + 1) signs)

abbrev pub breaks_factor : Limits → ℕ → ℕ → FactorSyntax → Option ParseFault
breaks_factor limits depth operators f = breaks_signs limits depth operators f.at f.signs

abbrev pub after_times : ℕ → List TimesSyntax → ℕ
after_times operators [] = operators
after_times operators (t ∷ rest) = after_times (operators + 1 + t.factor.signs) rest

abbrev pub breaks_times : Limits → ℕ → ℕ → List TimesSyntax → Option ParseFault
breaks_times limits depth operators [] = None
breaks_times limits depth operators (t ∷ rest) =
    first_of (many limits.operators t.at operators)
    (first_of (breaks_factor limits depth (operators + 1) t.factor)
    (breaks_times limits depth (operators + 1 + t.factor.signs) rest))

-- the operators behind a term, where so many came before it
abbrev pub after_term : ℕ → TermSyntax → ℕ
after_term operators t = after_times (operators + t.first.signs) t.rest

abbrev pub breaks_term : Limits → ℕ → ℕ → TermSyntax → Option ParseFault
breaks_term limits depth operators t =
    first_of (breaks_factor limits depth operators t.first)
    (breaks_times limits depth (operators + t.first.signs) t.rest)

abbrev pub after_added : ℕ → List AddedSyntax → ℕ
after_added operators [] = operators
after_added operators (a ∷ rest) = after_added (after_term (operators + 1) a.term) rest

abbrev pub breaks_added : Limits → ℕ → ℕ → List AddedSyntax → Option ParseFault
breaks_added limits depth operators [] = None
breaks_added limits depth operators (a ∷ rest) =
    first_of (many limits.operators a.at operators)
    (first_of (breaks_term limits depth (operators + 1) a.term)
    (breaks_added limits depth (after_term (operators + 1) a.term) rest))

abbrev pub after_expr : ExprSyntax → ℕ
after_expr e = after_added (after_term 0 e.first) e.rest

abbrev pub breaks_expr : Limits → ℕ → ExprSyntax → Option ParseFault
breaks_expr limits depth e =
    first_of (breaks_term limits depth 0 e.first) (breaks_added limits depth (after_term 0 e.first) e.rest)

-- how many comparisons a condition has
abbrev mutual
  pub comparisons : ConditionTree → ℕ
  comparisons (always at) = 0
  comparisons (negated at v) = comparisons v
  comparisons (grouped at v) = comparisons v
  comparisons (all at parts) = comparisons_of parts
  comparisons (any at parts) = comparisons_of parts
  comparisons (test at compare left right) = 1

  pub comparisons_of : ConditionTrees → ℕ
  comparisons_of no_more = 0
  comparisons_of (more v rest) = comparisons v + comparisons_of rest

-- a condition of at most so many comparisons, where so many are open, behind so many comparisons
abbrev mutual
  pub breaks_condition : Limits → ℕ → ℕ → ℕ → ConditionTree → Option ParseFault
  breaks_condition limits most depth count (always at) = None
  breaks_condition limits most depth count (negated at v) =
      first_of (deep limits at depth) (breaks_condition limits most (depth + 1) count v)
  breaks_condition limits most depth count (grouped at v) =
      first_of (deep limits at depth) (breaks_condition limits most (depth + 1) count v)
  breaks_condition limits most depth count (all at parts) = breaks_parts limits most depth count parts
  breaks_condition limits most depth count (any at parts) = breaks_parts limits most depth count parts
  breaks_condition limits most depth count (test at compare left right) =
      first_of (breaks_expr limits depth left)
      (first_of (many most at count) (breaks_expr limits depth right))

  pub breaks_parts : Limits → ℕ → ℕ → ℕ → ConditionTrees → Option ParseFault
  breaks_parts limits most depth count no_more = None
  breaks_parts limits most depth count (more v rest) =
      first_of (breaks_condition limits most depth count v)
      (breaks_parts limits most depth (count + comparisons v) rest)

-- the first token of a key
abbrev pub key_at : KeySyntaxTree → ℕ
key_at (ranked at greatest v) = at
key_at (preferring at v) = at

abbrev pub breaks_key : Limits → KeySyntaxTree → Option ParseFault
breaks_key limits (ranked at greatest v) = breaks_expr limits 0 v
breaks_key limits (preferring at v) = breaks_condition limits limits.comparisons 0 0 v

-- keys of an order of at most so many, behind so many
abbrev pub breaks_keys : Limits → ℕ → ℕ → List KeySyntaxTree → Option ParseFault
breaks_keys limits most count [] = None
breaks_keys limits most count (k ∷ rest) =
    first_of (many most (key_at k) count) (first_of (breaks_key limits k) (breaks_keys limits most (count + 1) rest))

abbrev pub breaks_order : Limits → ℕ → OrderSyntaxTree → Option ParseFault
breaks_order limits most order = breaks_keys limits most 0 order.keys

-- assignments behind so many
abbrev pub breaks_sets : Limits → ℕ → List SetSyntax → Option ParseFault
breaks_sets limits count [] = None
breaks_sets limits count (s ∷ rest) =
    first_of (many limits.sets s.at count) (first_of (breaks_expr limits 0 s.value)
    (breaks_sets limits (count + 1) rest))

-- cases behind so many
abbrev pub breaks_cases : Limits → ℕ → List CaseSyntaxTree → Option ParseFault
breaks_cases limits count [] = None
breaks_cases limits count (c ∷ rest) =
    first_of (many limits.cases c.at count)
    (first_of (breaks_condition limits limits.comparisons 0 0 c.guard)
    (first_of (breaks_sets limits 0 c.sets) (breaks_cases limits (count + 1) rest)))

abbrev pub breaks_handlers : Limits → List HandlerSyntaxTree → Option ParseFault
breaks_handlers limits [] = None
breaks_handlers limits (h ∷ rest) = first_of (breaks_cases limits 0 h.cases) (breaks_handlers limits rest)

-- attributes behind so many of cores and so many of threads
abbrev pub of_cores_more : Bool → ℕ → ℕ
of_cores_more true count = count + 1
of_cores_more false count = count

abbrev pub of_threads_more : Bool → ℕ → ℕ
of_threads_more true count = count
of_threads_more false count = count + 1

abbrev pub of_kind : Bool → ℕ → ℕ → ℕ
of_kind true cores threads = cores
of_kind false cores threads = threads

abbrev pub breaks_attrs : Limits → ℕ → ℕ → List AttrSyntax → Option ParseFault
breaks_attrs limits cores threads [] = None
breaks_attrs limits cores threads (a ∷ rest) =
    first_of (many limits.attrs a.at (of_kind a.of_cores cores threads))
    (breaks_attrs limits (of_cores_more a.of_cores cores) (of_threads_more a.of_cores threads) rest)

abbrev pub breaks_place : Limits → Option PlaceSyntax → Option ParseFault
breaks_place limits None = None
breaks_place limits (Some (place.Here at)) = None
breaks_place limits (Some (place.Least at v)) = breaks_expr limits 0 v

abbrev pub breaks_elect : Limits → Option ElectSyntaxTree → Option ParseFault
breaks_elect limits None = None
breaks_elect limits (Some elect) = breaks_order limits limits.keys elect.order

abbrev pub breaks_batch : Limits → Option BatchSyntaxTree → Option ParseFault
breaks_batch limits None = None
breaks_batch limits (Some batch) = breaks_condition limits limits.comparisons 0 0 batch.condition

-- the first limit that the parts of a text pass: those before its filter, what stands in place of one, and what
-- stands behind
abbrev pub breaks_around : Limits → List AttrSyntax → Option PlaceSyntax → Option ElectSyntaxTree →
    List HandlerSyntaxTree → Option ParseFault → Option ParseFault → Option ParseFault
breaks_around limits attrs place elect handlers filter choices =
    first_of (breaks_attrs limits 0 0 attrs)
    (first_of (breaks_place limits place)
    (first_of (breaks_elect limits elect)
    (first_of (breaks_handlers limits handlers) (first_of filter choices))))

-- the orders, of which `choose` may have so many keys, and the batch
abbrev pub breaks_choices : Limits → ℕ → OrderSyntaxTree → OrderSyntaxTree → Option BatchSyntaxTree → Option ParseFault
breaks_choices limits most choose steal batch =
    first_of (breaks_order limits most choose)
    (first_of (breaks_order limits limits.keys steal) (breaks_batch limits batch))

-- the first limit that a policy passes
abbrev pub breaks_policy : Limits → SyntaxTree → Option ParseFault
breaks_policy limits s =
    breaks_around limits s.attrs s.place s.elect s.handlers (breaks_condition limits limits.comparisons 0 0 s.filter)
    (breaks_choices limits limits.keys s.choose s.steal s.batch)
