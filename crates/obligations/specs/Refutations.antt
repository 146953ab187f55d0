-- The condition under which a statement of a policy fails: where it holds of some numbers in the policy's ranges, the
-- statement is refuted.
use Rattle.std.specs.Prelude.{ℕ, suc, min, pos, List, [], ◌∷◌, ◌++◌, map, Option, None, Some}
use Rattle.sched_base.specs.declared.limits.TheConstants.{MAX_LOAD}
use Rattle.policy_tree.specs.declared.trees.Cmp.TheVariants as cmp
use Rattle.policy_tree.specs.declared.typed.Event.{Event}
use Rattle.policy_tree.specs.declared.typed.Load.{Load}
use Rattle.policy_tree.specs.Meaning.{BatchTree, CaseTree, Meaning, cases_on}
use Rattle.policy_tree.specs.Trees.{CondTree, ExprTree, always, negated, both, either, test, number, variable, plus}
use Rattle.policy_tree.specs.Trees.{times}
use Rattle.policy_eval.specs.Obligations.{Statement, idle_sees_overloaded, victim_is_overloaded, move_narrows_gap}
use Rattle.policy_eval.specs.Obligations.{further_move_narrows_gap, no_overlap, no_gap, filter_leaves_last}
use Rattle.policy_eval.specs.Obligations.{batch_leaves_last, rest_gap}
use Rattle.policy_eval.specs.Ranges.{greatest_weight, least_weight}
use Rattle.policy_tree.specs.declared.variables.TheConstants.{SELF_NR, SELF_LOAD, OTHER_NR, OTHER_LOAD, WEIGHT}

-- a number that the policy or its limits give
abbrev pub whole : ℕ → ExprTree
whole n = number (pos n)

-- the load is that of so many threads: each weighs at least the least weight, and at most the greatest
abbrev pub load_fits : Load → ℕ → ℕ → CondTree
load_fits load nr sum =
    both
    (test cmp.Le (times (whole (least_weight load)) (variable nr)) (variable sum))
    (test cmp.Le (variable sum) (times (whole (greatest_weight load)) (variable nr)))

-- the loads of self and of victim are those of their threads
abbrev pub cores_fit : Load → CondTree
cores_fit load = both (load_fits load SELF_NR SELF_LOAD) (load_fits load OTHER_NR OTHER_LOAD)

-- self is idle, and victim is overloaded
abbrev pub idle_and_overloaded : CondTree
idle_and_overloaded = both (test cmp.Le (variable SELF_NR) (whole 0)) (test cmp.Ge (variable OTHER_NR) (whole 2))

-- victim isn't overloaded
abbrev pub victim_has_one : CondTree
victim_has_one = test cmp.Le (variable OTHER_NR) (whole 1)

-- victim can have a thread of that weight queued beside its others
abbrev pub has_thread : Load → CondTree
has_thread load =
    test cmp.Le
    (plus (times (whole (least_weight load)) (variable OTHER_NR)) (variable WEIGHT))
    (plus (variable OTHER_LOAD) (whole (least_weight load)))

-- the gap between the loads is no greater than the weight
abbrev pub gap_is_small : CondTree
gap_is_small = test cmp.Le (variable OTHER_LOAD) (plus (variable SELF_LOAD) (variable WEIGHT))

-- victim's load is greater than self's by more than that. No load is greater than another by more than the greatest
abbrev pub gap_is_wide : ℕ → CondTree
gap_is_wide gap =
    test cmp.Ge (variable OTHER_LOAD) (plus (variable SELF_LOAD) (whole (suc (min gap MAX_LOAD))))

-- victim has a thread
abbrev pub victim_has_thread : CondTree
victim_has_thread = test cmp.Ge (variable OTHER_NR) (whole 1)

-- the batch goes on although the gap is no greater than the weight of the next thread. Without a batch it never does
abbrev pub moves_over_small_gap : Load → Option BatchTree → CondTree
moves_over_small_gap load None = negated always
moves_over_small_gap load (Some batch) =
    both (both (cores_fit load) (both victim_has_thread (both (has_thread load) gap_is_small))) batch.condition

-- victim has at most two threads, and self has one at least
abbrev pub busy_beside_two : CondTree
busy_beside_two = both (test cmp.Le (variable OTHER_NR) (whole 2)) (test cmp.Ge (variable SELF_NR) (whole 1))

-- victim has one thread or two, and self has two at least
abbrev pub busier_beside_two : CondTree
busier_beside_two =
    both victim_has_thread (both (test cmp.Le (variable OTHER_NR) (whole 2)) (test cmp.Ge (variable SELF_NR) (whole 2)))

-- the batch goes on to the last waiting thread although self has two threads at least. Without a batch it never does
abbrev pub goes_on_to_last : Load → Option BatchTree → CondTree
goes_on_to_last load None = negated always
goes_on_to_last load (Some batch) = both (both (cores_fit load) busier_beside_two) batch.condition

-- the pairs of an item and a later one, in the order of the first and then of the second
abbrev pub pairs_of : {X : Type 0} → List X → List (X × X)
pairs_of [] = []
pairs_of (x ∷ xs) = map (λ y. (x, y)) xs ++ pairs_of xs

-- both conditions of a pair hold
abbrev pub both_of : CondTree × CondTree → CondTree
both_of pair = both pair.0 pair.1

-- one of the conditions holds
abbrev pub any_of : List CondTree → CondTree
any_of [] = negated always
any_of (c ∷ cs) = either c (any_of cs)

-- all of the conditions hold
abbrev pub all_of : List CondTree → CondTree
all_of [] = always
all_of (c ∷ cs) = both c (all_of cs)

-- the guards of the event's handler, in their order
abbrev pub guards_on : Meaning → Event → List CondTree
guards_on p e = map (λ (c : CaseTree). c.guard) (cases_on p.handlers e)

-- the condition under which the statement fails
abbrev pub refutation : Meaning → Statement → CondTree
refutation p idle_sees_overloaded = both (both (cores_fit p.load) idle_and_overloaded) (negated p.filter)
refutation p victim_is_overloaded = both (both (cores_fit p.load) victim_has_one) p.filter
refutation p move_narrows_gap = both (both (cores_fit p.load) (both (has_thread p.load) gap_is_small)) p.filter
refutation p further_move_narrows_gap = moves_over_small_gap p.load p.batch
refutation p (no_overlap e) = any_of (map both_of (pairs_of (guards_on p e)))
refutation p (no_gap e) = all_of (map negated (guards_on p e))
refutation p filter_leaves_last = both (both (cores_fit p.load) busy_beside_two) p.filter
refutation p batch_leaves_last = goes_on_to_last p.load p.batch
refutation p (rest_gap gap) = both (both (cores_fit p.load) (gap_is_wide gap)) (negated p.filter)
