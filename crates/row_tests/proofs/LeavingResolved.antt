-- The policy `leaving` is resolved.
use Rattle.std.proofs.Common.{refl, arith, All}
use Rattle.std.proofs.lemmas.Int.{ints}
use Rattle.std.proofs.lemmas.List.Elements.{All-from_recursion, All-nil}
use Rattle.policy_tree.specs.declared.typed.Event.{Event}
use Rattle.policy_tree.specs.declared.typed.Event.TheVariants as event
use Rattle.policy_tree.specs.Meaning.{cases_on, greatest_first, least_first}
use Rattle.policy_tree.specs.Trees.{variable}
use Rattle.policy_eval.specs.Resolved.{IsAttribute, IsResolved, IsResolvedCase, IsResolvedCond, IsResolvedHandler, IsResolvedSet}
use Rattle.policy_eval.specs.Sites.{choosing, electing, filtering, stealing}
use Rattle.fair_policy.specs.Fair.{counted_use, fair_attributes}
use Rattle.row_tests.specs.BoundMet.{leaving}
use Rattle.fair_policy.proofs.ResolvedForms.{by_one_key, difference_linear, number_linear, one_more_linear, plain_case}

-- the case of tick, with its assignment
sets_resolved : All (IsResolvedSet leaving event.Tick) counted_use
sets_resolved = All-from_recursion (IsResolvedSet leaving event.Tick) counted_use
    (record { declared = omega arith; value = record { linear = one_more_linear 22; few = omega arith; allowed = (refl, tt) } }, tt)

tick_resolved : All (IsResolvedCase leaving event.Tick) (cases_on leaving.handlers event.Tick)
tick_resolved = All-from_recursion (IsResolvedCase leaving event.Tick) (cases_on leaving.handlers event.Tick)
    (record { guard = record { few = omega arith; sides = tt }; few = omega arith; sets = sets_resolved; put = tt }, tt)

handlers_resolved : (e : Event) → IsResolvedHandler leaving e
handlers_resolved event.Enqueue = record { few = omega arith; cases = plain_case leaving event.Enqueue _ tt }
handlers_resolved event.Tick = record { few = omega arith; cases = tick_resolved }
handlers_resolved event.Yield = record { few = omega arith; cases = plain_case leaving event.Yield _ tt }
handlers_resolved event.Block = record { few = omega arith; cases = plain_case leaving event.Block _ tt }

attribute_resolved : All IsAttribute fair_attributes
attribute_resolved = All-from_recursion IsAttribute fair_attributes
    (record { low = omega (arith, ints); from_low = omega (arith, ints); to_high = omega (arith, ints); high = omega (arith, ints) }, tt)

filter_resolved : IsResolvedCond leaving filtering leaving.filter
filter_resolved = record {
  few = omega arith;
  sides = (
    (
      (record { linear = tt; few = omega arith; allowed = refl }, record { linear = number_linear 0 (omega arith); few = omega arith; allowed = tt }),
      (record { linear = tt; few = omega arith; allowed = refl }, record { linear = number_linear 2 (omega arith); few = omega arith; allowed = tt }),
    ),
    (
      (record { linear = tt; few = omega arith; allowed = refl }, record { linear = number_linear 3 (omega arith); few = omega arith; allowed = tt }),
      (
        record { linear = difference_linear 3 1; few = omega arith; allowed = (refl, refl) },
        record { linear = number_linear 8 (omega arith); few = omega arith; allowed = tt },
      ),
    ),
  );
}

pub leaving_resolved : IsResolved leaving
leaving_resolved = record {
  load = record { positive = omega arith; ordered = omega arith; small = omega arith };
  core_attrs = record { few = omega arith; each = All-nil _ };
  thread_attrs = record { few = omega arith; each = attribute_resolved };
  place = record { linear = tt; few = omega arith; allowed = refl };
  elect = by_one_key leaving electing (least_first (variable 22)) (record { linear = tt; few = omega arith; allowed = refl });
  handlers = handlers_resolved;
  filter = filter_resolved;
  choose = by_one_key leaving choosing (greatest_first (variable 3)) (record { linear = tt; few = omega arith; allowed = refl });
  steal = by_one_key leaving stealing (greatest_first (variable 4)) (record { linear = tt; few = omega arith; allowed = refl });
  batch = tt;
}
