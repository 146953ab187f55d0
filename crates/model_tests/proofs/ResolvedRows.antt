-- The basic policy is resolved.
use Rattle.std.proofs.Common.{refl, arith}
use Rattle.std.proofs.lemmas.List.Elements.{All-nil}
use Rattle.policy_tree.specs.declared.typed.Event.{Event}
use Rattle.policy_tree.specs.declared.typed.Event.TheVariants as event
use Rattle.policy_eval.specs.Resolved.{IsResolved, IsResolvedHandler}
use Rattle.policy_eval.specs.Sites.{choosing, electing, stealing}
use Rattle.fair_policy.proofs.ResolvedForms.{difference_linear, no_keys, number_linear, plain_case}
use Rattle.model_tests.specs.Policies.{basic}

basic_handlers : (e : Event) → IsResolvedHandler basic e
basic_handlers event.Enqueue = record { few = omega arith; cases = plain_case basic event.Enqueue _ tt }
basic_handlers event.Tick = record { few = omega arith; cases = plain_case basic event.Tick _ tt }
basic_handlers event.Yield = record { few = omega arith; cases = plain_case basic event.Yield _ tt }
basic_handlers event.Block = record { few = omega arith; cases = plain_case basic event.Block _ tt }

pub basic_resolved : IsResolved basic
basic_resolved = record {
  load = record { positive = omega arith; ordered = omega arith; small = omega arith };
  core_attrs = record { few = omega arith; each = All-nil _ };
  thread_attrs = record { few = omega arith; each = All-nil _ };
  place = tt;
  elect = no_keys basic electing;
  handlers = basic_handlers;
  filter = record {
    few = omega arith;
    sides = (
      record { linear = difference_linear 2 0; few = omega arith; allowed = (refl, refl) },
      record { linear = number_linear 2 (omega arith); few = omega arith; allowed = tt },
    );
  };
  choose = no_keys basic choosing;
  steal = no_keys basic stealing;
  batch = tt;
}
