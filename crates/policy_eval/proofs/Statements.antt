-- The statements of a policy are its balance obligations and its handler obligations.
use Rattle.std.proofs.Common.{arith}
use Rattle.std.proofs.lemmas.List.Elements.{All-from_recursion}
use Rattle.policy_tree.specs.declared.typed.Event.{Event}
use Rattle.policy_tree.specs.declared.typed.Event.TheVariants as event
use Rattle.policy_tree.specs.Meaning.{Meaning}
use Rattle.policy_eval.specs.Obligations.{IsMet, MeetsBalanceObligations, MeetsHandlerObligations, MeetsObligations, NoGap, NoOverlap, idle_sees_overloaded, statements_of}

module _ (p : Meaning) where
  pub balance_obligations : MeetsObligations p → MeetsBalanceObligations p
  unfolding statements_of
  balance_obligations all = record {
    idle_sees_overloaded = all 0 idle_sees_overloaded (omega arith);
    victim_is_overloaded = all 1 idle_sees_overloaded (omega arith);
    move_narrows_gap = all 2 idle_sees_overloaded (omega arith);
    further_move_narrows_gap = all 3 idle_sees_overloaded (omega arith);
  }

  overlaps : MeetsObligations p → (e : Event) → NoOverlap p e
  unfolding statements_of
  overlaps all event.Enqueue = all 4 idle_sees_overloaded (omega arith)
  overlaps all event.Tick = all 6 idle_sees_overloaded (omega arith)
  overlaps all event.Yield = all 8 idle_sees_overloaded (omega arith)
  overlaps all event.Block = all 10 idle_sees_overloaded (omega arith)

  gaps : MeetsObligations p → (e : Event) → NoGap p e
  unfolding statements_of
  gaps all event.Enqueue = all 5 idle_sees_overloaded (omega arith)
  gaps all event.Tick = all 7 idle_sees_overloaded (omega arith)
  gaps all event.Yield = all 9 idle_sees_overloaded (omega arith)
  gaps all event.Block = all 11 idle_sees_overloaded (omega arith)

  pub handler_obligations : MeetsObligations p → MeetsHandlerObligations p
  handler_obligations all = record { no_overlap = overlaps all; no_gap = gaps all }

  pub all_obligations : MeetsBalanceObligations p → MeetsHandlerObligations p → MeetsObligations p
  unfolding statements_of
  all_obligations balance handlers =
      All-from_recursion (IsMet p) (statements_of p) (
        balance.idle_sees_overloaded,
        (
          balance.victim_is_overloaded,
          (
            balance.move_narrows_gap,
            (
              balance.further_move_narrows_gap,
              (
                handlers.no_overlap event.Enqueue,
                (
                  handlers.no_gap event.Enqueue,
                  (
                    handlers.no_overlap event.Tick,
                    (
                      handlers.no_gap event.Tick,
                      (handlers.no_overlap event.Yield, (handlers.no_gap event.Yield, (handlers.no_overlap event.Block, (handlers.no_gap event.Block, tt)))),
                    ),
                  ),
                ),
              ),
            ),
          ),
        ),
      )
