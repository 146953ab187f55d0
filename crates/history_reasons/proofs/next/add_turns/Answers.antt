-- Core after core.
use Rattle.std.proofs.Common.{◌+◌, ap, length, subst, sym, ◌∙◌, arith}
use Rattle.std.proofs.lemmas.List.{length_push}
use Rattle.policy_tree.specs.Meaning.{meaning_of}
use Rattle.serial_steps.specs.Turns.{ActsBy, MayAdd}
use Rattle.history_reasons.specs.Next.{HaveTurns}
use Rattle.history_reasons.proofs.NextEntries.{is_over, turn_more, turn_over}
use Rattle.history_reasons.proofs.next.add_turns.Goals as goal
use Rattle.history_reasons.proofs.next.add_turns.Goals.{in-Adds+in_ok-push, in_default}

pub loop-core-preserved : goal.loop-core-preserved
loop-core-preserved c =
    let p = meaning_of c.args.policy.now in let plan = c.args.plan.now in let core = c.loop-core.core in let list = c.loop-core.next in let so_far = c.loop-core.invariant in
    elim c.match-next_step.branch [
      | in-Adds+in_ok-push w ↦ record {
        few = let few = so_far.few in omega (arith, ap length (w.next-is ∙ w.in_ok-push.ensures.ok), length_push list w.in-Adds.entry);
        turns = λ history stands.
            subst (HaveTurns p plan history (core + 1)) (sym (w.next-is ∙ w.in_ok-push.ensures.ok))
            (turn_more p plan history core list (so_far.turns history stands) w.in-Adds.entry (subst (MayAdd p plan history) w.in-Adds.is (c.next_step.ensures.legal history stands)) (subst (ActsBy core) w.in-Adds.is c.next_step.ensures.acts));
      }
      | in_default w ↦ record {
        few = let few = so_far.few in omega (arith, ap length w.next-is);
        turns = λ history stands.
            subst (HaveTurns p plan history (core + 1)) (sym w.next-is)
            (turn_over p plan history core list (so_far.turns history stands)
            (is_over c.next_step.result c.look_now-now.result w.in_default.not-Adds (c.next_step.ensures.looks history stands) history core (c.next_step.ensures.over history stands)));
      }
    ]
