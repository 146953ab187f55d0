-- Round after round.
use Rattle.std.proofs.Common.{suc, None, Some, sym, subst, arith, add-one}
use Rattle.std.proofs.lemmas.Option.{slice_get-get_or}
use Rattle.sched_report.specs.Code.Runs.{AreRunsSoFar}
use Rattle.sched_report.proofs.RunLemmas.{runs_at_end, step_closed, step_open}
use Rattle.sched_report.proofs.stretches.stretches_of.Goals as goal

pub loop-at-preserved-then-not-still-at : goal.loop-at-preserved-then-not-still-at
loop-at-preserved-then-not-still-at c =
    let flags = c.args.still.now in let rounds = c.args.rounds.now in let at = c.loop-at.at in
    subst (λ n. AreRunsSoFar flags rounds n c.close.new.done None) (sym (add-one at))
    (step_closed flags rounds at c.loop-at.done c.close.new.done c.loop-at.current c.loop-at.invariant c.in_ok-close.ensures c.if-not-still-at.true)

pub loop-at-preserved : goal.loop-at-preserved
loop-at-preserved c =
    let flags = c.args.still.now in let rounds = c.args.rounds.now in let at = c.loop-at.at in
    subst (λ n. AreRunsSoFar flags rounds n c.loop-at.done (Some c.grown.result)) (sym (add-one at))
    (subst (λ row. AreRunsSoFar flags rounds (suc at) c.loop-at.done (Some row)) (sym c.grown.ensures)
    (step_open flags rounds at _ c.requires.numbered (slice_get-get_or rounds at _ c.loop-at-test.true) c.if-not-still-at.false c.loop-at.done c.loop-at.current c.loop-at.invariant))

pub returns : goal.returns
returns c =
    runs_at_end c.args.still.now c.args.rounds.now c.loop-at.at c.loop-at.done c.close-2.new.done c.loop-at.current c.loop-at.invariant c.in_ok-close-2.ensures (let flags = c.requires.flags in omega arith)
