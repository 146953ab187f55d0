-- Line after line.
use Rattle.std.proofs.Common.{[], refl}
use Rattle.std.proofs.lemmas.Result.{err_from_is_err_and}
use Rattle.sched_io.proofs.PutsLemmas.{puts_none}
use Rattle.policy_answers.proofs.FirstLines.{gets_shorter, put_next, put_stops}
use Rattle.policy_answers.proofs.text_lines.put_text.Goals as goal

pub loop-left-init : goal.loop-left-init
loop-left-init g c = record { done = []; lines = refl; written = puts_none (g.S.Sink.shown c.args.out.now) }

pub loop-left-preserved : goal.loop-left-preserved
loop-left-preserved g c =
    put_next _ _ _ _ _ _ _ _ c.loop-left.invariant c.line_len.ensures c.split_at.ensures.front c.split_at.ensures.back c.in_ok-put_all.ensures

pub returns-in_err-put_all : goal.returns-in_err-put_all
returns-in_err-put_all g c =
    let fault = err_from_is_err_and c.from_residual.result c.from_residual.ensures.1 in
    rw fault.1 (put_stops _ _ _ _ _ _ _ _ c.loop-left.invariant c.line_len.ensures c.split_at.ensures.front c.split_at.ensures.back c.in_err-put_all.ensures)

pub loop-left-smaller : goal.loop-left-smaller
loop-left-smaller g c = gets_shorter _ _ _ c.line_len.ensures c.split_at.ensures.back
