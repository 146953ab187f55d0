use Rattle.job_trace.proofs.GiftLemmas.{gifts-added}
use Rattle.job_trace.proofs.reading.add_line.Goals as goal

pub returns-clause-gives : goal.returns-clause-gives
returns-clause-gives c =
    gifts-added c.args.lines.now.items _ (record { number = c.args.number; line = c.in_ok-line.line }) _ _ c.requires.given c.in_ok-line.ensures.gives c.in_ok-push.ensures.items
