use Rattle.std.proofs.Common.{ap, sym}
use Rattle.job_trace.specs.Rules.{gift}
use Rattle.job_trace.proofs.GiftLemmas.{again-is}
use Rattle.job_trace.proofs.given.Given.add.Goals as goal

pub returns-clause-again : goal.returns-clause-again
returns-clause-again c =
    again-is (gift c.args.word.now c.args.number c.args.name.now) (c.args.word, c.args.number, c.in_ok-name.name) c.self.inside.keys.keys _ _
    (ap (λ name. gift c.args.word.now c.args.number name) c.in_ok-name.ensures.items) (sym c.self.view_is) c.in-Ok.ensures.added
