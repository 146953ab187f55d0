use Rattle.std.proofs.Common.{below_more, refl}
use Rattle.std.proofs.lemmas.Bool.{false≢true}
use Rattle.linear_cert.proofs.checker.no_term_is_left.Goals as goal

pub returns-then-not-cancels : goal.returns-then-not-cancels
returns-then-not-cancels c =
    (λ wrong. absurd (false≢true wrong), λ all. c.if-not-cancels.ensures.1 (all c.loop-variable.variable c.loop-variable-test.true))

pub loop-variable-preserved : goal.loop-variable-preserved
loop-variable-preserved c =
    below_more _ c.loop-variable.variable c.loop-variable.invariant (c.if-not-cancels.ensures.0 refl)
