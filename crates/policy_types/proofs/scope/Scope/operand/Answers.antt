-- Signs are big where their number is.
use Rattle.std.proofs.Common.{arith}
use Rattle.std.proofs.lemmas.Result.{err_from_is_err_and}
use Rattle.policy_types.proofs.Signs.{operand_first, operand_small, operand_sound, reference_first, reference_small, reference_sound}
use Rattle.policy_types.proofs.scope.Scope.operand.Goals as goal

pub returns-then-value-clause-small : goal.returns-then-value-clause-small
returns-then-value-clause-small c = operand_small c.args.self.now c.args.site c.args.factor.now c.in-Number.value c.in-Number.is c.if-value.true

pub returns-then-value-clause-sound : goal.returns-then-value-clause-sound
returns-then-value-clause-sound c = operand_sound c.args.self.now c.args.site c.args.factor.now c.in-Number.value c.in-Number.is c.if-value.true

pub returns-else-value-clause-fault : goal.returns-else-value-clause-fault
returns-else-value-clause-fault c =
    operand_first c.args.self.now c.args.site c.args.factor.now c.in-Number.value c.in-Number.is (omega arith) c.if-value.false

pub returns-in_err-reference_at-in-Reference-clause-fault : goal.returns-in_err-reference_at-in-Reference-clause-fault
returns-in_err-reference_at-in-Reference-clause-fault c =
    let p = err_from_is_err_and c.from_residual.result c.from_residual.ensures.1 in
    rw (p.1, p.2)
    (reference_first c.args.self.now c.args.site c.args.factor.now c.in-Reference.owner c.in-Reference.word c.saturating_add-at.result c.in-Reference.is (omega arith)
    c.in_err-reference_at-in-Reference.field-0.0 c.in_err-reference_at-in-Reference.ensures.fault)

pub returns-in_ok-reference_at-in-Reference-clause-small : goal.returns-in_ok-reference_at-in-Reference-clause-small
returns-in_ok-reference_at-in-Reference-clause-small c =
    reference_small c.args.self.now c.args.site c.args.factor.now c.in-Reference.owner c.in-Reference.word c.saturating_add-at.result c.in-Reference.is (omega arith)

pub returns-in_ok-reference_at-in-Reference-clause-sound : goal.returns-in_ok-reference_at-in-Reference-clause-sound
returns-in_ok-reference_at-in-Reference-clause-sound c =
    reference_sound c.args.self.now c.args.site c.args.factor.now c.in-Reference.owner c.in-Reference.word c.saturating_add-at.result c.in-Reference.is (omega arith)
    c.in_ok-reference_at-in-Reference.ensures.sound
