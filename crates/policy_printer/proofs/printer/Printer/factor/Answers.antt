use Rattle.std.proofs.Common.{arith, codes}
use Rattle.policy_printer.specs.Adds.{Adds}
use Rattle.policy_printer.specs.ExpressionTexts.{operand_texts}
use Rattle.policy_printer.proofs.AddsLemmas.{◌⊳◌, one_sign, all_signs, on_ok}
use Rattle.policy_printer.proofs.printer.Printer.factor.Goals as goal

pub loop-sign-preserved : goal.loop-sign-preserved
loop-sign-preserved c = one_sign c.loop-sign._sign c.loop-sign.invariant c.in_ok-word.ensures

pub returns : goal.returns
returns c =
    let end = c.loop-sign.auto._sign-end in
    let signs = all_signs (codes "-") c.loop-sign._sign c.args.factor.now.signs (omega arith) c.loop-sign.invariant in
    on_ok c.operand.result
    (λ (last : Adds (operand_texts c.args.factor.now.operand) c.loop-sign.self.bytes.items c.operand.new.self.bytes.items). signs ⊳ last) c.operand.ensures
