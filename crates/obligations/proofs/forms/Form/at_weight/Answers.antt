use Rattle.std.proofs.Common.{get_or, pos, arith}
use Rattle.obligations.proofs.Stored.{stored_weight, weight_fits, zero_at}
use Rattle.obligations.proofs.forms.Form.at_weight.Goals as goal

pub returns : goal.returns
returns c =
    let light = c.requires.weight in
    record {
      constant = stored_weight c.args.self.constant (get_or c.args.self.coefficients 4 (pos 0)) c.from.result c.args.weight c.from.ensures
          c.requires.small.constant (c.requires.small.coefficients 4 (omega arith)) (omega (arith, light));
      coefficients = λ v lt. zero_at c.args.self.coefficients 4 v;
    }

pub overflow_add-result : goal.overflow_add-result
overflow_add-result c =
    let light = c.requires.weight in
    weight_fits c.args.self.constant (get_or c.args.self.coefficients 4 (pos 0)) c.from.result c.args.weight c.from.ensures
    c.requires.small.constant (c.requires.small.coefficients 4 (omega arith)) (omega (arith, light))
