use Rattle.std.proofs.Common.{rules}
use Rattle.text_forms.specs.Numbers.{number_in}
use Rattle.text_forms.proofs.numbers.number_in.Goals as goal

pub returns-then-is_decimal : goal.returns-then-is_decimal
unfolding number_in
returns-then-is_decimal c = search rules

pub returns-else-is_decimal : goal.returns-else-is_decimal
unfolding number_in
returns-else-is_decimal c = search rules
