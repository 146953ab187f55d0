use Rattle.std.proofs.Common.{arith}
use Rattle.std.proofs.lemmas.List.{take_rest}
use Rattle.text_forms.proofs.Cutting.{cut_at, lacks_all}
use Rattle.text_forms.proofs.fronts.cut.Goals as goal

pub returns-then-place-text : goal.returns-then-place-text
returns-then-place-text c = lacks_all c.args.byte c.args.text.now c.front_len-place.result c.front_len-place.ensures.len c.if-place-text.true

pub returns : goal.returns
returns c = rw take_rest (cut_at c.args.byte c.args.text.now c.front_len-place.result c.front_len-place.ensures.len (omega (arith, c.front_len-place.ensures.within, c.if-place-text.false)))
