use Rattle.text_forms.proofs.Cutting.{lacks_before, starts_behind}
use Rattle.text_forms.proofs.fronts.front.Goals as goal

pub returns-clause-front : goal.returns-clause-front
returns-clause-front c = rw (c.split_at.ensures.front, c.front_len.ensures.len) (lacks_before c.args.byte c.args.text.now)

pub returns-clause-rest : goal.returns-clause-rest
returns-clause-rest c = rw (c.split_at.ensures.back, c.front_len.ensures.len) (starts_behind c.args.byte c.args.text.now)
