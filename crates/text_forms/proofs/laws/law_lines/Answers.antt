use Rattle.text_forms.proofs.LineLaws.{lines_law}
use Rattle.text_forms.proofs.laws.law_lines.Goals as goal

pub returns : goal.returns
returns c = lines_law
