use Rattle.linear_cert.proofs.Sound.{no_solution}
use Rattle.linear_cert.proofs.laws.law_sound.Goals as goal

pub returns : goal.returns
returns c = no_solution
