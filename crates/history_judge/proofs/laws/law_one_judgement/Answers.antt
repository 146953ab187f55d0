use Rattle.history_judge.proofs.Judged.{one_judgement}
use Rattle.history_judge.proofs.laws.law_one_judgement.Goals as goal

pub returns : goal.returns
returns c = one_judgement
