use Rattle.history_reader.proofs.EachText.{one_reading}
use Rattle.history_reader.proofs.laws.law_one_reading.Goals as goal

pub returns : goal.returns
returns c = one_reading
