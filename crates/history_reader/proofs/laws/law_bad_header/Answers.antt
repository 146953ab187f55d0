use Rattle.history_reader.proofs.EachText.{bad_header}
use Rattle.history_reader.proofs.laws.law_bad_header.Goals as goal

pub returns : goal.returns
returns c = bad_header
