use Rattle.level_tests.proofs.Owing.{compiled_owing}
use Rattle.level_tests.proofs.rows.compiled_owes.Goals as goal

pub returns : goal.returns
returns c = compiled_owing
