use Rattle.core_table.proofs.Calls.{read_ok}
use Rattle.core_table.proofs.steps.read.Goals as goal

pub load-requires : goal.load-requires
load-requires c = read_ok c.args.shared.now.table_id c.args.shared.now.key c.args.place.now.table_id c.args.place.now.id c.args.place.now.me c.requires.table c.args.core c.requires.core
