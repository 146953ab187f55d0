use Rattle.core_table.proofs.Calls.{tell_ok}
use Rattle.core_table.proofs.cuts.tell.Goals as goal

pub load-requires : goal.load-requires
load-requires c = tell_ok c.args.shared.now.table_id c.args.shared.now.key c.args.place.now.table_id c.args.place.now.id c.args.place.now.me c.requires.table
