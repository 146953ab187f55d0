use Rattle.core_table.proofs.Calls.{give_ok}
use Rattle.core_table.proofs.steps.unmark.Goals as goal

pub fetch_sub-requires : goal.fetch_sub-requires
fetch_sub-requires c = let h = c.requires.newest in give_ok c.args.shared.now.table_id c.args.shared.now.key c.args.place.now.table_id c.args.place.now.id c.args.place.now.me c.requires.table c.args.core h.0 h.1 c.requires.core h.2 h.3
