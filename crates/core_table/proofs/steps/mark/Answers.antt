use Rattle.core_table.proofs.Calls.{take_ok}
use Rattle.core_table.proofs.steps.mark.Goals as goal

pub fetch_or-found-requires : goal.fetch_or-found-requires
fetch_or-found-requires c = take_ok c.args.shared.now.table_id c.args.shared.now.key c.args.place.now.table_id c.args.place.now.id c.args.place.now.me c.requires.table c.args.core c.requires.core
