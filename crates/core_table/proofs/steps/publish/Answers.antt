use Rattle.std.proofs.Common.{◌+◌, ap}
use Rattle.core_table.specs.Words.{out_mark}
use Rattle.core_table.proofs.Calls.{publish_ok}
use Rattle.core_table.proofs.steps.publish.Goals as goal

pub store-requires : goal.store-requires
store-requires c = let h = c.requires.held in publish_ok c.args.shared.now.table_id c.args.shared.now.key c.args.place.now.table_id c.args.place.now.id c.args.place.now.me c.requires.table c.args.core h.0 _ c.requires.core h.1 (ap (λ w. w + out_mark) h.2)
