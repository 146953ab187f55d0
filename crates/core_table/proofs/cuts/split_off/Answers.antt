use Rattle.std.proofs.Common.{refl}
use Rattle.core_table.proofs.Calls.{split_ok}
use Rattle.core_table.proofs.cuts.split_off.Goals as goal

pub cut-requires : goal.cut-requires
cut-requires c = record {
  table = c.requires.table;
  picked = (refl, refl);
  rule = split_ok c.args.shared.now.table_id c.args.shared.now.key c.args.place.now.table_id c.args.place.now.id c.args.place.now.me c.requires.table c.args.core c.requires.idle c.requires.round;
}
