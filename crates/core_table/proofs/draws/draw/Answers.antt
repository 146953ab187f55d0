use Rattle.core_table.proofs.Calls.{draw_ok}
use Rattle.core_table.proofs.draws.draw.Goals as goal

pub advance-requires : goal.advance-requires
advance-requires c = record {
  table = c.requires.table;
  picked = λ st old n new. ((λ d. d), λ d. d);
  rule = draw_ok c.args.shared.now.table_id c.args.shared.now.key c.args.place.now.table_id c.args.place.now.id c.args.place.now.me c.requires.table c.args.entry.now c.requires.actor c.requires.touched c.requires.legal;
}
