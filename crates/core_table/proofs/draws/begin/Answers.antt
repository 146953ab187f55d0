use Rattle.core_table.proofs.Calls.{begin_ok}
use Rattle.core_table.proofs.draws.begin.Goals as goal

pub open_round-requires : goal.open_round-requires
open_round-requires c = record {
  table = c.requires.table;
  picked = λ st old n new. ((λ d. d), λ d. d);
  rule = begin_ok c.args.shared.now.table_id c.args.shared.now.key c.args.place.now.table_id c.args.place.now.id c.args.place.now.me c.requires.table c.args.number c.requires.back c.requires.alone c.requires.may;
}
