use Rattle.std.proofs.Common.{ap}
use lib.ListN.{get_elem?}
use Rattle.core_calls.proofs.finishing.finish.Goals as goal

pub publish-requires-clause-held : goal.publish-requires-clause-held
publish-requires-clause-held c = let one = c.draw_one-at.ensures.held in record { place = 0; of = one.of; there = ap (λ l. get_elem? l 0) one.held; core = one.core; state = one.state }
