use Rattle.std.proofs.Common.{ap, arith, length}
use Rattle.obligations.specs.Names.{ob_names}
use Rattle.obligations.proofs.making.obligations_of.Goals as goal

pub from_vec-requires : goal.from_vec-requires
unfolding ob_names
from_vec-requires c =
    let few = c.loop-name.invariant.few in let end = c.loop-name.auto.name-index-end in let names = ap length c.ob_names-name-items.ensures in
    omega (arith, few, end, names)
