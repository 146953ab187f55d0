-- What a pool ends as, where a `&mut` to one of its values was returned.
use Rattle.std.specs.Prelude.{ℕ}
use Rattle.std.specs.Borrow.{Fml, Lends, MutBor, RattleType}
use Rattle.node_pool.specs.Nodes.{Nodes, with_value}
use Rattle.node_pool.specs.contracts.Pool.{the_row}

-- once the borrow r ends, the node has the last value written through r
abbrev pub lends_value : (T : RattleType) → MutBor (Nodes T.Denot) → ℕ → MutBor T.Denot → Fml
lends_value T pool at r = Lends (the_row T) T pool r (with_value pool.now at)
