use Rattle.std.proofs.Common.{sym, ap, ◌∙◌}
use Rattle.node_pool.specs.Nodes.{free_of}
use Rattle.node_pool.proofs.FreeLines.{lined_free}
use Rattle.node_pool.proofs.Pool.free.Goals as goal

pub returns : goal.returns
returns g c =
    sym (ap free_of (sym c.self.view_is) ∙ lined_free c.self.inside.nodes.items c.self.inside.first c.self.inside.free c.self.invariant)
