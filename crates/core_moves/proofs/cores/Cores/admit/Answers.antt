use Rattle.std.proofs.Common.{get_or, set, ap, ◌∙◌}
use Rattle.policy_tree.specs.Meaning.{meaning_of}
use Rattle.round_model.specs.Moves.{admitted}
use Rattle.core_moves.specs.Cores.{CoresView}
use Rattle.core_moves.proofs.Shown.{shown_put}
use Rattle.core_moves.proofs.cores.Cores.admit.Goals as goal

pub returns : goal.returns
returns c p plan h m there shows =
    shown_put p plan h m c.args.self.now _ shows c.args.core there c.index_mut.result.now c.admit.new.self
    (c.index_mut.ensures.value ∙ ap (λ (v : CoresView). get_or v.cores c.args.core c.index_mut.result.now) c.self.view_is)
    (admitted (meaning_of c.args.policy.now) c.args.fresh c.args.task) c.admit.ensures
    (ap (λ (v : CoresView). let u : CoresView = record v { cores = set v.cores c.args.core c.admit.new.self } in u) c.self.view_is)
