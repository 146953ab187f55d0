use Rattle.std.proofs.Common.{◌≡◌, get_or, set, ap, subst, ◌∙◌}
use Rattle.std.proofs.lemmas.Option.{get_or_from_slice_get}
use Rattle.policy_tree.specs.Meaning.{meaning_of}
use Rattle.round_model.specs.Work.{IsOutcomeOfWork, core_after_work}
use Rattle.core_state.specs.Views.{CoreView}
use Rattle.core_moves.specs.Code.Changes.{CanRun}
use Rattle.core_moves.specs.Cores.{CoresView}
use Rattle.core_moves.proofs.Shown.{item_here, shown_put}
use Rattle.core_moves.proofs.cores.Cores.run.Goals as goal

-- the core in its place
here : (c : goal.After-index_mut) → c.index_mut.result.now ≡ get_or c.args.self.now.cores c.args.core c.index_mut.result.now
here c = c.index_mut.ensures.value ∙ ap (λ (v : CoresView). get_or v.cores c.args.core c.index_mut.result.now) c.self.view_is

can : (c : goal.After-index_mut) → CanRun (meaning_of c.args.policy.now) c.args.plan.now c.index_mut.result.now
can c = c.requires.can c.index_mut.result.now (item_here c.args.self.now.cores c.args.core c.index_mut.result.now c.requires.core (here c))

pub work-requires-clause-order : goal.work-requires-clause-order
work-requires-clause-order c = (can c).order

pub work-requires-clause-bounds : goal.work-requires-clause-bounds
work-requires-clause-bounds c = (can c).bounds

pub work-requires-clause-bursts : goal.work-requires-clause-bursts
work-requires-clause-bursts c = (can c).bursts

pub work-requires-clause-room : goal.work-requires-clause-room
work-requires-clause-room c = (can c).room

pub returns-clause-did : goal.returns-clause-did
returns-clause-did c y at =
    let was = c.index_mut.ensures.value ∙ ap (λ (v : CoresView). get_or v.cores c.args.core c.index_mut.result.now) c.self.view_is in
    let same : c.index_mut.result.now ≡ y = was ∙ get_or_from_slice_get c.args.self.now.cores c.args.core y c.index_mut.result.now at in
    subst (λ (x : CoreView). IsOutcomeOfWork (meaning_of c.args.policy.now) c.args.plan.now c.args.round x.core c.work.result) same c.work.ensures.did

pub returns-clause-core : goal.returns-clause-core
returns-clause-core c p plan h m there shows =
    shown_put p plan h m c.args.self.now _ shows c.args.core there c.index_mut.result.now c.work.new.self
    (c.index_mut.ensures.value ∙ ap (λ (v : CoresView). get_or v.cores c.args.core c.index_mut.result.now) c.self.view_is)
    (core_after_work (meaning_of c.args.policy.now) c.args.plan.now c.args.round) c.work.ensures.core
    (ap (λ (v : CoresView). let u : CoresView = record v { cores = set v.cores c.args.core c.work.new.self } in u) c.self.view_is)
