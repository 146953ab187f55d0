use Rattle.std.proofs.Common.{◌<◌, List, length, sym, ap, ◌∙◌, subst, vec_capacity}
use Rattle.std.proofs.lemmas.List.{with_items_is}
use Rattle.policy_tree.specs.Meaning.{meaning_of}
use Rattle.core_state.specs.Views.{CoreView}
use Rattle.batch_moves.specs.Sides.{MayTake}
use Rattle.batch_moves.proofs.Reached.{consts_are}
use Rattle.core_moves.specs.Code.Steals.{HoldsOfTwo, TakesBetween}
use Rattle.core_moves.specs.Cores.{CoresView}
use Rattle.core_moves.proofs.Seeing.{in_sight}
use Rattle.core_moves.proofs.Stealing.{may_take_two, shown_over, threads_are}
use Rattle.core_moves.proofs.cores.Cores.steal.Goals as goal

pub take_between-requires-clause-there : goal.take_between-requires-clause-there
take_between-requires-clause-there c =
    let p = meaning_of c.args.policy.now in let plan = c.args.plan.now in let v = c.args.self.now in
    let same = c.as_mut_slice-cores.ensures.value ∙ ap (λ (v : CoresView). v.cores) c.self.view_is in
    subst (λ (list : List CoreView). (c.args.core < length list) × (c.args.victim < length list)) (sym same)
    (in_sight p plan v c.requires.reached c.args.core c.requires.core, in_sight p plan v c.requires.reached c.args.victim c.requires.victim)

pub take_between-requires-clause-may : goal.take_between-requires-clause-may
take_between-requires-clause-may c =
    let p = meaning_of c.args.policy.now in let plan = c.args.plan.now in let v = c.args.self.now in
    let same = c.as_mut_slice-cores.ensures.value ∙ ap (λ (v : CoresView). v.cores) c.self.view_is in
    subst (λ (list : List CoreView). HoldsOfTwo list c.args.core c.args.victim (MayTake p)) (sym same)
    (may_take_two p plan v c.args.core c.args.victim c.requires.core c.requires.victim c.requires.apart c.requires.fits c.requires.handlers c.requires.reached)

pub returns-clause-threads : goal.returns-clause-threads
returns-clause-threads c h are =
    let p = meaning_of c.args.policy.now in let plan = c.args.plan.now in let v = c.args.self.now in let a = c.args.core in let b = c.args.victim in
    let own = c.get-own.result.now in let other = c.get-other.result.now in let threads = c.take_between.result in let cores = c.take_between.new.cores in
    let same = c.as_mut_slice-cores.ensures.value ∙ ap (λ (v : CoresView). v.cores) c.self.view_is in
    threads_are p plan v a b c.requires.core c.requires.victim c.requires.apart own other threads cores
    (subst (λ (list : List CoreView). TakesBetween p own other a b threads list cores) same c.take_between.ensures.taken)
    (consts_are plan a own c.get-own.ensures.item) (consts_are plan b other c.get-other.ensures.item) h are

pub returns-clause-cores : goal.returns-clause-cores
returns-clause-cores c h m shows =
    let p = meaning_of c.args.policy.now in let plan = c.args.plan.now in let v = c.args.self.now in let a = c.args.core in let b = c.args.victim in
    let own = c.get-own.result.now in let other = c.get-other.result.now in let threads = c.take_between.result in let cores = c.take_between.new.cores in
    let same = c.as_mut_slice-cores.ensures.value ∙ ap (λ (v : CoresView). v.cores) c.self.view_is in
    shown_over p plan v a b c.requires.core c.requires.victim c.requires.apart own other threads cores
    (subst (λ (list : List CoreView). TakesBetween p own other a b threads list cores) same c.take_between.ensures.taken) _
    (ap (λ (list : List CoreView). let u : CoresView = record { cores = list; rounds = c.self.inside.rounds.items; entries = c.self.inside.entries; start = c.self.inside.start; rounds_room = vec_capacity c.self.inside.rounds } in u)
    (with_items_is c.self.inside.cores cores (c.take_between.ensures.len ∙ c.as_mut_slice-cores.ensures.len))
    ∙ ap (λ (v : CoresView). let u : CoresView = record v { cores = cores } in u) c.self.view_is)
    h m shows
