use Rattle.std.proofs.Common.{List, ◌+◌, ap, ap₂, subst, length, ◌<◌, ◌∙◌, vec_capacity, arith, ◌++◌, ◌∷◌, [], ℕ}
use Rattle.round_model.specs.declared.entry.Entry.TheVariants as entry
use Rattle.round_model.specs.After.{after, round_of}
use Rattle.round_model.proofs.Moved.{unmoved_round}
use Rattle.core_state.specs.declared.logged.Logged.{Logged}
use Rattle.core_state.specs.Logs.{logged}
use Rattle.core_moves.specs.Cores.{CoresView}
use Rattle.core_moves.proofs.Shown.{rounds_fit, shown_after, shown_begun}
use Rattle.core_moves.proofs.cores.Cores.begin.Goals as goal

pub push_reserved-requires : goal.push_reserved-requires
push_reserved-requires c =
    let some = c.requires in let h = some.next.0 in let may = some.next.1 in
    let room = rounds_fit some.policy some.plan h (after some.policy some.plan h) c.args.self.now may.are may.room in
    let rounds : length c.self.inside.rounds.items < vec_capacity c.self.inside.rounds = subst (λ (v : CoresView). length v.rounds < v.rounds_room) (Rattle.std.proofs.Common.sym c.self.view_is) room in
    omega arith

pub returns : goal.returns
returns c p plan h may =
    let e = entry.Round c.args.number in let m = after p plan h in let at = c.self.inside.entries in
    shown_after p plan h e m _ (unmoved_round p plan (round_of h) m c.args.number)
    (shown_begun p plan h m c.args.number c.args.self.now _ may.are
    (ap₂ (λ (rounds : List Logged) (room : ℕ). let u : CoresView = record { cores = c.self.inside.cores.items; rounds = rounds; entries = at + 1; start = at + 1; rounds_room = room } in u)
    c.push_reserved.ensures.items c.push_reserved.ensures.capacity
    ∙ ap (λ (v : CoresView). let u : CoresView = record v { rounds = v.rounds ++ logged v.entries e ∷ []; entries = v.entries + 1; start = v.entries + 1 } in u) c.self.view_is))
