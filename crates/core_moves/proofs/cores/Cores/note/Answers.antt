use Rattle.std.proofs.Common.{List, ◌+◌, ap, ◌∙◌, subst, vec_capacity}
use Rattle.std.proofs.lemmas.List.{with_items_is}
use Rattle.core_state.specs.Views.{CoreView}
use Rattle.core_moves.specs.Code.Changes.{AreNoted}
use Rattle.core_moves.specs.Cores.{CoresView}
use Rattle.core_moves.proofs.Shown.{shown_noted}
use Rattle.core_moves.proofs.cores.Cores.note.Goals as goal

pub returns : goal.returns
returns c p plan h m shows =
    let e = c.args.entry.now in let cores = c.note_all.new.cores in
    let noted = subst (λ (list : List CoreView). AreNoted c.self.inside.entries e list cores) c.as_mut_slice.ensures.value c.note_all.ensures in
    shown_noted p plan h m e c.requires.kind c.args.self.now _ cores shows
    (subst (λ (v : CoresView). AreNoted v.entries e v.cores cores) c.self.view_is noted)
    (ap (λ (list : List CoreView). let u : CoresView = record { cores = list; rounds = c.self.inside.rounds.items; entries = c.self.inside.entries + 1; start = c.self.inside.start; rounds_room = vec_capacity c.self.inside.rounds } in u)
    (with_items_is c.self.inside.cores cores (c.note_all.ensures.len ∙ c.as_mut_slice.ensures.len))
    ∙ ap (λ (v : CoresView). let u : CoresView = record v { cores = cores; entries = v.entries + 1 } in u) c.self.view_is)
