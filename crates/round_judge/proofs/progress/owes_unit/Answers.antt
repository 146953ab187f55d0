use Rattle.std.proofs.Common.{◌≡◌, Bool, true, false, not, is_some, sym, ap, ◌∙◌, refl}
use Rattle.round_model.specs.declared.state.Blocked.{Blocked}
use Rattle.round_model.specs.After.{after, round_of}
use Rattle.round_model.specs.Scenes.{waking_next}
use Rattle.round_model.proofs.Judging.{is_some-map}
use Rattle.round_judge.specs.declared.past.Turn.{Turn}
use Rattle.round_judge.proofs.Pasts.{turn_at}
use Rattle.round_judge.proofs.progress.owes_unit.Goals as goal

pub returns-then-is_none : goal.returns-then-is_none
returns-then-is_none c p plan history stands there =
    let same = turn_at p plan c.args.past.now history stands c.args.core c.get.result.now there c.get.ensures.item in
    let worked = ap (λ (t : Turn). t.worked) same in
    let found = waking_next (round_of history) (after p plan history c.args.core) in
    let none = sym (is_some-map (λ (b : Blocked). b.task.id) found) ∙ (ap is_some (sym (c.waking.ensures p plan history stands there)) ∙ (c.is_none.ensures ∙ ap not c.if-is_none.true)) in
    (λ e. record { woken = none; first = sym worked ∙ not_true c.get.result.now.worked e }, λ owes. ap not (worked ∙ owes.first))
  where
    not_true : (b : Bool) → not b ≡ true → b ≡ false
    not_true true e = absurd (cc)
    not_true false e = refl
