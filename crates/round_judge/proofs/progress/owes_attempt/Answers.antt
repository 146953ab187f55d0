use Rattle.std.proofs.Common.{◌≡◌, Bool, true, false, not, sym, ap, ◌∙◌, refl}
use Rattle.std.proofs.lemmas.Bool.{false≢true}
use Rattle.round_judge.specs.declared.past.Turn.{Turn}
use Rattle.round_judge.proofs.Pasts.{turn_at}
use Rattle.round_judge.proofs.progress.owes_attempt.Goals as goal

pub returns-then-turn : goal.returns-then-turn
returns-then-turn c p plan history stands there =
    let same = turn_at p plan c.args.past.now history stands c.args.core c.get-turn.result.now there c.get-turn.ensures.item in
    let worked = ap (λ (t : Turn). t.worked) same in let attempted = ap (λ (t : Turn). t.attempted) same in (
      λ e. record { worked = sym worked ∙ c.if-turn.true; first = sym attempted ∙ not_true c.get-turn.result.now.attempted e },
      λ owes. ap not (attempted ∙ owes.first),
    )
  where
    not_true : (b : Bool) → not b ≡ true → b ≡ false
    not_true true e = absurd (cc)
    not_true false e = refl

pub returns-else-turn : goal.returns-else-turn
returns-else-turn c p plan history stands there =
    let same = turn_at p plan c.args.past.now history stands c.args.core c.get-turn.result.now there c.get-turn.ensures.item in
    let worked = ap (λ (t : Turn). t.worked) same in
    (λ e. absurd (false≢true (sym c.if-turn.false ∙ e)), λ owes. worked ∙ owes.worked)
