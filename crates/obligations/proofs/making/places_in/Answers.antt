use Rattle.std.proofs.Common.{◌≡◌, ℕ, ◌<◌, ◌||◌, ap, ◌∙◌, arith, length, get_or}
use Rattle.std.proofs.lemmas.Result.{IfOk-weaker}
use Rattle.obligations.specs.declared.placing.Places.{Places}
use Rattle.obligations.specs.Demands.{statement_seen}
use Rattle.obligations.specs.Marks.{kept_of, stays}
use Rattle.obligations.specs.Systems.{kept_below, occurs, place_of}
use Rattle.obligations.proofs.Congruent.{same_kept}
use Rattle.obligations.proofs.Made.{unmarked}
use Rattle.obligations.proofs.making.places_in.Goals as goal

pub mark_always-requires : goal.mark_always-requires
mark_always-requires c v lt = unmarked 30 v

pub returns-clause-vars : goal.returns-clause-vars
returns-clause-vars c =
    let keeps = kept_of c.mark_cases.new.marks in let kept = stays (statement_seen c.args.statement) c.args.cases.now in
    let same : (v : ℕ) → v < 30 → keeps v ≡ kept v =
    λ v lt. c.mark_cases.ensures.each v lt ∙ ap (λ b. b || occurs v c.args.cases.now) (c.mark_always.ensures v lt) in
    IfOk-weaker c.places_of.result (λ (p : Places). p.vars.items ≡ kept_below keeps 30) (λ (p : Places). p.vars.items ≡ kept_below kept 30)
    (λ p is. is ∙ same_kept keeps kept 30 same) c.places_of.ensures.vars

pub returns-clause-places : goal.returns-clause-places
returns-clause-places c =
    let keeps = kept_of c.mark_cases.new.marks in let kept = stays (statement_seen c.args.statement) c.args.cases.now in
    let same : (v : ℕ) → v < 30 → keeps v ≡ kept v =
    λ v lt. c.mark_cases.ensures.each v lt ∙ ap (λ b. b || occurs v c.args.cases.now) (c.mark_always.ensures v lt) in
    IfOk-weaker c.places_of.result (λ (p : Places). (v : ℕ) → v < 30 → get_or p.places v 0 ≡ place_of keeps v)
    (λ (p : Places). (v : ℕ) → v < 30 → get_or p.places v 0 ≡ place_of kept v)
    (λ p each v lt. each v lt ∙ ap length (same_kept keeps kept v (λ u below. same u (omega (arith, lt, below))))) c.places_of.ensures.places
