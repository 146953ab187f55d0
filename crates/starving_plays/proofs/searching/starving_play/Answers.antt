use Rattle.std.proofs.Common.{◌≡◌, ℕ, IfOk, Option, None, Some, subst}
use Rattle.std.proofs.lemmas.Result.{IfOk-weaker}
use Rattle.policy_tree.specs.Meaning.{meaning_of}
use Rattle.starving_plays.specs.declared.searching.Starving.{Starving}
use Rattle.starving_plays.specs.Searches.{IsFound, IsFoundOf}
use Rattle.starving_plays.specs.Traces.{three_alike, two_alike, two_unlike}
use Rattle.starving_plays.proofs.Founds.{found}
use Rattle.starving_plays.proofs.searching.starving_play.Goals as goal

pub returns : goal.returns
returns c =
    let p = meaning_of c.args.policy.now in let weights = c.weights_of-least.ensures in
    let first = subst (λ (o : Option Starving). IsFoundOf p (two_alike p.load) o) c.in_default.is
    (subst (λ (w : ℕ × ℕ). IsFoundOf p (record { first = w.0; second = w.0; third = None }) c.in_ok-starving.field-0) weights c.in_ok-starving.ensures) in
    let second = subst (λ (o : Option Starving). IsFoundOf p (two_unlike p.load) o) c.in_default-2.is
    (subst (λ (w : ℕ × ℕ). IsFoundOf p (record { first = w.0; second = w.1; third = None }) c.in_ok-starving-2.field-0) weights c.in_ok-starving-2.ensures) in
    let third = subst (λ (w : ℕ × ℕ). IfOk c.starving_of-3.result (IsFoundOf p (record { first = w.0; second = w.0; third = Some w.0 }))) weights c.starving_of-3.ensures in
    IfOk-weaker c.starving_of-3.result (IsFoundOf p (three_alike p.load)) (IsFound p) (found p first second) third
