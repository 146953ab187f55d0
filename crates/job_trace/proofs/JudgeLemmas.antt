-- What is answered to one line is what its words are.
use Rattle.std.proofs.Common.{◌≡◌, ◌∙◌, ℕ, ◌≤◌, Bool, true, false, cond, List, Option, Some, None, Result, Ok, Err, ap, refl, sym, subst}
use Rattle.std.specs.Prelude.{ℤ}
use Rattle.sched_base.specs.declared.limits.TheConstants.{MAX_CORES}
use Rattle.job_trace.specs.declared.fault.TraceFault.{TraceFault}
use Rattle.job_trace.specs.declared.fault.TraceFault.TheVariants.{BadLine, Twice}
use Rattle.job_trace.specs.declared.trace.TraceLine.{TraceLine}
use Rattle.job_trace.specs.declared.trace.Numbered.{Numbered}
use Rattle.job_trace.specs.Forms.{SpellsLine}
use Rattle.job_trace.specs.Rules.{MayFollow, cores_of, first_passed, is_given, may_stand, measures}
use Rattle.job_trace.specs.Faults.{Breaks, no_form, other_kind, past_range, given_before}
use Rattle.job_trace.specs.Code.Steps.{form_of, formed, judged, measured, once, ranged_line}
use Rattle.job_trace.proofs.FormLemmas.{form-spelt, spelt-form}
use Rattle.job_trace.proofs.KeptLemmas.{kept-stands, kept_line, keeps-line}

-- the line may stand there, or breaks that rule
abbrev pub IsVerdict : List Numbered → ℕ → List (List ℕ) → Result TraceLine TraceFault → Type 0
IsVerdict front number line (Ok form) = SpellsLine line form × MayFollow front form
IsVerdict front number line (Err fault) = Breaks front number line fault

-- lines behind a front of few cores
module _ (front : List Numbered) (few : cores_of front ≤ MAX_CORES) (number : ℕ) (line : List (List ℕ)) where
  pub judged-verdict : IsVerdict front number line (judged front number line)
  unfolding judged
  judged-verdict = has_form (form_of line) refl
    where
      given : (whole : TraceLine) → SpellsLine line whole → may_stand front whole ≡ true →
          first_passed (measures (cores_of front) whole) ≡ None → (b : Bool) → is_given front whole ≡ b →
          IsVerdict front number line (cond b (Err (Twice number)) (Ok whole))
      given whole spells stands inside true e = given_before whole spells stands inside e
      given whole spells stands inside false e = (spells, record { kind = stands; within = inside; once = e })

      within : (whole : TraceLine) → SpellsLine line whole → may_stand front whole ≡ true →
          (end : Option ℤ) → first_passed (measures (cores_of front) whole) ≡ end →
          IsVerdict front number line (once front number (ranged_line number (kept_line whole) end))
      within whole spells stands None e =
          let keeps = keeps-line (cores_of front) few whole in
          subst (λ (l : TraceLine). IsVerdict front number line (once front number (Ok l))) (sym (keeps.stays e))
          (given whole spells stands e (is_given front whole) refl)
      within whole spells stands (Some end) e = past_range whole spells stands e

      stands_there : (whole : TraceLine) → SpellsLine line whole → (b : Bool) → may_stand front whole ≡ b →
          IsVerdict front number line (cond b (once front number (measured number (cores_of front) (kept_line whole))) (Err (BadLine number)))
      stands_there whole spells true e =
          let keeps = keeps-line (cores_of front) few whole in
          subst (λ (o : Option ℤ). IsVerdict front number line (once front number (ranged_line number (kept_line whole) o))) (sym keeps.passes)
          (within whole spells e (first_passed (measures (cores_of front) whole)) refl)
      stands_there whole spells false e = other_kind whole spells e

      has_form : (o : Option TraceLine) → form_of line ≡ o → IsVerdict front number line (formed front number o)
      has_form None e = no_form (λ form spells. let clash = sym e ∙ spelt-form line form spells in cc)
      has_form (Some form) e =
          let spelt = form-spelt line form e in
          subst (λ (l : TraceLine). IsVerdict front number line (formed front number (Some l))) spelt.is
          (subst (λ (b : Bool). IsVerdict front number line (cond b (once front number (measured number (cores_of front) (kept_line spelt.whole))) (Err (BadLine number))))
          (sym (kept-stands front spelt.whole)) (stands_there spelt.whole spelt.spells (may_stand front spelt.whole) refl))

  -- what is answered to a line that is spelt
  judged-spelt : (whole : TraceLine) → SpellsLine line whole → judged front number line ≡ formed front number (Some (kept_line whole))
  unfolding judged
  judged-spelt whole spells = ap (formed front number) (spelt-form line whole spells)

  within-answer : (whole : TraceLine) → first_passed (measures (cores_of front) whole) ≡ None →
      measured number (cores_of front) (kept_line whole) ≡ Ok whole
  within-answer whole inside =
      let keeps = keeps-line (cores_of front) few whole in
      ap (ranged_line number (kept_line whole)) (keeps.passes ∙ inside) ∙ ap (λ l. Ok l) (keeps.stays inside)

  -- a line that is spelt and may follow is taken
  pub judged-ok : (whole : TraceLine) → SpellsLine line whole → MayFollow front whole → judged front number line ≡ Ok whole
  judged-ok whole spells may =
      judged-spelt whole spells ∙ rw (kept-stands front whole ∙ may.kind) (rw (within-answer whole may.within) (rw may.once refl))

  none-some : {X : Type 0} (o : Option X) → ((x : X) → o ≡ Some x → ⊥) → o ≡ None
  none-some None never = refl
  none-some (Some x) never = absurd (never x refl)

  never-spelt : ((form : TraceLine) → SpellsLine line form → ⊥) → (form : TraceLine) → form_of line ≡ Some form → ⊥
  never-spelt never form e = let spelt = form-spelt line form e in never spelt.whole spelt.spells

  -- a broken rule is answered
  pub judged-err : (fault : TraceFault) → Breaks front number line fault → judged front number line ≡ Err fault
  unfolding judged
  judged-err fault (no_form never) = ap (formed front number) (none-some (form_of line) (never-spelt never))
  judged-err fault (other_kind whole spells kind) = judged-spelt whole spells ∙ rw (kept-stands front whole ∙ kind) refl
  judged-err fault (past_range whole spells kind passed) =
      let keeps = keeps-line (cores_of front) few whole in
      judged-spelt whole spells ∙ rw (kept-stands front whole ∙ kind) (rw (keeps.passes ∙ passed) refl)
  judged-err fault (given_before whole spells kind inside given) =
      judged-spelt whole spells ∙ rw (kept-stands front whole ∙ kind) (rw (within-answer whole inside) (rw given refl))
