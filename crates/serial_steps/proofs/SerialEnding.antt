-- How serial play comes to an end: the turns, the rounds, and the whole.
use Rattle.std.proofs.Common.{◌≡◌, ℕ, zero, suc, ◌+◌, ◌-◌, ◌<◌, ◌≤◌, ltb, Bool, true, false, List, [], ◌∷◌, ◌++◌, fold, length, replicate, refl, sym, ap, subst, ◌∙◌, arith}
use Rattle.std.proofs.lemmas.Bool.Decides.{nat_tests}
use Rattle.std.proofs.lemmas.List.{length-append}
use Rattle.std.proofs.lemmas.List.Sums.{fold-append}
use Rattle.policy_tree.specs.Meaning.{Meaning}
use Rattle.policy_eval.specs.Obligations.{MeetsHandlerObligations}
use Rattle.round_model.specs.declared.entry.Entry.{Entry}
use Rattle.round_model.specs.declared.entry.Entry.TheVariants as entry
use Rattle.round_model.specs.declared.plan.Plan.{Plan}
use Rattle.round_model.specs.Fits.{Fits}
use Rattle.round_model.specs.Legal.{IsComplete, IsDue, Legal, LegalNext, is_due, rounds_begun}
use Rattle.round_model.specs.Owed.{owed_total}
use Rattle.round_model.proofs.Histories.{due_within}
use Rattle.round_model.proofs.OwedBounds.{owed_bound}
use Rattle.serial_steps.specs.Serial.{SerialState, step_of}
use Rattle.serial_steps.specs.SerialEnds.{EndsWhole, IsFull, RoundFits, StopsFull, most_entries}
use Rattle.serial_steps.specs.SerialRounds.{serial_rounds, with_round}
use Rattle.serial_steps.proofs.SerialWholes.{due_number, not_due_stays, round_played}
use Rattle.serial_steps.proofs.SerialWholes.{serial_more, serial_rounds_law, serial_stays}

pub replicate_both : (m n a : ℕ) → replicate (m + n) a ≡ replicate m a ++ replicate n a
replicate_both zero n a = ap (λ (k : ℕ). replicate k a) (omega arith)
replicate_both (suc m) n a = let more : suc m + n ≡ suc (m + n) = omega arith in ap (λ (k : ℕ). replicate k a) more ∙ ap (λ (rest : List ℕ). a ∷ rest) (replicate_both m n a)

pub replicate_more : (n a : ℕ) → replicate (n + 1) a ≡ replicate n a ++ a ∷ []
replicate_more n a = replicate_both n 1 a

-- where one step of the core is none, so are all that follow it
pub rest_stays : (p : Meaning) (plan : Plan) (a : ℕ) (s : SerialState) (at most : ℕ) → at ≤ most → step_of p plan (fold (step_of p plan) s (replicate at a)) a ≡ fold (step_of p plan) s (replicate at a)
    → fold (step_of p plan) s (replicate most a) ≡ fold (step_of p plan) s (replicate at a)
rest_stays p plan a s at most few over =
    let rest = most - at in
    let all : replicate most a ≡ replicate at a ++ replicate rest a =
    ap (λ (n : ℕ). replicate n a) (let sum : most ≡ at + rest = omega arith in sum) ∙ replicate_both at rest a in
    ap (fold (step_of p plan) s) all ∙ (fold-append (step_of p plan) s (replicate at a) (replicate rest a) ∙ stays (fold (step_of p plan) s (replicate at a)) rest over)
  where
    stays : (t : SerialState) (n : ℕ) → step_of p plan t a ≡ t → fold (step_of p plan) t (replicate n a) ≡ t
    stays t zero is = refl
    stays t (suc n) is = ap (λ (x : SerialState). fold (step_of p plan) x (replicate n a)) is ∙ stays t n is

-- a round that fits isn't one too many
pub fits_not_full : (plan : Plan) (h g : List Entry) → h ≡ g → RoundFits plan (length h) → IsFull plan g → ⊥
fits_not_full plan h g same room full = let over = full.full in absurd (omega (arith, ap length same))

module _ (p : Meaning) (plan : Plan) (fits : Fits p plan) (handlers : MeetsHandlerObligations p) where
  -- the next round is legal where it is due
  pub round_legal : (k : ℕ) (h : List Entry) → h ≡ serial_rounds p plan k → IsDue plan h → LegalNext p plan h (entry.Round (k + 1))
  unfolding LegalNext
  round_legal k h serial due =
      let rounds = serial_rounds_law p plan k fits handlers in
      let all = due_number p plan k fits handlers (ap (is_due plan) (sym serial) ∙ due) in
      record {
        complete = subst (λ (g : List Entry). IsComplete plan g) (sym serial) rounds.complete;
        due = due;
        next = let count = ap rounds_begun serial in omega (arith, all, count);
      }

  -- and all that it may add fits behind its beginning
  pub round_room : (h : List Entry) (number : ℕ) → Legal p plan (h ++ entry.Round number ∷ []) → RoundFits plan (length h) → length (h ++ entry.Round number ∷ []) + owed_total p plan (h ++ entry.Round number ∷ []) ≤ plan.limit
  round_room h number legal room =
      let few = owed_bound p plan (h ++ entry.Round number ∷ []) fits handlers legal in
      omega (arith, length-append h (entry.Round number ∷ []))

  -- behind the last round of the plan none is due
  pub rounds_over : (k : ℕ) (h : List Entry) → h ≡ serial_rounds p plan k → plan.rounds ≤ k → is_due plan h ≡ false
  rounds_over k h serial all = by_due (is_due plan h) refl
    where
      by_due : (b : Bool) → is_due plan h ≡ b → b ≡ false
      by_due false none = refl
      by_due true due =
          let begun = due_number p plan k fits handlers (ap (is_due plan) (sym serial) ∙ due) in
          let few = due_within plan h due in
          absurd (omega (arith, ap rounds_begun serial, begun))

  -- as long as each round fits the plan's limit, so does the history
  rounds_within : (k : ℕ) → ((j : ℕ) → j < k → IsFull plan (serial_rounds p plan j) → ⊥) → length (serial_rounds p plan k) ≤ plan.limit
  rounds_within zero fitted = omega arith
  rounds_within (suc k) fitted =
      let h = serial_rounds p plan k in
      let before = rounds_within k (λ j below. fitted j (omega arith)) in
      let next : suc k ≡ k + 1 = omega arith in
      let is : serial_rounds p plan (suc k) ≡ with_round p plan h (k + 1) = ap (serial_rounds p plan) next ∙ serial_more p plan k in
      subst (λ (g : List Entry). length g ≤ plan.limit) (sym is) (elim (is_due plan h) as (λ b. is_due plan h ≡ b → length (with_round p plan h (k + 1)) ≤ plan.limit) [
        | false ↦ λ none. subst (λ (g : List Entry). length g ≤ plan.limit) (sym (not_due_stays p plan h (k + 1) none)) before
        | true ↦ λ due.
            let rounds = serial_rounds_law p plan k fits handlers in
            let all = due_number p plan k fits handlers due in
            let played = round_played p plan fits handlers h (k + 1) rounds.legal rounds.complete due (omega (arith, all)) in
            let more = played.few in
            elim (ltb plan.limit (length h + most_entries plan)) as (λ b. ltb plan.limit (length h + most_entries plan) ≡ b → length (with_round p plan h (k + 1)) ≤ plan.limit) [
              | true ↦ λ e. absurd (fitted k (omega arith) (record { due = due; full = grind (arith, nat_tests) }))
              | false ↦ λ e. let room : length h + most_entries plan ≤ plan.limit = grind (arith, nat_tests) in omega arith
            ] refl
      ] refl)

  within_limit : (k : ℕ) (h : List Entry) → h ≡ serial_rounds p plan k → ((j : ℕ) → j < k → IsFull plan (serial_rounds p plan j) → ⊥) → length h ≤ plan.limit
  within_limit k h serial fitted = subst (λ (g : List Entry). length g ≤ plan.limit) (sym serial) (rounds_within k fitted)

  -- serial play came to its end
  pub ended_whole : (k : ℕ) (h : List Entry) → k ≤ plan.rounds → h ≡ serial_rounds p plan k → is_due plan h ≡ false → ((j : ℕ) → j < k → IsFull plan (serial_rounds p plan j) → ⊥) → EndsWhole p plan h
  ended_whole k h within serial none fitted =
      let rounds = serial_rounds_law p plan k fits handlers in
      let stopped : is_due plan (serial_rounds p plan k) ≡ false = ap (is_due plan) (sym serial) ∙ none in
      record {
        serial = let whole : k + (plan.rounds - k) ≡ plan.rounds = omega arith in serial ∙ (sym (serial_stays p plan k stopped (plan.rounds - k)) ∙ ap (serial_rounds p plan) whole);
        whole = record { legal = subst (Legal p plan) (sym serial) rounds.legal; complete = subst (λ (g : List Entry). IsComplete plan g) (sym serial) rounds.complete; finished = none };
        few = within_limit k h serial fitted;
        fitted = λ j full. elim (ltb j k) as (λ b. ltb j k ≡ b → ⊥) [
          | true ↦ λ e. fitted j (grind (arith, nat_tests)) full
          | false ↦ λ e. let late : k ≤ j = grind (arith, nat_tests) in
              let parts : j ≡ k + (j - k) = omega arith in
              let same : serial_rounds p plan j ≡ serial_rounds p plan k = ap (serial_rounds p plan) parts ∙ serial_stays p plan k stopped (j - k) in
              let due = full.due in
              let not_due : is_due plan (serial_rounds p plan j) ≡ false = ap (is_due plan) same ∙ stopped in absurd (cc)
        ] refl;
      }

  -- serial play stopped
  pub stopped_full : (k : ℕ) (h : List Entry) → h ≡ serial_rounds p plan k → IsDue plan h → (RoundFits plan (length h) → ⊥) → ((j : ℕ) → j < k → IsFull plan (serial_rounds p plan j) → ⊥) → StopsFull p plan h
  stopped_full k h serial due full fitted =
      let rounds = serial_rounds_law p plan k fits handlers in
      record {
        rounds = k;
        serial = serial;
        legal = subst (Legal p plan) (sym serial) rounds.legal;
        complete = subst (λ (g : List Entry). IsComplete plan g) (sym serial) rounds.complete;
        few = within_limit k h serial fitted;
        full = record {
          due = due;
          full = elim (ltb plan.limit (length h + most_entries plan)) as (λ b. ltb plan.limit (length h + most_entries plan) ≡ b → plan.limit < length h + most_entries plan) [
            | true ↦ λ e. grind (arith, nat_tests)
            | false ↦ λ e. absurd (full (grind (arith, nat_tests)))
          ] refl;
        };
        first = fitted;
      }

-- one round more
pub serial_next : (p : Meaning) (plan : Plan) (k : ℕ) (old new : List Entry) → old ≡ serial_rounds p plan k → new ≡ with_round p plan old (k + 1) → new ≡ serial_rounds p plan (k + 1)
serial_next p plan k old new serial plays = plays ∙ (ap (λ (h : List Entry). with_round p plan h (k + 1)) serial ∙ sym (serial_more p plan k))
