-- What a step of a core makes of a play.
use Rattle.std.proofs.Common.{◌≡◌, ◌≢◌, ℕ, ◌+◌, ◌<◌, ◌≤◌, eqb, max, true, false, cond, List, [], ◌∷◌, length, get_or, set, slice_index, get_or-set_same, get_or-set_other, Option, Some, None, IsNone, refl, sym, ap, ap₂, subst, ◌∙◌, arith}
use Rattle.std.proofs.lemmas.Bool.Decides.{nat_tests}
use Rattle.std.proofs.lemmas.List.{length-append}
use Rattle.std.proofs.lemmas.List.FromFn.{fill_by_all, get_or-map-range_with_len, length-map-range_with_len}
use Rattle.policy_tree.specs.Meaning.{Meaning}
use Rattle.policy_eval.specs.Obligations.{MeetsHandlerObligations}
use Rattle.round_model.specs.declared.entry.Entry.{Entry}
use Rattle.round_model.specs.declared.plan.Plan.{Plan}
use Rattle.round_model.specs.Entries.{acting_core}
use Rattle.round_model.specs.FreshReads.{fresh_reads, touched_from}
use Rattle.round_model.specs.Fits.{Fits}
use Rattle.round_model.specs.Legal.{LegalNext, rounds_begun}
use Rattle.round_model.specs.Owed.{owed_total}
use Rattle.round_model.specs.Reads.{round_start}
use Rattle.round_model.specs.Scenes.{scene_of}
use Rattle.round_model.proofs.Acting.{no_round}
use Rattle.round_model.proofs.Keeping.{some_at}
use Rattle.round_model.proofs.Longer.{begun_more, start_within}
use Rattle.round_model.proofs.OwedTotals.{reserve_kept}
use Rattle.round_model.proofs.Touched.{touched_within}
use Rattle.round_judge.specs.Readable.{ReadIn}
use Rattle.serial_steps.specs.declared.turns.NextStep.{NextStep}
use Rattle.serial_steps.specs.declared.turns.NextStep.TheVariants as next
use Rattle.serial_steps.specs.Serial.{SerialState, step_of}
use Rattle.serial_steps.specs.Turns.{IsStepOf, with_step}
use Rattle.serial_play.specs.declared.play.Play.{Play}
use Rattle.serial_play.specs.Plays.{Advances, HasAdded, IsPlay, IsStateOf, fresh_of, look_of}

module _ (p : Meaning) (plan : Plan) (play : Play) (fits : Fits p plan) (is : IsPlay p plan play) where
  -- what a core reads just now, as serial play has it
  pub fresh_same : (a : ℕ) → fresh_of plan play ≡ fresh_reads plan play.history (scene_of p plan play.history a)
  unfolding scene_of
  fresh_same a =
      fill_by_all (λ (c : ℕ). max (round_start play.history) (touched_from c 0 0 play.history)) (fresh_of plan play) plan.cores 0 (length-map-range_with_len (λ (c : ℕ). max play.start (slice_index play.touched c)) 0 plan.cores) (λ c there.
      get_or-map-range_with_len (λ (k : ℕ). max play.start (slice_index play.touched k)) 0 plan.cores c c 0 there (omega arith)
      ∙ ap₂ max is.start (is.touched c there))

  -- and it lies in the round
  pub fresh_read : ReadIn plan play.past (fresh_of plan play)
  fresh_read =
      let read : ℕ → ℕ = λ c. max play.start (slice_index play.touched c) in
      let value : (c : ℕ) → c < plan.cores → slice_index (fresh_of plan play) c ≡ read c =
      λ c there. get_or-map-range_with_len read 0 plan.cores c c 0 there (omega arith) in
      let window = is.stands.rows.window in
      record {
        one_each = length-map-range_with_len read 0 plan.cores;
        from_start = λ c there. omega (arith, value c there, is.start, is.stands.entries);
        to_now = λ c there.
            let touched = touched_within c 0 0 play.history (omega arith) in
            let start = start_within play.history in
            omega (arith, value c there, is.start, is.touched c there, is.stands.entries);
      }

module _ (p : Meaning) (plan : Plan) (old new : Play) (a : ℕ) (look : Option (List ℕ)) (fits : Fits p plan) (handlers : MeetsHandlerObligations p) (is : IsPlay p plan old) (there : a < plan.cores)
    (kept : look ≡ look_of old a) where
  -- the step of any state that the play is
  step_is : (step : NextStep) → IsStepOf p plan old.history a (fresh_of plan old) look step → (s : SerialState) → IsStateOf plan old s
      → step_of p plan s a ≡ with_step (record { history = old.history; looks = s.looks }) a (fresh_of plan old) step
  step_is step is_step s at =
      ap (λ (h : List Entry). step_of p plan (record { history = h; looks = s.looks }) a) at.history
      ∙ is_step s.looks (fresh_same p plan old fits is a) (at.looks a there ∙ sym kept)

  pub advanced_by : (e : Entry) → HasAdded p plan e old new → LegalNext p plan old.history e → acting_core e ≡ Some a
      → IsStepOf p plan old.history a (fresh_of plan old) look (next.Adds e) → Advances p plan a old new true
  advanced_by e added legal acting is_step =
      let h = old.history in
      let inner = no_round e a acting in
      let kept_looks : (c : ℕ) → look_of old c ≡ look_of new c = λ c. ap (λ (looks : List (Option (List ℕ))). get_or looks c None) (sym added.looks) in
      record {
        play = added.play;
        step = λ s at. subst (IsStateOf plan new) (sym (step_is (next.Adds e) is_step s at)) (record {
          history = sym added.history;
          looks = λ c inside. at.looks c inside ∙ kept_looks c;
        });
        reserve = omega (arith, reserve_kept p plan h e a fits handlers is.stands.legal legal acting there, length-append h (e ∷ []), ap length added.history, ap (owed_total p plan) added.history);
        rounds = ap rounds_begun added.history ∙ (begun_more h e ∙ (ap (λ b. rounds_begun h + cond b 1 0) inner ∙ omega arith));
        over = λ none. absurd (cc);
      }

-- a core looks
module _ (p : Meaning) (plan : Plan) (old : Play) (a : ℕ) (fits : Fits p plan) (is : IsPlay p plan old) (there : a < plan.cores) (wide : plan.cores ≤ length old.looks) where
  abbrev pub looked : Play
  looked = record old { looks = set old.looks a (Some (fresh_of plan old)) }

  own_look : look_of looked a ≡ Some (fresh_of plan old)
  own_look = get_or-set_same old.looks a (Some (fresh_of plan old)) None (omega arith)

  other_look : (c : ℕ) → c ≢ a → look_of looked c ≡ look_of old c
  other_look c apart = get_or-set_other old.looks a c (Some (fresh_of plan old)) None apart

  looked_play : IsPlay p plan looked
  looked_play = record {
    stands = is.stands;
    belongs = is.belongs;
    start = is.start;
    touched = is.touched;
    looks = λ c reads inside found.
        elim (eqb c a) as (λ b. eqb c a ≡ b → ReadIn plan old.past reads) [
          | true ↦ λ e. let one : c ≡ a = grind (arith, nat_tests) in
              let both : Some (fresh_of plan old) ≡ Some reads = sym own_look ∙ (ap (look_of looked) (sym one) ∙ found) in
              let same : fresh_of plan old ≡ reads = cc in
              subst (ReadIn plan old.past) same (fresh_read p plan old fits is)
          | false ↦ λ e. let apart : c ≢ a = grind (arith, nat_tests) in is.looks c reads inside (sym (other_look c apart) ∙ found)
        ] refl;
  }

  pub advanced_look : look_of old a ≡ None
      → IsStepOf p plan old.history a (fresh_of plan old) None next.Looks → Advances p plan a old looked true
  advanced_look none is_step = record {
    play = looked_play;
    step = λ s at. subst (IsStateOf plan looked)
        (sym (ap (λ (h : List Entry). step_of p plan (record { history = h; looks = s.looks }) a) at.history
        ∙ is_step s.looks (fresh_same p plan old fits is a) (at.looks a there ∙ none))) (record {
          history = refl;
          looks = λ c inside. elim (eqb c a) as (λ b. eqb c a ≡ b → cond b (Some (fresh_of plan old)) (s.looks c) ≡ look_of looked c) [
            | true ↦ λ e. let one : c ≡ a = grind (arith, nat_tests) in sym (ap (look_of looked) one ∙ own_look)
            | false ↦ λ e. let apart : c ≢ a = grind (arith, nat_tests) in at.looks c inside ∙ sym (other_look c apart)
          ] refl;
        });
    reserve = refl;
    rounds = refl;
    over = λ no_more. absurd (cc);
  }

-- the turn is over
pub advanced_none : (p : Meaning) (plan : Plan) (old : Play) (a : ℕ) (look : Option (List ℕ)) → Fits p plan → IsPlay p plan old → a < plan.cores → look ≡ look_of old a
    → IsStepOf p plan old.history a (fresh_of plan old) look next.Over → Advances p plan a old old false
advanced_none p plan old a look fits is there kept is_step = record {
  play = is;
  step = λ s at. subst (IsStateOf plan old) (sym (stays s at)) (record { history = refl; looks = at.looks });
  reserve = refl;
  rounds = refl;
  over = λ none s at. stays s at ∙ ap (λ (h : List Entry). state_of h s.looks) (sym at.history);
}
  where
    state_of : List Entry → (ℕ → Option (List ℕ)) → SerialState
    state_of h looks = record { history = h; looks = looks }

    stays : (s : SerialState) → IsStateOf plan old s → step_of p plan s a ≡ state_of old.history s.looks
    stays s at =
        ap (λ (h : List Entry). step_of p plan (record { history = h; looks = s.looks }) a) at.history
        ∙ is_step s.looks (fresh_same p plan old fits is a) (at.looks a there ∙ sym kept)

-- a look, as it is read of the array
pub look_read : (looks : List (Option (List ℕ))) (a : ℕ) (look : Option (List ℕ)) → a < length looks → look ≡ get_or looks a look → look ≡ get_or looks a None
look_read looks a look inside is =
    let both = sym (some_at looks a look inside) ∙ some_at looks a None inside in
    let same : get_or looks a look ≡ get_or looks a None = cc in is ∙ same

pub none_is : {X : Type 0} (found : Option X) → IsNone found → found ≡ None
none_is None is = refl
none_is (Some x) is = absurd (cc)
