-- The rows of a past with an entry of one core more.
use Rattle.std.proofs.Common.{◌≡◌, ℕ, ◌+◌, ◌-◌, ◌<◌, ◌≤◌, true, false, cond, List, [], ◌∷◌, ◌++◌, length, get_or, ltb, refl, sym, ap, ◌∙◌, arith}
use Rattle.std.proofs.Math.Seq.{get_or-append_seam}
use Rattle.std.proofs.lemmas.Bool.Decides.{nat_tests}
use Rattle.std.proofs.lemmas.List.{get_or_append_left, length-append, take-append-le, take_all}
use Rattle.policy_tree.specs.Meaning.{Meaning}
use Rattle.round_model.specs.declared.entry.Entry.{Entry}
use Rattle.round_model.specs.declared.plan.Plan.{Plan}
use Rattle.round_model.specs.declared.state.CountAndLoad.{CountAndLoad}
use Rattle.round_model.specs.After.{after}
use Rattle.round_model.specs.Cores.{listed, opening_state, seen_of}
use Rattle.round_model.specs.Entries.{touches}
use Rattle.round_model.specs.Kinds.{is_round}
use Rattle.round_model.specs.Reads.{round_start, value_read}
use Rattle.round_model.proofs.Grows.{untouched}
use Rattle.round_model.proofs.Keeping.{some_at}
use Rattle.round_model.proofs.Longer.{start_stays}
use Rattle.round_model.proofs.States.{listed_at, listed_length}
use Rattle.round_judge.specs.declared.past.Past.{Past}
use Rattle.round_judge.specs.Past.{Shows, StandsFor, seen_in}
use Rattle.round_judge.specs.Additions.{IsAdded}

module _ (p : Meaning) (plan : Plan) (old new : Past) (h : List Entry) (e : Entry) (by : ℕ) where
  -- what is to be seen at the end of a history
  read_now : (history : List Entry) (c : ℕ) → value_read p plan history c (length history) ≡ seen_of (after p plan history c)
  read_now history c = ap (λ (g : List Entry). seen_of (after p plan g c)) (take_all (length history) history (omega arith))

  -- and before, an entry more changes nothing of it
  read_before : (c at : ℕ) → at ≤ length h → value_read p plan (h ++ e ∷ []) c at ≡ value_read p plan h c at
  read_before c at inside = ap (λ (g : List Entry). seen_of (after p plan g c)) (take-append-le at h (e ∷ []) inside)

  pub rows_added : is_round e ≡ false → 1 ≤ length old.rows → StandsFor p plan old h → IsAdded p plan by e old new
      → new.state ≡ listed plan.cores (after p plan (h ++ e ∷ [])) → Shows p plan (h ++ e ∷ []) new.rows
  rows_added inner some stands added state =
      let k0 = length old.rows - 1 in
      let row = get_or old.rows k0 [] in
      let look = added.rows k0 row (omega arith) (some_at old.rows k0 [] (omega arith)) in
      let seen = look.0 in
      let longer : length (h ++ e ∷ []) ≡ length h + 1 = length-append h (e ∷ []) in
      let start = start_stays h e inner in
      let count : length new.rows ≡ length old.rows + 1 = ap length look.2 ∙ length-append old.rows (seen ∷ []) in
      let window = stands.rows.window in
      let newest : (c : ℕ) → c < plan.cores → seen_in new.rows (length old.rows) c ≡ value_read p plan (h ++ e ∷ []) c (length (h ++ e ∷ [])) =
      λ c there.
      let none = opening_state plan c in
      let size : length new.state ≡ plan.cores = ap length state ∙ listed_length plan.cores (after p plan (h ++ e ∷ [])) in
      let is = some_at new.state c none (omega arith) in
      let core = get_or new.state c none in
      let same : core ≡ after p plan (h ++ e ∷ []) c = listed_at plan.cores (after p plan (h ++ e ∷ [])) new.state c core state is there in
      let before : get_or row c (record { nr = 0; load = 0 }) ≡ seen_of (after p plan h c) =
      stands.rows.each k0 c (omega arith) there ∙ (ap (value_read p plan h c) (omega arith) ∙ read_now h c) in
      ap (λ (rows : List (List CountAndLoad)). seen_in rows (length old.rows) c) look.2
      ∙ (ap (λ (r : List CountAndLoad). get_or r c (record { nr = 0; load = 0 })) (get_or-append_seam old.rows seen [] [])
      ∙ (look.1 c core is
      ∙ (elim (touches c e) as (λ b. touches c e ≡ b → cond b (seen_of core) (get_or row c (record { nr = 0; load = 0 })) ≡ seen_of (after p plan (h ++ e ∷ []) c)) [
        | true ↦ λ touched. ap seen_of same
        | false ↦ λ not. before ∙ ap seen_of (sym (untouched p plan h e c not))
      ] refl
      ∙ sym (read_now (h ++ e ∷ []) c)))) in
      record {
        window = omega (arith, start, longer, count);
        each = λ k c inside there.
            elim (ltb k (length old.rows)) as (λ b. ltb k (length old.rows) ≡ b → seen_in new.rows k c ≡ value_read p plan (h ++ e ∷ []) c (round_start (h ++ e ∷ []) + k)) [
              | true ↦ λ test. let earlier : k < length old.rows = grind (arith, nat_tests) in
                  ap (λ (rows : List (List CountAndLoad)). seen_in rows k c) look.2
                  ∙ (ap (λ (r : List CountAndLoad). get_or r c (record { nr = 0; load = 0 })) (get_or_append_left old.rows (seen ∷ []) [] k earlier)
                  ∙ (stands.rows.each k c earlier there
                  ∙ (sym (read_before c (round_start h + k) (omega arith)) ∙ ap (λ (n : ℕ). value_read p plan (h ++ e ∷ []) c (n + k)) (sym start))))
              | false ↦ λ test. let reached : length old.rows ≤ k = grind (arith, nat_tests) in
                  let last : k ≡ length old.rows = omega (arith, count) in
                  ap (λ (j : ℕ). seen_in new.rows j c) last ∙ (newest c there ∙ ap (value_read p plan (h ++ e ∷ []) c) (omega (arith, start, longer, last)))
            ] refl;
      }
