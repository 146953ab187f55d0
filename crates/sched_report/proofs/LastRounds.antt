-- In a whole history each round is complete.
use Rattle.std.proofs.Common.{◌≡◌, ℕ, suc, ◌+◌, ◌<◌, ◌≤◌, ◌==◌, ◌||◌, ◌⊎◌, inl, inr, Bool, true, false, List, All, length, get_or, drop, sym, ap, ◌∙◌, arith, eq-or-lt_of_le}
use Rattle.std.specs.Prelude.{Any}
use Rattle.std.specs.List.{list_all}
use Rattle.std.proofs.lemmas.Bool.{false≢true}
use Rattle.std.proofs.lemmas.Bool.Decides.{nat_tests}
use Rattle.std.proofs.lemmas.List.{get_or-drop, length-drop, take_all}
use Rattle.std.proofs.lemmas.List.Elements.{All-contains, All-filter}
use Rattle.std.proofs.lemmas.List.Folds.{Any-from_list_any}
use Rattle.std.proofs.lemmas.List.FromFn.{get_or-range_with_len, length-range_with_len}
use Rattle.std.proofs.lemmas.List.Sums.{AllPass-from_list_all}
use mathlib.Core.Option.{some}
use lib.ListN.{get_elem?}
use Rattle.policy_tree.specs.Meaning.{Meaning}
use Rattle.round_model.specs.declared.entry.Entry.{Entry}
use Rattle.round_model.specs.declared.entry.Entry.TheVariants as entry
use Rattle.round_model.specs.declared.plan.Plan.{Plan}
use Rattle.round_model.specs.After.{round_of}
use Rattle.round_model.specs.Cores.{core_numbers}
use Rattle.round_model.specs.Entries.{acts}
use Rattle.round_model.specs.Kinds.{is_attempt}
use Rattle.round_model.specs.Legal.{Whole, is_complete, rounds_begun}
use Rattle.round_model.specs.Reads.{round_start}
use Rattle.round_model.specs.Rounds.{Attempts, BeginsAt, round_at}
use Rattle.round_model.specs.Scenes.{has_attempted, own_entries}
use Rattle.round_model.proofs.Histories.{open_round}
use Rattle.round_laws.proofs.Bests.{filtered_pass}
use Rattle.round_laws.proofs.CompleteRounds.{complete_before, starts_behind}
use Rattle.round_laws.proofs.RoundNumbers.{begun_before, entry_inside, opened, round_rises}
use Rattle.sched_report.proofs.WalkLemmas.{elem_at}

-- the entry stands in the history, at a position from the start on
record StandsFrom (h : List Entry) (start : ℕ) (e : Entry) : Type 0 where
  position : ℕ
  stands : get_elem? h position ≡ some e
  behind : start ≤ position
  inside : position < length h

rest_stands : (h : List Entry) (start : ℕ) → All (StandsFrom h start) (drop start h)
rest_stands h start k d within = record {
  position = start + k;
  stands = elem_at h (start + k) d (omega (arith, length-drop start h)) ∙ ap some (sym (get_or-drop start h k d));
  behind = omega arith;
  inside = omega (arith, length-drop start h);
}

module _ (p : Meaning) (plan : Plan) (h : List Entry) (whole : Whole p plan h) where
  all_open : round_at h (length h) ≡ rounds_begun h
  all_open = ap round_of (take_all (length h) h (omega arith)) ∙ open_round p plan h whole.legal

  -- each core has made its attempt of the last round
  attempted : 0 < rounds_begun h → (c : ℕ) → c < plan.cores → has_attempted (own_entries h c) ≡ true
  unfolding is_complete
  attempted begun c there =
      let test : ℕ → Bool = λ a. has_attempted (own_entries h a) in
      let not : (rounds_begun h == 0) ≡ false = grind (arith, nat_tests) in
      let all = second (rounds_begun h == 0) (list_all test (core_numbers plan)) whole.complete not in
      let size = length-range_with_len 0 plan.cores in
      let number : get_or (core_numbers plan) c 0 ≡ c = omega (arith, get_or-range_with_len 0 plan.cores c 0 there) in
      sym (ap test number) ∙ AllPass-from_list_all test (core_numbers plan) all c 0 (omega arith)
    where
      second : (a b : Bool) → (a || b) ≡ true → a ≡ false → b ≡ true
      second true b either not = absurd (false≢true (sym not))
      second false b either not = either

  last_attempts : (number opening : ℕ) → BeginsAt h number opening → number ≡ rounds_begun h → 0 < number → (c : ℕ) → c < plan.cores → Attempts h number c
  last_attempts number opening begins last positive c there = from_any (Any-from_list_any is_attempt (own_entries h c) (attempted (omega arith) c there))
    where
      start : round_start h ≡ suc opening
      start =
          let inside = entry_inside h opening (entry.Round number) begins in
          ap round_start (sym (take_all (length h) h (omega arith))) ∙ starts_behind p plan h whole.legal number opening (length h) begins inside (omega (arith, all_open))

      from_any : Any (λ e. is_attempt e ≡ true) (own_entries h c) → Attempts h number c
      from_any (k, e, within, is, attempt) =
          let own = All-filter (acts c) (StandsFrom h (round_start h)) (drop (round_start h) h) (rest_stands h (round_start h)) in
          let found = All-contains (StandsFrom h (round_start h)) (own_entries h c) e own (k, within, is) in
          let at = found.position in
          let behind = found.behind in let inside = found.inside in
          let low = round_rises p plan h whole.legal (suc opening) at (omega (arith, start)) in
          let high = round_rises p plan h whole.legal at (length h) (omega arith) in
          record {
            position = at;
            attempt = e;
            stands = found.stands;
            in_round = omega (arith, opened h number opening begins, all_open);
            by_core = filtered_pass (acts c) (drop (round_start h) h) e (k, within, is);
            is = attempt;
          }

  pub attempts : (number opening : ℕ) → BeginsAt h number opening → 0 < number → number ≤ rounds_begun h → (c : ℕ) → c < plan.cores → Attempts h number c
  attempts number opening begins positive begun c there = by_order (eq-or-lt_of_le begun)
    where
      with_next : (k : ℕ) × (k < length h) × BeginsAt h (suc number) k → Attempts h number c
      with_next (next, inside, ends) = complete_before p plan h whole.legal number opening next begins ends c there

      by_order : (number ≡ rounds_begun h) ⊎ (number < rounds_begun h) → Attempts h number c
      by_order (inl last) = last_attempts number opening begins last positive c there
      by_order (inr less) = with_next (begun_before p plan h whole.legal (suc number) (length h) (omega arith) (omega (arith, all_open)))
