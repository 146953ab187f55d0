-- What all cores owe together.
use Rattle.std.proofs.Common.{◌≡◌, ◌≢◌, ℕ, zero, suc, ◌+◌, ◌<◌, ◌≤◌, ◌||◌, ◌&&◌, eqb, true, false, List, [], ◌∷◌, ◌++◌, map, length, Some, refl, sym, ap, subst, ◌∙◌, arith}
use Rattle.std.specs.List.{range_with_len}
use Rattle.std.specs.Prelude.{sum}
use Rattle.std.proofs.lemmas.Bool.Decides.{nat_tests}
use Rattle.std.proofs.lemmas.List.FromFn.{map-range_with_len_more}
use Rattle.std.proofs.lemmas.List.Sums.{fold_push}
use Rattle.policy_tree.specs.Meaning.{Meaning}
use Rattle.policy_eval.specs.Obligations.{MeetsHandlerObligations}
use Rattle.round_model.specs.declared.entry.Entry.{Entry}
use Rattle.round_model.specs.declared.plan.Plan.{Plan}
use Rattle.round_model.specs.Entries.{acting_core, acts}
use Rattle.round_model.specs.Fits.{Fits}
use Rattle.round_model.specs.Kinds.{is_attempt, is_round}
use Rattle.round_model.specs.Legal.{Legal, LegalNext}
use Rattle.round_model.specs.Owed.{owed, owed_total}
use Rattle.round_model.specs.Scenes.{has_attempted, own_entries}
use Rattle.round_model.proofs.Longer.{done_more, own_more}
use Rattle.round_model.proofs.Paying.{owed_law}

-- the sum over the first cores
abbrev sum_of : (ℕ → ℕ) → ℕ → ℕ
sum_of f n = sum (map f (range_with_len 0 n))

sum_next : (f : ℕ → ℕ) (n : ℕ) → sum_of f (n + 1) ≡ sum_of f n + f n
sum_next f n = ap sum (map-range_with_len_more f 0 n n (omega arith)) ∙ fold_push (λ (s x : ℕ). s + x) 0 (map f (range_with_len 0 n)) (f n)

sum_suc : (f : ℕ → ℕ) (n : ℕ) → sum_of f (suc n) ≡ sum_of f n + f n
sum_suc f n = let more : suc n ≡ n + 1 = omega arith in ap (sum_of f) more ∙ sum_next f n

-- sums that differ in one term
sum_before : (f g : ℕ → ℕ) (a : ℕ) → ((c : ℕ) → c ≢ a → f c ≡ g c) → (n : ℕ) → n ≤ a → sum_of f n ≡ sum_of g n
sum_before f g a same zero few = refl
sum_before f g a same (suc n) few =
    let rest = sum_before f g a same n (omega arith) in
    let apart : n ≢ a = λ e. absurd (omega (arith, e)) in
    omega (arith, rest, same n apart, sum_suc f n, sum_suc g n)

sum_one_less : (f g : ℕ → ℕ) (a : ℕ) → ((c : ℕ) → c ≢ a → f c ≡ g c) → f a + 1 ≡ g a → (n : ℕ) → a < n → sum_of f n + 1 ≡ sum_of g n
sum_one_less f g a same less zero there = absurd (omega arith)
sum_one_less f g a same less (suc n) there =
    elim (eqb n a) as (λ b. eqb n a ≡ b → sum_of f (suc n) + 1 ≡ sum_of g (suc n)) [
      | true ↦ λ e. let one : n ≡ a = grind (arith, nat_tests) in
          let here : f n + 1 ≡ g n = subst (λ (c : ℕ). f c + 1 ≡ g c) (sym one) less in
          omega (arith, sum_before f g a same n (omega (arith, one)), here, sum_suc f n, sum_suc g n)
      | false ↦ λ e. let apart : n ≢ a = grind (arith, nat_tests) in
          let rest = sum_one_less f g a same less n (let other = apart in grind (arith, there, other)) in
          omega (arith, rest, same n apart, sum_suc f n, sum_suc g n)
    ] refl

-- each legal entry of a core is one that was owed
pub reserve_kept : (p : Meaning) (plan : Plan) (h : List Entry) (e : Entry) (a : ℕ) → Fits p plan → MeetsHandlerObligations p → Legal p plan h → LegalNext p plan h e → acting_core e ≡ Some a → a < plan.cores
    → owed_total p plan (h ++ e ∷ []) + 1 ≡ owed_total p plan h
reserve_kept p plan h e a fits handlers legal next acting there =
    let paid = owed_law p plan h e a fits handlers legal next acting in
    sum_one_less (owed p plan (h ++ e ∷ [])) (owed p plan h) a paid.others paid.own plan.cores there

-- so there is room for it where there is room for all that is owed
pub room_for : (p : Meaning) (plan : Plan) (h : List Entry) (e : Entry) (a limit : ℕ) → Fits p plan → MeetsHandlerObligations p → Legal p plan h → LegalNext p plan h e → acting_core e ≡ Some a → a < plan.cores
    → length h + owed_total p plan h ≤ limit → length h < limit
room_for p plan h e a limit fits handlers legal next acting there room = omega (arith, reserve_kept p plan h e a fits handlers legal next acting there)

-- who has made the attempt of the round has made it
pub attempted_more : (h : List Entry) (e : Entry) (c : ℕ) → is_round e ≡ false → has_attempted (own_entries h c) ≡ true → has_attempted (own_entries (h ++ e ∷ []) c) ≡ true
attempted_more h e c inner made =
    ap has_attempted (own_more h e c inner) ∙ (done_more is_attempt (own_entries h c) e c ∙ ap (λ b. b || (acts c e && is_attempt e)) made)
