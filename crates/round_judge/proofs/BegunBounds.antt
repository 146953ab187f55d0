-- A past whose next round began has its numbers in range.
use Rattle.std.proofs.Common.{◌≡◌, ◌≢◌, ℕ, ◌+◌, ◌-◌, ◌==◌, ◌<◌, ◌≤◌, ◌⊎◌, inl, inr, nat_lt, true, false, cond, List, [], ◌∷◌, filter, length, get_or, sum_by, count_by, All, refl, sym, ap, ap₂, subst, ◌∙◌, eqb, arith}
use Rattle.std.proofs.lemmas.Bool.Decides.{nat_tests}
use Rattle.std.proofs.lemmas.List.{length-map, length-replicate}
use Rattle.std.proofs.lemmas.List.Sums.{sum_by-cons}
use Rattle.policy_tree.specs.Meaning.{Meaning}
use Rattle.policy_eval.specs.Fitting.{LoadsFit}
use Rattle.sched_base.specs.declared.limits.TheConstants.{MAX_ENTRIES}
use Rattle.round_model.specs.declared.plan.Plan.{Plan}
use Rattle.round_model.specs.declared.plan.Planned.{Planned}
use Rattle.round_model.specs.declared.state.CountAndLoad.{CountAndLoad}
use Rattle.round_model.specs.Bounds.{CoreInBounds, standing_count}
use Rattle.round_model.specs.Fits.{Fits}
use Rattle.round_model.specs.Lists.{Lists}
use Rattle.round_model.proofs.Keeping.{some_at}
use Rattle.round_judge.specs.declared.past.Past.{Past}
use Rattle.round_judge.specs.declared.past.Turn.{Turn}
use Rattle.round_judge.specs.Past.{IsPastOf, arrival_of, seen_in}
use Rattle.round_judge.specs.Additions.{IsBegun}
use Rattle.round_model.proofs.Counting.{counted}

pub lt_count : (a b : ℕ) → ((counted (nat_lt a b) ≡ 1) × (a < b)) ⊎ ((counted (nat_lt a b) ≡ 0) × (b ≤ a))
lt_count a b = elim (nat_lt a b) as (λ x. nat_lt a b ≡ x → ((counted x ≡ 1) × (a < b)) ⊎ ((counted x ≡ 0) × (b ≤ a))) [
  | true ↦ λ e. inl (refl, grind (arith, nat_tests))
  | false ↦ λ e. inr (refl, grind (arith, nat_tests))
] refl

-- those who enter after a round are those of the next, and those who enter after that
pub later_split : (r : ℕ) (threads : List Planned) → length (filter (λ (t : Planned). t.round == r + 1) threads) + count_by (λ (t : Planned). nat_lt (r + 1) t.round) threads
    ≡ count_by (λ (t : Planned). nat_lt r t.round) threads
later_split r [] = refl
later_split r (t ∷ threads) =
    let rest = later_split r threads in
    let now : List Planned = filter (λ (x : Planned). x.round == r + 1) threads in
    let one = sum_by-cons (λ (x : Planned). counted (nat_lt (r + 1) x.round)) t threads in
    let two = sum_by-cons (λ (x : Planned). counted (nat_lt r x.round)) t threads in
    elim (eqb t.round (r + 1)) as (λ b. eqb t.round (r + 1) ≡ b → length (cond b (t ∷ now) now) + count_by (λ (x : Planned). nat_lt (r + 1) x.round) (t ∷ threads)
    ≡ count_by (λ (x : Planned). nat_lt r x.round) (t ∷ threads)) [
      | true ↦ λ e. let same : t.round ≡ r + 1 = grind (arith, nat_tests) in
          elim (lt_count (r + 1) t.round) [ inl never ↦ absurd (omega (arith, never.1)) | inr later ↦ elim (lt_count r t.round) [ inl fewer ↦ omega (arith, one, two, later.0, fewer.0) | inr never ↦ absurd (omega (arith, never.1)) ] ]
      | false ↦ λ e. let other : ◌≢◌ t.round (r + 1) = grind (arith, nat_tests) in
          elim (lt_count (r + 1) t.round) [
            | inl later ↦ elim (lt_count r t.round) [ inl fewer ↦ omega (arith, one, two, later.0, fewer.0) | inr never ↦ absurd (omega (arith, never.1, later.1)) ]
            | inr later ↦ elim (lt_count r t.round) [ inl fewer ↦ absurd (let apart = other in grind (arith, fewer.1, later.1)) | inr fewer ↦ omega (arith, one, two, later.0, fewer.0) ]
          ]
    ] refl

pub belongs_begun : (p : Meaning) (plan : Plan) (old new : Past) → Fits p plan → IsPastOf p plan old → IsBegun plan old new → old.entries < MAX_ENTRIES → old.rounds < plan.rounds
    → IsPastOf p plan new
belongs_begun p plan old new fits belongs begun room due =
    let threads = plan.threads in
    let fresh : Turn = record { worked = false; attempted = false } in
    let k0 = length old.rows - 1 in
    let row = get_or old.rows k0 [] in
    let some = belongs.window.some in
    let only : new.rows ≡ row ∷ [] = begun.rows row k0 (some_at old.rows k0 [] (omega arith)) (omega arith) in
    let one = ap length only in
    let arrivals : length new.arrivals ≡ length (filter (λ (t : Planned). t.round == old.rounds + 1) threads) =
    ap length begun.arrivals ∙ (length-map (filter (λ (t : Planned). t.round == new.rounds) threads) arrival_of ∙ ap (λ (n : ℕ). length (filter (λ (t : Planned). t.round == n) threads)) begun.rounds) in
    let counts : count_by (λ (t : Planned). nat_lt new.rounds t.round) threads ≡ count_by (λ (t : Planned). nat_lt (old.rounds + 1) t.round) threads =
    ap (λ (n : ℕ). count_by (λ (t : Planned). nat_lt n t.round) threads) begun.rounds in
    record {
      limits = belongs.limits;
      cores = ap length begun.state ∙ belongs.cores;
      turns = ap length begun.turns ∙ (length-replicate (length old.turns) fresh ∙ belongs.turns);
      each = subst (All (CoreInBounds p)) (sym begun.state) belongs.each;
      total = let before = belongs.total in let split = later_split old.rounds threads in let same = ap (sum_by standing_count) begun.state in omega (arith, arrivals, counts);
      window = record { some = omega arith; within = omega (arith, begun.entries); few = omega (arith, begun.entries) };
      rows = λ k c inside there.
          let first : k ≡ 0 = omega arith in
          let seen = ap₂ (λ (rows : List (List CountAndLoad)) (j : ℕ). seen_in rows j c) only first in
          subst (λ (s : CountAndLoad). LoadsFit p s.nr s.load) (sym seen) (belongs.rows k0 c (omega arith) there);
      rounds = omega (arith, begun.rounds);
      lists = subst (Lists plan) (sym begun.directory) belongs.lists;
      ended = ap length begun.ended ∙ belongs.ended;
    }
