-- The counts of guards that hold together, and of guards that all fail, taken one guard after another.
use Rattle.std.proofs.Common.{◌≡◌, ℕ, ◌+◌, ◌*◌, List, [], ◌∷◌, ◌++◌, true, false, map, refl, sym, ap, ◌∙◌, arith}
use Rattle.std.proofs.Math.Nat.{add-mul, mul-add, mul_assoc, mul_comm}
use Rattle.std.proofs.lemmas.List.{map-append}
use Rattle.policy_tree.specs.Trees.{CondTree, negated}
use Rattle.obligations.specs.Counts.{count_of, reported}
use Rattle.obligations.specs.Refutations.{all_of, any_of, both_of, pairs_of}
use Rattle.obligations.specs.Tallies.{any_count, gap_count, pair_count}
use Rattle.obligations.proofs.Reported.{reported-of_small, reported-plus, reported-small, reported-times, reported-times_right}

-- what is reported of a part of a sum
cut_in : (x y more : ℕ) → reported x ≡ reported y → reported (x + more) ≡ reported (y + more)
cut_in x y more same = sym (reported-plus x more) ∙ (ap (λ k. reported (k + more)) same ∙ reported-plus y more)

twice : (n : ℕ) → reported (reported n) ≡ reported n
twice n = reported-of_small (reported n) (reported-small n)

-- one more guard that fails
pub gap_step : (gaps next own : ℕ) (c : CondTree) (rest : List CondTree) → next ≡ reported (gaps * own) → own ≡ reported (count_of false c)
    → reported (next * gap_count rest) ≡ reported (gaps * gap_count (c ∷ rest))
gap_step gaps next own c rest is own_is =
    let n : ℕ = count_of false c in let left : ℕ = gap_count rest in
    ap (λ k. reported (k * left)) is
    ∙ (reported-times (gaps * own) left
    ∙ (ap reported (ap (λ k. k * left) (mul_comm gaps own) ∙ mul_assoc own gaps left)
    ∙ (ap (λ k. reported (k * (gaps * left))) own_is
    ∙ (reported-times n (gaps * left)
    ∙ ap reported (sym (mul_assoc n gaps left) ∙ (ap (λ k. k * left) (mul_comm n gaps) ∙ mul_assoc gaps n left))))))

-- one more guard in pairs
pub pair_step : (pairs earlier scaled next_pairs next_earlier own : ℕ) (c : CondTree) (rest : List CondTree)
    → scaled ≡ reported (earlier * own) → next_pairs ≡ reported (pairs + scaled) → next_earlier ≡ reported (earlier + own) → own ≡ reported (count_of true c)
    → reported (next_pairs + (next_earlier * any_count rest + pair_count rest)) ≡ reported (pairs + (earlier * any_count (c ∷ rest) + pair_count (c ∷ rest)))
pair_step pairs earlier scaled next_pairs next_earlier own c rest scaled_is pairs_is earlier_is own_is =
    let n : ℕ = count_of true c in let a : ℕ = any_count rest in let p : ℕ = pair_count rest in let e : ℕ = next_earlier * a in
    let first : reported scaled ≡ reported (earlier * n) =
    ap reported scaled_is ∙ (twice (earlier * own) ∙ (ap (λ k. reported (earlier * k)) own_is ∙ reported-times_right earlier n)) in
    let each : reported (own * a) ≡ reported (n * a) = ap (λ k. reported (k * a)) own_is ∙ reported-times n a in
    let second : reported e ≡ reported (n * a + earlier * a) =
    ap (λ k. reported (k * a)) earlier_is
    ∙ (reported-times (earlier + own) a ∙ (ap reported (let split = add-mul earlier own a in omega arith) ∙ cut_in (own * a) (n * a) (earlier * a) each)) in
    ap (λ k. reported (k + (e + p))) pairs_is
    ∙ (reported-plus (pairs + scaled) (e + p)
    ∙ (ap reported (omega arith)
    ∙ (cut_in scaled (earlier * n) (pairs + (e + p)) first
    ∙ (ap reported (omega arith)
    ∙ (cut_in e (n * a + earlier * a) (earlier * n + (pairs + p)) second
    ∙ ap reported (let split = mul-add earlier n a in omega arith))))))

any_counts : (c : CondTree) (cs rest : List CondTree)
    → count_of true (any_of (map both_of (map (λ d. (c, d)) cs) ++ rest)) ≡ count_of true c * any_count cs + count_of true (any_of rest)
any_counts c [] rest = omega arith
any_counts c (d ∷ cs) rest = let more = any_counts c cs rest in let split = mul-add (count_of true c) (count_of true d) (any_count cs) in omega arith

-- the count of the condition that two guards hold
pub pair_counts : (gs : List CondTree) → pair_count gs ≡ count_of true (any_of (map both_of (pairs_of gs)))
pair_counts [] = refl
pair_counts (g ∷ gs) =
    ap (λ k. count_of true g * any_count gs + k) (pair_counts gs)
    ∙ (sym (any_counts g gs (map both_of (pairs_of gs)))
    ∙ ap (λ cs. count_of true (any_of cs)) (sym (map-append both_of (map (λ h. (g, h)) gs) (pairs_of gs))))

-- the count of the condition that all guards fail
pub gap_counts : (gs : List CondTree) → gap_count gs ≡ count_of true (all_of (map negated gs))
gap_counts [] = refl
gap_counts (g ∷ gs) = ap (λ k. count_of false g * k) (gap_counts gs)
