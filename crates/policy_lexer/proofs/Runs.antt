-- The longest run of bytes that pass a test, as a piece.
use Rattle.std.proofs.Common.{◌≡◌, ◌∙◌, ◌<◌, ◌≤◌, ◌+◌, ◌&&◌, ℕ, zero, suc, Bool, true, false, cond, List, [], ◌∷◌, length, take, Some, None, refl, ap, sym, arith}
use Rattle.std.specs.List.{list_all, prefix_len}
use Rattle.std.proofs.lemmas.List.Sums.{prefix_len-le-length}
use Rattle.policy_lexer.specs.Pieces.{Piece, run_of, piece_of, IsFirstPiece}

pub and-right : (a b : Bool) → (a && b) ≡ true → b ≡ true
and-right true b e = e
and-right false b e = cc

-- the run passes
list_all-prefix : (test : ℕ → Bool) (text : List ℕ) → list_all test (take (prefix_len test text) text) ≡ true
list_all-prefix test [] = refl
list_all-prefix test (x ∷ xs) = by (test x) refl (list_all-prefix test xs)
  where
    by : (b : Bool) → test x ≡ b → list_all test (take (prefix_len test xs) xs) ≡ true →
        list_all test (take (cond b (1 + prefix_len test xs) 0) (x ∷ xs)) ≡ true
    by true e later =
        let more : 1 + prefix_len test xs ≡ suc (prefix_len test xs) = omega arith in
        rw more (rw e later)
    by false e later = refl

-- no longer front passes
front-le-prefix : (test : ℕ → Bool) (text : List ℕ) (size : ℕ) → size ≤ length text →
    list_all test (take size text) ≡ true → size ≤ prefix_len test text
front-le-prefix test text zero within e = omega arith
front-le-prefix test [] (suc size) within e = absurd (omega arith)
front-le-prefix test (x ∷ xs) (suc size) within e =
    by (test x) (front-le-prefix test xs size (omega arith)) e
  where
    by : (b : Bool) → (list_all test (take size xs) ≡ true → size ≤ prefix_len test xs) →
        (b && list_all test (take size xs)) ≡ true → suc size ≤ cond b (1 + prefix_len test xs) 0
    by true later h = omega (arith, later h)
    by false later h = cc

run-some : (b : Bool) (x y : Piece) → cond b (Some x) None ≡ Some y → b ≡ true
run-some true x y e = refl
run-some false x y e = cc

-- the longest run is the first piece, where the first byte says that a piece is such a run
pub run_is_first : (test : ℕ → Bool) (of : List ℕ → Piece) (first : ℕ) (rest : List ℕ) →
    ((more : List ℕ) → piece_of (first ∷ more) ≡ run_of test (first ∷ more) (of (first ∷ more))) → test first ≡ true →
    IsFirstPiece (first ∷ rest) (prefix_len test (first ∷ rest)) (of (take (prefix_len test (first ∷ rest)) (first ∷ rest)))
run_is_first test of first rest is passes = record {
  within = prefix_len-le-length test (first ∷ rest);
  spells = at_front (prefix_len test (first ∷ rest)) size (list_all-prefix test (first ∷ rest));
  longest = λ more other longer within e. past more other longer within e;
}
  where
    size : prefix_len test (first ∷ rest) ≡ suc (prefix_len test rest)
    size = rw passes (omega arith)

    at_front : (n : ℕ) → n ≡ suc (prefix_len test rest) → list_all test (take n (first ∷ rest)) ≡ true →
        piece_of (take n (first ∷ rest)) ≡ Some (of (take n (first ∷ rest)))
    at_front zero e all = absurd (omega (arith, e))
    at_front (suc n) e all = is (take n rest) ∙ ap (λ b. cond b (Some (of (first ∷ take n rest))) None) all

    past : (more : ℕ) (other : Piece) → prefix_len test (first ∷ rest) < more → more ≤ length (first ∷ rest) →
        piece_of (take more (first ∷ rest)) ≡ Some other → ⊥
    past zero other longer within e = omega (arith, longer)
    past (suc more) other longer within e =
        let all : list_all test (take (suc more) (first ∷ rest)) ≡ true = run-some _ _ _ (sym (is (take more rest)) ∙ e) in
        omega (arith, longer, front-le-prefix test (first ∷ rest) (suc more) within all)
