-- The chains of `or` of the compiled policy, one link longer.
use Rattle.std.proofs.Common.{◌≡◌, ℕ, zero, suc, ◌+◌, ◌<◌, ◌≤◌, List, [], ◌∷◌, ◌++◌, fold, get_or, length, map, take, refl, ap, ◌∙◌, arith, append_assoc}
use Rattle.std.proofs.lemmas.List.{map_more}
use Rattle.std.proofs.lemmas.List.Sums.{fold_more, fold_push}
use Rattle.policy_tree.specs.Trees.{CondTree, both, either}
use Rattle.level_policy.specs.Compiled.{any_of, belonging, level_filters, near}
use Rattle.level_policy.specs.Levels.{LevelTree}

pub any_of-first : (cs : List CondTree) (d : CondTree) → 1 ≤ length cs → any_of (take 1 cs) ≡ get_or cs 0 d
any_of-first [] d some = absurd (omega arith)
any_of-first (c ∷ cs) d some = refl

pub any_of-more : (cs : List CondTree) (i : ℕ) (d : CondTree) → 1 ≤ i → i < length cs → any_of (take (i + 1) cs) ≡ either (any_of (take i cs)) (get_or cs i d)
any_of-more [] i d some inside = absurd (omega arith)
any_of-more (c ∷ cs) zero d some inside = absurd (omega arith)
any_of-more (c ∷ cs) (suc i) d some inside =
    let e : suc i + 1 ≡ suc (i + 1) = omega arith in ap (λ n. any_of (take n (c ∷ cs))) e ∙ fold_more either c cs i d (omega arith)

pub near-first : (levels : List LevelTree) (d : LevelTree) → 1 ≤ length levels → near (take 1 levels) ≡ (get_or levels 0 d).within
near-first [] d some = absurd (omega arith)
near-first (l ∷ levels) d some = refl

pub near-more : (levels : List LevelTree) (i : ℕ) (d : LevelTree) → 1 ≤ i → i < length levels → near (take (i + 1) levels) ≡ either (near (take i levels)) (get_or levels i d).within
near-more [] i d some inside = absurd (omega arith)
near-more (l ∷ levels) zero d some inside = absurd (omega arith)
near-more (l ∷ levels) (suc i) d some inside =
    let e : suc i + 1 ≡ suc (i + 1) = omega arith in
    ap (λ n. near (take n (l ∷ levels))) e
    ∙ (ap (fold either l.within) (map_more (λ (level : LevelTree). level.within) levels i d (omega arith))
    ∙ fold_push either l.within (map (λ (level : LevelTree). level.within) (take i levels)) (get_or levels i d).within)

pub length-level_filters : (earlier levels : List LevelTree) → length (level_filters earlier levels) ≡ length levels
length-level_filters earlier [] = refl
length-level_filters earlier (l ∷ levels) = ap suc (length-level_filters (earlier ++ l ∷ []) levels)

-- each filter has its level, behind those before it
pub level_filter_at : (earlier levels : List LevelTree) (i : ℕ) (d : LevelTree) (e : CondTree) → i < length levels
    → get_or (level_filters earlier levels) i e ≡ both (belonging (earlier ++ take i levels) (get_or levels i d)) (get_or levels i d).filter
level_filter_at earlier [] i d e inside = absurd (omega arith)
level_filter_at earlier (l ∷ levels) zero d e inside = ap (λ (before : List LevelTree). both (belonging before l) l.filter) (sym-nil earlier)
  where
    sym-nil : (xs : List LevelTree) → xs ≡ xs ++ []
    sym-nil [] = refl
    sym-nil (x ∷ xs) = ap (λ (rest : List LevelTree). x ∷ rest) (sym-nil xs)
level_filter_at earlier (l ∷ levels) (suc i) d e inside =
    level_filter_at (earlier ++ l ∷ []) levels i d e (omega arith)
    ∙ ap (λ (before : List LevelTree). both (belonging before (get_or levels i d)) (get_or levels i d).filter) (append_assoc earlier (l ∷ []) (take i levels))
