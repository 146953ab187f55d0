-- A core passes the compiled filter exactly where it passes the filter of its level.
use Rattle.std.proofs.Common.{◌≡◌, ℕ, suc, ◌+◌, Bool, true, false, cond, not, ◌&&◌, ◌||◌, List, [], ◌∷◌, ◌++◌, fold, map, Option, Some, None, option_map, slice_get, refl, sym, ap, ◌∙◌, arith}
use Rattle.std.specs.List.{list_any, position_from}
use Rattle.std.specs.Prelude.{option_and_then}
use Rattle.std.proofs.lemmas.List.Folds.{list_any-append}
use Rattle.policy_tree.specs.Trees.{CondTree, always, negated, both, either, test}
use Rattle.policy_eval.specs.declared.env.CoreValues.{CoreValues}
use Rattle.policy_eval.specs.Sights.{pair_values}
use Rattle.policy_eval.specs.Values.{Assignment, holds}
use Rattle.level_policy.specs.Compiled.{any_of, belonging, compiled_filter, level_filters, narrowed, near}
use Rattle.level_policy.specs.Laws.{LevelFilterLaw}
use Rattle.level_policy.specs.LevelChoices.{filter_holds, level_of, passes_its_level, takes_in}
use Rattle.level_policy.specs.Levels.{LevelTree}

or-false : (x : Bool) → x ≡ (x || false)
or-false true = refl
or-false false = refl

and-false : (x : Bool) → false ≡ (x && false)
and-false true = refl
and-false false = refl

and-true : (x : Bool) → x ≡ (x && true)
and-true true = refl
and-true false = refl

or-assoc : (x y z : Bool) → ((x || y) || z) ≡ (x || (y || z))
or-assoc true y z = refl
or-assoc false y z = refl

-- behind the earlier levels: where this one takes the core in its filter decides, and else the further ones
parted : (earlier this passes further : Bool) → (((not earlier && this) && passes) || (not (earlier || (this || false)) && further)) ≡ (not earlier && cond this passes further)
parted true this passes further = refl
parted false true true further = refl
parted false true false further = refl
parted false false passes further = refl

module _ (values : Assignment) where
  holds-narrowed : (beyond within : CondTree) → holds values (narrowed beyond within) ≡ (holds values beyond && holds values within)
  holds-narrowed beyond always = and-true (holds values beyond)
  holds-narrowed beyond (negated c) = refl
  holds-narrowed beyond (both l r) = refl
  holds-narrowed beyond (either l r) = refl
  holds-narrowed beyond (test how l r) = refl

  -- a chain of `or` holds where one of its parts does
  holds-chain : (c : CondTree) (cs : List CondTree) → holds values (fold either c cs) ≡ (holds values c || list_any (holds values) cs)
  holds-chain c [] = or-false (holds values c)
  holds-chain c (d ∷ cs) = holds-chain (either c d) cs ∙ or-assoc (holds values c) (holds values d) (list_any (holds values) cs)

  pub holds-any_of : (cs : List CondTree) → holds values (any_of cs) ≡ list_any (holds values) cs
  holds-any_of [] = refl
  holds-any_of (c ∷ cs) = holds-chain c cs

module _ (own other : CoreValues) where
  -- whether one of the levels takes the core in
  abbrev pub taken_in : List LevelTree → Bool
  taken_in levels = list_any (takes_in own other) levels

  -- whether the core passes the filter of the first of these levels that takes it in
  abbrev pub passes_first : List LevelTree → Bool
  passes_first [] = false
  passes_first (level ∷ levels) = cond (takes_in own other level) (holds (pair_values own other) level.filter) (passes_first levels)

  any-within : (levels : List LevelTree) → list_any (holds (pair_values own other)) (map (λ (level : LevelTree). level.within) levels) ≡ taken_in levels
  any-within [] = refl
  any-within (level ∷ levels) = ap (λ rest. takes_in own other level || rest) (any-within levels)

  pub holds-near : (levels : List LevelTree) → holds (pair_values own other) (near levels) ≡ taken_in levels
  holds-near levels = holds-any_of (pair_values own other) (map (λ (level : LevelTree). level.within) levels) ∙ any-within levels

  holds-belonging : (earlier : List LevelTree) (level : LevelTree) → holds (pair_values own other) (belonging earlier level) ≡ (not (taken_in earlier) && takes_in own other level)
  holds-belonging [] level = refl
  holds-belonging (first ∷ earlier) level =
      holds-narrowed (pair_values own other) (negated (near (first ∷ earlier))) level.within
      ∙ ap (λ near. not near && takes_in own other level) (holds-near (first ∷ earlier))

  -- one of the filters holds: no earlier level takes the core in, and it passes the first that does
  any-filters : (earlier levels : List LevelTree) → list_any (holds (pair_values own other)) (level_filters earlier levels) ≡ (not (taken_in earlier) && passes_first levels)
  any-filters earlier [] = and-false (not (taken_in earlier))
  any-filters earlier (level ∷ levels) =
      let passes = holds (pair_values own other) level.filter in
      ap (λ rest. (holds (pair_values own other) (belonging earlier level) && passes) || rest) (any-filters (earlier ++ level ∷ []) levels)
      ∙ (ap (λ belongs. (belongs && passes) || (not (taken_in (earlier ++ level ∷ [])) && passes_first levels)) (holds-belonging earlier level)
      ∙ (ap (λ near. ((not (taken_in earlier) && takes_in own other level) && passes) || (not near && passes_first levels)) (list_any-append (takes_in own other) earlier (level ∷ []))
      ∙ parted (taken_in earlier) (takes_in own other level) passes (passes_first levels)))

  pub holds-compiled : (levels : List LevelTree) → holds (pair_values own other) (compiled_filter levels) ≡ passes_first levels
  holds-compiled levels = holds-any_of (pair_values own other) (level_filters [] levels) ∙ any-filters [] levels

-- a place is counted from where the count began
position-suc : {X : Type 0} (asked : X → Bool) (i : ℕ) (xs : List X) → position_from asked (i + 1) xs ≡ option_map suc (position_from asked i xs)
position-suc asked i [] = refl
position-suc asked i (x ∷ xs) =
    elim (asked x) as (λ b. cond b (Some (i + 1)) (position_from asked (i + 1 + 1) xs) ≡ option_map suc (cond b (Some i) (position_from asked (i + 1) xs))) [
      | true ↦ let e : i + 1 ≡ suc i = omega arith in ap (λ n. Some n) e
      | false ↦ position-suc asked (i + 1) xs
    ]

-- what stands one place further behind one item more
get-suc : (level : LevelTree) (levels : List LevelTree) (found : Option ℕ) → option_and_then (slice_get (level ∷ levels)) (option_map suc found) ≡ option_and_then (slice_get levels) found
get-suc level levels None = refl
get-suc level levels (Some at) = refl

module _ (own other : CoreValues) where
  pub passes-first : (levels : List LevelTree) → passes_its_level levels own other ≡ passes_first own other levels
  unfolding level_of
  passes-first [] = refl
  passes-first (level ∷ levels) =
      let values = pair_values own other in
      elim (takes_in own other level) as (λ b. filter_holds values (option_and_then (slice_get (level ∷ levels)) (cond b (Some 0) (position_from (takes_in own other) 1 levels))) ≡ cond b (holds values level.filter) (passes_first own other levels)) [
        | true ↦ refl
        | false ↦ ap (λ (found : Option ℕ). filter_holds values (option_and_then (slice_get (level ∷ levels)) found)) (position-suc (takes_in own other) 0 levels)
            ∙ (ap (filter_holds values) (get-suc level levels (position_from (takes_in own other) 0 levels))
            ∙ passes-first levels)
      ]

pub level_filter_law : LevelFilterLaw
level_filter_law l own other = holds-compiled own other l.levels ∙ sym (passes-first own other l.levels)
