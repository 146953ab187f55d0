-- The choice under the compiled policy is the choice by levels: the keys of the levels part the candidates level by
-- level, and the keys of the text choose within one.
use Rattle.std.proofs.Common.{◌≡◌, ℕ, zero, suc, ◌+◌, ◌-◌, ◌==◌, Bool, true, false, cond, not, ◌&&◌, ◌||◌, List, [], ◌∷◌, ◌++◌, filter, length, map, take, Option, Some, None, refl, sym, ap, ◌∙◌, subst, arith, append_assoc, length-append}
use Rattle.std.specs.List.{AllByRecursion, range_with_len}
use Rattle.std.specs.Option.{option_or}
use Rattle.std.proofs.lemmas.List.Elements.{filter_agree}
use Rattle.std.proofs.lemmas.List.Folds.{list_any-append, list_any_kept}
use Rattle.policy_tree.specs.Meaning.{KeyTree, Meaning}
use Rattle.policy_eval.specs.declared.env.CoreValues.{CoreValues}
use Rattle.policy_eval.specs.Orders.{best_of}
use Rattle.policy_eval.specs.Sights.{pair_values}
use Rattle.policy_eval.specs.Values.{holds}
use Rattle.round_model.specs.Choices.{candidates_of, choice_of, is_candidate, prefers}
use Rattle.level_policy.specs.Compiled.{compiled, near, nearer}
use Rattle.level_policy.specs.LevelChoices.{first_some, is_level_candidate, level_best, level_choice, prefers_by, takes_in}
use Rattle.level_policy.specs.Levels.{LevelTree, LevelsMeaning}
use Rattle.level_policy.proofs.Passing.{holds-compiled, holds-near, passes_first, taken_in}
use Rattle.level_laws.specs.LevelChoiceLaw.{LevelChoiceLaw}
use Rattle.level_laws.proofs.Lists.{each_more, filter_same, filter_twice, none_best, none_pass, nothing_left, those_pass}
use Rattle.level_laws.proofs.Numbers.{in_level}
use Rattle.level_laws.proofs.Parting.{best_by, key_in_vain, meets, parted_best}

or-none : {X : Type 0} (o : Option X) → option_or o None ≡ o
or-none None = refl
or-none (Some x) = refl

-- what comes second plays a part only where nothing comes first
or-same : {X : Type 0} (o x y : Option X) → (o ≡ None → x ≡ y) → option_or o x ≡ option_or o y
or-same None x y same = same refl
or-same (Some z) x y same = refl

-- of the cores beyond the earlier levels, those that the next level takes in: they pass its filter
next_taken : (another earlier this passes further : Bool) → ((another && (not earlier && cond this passes further)) && (earlier || (this || false))) ≡ (another && ((not earlier && this) && passes))
next_taken false earlier this passes further = refl
next_taken true true this passes further = refl
next_taken true false true true further = refl
next_taken true false true false further = refl
next_taken true false false passes true = refl
next_taken true false false passes false = refl

-- where there is no further level those are all
last_taken : (another earlier this passes : Bool) → (another && (not earlier && cond this passes false)) ≡ (another && ((not earlier && this) && passes))
last_taken another true this passes = refl
last_taken another false true passes = refl
last_taken another false false passes = refl

-- a core that is no candidate of the next level lies beyond it, or passes no filter
next_missed : (another earlier this passes further : Bool) → (another && ((not earlier && this) && passes)) ≡ false
    → (another && (not earlier && cond this passes further)) ≡ (another && (not (earlier || (this || false)) && further))
next_missed false earlier this passes further is = refl
next_missed true true this passes further is = refl
next_missed true false true true further is = absurd (cc)
next_missed true false true false further is = refl
next_missed true false false passes further is = refl

take-one : {X : Type 0} (before : List X) (x : X) (after : List X) → take (length before + 1) (before ++ x ∷ after) ≡ before ++ x ∷ []
take-one [] x after = refl
take-one {X} (y ∷ before) x after =
    let e : suc (length before) + 1 ≡ suc (length before + 1) = omega arith in
    ap (λ n. take n (y ∷ (before ++ x ∷ after))) e ∙ ap (λ (rest : List X). y ∷ rest) (take-one before x after)

module _ (l : LevelsMeaning) (cores : ℕ) (values : ℕ → CoreValues) (a : ℕ) where
  abbrev all : List ℕ
  all = range_with_len 0 cores

  -- whether one of the levels takes the core in, for the core a
  abbrev taken : List LevelTree → ℕ → Bool
  taken levels v = taken_in (values a) (values v) levels

  -- whether the core is another one, lies beyond the earlier levels, and passes the filter of the first of the others
  -- that takes it in
  abbrev beyond : List LevelTree → List LevelTree → ℕ → Bool
  beyond earlier levels v = not (a == v) && (not (taken earlier v) && passes_first (values a) (values v) levels)

  -- the keys of the levels from that number on, and those of the text
  abbrev keys_from : ℕ → ℕ → List KeyTree
  keys_from from count = map (nearer l.levels) (range_with_len from count) ++ l.plain.choose

  -- the keys of further levels are in vain among the cores that the levels so far take in
  keys_in_vain : (from count : ℕ) (chosen : List ℕ) → AllByRecursion (λ v. taken (take from l.levels) v ≡ true) chosen
      → best_by values a (keys_from from count) chosen ≡ best_by values a l.plain.choose chosen
  keys_in_vain from zero chosen are = refl
  keys_in_vain from (suc count) chosen are =
      key_in_vain values a (near (take from l.levels)) (keys_from (from + 1) count) true chosen
      (each_more (λ v. taken (take from l.levels) v ≡ true) (λ v. meets values a (near (take from l.levels)) v ≡ true)
      (λ v is. holds-near (values a) (values v) (take from l.levels) ∙ is) chosen are)
      ∙ keys_in_vain (from + 1) count chosen (each_more (λ v. taken (take from l.levels) v ≡ true) (λ v. taken (take (from + 1) l.levels) v ≡ true)
      (λ v is. list_any_kept (takes_in (values a) (values v)) l.levels from is) chosen are)

  module _ (earlier : List LevelTree) (level : LevelTree) (later : List LevelTree) (split : l.levels ≡ earlier ++ level ∷ later) where
    -- whether the core is a candidate of this level
    abbrev here : ℕ → Bool
    here v = is_level_candidate l.levels values a (length earlier) v

    is_here : (v : ℕ) → here v ≡ (not (a == v) && ((not (taken earlier v) && takes_in (values a) (values v) level) && holds (pair_values (values a) (values v)) level.filter))
    is_here v =
        ap (λ (levels : List LevelTree). is_level_candidate levels values a (length earlier) v) split
        ∙ ap (λ b. not (a == v) && b) (in_level (values a) (values v) earlier level later)

    -- the levels up to this one
    taken_up_to : (v : ℕ) → taken (take (length earlier + 1) l.levels) v ≡ (taken earlier v || (takes_in (values a) (values v) level || false))
    taken_up_to v =
        ap (λ (levels : List LevelTree). taken (take (length earlier + 1) levels) v) split
        ∙ (ap (λ (levels : List LevelTree). taken levels v) (take-one earlier level later)
        ∙ list_any-append (takes_in (values a) (values v)) earlier (level ∷ []))

    -- the key behind this level's candidates takes just them
    taken_here : (v : ℕ) → (beyond earlier (level ∷ later) v && meets values a (near (take (length earlier + 1) l.levels)) v) ≡ here v
    taken_here v =
        let own = values a in let other = values v in
        ap (λ b. beyond earlier (level ∷ later) v && b) (holds-near own other (take (length earlier + 1) l.levels) ∙ taken_up_to v)
        ∙ (next_taken (not (a == v)) (taken earlier v) (takes_in own other level) (holds (pair_values own other) level.filter) (passes_first own other later)
        ∙ sym (is_here v))

    -- so it is of a candidate
    here_taken : (v : ℕ) → here v ≡ true → taken (take (length earlier + 1) l.levels) v ≡ true
    here_taken v is = taken_up_to v ∙ held (not (a == v)) (taken earlier v) (takes_in (values a) (values v) level) (holds (pair_values (values a) (values v)) level.filter) (sym (is_here v) ∙ is)
      where
        held : (another before this passes : Bool) → (another && ((not before && this) && passes)) ≡ true → (before || (this || false)) ≡ true
        held another true this passes is = refl
        held another false true passes is = refl
        held true false false passes is = absurd (cc)
        held false false false passes is = absurd (cc)

    -- and of the next levels too
    here_taken_on : (v : ℕ) → here v ≡ true → taken (take (length earlier + 1 + 1) l.levels) v ≡ true
    here_taken_on v is = list_any_kept (takes_in (values a) (values v)) l.levels (length earlier + 1) (here_taken v is)

    -- this level's best, by the keys of the next levels and those of the text
    best_here : (count : ℕ) → best_by values a (keys_from (length earlier + 1 + 1) count) (filter here all) ≡ level_best l cores values a (length earlier)
    unfolding level_best
    best_here count =
        keys_in_vain (length earlier + 1 + 1) count (filter here all)
        (each_more (λ v. here v ≡ true) (λ v. taken (take (length earlier + 1 + 1) l.levels) v ≡ true) here_taken_on (filter here all) (those_pass here all))

    -- where this level has no candidate those of the others are left
    none_here : level_best l cores values a (length earlier) ≡ None → filter (beyond earlier (level ∷ later)) all ≡ filter (beyond (earlier ++ level ∷ []) later) all
    unfolding level_best
    none_here is =
        filter_same (beyond earlier (level ∷ later)) (beyond (earlier ++ level ∷ []) later) (λ v. here v ≡ false)
        (λ v missed. let own = values a in let other = values v in
        next_missed (not (a == v)) (taken earlier v) (takes_in own other level) (holds (pair_values own other) level.filter) (passes_first own other later) (sym (is_here v) ∙ missed)
        ∙ ap (λ b. not (a == v) && (not b && passes_first own other later)) (sym (list_any-append (takes_in own other) earlier (level ∷ []))))
        all (none_pass here all (none_best (prefers_by l.plain.choose values a) (filter here all) is))

  -- from this level on
  from_level : (earlier : List LevelTree) (level : LevelTree) (later : List LevelTree) → l.levels ≡ earlier ++ level ∷ later
      → best_by values a (keys_from (length earlier + 1) (length later)) (filter (beyond earlier (level ∷ later)) all)
      ≡ first_some (map (level_best l cores values a) (range_with_len (length earlier) (suc (length later))))
  unfolding level_best
  from_level earlier level [] split =
      ap (best_by values a l.plain.choose) (filter_agree (beyond earlier (level ∷ [])) (here earlier level [] split) (λ v.
      last_taken (not (a == v)) (taken earlier v) (takes_in (values a) (values v) level) (holds (pair_values (values a) (values v)) level.filter)
      ∙ sym (is_here earlier level [] split v)) all)
      ∙ sym (or-none (level_best l cores values a (length earlier)))
  from_level earlier level (next ∷ later) split =
      let n = length earlier in let behind = keys_from (n + 1 + 1) (length later) in
      let those = filter (beyond earlier (level ∷ next ∷ later)) all in
      let is_next : length (earlier ++ level ∷ []) ≡ n + 1 = length-append earlier (level ∷ []) in
      let further = from_level (earlier ++ level ∷ []) next later (split ∙ sym (append_assoc earlier (level ∷ []) (next ∷ later))) in
      parted_best values a (near (take (n + 1) l.levels)) behind those
      ∙ (ap (λ (o : Option ℕ). option_or o (best_by values a behind those)) (
      ap (best_by values a behind) (filter_twice (beyond earlier (level ∷ next ∷ later)) (meets values a (near (take (n + 1) l.levels))) all
      ∙ filter_agree (λ v. beyond earlier (level ∷ next ∷ later) v && meets values a (near (take (n + 1) l.levels)) v) (here earlier level (next ∷ later) split)
      (taken_here earlier level (next ∷ later) split) all)
      ∙ best_here earlier level (next ∷ later) split (length later))
      ∙ or-same (level_best l cores values a n) (best_by values a behind those) (first_some (map (level_best l cores values a) (range_with_len (n + 1) (suc (length later))))) (λ none.
      ap (best_by values a behind) (none_here earlier level (next ∷ later) split none)
      ∙ subst (λ k. best_by values a (keys_from (k + 1) (length later)) (filter (beyond (earlier ++ level ∷ []) (next ∷ later)) all)
      ≡ first_some (map (level_best l cores values a) (range_with_len k (suc (length later))))) is_next further))

no_level : (b : Bool) → (b && false) ≡ false
no_level true = refl
no_level false = refl

by_levels : (plain : Meaning) (levels : List LevelTree) (cores : ℕ) (values : ℕ → CoreValues) (a : ℕ)
    → let l : LevelsMeaning = record { plain = plain; levels = levels } in choice_of (compiled l) cores values a ≡ level_choice l cores values a
unfolding choice_of candidates_of level_choice
by_levels plain [] cores values a =
    let l : LevelsMeaning = record { plain = plain; levels = [] } in
    ap (best_of (prefers (compiled l) values a)) (nothing_left (is_candidate (compiled l) values a) (λ v. no_level (not (a == v))) (range_with_len 0 cores))
by_levels plain (level ∷ later) cores values a =
    let l : LevelsMeaning = record { plain = plain; levels = level ∷ later } in
    let e : length (level ∷ later) - 1 ≡ length later = omega arith in
    ap (best_of (prefers (compiled l) values a)) (filter_agree (is_candidate (compiled l) values a) (beyond l cores values a [] (level ∷ later))
    (λ v. ap (λ b. not (a == v) && b) (holds-compiled (values a) (values v) (level ∷ later))) (range_with_len 0 cores))
    ∙ (ap (λ n. best_by values a (map (nearer (level ∷ later)) (range_with_len 1 n) ++ plain.choose) (filter (beyond l cores values a [] (level ∷ later)) (range_with_len 0 cores))) e
    ∙ from_level l cores values a [] level later refl)

pub level_choice_law : LevelChoiceLaw
level_choice_law l cores values a = by_levels l.plain l.levels cores values a
