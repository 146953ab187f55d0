-- Values that agree on what a condition may refer to give it the same outcome.
use Rattle.std.proofs.Common.{◌≡◌, ℕ, zero, suc, ◌-◌, ◌<◌, ◌≤◌, ℤ, pos, ◌+ℤ◌, ◌-ℤ◌, ◌*ℤ◌, neg_ℤ, Bool, true, not, ◌&&◌, ◌||◌, ◌⊎◌, ⊎_elim, List, ◌∷◌, ◌++◌, length, get_or, refl, sym, ap, ap₂, ◌∙◌, arith}
use Rattle.std.proofs.lemmas.Bool.Decides.{nat_tests}
use Rattle.std.proofs.lemmas.List.{get_or_append_left, get_or-append_right, length-append}
use Rattle.policy_tree.specs.declared.typed.Event.{Event}
use Rattle.policy_tree.specs.declared.typed.Event.TheVariants as event
use Rattle.policy_tree.specs.Trees.{ExprTree, number, variable, negation, plus, minus, times, CondTree, always, negated, both, either, test}
use Rattle.policy_tree.specs.Meaning.{Meaning}
use Rattle.policy_eval.specs.Forms.{EachSide, RefersTo}
use Rattle.policy_eval.specs.Sights.{assigned}
use Rattle.policy_eval.specs.Sites.{allows, filtering, going_on, handling}
use Rattle.policy_eval.specs.Values.{Assignment, compared, holds, value_of, variable_of}

-- the values agree on the variables that are allowed
abbrev pub Agree : (ℕ → Bool) → Assignment → Assignment → Type 0
Agree allowed xs ys = (v : ℕ) → allowed v ≡ true → variable_of xs v ≡ variable_of ys v

module _ (allowed : ℕ → Bool) (xs ys : Assignment) (agree : Agree allowed xs ys) where
  same_value : (e : ExprTree) → RefersTo allowed e → value_of xs e ≡ value_of ys e
  same_value (number n) refers = refl
  same_value (variable at) refers = agree at refers
  same_value (negation e) refers = ap neg_ℤ (same_value e refers)
  same_value (plus l r) refers = ap₂ (λ x y. x +ℤ y) (same_value l refers.0) (same_value r refers.1)
  same_value (minus l r) refers = ap₂ (λ x y. x -ℤ y) (same_value l refers.0) (same_value r refers.1)
  same_value (times l r) refers = ap₂ (λ x y. x *ℤ y) (same_value l refers.0) (same_value r refers.1)

  pub same_holds : (c : CondTree) → EachSide (RefersTo allowed) c → holds xs c ≡ holds ys c
  same_holds always sides = refl
  same_holds (negated c) sides = ap not (same_holds c sides)
  same_holds (both l r) sides = ap₂ (λ a b. a && b) (same_holds l sides.0) (same_holds r sides.1)
  same_holds (either l r) sides = ap₂ (λ a b. a || b) (same_holds l sides.0) (same_holds r sides.1)
  same_holds (test how l r) sides = ap₂ (compared how) (same_value l sides.0) (same_value r sides.1)

-- the values of a pair of cores stand first
first_four : (nr load victim_nr victim_load : ℕ) (xs ys : List ℤ) (at : ℕ) → at < 4
    → variable_of (pos nr ∷ pos load ∷ pos victim_nr ∷ pos victim_load ∷ xs) at ≡ variable_of (pos nr ∷ pos load ∷ pos victim_nr ∷ pos victim_load ∷ ys) at
first_four nr load victim_nr victim_load xs ys zero lt = refl
first_four nr load victim_nr victim_load xs ys (suc zero) lt = refl
first_four nr load victim_nr victim_load xs ys (suc (suc zero)) lt = refl
first_four nr load victim_nr victim_load xs ys (suc (suc (suc zero))) lt = refl
first_four nr load victim_nr victim_load xs ys (suc (suc (suc (suc at)))) lt = absurd (omega arith)

-- a variable of an attribute, by its place behind the first six
behind_six : (at : ℕ) → 6 ≤ at → at ≡ suc (suc (suc (suc (suc (suc (at - 6))))))
behind_six at le = omega arith

module _ (nr load victim_nr victim_load weight fresh : ℕ) (own victims attrs : List ℤ) where
  attribute_at : (at : ℕ) → 6 ≤ at → variable_of (assigned nr load victim_nr victim_load weight fresh own victims attrs) at ≡ get_or (own ++ victims ++ attrs) (at - 6) (pos 0)
  attribute_at at le = ap (variable_of (assigned nr load victim_nr victim_load weight fresh own victims attrs)) (behind_six at le)

  -- those of cores come before those of the thread
  core_attribute : length own ≡ 8 → length victims ≡ 8 → (at : ℕ) → 6 ≤ at → at < 22
      → variable_of (assigned nr load victim_nr victim_load weight fresh own victims attrs) at ≡ get_or (own ++ victims) (at - 6) (pos 0)
  core_attribute own_long victims_long at le lt =
      let long = length-append own victims in
      attribute_at at le ∙ get_or_append_left (own ++ victims) attrs (pos 0) (at - 6) (omega arith)

  own_attribute : length own ≡ 8 → length victims ≡ 8 → (at : ℕ) → 6 ≤ at → at < 14
      → variable_of (assigned nr load victim_nr victim_load weight fresh own victims attrs) at ≡ get_or own (at - 6) (pos 0)
  own_attribute own_long victims_long at le lt =
      core_attribute own_long victims_long at le (omega arith) ∙ get_or_append_left own victims (pos 0) (at - 6) (omega arith)

  thread_attribute : length own ≡ 8 → length victims ≡ 8 → (at : ℕ) → 22 ≤ at
      → variable_of (assigned nr load victim_nr victim_load weight fresh own victims attrs) at ≡ get_or attrs (at - 6 - 16) (pos 0)
  thread_attribute own_long victims_long at le =
      let long = length-append own victims in
      attribute_at at (omega arith) ∙ get_or-append_right (own ++ victims) attrs 16 (at - 6) (pos 0) (omega arith) (omega arith)

  weight_at : (at : ℕ) → at ≡ 4 → variable_of (assigned nr load victim_nr victim_load weight fresh own victims attrs) at ≡ pos weight
  weight_at at is = ap (variable_of (assigned nr load victim_nr victim_load weight fresh own victims attrs)) is

  fresh_at : (at : ℕ) → at ≡ 5 → variable_of (assigned nr load victim_nr victim_load weight fresh own victims attrs) at ≡ pos fresh
  fresh_at at is = ap (variable_of (assigned nr load victim_nr victim_load weight fresh own victims attrs)) is

module _ (p : Meaning) (few_core : length p.core_attrs ≤ 8) (few_thread : length p.thread_attrs ≤ 8) where
  pair_places : (at : ℕ) → allows p filtering at ≡ true → (at < 4) ⊎ ((6 ≤ at) × (at < 22))
  pair_places at e = grind (arith, nat_tests)

  -- a pair of cores is seen alike whatever the weight, whether the thread is fresh, and the thread's attributes
  pub pair_agrees : (own victims : List ℤ) → length own ≡ 8 → length victims ≡ 8
      → (nr load victim_nr victim_load weight fresh other_weight other_fresh : ℕ) (attrs other_attrs : List ℤ)
      → Agree (allows p filtering) (assigned nr load victim_nr victim_load weight fresh own victims attrs) (assigned nr load victim_nr victim_load other_weight other_fresh own victims other_attrs)
  pair_agrees own victims own_long victims_long nr load victim_nr victim_load weight fresh other_weight other_fresh attrs other_attrs at allowed =
      ⊎_elim
      (λ (low : at < 4). first_four nr load victim_nr victim_load (pos weight ∷ pos fresh ∷ (own ++ victims ++ attrs)) (pos other_weight ∷ pos other_fresh ∷ (own ++ victims ++ other_attrs)) at low)
      (λ (high : (6 ≤ at) × (at < 22)).
      core_attribute nr load victim_nr victim_load weight fresh own victims attrs own_long victims_long at high.0 high.1
      ∙ sym (core_attribute nr load victim_nr victim_load other_weight other_fresh own victims other_attrs own_long victims_long at high.0 high.1))
      (pair_places at allowed)

  move_places : (at : ℕ) → allows p going_on at ≡ true → (at < 4) ⊎ ((at ≡ 4) ⊎ (6 ≤ at))
  move_places at e = grind (arith, nat_tests)

  -- a further move is seen alike whether the thread is fresh
  pub move_agrees : (own victims attrs : List ℤ) (nr load victim_nr victim_load weight fresh other_fresh : ℕ)
      → Agree (allows p going_on) (assigned nr load victim_nr victim_load weight fresh own victims attrs) (assigned nr load victim_nr victim_load weight other_fresh own victims attrs)
  move_agrees own victims attrs nr load victim_nr victim_load weight fresh other_fresh at allowed =
      ⊎_elim
      (λ (low : at < 4). first_four nr load victim_nr victim_load (pos weight ∷ pos fresh ∷ (own ++ victims ++ attrs)) (pos weight ∷ pos other_fresh ∷ (own ++ victims ++ attrs)) at low)
      (⊎_elim
      (λ (is : at ≡ 4). weight_at nr load victim_nr victim_load weight fresh own victims attrs at is ∙ sym (weight_at nr load victim_nr victim_load weight other_fresh own victims attrs at is))
      (λ (high : 6 ≤ at). attribute_at nr load victim_nr victim_load weight fresh own victims attrs at high
      ∙ sym (attribute_at nr load victim_nr victim_load weight other_fresh own victims attrs at high)))
      (move_places at allowed)

  event_places : (e : Event) (at : ℕ) → allows p (handling e) at ≡ true → ((at ≡ 4) ⊎ (at ≡ 5)) ⊎ (((6 ≤ at) × (at < 14)) ⊎ (22 ≤ at))
  event_places event.Enqueue at e = grind (arith, nat_tests)
  event_places event.Tick at e = grind (arith, nat_tests)
  event_places event.Yield at e = grind (arith, nat_tests)
  event_places event.Block at e = grind (arith, nat_tests)

  -- an event is seen alike whatever the values of the pair of cores, and the victim's attributes
  pub event_agrees : (e : Event) (own victims others attrs : List ℤ) → length own ≡ 8 → length victims ≡ 8 → length others ≡ 8
      → (nr load victim_nr victim_load weight fresh : ℕ)
      → Agree (allows p (handling e)) (assigned nr load victim_nr victim_load weight fresh own victims attrs) (assigned 0 0 0 0 weight fresh own others attrs)
  event_agrees e own victims others attrs own_long victims_long others_long nr load victim_nr victim_load weight fresh at allowed =
      ⊎_elim
      (⊎_elim
      (λ (is : at ≡ 4). weight_at nr load victim_nr victim_load weight fresh own victims attrs at is ∙ sym (weight_at 0 0 0 0 weight fresh own others attrs at is))
      (λ (is : at ≡ 5). fresh_at nr load victim_nr victim_load weight fresh own victims attrs at is ∙ sym (fresh_at 0 0 0 0 weight fresh own others attrs at is)))
      (⊎_elim
      (λ (high : (6 ≤ at) × (at < 14)).
      own_attribute nr load victim_nr victim_load weight fresh own victims attrs own_long victims_long at high.0 high.1
      ∙ sym (own_attribute 0 0 0 0 weight fresh own others attrs own_long others_long at high.0 high.1))
      (λ (high : 22 ≤ at).
      thread_attribute nr load victim_nr victim_load weight fresh own victims attrs own_long victims_long at high
      ∙ sym (thread_attribute 0 0 0 0 weight fresh own others attrs own_long others_long at high)))
      (event_places e at allowed)
