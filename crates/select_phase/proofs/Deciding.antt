-- What follows from what was read: a choice, and a target.
use Rattle.std.proofs.Common.{◌≡◌, ◌≢◌, ℕ, ◌<◌, ◌≤◌, eqb, not, ◌&&◌, ◌↔◌, Bool, true, false, cond, List, [], ◌∷◌, filter, length, take, All, IfSome, Option, Some, None, refl, sym, ap, ◌∙◌, subst, arith, slice_index}
use Rattle.std.specs.List.{AllByRecursion, range_with_len}
use Rattle.std.proofs.lemmas.Bool.Decides.{nat_tests}
use Rattle.std.proofs.lemmas.List.{length-take}
use Rattle.policy_tree.specs.declared.typed.PlaceRule.{PlaceRule}
use Rattle.policy_tree.specs.declared.typed.PlaceRule.TheVariants as rule
use Rattle.policy_tree.specs.Meaning.{Meaning, place_tree}
use Rattle.policy_eval.specs.declared.env.CoreValues.{CoreValues}
use Rattle.policy_eval.specs.Fitting.{CoreFits}
use Rattle.policy_eval.specs.Orders.{best_of, better_of}
use Rattle.policy_eval.specs.Resolved.{IsResolved}
use Rattle.policy_eval.specs.Sights.{pair_values}
use Rattle.policy_eval.specs.Values.{holds}
use Rattle.round_model.specs.declared.state.CountAndLoad.{CountAndLoad}
use Rattle.round_model.specs.Choices.{candidates_of, choice_of, is_candidate, prefers, target_by, target_of, values_in}
use Rattle.round_model.proofs.Outcomes.{choice_same, target_same, target_there, values_All, values_in-take}
use Rattle.core_table.specs.declared.views.View.{View}
use Rattle.core_table.specs.Views.{meaning_in}
use Rattle.core_table.specs.Told.{IsKnown}
use Rattle.select_phase.specs.Seen.{Looked, Placed, ReadFor, values_read}
use Rattle.select_phase.specs.Glances.{AreGlanced, seen_in}
use Rattle.select_phase.proofs.Reading.{read_fits}

-- there is no choice exactly where there is no candidate
none_best : {X : Type 0} (better : X → X → Bool) (xs : List X) → (best_of better xs ≡ None) ↔ (xs ≡ [])
none_best better [] = (λ is. refl, λ is. refl)
none_best better (x ∷ xs) = (λ is. absurd (cc), λ is. absurd (cc))

pub none_chosen : (p : Meaning) (n : ℕ) (f : ℕ → CoreValues) (a : ℕ) → (choice_of p n f a ≡ None) ↔ (candidates_of p n f a ≡ [])
unfolding choice_of
none_chosen p n f a = none_best (prefers p f a) (candidates_of p n f a)

-- what holds of each item holds of the best
best_among : {X : Type 0} (better : X → X → Bool) (P : X → Type 0) (xs : List X) → AllByRecursion P xs → IfSome (best_of better xs) P
best_among better P [] are = tt
best_among better P (x ∷ xs) are = member (best_of better xs) (best_among better P xs are.1)
  where
    member : (o : Option _) → IfSome o P → P (better_of better x o)
    member None is = are.0
    member (Some y) is = elim (better y x) as (λ b. P (cond b y x)) [ true ↦ is | false ↦ are.0 ]

those_that_pass : {X : Type 0} (test : X → Bool) (P : X → Type 0) → ((x : X) → test x ≡ true → P x) → (xs : List X) → AllByRecursion P (filter test xs)
those_that_pass test P passes [] = tt
those_that_pass test P passes (x ∷ xs) =
    elim (test x) as (λ b. test x ≡ b → AllByRecursion P (cond b (x ∷ filter test xs) (filter test xs))) [
      | true ↦ λ e. (passes x e, those_that_pass test P passes xs)
      | false ↦ λ e. those_that_pass test P passes xs
    ] refl

first_of_two : (a b : Bool) → (a && b) ≡ true → a ≡ true
first_of_two true b is = refl
first_of_two false b is = absurd (cc)

another : (p : Meaning) (f : ℕ → CoreValues) (a v : ℕ) → is_candidate p f a v ≡ true → v ≢ a
another p f a v is = let apart = first_of_two (not (eqb a v)) (holds (pair_values (f a) (f v)) p.filter) is in grind (arith, nat_tests)

-- the choice is another core
pub other_chosen : (p : Meaning) (n : ℕ) (f : ℕ → CoreValues) (a : ℕ) → IfSome (choice_of p n f a) (λ c. c ≢ a)
unfolding choice_of candidates_of
other_chosen p n f a = best_among (prefers p f a) (λ c. c ≢ a) (candidates_of p n f a) (those_that_pass (is_candidate p f a) (λ c. c ≢ a) (another p f a) (range_with_len 0 n))

both_of : (o : Option ℕ) (P Q : ℕ → Type 0) → IfSome o P → IfSome o Q → IfSome o (λ c. P c × Q c)
both_of None P Q first second = tt
both_of (Some c) P Q first second = (first, second)

target_inside : (p : Meaning) (n : ℕ) (f : ℕ → CoreValues) (a at : ℕ) → a < n → target_of p n f a ≡ Some at → at < n
target_inside p n f a at own is = subst (λ (o : Option ℕ). IfSome o (λ v. v < n)) is (target_there p n f a own)

-- what is read of each core decides
module _ (v : View) (reads : List ℕ) (values : List CoreValues) (n : ℕ) (q : Meaning) (policy : q ≡ meaning_in v) (cores : n ≡ v.plan.cores) (known : IsKnown v) (glanced : AreGlanced v reads values) where
  pub resolved : IsResolved q
  resolved = subst IsResolved (sym policy) known.1.fits.policy

  deep : n ≤ length values
  deep = let few = known.1.limits.few_cores in let long = glanced.long in omega arith

  pub all_fit : All (CoreFits q) (take n values)
  all_fit = subst (λ p. All (CoreFits p) (take n values)) (sym policy)
      (values_All (CoreFits (meaning_in v)) n values (λ c low.
      let there : c < v.plan.cores = omega arith in
      subst (CoreFits (meaning_in v)) (sym (glanced.each c there)) (read_fits v known.0 c (slice_index reads c) (seen_in values c) there known.1 (glanced.read.each c there)))
      deep)

  many : length (take n values) ≡ v.plan.cores
  many = omega (arith, length-take n values, deep)

  value_is : (c : ℕ) → c < v.plan.cores → values_in (take n values) c ≡ values_read v (seen_in values) c
  value_is c low = values_in-take n values c (omega arith) ∙ glanced.each c low

  pub chosen_is : (core : ℕ) → core < v.plan.cores → choice_of q (length (take n values)) (values_in (take n values)) core ≡ choice_of (meaning_in v) v.plan.cores (values_read v (seen_in values)) core
  chosen_is core low = (λ i. choice_of (policy i) (many i) (values_in (take n values)) core) ∙ choice_same (meaning_in v) v.plan.cores (values_in (take n values)) (values_read v (seen_in values)) value_is core low

  pub target_is : (core : ℕ) → target_of q (length (take n values)) (values_in (take n values)) core ≡ target_of (meaning_in v) v.plan.cores (values_read v (seen_in values)) core
  target_is core = (λ i. target_of (policy i) (many i) (values_in (take n values)) core) ∙ target_same (meaning_in v) v.plan.cores (values_in (take n values)) (values_read v (seen_in values)) value_is core

  pub has_looked : (core : ℕ) (choice : Option ℕ) → core < v.plan.cores → choice ≡ choice_of q (length (take n values)) (values_in (take n values)) core → IfSome choice (λ c. c < length (take n values))
      → Looked v (record { by = core; reads = reads; choice = choice })
  has_looked core choice low is there =
      let chosen = is ∙ chosen_is core low in let p = meaning_in v in let f = values_read v (seen_in values) in let none = none_chosen p v.plan.cores f core in
      record {
        seen = seen_in values;
        core = low;
        read = glanced.read;
        choice = chosen;
        none = (λ e. none.0 (sym chosen ∙ e), λ e. chosen ∙ none.1 e);
        other = both_of choice (λ c. c < v.plan.cores) (λ c. c ≢ core) (subst (λ m. IfSome choice (λ c. c < m)) many there) (subst (λ (o : Option ℕ). IfSome o (λ c. c ≢ core)) (sym chosen) (other_chosen p v.plan.cores f core));
      }

  pub placed_least : (expr : _) (core at : ℕ) → v.policy.place ≡ rule.Least expr → core < v.plan.cores → target_of q (length (take n values)) (values_in (take n values)) core ≡ Some at → Placed v core at reads
  placed_least expr core at least low is =
      let target = sym (target_is core) ∙ is in
      record {
        seen = seen_in values;
        read = subst (λ (r : PlaceRule). ReadFor (place_tree r) v reads (seen_in values)) (sym least) glanced.read;
        target = target;
        there = target_inside (meaning_in v) v.plan.cores (values_read v (seen_in values)) core at low target;
      }

-- a core places a thread on itself, and reads nothing
pub placed_here : (v : View) (core : ℕ) (reads : List ℕ) → v.policy.place ≡ rule.Here → reads ≡ [] → core < v.plan.cores → Placed v core core reads
unfolding target_of
placed_here v core reads here none low =
    let seen : ℕ → CountAndLoad = λ c. record { nr = 0; load = 0 } in
    record {
      seen = seen;
      read = subst (λ (r : PlaceRule). ReadFor (place_tree r) v reads seen) (sym here) none;
      target = ap (λ (r : PlaceRule). target_by (place_tree r) v.plan.cores (values_read v seen) core) here;
      there = low;
    }
