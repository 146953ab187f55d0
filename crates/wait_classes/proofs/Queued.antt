-- What the tests on a policy's cases say of each case.
use Rattle.std.proofs.Common.{◌≡◌, zero, suc, Bool, true, List, [], ◌∷◌, All, refl, arith}
use Rattle.std.proofs.lemmas.Bool.{and_from, and_parts}
use Rattle.std.specs.List.{list_all}
use Rattle.policy_tree.specs.declared.typed.Event.{Event}
use Rattle.policy_tree.specs.declared.typed.Event.TheVariants as event
use Rattle.policy_tree.specs.declared.typed.Put.{Put}
use Rattle.policy_tree.specs.declared.typed.Put.TheVariants as put
use Rattle.policy_tree.specs.Meaning.{CaseTree, Meaning, cases_on}
use Rattle.waiting_laws.specs.Waiting.{PutsToQueue}
use Rattle.wait_classes.specs.declared.rules.Rule.{Rule}
use Rattle.wait_classes.specs.declared.rules.Rule.TheVariants as rule
use Rattle.wait_classes.specs.Rules.{is_queue, obeys, obeys_after_units, obeys_on}

-- what holds of each item whose test is true
each_of : {X : Type 0} (test : X → Bool) (P : X → Type 0) → ((x : X) → test x ≡ true → P x) → (xs : List X) → list_all test xs ≡ true → All P xs
each_of test P gives [] all k d inside = absurd (omega arith)
each_of test P gives (x ∷ xs) all zero d inside = gives x (and_parts (test x) (list_all test xs) all).0
each_of test P gives (x ∷ xs) all (suc k) d inside = each_of test P gives xs (and_parts (test x) (list_all test xs) all).1 k d (omega arith)

all_of : {X : Type 0} (test : X → Bool) (P : X → Type 0) → ((x : X) → P x → test x ≡ true) → (xs : List X) → All P xs → list_all test xs ≡ true
all_of test P gives [] each = refl
all_of test P gives (x ∷ xs) each =
    and_from (test x) (list_all test xs) (gives x (each 0 x (omega arith))) (all_of test P gives xs (λ k d inside. each (suc k) d (omega arith)))

pub queue_is : (where_to : Put) → is_queue where_to ≡ true → where_to ≡ put.Queue
queue_is put.Queue is = refl
queue_is put.Keep is = absurd (cc)
queue_is put.Block is = absurd (cc)

is_a_queue : (where_to : Put) → where_to ≡ put.Queue → is_queue where_to ≡ true
is_a_queue put.Queue is = refl
is_a_queue put.Keep is = absurd (cc)
is_a_queue put.Block is = absurd (cc)

module _ (p : Meaning) where
  pub each_case : (asked : Rule) (P : CaseTree → Type 0) → ((c : CaseTree) → obeys asked c ≡ true → P c) → (e : Event) → obeys_on asked p e ≡ true → All P (cases_on p.handlers e)
  each_case asked P gives e is = each_of (obeys asked) P gives (cases_on p.handlers e) is

  pub both_events : (asked : Rule) → obeys_after_units asked p ≡ true → (obeys_on asked p event.Tick ≡ true) × (obeys_on asked p event.Yield ≡ true)
  both_events asked is = and_parts (obeys_on asked p event.Tick) (obeys_on asked p event.Yield) is

  pub all_queue : All PutsToQueue (cases_on p.handlers event.Tick) → All PutsToQueue (cases_on p.handlers event.Yield) → obeys_after_units rule.Queues p ≡ true
  all_queue tick yields =
      and_from (obeys_on rule.Queues p event.Tick) (obeys_on rule.Queues p event.Yield)
      (all_of (obeys rule.Queues) PutsToQueue (λ c. is_a_queue c.put) (cases_on p.handlers event.Tick) tick)
      (all_of (obeys rule.Queues) PutsToQueue (λ c. is_a_queue c.put) (cases_on p.handlers event.Yield) yields)
