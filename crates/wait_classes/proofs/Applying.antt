-- The law of its class applies to each resolved policy.
use Rattle.std.proofs.Common.{◌≡◌, ℕ, suc, ◌+◌, pos, ◌+ℤ◌, ◌≤ℤ◌, true, cond, List, [], ◌∷◌, slice_get, Option, Some, None, option_map, refl, sym, ap, ◌∙◌, subst, arith, ◌-ℤ◌, unsigned_abs, ◌&&◌}
use Rattle.std.proofs.lemmas.Bool.{and_parts, cond_both}
use Rattle.std.proofs.lemmas.Int.{ints}
use Rattle.policy_tree.specs.declared.typed.Attr.{Attr}
use Rattle.policy_tree.specs.declared.typed.Event.TheVariants as event
use Rattle.policy_tree.specs.Meaning.{CaseTree, KeyTree, Meaning}
use Rattle.policy_eval.specs.Ranges.{declared_range, range}
use Rattle.policy_eval.specs.Resolved.{IsResolved}
use Rattle.waiting_laws.specs.Least.{ElectsLeast, Raises}
use Rattle.waiting_laws.specs.Slices.{KeepsInSlices, LowersIfKeeping}
use Rattle.waiting_laws.specs.Waiting.{PutsToQueue, QueuesAlways}
use Rattle.waiting_laws.proofs.Least.{least_law}
use Rattle.waiting_laws.proofs.Slices.{slices_law}
use Rattle.waiting_laws.proofs.Waiting.{waiting_law}
use Rattle.wait_classes.specs.declared.attributes.Aim.TheVariants as aim
use Rattle.wait_classes.specs.declared.classes.WaitClass.{WaitClass}
use Rattle.wait_classes.specs.declared.classes.WaitClass.TheVariants as wait
use Rattle.wait_classes.specs.declared.rules.Rule.TheVariants as rule
use Rattle.wait_classes.specs.Attributes.{is_moved}
use Rattle.wait_classes.specs.Classes.{HasClass, class_by, class_by_least, class_in_order, class_of, keeps_of, least_of, slices_from}
use Rattle.wait_classes.specs.Electing.{elected_by}
use Rattle.wait_classes.specs.Laws.{BoundsLaw, ClassesLaw, QueueLaw, Waits}
use Rattle.wait_classes.specs.Rules.{is_queue, obeys_after_units}
use Rattle.wait_classes.proofs.Elected.{order_is}
use Rattle.wait_classes.proofs.Falling.{case_lowers}
use Rattle.wait_classes.proofs.Moved.{ends}
use Rattle.wait_classes.proofs.Queued.{all_queue, both_events, each_case, queue_is}
use Rattle.wait_classes.proofs.Rising.{case_raises}

-- the upper end, counted from the lower one
reached : (d : Attr) → d.lo ≤ℤ d.hi → d.hi ≡ d.lo +ℤ pos (unsigned_abs (d.hi -ℤ d.lo))
reached d ordered = omega (arith, ints)

module _ (p : Meaning) where
  queued : p.elect ≡ [] → obeys_after_units rule.Queues p ≡ true → QueuesAlways p
  queued first is =
      let parts = both_events p rule.Queues is in
      record {
        first = first;
        after_tick = each_case p rule.Queues PutsToQueue (λ c. queue_is c.put) event.Tick parts.0;
        after_yield = each_case p rule.Queues PutsToQueue (λ c. queue_is c.put) event.Yield parts.1;
      }

  -- a policy that the law of waiting is about has that class
  has_queue : QueuesAlways p → class_of p ≡ wait.Queue
  has_queue is =
      let each = all_queue p is.after_tick is.after_yield in
      subst (λ (keys : List KeyTree). class_by p keys ≡ wait.Queue) (sym is.first)
      (subst (λ found. cond found wait.Queue (slices_from p 0 p.thread_attrs) ≡ wait.Queue) (sym each) refl)

  module _ (resolved : IsResolved p) where
    sliced : p.elect ≡ [] → (a : ℕ) (d : Attr) → slice_get p.thread_attrs a ≡ Some d → obeys_after_units (rule.Falls a d.lo) p ≡ true → KeepsInSlices p a d.lo (keeps_of d)
    sliced first a d found is =
        let parts = both_events p (rule.Falls a d.lo) is in
        record {
          first = first;
          reaches = ap (option_map declared_range) found ∙ ap (λ high. Some (range d.lo high)) (reached d (ends p resolved a d found));
          after_tick = each_case p (rule.Falls a d.lo) (LowersIfKeeping p a) (case_lowers p resolved a d found) event.Tick parts.0;
          after_yield = each_case p (rule.Falls a d.lo) (LowersIfKeeping p a) (case_lowers p resolved a d found) event.Yield parts.1;
        }

    slices_apply : p.elect ≡ [] → (a : ℕ) (attrs : List Attr) → ((k : ℕ) → slice_get p.thread_attrs (a + k) ≡ slice_get attrs k) → HasClass p (slices_from p a attrs)
    slices_apply first a [] finds = tt
    slices_apply first a (d ∷ attrs) finds =
        cond_both (obeys_after_units (rule.Falls a d.lo) p) (wait.Slices a (keeps_of d)) (slices_from p (suc a) attrs) (HasClass p)
        (λ is. (d.lo, sliced first a d here is)) (λ none. slices_apply first (suc a) attrs later)
      where
        here : slice_get p.thread_attrs a ≡ Some d
        here = let same : a + 0 ≡ a = omega arith in subst (λ n. slice_get p.thread_attrs n ≡ Some d) same (finds 0)

        later : (k : ℕ) → slice_get p.thread_attrs (suc a + k) ≡ slice_get attrs k
        later k = let same : a + suc k ≡ suc a + k = omega arith in subst (λ n. slice_get p.thread_attrs n ≡ slice_get attrs k) same (finds (suc k))

    spent : (a : ℕ) → elected_by p.elect ≡ Some a → (d : Attr) → slice_get p.thread_attrs a ≡ Some d → obeys_after_units (rule.Rises a d.hi) p ≡ true → ElectsLeast p a d.lo d.hi
    spent a elects d found is =
        let parts = both_events p (rule.Rises a d.hi) is in
        record {
          least = order_is p.elect a elects;
          reaches = ap (option_map declared_range) found;
          tick_queues = each_case p (rule.Rises a d.hi) PutsToQueue queues event.Tick parts.0;
          tick_raises = each_case p (rule.Rises a d.hi) (Raises p a d.hi) raises event.Tick parts.0;
          yield_queues = each_case p (rule.Rises a d.hi) PutsToQueue queues event.Yield parts.1;
          yield_raises = each_case p (rule.Rises a d.hi) (Raises p a d.hi) raises event.Yield parts.1;
        }
      where
        queues : (c : CaseTree) → (is_queue c.put && is_moved a (aim.Up d.hi) c.sets) ≡ true → PutsToQueue c
        queues c both = queue_is c.put (and_parts (is_queue c.put) (is_moved a (aim.Up d.hi) c.sets) both).0

        raises : (c : CaseTree) → (is_queue c.put && is_moved a (aim.Up d.hi) c.sets) ≡ true → Raises p a d.hi c
        raises c both = case_raises p resolved a d found c (and_parts (is_queue c.put) (is_moved a (aim.Up d.hi) c.sets) both).1

    least_applies : (a : ℕ) → elected_by p.elect ≡ Some a → (found : Option Attr) → slice_get p.thread_attrs a ≡ found → HasClass p (least_of p a found)
    least_applies a elects None is = tt
    least_applies a elects (Some d) is =
        cond_both (obeys_after_units (rule.Rises a d.hi) p) (wait.Least a) wait.Unknown (HasClass p) (λ each. (d.lo, d.hi, spent a elects d is each)) (λ none. tt)

    by_attribute : (elected : Option ℕ) → elected_by p.elect ≡ elected → HasClass p (class_by_least p elected)
    by_attribute None is = tt
    by_attribute (Some a) is = least_applies a is (slice_get p.thread_attrs a) refl

    by_keys : (keys : List KeyTree) → p.elect ≡ keys → HasClass p (class_by p keys)
    by_keys [] is =
        cond_both (obeys_after_units rule.Queues p) wait.Queue (slices_from p 0 p.thread_attrs) (HasClass p) (queued is)
        (λ none. slices_apply is 0 p.thread_attrs (λ k. ap (slice_get p.thread_attrs) (let same : 0 + k ≡ k = omega arith in same)))
    by_keys (key ∷ keys) is = by_attribute (elected_by (key ∷ keys)) (ap elected_by is)

  -- no policy that isn't in turn has the first class
  not_queue : (a : ℕ) (attrs : List Attr) → slices_from p a attrs ≡ wait.Queue → ⊥
  not_queue a [] is = absurd (cc)
  not_queue a (d ∷ attrs) is =
      cond_both (obeys_after_units (rule.Falls a d.lo) p) (wait.Slices a (keeps_of d)) (slices_from p (suc a) attrs) (λ class. class ≡ wait.Queue → ⊥)
      (λ each found. absurd (cc)) (λ none. not_queue (suc a) attrs) is

  not_least : (elected : Option ℕ) → class_by_least p elected ≡ wait.Queue → ⊥
  not_least None is = absurd (cc)
  not_least (Some a) is = by (slice_get p.thread_attrs a) is
    where
      by : (found : Option Attr) → least_of p a found ≡ wait.Queue → ⊥
      by None found = absurd (cc)
      by (Some d) found =
          cond_both (obeys_after_units (rule.Rises a d.hi) p) (wait.Least a) wait.Unknown (λ class. class ≡ wait.Queue → ⊥) (λ each same. absurd (cc)) (λ none same. absurd (cc)) found

  queue_has : (keys : List KeyTree) → p.elect ≡ keys → class_by p keys ≡ wait.Queue → QueuesAlways p
  queue_has [] first is =
      cond_both (obeys_after_units rule.Queues p) wait.Queue (slices_from p 0 p.thread_attrs) (λ class. class ≡ wait.Queue → QueuesAlways p)
      (λ each same. queued first each) (λ none same. absurd (not_queue 0 p.thread_attrs same)) is
  queue_has (key ∷ keys) first is = absurd (not_least (elected_by (key ∷ keys)) is)

pub classes_law : ClassesLaw
classes_law p resolved = by_keys p resolved p.elect refl

-- what the class of the code is, as it is found
pub in_order : (p : Meaning) → p.elect ≡ [] → class_in_order p ≡ class_of p
in_order p first = ap (class_by p) (sym first)

keyed : (p : Meaning) (keys : List KeyTree) → (keys ≡ [] → ⊥) → class_by_least p (elected_by keys) ≡ class_by p keys
keyed p [] some = absurd (some refl)
keyed p (key ∷ keys) some = refl

pub by_least : (p : Meaning) → (p.elect ≡ [] → ⊥) → class_by_least p (elected_by p.elect) ≡ class_of p
by_least p some = keyed p p.elect some

pub applies : (p : Meaning) (class : WaitClass) → class ≡ class_of p → IsResolved p → HasClass p class
applies p class is resolved = subst (HasClass p) (sym is) (classes_law p resolved)

pub queue_law : QueueLaw
queue_law p = (queue_has p p.elect refl, has_queue p)

pub bounds_law : BoundsLaw
bounds_law p plan history fits legal = by_class (class_of p) (classes_law p fits.policy)
  where
    by_class : (class : WaitClass) → HasClass p class → Waits p plan history class
    by_class wait.Queue is = waiting_law p plan history fits is legal
    by_class (wait.Slices a keeps) is = (is.0, slices_law p plan history a is.0 keeps fits is.1 legal)
    by_class (wait.Least a) is = λ meets. least_law p plan history a is.0 is.1 fits meets is.2 legal
    by_class wait.Unknown is = tt
