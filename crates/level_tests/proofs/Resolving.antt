-- The policies by levels of the worked rows are as a text has them, and the changed ones aren't.
use Rattle.std.proofs.Common.{◌≡◌, ◌≤◌, ℕ, false, true, List, refl, arith}
use Rattle.std.proofs.lemmas.Int.{ints}
use Rattle.std.proofs.lemmas.List.Elements.{All-from_recursion, All-nil}
use Rattle.policy_tree.specs.declared.typed.Attr.{Attr}
use Rattle.policy_tree.specs.declared.typed.Event.{Event}
use Rattle.policy_tree.specs.declared.typed.Event.TheVariants as event
use Rattle.policy_tree.specs.Meaning.{greatest_first}
use Rattle.policy_tree.specs.Trees.{always, variable}
use Rattle.policy_eval.specs.Resolved.{AreAttributes, IsAttribute, IsResolved, IsResolvedHandler}
use Rattle.policy_eval.specs.Sites.{choosing, electing, stealing}
use Rattle.fair_policy.proofs.ResolvedForms.{by_one_key, difference_linear, no_keys, number_linear, plain_case}
use Rattle.level_policy.specs.ResolvedLevels.{AreResolved, IsResolvedFilter, IsResolvedLevel, IsResolvedWithin}
use Rattle.level_tests.specs.LevelPolicies.{attribute, beside, gap_of, idle_or_gap, level, numa, overlapping, same}
use Rattle.level_tests.specs.ResolvedRows.{LevelsAreResolved, LevelsMiss}

attribute_resolved : (name : List ℕ) (high : ℕ) → high ≤ 1048575 → IsAttribute (attribute name high)
attribute_resolved name high small = record { low = omega (arith, ints); from_low = omega (arith, ints); to_high = omega (arith, ints); high = omega (arith, ints) }

module _ (name : List ℕ) (attrs : List Attr) (are : AreAttributes attrs) where
  beside_handled : (e : Event) → IsResolvedHandler (beside name attrs) e
  beside_handled event.Enqueue = record { few = omega arith; cases = plain_case (beside name attrs) event.Enqueue _ tt }
  beside_handled event.Tick = record { few = omega arith; cases = plain_case (beside name attrs) event.Tick _ tt }
  beside_handled event.Yield = record { few = omega arith; cases = plain_case (beside name attrs) event.Yield _ tt }
  beside_handled event.Block = record { few = omega arith; cases = plain_case (beside name attrs) event.Block _ tt }

  beside_resolved : IsResolved (beside name attrs)
  beside_resolved = record {
    load = record { positive = omega arith; ordered = omega arith; small = omega arith };
    core_attrs = are;
    thread_attrs = record { few = omega arith; each = All-nil _ };
    place = tt;
    elect = no_keys (beside name attrs) electing;
    handlers = beside_handled;
    filter = record { few = omega arith; sides = tt };
    choose = by_one_key (beside name attrs) choosing (greatest_first (variable 3)) (record { linear = tt; few = omega arith; allowed = refl });
    steal = no_keys (beside name attrs) stealing;
    batch = tt;
  }

  gap_resolved : (gap : ℕ) → gap ≤ 1099511627776 → IsResolvedFilter (beside name attrs) (gap_of gap)
  gap_resolved gap small = record {
    few = omega arith;
    sides = (
      record { linear = difference_linear 2 0; few = omega arith; allowed = (refl, refl) },
      record { linear = number_linear gap small; few = omega arith; allowed = tt },
    );
  }

  idle_or_gap_resolved : (gap : ℕ) → gap ≤ 1099511627776 → IsResolvedFilter (beside name attrs) (idle_or_gap gap)
  idle_or_gap_resolved gap small = record {
    few = omega arith;
    sides = (
      (
        (record { linear = tt; few = omega arith; allowed = refl }, record { linear = number_linear 0 (omega arith); few = omega arith; allowed = tt }),
        (record { linear = tt; few = omega arith; allowed = refl }, record { linear = number_linear 2 (omega arith); few = omega arith; allowed = tt }),
      ),
      (gap_resolved gap small).sides,
    );
  }

  always_resolved : IsResolvedWithin (beside name attrs) always
  always_resolved = record { few = omega arith; sides = tt; attributes = tt }

one_attribute : AreAttributes numa.plain.core_attrs
one_attribute = record { few = omega arith; each = All-from_recursion IsAttribute numa.plain.core_attrs (attribute_resolved _ 1 (omega arith), tt) }

two_attributes : AreAttributes overlapping.plain.core_attrs
two_attributes = record {
  few = omega arith;
  each = All-from_recursion IsAttribute overlapping.plain.core_attrs (attribute_resolved _ 9 (omega arith), (attribute_resolved _ 9 (omega arith), tt));
}

same_node : IsResolvedWithin numa.plain (same 0)
same_node = record {
  few = omega arith;
  sides = (record { linear = tt; few = omega arith; allowed = refl }, record { linear = tt; few = omega arith; allowed = refl });
  attributes = (refl, refl);
}

same_first : IsResolvedWithin overlapping.plain (same 0)
same_first = record {
  few = omega arith;
  sides = (record { linear = tt; few = omega arith; allowed = refl }, record { linear = tt; few = omega arith; allowed = refl });
  attributes = (refl, refl);
}

same_second : IsResolvedWithin overlapping.plain (same 1)
same_second = record {
  few = omega arith;
  sides = (record { linear = tt; few = omega arith; allowed = refl }, record { linear = tt; few = omega arith; allowed = refl });
  attributes = (refl, refl);
}

pub numa_resolved : AreResolved numa
numa_resolved = record {
  plain = beside_resolved _ _ one_attribute;
  unfiltered = refl;
  few_keys = omega arith;
  some = omega arith;
  few = omega arith;
  levels = All-from_recursion (IsResolvedLevel numa.plain) numa.levels (
    record { within = same_node; filter = gap_resolved _ _ one_attribute 2 (omega arith) },
    (record { within = always_resolved _ _ one_attribute; filter = idle_or_gap_resolved _ _ one_attribute 3 (omega arith) }, tt),
  );
}

pub overlapping_resolved : AreResolved overlapping
overlapping_resolved =
    let gap : IsResolvedFilter overlapping.plain (gap_of 2) = gap_resolved _ _ two_attributes 2 (omega arith) in
    record {
      plain = beside_resolved _ _ two_attributes;
      unfiltered = refl;
      few_keys = omega arith;
      some = omega arith;
      few = omega arith;
      levels = All-from_recursion (IsResolvedLevel overlapping.plain) overlapping.levels (
        record { within = same_first; filter = gap },
        (record { within = same_second; filter = gap }, (record { within = always_resolved _ _ two_attributes; filter = gap }, tt)),
      );
    }

pub levels_resolved : LevelsAreResolved
levels_resolved = record { numa_resolved = numa_resolved; overlapping_resolved = overlapping_resolved }

pub levels_missing : LevelsMiss
levels_missing = record {
  count_in_a_within = λ are. let first = are.levels 0 (level always always) (omega arith) in let bad : false ≡ true = first.within.attributes.0 in absurd (cc);
  two_comparisons_in_a_within = λ are. let first = are.levels 0 (level always always) (omega arith) in let bad = first.within.few in absurd (omega arith);
  no_level = λ are. let bad = are.some in absurd (omega arith);
  four_levels = λ are. let bad = are.few in absurd (omega arith);
  four_comparisons = λ are. let first = are.levels 0 (level always always) (omega arith) in let bad = first.filter.few in absurd (omega arith);
  filter_beside_the_levels = λ are. let bad = are.unfiltered in absurd (cc);
  three_keys = λ are. let bad = are.few_keys in absurd (omega arith);
}
