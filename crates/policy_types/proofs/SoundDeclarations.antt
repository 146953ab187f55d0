-- Declarations that break no rule and keep the limits.
use Rattle.std.proofs.Common.{◌≡◌, ◌<◌, pos, neg_ℤ, ◌≤ℤ◌, int_le, cond, Bool, true, false, not, List, [], ◌∷◌, ◌++◌, length, refl, sym, subst, arith, None, length-append, is_some}
use Rattle.std.proofs.lemmas.Int.{ints}
use Rattle.std.proofs.lemmas.Bool.{and_parts}
use Rattle.std.proofs.lemmas.List.Elements.{All-nil, All-push}
use Rattle.sched_base.specs.declared.limits.TheConstants.{MAX_WEIGHT}
use Rattle.policy_syntax.specs.declared.syntax.AttrSyntax.{AttrSyntax}
use Rattle.policy_syntax.specs.declared.syntax.IntSyntax.{IntSyntax}
use Rattle.policy_syntax.specs.declared.syntax.LoadSyntax.{LoadSyntax}
use Rattle.policy_syntax.specs.declared.syntax.LoadSyntax.TheVariants as syntax
use Rattle.policy_tree.specs.declared.typed.Attr.{Attr}
use Rattle.policy_grammar.specs.declared.limits.TheConstants.{POLICY_LIMITS}
use Rattle.policy_grammar.specs.Breaks as breaks
use Rattle.policy_grammar.specs.Breaks.{breaks_attrs, many, of_cores_more, of_threads_more}
use Rattle.policy_eval.specs.Resolved.{AreAttributes, IsAttribute, IsWeightRange}
use Rattle.policy_types.specs.declared.fault.TypeFault.TheVariants.{BadRange, Twice}
use Rattle.policy_types.specs.declared.scope.Scope.{Scope}
use Rattle.policy_types.specs.Declarations.{attr_faults, attr_meaning, attrs_faults, declared_with, declaring, int_meaning, is_attribute_range, is_weight_range, lies, load_faults, load_meaning, nothing_declared, of_kind, scope_after}
use Rattle.policy_types.specs.Faults.{behind, where_broken}
use Rattle.policy_types.specs.References.{attribute_named}
use Rattle.policy_types.proofs.Counted.{keeps_many, keeps_parts}
use Rattle.policy_types.proofs.Firsts.{none_parts, where_not}
use Rattle.policy_types.proofs.Ranges.{attribute_right, le_of}

-- what is declared is right
pub record AreRight (scope : Scope) : Type 0 where
  pub cores : AreAttributes scope.cores
  pub threads : AreAttributes scope.threads

push_right : (attrs : List Attr) (a : Attr) → AreAttributes attrs → IsAttribute a → length attrs < 8 → AreAttributes (attrs ++ a ∷ [])
push_right attrs a are is room = let long = length-append attrs (a ∷ []) in record {
  few = omega arith;
  each = All-push IsAttribute attrs a are.each is;
}

declaring_right : (kind : Bool) (scope : Scope) (a : Attr) → AreRight scope → IsAttribute a → length (of_kind kind scope) < 8 → AreRight (declaring kind scope a)
declaring_right true scope a are is room = record { cores = push_right scope.cores a are.cores is room; threads = are.threads }
declaring_right false scope a are is room = record { cores = are.cores; threads = push_right scope.threads a are.threads is room }

kind_count : (kind : Bool) (scope : Scope) → breaks.of_kind kind (length scope.cores) (length scope.threads) ≡ length (of_kind kind scope)
kind_count true scope = refl
kind_count false scope = refl

cores_count : (kind : Bool) (scope : Scope) (a : Attr) → of_cores_more kind (length scope.cores) ≡ length (declaring kind scope a).cores
cores_count true scope a = sym (length-append scope.cores (a ∷ []))
cores_count false scope a = refl

threads_count : (kind : Bool) (scope : Scope) (a : Attr) → of_threads_more kind (length scope.threads) ≡ length (declaring kind scope a).threads
threads_count true scope a = refl
threads_count false scope a = sym (length-append scope.threads (a ∷ []))

pub attrs_right : (scope : Scope) (attrs : List AttrSyntax) → AreRight scope → attrs_faults scope attrs ≡ [] → breaks_attrs POLICY_LIMITS (length scope.cores) (length scope.threads) attrs ≡ None → AreRight (scope_after scope attrs)
attrs_right scope [] are none keeps = are
attrs_right scope (a ∷ rest) are none keeps =
    let empty = none_parts (attr_faults (of_kind a.of_cores scope) a) (attrs_faults (declared_with scope a) rest) none in
    let range = none_parts (where_broken (is_some (attribute_named 0 (of_kind a.of_cores scope) a.name)) (Twice (behind a.at 1))) (where_broken (not (is_attribute_range a)) (BadRange a.range.at)) empty.0 in
    let kept = keeps_parts (many 8 a.at (breaks.of_kind a.of_cores (length scope.cores) (length scope.threads)))
    (breaks_attrs POLICY_LIMITS (of_cores_more a.of_cores (length scope.cores)) (of_threads_more a.of_cores (length scope.threads)) rest) keeps in
    let room = subst (λ n. n < 8) (kind_count a.of_cores scope) (keeps_many 8 a.at (breaks.of_kind a.of_cores (length scope.cores) (length scope.threads)) kept.0) in
    let is = attribute_right a (where_not (is_attribute_range a) (BadRange a.range.at) range.1) in
    attrs_right (declared_with scope a) rest (declaring_right a.of_cores scope (attr_meaning a) are is room) empty.1
    (rw (← cores_count a.of_cores scope (attr_meaning a), ← threads_count a.of_cores scope (attr_meaning a)) kept.1)

pub nothing_right : AreRight nothing_declared
nothing_right = record {
  cores = record { few = omega arith; each = All-nil IsAttribute };
  threads = record { few = omega arith; each = All-nil IsAttribute };
}

-- a number that is at least 1 has no sign
plain : (i : IntSyntax) → pos 1 ≤ℤ int_meaning i → int_meaning i ≡ pos i.value
plain i least = either i.negative least
  where
    either : (b : Bool) → pos 1 ≤ℤ cond b (neg_ℤ (pos i.value)) (pos i.value) → cond b (neg_ℤ (pos i.value)) (pos i.value) ≡ pos i.value
    either true h = absurd (omega (arith, ints))
    either false h = refl

pub load_right : (l : LoadSyntax) → load_faults l ≡ [] → IsWeightRange (load_meaning l)
load_right (syntax.Count at) none = record { positive = omega arith; ordered = omega arith; small = omega arith }
load_right (syntax.Weight at range) none =
    let low = int_meaning range.low in let high = int_meaning range.high in
    let right = where_not (is_weight_range range) (BadRange range.at) none in
    let first = and_parts (int_le (pos 1) low) (lies low high (pos MAX_WEIGHT)) right in
    let second = and_parts (int_le low high) (int_le high (pos MAX_WEIGHT)) first.1 in
    let a = le_of (pos 1) low first.0 in let b = le_of low high second.0 in let c = le_of high (pos MAX_WEIGHT) second.1 in
    let one : pos 1 ≤ℤ high = omega (arith, ints) in
    let l = plain range.low a in let h = plain range.high one in
    record { positive = omega (arith, ints); ordered = omega (arith, ints); small = omega (arith, ints) }
