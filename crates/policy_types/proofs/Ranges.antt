-- What ranges allow.
use Rattle.std.proofs.Common.{◌≡◌, ℕ, ◌+◌, List, length, drop, get_or, ℤ, ◌≤ℤ◌, neg_ℤ, int_le, ◌&&◌, Bool, true, ◌<◌, FitsSigned, sym, ap, ◌∙◌, arith}
use Rattle.std.specs.Int.{w32}
use Rattle.std.proofs.lemmas.Int.{ints, fits_signed_from_abs}
use Rattle.std.proofs.lemmas.Bool.{and_parts}
use Rattle.sched_base.specs.declared.limits.TheConstants.{MAX_ATTRIBUTE}
use Rattle.policy_syntax.specs.declared.syntax.AttrSyntax.{AttrSyntax}
use Rattle.policy_eval.specs.Resolved.{IsAttribute}
use Rattle.policy_types.specs.Declarations.{attr_faults, attr_meaning, attrs_faults, declared_with, int_meaning, is_attribute_range, of_kind}
use Rattle.policy_types.specs.declared.fault.TypeFault.{TypeFault}
use Rattle.policy_types.specs.declared.scope.Scope.{Scope}
use Rattle.policy_types.specs.Faults.{IsFirst}
use Rattle.policy_types.proofs.Firsts.{drop_item, part_first}

pub le_of : (a b : ℤ) → int_le a b ≡ true → a ≤ℤ b
le_of a b e = grind (arith, ints)

-- an attribute whose range is right
pub attribute_right : (a : AttrSyntax) → is_attribute_range a ≡ true → IsAttribute (attr_meaning a)
attribute_right a right =
    let low = int_meaning a.range.low in let high = int_meaning a.range.high in let start = int_meaning a.start in
    let first = and_parts (int_le (neg_ℤ MAX_ATTRIBUTE) low) ((int_le low start && int_le start high) && int_le high MAX_ATTRIBUTE) right in
    let second = and_parts (int_le low start && int_le start high) (int_le high MAX_ATTRIBUTE) first.1 in
    let third = and_parts (int_le low start) (int_le start high) second.0 in
    record {
      low = le_of (neg_ℤ MAX_ATTRIBUTE) low first.0;
      from_low = le_of low start third.0;
      to_high = le_of start high third.1;
      high = le_of high MAX_ATTRIBUTE second.1;
    }

-- its numbers fit 32 bits
pub record FitAttribute (a : AttrSyntax) : Type 0 where
  pub low : FitsSigned w32 (int_meaning a.range.low)
  pub high : FitsSigned w32 (int_meaning a.range.high)
  pub start : FitsSigned w32 (int_meaning a.start)

pub attribute_fits : (a : AttrSyntax) → is_attribute_range a ≡ true → FitAttribute a
attribute_fits a right =
    let is = attribute_right a right in let one = is.low in let two = is.from_low in let three = is.to_high in let four = is.high in
    record {
      low = fits_signed_from_abs w32 (int_meaning a.range.low) (omega (arith, ints));
      high = fits_signed_from_abs w32 (int_meaning a.range.high) (omega (arith, ints));
      start = fits_signed_from_abs w32 (int_meaning a.start) (omega (arith, ints));
    }

-- the faults of an attribute among those that are left
pub attr_first : (scope : Scope) (kind : Bool) (items : List AttrSyntax) (at : ℕ) (x : AttrSyntax) (whole : List TypeFault) (fault : TypeFault) → x.of_cores ≡ kind → at < length items → x ≡ get_or items at x → attrs_faults scope (drop at items) ≡ whole → IsFirst (attr_faults (of_kind kind scope) x) fault → IsFirst whole fault
attr_first scope kind items at x whole fault same inside here is first =
    part_first (attr_faults (of_kind x.of_cores scope) x) (attrs_faults (declared_with scope x) (drop (at + 1) items)) whole fault
    (sym (ap (attrs_faults scope) (drop_item items at x inside here)) ∙ is) (rw same first)
