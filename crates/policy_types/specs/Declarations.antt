-- The load and the attributes that a syntax declares, and the rules that they break, in the order of the text.
use Rattle.std.specs.Prelude.{ℤ, pos, neg_ℤ, int_le, Bool, true, false, cond, not, ◌&&◌, List, [], ◌∷◌, ◌++◌, is_some}
use Rattle.sched_base.specs.declared.limits.TheConstants.{MAX_ATTRIBUTE, MAX_WEIGHT}
use Rattle.policy_syntax.specs.declared.syntax.AttrSyntax.{AttrSyntax}
use Rattle.policy_syntax.specs.declared.syntax.IntSyntax.{IntSyntax}
use Rattle.policy_syntax.specs.declared.syntax.LoadSyntax.{LoadSyntax}
use Rattle.policy_syntax.specs.declared.syntax.LoadSyntax.TheVariants as syntax
use Rattle.policy_syntax.specs.declared.syntax.RangeSyntax.{RangeSyntax}
use Rattle.policy_tree.specs.declared.typed.Attr.{Attr}
use Rattle.policy_tree.specs.declared.typed.Load.{Load}
use Rattle.policy_tree.specs.declared.typed.Load.TheVariants.{Count, Weight}
use Rattle.policy_types.specs.declared.fault.TypeFault.{TypeFault}
use Rattle.policy_types.specs.declared.fault.TypeFault.TheVariants.{BadRange, Twice}
use Rattle.policy_types.specs.declared.scope.Scope.{Scope}
use Rattle.policy_types.specs.Faults.{behind, where_broken}
use Rattle.policy_types.specs.References.{attribute_named}

-- the number with its sign
abbrev pub int_meaning : IntSyntax → ℤ
int_meaning i = cond i.negative (neg_ℤ (pos i.value)) (pos i.value)

-- whether x lies from `low` to `high`
abbrev pub lies : ℤ → ℤ → ℤ → Bool
lies low x high = int_le low x && int_le x high

-- whether threads may have the weights of the range
abbrev pub is_weight_range : RangeSyntax → Bool
is_weight_range r = int_le (pos 1) (int_meaning r.low) && lies (int_meaning r.low) (int_meaning r.high) (pos MAX_WEIGHT)

abbrev pub load_meaning : LoadSyntax → Load
load_meaning (syntax.Count at) = Count
load_meaning (syntax.Weight at range) = Weight range.low.value range.high.value

abbrev pub load_faults : LoadSyntax → List TypeFault
load_faults (syntax.Count at) = []
load_faults (syntax.Weight at range) = where_broken (not (is_weight_range range)) (BadRange range.at)

abbrev pub attr_meaning : AttrSyntax → Attr
attr_meaning a = record {
  name = a.name;
  lo = int_meaning a.range.low;
  hi = int_meaning a.range.high;
  start = int_meaning a.start;
}

-- whether the attribute begins in its range, and that isn't too wide
abbrev pub is_attribute_range : AttrSyntax → Bool
is_attribute_range a =
    int_le (neg_ℤ MAX_ATTRIBUTE) (int_meaning a.range.low)
    && (lies (int_meaning a.range.low) (int_meaning a.start) (int_meaning a.range.high)
    && int_le (int_meaning a.range.high) MAX_ATTRIBUTE)

-- the attributes of that kind
abbrev pub of_kind : Bool → Scope → List Attr
of_kind true scope = scope.cores
of_kind false scope = scope.threads

-- what is declared, and one attribute more behind those of its kind
abbrev pub declaring : Bool → Scope → Attr → Scope
declaring true scope a = record { cores = scope.cores ++ a ∷ []; threads = scope.threads }
declaring false scope a = record { cores = scope.cores; threads = scope.threads ++ a ∷ [] }

abbrev pub declared_with : Scope → AttrSyntax → Scope
declared_with scope a = declaring a.of_cores scope (attr_meaning a)

-- what is declared behind these attributes, and what was before
abbrev pub scope_after : Scope → List AttrSyntax → Scope
scope_after scope [] = scope
scope_after scope (a ∷ rest) = scope_after (declared_with scope a) rest

abbrev pub nothing_declared : Scope
nothing_declared = record { cores = []; threads = [] }

-- an attribute behind those of its kind: its name is there already, or its range is bad
abbrev pub attr_faults : List Attr → AttrSyntax → List TypeFault
attr_faults declared a =
    where_broken (is_some (attribute_named 0 declared a.name)) (Twice (behind a.at 1))
    ++ where_broken (not (is_attribute_range a)) (BadRange a.range.at)

abbrev pub attrs_faults : Scope → List AttrSyntax → List TypeFault
attrs_faults scope [] = []
attrs_faults scope (a ∷ rest) =
    attr_faults (of_kind a.of_cores scope) a ++ attrs_faults (declared_with scope a) rest
