-- What finds the next step of a core from a past.
use Rattle.std.proofs.Common.{Bool, not, ◌≡◌, ℕ, true, false, List, length, Option, Some, None, IfSome, option_to_list, refl, sym, ap, subst, ◌∙◌, arith}
use Rattle.std.proofs.lemmas.Grind.{get_or_default_zero}
use Rattle.policy_tree.specs.Meaning.{Meaning}
use Rattle.round_model.specs.declared.entry.Did.{Did}
use Rattle.round_model.specs.declared.entry.Entry.{Entry}
use Rattle.round_model.specs.declared.entry.Entry.TheVariants as entry
use Rattle.round_model.specs.declared.plan.Plan.{Plan}
use Rattle.round_judge.specs.declared.past.Past.{Past}
use Rattle.sched_base.specs.declared.task.Task.{Task}
use Rattle.round_model.specs.declared.state.ModelCore.{ModelCore}
use Rattle.round_model.specs.After.{after}
use Rattle.round_model.specs.Reads.{ReadsFit, round_start}
use Rattle.round_model.specs.Bursts.{HasBurst, HaveBursts, LiesIn}
use Rattle.round_model.specs.Fits.{Fits}
use Rattle.round_model.proofs.Bursts.{elects_burst, have_bursts}
use Rattle.round_judge.specs.declared.unit.Unit.{Unit as WorkUnit}
use Rattle.round_judge.specs.declared.unit.Unit.TheVariants as unit
use Rattle.round_judge.specs.Readable.{ReadIn}
use Rattle.round_judge.specs.Past.{StandsFor}
use Rattle.round_judge.specs.Units.{IsUnit, dids_of_unit}
use Rattle.serial_steps.specs.declared.turns.NextStep.TheVariants as next
use Rattle.serial_steps.specs.Turns.{step_of_dids}

-- reads that lie in the rows of a past are such as its history allows
pub read_fit : (p : Meaning) (plan : Plan) (past : Past) (h : List Entry) (reads : List ℕ) → StandsFor p plan past h → ReadIn plan past reads
    → ReadsFit plan.cores (round_start h) (length h) reads
read_fit p plan past h reads stands read = record {
  one_each = read.one_each;
  each = λ k d inside.
      let from = read.from_start k (omega (arith, read.one_each)) in
      let to = read.to_now k (omega (arith, read.one_each)) in
      let window = stands.rows.window in
      let same = get_or_default_zero reads k d inside in
      record { in_round = omega (arith, same, stands.entries); before_entry = omega (arith, same, stands.entries) };
}

-- what may be said of a unit, by what the unit tells
pub none_told : (a : ℕ) (told : Option Did) (dids : List Did) → told ≡ None → option_to_list told ≡ dids → next.Over ≡ step_of_dids a dids
none_told a None dids is same = ap (step_of_dids a) same
none_told a (Some d) dids is same = absurd (cc)

pub one_told : (a : ℕ) (d : Did) (told : Option Did) (dids : List Did) → told ≡ Some d → option_to_list told ≡ dids → next.Adds (entry.Work a d) ≡ step_of_dids a dids
one_told a d None dids is same = absurd (cc)
one_told a d (Some x) dids is same = let one : d ≡ x = cc in ap (λ (y : Did). next.Adds (entry.Work a y)) one ∙ ap (step_of_dids a) same

-- what the opposite says of a flag
pub is_unset : (b : Bool) → not b ≡ true → b ≡ false
is_unset true is = absurd (cc)
is_unset false is = refl

pub is_set : (b : Bool) → not b ≡ false → b ≡ true
is_set true is = refl
is_set false is = absurd (cc)

-- a task that stands at a core after a history has a burst, and so the core's unit has something to say
pub never_stuck : (p : Meaning) (plan : Plan) (round : ℕ) (h : List Entry) (a : ℕ) (core : ModelCore) (u : WorkUnit) (told : Option Did) → Fits p plan → core ≡ after p plan h a
    → IsUnit p plan round core u → option_to_list told ≡ dids_of_unit u → told ≡ None → ⊥
never_stuck p plan round h a core unit.Idle told fits same is tells none = let no_words = ap option_to_list none in absurd (cc)
never_stuck p plan round h a core unit.Stuck told fits same is tells none =
    let have = subst (HaveBursts plan) (sym same) (have_bursts p plan h a fits) in
    let has = subst (λ (t : Option Task). IfSome t (HasBurst plan)) is.runs (elects_burst p plan core have) in
    subst (LiesIn is.task.place) is.lacks has
never_stuck p plan round h a core (unit.Met place t put wake) told fits same is tells none = let no_words = ap option_to_list none in absurd (cc)
never_stuck p plan round h a core (unit.Over place id) told fits same is tells none = let no_words = ap option_to_list none in absurd (cc)
