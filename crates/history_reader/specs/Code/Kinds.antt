-- The line of an entry as its first word and the rest. They serve the code alone.
use Rattle.std.specs.Prelude.{◌≡◌, ℕ, ◌≤◌, List, ◌++◌, codes}
use Rattle.sched_base.specs.declared.limits.TheConstants.{MAX_ENTRIES}
use Rattle.round_model.specs.declared.entry.Did.{Did}
use Rattle.round_model.specs.declared.entry.Did.TheVariants as did
use Rattle.round_model.specs.declared.entry.Entry.{Entry}
use Rattle.round_model.specs.declared.entry.Entry.TheVariants as entry
use Rattle.sched_history.specs.declared.forms.LineForm.{LineForm}
use Rattle.sched_history.specs.declared.forms.LineForm.TheVariants as form
use Rattle.sched_history.specs.Ranges.{IsCoreCount, IsPrintable, NamesThread}
use Rattle.sched_history.specs.Spelling.{reads_in, spaced, spaced_number, words_in}
use Rattle.history_reader.specs.declared.line.Kind.{Kind}
use Rattle.history_reader.specs.declared.line.Kind.TheVariants as kind

abbrev pub kind_of : Entry → Kind
kind_of (entry.Round number) = kind.Round
kind_of (entry.Enter thread by at reads) = kind.Enter
kind_of (entry.Wake thread by at reads) = kind.Wake
kind_of (entry.Work by what) = kind.Work
kind_of (entry.Steal by from threads reads) = kind.Steal
kind_of (entry.Fail by from reads) = kind.Fail
kind_of (entry.Pass by reads) = kind.Pass

-- the first word
abbrev pub name_of : Kind → List ℕ
name_of kind.Round = codes "round"
name_of kind.Enter = codes "enter"
name_of kind.Wake = codes "wake"
name_of kind.Work = codes "work"
name_of kind.Steal = codes "steal"
name_of kind.Fail = codes "fail"
name_of kind.Pass = codes "pass"

-- what stands behind the core of a unit
abbrev pub rest_of_did : Did → List ℕ
rest_of_did did.Nothing = codes " -"
rest_of_did (did.Kept thread) = spaced_number thread ++ codes " keep"
rest_of_did (did.Queued thread) = spaced_number thread ++ codes " queue"
rest_of_did (did.Blocked thread) = spaced_number thread ++ codes " block"
rest_of_did (did.Ended thread) = spaced_number thread ++ codes " end"

-- what stands behind the first word
abbrev pub rest_of : LineForm → Entry → List ℕ
rest_of f (entry.Round number) = spaced_number number
rest_of f (entry.Enter thread by at reads) =
    spaced_number thread ++ (spaced_number by ++ (spaced_number at ++ reads_in f reads))
rest_of f (entry.Wake thread by at reads) =
    spaced_number thread ++ (spaced_number by ++ (spaced_number at ++ reads_in f reads))
rest_of f (entry.Work by what) = spaced_number by ++ rest_of_did what
rest_of f (entry.Steal by from threads reads) =
    spaced_number by ++ (spaced_number from ++ (spaced threads ++ reads_in f reads))
rest_of f (entry.Fail by from reads) = spaced_number by ++ (spaced_number from ++ reads_in f reads)
rest_of f (entry.Pass by reads) = spaced_number by ++ reads_in f reads

-- the text is what stands behind the first word of that entry
abbrev pub IsRest : LineForm → List ℕ → Entry → Type 0
IsRest f text e = IsPrintable f e × (text ≡ rest_of f e)

-- the same, the entry being of that kind
pub record IsRestOf (f : LineForm) (which : Kind) (text : List ℕ) (e : Entry) : Type 0 where
  pub same_kind : kind_of e ≡ which
  pub is_rest : IsRest f text e

-- it is so of no entry of that kind
abbrev pub IsNoRestOf : LineForm → Kind → List ℕ → Type 0
IsNoRestOf f which text = (e : Entry) → IsRestOf f which text e → ⊥

-- the text is what stands behind the core of that unit
abbrev pub IsRestOfDid : List ℕ → Did → Type 0
IsRestOfDid text what = NamesThread what × (text ≡ rest_of_did what)

-- the line without its line feed is that of the entry
abbrev pub IsLineOf : LineForm → List ℕ → Entry → Type 0
IsLineOf f line e = IsPrintable f e × (line ≡ words_in f e)

abbrev pub IsLineOfNone : LineForm → List ℕ → Type 0
IsLineOfNone f line = (e : Entry) → IsLineOf f line e → ⊥

-- a form that a line of a history may have: its round starts within the history
abbrev pub IsRightForm : LineForm → Type 0
IsRightForm form.First = Unit {0}
IsRightForm (form.Second cores start) = IsCoreCount cores × (start ≤ MAX_ENTRIES)

-- a form that the first line may have
abbrev pub IsFirstForm : LineForm → Type 0
IsFirstForm form.First = Unit {0}
IsFirstForm (form.Second cores start) = IsCoreCount cores × (start ≡ 0)
