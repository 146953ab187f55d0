-- Where a text breaks a rule of traces, and what is answered.
use Rattle.std.specs.Prelude.{◌≡◌, ℕ, ℤ, ◌<◌, true, false, List, [], length, Some, None, Result, Ok, Err}
use Rattle.text_forms.specs.Lines.{lines_of}
use Rattle.text_forms.specs.Scans.{FailsFirst}
use Rattle.job_trace.specs.declared.fault.TraceFault.{TraceFault}
use Rattle.job_trace.specs.declared.fault.TraceFault.TheVariants.{BadLine, Limit, Twice, Memory}
use Rattle.job_trace.specs.declared.trace.TraceLine.{TraceLine}
use Rattle.job_trace.specs.declared.trace.Numbered.{Numbered}
use Rattle.job_trace.specs.Words.{words, is_skipped}
use Rattle.job_trace.specs.Forms.{SpellsLine}
use Rattle.job_trace.specs.Rules.{cores_of, first_passed, is_given, may_stand, measures}
use Rattle.job_trace.specs.TraceText.{Takes}

-- the words of a line, which has that number, break a rule behind a front of a trace. They have no form, or not one
-- that may stand there; or a number is out of its range; or the line gives what was given before. The earlier of these
-- comes first.
pub data Breaks (front : List Numbered) (number : ℕ) (line : List (List ℕ)) : TraceFault → Type 0 where
  no_form : ((form : TraceLine) → SpellsLine line form → ⊥) → Breaks front number line (BadLine number)
  other_kind : (form : TraceLine) → SpellsLine line form → may_stand front form ≡ false →
      Breaks front number line (BadLine number)
  past_range : (form : TraceLine) → SpellsLine line form → may_stand front form ≡ true →
      {end : ℤ} → first_passed (measures (cores_of front) form) ≡ Some end →
      Breaks front number line (Limit number end)
  given_before : (form : TraceLine) → SpellsLine line form → may_stand front form ≡ true →
      first_passed (measures (cores_of front) form) ≡ None → is_given front form ≡ true →
      Breaks front number line (Twice number)

-- a line that isn't skipped breaks a rule
pub record BreaksThere (front : List Numbered) (number : ℕ) (line : List ℕ) (fault : TraceFault) : Type 0 where
  pub says : is_skipped (words line) ≡ false
  pub breaks : Breaks front number (words line) fault

-- the text has ended before its second line
pub record IsShort (front : List Numbered) (number : ℕ) (fault : TraceFault) : Type 0 where
  pub few : length front < 2
  pub is : fault ≡ BadLine number

-- the text breaks a rule, and this is its first fault
abbrev pub IsBroken : List ℕ → TraceFault → Type 0
IsBroken text fault = FailsFirst Takes BreaksThere IsShort [] 1 (lines_of text) fault

-- a fault that may be answered: the first of the text, or the want of memory
abbrev pub IsFault : List ℕ → TraceFault → Type 0
IsFault text (BadLine line) = IsBroken text (BadLine line)
IsFault text (Limit line limit) = IsBroken text (Limit line limit)
IsFault text (Twice line) = IsBroken text (Twice line)
IsFault text Memory = Unit {0}

-- the fault is this answer, or the want of memory
abbrev pub FailsAs : {X : Type 0} → Result X TraceFault → TraceFault → Type 0
FailsAs answer (BadLine line) = answer ≡ Err (BadLine line)
FailsAs answer (Limit line limit) = answer ≡ Err (Limit line limit)
FailsAs answer (Twice line) = answer ≡ Err (Twice line)
FailsAs answer Memory = Unit {0}

-- the result is this answer, or the want of memory
abbrev pub IsUnlessMemory : {X : Type 0} → Result X TraceFault → Result X TraceFault → Type 0
IsUnlessMemory answer (Ok x) = answer ≡ Ok x
IsUnlessMemory answer (Err fault) = FailsAs answer fault

-- what meets this is the answer, unless memory is wanting
abbrev pub MustGive : {X : Type 0} → (X → Type 0) → Result X TraceFault → Type 0
MustGive {X} P result = (x : X) → P x → IsUnlessMemory (Ok x) result

-- a fault that meets this is the answer, unless memory is wanting
abbrev pub MustRefuse : {X : Type 0} → (TraceFault → Type 0) → Result X TraceFault → Type 0
MustRefuse P result = (fault : TraceFault) → P fault → IsUnlessMemory (Err fault) result
