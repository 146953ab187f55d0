-- Why the answer to a text is the only one.
use Rattle.std.proofs.Common.{◌≡◌, ◌≤◌, arith, ℕ, List, [], Result, Ok, Err, inl, inr, refl, subst}
use Rattle.std.specs.Prelude.{IfOk, IfErr}
use Rattle.text_forms.specs.Lines.{lines_of}
use Rattle.job_trace.specs.declared.fault.TraceFault.{TraceFault}
use Rattle.job_trace.specs.declared.fault.TraceFault.TheVariants.{BadLine, Limit, Twice, Memory}
use Rattle.job_trace.specs.declared.trace.Numbered.{Numbered}
use Rattle.job_trace.specs.Faults.{FailsAs, IsBroken, IsFault, IsUnlessMemory}
use Rattle.job_trace.specs.Laws.{HasAnswer}
use Rattle.sched_base.specs.declared.limits.TheConstants.{MAX_CORES}
use Rattle.job_trace.specs.Rules.{cores_of}
use Rattle.job_trace.specs.Code.Steps.{scan}
use Rattle.job_trace.specs.TraceText.{SpellsTrace}
use Rattle.job_trace.proofs.ScanLemmas.{IsScanned, scan-fails, scan-is, scan-reads}

none_few : cores_of [] ≤ MAX_CORES
none_few = omega arith

module _ (text : List ℕ) where
  answered : (r : Result (List Numbered) TraceFault) → scan [] 1 (lines_of text) ≡ r → IsScanned [] 1 (lines_of text) r
  answered r e = subst (IsScanned [] 1 (lines_of text)) e (scan-is [] none_few 1 (lines_of text))

  pub spells_it : (result : Result (List Numbered) TraceFault) → IsUnlessMemory (scan [] 1 (lines_of text)) result →
      IfOk result (SpellsTrace text)
  spells_it (Ok trace) e = let (reads, whole) = answered (Ok trace) e in record { reads = reads; whole = whole }
  spells_it (Err fault) e = tt

  fails_it : (fault : TraceFault) → FailsAs (scan [] 1 (lines_of text)) fault → IsFault text fault
  fails_it (BadLine line) e = answered (Err (BadLine line)) e
  fails_it (Limit line limit) e = answered (Err (Limit line limit)) e
  fails_it (Twice line) e = answered (Err (Twice line)) e
  fails_it Memory e = tt

  pub breaks_it : (result : Result (List Numbered) TraceFault) → IsUnlessMemory (scan [] 1 (lines_of text)) result →
      IfErr result (IsFault text)
  breaks_it (Ok trace) e = tt
  breaks_it (Err fault) e = fails_it fault e

  pub reads_it : (result : Result (List Numbered) TraceFault) → IsUnlessMemory (scan [] 1 (lines_of text)) result →
      (trace : List Numbered) → SpellsTrace text trace → IsUnlessMemory (Ok trace) result
  reads_it result told trace spells =
      subst (λ a. IsUnlessMemory a result) (scan-reads [] none_few 1 (lines_of text) trace spells.reads spells.whole) told

  pub refuses_it : (result : Result (List Numbered) TraceFault) → IsUnlessMemory (scan [] 1 (lines_of text)) result →
      (fault : TraceFault) → IsBroken text fault → IsUnlessMemory (Err fault) result
  refuses_it result told fault broken =
      subst (λ a. IsUnlessMemory a result) (scan-fails [] none_few 1 (lines_of text) fault broken) told

  by_scan : (r : Result (List Numbered) TraceFault) → scan [] 1 (lines_of text) ≡ r → HasAnswer text
  by_scan (Ok trace) e = inl (trace, spells_it (Ok trace) e)
  by_scan (Err fault) e = inr (fault, answered (Err fault) e)

  pub each_answered : HasAnswer text
  each_answered = by_scan (scan [] 1 (lines_of text)) refl
