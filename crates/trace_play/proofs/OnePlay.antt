-- A text that spells a trace of a plan has no fault, and spells no other.
use Rattle.std.proofs.Common.{◌≡◌, ◌≤◌, ℕ, List, [], sym, ◌∙◌, subst, arith}
use Rattle.sched_base.specs.declared.limits.TheConstants.{MAX_CORES}
use Rattle.policy_tree.specs.Meaning.{Meaning}
use Rattle.round_model.specs.declared.plan.Plan.{Plan}
use Rattle.text_forms.specs.Lines.{lines_of}
use Rattle.job_trace.specs.declared.fault.TraceFault.{TraceFault}
use Rattle.job_trace.specs.declared.plan_fault.PlanFault.{PlanFault}
use Rattle.job_trace.specs.declared.trace.Numbered.{Numbered}
use Rattle.job_trace.specs.Faults.{IsBroken}
use Rattle.job_trace.specs.Rules.{cores_of}
use Rattle.job_trace.specs.Plans.{IsForeign, SpellsPlan}
use Rattle.job_trace.specs.TraceText.{SpellsTrace}
use Rattle.job_trace.proofs.ScanLemmas.{scan-fails, scan-reads}
use Rattle.trace_play.specs.declared.fault.LineFault.{LineFault}
use Rattle.trace_play.specs.Plays.{HasFault, no_plan, no_trace}

none_few : cores_of [] ≤ MAX_CORES
none_few = omega arith

pub one_trace : (text : List ℕ) (lines other : List Numbered) → SpellsTrace text lines → SpellsTrace text other → lines ≡ other
one_trace text lines other spells also =
    let first = scan-reads [] none_few 1 (lines_of text) lines spells.reads spells.whole in
    let second = scan-reads [] none_few 1 (lines_of text) other also.reads also.whole in cc

never_broken : (text : List ℕ) (lines : List Numbered) (fault : TraceFault) → SpellsTrace text lines → IsBroken text fault → ⊥
never_broken text lines fault spells broken =
    let first = scan-reads [] none_few 1 (lines_of text) lines spells.reads spells.whole in
    let second = scan-fails [] none_few 1 (lines_of text) fault broken in cc

never_foreign : (p : Meaning) (lines : List Numbered) (made : Plan) (fault : PlanFault) → SpellsPlan p lines made → IsForeign p lines fault → ⊥
never_foreign p lines made fault means foreign = let fits = means.fits in cc

pub never_faulty : (p : Meaning) (text : List ℕ) (lines : List Numbered) (made : Plan) (fault : LineFault) → SpellsTrace text lines → SpellsPlan p lines made → HasFault p text fault → ⊥
never_faulty p text lines made fault spells means (no_trace found broken told) = never_broken text lines found spells broken
never_faulty p text lines made fault spells means (no_plan other found also foreign told) =
    let same : other ≡ lines = one_trace text other lines also spells in
    never_foreign p lines made found means (subst (λ (l : List Numbered). IsForeign p l found) same foreign)

pub one_plan : (p : Meaning) (lines : List Numbered) (made other : Plan) → SpellsPlan p lines made → SpellsPlan p lines other → made ≡ other
one_plan p lines made other means also = means.is ∙ sym also.is
