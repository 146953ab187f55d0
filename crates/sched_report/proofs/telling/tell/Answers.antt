-- The walk tells the rows, and the rows the rest.
use Rattle.std.proofs.Common.{◌≡◌, ◌<◌, ◌^◌, length, refl, sym, ap, subst, ◌∙◌, arith}
use Rattle.std.specs.Prelude.{sum_by}
use Rattle.policy_tree.specs.Meaning.{meaning_of}
use Rattle.sched_report.specs.Reports.{totals_of}
use Rattle.sched_report.specs.Code.Runs.{AreNumbered, AreRuns}
use Rattle.sched_report.specs.Code.Walks.{IsTally}
use Rattle.sched_report.specs.declared.rows.RoundRow.{RoundRow}
use Rattle.sched_report.specs.declared.telling.Told.{Told}
use Rattle.sched_report.proofs.PaidLemmas.{few_rows, small_sum}
use Rattle.sched_report.proofs.ReportLemmas.{flags_counted, rounds_numbered, told_is}
use Rattle.sched_report.proofs.telling.tell.Goals as goal

pub stretches_of-requires-clause-flags : goal.stretches_of-requires-clause-flags
stretches_of-requires-clause-flags c =
    let p = meaning_of c.args.policy.now in let plan = c.args.plan.now in let history = c.args.history.now in let tally = c.in_ok-tally.tally in
    let told = subst (λ h. IsTally p plan h tally) c.as_slice-entries.ensures.items c.in_ok-tally.ensures in
    ap length c.as_slice-2.ensures.items ∙ (flags_counted p plan history c.requires.legal tally told ∙ sym (ap length c.as_slice.ensures.items))

pub stretches_of-requires-clause-numbered : goal.stretches_of-requires-clause-numbered
stretches_of-requires-clause-numbered c =
    let p = meaning_of c.args.policy.now in let plan = c.args.plan.now in let history = c.args.history.now in let tally = c.in_ok-tally.tally in
    let told = subst (λ h. IsTally p plan h tally) c.as_slice-entries.ensures.items c.in_ok-tally.ensures in
    subst AreNumbered (sym c.as_slice.ensures.items) (rounds_numbered p plan history c.requires.legal tally told)

pub stretches_of-requires-clause-few : goal.stretches_of-requires-clause-few
stretches_of-requires-clause-few c =
    let p = meaning_of c.args.policy.now in let plan = c.args.plan.now in let history = c.args.history.now in let tally = c.in_ok-tally.tally in
    let told = subst (λ h. IsTally p plan h tally) c.as_slice-entries.ensures.items c.in_ok-tally.ensures in
    omega (arith, ap length c.as_slice.ensures.items, ap length told.rounds, few_rows p plan history c.requires.legal c.requires.few)

pub totals_of-totals-requires-clause-few_rounds : goal.totals_of-totals-requires-clause-few_rounds
totals_of-totals-requires-clause-few_rounds c =
    let p = meaning_of c.args.policy.now in let plan = c.args.plan.now in let history = c.args.history.now in let tally = c.in_ok-tally.tally in
    let told = subst (λ h. IsTally p plan h tally) c.as_slice-entries.ensures.items c.in_ok-tally.ensures in
    omega (arith, ap length c.as_slice-3.ensures.items, ap length told.rounds, few_rows p plan history c.requires.legal c.requires.few)

pub totals_of-totals-requires-clause-small : goal.totals_of-totals-requires-clause-small
totals_of-totals-requires-clause-small c =
    let p = meaning_of c.args.policy.now in let plan = c.args.plan.now in let history = c.args.history.now in let tally = c.in_ok-tally.tally in
    let told = subst (λ h. IsTally p plan h tally) c.as_slice-entries.ensures.items c.in_ok-tally.ensures in
    subst (λ rows. sum_by (λ (row : RoundRow). row.idle) rows < 2 ^ 32) (sym (c.as_slice-3.ensures.items ∙ told.rounds)) (small_sum p plan history c.requires.legal c.requires.limits c.requires.few)

pub returns : goal.returns
returns c =
    let p = meaning_of c.args.policy.now in let plan = c.args.plan.now in let history = c.args.history.now in let tally = c.in_ok-tally.tally in
    let is = subst (λ h. IsTally p plan h tally) c.as_slice-entries.ensures.items c.in_ok-tally.ensures in
    let stills = c.in_ok-stills.stills in
    let told : Told = record { rounds = tally.rounds; stills = stills; causes = tally.causes; totals = c.totals_of-totals.result } in
    let runs : AreRuns tally.still tally.rounds stills =
    subst (λ flags. AreRuns flags tally.rounds stills) c.as_slice-2.ensures.items (subst (λ rows. AreRuns c.as_slice-2.result.now rows stills) c.as_slice.ensures.items c.in_ok-stills.ensures) in
    let totals : c.totals_of-totals.result ≡ totals_of history tally.rounds =
    c.totals_of-totals.ensures ∙ (ap (λ h. totals_of h c.as_slice-3.result.now) c.as_slice-entries.ensures.items ∙ ap (totals_of history) c.as_slice-3.ensures.items) in
    told_is p plan history c.requires.legal tally is told refl runs refl totals
