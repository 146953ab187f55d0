-- Entry after entry.
use Rattle.std.proofs.Common.{suc, ap, subst, sym, take, ◌∙◌, arith, add-one}
use Rattle.std.proofs.lemmas.List.{length-take}
use Rattle.std.proofs.lemmas.List.Sums.{count_by-le-length}
use mathlib.Core.Option.{some}
use Rattle.round_model.specs.Kinds.{is_round}
use Rattle.sched_report.specs.Code.Steals.{AreStealsSoFar}
use Rattle.sched_report.proofs.StealLemmas.{few_so_far, steals_at_last, steals_noted, stolen_in_round}
use Rattle.sched_report.proofs.WalkLemmas.{elem_at}
use Rattle.sched_report.proofs.steals.steals_of_rounds.Goals as goal

pub note_steal-requires-clause-room : goal.note_steal-requires-clause-room
note_steal-requires-clause-room c =
    let history = c.args.history.now in let at = c.loop-entry.entry-index in
    let rounds = c.loop-entry.invariant.rounds in let few = c.requires.few in let inside = c.loop-entry-test.true in
    omega (arith, count_by-le-length is_round (take at history), length-take at history)

pub note_steal-requires-clause-begun : goal.note_steal-requires-clause-begun
note_steal-requires-clause-begun c =
    let history = c.args.history.now in let at = c.loop-entry.entry-index in
    let is = elem_at history at c.entry-item.result c.loop-entry-test.true ∙ ap some (sym c.entry-item.is) in
    λ steals. let begun = stolen_in_round c.requires.legal.0 c.requires.legal.1 (take at history) c.entry-item.result (c.requires.legal.2 at c.entry-item.result is) steals in
    let rounds = c.loop-entry.invariant.rounds in omega arith

pub note_steal-requires-clause-small : goal.note_steal-requires-clause-small
note_steal-requires-clause-small c k =
    let few = c.requires.few in
    omega (arith, c.loop-entry.invariant.each k, few_so_far c.args.history.now c.loop-entry.entry-index (suc k) (suc k))

pub loop-entry-preserved : goal.loop-entry-preserved
loop-entry-preserved c =
    let history = c.args.history.now in let at = c.loop-entry.entry-index in
    let is = elem_at history at c.entry-item.result c.loop-entry-test.true ∙ ap some (sym c.entry-item.is) in
    let noted = steals_noted c.requires.legal.0 c.requires.legal.1 history c.requires.legal.2 at c.entry-item.result is c.loop-entry-test.true c.loop-entry.counts c.loop-entry.invariant in
    subst (λ n. AreStealsSoFar history n c.note_steal.new.counts) (sym (add-one at)) (subst (AreStealsSoFar history (suc at)) (sym c.in_ok-note_steal.ensures) noted)

pub returns : goal.returns
returns c = steals_at_last c.args.history.now c.loop-entry.entry-index c.loop-entry.counts (omega arith) c.loop-entry.invariant
