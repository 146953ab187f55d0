use Rattle.std.proofs.Common.{◌+◌, ◌<◌, arith, ap, ◌∙◌, sym, length, subst, length-set}
use Rattle.std.proofs.lemmas.List.{length_push}
use Rattle.policy_eval.specs.declared.env.CoreValues.{CoreValues}
use Rattle.core_table.specs.Public.{plan_of, view_of}
use Rattle.core_table.specs.Told.{IsKnown}
use Rattle.round_model.specs.declared.plan.Plan.{Plan}
use Rattle.core_table.specs.Views.{noted}
use Rattle.select_phase.proofs.Reading.{all_more, consts_are, last_more, late_more, one_more, read_more, values_more}
use Rattle.select_phase.proofs.glances.glance.Goals as goal

pub loop-core-preserved : goal.loop-core-preserved
loop-core-preserved c =
    let i = c.loop-core.invariant in let k = c.loop-core.core in let read = c.read-read.result in let e = c.read-read.ensures.noted in
    let x : CoreValues = record { nr = read.nr; load = read.load; consts = c.consts.result.now } in
    let note = noted k read.at (record { nr = read.nr; load = read.load }) in
    let cores = ap (λ (p : Plan). p.cores) i.of.opening.plan in let few = e.known.1.limits.few_cores in let low = c.loop-core-test.true in let last = c.cores-core-end.ensures in
    let deep : k < length c.loop-core.values = omega (arith, i.long) in
    record {
      of = e.of;
      more = one_more (view_of c.args.seat.now) (view_of c.loop-core.seat) (view_of c.read-read.new.seat) note i.more e.view;
      known = λ _. subst IsKnown (sym e.view) e.known;
      long = length-set c.loop-core.values k x ∙ i.long;
      one_each = ap length c.push.ensures ∙ (length_push c.loop-core.reads read.at ∙ ap (λ n. n + 1) i.one_each);
      read = read_more (view_of c.loop-core.seat) (view_of c.read-read.new.seat) c.loop-core.reads c.push.new.self c.loop-core.values k read.at x e.view c.push.ensures i.one_each deep i.read;
      each = values_more (plan_of c.args.table.now) c.loop-core.values k x deep (consts_are (plan_of c.args.table.now) k c.consts.result.now c.consts.ensures) i.each;
      late = late_more (view_of c.args.seat.now) (view_of c.loop-core.seat) c.loop-core.reads c.push.new.self k read.at c.push.ensures i.one_each i.more i.late c.read-read.ensures.latest;
      last = last_more (view_of c.loop-core.seat) (view_of c.read-read.new.seat) c.loop-core.reads c.push.new.self k read.at (record { nr = read.nr; load = read.load }) e.view c.push.ensures i.one_each i.last;
      all = all_more (view_of c.args.seat.now) (view_of c.loop-core.seat) (view_of c.read-read.new.seat) note c.loop-core.reads c.push.new.self read.at e.view c.push.ensures i.all;
    }
