use Rattle.std.proofs.Common.{◌≡◌, ◌+◌, ap, ◌∙◌, sym, subst, arith}
use Rattle.round_model.specs.declared.plan.Plan.{Plan}
use Rattle.serial_steps.specs.SerialEnds.{RoundFits}
use Rattle.core_table.specs.Public.{view_of}
use Rattle.parallel_play.specs.Tallies.{due_by}
use Rattle.parallel_play.proofs.Rounding.{first_between, may_begin, next_between}
use Rattle.serial_tests.specs.Counts.{tally_of}
use Rattle.serial_tests.proofs.at_table.play_rounds.Goals as goal

pub loop-begun-init : goal.loop-begun-init
loop-begun-init g c =
    let s = c.requires.seat in record {
      of = s.of;
      between = first_between c.args.policy.now c.args.plan.now (tally_of c.new-count.result) c.new-count.ensures (view_of c.args.seat.now) s.view s.known;
    }

pub play_round-requires-clause-may : goal.play_round-requires-clause-may
play_round-requires-clause-may g c =
    let i = c.loop-begun.invariant in let t = tally_of c.loop-begun.count in let v = view_of c.loop-begun.seat in let k = c.loop-begun.begun in
    let is_plan : v.plan ≡ c.args.plan.now = i.of.opening.plan ∙ sym c.requires.opened.1 in
    may_begin k t v i.between (ap (λ (x : Plan). due_by x k t) is_plan ∙ (sym c.is_due.ensures ∙ c.if-not-is_due.false))
    (subst (λ (x : Plan). RoundFits x t.entries) (sym is_plan) (c.round_fits.ensures.0 c.if-not-round_fits.false))

pub loop-begun-preserved : goal.loop-begun-preserved
loop-begun-preserved g c =
    let i = c.loop-begun.invariant in let t = tally_of c.loop-begun.count in let v = view_of c.loop-begun.seat in let k = c.loop-begun.begun in
    let is_plan : v.plan ≡ c.args.plan.now = i.of.opening.plan ∙ sym c.requires.opened.1 in
    record {
      of = c.play_round.ensures.seat;
      between = next_between k t v i.between (tally_of c.play_round.new.count) (view_of c.play_round.new.seat) c.play_round.ensures.played
          (subst (λ (x : Plan). RoundFits x t.entries) (sym is_plan) (c.round_fits.ensures.0 c.if-not-round_fits.false));
    }
