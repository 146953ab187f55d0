use Rattle.std.proofs.Common.{◌≡◌, ◌+◌, ap, ◌∙◌, sym, subst, arith}
use Rattle.policy_tree.specs.Meaning.{meaning_of}
use Rattle.round_model.specs.declared.plan.Plan.{Plan}
use Rattle.serial_steps.specs.SerialEnds.{RoundFits}
use Rattle.core_table.specs.Public.{view_of}
use Rattle.core_table.specs.Views.{meaning_in}
use Rattle.parallel_play.specs.Playing.{HavePassed}
use Rattle.parallel_play.specs.Tallies.{due_by}
use Rattle.parallel_play.proofs.Rounding.{due_stops, ends_full, ends_whole, first_between, may_begin, next_between, passed_more}
use Rattle.parallel_play.proofs.rounds.run_rounds.Goals as goal

pub loop-begun-init : goal.loop-begun-init
loop-begun-init g c =
    let s = c.requires.seat in record {
      of = s.of;
      between = first_between c.args.policy.now c.args.plan.now c.new-tally.result c.new-tally.ensures (view_of c.args.seat) s.view s.known;
      passed = λ core r inside early. absurd (omega arith);
    }

pub returns-then-not-is_due-clause-whole : goal.returns-then-not-is_due-clause-whole
returns-then-not-is_due-clause-whole g c =
    let i = c.loop-begun.invariant in let t = c.loop-begun.tally in let v = view_of c.loop-begun.seat in let k = c.loop-begun.begun in
    let p = meaning_of c.args.policy.now in let plan = c.args.plan.now in
    let is_p : meaning_in v ≡ p = ap meaning_of (i.of.opening.policy ∙ sym c.requires.opened.0) in let is_plan : v.plan ≡ plan = i.of.opening.plan ∙ sym c.requires.opened.1 in
    ends_whole k t v i.between p plan is_p is_plan c.close.result c.close.ensures.closed (g.G.Gate.passed c.args.gate.now) i.passed (sym c.is_due.ensures ∙ c.if-not-is_due.true)

pub returns-then-not-round_fits-clause-fault : goal.returns-then-not-round_fits-clause-fault
returns-then-not-round_fits-clause-fault g c =
    let i = c.loop-begun.invariant in let t = c.loop-begun.tally in let v = view_of c.loop-begun.seat in let k = c.loop-begun.begun in
    let p = meaning_of c.args.policy.now in let plan = c.args.plan.now in
    let is_p : meaning_in v ≡ p = ap meaning_of (i.of.opening.policy ∙ sym c.requires.opened.0) in let is_plan : v.plan ≡ plan = i.of.opening.plan ∙ sym c.requires.opened.1 in
    ends_full k t v i.between p plan is_p is_plan c.close-then-not-round_fits.result c.close-then-not-round_fits.ensures.closed (g.G.Gate.passed c.args.gate.now) i.passed (sym c.is_due.ensures ∙ c.if-not-is_due.false)
    (λ room. let fits = c.round_fits.ensures.1 room in let none = c.if-not-round_fits.true in absurd (cc))

pub play_round-requires-clause-may : goal.play_round-requires-clause-may
play_round-requires-clause-may g c _ _ =
    let i = c.loop-begun.invariant in let t = c.loop-begun.tally in let v = view_of c.loop-begun.seat in let k = c.loop-begun.begun in
    let p = meaning_of c.args.policy.now in let plan = c.args.plan.now in
    let is_p : meaning_in v ≡ p = ap meaning_of (i.of.opening.policy ∙ sym c.requires.opened.0) in let is_plan : v.plan ≡ plan = i.of.opening.plan ∙ sym c.requires.opened.1 in
    may_begin k t v i.between (ap (λ (x : Plan). due_by x k t) is_plan ∙ (sym c.is_due.ensures ∙ c.if-not-is_due.false))
    (subst (λ (x : Plan). RoundFits x t.entries) (sym is_plan) (c.round_fits.ensures.0 c.if-not-round_fits.false))

pub loop-begun-preserved : goal.loop-begun-preserved
loop-begun-preserved g c =
    let i = c.loop-begun.invariant in let t = c.loop-begun.tally in let v = view_of c.loop-begun.seat in let k = c.loop-begun.begun in
    let p = meaning_of c.args.policy.now in let plan = c.args.plan.now in
    let is_p : meaning_in v ≡ p = ap meaning_of (i.of.opening.policy ∙ sym c.requires.opened.0) in let is_plan : v.plan ≡ plan = i.of.opening.plan ∙ sym c.requires.opened.1 in
    record {
      of = c.play_round.ensures.seat;
      between = next_between k t v i.between c.play_round.result.1 (view_of c.play_round.result.0) c.play_round.ensures.played
          (subst (λ (x : Plan). RoundFits x t.entries) (sym is_plan) (c.round_fits.ensures.0 c.if-not-round_fits.false));
      passed = passed_more (g.G.Gate.passed c.args.gate.now) plan k i.passed
          (subst (λ (x : Plan). HavePassed (g.G.Gate.passed c.args.gate.now) x 0 (k + 1)) (sym c.requires.opened.1) c.play_round.ensures.passed);
    }

pub returns-clause-whole : goal.returns-clause-whole
returns-clause-whole g c =
    let i = c.loop-begun.invariant in let t = c.loop-begun.tally in let v = view_of c.loop-begun.seat in let k = c.loop-begun.begun in
    let p = meaning_of c.args.policy.now in let plan = c.args.plan.now in
    let is_p : meaning_in v ≡ p = ap meaning_of (i.of.opening.policy ∙ sym c.requires.opened.0) in let is_plan : v.plan ≡ plan = i.of.opening.plan ∙ sym c.requires.opened.1 in
    ends_whole k t v i.between p plan is_p is_plan c.close-2.result c.close-2.ensures.closed (g.G.Gate.passed c.args.gate.now) i.passed (due_stops plan k t (let over = c.loop-begun-test.false in omega arith))
