use Rattle.std.proofs.Common.{◌∙◌, ap, sym, arith}
use Rattle.policy_tree.specs.Meaning.{meaning_of}
use Rattle.core_state.specs.Views.{ClosedView}
use Rattle.core_worker.proofs.Rounding.{more_played, next_may, none_played, played_all, played_full, played_whole}
use Rattle.core_worker.proofs.rounds.play_rounds.Goals as goal

pub loop-begun-init : goal.loop-begun-init
loop-begun-init c = none_played (meaning_of c.args.policy.now) c.args.plan.now _ c.in_ok-run.ensures

pub returns-then-not-is_due-clause-whole : goal.returns-then-not-is_due-clause-whole
returns-then-not-is_due-clause-whole c =
    let p = meaning_of c.args.policy.now in let plan = c.args.plan.now in let played = c.loop-begun.invariant in
    played_whole p plan c.requires.fits c.requires.handlers c.loop-begun.begun c.loop-begun.run played _ (ap (λ (v : ClosedView). v.cores) c.close.ensures.same) (c.close.ensures.logs p plan played.state.history played.at.legal played.at.cores) (omega arith)
    (sym (c.is_due.ensures p played.state played.at) ∙ c.if-not-is_due.true)

pub returns-then-not-round_fits-clause-fault : goal.returns-then-not-round_fits-clause-fault
returns-then-not-round_fits-clause-fault c =
    let p = meaning_of c.args.policy.now in let plan = c.args.plan.now in let played = c.loop-begun.invariant in
    played_full p plan c.requires.fits c.requires.handlers c.loop-begun.begun c.loop-begun.run played c.close-then-not-round_fits.result (ap (λ (v : ClosedView). v.cores) c.close-then-not-round_fits.ensures.same)
    (c.close-then-not-round_fits.ensures.logs p plan played.state.history played.at.legal played.at.cores)
    (sym (c.is_due.ensures p played.state played.at) ∙ c.if-not-is_due.false)
    (λ room. let count = c.entries.ensures in let fits = c.round_fits.ensures.1 (omega (arith, count)) in let none = c.if-not-round_fits.true in absurd (cc))

pub play_round-requires-clause-may : goal.play_round-requires-clause-may
play_round-requires-clause-may c =
    let p = meaning_of c.args.policy.now in let plan = c.args.plan.now in let played = c.loop-begun.invariant in
    let room = c.round_fits.ensures.0 c.if-not-round_fits.false in let count = c.entries.ensures in
    (played.state, next_may p plan c.requires.fits c.requires.handlers c.loop-begun.begun c.loop-begun.run played (sym (c.is_due.ensures p played.state played.at) ∙ c.if-not-is_due.false) (omega (arith, count)))

pub loop-begun-preserved : goal.loop-begun-preserved
loop-begun-preserved c =
    let p = meaning_of c.args.policy.now in let plan = c.args.plan.now in let played = c.loop-begun.invariant in
    let room = c.round_fits.ensures.0 c.if-not-round_fits.false in let count = c.entries.ensures in
    let may = next_may p plan c.requires.fits c.requires.handlers c.loop-begun.begun c.loop-begun.run played (sym (c.is_due.ensures p played.state played.at) ∙ c.if-not-is_due.false) (omega (arith, count)) in
    let (t, is, at) = c.play_round.ensures played.state may in
    more_played p plan c.requires.fits c.requires.handlers c.loop-begun.begun c.loop-begun.run played c.play_round.new.self t is at (omega (arith, count))

pub returns-clause-whole : goal.returns-clause-whole
returns-clause-whole c =
    let p = meaning_of c.args.policy.now in let plan = c.args.plan.now in let played = c.loop-begun.invariant in
    played_all p plan c.requires.fits c.requires.handlers c.loop-begun.begun c.loop-begun.run played c.close-2.result (ap (λ (v : ClosedView). v.cores) c.close-2.ensures.same)
    (c.close-2.ensures.logs p plan played.state.history played.at.legal played.at.cores) (omega arith)
