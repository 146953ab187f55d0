use Rattle.round_judge.proofs.AddedBounds.{belongs_added, fewer_left}
use Rattle.round_judge.proofs.AddedStands.{stands_added}
use Rattle.round_judge.proofs.BegunBounds.{belongs_begun}
use Rattle.std.proofs.Common.{◌∙◌, sym, arith}
use Rattle.policy_tree.specs.Meaning.{meaning_of}
use Rattle.round_model.proofs.States.{OnOk-then}
use Rattle.round_model.proofs.There.{acts_there, are_there}
use Rattle.round_judge.proofs.Begun.{room_for_round, stands_of_round}
use Rattle.round_judge.proofs.Free.{is_free}
use Rattle.round_judge.proofs.adding.step.Goals as goal

pub begin_round-requires-clause-rounds : goal.begin_round-requires-clause-rounds
begin_round-requires-clause-rounds c =
    let next = c.requires.next in
    omega (arith, room_for_round (meaning_of c.args.policy.now) c.args.plan.now c.args.past.now next.history c.args.entry (sym c.acting_core.ensures ∙ c.in-None.is) next.stands next.legal, c.requires.past.limits.few_rounds)

pub returns-in-None-clause-stands : goal.returns-in-None-clause-stands
returns-in-None-clause-stands c =
    OnOk-then c.begin_round.result c.begin_round.ensures.ok (λ begun history stands legal.
    stands_of_round (meaning_of c.args.policy.now) c.args.plan.now c.args.past.now _ history c.args.entry (sym c.acting_core.ensures ∙ c.in-None.is) stands legal c.requires.past.window.some begun)

pub returns-in-None-clause-belongs : goal.returns-in-None-clause-belongs
returns-in-None-clause-belongs c =
    let next = c.requires.next in let p = meaning_of c.args.policy.now in let plan = c.args.plan.now in let past = c.args.past.now in
    let due = room_for_round p plan past next.history c.args.entry (sym c.acting_core.ensures ∙ c.in-None.is) next.stands next.legal in
    OnOk-then c.begin_round.result c.begin_round.ensures.ok (λ begun.
    belongs_begun p plan past _ c.requires.fits c.requires.past begun (omega (arith, next.room, next.stands.entries)) due)

pub returns-in-Some-clause-stands : goal.returns-in-Some-clause-stands
returns-in-Some-clause-stands c =
    let p = meaning_of c.args.policy.now in let plan = c.args.plan.now in let past = c.args.past.now in
    let acting = sym c.acting_core.ensures ∙ c.in-Some.is in
    let next = c.requires.next in
    let there = acts_there p plan next.history c.args.entry c.in-Some.by acting next.legal in
    OnOk-then c.add_entry.result c.add_entry.ensures.ok (λ added history stands legal.
    stands_added p plan past _ history c.args.entry c.in-Some.by c.requires.fits c.requires.past acting there stands legal added)

pub returns-in-Some-clause-belongs : goal.returns-in-Some-clause-belongs
returns-in-Some-clause-belongs c =
    let p = meaning_of c.args.policy.now in let plan = c.args.plan.now in let past = c.args.past.now in
    let acting = sym c.acting_core.ensures ∙ c.in-Some.is in
    let next = c.requires.next in
    let there = acts_there p plan next.history c.args.entry c.in-Some.by acting next.legal in
    let free = is_free p plan past next.history c.args.entry c.requires.fits c.requires.past next.stands next.legal in
    OnOk-then c.add_entry.result c.add_entry.ensures.ok (λ added.
    belongs_added p plan past _ c.args.entry c.in-Some.by c.requires.past added (omega (arith, next.room, next.stands.entries)) there free
    (fewer_left p plan past next.history c.args.entry c.in-Some.by acting next.stands next.legal))

pub add_entry-requires-clause-by : goal.add_entry-requires-clause-by
add_entry-requires-clause-by c =
    let next = c.requires.next in
    acts_there (meaning_of c.args.policy.now) c.args.plan.now next.history c.args.entry c.in-Some.by (sym c.acting_core.ensures ∙ c.in-Some.is) next.legal

pub add_entry-requires-clause-there : goal.add_entry-requires-clause-there
add_entry-requires-clause-there c = are_there (meaning_of c.args.policy.now) c.args.plan.now c.requires.next.history c.args.entry c.requires.next.legal

pub add_entry-requires-clause-free : goal.add_entry-requires-clause-free
add_entry-requires-clause-free c =
    let next = c.requires.next in
    is_free (meaning_of c.args.policy.now) c.args.plan.now c.args.past.now next.history c.args.entry c.requires.fits c.requires.past next.stands next.legal
