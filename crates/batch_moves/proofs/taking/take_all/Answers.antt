use Rattle.std.proofs.Common.{ℕ, ◌+◌, ◌-◌, List, Option, sym, ap, subst, ◌∙◌, arith}
use Rattle.std.specs.Prelude.{option_map}
use Rattle.policy_tree.specs.Meaning.{batch_tree, meaning_of}
use Rattle.policy_tree.specs.declared.typed.Batch.{Batch}
use Rattle.round_model.specs.Attempts.{moves_of}
use Rattle.round_model.specs.Moves.{handed_all, received_all, taken_from}
use Rattle.batch_moves.specs.Code.Moved.{IsMoved}
use Rattle.batch_moves.proofs.Moving.{first_come, first_left, first_moved, is_queued, is_seen, more_moved, next_best, none_come, none_leave, with_core}
use Rattle.round_model.proofs.MoveSteps.{full-further, none-further}
use Rattle.batch_moves.proofs.taking.take_all.Goals as goal

pub returns-in_default-clause-thief : goal.returns-in_default-clause-thief
returns-in_default-clause-thief c = none_come c.args.thief.now c.args.victim.now.core.queue c.empty.result c.empty.ensures

pub returns-in_default-clause-victim : goal.returns-in_default-clause-victim
returns-in_default-clause-victim c = none_leave c.args.victim.now c.empty.result c.empty.ensures

pub carry-requires-clause-there : goal.carry-requires-clause-there
carry-requires-clause-there c =
    is_queued (meaning_of c.args.policy.now) c.args.thief.now c.args.victim.now c.requires.may c.in-Some.best c.in-Some.ensures.best

pub carry-requires-clause-seen : goal.carry-requires-clause-seen
carry-requires-clause-seen c =
    is_seen (meaning_of c.args.policy.now) c.args.thief.now c.args.victim.now c.requires.may c.in-Some.best c.in-Some.ensures.best c.requires.policy

pub returns-in_default-batch-clause-thief : goal.returns-in_default-batch-clause-thief
returns-in_default-batch-clause-thief c =
    let thief = c.args.thief.now in let victim = c.args.victim.now in
    first_come (meaning_of c.args.policy.now) c.args.own.now c.args.other.now thief victim c.requires.may c.in-Some.best c.in-Some.ensures.best
    c.carry.new.thief c.carry.new.victim c.carry.ensures.thief c.carry.ensures.victim
    ∙ ap (λ (ids : List ℕ). with_core thief (received_all (taken_from ids victim.core.queue).found thief.core)) (sym c.of-stolen.ensures)

pub returns-in_default-batch-clause-victim : goal.returns-in_default-batch-clause-victim
returns-in_default-batch-clause-victim c =
    let thief = c.args.thief.now in let victim = c.args.victim.now in
    first_left (meaning_of c.args.policy.now) c.args.own.now c.args.other.now thief victim c.requires.may c.in-Some.best c.in-Some.ensures.best
    c.carry.new.thief c.carry.new.victim c.carry.ensures.thief c.carry.ensures.victim
    ∙ ap (λ (ids : List ℕ). with_core victim (handed_all ids victim.core)) (sym c.of-stolen.ensures)

pub loop-move-init : goal.loop-move-init
loop-move-init c =
    let p = meaning_of c.args.policy.now in let b = batch_tree c.in-Some-batch.batch in
    let own = c.args.own.now in let other = c.args.other.now in let thief = c.args.thief.now in let victim = c.args.victim.now in
    subst (λ (ids : List ℕ). IsMoved p b own other thief victim 1 ids c.carry.new.thief c.carry.new.victim) (sym c.of-stolen.ensures)
    (first_moved p own other thief victim c.requires.may c.in-Some.best c.in-Some.ensures.best
    c.carry.new.thief c.carry.new.victim c.carry.ensures.thief c.carry.ensures.victim b c.in-Some.ensures.first)

pub returns-in_default-next-clause-moves : goal.returns-in_default-next-clause-moves
returns-in_default-next-clause-moves c plan a v own_is other_is =
    let p = meaning_of c.args.policy.now in let b = batch_tree c.in-Some-batch.batch in let l = c.loop-move in
    none-further p plan a v b _ l.stolen l.thief.core l.victim.core (b.limit - l._move) (l.invariant.moves plan a v own_is other_is)
    (sym (c.next.ensures.next plan a v own_is other_is) ∙ c.in_default-next.is)
    ∙ ap (λ (batch : Option Batch). moves_of p plan a v (option_map batch_tree batch) c.args.thief.now.core c.args.victim.now.core) (sym c.in-Some-batch.is)

pub carry-requires-in-loop-move-clause-there : goal.carry-requires-in-loop-move-clause-there
carry-requires-in-loop-move-clause-there c =
    let p = meaning_of c.args.policy.now in let l = c.loop-move in let t = c.in-Some-next.task in
    is_queued p l.thief l.victim l.invariant.may t (next_best p l.victim c.next.result t c.in-Some-next.is c.next.ensures.best)

pub carry-requires-in-loop-move-clause-seen : goal.carry-requires-in-loop-move-clause-seen
carry-requires-in-loop-move-clause-seen c =
    let p = meaning_of c.args.policy.now in let l = c.loop-move in let t = c.in-Some-next.task in
    is_seen p l.thief l.victim l.invariant.may t (next_best p l.victim c.next.result t c.in-Some-next.is c.next.ensures.best) c.requires.policy

pub loop-move-preserved : goal.loop-move-preserved
loop-move-preserved c =
    let p = meaning_of c.args.policy.now in let b = batch_tree c.in-Some-batch.batch in let l = c.loop-move in
    let own = c.args.own.now in let other = c.args.other.now in let thief = c.args.thief.now in let victim = c.args.victim.now in let carry = c.carry-in-loop-move in let t = c.in-Some-next.task in
    subst (λ (ids : List ℕ). IsMoved p b own other thief victim (l._move + 1) ids carry.new.thief carry.new.victim) (sym c.push.ensures)
    (more_moved p own other thief victim b l._move l.stolen l.thief l.victim l.invariant t (next_best p l.victim c.next.result t c.in-Some-next.is c.next.ensures.best)
    c.loop-move-test.true (λ plan a v own_is other_is. sym c.in-Some-next.is ∙ c.next.ensures.next plan a v own_is other_is) carry.new.thief carry.new.victim carry.ensures.thief carry.ensures.victim)

pub returns-clause-moves : goal.returns-clause-moves
returns-clause-moves c plan a v own_is other_is =
    let p = meaning_of c.args.policy.now in let b = batch_tree c.in-Some-batch.batch in let l = c.loop-move in
    full-further p plan a v b _ l.stolen l.thief.core l.victim.core (b.limit - l._move) (l.invariant.moves plan a v own_is other_is) (omega (arith, c.loop-move-test.false))
    ∙ ap (λ (batch : Option Batch). moves_of p plan a v (option_map batch_tree batch) c.args.thief.now.core c.args.victim.now.core) (sym c.in-Some-batch.is)
