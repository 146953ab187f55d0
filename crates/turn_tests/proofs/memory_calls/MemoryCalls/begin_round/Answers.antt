use Rattle.std.proofs.Common.{◌+◌, ℕ, ap}
use Rattle.turn_tests.specs.Memory.{history_of, meaning_in_memory, plan_of}
use Rattle.turn_tests.proofs.Begun.{round_begun, round_kept, round_next}
use Rattle.turn_tests.proofs.memory_calls.MemoryCalls.begin_round.Goals as goal

pub add-requires-clause-next : goal.add-requires-clause-next
add-requires-clause-next g c =
    let it = c.args.self.now in let kept = c.requires.kept in
    round_next it kept (c.may_begin.ensures c.if-not-may_begin.false) _ (ap (λ (n : ℕ). n + 1) (c.rounds-number.ensures (meaning_in_memory it) (plan_of it) (history_of it) kept.stands))

pub returns-clause-kept : goal.returns-clause-kept
returns-clause-kept g c =
    let it = c.args.self.now in let kept = c.requires.kept in
    round_kept it kept (c.may_begin.ensures c.if-not-may_begin.false) _ (ap (λ (n : ℕ). n + 1) (c.rounds-number.ensures (meaning_in_memory it) (plan_of it) (history_of it) kept.stands)) c.add.new.self c.add.ensures.grown

pub returns-clause-begun : goal.returns-clause-begun
returns-clause-begun g c begins =
    let it = c.args.self.now in let kept = c.requires.kept in
    round_begun it kept (c.may_begin.ensures c.if-not-may_begin.false) _ (ap (λ (n : ℕ). n + 1) (c.rounds-number.ensures (meaning_in_memory it) (plan_of it) (history_of it) kept.stands)) c.add.new.self c.add.ensures.grown
