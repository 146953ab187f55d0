use Rattle.std.proofs.Common.{◌∙◌, List, ℕ, sym, ap, subst, refl}
use Rattle.round_judge.specs.Readable.{ReadIn}
use Rattle.turn_tests.specs.Memory.{core_of, history_of, meaning_in_memory, plan_of}
use Rattle.turn_tests.specs.Steps.{moment_of}
use Rattle.serial_steps.specs.Turns.{with_step}
use Rattle.turn_tests.proofs.Rows.{fresh_read}
use Rattle.turn_tests.proofs.Stepping.{fresh_same}
use Rattle.turn_tests.proofs.memory_calls.MemoryCalls.next.Goals as goal

pub next_step-requires-clause-fresh : goal.next_step-requires-clause-fresh
next_step-requires-clause-fresh c =
    let it = c.args.self.now in let ready = c.requires.ready in
    subst (ReadIn (plan_of it) it.past) (sym c.fresh_reads-fresh.ensures) (fresh_read (meaning_in_memory it) (plan_of it) it.past (history_of it) ready.kept.stands)

pub returns-clause-step : goal.returns-clause-step
returns-clause-step c =
    let it = c.args.self.now in let ready = c.requires.ready in
    c.next_step.ensures.step (history_of it) ready.kept.stands (λ k. c.args.look) (c.fresh_reads-fresh.ensures ∙ fresh_same (meaning_in_memory it) (plan_of it) (history_of it) (core_of it)) refl
    ∙ ap (λ (reads : List ℕ). with_step (moment_of it c.args.look) (core_of it) reads c.next_step.result) c.fresh_reads-fresh.ensures
