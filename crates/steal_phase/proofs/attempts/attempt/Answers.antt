use Rattle.std.proofs.Common.{◌≡◌, ◌≢◌, false, true, [], sym, ◌∙◌, subst}
use Rattle.round_model.specs.declared.entry.Entry.{Entry}
use Rattle.core_table.specs.Public.{view_of}
use Rattle.steal_phase.specs.Attempts.{HasAdded}
use Rattle.steal_phase.proofs.Ending.{failed_entry, fails_at, steals_at, stolen_entry}
use Rattle.steal_phase.proofs.attempts.attempt.Goals as goal

pub returns-then-is_empty-clause-added : goal.returns-then-is_empty-clause-added
returns-then-is_empty-clause-added g c =
    let look = c.args.look in let at = c.contest-at.result.0 in let threads = c.contest-at.result.1 in
    subst (λ (e : Entry). HasAdded look.by at e (view_of c.args.seat.now) (view_of c.contest-at.new.seat))
    (failed_entry look at c.in-Some.from (view_of c.args.seat.now) c.in-Some.is threads (c.is_empty.ensures.0 c.if-is_empty.true)) c.contest-at.ensures.added

pub returns-then-is_empty-clause-attempted : goal.returns-then-is_empty-clause-attempted
returns-then-is_empty-clause-attempted g c =
    fails_at c.args.look c.contest-at.result.0 c.in-Some.from (view_of c.args.seat.now) c.in-Some.is c.contest-at.result.1 (c.is_empty.ensures.0 c.if-is_empty.true) c.contest-at.ensures.drawn

pub returns-else-is_empty-clause-added : goal.returns-else-is_empty-clause-added
returns-else-is_empty-clause-added g c =
    let look = c.args.look in let at = c.contest-at.result.0 in let threads = c.contest-at.result.1 in
    let some : threads ≢ [] = λ none. let both : false ≡ true = sym c.if-is_empty.false ∙ c.is_empty.ensures.1 none in absurd (cc) in
    subst (λ (e : Entry). HasAdded look.by at e (view_of c.args.seat.now) (view_of c.contest-at.new.seat))
    (stolen_entry look at c.in-Some.from (view_of c.args.seat.now) c.in-Some.is threads some) c.contest-at.ensures.added

pub returns-else-is_empty-clause-attempted : goal.returns-else-is_empty-clause-attempted
returns-else-is_empty-clause-attempted g c =
    let threads = c.contest-at.result.1 in
    let some : threads ≢ [] = λ none. let both : false ≡ true = sym c.if-is_empty.false ∙ c.is_empty.ensures.1 none in absurd (cc) in
    steals_at c.args.look c.contest-at.result.0 c.in-Some.from (view_of c.args.seat.now) c.in-Some.is threads some c.contest-at.ensures.drawn
