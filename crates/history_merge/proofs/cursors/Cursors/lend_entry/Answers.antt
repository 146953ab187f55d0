use Rattle.std.proofs.Common.{◌≡◌, ℕ, Bor, None, Some, refl, ◌+◌, ◌<◌, List, length, Option, subst, sym, ap, ◌∙◌, slice_get, slice_index, arith}
use Rattle.std.specs.Option.{option_or}
use Rattle.sched_base.specs.declared.limits.TheConstants.{MAX_CORES}
use Rattle.round_model.specs.declared.entry.Entry.{Entry}
use Rattle.core_state.specs.declared.logged.Logged.{Logged}
use Rattle.history_merge.specs.Code.Moves.{entry_there, lent}
use Rattle.history_merge.specs.Cursors.{CursorsView}
use Rattle.history_merge.proofs.Walks.{IsWalked, cursor_few, passing_all, round_cursor_few, walk_begins, walk_ends, walk_goes}
use Rattle.history_merge.proofs.cursors.Cursors.lend_entry.Goals as goal

lent_either : (one other : Option (Bor Entry)) → lent (option_or one other) ≡ option_or (lent one) (lent other)
lent_either None other = refl
lent_either (Some e) other = refl

pub next_round-found-requires : goal.next_round-found-requires
next_round-found-requires c =
    let few = round_cursor_few c.args.closed.now c.args.at c.args.self.now c.requires.logs c.requires.stand in omega arith

pub loop-core-init : goal.loop-core-init
loop-core-init c =
    let closed = c.args.closed.now in let old = c.args.self.now in
    let finds = c.next_round-found.ensures.entry ∙ ap (λ (log : List Logged). entry_there c.args.at (slice_get log old.rounds)) c.rounds.ensures in
    subst (λ (v : CursorsView). IsWalked closed c.args.at 0 v (lent c.next_round-found.result)) (sym c.next_round-found.ensures.cursor)
    (walk_begins closed c.args.at old (lent c.next_round-found.result) c.requires.logs c.requires.stand finds)

pub next_of-next-requires-clause-cursor : goal.next_of-next-requires-clause-cursor
next_of-next-requires-clause-cursor c =
    let few = cursor_few c.args.closed.now c.args.at c.loop-core.core c.loop-core.self (lent c.loop-core.found) c.core.result.now c.requires.logs c.loop-core.invariant c.core.ensures in
    omega arith

pub loop-core-preserved : goal.loop-core-preserved
loop-core-preserved c =
    let closed = c.args.closed.now in let at = c.args.at in let core = c.loop-core.core in let cursors = c.loop-core.self in let found = lent c.loop-core.found in let next = lent c.next_of-next.result in
    let few : core < MAX_CORES = omega arith in
    let finds = c.next_of-next.ensures.entry ∙ ap (λ (log : List Logged). entry_there at (slice_get log (slice_index cursors.cores core))) c.entries.ensures in
    subst (λ (o : Option Entry). IsWalked closed at (core + 1) c.next_of-next.new.self o)
    (sym (ap lent c.or-found.ensures ∙ lent_either c.next_of-next.result c.loop-core.found))
    (subst (λ (v : CursorsView). IsWalked closed at (core + 1) v (option_or next found)) (sym c.next_of-next.ensures.cursor)
    (walk_goes closed at core cursors found next c.core.result.now c.requires.logs c.loop-core.invariant c.core.ensures few finds))

pub returns-clause-entry : goal.returns-clause-entry
returns-clause-entry c history logs =
    let closed = c.args.closed.now in
    let last : c.loop-core.core ≡ length closed.cores = omega arith in
    let walked = subst (λ (k : ℕ). IsWalked closed c.args.at k c.loop-core.self (lent c.loop-core.found)) last c.loop-core.invariant in
    walked.entry history logs ∙ passing_all closed history logs c.args.at

pub returns-clause-stand : goal.returns-clause-stand
returns-clause-stand c =
    let closed = c.args.closed.now in
    let last : c.loop-core.core ≡ length closed.cores = omega arith in
    walk_ends closed c.args.at c.loop-core.self (lent c.loop-core.found) (subst (λ (k : ℕ). IsWalked closed c.args.at k c.loop-core.self (lent c.loop-core.found)) last c.loop-core.invariant)
