use Rattle.std.proofs.Common.{◌≢◌, ℕ, ◌<◌, ◌≤◌, slice_index_or, arith}
use Rattle.policy_tree.specs.Meaning.{meaning_of}
use Rattle.core_moves.proofs.Between.{back_there, front_there, set_front_first, set_front_last, taken_by}
use Rattle.core_moves.proofs.steals.take_between.Goals as goal

-- where the thief isn't the lesser, the victim is
below : {a b : ℕ} → b ≤ a → a ≢ b → b < a
below {a} {b} least apart = omega (arith, least, apart)

pub take_all-requires-clause-may : goal.take_all-requires-clause-may
take_all-requires-clause-may c =
    let s = c.split_at_mut-front in let front = s.result.0.now in let back = s.result.1.now in let cores = c.args.cores.now in let n = c.args.victim in
    c.requires.may _ _ (front_there cores front back n s.ensures.value s.ensures.front_len c.args.thief c.index-front-thief.result c.if-thief-victim.true c.requires.there.0)
    (back_there cores front back n s.ensures.value s.ensures.front_len c.index-back-0.result c.requires.there.1)

pub take_all-requires-else-thief-victim-clause-may : goal.take_all-requires-else-thief-victim-clause-may
take_all-requires-else-thief-victim-clause-may c =
    let s = c.split_at_mut-front-else-thief-victim in let front = s.result.0.now in let back = s.result.1.now in let cores = c.args.cores.now in let n = c.args.thief in
    c.requires.may _ _ (back_there cores front back n s.ensures.value s.ensures.front_len c.index-back-0-else-thief-victim.result c.requires.there.0)
    (front_there cores front back n s.ensures.value s.ensures.front_len c.args.victim c.index-front-victim.result (below c.if-thief-victim.false c.requires.apart) c.requires.there.1)

pub returns-then-thief-victim-clause-taken : goal.returns-then-thief-victim-clause-taken
returns-then-thief-victim-clause-taken c y z at there =
    let s = c.split_at_mut-front in let front = s.result.0.now in let back = s.result.1.now in let cores = c.args.cores.now in let n = c.args.victim in let t = c.take_all in
    taken_by (meaning_of c.args.policy.now) c.args.own.now c.args.other.now c.args.thief c.args.victim t.result cores _ y z
    (slice_index_or front c.args.thief c.index-front-thief.result) (slice_index_or back 0 c.index-back-0.result) t.new.thief t.new.victim at there
    (front_there cores front back n s.ensures.value s.ensures.front_len c.args.thief c.index-front-thief.result c.if-thief-victim.true c.requires.there.0)
    (back_there cores front back n s.ensures.value s.ensures.front_len c.index-back-0.result c.requires.there.1)
    t.ensures.moves t.ensures.thief t.ensures.victim
    (set_front_first cores front back n s.ensures.value s.ensures.front_len c.args.thief t.new.thief t.new.victim c.if-thief-victim.true)

pub returns-else-thief-victim-clause-taken : goal.returns-else-thief-victim-clause-taken
returns-else-thief-victim-clause-taken c y z at there =
    let s = c.split_at_mut-front-else-thief-victim in let front = s.result.0.now in let back = s.result.1.now in let cores = c.args.cores.now in let n = c.args.thief in let t = c.take_all-else-thief-victim in
    taken_by (meaning_of c.args.policy.now) c.args.own.now c.args.other.now c.args.thief c.args.victim t.result cores _ y z
    (slice_index_or back 0 c.index-back-0-else-thief-victim.result) (slice_index_or front c.args.victim c.index-front-victim.result) t.new.thief t.new.victim at there
    (back_there cores front back n s.ensures.value s.ensures.front_len c.index-back-0-else-thief-victim.result c.requires.there.0)
    (front_there cores front back n s.ensures.value s.ensures.front_len c.args.victim c.index-front-victim.result (below c.if-thief-victim.false c.requires.apart) c.requires.there.1)
    t.ensures.moves t.ensures.thief t.ensures.victim
    (set_front_last cores front back n s.ensures.value s.ensures.front_len c.args.victim t.new.victim t.new.thief (below c.if-thief-victim.false c.requires.apart))
