-- One distance more, each time round.
use Rattle.std.proofs.Common.{◌≡◌, ◌<◌, length, arith}
use Rattle.std.proofs.lemmas.Grind.{common_steps}
use Rattle.history_reader.proofs.Positions.{more_read, none_read, stuck, too_many}
use Rattle.history_reader.proofs.reads.positions_in.Goals as goal

pub loop-rest-init : goal.loop-rest-init
loop-rest-init c = rw c.empty-reads.ensures (none_read c.args.most c.args.start c.args.text.now)

pub returns-then-len-most : goal.returns-then-len-most
returns-then-len-most c =
    let some : 0 < length c.loop-rest.rest.now = grind (arith, common_steps, c.is_empty.ensures, c.loop-rest-test.true) in
    let full : length c.loop-rest.reads ≡ c.args.most = omega (arith, c.len.ensures.len, c.if-len-most.true) in
    too_many c.args.most c.args.start c.args.text.now c.loop-rest.reads c.loop-rest.rest.now some c.loop-rest.invariant full

pub returns-in_err-distance : goal.returns-in_err-distance
returns-in_err-distance c =
    let some : 0 < length c.loop-rest.rest.now = grind (arith, common_steps, c.is_empty.ensures, c.loop-rest-test.true) in
    rw c.from_residual.ensures (λ all are. stuck c.args.most c.args.start c.args.text.now c.loop-rest.reads c.loop-rest.rest.now some
    c.loop-rest.invariant c.in_err-distance.ensures all are)

pub loop-rest-preserved : goal.loop-rest-preserved
loop-rest-preserved c =
    let room : length c.loop-rest.reads < c.args.most = omega (arith, c.loop-rest.invariant.are.few, c.len.ensures.len, c.if-len-most.false) in
    rw c.push.ensures (more_read c.args.most c.args.start c.args.text.now c.loop-rest.reads c.loop-rest.rest.now c.in_ok-distance.behind.now c.in_ok-distance.distance
    c.requires.start room c.in_ok-distance.ensures c.loop-rest.invariant)
