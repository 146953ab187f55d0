use Rattle.std.proofs.Common.{◌<◌, length, arith}
use Rattle.std.proofs.lemmas.Grind.{common_steps}
use Rattle.std.proofs.lemmas.List.Elements.{All-push}
use Rattle.cert_lines.specs.Text.{IsMult}
use Rattle.cert_lines.proofs.ManyMults.{Left, more_read, shorter, left_behind, stuck}
use Rattle.cert_lines.proofs.node.mults_in.Goals as goal

pub returns-in-None : goal.returns-in-None
returns-in-None c mults fit same =
    let some : 0 < length c.loop-rest.rest.now = grind (arith, common_steps, c.is_empty.ensures, c.loop-rest-test.true) in
    let left : Left c.args.text.now = record { mults = mults; are = (fit, same) } in
    stuck c.loop-rest.rest.now some c.in-None.ensures (c.loop-rest.invariant.left left)

pub loop-rest-preserved : goal.loop-rest-preserved
loop-rest-preserved c =
    let now = c.loop-rest.invariant in
    let found = c.in-Some.ensures in
    let pushed = c.in_ok-push.ensures.items in
    record {
      read = rw pushed (more_read c.args.text.now _ _ _ _ now.read found);
      in_range = rw pushed (All-push IsMult c.loop-rest.mults.items c.in-Some.found.0 now.in_range found.fits);
      short = omega (arith, c.in_ok-push.ensures.len, now.short, shorter _ _ _ found);
      left = λ left. left_behind _ _ _ found (now.left left);
    }
