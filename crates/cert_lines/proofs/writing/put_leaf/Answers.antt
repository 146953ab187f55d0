use Rattle.linear_cert.specs.declared.cert.Mult.{Mult}
use Rattle.cert_lines.proofs.Mults.{one_more, all_more}
use Rattle.cert_lines.proofs.writing.put_leaf.Goals as goal

pub loop-mult-preserved : goal.loop-mult-preserved
loop-mult-preserved c =
    let none : Mult = record { row = 0; by = 0 } in
    let now = c.loop-mult.invariant in
    let put = c.in_ok-put_mult.ensures in
    record {
      text = one_more c.args.text.now.items _ _ c.args.mults.now c.loop-mult.mult-index none c.loop-mult-test.true now.text put.text;
      in_range = all_more c.args.mults.now c.loop-mult.mult-index none c.loop-mult-test.true now.in_range put.in_range;
    }
