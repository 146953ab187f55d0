use Rattle.std.proofs.Common.{length, length-append, ap, arith}
use Rattle.std.proofs.lemmas.Result.{err_from_is_err_and}
use Rattle.linear_cert.specs.Right.{cert_tree}
use Rattle.cert_lines.proofs.BadLines.{fails_left, fails_right, lines_fit}
use Rattle.cert_lines.proofs.reading.+read_part.Goals as goal

pub returns-in_err-left-in-Split-clause-fault : goal.returns-in_err-left-in-Split-clause-fault
returns-in_err-left-in-Split-clause-fault t c =
    let p = err_from_is_err_and c.from_residual-in_err-left-in-Split.result c.from_residual-in_err-left-in-Split.ensures.1 in
    let node = rw c.in-Split.is at c.in_ok-mults.ensures.node in
    rw (p.1, p.2) (fails_left c.args.room c.args.rest.now.number _ _ _ c.in-Split.var c.in-Split.at _ node c.in_err-left-in-Split.ensures.fault)

pub read_part-requires-in-Split : goal.read_part-requires-in-Split
read_part-requires-in-Split t c =
    let node = rw c.in-Split.is at c.in_ok-mults.ensures.node in
    let part = c.in_ok-left-in-Split.ensures.part in
    let line = simp length-append at (ap length node.text_is) in
    let left = simp length-append at (ap length part.text_is) in
    (omega (arith, c.decreases, node.may_stand), omega (arith, node.next_is, part.next_is, line, left, c.requires, lines_fit (cert_tree c.in_ok-left-in-Split.left)))

pub returns-in_err-right-in-Split-clause-fault : goal.returns-in_err-right-in-Split-clause-fault
returns-in_err-right-in-Split-clause-fault t c =
    let p = err_from_is_err_and c.from_residual-in_err-right-in-Split.result c.from_residual-in_err-right-in-Split.ensures.1 in
    let node = rw c.in-Split.is at c.in_ok-mults.ensures.node in
    rw (p.1, p.2) (fails_right c.args.room c.args.rest.now.number _ _ _ c.in-Split.var c.in-Split.at (cert_tree c.in_ok-left-in-Split.left) _ _ _ node c.in_ok-left-in-Split.ensures.part c.in_err-right-in-Split.ensures.fault)
