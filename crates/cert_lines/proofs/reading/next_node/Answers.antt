use Rattle.std.proofs.Common.{sym, ◌∙◌}
use Rattle.std.proofs.lemmas.Bool.{false≢true}
use Rattle.cert_lines.proofs.BadLines.{bad_end, bad_line, bad_node}
use Rattle.cert_lines.proofs.reading.next_node.Goals as goal

pub returns-in-None-clause-fault : goal.returns-in-None-clause-fault
returns-in-None-clause-fault c = bad_end c.args.room c.args.rest.now.number c.args.rest.now.bytes.now c.in-None.ensures

pub returns-in-None-2-clause-fault : goal.returns-in-None-2-clause-fault
returns-in-None-2-clause-fault c =
    let none = rw c.in-None-2.is at c.in_ok-node.ensures in
    bad_line c.args.room c.args.rest.now.number c.args.rest.now.bytes.now _ _ c.in-Some.ensures none

pub returns-else-may_stand-clause-fault : goal.returns-else-may_stand-clause-fault
returns-else-may_stand-clause-fault c =
    let is = rw c.in-Some-2.is at c.in_ok-node.ensures in
    bad_node c.args.room c.args.rest.now.number c.args.rest.now.bytes.now _ _ c.in-Some-2.node c.in-Some.ensures is (λ may. false≢true (sym c.if-may_stand.false ∙ c.may_stand.ensures.1 may))
