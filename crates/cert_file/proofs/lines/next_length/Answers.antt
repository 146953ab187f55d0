-- A line that announces no certificate may not stand there.
use Rattle.std.proofs.Common.{suc, [], ap, arith}
use Rattle.cert_file.specs.BadLines.{parts}
use Rattle.cert_file.proofs.TakenLines.{systems_in}
use Rattle.cert_file.proofs.Within.{at_system, bad_end, bad_line}
use Rattle.cert_file.proofs.lines.next_length.Goals as goal

pub returns-in-None-clause-fault : goal.returns-in-None-clause-fault
returns-in-None-clause-fault c = λ systems names.
    bad_end (parts [] 0 (suc systems) names) c.args.rest.now.number c.args.rest.now.bytes.now c.in-None.ensures (λ same. omega (arith, ap systems_in same))

pub returns-in-None-length_in-clause-fault : goal.returns-in-None-length_in-clause-fault
returns-in-None-length_in-clause-fault c = λ systems names.
    let next = c.in-Some.ensures in
    bad_line (parts [] 0 (suc systems) names) c.args.rest.now.number c.args.rest.now.bytes.now c.in-Some.line.now _ next.text_is next.plain
    (λ after takes. let (lines, some, lt, is) = at_system systems names c.in-Some.line.now after takes in c.in-None-length_in.ensures lines some lt is)
