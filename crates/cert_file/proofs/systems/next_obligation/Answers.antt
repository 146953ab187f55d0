-- An obligation is its line and its systems.
use Rattle.std.proofs.Common.{rules}
use Rattle.std.proofs.lemmas.Result.{err_from_is_err_and}
use Rattle.cert_file.proofs.Parts.{fails_in_systems}
use Rattle.cert_file.proofs.systems.next_obligation.Goals as goal

pub returns-in_err-systems-clause-fault : goal.returns-in_err-systems-clause-fault
returns-in_err-systems-clause-fault c = λ names.
    let p = err_from_is_err_and c.from_residual.result c.from_residual.ensures.1 in
    rw (p.1, p.2) (c.in_err-systems.ensures.fault names)

pub returns-in_err-wrong-clause-fault : goal.returns-in_err-wrong-clause-fault
returns-in_err-wrong-clause-fault c = λ names.
    let p = err_from_is_err_and c.from_residual-in_err-wrong.result c.from_residual-in_err-wrong.ensures.1 in
    rw (p.1, p.2)
    (fails_in_systems c.args.obligation.now.name names c.in_ok-systems.systems c.args.rest.now.number c.args.rest.now.bytes.now c.next_count.new.rest.number c.next_count.new.rest.bytes.now _
    c.in_ok-systems.ensures.line (search rules) (c.in_err-wrong.ensures.fault names))
