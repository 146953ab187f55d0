-- A system is its line and its certificate.
use Rattle.std.proofs.Common.{suc, ◌∷◌, [], rules}
use Rattle.std.proofs.lemmas.Result.{IfOk-weaker, err_from_is_err_and}
use Rattle.linear_cert.specs.Right.{cert_tree}
use Rattle.sched_base.specs.declared.limits.TheConstants.{MAX_SPLITS}
use Rattle.cert_file.specs.BadLines.{parts, takes_system}
use Rattle.cert_file.specs.Reading.{FailsFrom}
use Rattle.cert_file.specs.Text.{system_line}
use Rattle.cert_file.proofs.Certificates.{next_system}
use Rattle.cert_file.proofs.Within.{err_weaker, fails_next}
use Rattle.cert_file.proofs.reading.next_system.Goals as goal

pub returns-in_err-lines-clause-fault : goal.returns-in_err-lines-clause-fault
returns-in_err-lines-clause-fault c = λ systems names.
    let p = err_from_is_err_and c.from_residual.result c.from_residual.ensures.1 in
    rw (p.1, p.2) (c.in_err-lines.ensures.fault systems names)

pub returns-clause-system : goal.returns-clause-system
returns-clause-system c =
    IfOk-weaker c.next_certificate.result _ _
    (λ cert is. next_system c.in_ok-lines.lines (cert_tree cert) c.args.rest.now.number c.args.rest.now.bytes.now c.next_length.new.rest.number c.next_length.new.rest.bytes.now _ _ c.in_ok-lines.ensures.line is)
    c.next_certificate.ensures.cert

pub returns-clause-fault : goal.returns-clause-fault
returns-clause-fault c = λ systems names.
    let lines = c.in_ok-lines.lines in
    err_weaker c.next_certificate.result
    (FailsFrom (parts (MAX_SPLITS ∷ []) lines systems names) c.next_length.new.rest.number c.next_length.new.rest.bytes.now)
    (FailsFrom (parts [] 0 (suc systems) names) c.args.rest.now.number c.args.rest.now.bytes.now)
    (λ fault fails. fails_next (parts [] 0 (suc systems) names) (parts (MAX_SPLITS ∷ []) lines systems names) c.args.rest.now.number c.next_length.new.rest.number c.args.rest.now.bytes.now
    (system_line lines) c.next_length.new.rest.bytes.now fault c.in_ok-lines.ensures.line (takes_system systems names lines c.in_ok-lines.ensures.some (search rules)) fails)
    (c.next_certificate.ensures.fault systems names)
