-- One system after another.
use Rattle.std.proofs.Common.{◌-◌, ◌≡◌, subst, arith}
use Rattle.std.proofs.lemmas.Result.{err_from_is_err_and}
use Rattle.linear_cert.specs.Right.{cert_tree}
use Rattle.cert_file.specs.Reading.{AreNextSystems, IsFoundSoFar}
use Rattle.cert_file.proofs.Parts.{systems_fail, systems_known, systems_more, systems_none, systems_short}
use Rattle.cert_file.proofs.systems.next_systems.Goals as goal

pub loop-place-init : goal.loop-place-init
loop-place-init c = systems_none _ c.args.rest.now.number c.args.rest.now.bytes.now tt

pub next_system-requires : goal.next_system-requires
next_system-requires c = systems_short _ _ _ _ _ _ _ c.loop-place.invariant c.requires

pub returns-in_err-cert-clause-fault : goal.returns-in_err-cert-clause-fault
returns-in_err-cert-clause-fault c = λ names.
    let p = err_from_is_err_and c.from_residual.result c.from_residual.ensures.1 in
    rw (p.1, p.2) (systems_fail _ c.loop-place.place c.args.count _ _ _ _ names _ c.loop-place.invariant c.loop-place-test.true (c.in_err-cert.ensures.fault (c.args.count - c.loop-place.place - 1) names))

pub loop-place-preserved : goal.loop-place-preserved
loop-place-preserved c =
    systems_more _ _ c.loop-place.place _ _ _ _ (cert_tree c.in_ok-cert.cert) _ _ c.loop-place.invariant c.in_ok-cert.ensures.system
    (λ trees count found. c.with_certificate-wrong.ensures trees count c.in_ok-cert.ensures.system.writable.shallow found)

pub returns-clause-found : goal.returns-clause-found
returns-clause-found c =
    let all : c.loop-place.place ≡ c.args.count = omega (arith, c.loop-place-test.false, c.loop-place.auto.place-end) in
    systems_known _ _ c.args.count _ _ _ _
    (subst (λ k. AreNextSystems (λ trees. IsFoundSoFar c.args.systems.now trees c.loop-place.wrong) k c.args.rest.now.number c.args.rest.now.bytes.now c.loop-place.rest.number c.loop-place.rest.bytes.now) all c.loop-place.invariant)
    (λ trees count found. c.with_end.ensures trees count found)
