-- One obligation, and those behind it.
use Rattle.std.proofs.Common.{List, length, map, ap, sym, subst, arith}
use Rattle.std.specs.List.{AllByRecursion}
use Rattle.std.proofs.lemmas.Result.{on_ok_weaker}
use Rattle.linear_cert.specs.declared.cert.Cert.{Cert}
use Rattle.linear_cert.specs.Right.{IsShallow, cert_tree}
use Rattle.policy_tree.specs.Meaning.{meaning_of}
use Rattle.policy_checker.specs.Certified.{Certifies}
use Rattle.cert_file.proofs.Written.{certified_shallow, written_first, written_last}
use Rattle.cert_file.proofs.writing.+put_obligations.Goals as goal

pub returns-in-None : goal.returns-in-None
returns-in-None t c = written_last (meaning_of c.args.policy.now) c.args.names.now c.args.text.now.items c.in-None.ensures.cases

pub put_obligation-requires-clause-shallow : goal.put_obligation-requires-clause-shallow
put_obligation-requires-clause-shallow t c =
    subst (λ (certs : List Cert). AllByRecursion IsShallow (map cert_tree certs)) (sym c.as_slice.ensures.items)
    (certified_shallow (meaning_of c.args.policy.now) c.in-Some.parts.0.now (map cert_tree c.certs.result.now) c.certs.ensures)

pub put_obligations-requires : goal.put_obligations-requires
put_obligations-requires t c = (omega (arith, c.decreases, ap length c.in-Some.ensures.cases.0), tt)

pub returns : goal.returns
returns t c =
    let p = meaning_of c.args.policy.now in
    let right = subst (λ (certs : List Cert). Certifies p c.in-Some.parts.0.now (map cert_tree certs)) (sym c.as_slice.ensures.items) c.certs.ensures in
    on_ok_weaker c.put_obligations.result
    (λ written. written_first p c.args.names.now c.in-Some.parts.0.now c.in-Some.parts.1.now c.args.text.now.items _ c.put_obligations.new.text.items (map cert_tree c.as_slice.result.now) c.in-Some.ensures.cases.0
    right c.in_ok-put_obligation.ensures.writable c.in_ok-put_obligation.ensures.text written)
    c.put_obligations.ensures
