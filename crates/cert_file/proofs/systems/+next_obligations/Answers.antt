-- One obligation, and those behind it.
use Rattle.std.proofs.Common.{[], List, length, ap, subst, arith}
use Rattle.std.proofs.lemmas.Result.{err_from_is_err_and, IfOk-weaker}
use Rattle.obligations.specs.declared.names.ObName.{ObName}
use Rattle.cert_file.specs.BadLines.{parts}
use Rattle.cert_file.specs.Reading.{FailsFrom, IsTallyOf}
use Rattle.cert_file.proofs.Parts.{count_short, fails_first, fails_in_later, no_obligations, obligation_short, tally_first}
use Rattle.cert_file.proofs.Within.{err_weaker}
use Rattle.cert_file.proofs.systems.+next_obligations.Goals as goal

pub returns-in-None-clause-tally : goal.returns-in-None-clause-tally
returns-in-None-clause-tally t c = λ p names same.
    let none = no_obligations p names c.args.obligations.now c.in-None.ensures.cases same in
    IfOk-weaker c.ended.result (IsTallyOf p [] c.args.rest.now.bytes.now) (IsTallyOf p names c.args.rest.now.bytes.now)
    (λ tally is. subst (λ (ns : List ObName). IsTallyOf p ns c.args.rest.now.bytes.now tally) none is) (c.ended.ensures.tally p)

pub returns-in-None-clause-fault : goal.returns-in-None-clause-fault
returns-in-None-clause-fault t c = λ p names same.
    let none = no_obligations p names c.args.obligations.now c.in-None.ensures.cases same in
    err_weaker c.ended.result (FailsFrom (parts [] 0 0 []) c.args.rest.now.number c.args.rest.now.bytes.now) (FailsFrom (parts [] 0 0 names) c.args.rest.now.number c.args.rest.now.bytes.now)
    (λ fault is. subst (λ (ns : List ObName). FailsFrom (parts [] 0 0 ns) c.args.rest.now.number c.args.rest.now.bytes.now fault) none is) c.ended.ensures.fault

pub returns-in_err-found-clause-fault : goal.returns-in_err-found-clause-fault
returns-in_err-found-clause-fault t c = λ p names same.
    let r = err_from_is_err_and c.from_residual.result c.from_residual.ensures.1 in
    rw (r.1, r.2) (fails_first p names c.args.obligations.now c.in-Some.parts.0.now c.in-Some.parts.1.now c.args.rest.now.number c.args.rest.now.bytes.now _ c.in-Some.ensures.cases.0 same
    (λ others mores. c.in_err-found.ensures.fault others))

pub next_obligations-requires : goal.next_obligations-requires
next_obligations-requires t c =
    (omega (arith, c.decreases, ap length c.in-Some.ensures.cases.0), obligation_short _ _ _ _ _ _ _ _ c.in_ok-found.ensures.found c.requires)

pub returns-in_err-later-clause-fault : goal.returns-in_err-later-clause-fault
returns-in_err-later-clause-fault t c = λ p names same.
    let r = err_from_is_err_and c.from_residual-in_err-later.result c.from_residual-in_err-later.ensures.1 in
    rw (r.1, r.2) (fails_first p names c.args.obligations.now c.in-Some.parts.0.now c.in-Some.parts.1.now c.args.rest.now.number c.args.rest.now.bytes.now _ c.in-Some.ensures.cases.0 same
    (λ others mores. fails_in_later c.in-Some.parts.0.now _ _ _ _ _ _ others _ c.in_ok-found.ensures.found (c.in_err-later.ensures.fault p others mores)))

pub joined-requires : goal.joined-requires
joined-requires t c = omega (arith, count_short _ _ _ _ _ _ _ c.in_ok-found.ensures.found, c.in_ok-later.ensures.few, c.requires)

pub returns-clause-tally : goal.returns-clause-tally
returns-clause-tally t c = λ p names same.
    tally_first p names c.args.obligations.now c.in-Some.parts.0.now c.in-Some.parts.1.now _ _ _ c.args.rest.now.bytes.now _ _ c.in_ok-later.later c.joined.result c.in-Some.ensures.cases.0 same c.in_ok-found.ensures.found
    (λ others mores. c.in_ok-later.ensures.tally p others mores) c.joined.ensures.systems c.joined.ensures.wrong

pub returns-clause-few : goal.returns-clause-few
returns-clause-few t c = omega (arith, c.joined.ensures.systems, count_short _ _ _ _ _ _ _ c.in_ok-found.ensures.found, c.in_ok-later.ensures.few)
