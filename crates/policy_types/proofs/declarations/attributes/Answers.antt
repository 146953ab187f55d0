-- The first fault of an attribute is that of them all.
use Rattle.std.proofs.Common.{true, false, arith}
use Rattle.std.proofs.lemmas.Result.{err_from_is_err_and}
use Rattle.policy_types.specs.declared.scope.Scope.{Scope}
use Rattle.policy_types.specs.Declarations.{attrs_faults, nothing_declared}
use Rattle.policy_types.proofs.Ranges.{attr_first}
use Rattle.policy_types.proofs.declarations.attributes.Goals as goal

pub returns-in_err-cores-clause-fault : goal.returns-in_err-cores-clause-fault
returns-in_err-cores-clause-fault c =
    let p = err_from_is_err_and c.from_residual.result c.from_residual.ensures.1 in
    let scope : Scope = record { cores = c.loop-attr.cores; threads = c.loop-attr.threads } in
    rw (p.1, p.2)
    (attr_first scope true c.args.attrs.now c.loop-attr.attr-index c.attr-item.result (attrs_faults nothing_declared c.args.attrs.now) c.in_err-cores.field-0.0
    c.if-attr.true (omega arith) c.attr-item.is c.loop-attr.invariant.faults
    c.in_err-cores.ensures.fault)

pub returns-in_err-threads-clause-fault : goal.returns-in_err-threads-clause-fault
returns-in_err-threads-clause-fault c =
    let p = err_from_is_err_and c.from_residual-in_err-threads.result c.from_residual-in_err-threads.ensures.1 in
    let scope : Scope = record { cores = c.loop-attr.cores; threads = c.loop-attr.threads } in
    rw (p.1, p.2)
    (attr_first scope false c.args.attrs.now c.loop-attr.attr-index c.attr-item.result (attrs_faults nothing_declared c.args.attrs.now) c.in_err-threads.field-0.0
    c.if-attr.false (omega arith) c.attr-item.is c.loop-attr.invariant.faults
    c.in_err-threads.ensures.fault)
