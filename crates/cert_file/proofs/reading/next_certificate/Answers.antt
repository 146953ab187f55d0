-- The certificate is read from its lines, or the bad line is that of the lines.
use Rattle.std.proofs.Common.{◌∷◌, [], length, length-append, ap, refl, arith}
use Rattle.linear_cert.specs.Right.{cert_tree}
use Rattle.sched_base.specs.declared.limits.TheConstants.{MAX_SPLITS}
use Rattle.cert_lines.specs.Faults.{IsFirstBadLine}
use Rattle.cert_file.proofs.Certificates.{feeds_fit, next_certificate, no_certificate, short_certificate}
use Rattle.cert_file.proofs.Sizes.{bad_from, bad_to}
use Rattle.cert_file.proofs.reading.next_certificate.Goals as goal

pub overflow_cast-rest : goal.overflow_cast-rest
overflow_cast-rest c = omega (arith, feeds_fit _ _ _ _ _ c.front_of-front.ensures, c.requires.short)

pub overflow_add-rest : goal.overflow_add-rest
overflow_add-rest c = omega (arith, feeds_fit _ _ _ _ _ c.front_of-front.ensures, c.requires.short)

pub overflow_sub-result : goal.overflow_sub-result
overflow_sub-result c =
    let bad : IsFirstBadLine c.front_of-front.result.bytes.now c.in-Err-BadText.line = rw c.in-Err-BadText.field-0-is at c.in-Err-BadText.ensures.fault in
    rw c.in-Err-BadText.field-0-is (bad_from (MAX_SPLITS ∷ []) 1 c.front_of-front.result.bytes.now c.in-Err-BadText.line bad)

pub overflow_add-result : goal.overflow_add-result
overflow_add-result c =
    let bad : IsFirstBadLine c.front_of-front.result.bytes.now c.in-Err-BadText.line = rw c.in-Err-BadText.field-0-is at c.in-Err-BadText.ensures.fault in
    let to = bad_to (MAX_SPLITS ∷ []) 1 c.front_of-front.result.bytes.now c.in-Err-BadText.line bad in
    let whole = ap length c.front_of-front.ensures.whole in
    rw c.in-Err-BadText.field-0-is (omega (arith, to, whole, length-append c.front_of-front.result.bytes.now c.front_of-front.result.behind.now, c.requires.short))

pub returns-then-front-eq0-clause-cert : goal.returns-then-front-eq0-clause-cert
returns-then-front-eq0-clause-cert c =
    next_certificate c.args.rest.now.bytes.now c.args.lines c.args.rest.now.number c.front_of-front.result.bytes.now c.front_of-front.result.behind.now c.front_of-front.result.missing (cert_tree c.in-Ok.cert) _
    c.front_of-front.ensures c.if-front-eq0.true c.in-Ok.ensures.cert (omega (arith, c.ranges.lines.fits)) refl

pub returns-else-front-eq0-clause-fault : goal.returns-else-front-eq0-clause-fault
returns-else-front-eq0-clause-fault c = λ systems names.
    short_certificate c.args.rest.now.bytes.now c.args.lines c.args.rest.now.number c.front_of-front.result.bytes.now c.front_of-front.result.behind.now c.front_of-front.result.missing (cert_tree c.in-Ok.cert) systems names _
    c.front_of-front.ensures (λ same. c.if-front-eq0.false same) c.in-Ok.ensures.cert refl

pub returns-in-Err-BadText-clause-fault : goal.returns-in-Err-BadText-clause-fault
returns-in-Err-BadText-clause-fault c = λ systems names.
    let bad : IsFirstBadLine c.front_of-front.result.bytes.now c.in-Err-BadText.line = rw c.in-Err-BadText.field-0-is at c.in-Err-BadText.ensures.fault in
    rw c.in-Err-BadText.field-0-is
    (no_certificate c.args.rest.now.bytes.now c.args.lines c.args.rest.now.number c.front_of-front.result.bytes.now c.front_of-front.result.behind.now c.front_of-front.result.missing c.in-Err-BadText.line systems names c.front_of-front.ensures bad)
