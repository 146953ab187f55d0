use Rattle.std.proofs.Common.{IsTrue, ◌↔◌, ◌≡◌, FitsSigned, to_z, of_z, to_z-of_z, ◌∙◌, arith, rules}
use Rattle.std.specs.Int.{w64}
use Rattle.linear_cert.specs.Right.{cert_tree, split, CanBeCut, IsRight, range_of, up_to, past, part_up_to, part_past}
use Rattle.linear_cert.proofs.Parts.{up_to_fits, past_fits, fewer_left, fewer_right, changed_again, put_back, both_parts}
use Rattle.linear_cert.proofs.checker.+check_under.Goals as goal

pub check_under-left_is_right-requires : goal.check_under-left_is_right-requires
check_under-left_is_right-requires t c =
    let fits : FitsSigned w64 c.in-Split.at = search rules in
    let at : to_z w64 (of_z w64 c.in-Split.at) ≡ c.in-Split.at = to_z-of_z fits in
    let same : cert_tree c.args.cert.now ≡ split c.in-Split.var c.in-Split.at (cert_tree c.deref.result.now) (cert_tree c.in-Split.right.value) = rw (c.in-Split.is, c.deref.ensures) in
    let cut : CanBeCut c.args.bounds.now c.in-Split.var c.in-Split.at = rw at at (c.can_be_cut.ensures.0 c.if-not-can_be_cut.false) in
    let part : c.part_up_to.result ≡ part_up_to (range_of c.args.bounds.now c.in-Split.var) c.in-Split.at = rw at at c.part_up_to.ensures in
    let fewer = fewer_left _ _ _ _ _ same in
    (omega (arith, fewer, c.decreases), rw part (up_to_fits c.args.bounds.now c.args.rows.now c.in-Split.var c.in-Split.at c.requires cut))

pub check_under-right_is_right-requires : goal.check_under-right_is_right-requires
check_under-right_is_right-requires t c =
    let fits : FitsSigned w64 c.in-Split.at = search rules in
    let at : to_z w64 (of_z w64 c.in-Split.at) ≡ c.in-Split.at = to_z-of_z fits in
    let same : cert_tree c.args.cert.now ≡ split c.in-Split.var c.in-Split.at (cert_tree c.in-Split.left.value) (cert_tree c.deref-in-Split.result.now) = rw (c.in-Split.is, c.deref-in-Split.ensures) in
    let cut : CanBeCut c.args.bounds.now c.in-Split.var c.in-Split.at = rw at at (c.can_be_cut.ensures.0 c.if-not-can_be_cut.false) in
    let part : c.part_past.result ≡ part_past (range_of c.args.bounds.now c.in-Split.var) c.in-Split.at = rw at at c.part_past.ensures in
    let again = changed_again c.args.bounds.now _ c.in-Split.var _ c.part_past.result c.check_under-left_is_right.ensures.put_back in
    let fewer = fewer_right _ _ _ _ _ same in
    (omega (arith, fewer, c.decreases), rw (again, part) (past_fits c.args.bounds.now c.args.rows.now c.in-Split.var c.in-Split.at c.requires cut))

pub returns-then-left_is_right-clause-right : goal.returns-then-left_is_right-clause-right
returns-then-left_is_right-clause-right t c =
    let fits : FitsSigned w64 c.in-Split.at = search rules in
    let at : to_z w64 (of_z w64 c.in-Split.at) ≡ c.in-Split.at = to_z-of_z fits in
    let same : cert_tree c.args.cert.now ≡ split c.in-Split.var c.in-Split.at (cert_tree c.deref.result.now) (cert_tree c.deref-in-Split.result.now) = rw (c.in-Split.is, c.deref.ensures, c.deref-in-Split.ensures) in
    let cut : CanBeCut c.args.bounds.now c.in-Split.var c.in-Split.at = rw at at (c.can_be_cut.ensures.0 c.if-not-can_be_cut.false) in
    let low : c.part_up_to.result ≡ part_up_to (range_of c.args.bounds.now c.in-Split.var) c.in-Split.at = rw at at c.part_up_to.ensures in
    let high : c.part_past.result ≡ part_past (range_of c.args.bounds.now c.in-Split.var) c.in-Split.at = rw at at c.part_past.ensures in
    let again = changed_again c.args.bounds.now _ c.in-Split.var _ c.part_past.result c.check_under-left_is_right.ensures.put_back in
    let left : IsTrue c.check_under-left_is_right.result ↔ IsRight (up_to c.args.bounds.now c.in-Split.var c.in-Split.at) c.args.rows.now (cert_tree c.deref.result.now) = rw low at c.check_under-left_is_right.ensures.right in
    let right : IsTrue c.check_under-right_is_right.result ↔ IsRight (past c.args.bounds.now c.in-Split.var c.in-Split.at) c.args.rows.now (cert_tree c.deref-in-Split.result.now) = rw (again, high) at c.check_under-right_is_right.ensures.right in
    let both = both_parts c.args.bounds.now c.args.rows.now _ _ _ c.in-Split.var c.in-Split.at c.check_under-left_is_right.result c.check_under-right_is_right.result same cut left right in
    rw c.if-left_is_right.true at both

pub returns-then-left_is_right-clause-put_back : goal.returns-then-left_is_right-clause-put_back
returns-then-left_is_right-clause-put_back t c =
    let again = changed_again c.args.bounds.now _ c.in-Split.var _ c.part_past.result c.check_under-left_is_right.ensures.put_back in
    put_back c.args.bounds.now _ c.in-Split.var c.part_past.result (c.check_under-right_is_right.ensures.put_back ∙ again)

pub returns-else-left_is_right-clause-put_back : goal.returns-else-left_is_right-clause-put_back
returns-else-left_is_right-clause-put_back t c =
    let again = changed_again c.args.bounds.now _ c.in-Split.var _ c.part_past.result c.check_under-left_is_right.ensures.put_back in
    put_back c.args.bounds.now _ c.in-Split.var c.part_past.result (c.check_under-right_is_right.ensures.put_back ∙ again)
