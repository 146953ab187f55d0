use Rattle.std.proofs.Common.{FitsSigned, refl, rules, to_z-of_z}
use Rattle.std.specs.Int.{w64}
use Rattle.linear_cert.proofs.Parts.{up_to_fits, past_fits}
use Rattle.linear_solver.proofs.parts.cut_off.Goals as goal

pub closed-requires : goal.closed-requires
closed-requires c =
    let fits : FitsSigned w64 c.args.cut.at = search rules in
    let cut = simp to_z-of_z at (c.if-not-can_be_cut.ensures.0 refl) in
    let low = simp to_z-of_z at c.in_ok-part.ensures in
    rw (c.as_slice.ensures.value, low) (up_to_fits c.args.bounds.now c.args.rows.now c.args.cut.variable c.args.cut.at c.requires cut)

pub closed-requires-else-cut : goal.closed-requires-else-cut
closed-requires-else-cut c =
    let fits : FitsSigned w64 c.args.cut.at = search rules in
    let cut = simp to_z-of_z at (c.if-not-can_be_cut.ensures.0 refl) in
    let high = simp to_z-of_z at c.in_ok-part-2.ensures in
    rw (c.as_slice-else-cut.ensures.value, high) (past_fits c.args.bounds.now c.args.rows.now c.args.cut.variable c.args.cut.at c.requires cut)

pub returns-in_ok-low : goal.returns-in_ok-low
returns-in_ok-low c =
    let fits : FitsSigned w64 c.args.cut.at = search rules in
    let cut = simp to_z-of_z at (c.if-not-can_be_cut.ensures.0 refl) in
    let low = simp to_z-of_z at c.in_ok-part.ensures in
    let high = simp to_z-of_z at c.turned_high-high.ensures in
    c.of_both.ensures c.args.bounds.now c.args.rows.now cut (rw (c.as_slice.ensures.value, low) at (c.in_ok-low.ensures c.args.bounds.now)) (rw high at (c.smaller.ensures c.args.rows.now))

pub returns-in_ok-high : goal.returns-in_ok-high
returns-in_ok-high c =
    let fits : FitsSigned w64 c.args.cut.at = search rules in
    let cut = simp to_z-of_z at (c.if-not-can_be_cut.ensures.0 refl) in
    let high = simp to_z-of_z at c.in_ok-part-2.ensures in
    let low = simp to_z-of_z at c.turned_low-low.ensures in
    c.of_both-else-cut.ensures c.args.bounds.now c.args.rows.now cut (rw low at (c.smaller-else-cut.ensures c.args.rows.now)) (rw (c.as_slice-else-cut.ensures.value, high) at (c.in_ok-high.ensures c.args.bounds.now))
