use Rattle.std.proofs.Common.{◌≡◌, [], ◌∷◌, ◌++◌, length, FitsSigned, to_z, of_z, to_z-of_z, ap, sym, ◌∙◌, arith, rules}
use Rattle.std.specs.Int.{w64}
use Rattle.difference_solver.specs.Distances.{between}
use Rattle.difference_solver.proofs.Solution.{value_fits, one_value, solves}
use Rattle.difference_solver.proofs.solver.point_of.Goals as goal

pub value_of-requires : goal.value_of-requires
value_of-requires c =
    let zero : length c.bounds-zero.result.now ≡ length c.args.system.now.bounds = ap length c.bounds-zero.ensures in
    let below = c.loop-variable-test.true in
    let fits = value_fits c.args.system.now.bounds c.args.system.now.rows c.args.distances.now c.requires.state c.requires.closed c.loop-variable.variable (omega (arith, below, zero)) c.requires.system.bounds_fit in
    rw (c.get.ensures, zero) fits

pub loop-variable-preserved : goal.loop-variable-preserved
loop-variable-preserved c =
    let zero : length c.bounds-zero.result.now ≡ length c.args.system.now.bounds = ap length c.bounds-zero.ensures in
    let fits : FitsSigned w64 c.value_of.result = search rules in
    let stored : to_z w64 (of_z w64 c.value_of.result) ≡ c.value_of.result = to_z-of_z fits in
    let pushed : c.push.new.self.items ≡ c.loop-variable.vals.items ++ c.value_of.result ∷ [] = rw stored at c.in_ok-push.ensures.items in
    let value : c.value_of.result ≡ (between c.args.distances.now c.loop-variable.variable (length c.args.system.now.bounds)).bound = rw (c.get.ensures, zero) at c.value_of.ensures in
    let now = c.loop-variable.invariant in
    record {
      count = omega (arith, c.in_ok-push.ensures.len, now.count);
      each = one_value (λ k. (between c.args.distances.now k (length c.args.system.now.bounds)).bound) c.loop-variable.vals.items _ c.loop-variable.variable c.value_of.result (sym c.loop-variable.vals.ok.0 ∙ now.count) pushed value now.each;
    }

pub returns : goal.returns
returns c =
    let zero : length c.bounds-zero.result.now ≡ length c.args.system.now.bounds = ap length c.bounds-zero.ensures in
    let past = c.loop-variable-test.false in
    let now = c.loop-variable.invariant in
    rw c.from_vec.ensures (solves c.args.system.now.bounds c.args.system.now.rows c.args.distances.now c.requires.state c.requires.closed c.loop-variable.vals.items (omega (arith, zero, past, now.count, c.loop-variable.auto.variable-end)) (λ k lk. now.each k (omega (arith, zero, past, lk))))
