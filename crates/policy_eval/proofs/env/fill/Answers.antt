use Rattle.std.proofs.Common.{◌≡◌, ◌+◌, ap, ◌∙◌, arith, pos, get_or, set, FitsSigned, to_z, of_z, rules}
use Rattle.std.specs.Int.{w32, w64}
use Rattle.std.proofs.lemmas.Int.{to_z-of_z}
use Rattle.policy_eval.proofs.Filling.{filled_more}
use Rattle.policy_eval.proofs.env.fill.Goals as goal

pub loop-at-preserved : goal.loop-at-preserved
loop-at-preserved c =
    let old = c.args.vals.now in let part = c.args.attrs.now in let n = c.loop-at.at in
    let small : FitsSigned w32 (get_or part n (pos 0)) = search rules in
    let same : c.from.result ≡ get_or part n (pos 0) = c.from.ensures ∙ to_z-of_z w32 (get_or part n (pos 0)) small in
    let wide : FitsSigned w64 (get_or part n (pos 0)) = record { sfits = omega (arith, small.sfits) } in
    let read : to_z w64 (of_z w64 c.from.result) ≡ get_or part n (pos 0) = ap (λ z. to_z w64 (of_z w64 z)) same ∙ to_z-of_z w64 (get_or part n (pos 0)) wide in
    ap (λ xs. set xs (c.args.first + n) (to_z w64 (of_z w64 c.from.result))) c.loop-at.invariant
    ∙ filled_more old c.args.first part n (c.args.first + n) (pos 0) (to_z w64 (of_z w64 c.from.result)) (omega arith) (omega arith) (omega arith) read
