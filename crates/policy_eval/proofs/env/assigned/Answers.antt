use Rattle.std.proofs.Common.{◌≡◌, ◌+◌, ◌<◌, ◌^◌, ap, sym, ◌∙◌, arith, length, map, pos, get_or, set, to_z, of_z}
use Rattle.std.specs.Int.{w64}
use Rattle.std.proofs.lemmas.Int.{to_z_pos}
use Rattle.std.proofs.lemmas.List.{get_or-map, length-map}
use Rattle.policy_eval.proofs.Filling.{filled_more}
use Rattle.policy_eval.proofs.env.assigned.Goals as goal

pub loop-at-preserved : goal.loop-at-preserved
loop-at-preserved c =
    let numbers = c.args.numbers.now in let n = c.loop-at.at in let number = get_or numbers n 0 in let old = c.fill-3.new.vals in
    let inside : n < length (map pos numbers) = omega (arith, length-map numbers pos) in
    let room : 0 + n < length old = omega (arith, c.fill-3.array_long) in
    let small : number < 2 ^ 32 = omega (arith, c.fits-numbers n) in
    let read : to_z w64 (of_z w64 c.from.result) ≡ get_or (map pos numbers) n (pos 0) =
    ap (λ z. to_z w64 (of_z w64 z)) c.from.ensures ∙ (to_z_pos w64 number (omega arith) ∙ sym (get_or-map pos numbers n 0 (pos 0) (omega arith))) in
    ap (λ xs. set xs n (to_z w64 (of_z w64 c.from.result))) c.loop-at.invariant
    ∙ filled_more old 0 (map pos numbers) n n (pos 0) (to_z w64 (of_z w64 c.from.result)) inside room (omega arith) read
