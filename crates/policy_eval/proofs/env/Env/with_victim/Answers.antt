use Rattle.std.proofs.Common.{◌≡◌, ◌+◌, ◌<◌, ◌^◌, ◌∙◌, ◌++◌, ℤ, List, ap, arith, drop, length, pos, rules, set, sym, take, to_z, of_z}
use Rattle.std.specs.Int.{w64}
use Rattle.std.proofs.lemmas.Int.{to_z_pos}
use Rattle.sched_base.specs.declared.limits.TheConstants.{MAX_VARIABLES}
use Rattle.policy_eval.proofs.Beside.{beside}
use Rattle.policy_eval.proofs.env.Env.with_victim.Goals as goal

pub returns : goal.returns
returns c own is =
    let victim = c.args.victim.now in let small : victim.nr < 2 ^ 32 = search rules in let light = c.requires in
    let nr : to_z w64 (of_z w64 c.from.result) ≡ pos victim.nr = ap (λ z. to_z w64 (of_z w64 z)) c.from.ensures ∙ to_z_pos w64 victim.nr (omega arith) in
    let load : to_z w64 (of_z w64 c.from-2.result) ≡ pos victim.load = ap (λ z. to_z w64 (of_z w64 z)) c.from-2.ensures ∙ to_z_pos w64 victim.load (omega arith) in
    let seen = λ (vals : List ℤ). set (set vals 2 (to_z w64 (of_z w64 c.from.result))) 3 (to_z w64 (of_z w64 c.from-2.result)) in
    let all : length c.args.self.now.vals ≡ MAX_VARIABLES = search rules in
    c.fill.ensures
    ∙ (ap (λ vals. take 14 (seen vals) ++ (victim.consts ++ drop (14 + 8) (seen vals))) is
    ∙ beside own victim (to_z w64 (of_z w64 c.from.result)) (to_z w64 (of_z w64 c.from-2.result)) (ap length (sym is) ∙ all) nr load)
