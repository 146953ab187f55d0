use Rattle.std.proofs.Common.{◌∙◌, ◌++◌, [], ◌∷◌, ap, arith, rules, sym, FitsSigned}
use Rattle.std.specs.Int.{w32}
use Rattle.std.proofs.lemmas.Int.{to_z-of_z}
use Rattle.job_trace.specs.Code.Steps.{named}
use Rattle.job_trace.proofs.StepLemmas.{all-consts, more-consts, no-const_left}
use Rattle.job_trace.proofs.form.consts_in.Goals as goal

pub loop-name-preserved : goal.loop-name-preserved
loop-name-preserved c =
    let small : FitsSigned w32 c.in-Some.value = search rules in
    record {
      same = more-consts _ _ _ c.loop-name.invariant.same _ _ _ c.in-Some.ensures.found
          (c.in_ok-push.ensures.items ∙ ap (λ g. c.loop-name.consts.items ++ g ∷ []) c.in_ok-given.ensures
          ∙ ap (λ v. c.loop-name.consts.items ++ named c.in-Some.name.now v ∷ []) (to_z-of_z w32 c.in-Some.value small));
      counted = omega (arith, c.in_ok-push.ensures.len, c.in-Some.ensures.shorter, c.loop-name.invariant.counted);
    }

pub returns-then-has_word : goal.returns-then-has_word
returns-then-has_word c = no-const_left _ _ _ c.loop-name.invariant.same c.in_default.ensures.found (sym c.has_word.ensures ∙ c.if-has_word.true)

pub returns : goal.returns
returns c = rw c.from_vec.ensures (all-consts _ _ _ c.loop-name.invariant.same (sym c.has_word.ensures ∙ c.if-has_word.false))
