use Rattle.std.proofs.Common.{◌≡◌, ◌+◌, length, ap, ◌∙◌, arith}
use Rattle.std.proofs.lemmas.List.{length_push}
use Rattle.linear_solver.proofs.Inner.{inside_more}
use Rattle.linear_solver.proofs.probing.box_of.Goals as goal

pub loop-variable-preserved : goal.loop-variable-preserved
loop-variable-preserved c =
    let pushed = c.in_ok-push-in-Some.ensures.items in
    let invariant = c.loop-variable.invariant in
    rw pushed (record {
      len = length_push c.loop-variable.point.items c.in-Some.value ∙ ap (λ n. n + 1) invariant.len;
      inside = inside_more c.args.bounds.now c.loop-variable.point.items c.in-Some.value c.loop-variable.variable c.loop-variable-test.true invariant.len invariant.inside c.in-Some.ensures;
    })

pub returns : goal.returns
returns c =
    let end : c.loop-variable.variable ≡ length c.args.bounds.now = omega arith in
    record { as_many = c.loop-variable.invariant.len ∙ end; inside = λ k a d lt. c.loop-variable.invariant.inside k a d (omega arith) }
