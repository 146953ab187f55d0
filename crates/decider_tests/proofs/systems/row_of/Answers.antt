use Rattle.std.proofs.Common.{◌<◌, ◌+◌, arith}
use Rattle.std.proofs.lemmas.List.Elements.{All-push, All-weaker}
use Rattle.linear_form.specs.declared.form.Term.{Term}
use Rattle.linear_form.proofs.Build.{IsRow-push}
use Rattle.decider_tests.proofs.systems.row_of.Goals as goal

pub loop-var-preserved : goal.loop-var-preserved
loop-var-preserved c =
    let list = c.loop-var.list.items in
    let term = c.in-Some.term in
    let place = c.in-Some.ensures.place in
    let before = All-weaker (λ (t : Term). t.var < c.loop-var.least) (λ (t : Term). t.var < term.var) (λ t lt. omega (arith, place.0)) list c.loop-var.invariant.below in
    let after = All-weaker (λ (t : Term). t.var < term.var) (λ (t : Term). t.var < term.var + 1) (λ t lt. omega arith) list before in
    record {
      row = rw c.in_ok-push.ensures.items (IsRow-push c.args.variables list _ term c.loop-var.invariant.row c.in-Some.ensures.fits before);
      below = rw c.in_ok-push.ensures.items (All-push (λ (t : Term). t.var < term.var + 1) list term after (omega arith));
      count = omega (arith, c.in_ok-push.ensures.len);
    }
