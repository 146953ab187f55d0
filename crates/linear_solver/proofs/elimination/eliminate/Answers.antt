use Rattle.std.proofs.Common.{ap, sym, ◌∙◌, arith}
use Rattle.linear_solver.specs.Elimination.{next_list}
use Rattle.linear_solver.proofs.Refutation.{after-more, after-none, first_is_list, found_is_right, leaf_is_right, so_far_more, stopped}
use Rattle.linear_solver.proofs.elimination.eliminate.Goals as goal

pub loop-variable-init : goal.loop-variable-init
loop-variable-init c =
    let is = c.in_ok-list.ensures.list in
    record {
      lists = is ∙ sym (after-none c.args.bounds.now c.args.rows.now);
      is_list = rw c.shape_of-shape.ensures (first_is_list c.args.bounds.now c.args.rows.now c.requires c.in_ok-list.list.items is c.in_ok-list.ensures.shape);
      so_far = λ k lt. absurd (omega arith);
    }

pub returns-in-Some-clause-right : goal.returns-in-Some-clause-right
returns-in-Some-clause-right c =
    let invariant = c.loop-variable.invariant in
    let found = rw (c.in-Some.is, c.as_slice.ensures.value) at c.in_ok-leaf.ensures in
    leaf_is_right c.args.bounds.now c.args.rows.now c.requires c.loop-variable.list.items c.loop-variable.variable invariant.lists (rw c.shape_of-shape.ensures at invariant.is_list) c.in-Some.leaf found

pub returns-in-None-2-clause-complete : goal.returns-in-None-2-clause-complete
returns-in-None-2-clause-complete c =
    let invariant = c.loop-variable.invariant in
    let none = rw (c.in-None.is, c.as_slice.ensures.value, invariant.lists) at c.in_ok-leaf.ensures in
    let past = rw (c.in-None-2.is, invariant.lists) at c.in_ok-next.ensures in
    stopped c.args.bounds.now c.args.rows.now c.loop-variable.variable (so_far_more c.args.bounds.now c.args.rows.now c.loop-variable.variable invariant.so_far none) past

pub loop-variable-preserved : goal.loop-variable-preserved
loop-variable-preserved c =
    let invariant = c.loop-variable.invariant in
    let none = rw (c.in-None.is, c.as_slice.ensures.value, invariant.lists) at c.in_ok-leaf.ensures in
    let next = rw c.in-Some-2.is at c.in_ok-next.ensures in
    record {
      lists = next.0 ∙ ap (next_list c.loop-variable.variable) invariant.lists ∙ sym (after-more c.args.bounds.now c.args.rows.now c.loop-variable.variable);
      is_list = next.1;
      so_far = so_far_more c.args.bounds.now c.args.rows.now c.loop-variable.variable invariant.so_far none;
    }

pub returns-clause-right : goal.returns-clause-right
returns-clause-right c =
    let invariant = c.loop-variable.invariant in
    let found = rw c.as_slice-2.ensures.value at c.in_ok-leaf_in.ensures in
    found_is_right c.args.bounds.now c.args.rows.now c.requires c.loop-variable.list.items c.loop-variable.variable invariant.lists (rw c.shape_of-shape.ensures at invariant.is_list) c.in_ok-leaf_in.field-0 found
