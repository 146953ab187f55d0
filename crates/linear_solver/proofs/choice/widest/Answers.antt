use Rattle.std.proofs.Common.{◌≤◌, pos, take, get_or, arith}
use Rattle.std.proofs.lemmas.List.{take_all}
use Rattle.std.proofs.lemmas.List.Elements.{All-more, All-weaker}
use Rattle.linear_form.specs.declared.form.Term.{Term}
use Rattle.linear_solver.specs.Boxes.{spread}
use Rattle.linear_solver.proofs.Spreads.{wide_from_spread, widest_done}
use Rattle.linear_solver.proofs.choice.widest.Goals as goal
use Rattle.linear_solver.proofs.choice.widest.Goals.{then-most-change, else-most-change}

pub loop-term-preserved : goal.loop-term-preserved
loop-term-preserved c =
    let bounds = c.args.bounds.now in
    let terms = c.args.terms.now in
    let i = c.loop-term.term-index in
    let none : Term = record { var = 0; coef = pos 0 } in
    let value = c.spread-change.ensures in
    let invariant = c.loop-term.invariant in
    elim c.if-most-change.branch [
      | then-most-change w ↦
          let most = w.most-is in
          let test = w.if-most-change.true in
          let weaker = All-weaker (λ (t : Term). spread bounds t ≤ c.loop-term.most) (λ (t : Term). spread bounds t ≤ c.if-most-change.most) (λ t le. omega (arith, most, test)) (take i terms) invariant.below in
          record {
            below = All-more (λ (t : Term). spread bounds t ≤ c.if-most-change.most) terms i none c.loop-term-test.true weaker (omega (arith, value, most));
            found = rw w.widest-is (wide_from_spread bounds c.requires.bounds (get_or terms i none) (c.requires.terms i none c.loop-term-test.true) (omega (arith, value, test)));
          }
      | else-most-change w ↦
          let most = w.most-is in
          let test = w.if-most-change.false in
          record {
            below = rw most (All-more (λ (t : Term). spread bounds t ≤ c.loop-term.most) terms i none c.loop-term-test.true invariant.below (omega (arith, value, test)));
            found = rw (most, w.widest-is) invariant.found;
          }
    ]

pub returns : goal.returns
returns c =
    let all = take_all c.loop-term.term-index c.args.terms.now (omega arith) in
    widest_done c.args.bounds.now c.requires.bounds c.args.terms.now c.loop-term.widest c.loop-term.most (rw all at c.loop-term.invariant.below) c.loop-term.invariant.found
