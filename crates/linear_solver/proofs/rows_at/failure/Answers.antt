use Rattle.std.proofs.Common.{◌≡◌, FitsSigned, List, [], ◌∷◌, ℤ, to_z, to_z-of_z, inl, inr, ap, sym, ◌∙◌, refl, rules}
use Rattle.std.specs.Int.{w128}
use Rattle.std.proofs.lemmas.Slice.Zip.{either_empty_from_Zip}
use Rattle.linear_solver.specs.declared.rows_at.State.{State}
use Rattle.linear_solver.specs.LocalSearch.{failure}
use Rattle.linear_solver.proofs.rows_at.failure.Goals as goal

no_column : (by sum : ℤ) (states : List State) → failure by sum states [] ≡ sum
no_column by sum [] = refl
no_column by sum (state ∷ states) = refl

pub returns : goal.returns
returns c =
    let by = c.args.by in
    let sum = to_z w128 c.loop-state.sum-bits in
    let states = c.loop-state.state-iterator.a.rest.now in
    let column = c.loop-state.state-iterator.b.rest.now in
    let ended = either_empty_from_Zip c.loop-state.state-iterator c.next.new.self c.next.result c.in-None.is c.next.ensures.steps in
    let whole : failure by sum states column ≡ sum = elim ended [
      | inl none ↦ ap (λ xs. failure by sum xs column) none
      | inr none ↦ ap (λ xs. failure by sum states xs) none ∙ no_column by sum states
    ] in
    let fits : FitsSigned w128 by = search rules in
    let so_far = simp to_z-of_z at c.loop-state.invariant in
    sym (so_far ∙ whole)
