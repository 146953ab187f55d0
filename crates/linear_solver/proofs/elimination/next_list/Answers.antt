use Rattle.std.proofs.Common.{◌++◌, ◌≡◌, filter, length, vec_len, All, ap, sym, subst, ◌∙◌, arith, rules}
use Rattle.std.proofs.lemmas.Fn.{filter_same}
use Rattle.std.proofs.lemmas.List.{length-append}
use Rattle.std.proofs.lemmas.List.Elements.{All-append, All-filter}
use Rattle.linear_solver.specs.Elimination.{lacks, sums_in}
use Rattle.linear_solver.specs.Shapes.{HasShape}
use Rattle.linear_solver.proofs.Extensions.{within_back}
use Rattle.linear_solver.proofs.elimination.next_list.Goals as goal

pub returns-in-None : goal.returns-in-None
returns-in-None c = λ within.
    let past = rw (c.in-None.is, c.as_slice.ensures.value) at c.in_ok-sums.ensures in
    past (within_back (filter (lacks c.args.variable) c.args.list.items) _ within)

pub returns-then-len-gt-MAX_DERIVED : goal.returns-then-len-gt-MAX_DERIVED
returns-then-len-gt-MAX_DERIVED c = λ within.
    let next = filter_same _ (lacks c.args.variable) _ (λ x b f' k. search rules) _ _ c.retain.ensures.filtered in
    let sums = rw (c.in-Some.is, c.as_slice.ensures.value) at c.in_ok-sums.ensures in
    let front : vec_len c.retain.new.self ≡ length c.retain.new.self.items = search rules in
    let back : vec_len c.in-Some.sums ≡ length c.in-Some.sums.items = search rules in
    omega (arith, within.few, ap length next, ap length sums.0, length-append (filter (lacks c.args.variable) c.args.list.items) (sums_in c.args.variable c.args.list.items))

pub returns : goal.returns
returns c =
    let next = filter_same _ (lacks c.args.variable) _ (λ x b f' k. search rules) _ _ c.retain.ensures.filtered in
    let sums = rw (c.in-Some.is, c.as_slice.ensures.value) at c.in_ok-sums.ensures in
    let front : vec_len c.retain.new.self ≡ length c.retain.new.self.items = search rules in
    let back : vec_len c.in-Some.sums ≡ length c.in-Some.sums.items = search rules in
    let both = c.in_ok-append.ensures.items in
    let kept = All-filter (lacks c.args.variable) (HasShape c.args.shape) c.args.list.items c.requires.list.shapes in (
      both ∙ ap (λ xs. xs ++ c.in-Some.sums.items) next ∙ ap (λ xs. filter (lacks c.args.variable) c.args.list.items ++ xs) sums.0,
      record {
        few = omega (arith, ap length both, length-append c.retain.new.self.items c.in-Some.sums.items);
        shapes = subst (All (HasShape c.args.shape)) (sym both) (All-append (HasShape c.args.shape) c.retain.new.self.items c.in-Some.sums.items (subst (All (HasShape c.args.shape)) (sym next) kept) sums.1.shapes);
      },
    )
