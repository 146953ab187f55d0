use Rattle.std.proofs.Common.{ℕ, List, sym, subst}
use Rattle.policy_syntax.specs.SyntaxTrees.{syntax_tree}
use Rattle.policy_printer.specs.Printed.{IsTextOf}
use Rattle.language_tests.proofs.reading_again.read_again.Goals as goal

pub read-requires : goal.read-requires
read-requires c =
    let of = c.in-Ok.ensures.again c.requires.0 c.requires.1 in
    (syntax_tree c.args.syntax.now, subst (λ (text : List ℕ). IsTextOf text (syntax_tree c.args.syntax.now)) (sym c.as_slice.ensures.value) of)
