use Rattle.std.proofs.Common.{◌≡◌, ◌∙◌, List, ℕ, codes, sym, subst}
use Rattle.policy_syntax.specs.SyntaxTrees.{syntax_tree}
use Rattle.policy_printer.specs.Printed.{printed, IsTextOf}
use Rattle.policy_printer.proofs.AddsLemmas.{◌⊳◌, whole, reads_as}
use Rattle.policy_printer.proofs.ReadAgain.{printed-again}
use Rattle.policy_printer.proofs.printing.print.Goals as goal

pub returns : goal.returns
returns c =
    let is : c.push.new.self.items ≡ printed (syntax_tree c.args.syntax.now)
    = whole (codes "policy") _ _ _ _ (c.in_ok-bytes.ensures.items ∙ c.as_bytes.ensures.value)
    (reads_as c.as_slice.ensures.items c.in_ok-token.ensures ⊳ c.in_ok-head.ensures ⊳ c.in_ok-phases.ensures) c.in_ok-push.ensures.items in
    record {
      text = is;
      again = λ text of. subst (λ (bytes : List ℕ). IsTextOf bytes (syntax_tree c.args.syntax.now)) (sym is) (printed-again text (syntax_tree c.args.syntax.now) of);
    }
