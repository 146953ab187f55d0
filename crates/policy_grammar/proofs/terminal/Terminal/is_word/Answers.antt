use Rattle.std.proofs.Common.{◌≡◌, ◌<◌, ◌≤◌, ℕ, nat_le, ap, arith, ◌∙◌}
use Rattle.std.proofs.lemmas.Bool.Decides.{nat_tests}
use denote.Enum.Declared.{tag_of}
use Rattle.policy_grammar.specs.contracts.terminal.Terminal.{the_type}
use Rattle.policy_grammar.specs.declared.terminal.Terminal.TheVariants as terminal
use Rattle.policy_grammar.specs.Terminals.{code, is_word}
use Rattle.policy_grammar.proofs.Tags.{tag-is}
use Rattle.policy_grammar.proofs.terminal.Terminal.is_word.Goals as goal

low : (k : ℕ) → code terminal.Policy ≤ k → nat_le k (code terminal.Name) ≡ is_word k
low k h = grind (arith, nat_tests)

high : (k : ℕ) → k < code terminal.Policy → nat_le (code terminal.Policy) k ≡ is_word k
high k h = grind (arith, nat_tests)

pub returns-then-self : goal.returns-then-self
returns-then-self c =
    low (tag_of the_type c.args.self) c.if-self.true ∙ ap is_word (tag-is c.args.self)

pub returns-else-self : goal.returns-else-self
returns-else-self c = high (tag_of the_type c.args.self) c.if-self.false ∙ ap is_word (tag-is c.args.self)
