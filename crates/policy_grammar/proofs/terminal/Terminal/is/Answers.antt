use Rattle.std.proofs.Common.{nat_eq, ap, ◌∙◌}
use denote.Enum.Declared.{tag_of}
use Rattle.policy_grammar.specs.contracts.terminal.Terminal.{the_type}
use Rattle.policy_grammar.specs.Terminals.{code}
use Rattle.policy_grammar.proofs.Tags.{tag-is}
use Rattle.policy_grammar.proofs.terminal.Terminal.is.Goals as goal

pub returns : goal.returns
returns c =
    ap (λ n. nat_eq n (tag_of the_type c.args.other)) (tag-is c.args.self)
    ∙ ap (nat_eq (code c.args.self)) (tag-is c.args.other)
