use Rattle.std.proofs.Common.{refl}
use Rattle.policy_syntax.specs.SyntaxTrees.{handler_syntax_tree}
use Rattle.policy_printer.specs.PolicyTexts.{handler_texts}
use Rattle.policy_printer.proofs.AddsLemmas.{one_more, all_trees}
use Rattle.policy_printer.proofs.printer.Printer.handlers.Goals as goal

pub loop-handler-preserved : goal.loop-handler-preserved
loop-handler-preserved c =
    one_more (λ x. handler_texts (handler_syntax_tree x)) c.args.handlers.now c.loop-handler.handler-index c.handler-item.result c.handler-item.is
    c.loop-handler-test.true c.loop-handler.invariant c.in_ok-handler.ensures

pub returns : goal.returns
returns c = all_trees handler_texts handler_syntax_tree c.loop-handler.handler-index refl c.loop-handler-test.false c.loop-handler.invariant
