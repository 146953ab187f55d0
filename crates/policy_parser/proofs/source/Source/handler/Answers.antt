use Rattle.std.proofs.Common.{◌∷◌, ◌∙◌, ◌+◌}
use Rattle.std.proofs.lemmas.Result.{err_from_is_err_and}
use Rattle.policy_grammar.specs.declared.terminal.Terminal.TheVariants.{Begin, Finish}
use Rattle.policy_grammar.specs.Symbols.{the, case, handlers}
use Rattle.policy_parser.proofs.Judged.{passes, go-from, plus-two}
use Rattle.policy_parser.proofs.PartMoves.{handler-goes, event-goes, event-none}
use Rattle.policy_parser.proofs.Parts.{handler-parts}
use Rattle.policy_parser.proofs.source.Source.handler.Goals as goal

pub returns-in-None-clause-reads : goal.returns-in-None-clause-reads
returns-in-None-clause-reads c = λ below.
    handler-goes _ _ c.args.at below c.requires.begins ∙ event-none _ _ (c.args.at + 1) (the Begin ∷ case 0 ∷ the Finish ∷ handlers ∷ below) c.in-None.ensures.none

pub returns-in_err-cases_at-clause-reads : goal.returns-in_err-cases_at-clause-reads
returns-in_err-cases_at-clause-reads c = λ below.
    let p = err_from_is_err_and c.from_residual.result c.from_residual.ensures.1 in
    rw (p.1, p.2)
    (passes _ (handler-goes _ _ c.args.at below c.requires.begins ∙ event-goes _ _ (c.args.at + 1) (the Begin ∷ case 0 ∷ the Finish ∷ handlers ∷ below) c.in-Some.event c.in-Some.ensures.some ∙ go-from _ _ 0 (the Begin ∷ case 0 ∷ the Finish ∷ handlers ∷ below) (plus-two c.args.at))
    (c.in_err-cases_at.ensures.reads 0 (case 0 ∷ the Finish ∷ handlers ∷ below)))

pub returns-in_err-cases-clause-reads : goal.returns-in_err-cases-clause-reads
returns-in_err-cases-clause-reads c = λ below.
    let p = err_from_is_err_and c.from_residual-in_err-cases.result c.from_residual-in_err-cases.ensures.1 in
    rw (p.1, p.2)
    (passes _ (handler-goes _ _ c.args.at below c.requires.begins ∙ event-goes _ _ (c.args.at + 1) (the Begin ∷ case 0 ∷ the Finish ∷ handlers ∷ below) c.in-Some.event c.in-Some.ensures.some ∙ go-from _ _ 0 (the Begin ∷ case 0 ∷ the Finish ∷ handlers ∷ below) (plus-two c.args.at) ∙ c.in_ok-cases_at.ensures.reads 0 (case 0 ∷ the Finish ∷ handlers ∷ below))
    (c.in_err-cases.ensures.reads (the Finish ∷ handlers ∷ below)))

pub returns-in_err-next-clause-reads : goal.returns-in_err-next-clause-reads
returns-in_err-next-clause-reads c = λ below.
    let p = err_from_is_err_and c.from_residual-in_err-next.result c.from_residual-in_err-next.ensures.1 in
    rw (p.1, p.2)
    (passes _ (handler-goes _ _ c.args.at below c.requires.begins ∙ event-goes _ _ (c.args.at + 1) (the Begin ∷ case 0 ∷ the Finish ∷ handlers ∷ below) c.in-Some.event c.in-Some.ensures.some ∙ go-from _ _ 0 (the Begin ∷ case 0 ∷ the Finish ∷ handlers ∷ below) (plus-two c.args.at) ∙ c.in_ok-cases_at.ensures.reads 0 (case 0 ∷ the Finish ∷ handlers ∷ below) ∙ c.in_ok-cases.ensures.reads (the Finish ∷ handlers ∷ below))
    (c.in_err-next.ensures.reads 0 (handlers ∷ below)))

pub returns-clause-reads : goal.returns-clause-reads
returns-clause-reads c = λ below.
    handler-goes _ _ c.args.at below c.requires.begins
    ∙ event-goes _ _ (c.args.at + 1) (the Begin ∷ case 0 ∷ the Finish ∷ handlers ∷ below) c.in-Some.event c.in-Some.ensures.some
    ∙ go-from _ _ 0 (the Begin ∷ case 0 ∷ the Finish ∷ handlers ∷ below) (plus-two c.args.at)
    ∙ c.in_ok-cases_at.ensures.reads 0 (case 0 ∷ the Finish ∷ handlers ∷ below)
    ∙ c.in_ok-cases.ensures.reads (the Finish ∷ handlers ∷ below)
    ∙ c.in_ok-next.ensures.reads 0 (handlers ∷ below)

pub returns-clause-is : goal.returns-clause-is
returns-clause-is c =
    handler-parts c.in-Some.event c.requires.begins c.in-Some.ensures.some c.in_ok-cases_at.ensures.is c.in_ok-cases_at.ensures.next.0 c.in_ok-cases.ensures.is
    c.in_ok-next.ensures.is c.in_ok-next.ensures.next.0
