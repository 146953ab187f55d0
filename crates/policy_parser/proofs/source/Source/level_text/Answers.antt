use Rattle.std.proofs.Common.{◌∷◌, ◌∙◌, [], option_map, sym, subst}
use Rattle.std.proofs.lemmas.Result.{err_from_is_err_and}
use Rattle.policy_grammar.specs.declared.terminal.Terminal.TheVariants.{Levels, Choose, Steal}
use Rattle.policy_grammar.specs.Symbols.{the, handlers, level, order, batch}
use Rattle.policy_syntax.specs.SyntaxTrees.{elect_syntax_tree}
use Rattle.policy_parser.specs.Sections.{IsFront}
use Rattle.policy_parser.specs.declared.sections.Front.{Front}
use Rattle.policy_parser.proofs.Judged.{passes}
use Rattle.policy_parser.proofs.LevelParts.{level_text-parts}
use Rattle.policy_parser.proofs.source.Source.level_text.Goals as goal

pub returns-in_err-front-clause-reads : goal.returns-in_err-front-clause-reads
returns-in_err-front-clause-reads c =
    let p = err_from_is_err_and c.from_residual.result c.from_residual.ensures.1 in let limits = c.args.self.now.limits in
    rw (p.1, p.2) (c.in_err-front.ensures.reads (handlers ∷ level 0 ∷ the Choose ∷ order limits.level_keys ∷ the Steal ∷ order limits.keys ∷ batch ∷ []))

pub returns-in_err-front-2-clause-reads : goal.returns-in_err-front-2-clause-reads
returns-in_err-front-2-clause-reads c =
    let p = err_from_is_err_and c.from_residual-in_err-front-2.result c.from_residual-in_err-front-2.ensures.1 in let limits = c.args.self.now.limits in
    rw (p.1, p.2)
    (passes _ (c.in_ok-front.ensures.reads (handlers ∷ level 0 ∷ the Choose ∷ order limits.level_keys ∷ the Steal ∷ order limits.keys ∷ batch ∷ []))
    (rw c.in_err-front-2.ensures.err at c.level_back.ensures.reads))

pub returns-clause-reads : goal.returns-clause-reads
returns-clause-reads c =
    let limits = c.args.self.now.limits in
    c.in_ok-front.ensures.reads (handlers ∷ level 0 ∷ the Choose ∷ order limits.level_keys ∷ the Steal ∷ order limits.keys ∷ batch ∷ [])
    ∙ (rw c.in_ok-front-2.ensures.ok.1 at c.level_back.ensures.reads)

pub returns-clause-is : goal.returns-clause-is
returns-clause-is c =
    level_text-parts
    (subst (λ (f : Front). IsFront c.args.self.now.text.now c.args.self.now.lexemes.now Levels f.name f.load f.attrs f.place (option_map elect_syntax_tree f.elect) c.in_ok-front.handlers_at)
    (sym c.in_ok-front-2.ensures.ok.0) c.in_ok-front.ensures.is)
    (rw c.in_ok-front-2.ensures.ok.1 at c.level_back.ensures.is)
