use Rattle.std.proofs.Common.{◌∷◌, ◌∙◌, [], List, map, ap}
use Rattle.std.proofs.lemmas.Result.{err_from_is_err_and}
use Rattle.policy_syntax.specs.declared.levels.OneLevelSyntax.{OneLevelSyntax}
use Rattle.policy_syntax.specs.LevelTrees.{one_level_syntax_tree}
use Rattle.policy_grammar.specs.declared.terminal.Terminal.TheVariants.{Choose, Steal}
use Rattle.policy_grammar.specs.Symbols.{the, level, order, batch}
use Rattle.policy_parser.proofs.Judged.{passes}
use Rattle.policy_parser.proofs.source.Source.level_back.Goals as goal

pub returns-in_err-handlers-clause-reads : goal.returns-in_err-handlers-clause-reads
returns-in_err-handlers-clause-reads c =
    let p = err_from_is_err_and c.from_residual.result c.from_residual.ensures.1 in let limits = c.args.self.now.limits in
    rw (p.1, p.2) (c.in_err-handlers.ensures.reads (level 0 ∷ the Choose ∷ order limits.level_keys ∷ the Steal ∷ order limits.keys ∷ batch ∷ []))

pub returns-in_err-levels-clause-reads : goal.returns-in_err-levels-clause-reads
returns-in_err-levels-clause-reads c =
    let p = err_from_is_err_and c.from_residual-in_err-levels.result c.from_residual-in_err-levels.ensures.1 in let limits = c.args.self.now.limits in
    rw (p.1, p.2)
    (passes _ (c.in_ok-handlers.ensures.reads (level 0 ∷ the Choose ∷ order limits.level_keys ∷ the Steal ∷ order limits.keys ∷ batch ∷ []))
    (c.in_err-levels.ensures.reads (the Choose ∷ order limits.level_keys ∷ the Steal ∷ order limits.keys ∷ batch ∷ [])))

pub returns-in_err-levels-2-clause-reads : goal.returns-in_err-levels-2-clause-reads
returns-in_err-levels-2-clause-reads c =
    let p = err_from_is_err_and c.from_residual-in_err-levels-2.result c.from_residual-in_err-levels-2.ensures.1 in let limits = c.args.self.now.limits in
    rw (p.1, p.2)
    (passes _ (c.in_ok-handlers.ensures.reads (level 0 ∷ the Choose ∷ order limits.level_keys ∷ the Steal ∷ order limits.keys ∷ batch ∷ [])
    ∙ c.in_ok-levels.ensures.reads (the Choose ∷ order limits.level_keys ∷ the Steal ∷ order limits.keys ∷ batch ∷ []))
    (rw c.in_err-levels-2.ensures.err at (c.choices.ensures.reads 0)))

pub returns-clause-reads : goal.returns-clause-reads
returns-clause-reads c =
    let limits = c.args.self.now.limits in
    c.in_ok-handlers.ensures.reads (level 0 ∷ the Choose ∷ order limits.level_keys ∷ the Steal ∷ order limits.keys ∷ batch ∷ [])
    ∙ c.in_ok-levels.ensures.reads (the Choose ∷ order limits.level_keys ∷ the Steal ∷ order limits.keys ∷ batch ∷ [])
    ∙ (rw c.in_ok-levels-2.ensures.ok.1 at (c.choices.ensures.reads 0))

pub returns-clause-is : goal.returns-clause-is
returns-clause-is c =
    let k = c.in_ok-levels.ensures.is in
    record {
      levels_at = _;
      further_at = k.mid;
      first = k.first;
      further = k.rest;
      are = c.in_ok-handlers.ensures.is;
      listed = ap (λ (ls : List OneLevelSyntax). map one_level_syntax_tree ls) c.in_ok-levels-2.ensures.ok.0 ∙ k.same;
      is = k.is;
      follow = k.are;
      choices = rw c.in_ok-levels-2.ensures.ok.1 at c.choices.ensures.is;
    }
