use Rattle.std.proofs.Common.{◌≡◌, ◌<◌, ◌∙◌, ℕ, true, refl, sym, arith}
use Rattle.std.specs.Char.{is_ascii}
use Rattle.std.proofs.lemmas.Bool.Decides.{nat_tests}
use Rattle.policy_lexer.proofs.Firsts.{double_is_first, single_is_first, no_symbol_is_first}
use Rattle.policy_lexer.proofs.piece.symbol.Goals as goal

ascii-small : (byte : ℕ) → is_ascii byte ≡ true → byte < 128
ascii-small byte ascii = grind (arith, nat_tests)

pub returns-in-Some-single-clause-step : goal.returns-in-Some-single-clause-step
returns-in-Some-single-clause-step c =
    (single_is_first _ _ c.requires.some c.requires.other c.in_default.ensures.none (sym c.single.ensures ∙ c.in-Some-single.is), tt)

pub returns-in-None-clause-fault : goal.returns-in-None-clause-fault
returns-in-None-clause-fault c = (
  refl,
  ascii-small _ (sym c.is_ascii.ensures ∙ c.if-is_ascii.true),
  no_symbol_is_first _ c.requires.some c.requires.other c.in_default.ensures.none (sym c.single.ensures ∙ c.in-None.is),
)

pub returns-in-Some-clause-step : goal.returns-in-Some-clause-step
returns-in-Some-clause-step c = (double_is_first _ _ c.requires.other c.in-Some.ensures.some, tt)
