use Rattle.std.proofs.Common.{◌≡◌, ◌<◌, ◌^◌, drop}
use Rattle.policy_lexer.specs.Bytes.{number_of, number_behind}
use Rattle.policy_lexer.proofs.piece.value_of.Given as goal

-- what is read and what is left give the whole number
abbrev pub invariant-loop-digit : goal.invariant-loop-digit
invariant-loop-digit l = record {
  reads : number_of l.digits ≡ number_behind l.value (drop l.digit-index l.digits);
  fits : l.value < 2 ^ 64;
}
