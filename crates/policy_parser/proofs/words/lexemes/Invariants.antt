use Rattle.std.proofs.Common.{◌≡◌, ◌≤◌, ◌-◌, length, take, vec_len}
use Rattle.policy_grammar.specs.Lexemes.{lexemes_in}
use Rattle.policy_parser.proofs.words.lexemes.Given as goal

abbrev pub invariant-tokens : goal.invariant-tokens
invariant-tokens l = record {
  within : l.at ≤ length l.tokens;
  len : vec_len l.lexemes ≡ l.at;
  are : l.lexemes.items ≡ lexemes_in l.language l.text (take l.at l.tokens);
}

abbrev pub decreases-tokens : goal.decreases-tokens
decreases-tokens l = length l.tokens - l.at
