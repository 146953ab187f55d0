use Rattle.std.proofs.Common.{◌≡◌, drop}
use Rattle.policy_grammar.specs.Lexemes.{terminal_among}
use Rattle.policy_parser.proofs.words.terminal_among.Given as goal

-- the word is what it is among those that are left
abbrev pub invariant-loop-reserved : goal.invariant-loop-reserved
invariant-loop-reserved l =
    terminal_among (λ w. w.0.now) (λ w. w.1) l.words l.word ≡ terminal_among (λ w. w.0.now) (λ w. w.1) (drop l.reserved-index l.words) l.word
