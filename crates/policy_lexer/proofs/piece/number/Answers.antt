use Rattle.std.proofs.Common.{ℕ, ◌<◌, ◌≤◌, arith, refl, ap, ◌∙◌, take}
use Rattle.std.specs.Char.{is_ascii_digit}
use Rattle.std.proofs.lemmas.List.Sums.{prefix_len-le-length}
use Rattle.policy_lexer.specs.Bytes.{number_of}
use Rattle.policy_lexer.proofs.Firsts.{number_is_first}
use Rattle.policy_lexer.proofs.Numbers.{digits_pass}
use Rattle.policy_lexer.proofs.piece.number.Goals as goal

not-below : (a b : ℕ) → (a < b → ⊥) → b ≤ a
not-below a b no_less = omega (arith, no_less)

pub split_at-requires : goal.split_at-requires
split_at-requires c = omega (arith, c.digits_size-size.ensures, prefix_len-le-length is_ascii_digit c.args.text.now)

pub value_of-requires : goal.value_of-requires
value_of-requires c = λ k d h.
    rw (c.split_at.ensures.front, c.digits_size-size.ensures)
    (digits_pass c.args.text.now k d (omega (arith, h, c.digits_size-size.ensures, c.split_at.ensures.front_len)))

pub returns-in-Some-clause-step : goal.returns-in-Some-clause-step
returns-in-Some-clause-step c =
    let value = c.in-Some.ensures.1 ∙ ap number_of (c.split_at.ensures.front ∙ ap (λ size. take size c.args.text.now) c.digits_size-size.ensures) in (
      rw (c.digits_size-size.ensures, value) (number_is_first _ c.requires.some c.requires.digit),
      omega (arith, c.in-Some.ensures),
    )

pub returns-in-None-clause-fault : goal.returns-in-None-clause-fault
returns-in-None-clause-fault c =
    let value = ap number_of (c.split_at.ensures.front ∙ ap (λ size. take size c.args.text.now) c.digits_size-size.ensures) in
    (refl, (_, _, number_is_first _ c.requires.some c.requires.digit, not-below _ _ (rw (← value) c.in-None.ensures)))
