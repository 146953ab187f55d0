-- The number of a stop.
use Rattle.std.proofs.Common.{◌≡◌, ◌≢◌, ℕ, sym, ◌∙◌}

pub data Stopped (code : ℕ) : Type 0 where
  at_4 : code ≡ 4 → Stopped code
  at_5 : code ≡ 5 → Stopped code
  at_6 : code ≡ 6 → Stopped code

pub stopped_not : (code n : ℕ) → n ≢ 4 → n ≢ 5 → n ≢ 6 → Stopped code → code ≢ n
stopped_not code n a b c stop e = elim stop [ at_4 f ↦ a (sym e ∙ f) | at_5 f ↦ b (sym e ∙ f) | at_6 f ↦ c (sym e ∙ f) ]
