-- The spread of one load more.
use Rattle.std.proofs.Common.{◌≡◌, ℕ, ◌+◌, ◌-◌, ◌*◌, ◌<◌, ◌≤◌, List, length, take, drop, get_or, sum_by, sym, ap, ◌∙◌, arith}
use Rattle.std.specs.Int.{abs_diff}
use Rattle.std.proofs.lemmas.List.{drop_more, length-drop, length-take, take_rest}
use Rattle.std.proofs.lemmas.Nat.{mul-le}
use Rattle.round_model.specs.Spread.{spread_of}

-- the loads after the one in place j, as the code cuts them
abbrev pub later_loads : List ℕ → ℕ → List ℕ
later_loads xs j = take (length xs - (j + 1)) (drop (j + 1) xs)

pub spread_of-drop : (xs : List ℕ) (j at : ℕ) → j < length xs → j + 1 ≡ at
    → sum_by (abs_diff (get_or xs j 0)) (later_loads xs j) + spread_of (drop at xs) ≡ spread_of (drop j xs)
spread_of-drop xs j at inside is =
    ap (λ k. sum_by (abs_diff (get_or xs j 0)) (later_loads xs j) + spread_of (drop k xs)) (sym is)
    ∙ (ap (λ rest. sum_by (abs_diff (get_or xs j 0)) rest + spread_of (drop (j + 1) xs)) (take_rest xs (j + 1))
    ∙ sym (ap spread_of (drop_more xs j 0 inside)))

pub later_loads-few : (xs : List ℕ) (j n : ℕ) → length xs ≤ n → (m : ℕ) → length (later_loads xs j) * m ≤ n * m
later_loads-few xs j n few m =
    let fewer : length (later_loads xs j) ≤ n = omega (arith, length-take (length xs - (j + 1)) (drop (j + 1) xs), length-drop (j + 1) xs) in
    mul-le (length (later_loads xs j)) m n m fewer (omega arith)
