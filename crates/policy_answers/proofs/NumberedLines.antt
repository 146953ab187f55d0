-- A number in a line is short.
use Rattle.std.proofs.Common.{◌<◌, ◌≤◌, ◌^◌, ◌+◌, ℕ, List, ◌++◌, length, length-append, arith}
use Rattle.std.specs.Prelude.{decimal}
use Rattle.std.proofs.lemmas.Fmt.{length-decimal-le}

pub with_number : (line : List ℕ) (n room : ℕ) → length line ≤ room → n < 2 ^ 64 → length (line ++ decimal n) ≤ room + 20
with_number line n room short small =
    omega (arith, short, length-append line (decimal n), length-decimal-le 20 n (omega arith) (omega arith) small)
