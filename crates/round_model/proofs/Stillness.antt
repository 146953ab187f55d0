-- Still rounds by a test along the history.
use Rattle.std.proofs.Common.{◌≡◌, ℕ, zero, suc, ◌≤◌, Bool, true, false, not, ◌&&◌, ◌||◌, leb, List, [], ◌∷◌, take, fold, refl, arith}
use Rattle.std.proofs.lemmas.Bool.Decides.{nat_tests}
use mathlib.Core.Option.{some, some-ne-none, some-injective}
use lib.ListN.{get_elem?}
use Rattle.round_model.specs.declared.entry.Entry.{Entry}
use Rattle.round_model.specs.After.{round_after}
use Rattle.round_model.specs.Rounds.{IsStill, disturbs}

-- whether none of these entries that stands in the rounds first to last disturbs; the first of them stands in `round`
abbrev pub is_quiet : ℕ → ℕ → ℕ → List Entry → Bool
is_quiet first last round [] = true
is_quiet first last round (e ∷ es) = (not (leb first round && leb round last) || not (disturbs e)) && is_quiet first last (round_after round e) es

here_quiet : (first last round : ℕ) (b rest : Bool) → ((not (leb first round && leb round last) || not b) && rest) ≡ true → first ≤ round → round ≤ last → b ≡ false
here_quiet first last round true rest test low high = grind (arith, nat_tests)
here_quiet first last round false rest test low high = refl

rest_quiet : (a rest : Bool) → (a && rest) ≡ true → rest ≡ true
rest_quiet true rest test = test
rest_quiet false rest test = absurd (cc)

quiet_entries : (first last round : ℕ) (es : List Entry) → is_quiet first last round es ≡ true → (k : ℕ) (e : Entry) → get_elem? es k ≡ some e
    → first ≤ fold round_after round (take k es) → fold round_after round (take k es) ≤ last → disturbs e ≡ false
quiet_entries first last round [] test k e is low high = absurd (some-ne-none e (cc))
quiet_entries first last round (x ∷ xs) test zero e is low high =
    let same : x ≡ e = some-injective x e is in
    rw (← same) (here_quiet first last round (disturbs x) (is_quiet first last (round_after round x) xs) test low high)
quiet_entries first last round (x ∷ xs) test (suc k) e is low high =
    quiet_entries first last (round_after round x) xs (rest_quiet (not (leb first round && leb round last) || not (disturbs x)) (is_quiet first last (round_after round x) xs) test) k e is low high

pub still_by_test : (history : List Entry) (first last : ℕ) → is_quiet first last 0 history ≡ true → IsStill history first last
still_by_test history first last test k e is low high = quiet_entries first last 0 history test k e is low high
