-- Lines that are put of those items alone that have one.
use Rattle.std.proofs.Common.{◌≡◌, ℕ, ◌+◌, ◌<◌, Bool, true, false, cond, List, [], ◌∷◌, ◌++◌, drop, filter, get_or, length, map, take, take-append-drop, refl, sym, ap, ◌∙◌, subst}
use Rattle.std.proofs.lemmas.List.{map-append}
use Rattle.std.proofs.lemmas.List.Elements.{filter-append, filter_more}
use Rattle.sched_io.specs.Puts.{WritesAll, WritesPart}
use Rattle.sched_io.specs.Shown.{Shown}
use Rattle.sched_io.proofs.PutsLemmas.{puts_both, stops_later, stops_sooner}

module _ {X : Type 0} (shows : X → Bool) (line : X → List ℕ) where
  abbrev pub lines_of : List X → List (List ℕ)
  lines_of xs = map line (filter shows xs)

  -- the line of an item, where it has one
  abbrev pub line_there : X → List (List ℕ)
  line_there x = cond (shows x) (line x ∷ []) []

  one_line : (b : Bool) (x : X) → map line (cond b (x ∷ []) []) ≡ cond b (line x ∷ []) []
  one_line true x = refl
  one_line false x = refl

  module _ (xs : List X) (i : ℕ) (d : X) (inside : i < length xs) where
    lines_more : lines_of (take (i + 1) xs) ≡ lines_of (take i xs) ++ line_there (get_or xs i d)
    lines_more =
        let x = get_or xs i d in
        ap (map line) (filter_more shows xs i d inside)
        ∙ (map-append line (filter shows (take i xs)) (cond (shows x) (x ∷ []) [])
        ∙ ap (λ more. lines_of (take i xs) ++ more) (one_line (shows x) x))

    lines_rest : lines_of xs ≡ lines_of (take (i + 1) xs) ++ lines_of (drop (i + 1) xs)
    lines_rest =
        ap lines_of (sym (take-append-drop (i + 1) xs))
        ∙ (ap (map line) (filter-append shows (take (i + 1) xs) (drop (i + 1) xs))
        ∙ map-append line (filter shows (take (i + 1) xs)) (filter shows (drop (i + 1) xs)))

    pub shown_next : (x y z : Shown) → WritesAll (lines_of (take i xs)) x y → WritesAll (line_there (get_or xs i d)) y z
        → WritesAll (lines_of (take (i + 1) xs)) x z
    shown_next x y z first second =
        subst (λ lines. WritesAll lines x z) (sym lines_more) (puts_both (lines_of (take i xs)) (line_there (get_or xs i d)) x y z first second)

    pub shown_stops : (x y z : Shown) → WritesAll (lines_of (take i xs)) x y → WritesPart (line_there (get_or xs i d)) y z
        → WritesPart (lines_of xs) x z
    shown_stops x y z first second =
        subst (λ lines. WritesPart lines x z) (sym lines_rest)
        (stops_sooner (lines_of (take (i + 1) xs)) (lines_of (drop (i + 1) xs)) x z
        (subst (λ lines. WritesPart lines x z) (sym lines_more) (stops_later (lines_of (take i xs)) (line_there (get_or xs i d)) x y z first second)))
