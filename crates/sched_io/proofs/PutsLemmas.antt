-- Lines that are put in two parts are put whole, and a put that fails in one of them stops there.
use Rattle.std.proofs.Common.{◌≡◌, ℕ, ◌+◌, ◌<◌, ◌≤◌, List, [], ◌∷◌, ◌++◌, length, take, drop, get_or, Option, Some, None, refl, sym, ◌∙◌, ap, subst, arith, add_assoc, append_assoc, append-nil, length-append}
use Rattle.std.proofs.Math.Seq.{take-append-add}
use Rattle.std.proofs.lemmas.Grind.{flat_map-append}
use Rattle.std.proofs.lemmas.List.{take-append-le, take-append-drop, take_more, take_all}
use Rattle.sched_io.specs.Faults.{Rose}
use Rattle.sched_io.specs.Puts.{StopsBehind, WritesAll, WritesPart, joined}
use Rattle.sched_io.specs.Shown.{Shown, WhereTold}
use Rattle.sched_io.specs.Written.{Adds, AddsPart, Grows}
use Rattle.sched_io.proofs.WrittenLemmas.{Adds-append, Adds-nil, AddsPart-append, AddsPart-front, Grows-append, Grows-nil}

joined-append : (a b : List (List ℕ)) → joined (a ++ b) ≡ joined a ++ joined b
joined-append a b = flat_map-append (λ line. line) a b

pub puts_none : (shown : Shown) → WritesAll [] shown shown
puts_none shown = record { bytes = Adds-nil shown.written; pieces = Grows-nil shown.offered; steady = refl }

-- what holds where something is told goes over to what follows from it
onward : {X : Type 0} → (told : Option X) (P Q : Type 0) → WhereTold told P → (P → Q) → WhereTold told Q
onward None P Q holds step = tt
onward (Some x) P Q holds step = step holds

module _ (a b : List (List ℕ)) (x y z : Shown) where
  pub puts_both : WritesAll a x y → WritesAll b y z → WritesAll (a ++ b) x z
  puts_both first second = record {
    bytes = subst (λ (w : List ℕ). Adds w x.written z.written) (sym (joined-append a b)) (Adds-append (joined a) (joined b) _ _ _ first.bytes second.bytes);
    pieces = Grows-append a b _ _ _ first.pieces second.pieces;
    steady = second.steady ∙ first.steady;
  }

  later : WritesAll a x y → (count : ℕ) × StopsBehind count b y z → (count : ℕ) × StopsBehind count (a ++ b) x z
  later first (count, stops) = (
    length a + count,
    record {
      inside = omega (arith, length-append a b, stops.inside);
      bytes = subst (λ (w : List (List ℕ)). Adds (joined w) x.written z.written) (sym (take-append-add a b count))
          (subst (λ (w : List ℕ). Adds w x.written z.written) (sym (joined-append a (take count b))) (Adds-append (joined a) (joined (take count b)) _ _ _ first.bytes stops.bytes));
      pieces = subst (λ (w : List (List ℕ)). Grows w x.offered z.offered) (sym (ap (λ (n : ℕ). take n (a ++ b)) (add_assoc (length a) count 1) ∙ take-append-add a b (count + 1))) (Grows-append a (take (count + 1) b) _ _ _ first.pieces stops.pieces);
    },
  )

  -- all of the first lines were put, and a put of the others failed
  pub stops_later : WritesAll a x y → WritesPart b y z → WritesPart (a ++ b) x z
  stops_later first second = record {
    bytes = subst (λ (w : List ℕ). AddsPart w x.written z.written) (sym (joined-append a b)) (AddsPart-append (joined a) (joined b) _ _ _ first.bytes second.bytes);
    stops = onward z.offered _ _ second.stops (later first);
    fault = subst (λ (n : ℕ). Rose n z.faults) first.steady second.fault;
  }

sooner : (a b : List (List ℕ)) (x z : Shown) → (count : ℕ) × StopsBehind count a x z → (count : ℕ) × StopsBehind count (a ++ b) x z
sooner a b x z (count, stops) = (
  count,
  record {
    inside = omega (arith, length-append a b, stops.inside);
    bytes = subst (λ (w : List (List ℕ)). Adds (joined w) x.written z.written) (sym (take-append-le count a b (omega (arith, stops.inside)))) stops.bytes;
    pieces = subst (λ (w : List (List ℕ)). Grows w x.offered z.offered) (sym (take-append-le (count + 1) a b (omega (arith, stops.inside)))) stops.pieces;
  },
)

-- a put of the first lines failed
pub stops_sooner : (a b : List (List ℕ)) (x z : Shown) → WritesPart a x z → WritesPart (a ++ b) x z
stops_sooner a b x z first = record {
  bytes = subst (λ (w : List ℕ). AddsPart w x.written z.written) (sym (joined-append a b)) (AddsPart-front (joined a) (joined b) _ _ first.bytes);
  stops = onward z.offered _ _ first.stops (sooner a b x z);
  fault = first.fault;
}

-- A loop that puts line after line.
module _ (lines : List (List ℕ)) (at : ℕ) (x y z : Shown) (inside : at < length lines) where
  pub puts_next : WritesAll (take at lines) x y → WritesAll (get_or lines at [] ∷ []) y z → WritesAll (take (at + 1) lines) x z
  puts_next first second = subst (λ (w : List (List ℕ)). WritesAll w x z) (sym (take_more lines at [] inside)) (puts_both (take at lines) (get_or lines at [] ∷ []) x y z first second)

  pub stops_here : WritesAll (take at lines) x y → WritesPart (get_or lines at [] ∷ []) y z → WritesPart lines x z
  stops_here first second =
      let parts = stops_sooner (take at lines ++ get_or lines at [] ∷ []) (drop (at + 1) lines) x z (stops_later (take at lines) (get_or lines at [] ∷ []) x y z first second) in
      subst (λ (w : List (List ℕ)). WritesPart w x z)
      (ap (λ (w : List (List ℕ)). w ++ drop (at + 1) lines) (sym (take_more lines at [] inside)) ∙ take-append-drop (at + 1) lines) parts

-- the loop has come to the end of the lines
pub puts_whole : (lines : List (List ℕ)) (at : ℕ) (x y : Shown) → length lines ≤ at → WritesAll (take at lines) x y → WritesAll lines x y
puts_whole lines at x y ended all = subst (λ (w : List (List ℕ)). WritesAll w x y) (take_all at lines ended) all
