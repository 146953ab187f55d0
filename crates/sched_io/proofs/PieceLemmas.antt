-- A first put and the puts of what it left make a whole piece, or stop.
use Rattle.std.proofs.Common.{◌≡◌, ◌≢◌, ℕ, List, [], ◌∷◌, ◌++◌, length, take, drop, Option, Some, None, Ok, Err, refl, sym, ◌∙◌, ap, subst, append-nil}
use Rattle.std.proofs.lemmas.List.{take-append-drop}
use Rattle.std.proofs.Math.Seq.{drop-length}
use Rattle.std.specs.Prelude.{OnErr, OnOk, Result}
use Rattle.sched_io.specs.Faults.{Rose}
use Rattle.sched_io.specs.Puts.{Puts, StopsBehind, WritesAll, WritesPart}
use Rattle.sched_io.specs.Shown.{Shown, Takes, WhereTold}
use Rattle.sched_io.specs.Written.{Adds, AddsPart, Grows}
use Rattle.sched_io.proofs.WrittenLemmas.{Adds-append, AddsPart-append}

-- nothing is no more than its end
pub nothing_behind : (front left : List ℕ) → [] ≡ front ++ left → left ≡ []
nothing_behind [] left is = sym is
nothing_behind (x ∷ front) left is = absurd (cc)

-- what tells nothing allows everything of what is told
pub untold : {X : Type 0} → (told : Option X) (P : Type 0) → told ≡ None → WhereTold told P
untold None P is = tt
untold (Some x) P is = absurd (cc)

module _ (piece rest : List ℕ) (count : ℕ) (before between after : Shown) (takes : Takes piece count before between) (left : rest ≡ drop count piece)
    (silent : between.offered ≡ None → after.offered ≡ None) (idle : rest ≡ [] → after.offered ≡ between.offered) where
  split : piece ++ [] ≡ take count piece ++ rest
  split = append-nil piece ∙ sym (take-append-drop count piece) ∙ ap (λ (x : List ℕ). take count piece ++ x) (sym left)

  -- a sink that tells its pieces has taken the whole
  none_left : count ≡ length piece → rest ≡ []
  none_left is = left ∙ ap (λ (n : ℕ). drop n piece) is ∙ drop-length piece

  one_piece : (told : Option (List (List ℕ))) → between.offered ≡ told → WhereTold told (count ≡ length piece) → Grows (piece ∷ []) before.offered after.offered
  one_piece None is whole = subst (λ (x : Option (List (List ℕ))). Grows (piece ∷ []) before.offered x) (sym (silent is)) tt
  one_piece (Some pieces) is whole = subst (λ (x : Option (List (List ℕ))). Grows (piece ∷ []) before.offered x) (sym (idle (none_left whole))) takes.pieces

  no_stop : (told : Option (List (List ℕ))) → between.offered ≡ told → WhereTold told (count ≡ length piece) → rest ≢ [] → WhereTold after.offered ((k : ℕ) × StopsBehind k (piece ∷ []) before after)
  no_stop None is whole some = untold after.offered _ (silent is)
  no_stop (Some pieces) is whole some = absurd (some (none_left whole))

  pub wrote_all : Adds rest between.written after.written → after.faults ≡ between.faults → WritesAll (piece ∷ []) before after
  wrote_all added steady = record {
    bytes = subst (λ (x : List ℕ). Adds x before.written after.written) (sym split) (Adds-append (take count piece) rest _ _ _ takes.bytes added);
    pieces = one_piece between.offered refl takes.whole;
    steady = steady ∙ takes.steady;
  }

  pub wrote_part : AddsPart rest between.written after.written → Rose between.faults after.faults → rest ≢ [] → WritesPart (piece ∷ []) before after
  wrote_part added rose some = record {
    bytes = subst (λ (x : List ℕ). AddsPart x before.written after.written) (sym split) (AddsPart-append (take count piece) rest _ _ _ takes.bytes added);
    stops = no_stop between.offered refl takes.whole some;
    fault = subst (λ (n : ℕ). Rose n after.faults) takes.steady rose;
  }

  pub puts_piece : {T E : Type 0} → (result : Result T E) → OnOk result (Adds rest between.written after.written) → OnOk result (after.faults ≡ between.faults)
      → OnErr result (AddsPart rest between.written after.written) → OnErr result (Rose between.faults after.faults) → OnErr result (rest ≢ [])
      → Puts (piece ∷ []) result before after
  puts_piece (Ok done) added steady part rose some = wrote_all added steady
  puts_piece (Err fault) added steady part rose some = wrote_part part rose some
