-- What a sink over a buffer tells is what the writer behind it tells in the end.
use Rattle.std.proofs.Common.{◌≡◌, ℕ, List, [], ◌++◌, Option, Some, None, sym, ap, subst, ◌∙◌, refl}
use Rattle.std.proofs.lemmas.List.{append-nil}
use Rattle.std.specs.Io.KnownBytes.{Keeps, append_known}
use Rattle.sched_io.specs.Shown.{Shown}
use Rattle.ipanema.specs.Arguments.{shown_by}

abbrev some_of : List ℕ → Option (List ℕ)
some_of bytes = Some bytes

-- what is kept is the same, where what isn't told stays so
same_kept : (middle last : Option (List ℕ)) → Keeps middle last → (middle ≡ None → last ≡ None) → middle ≡ last
same_kept None last keeps untold = sym (untold refl)
same_kept (Some bytes) None keeps untold = absurd keeps
same_kept (Some bytes) (Some more) keeps untold = ap some_of (sym keeps)

pub nothing_behind : (known : Option (List ℕ)) (bytes : List ℕ) → bytes ≡ [] → append_known known bytes ≡ known
nothing_behind None bytes empty = refl
nothing_behind (Some front) bytes empty = ap (λ (b : List ℕ). some_of (front ++ b)) empty ∙ ap some_of (append-nil front)

pub untold_before : (known : Option (List ℕ)) (bytes : List ℕ) → append_known known bytes ≡ None → known ≡ None
untold_before None bytes none = refl
untold_before (Some front) bytes none = absurd (let clash : ⊥ = cc none in clash)

shown_alike : (s : Shown) → s.offered ≡ None → s ≡ shown_by s.written s.faults
shown_alike s offered =
    ap (λ (o : Option (List (List ℕ))). (let told : Shown = record { written = s.written; offered = o; faults = s.faults } in told)) offered

-- what holds of the sink before and after holds of the writer
pub whole : (P : Shown → Shown → Type 0) (first last middle : Option (List ℕ)) (before after : Shown) → P before after
    → before.faults ≡ 0 → before.offered ≡ None → after.offered ≡ None → before.written ≡ first → after.written ≡ middle
    → Keeps middle last → (middle ≡ None → last ≡ None) → P (shown_by first 0) (shown_by last after.faults)
whole P first last middle before after holds none few more begun done keeps untold =
    let one : before ≡ shown_by first 0 = shown_alike before few ∙ (ap (λ (b : Option (List ℕ)). shown_by b before.faults) begun ∙ ap (shown_by first) none) in
    let two : after ≡ shown_by last after.faults = shown_alike after more ∙ ap (λ (b : Option (List ℕ)). shown_by b after.faults) (done ∙ same_kept middle last keeps untold) in
    subst (P (shown_by first 0)) two (subst (λ (b : Shown). P b after) one holds)
