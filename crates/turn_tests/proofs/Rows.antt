-- What a core in memory has read: its notes are true, no later than a look just now, and grow with each entry.
use Rattle.std.proofs.Common.{◌≡◌, ℕ, zero, suc, ◌+◌, ◌-◌, ◌<◌, ◌≤◌, max, true, false, cond, List, [], ◌∷◌, ◌++◌, length, map, take, slice_index, refl, sym, ap, ap₂, ◌∙◌, subst, arith, take_all, length-take}
use Rattle.std.specs.List.{range_with_len}
use Rattle.std.proofs.lemmas.List.{append-nil, length-append}
use Rattle.std.proofs.lemmas.List.FromFn.{get_or-map-range_with_len, length-map-range_with_len}
use mathlib.Core.Option.{some, some-ne-none, some-injective}
use lib.ListN.{get_elem?}
use Rattle.policy_tree.specs.Meaning.{Meaning}
use Rattle.round_model.specs.declared.entry.Entry.{Entry}
use Rattle.round_model.specs.declared.plan.Plan.{Plan}
use Rattle.round_model.specs.After.{after}
use Rattle.round_model.specs.Cores.{core_numbers, seen_of}
use Rattle.round_model.specs.Entries.{touches}
use Rattle.round_model.specs.FreshReads.{touched_from}
use Rattle.round_model.specs.Kinds.{is_round}
use Rattle.round_model.specs.Reads.{round_start, value_read}
use Rattle.round_model.proofs.Longer.{start_stays, start_within}
use Rattle.round_model.proofs.Touched.{touched_within}
use Rattle.round_judge.specs.declared.past.Past.{Past}
use Rattle.round_judge.specs.Readable.{ReadIn}
use Rattle.round_judge.specs.Past.{StandsFor}
use Rattle.core_table.specs.declared.views.Note.{Note}
use Rattle.core_table.specs.Told.{Each, IsTrueNote}
use Rattle.core_table.specs.Views.{noted}
use Rattle.core_table.proofs.Histories.{early, longer}
use Rattle.turn_tests.specs.Memory.{fresh_at, fresh_of, note_at, notes_of, row_at, rows_to}

-- Items of a row by place.
map_item : (f : ℕ → Note) (from n i : ℕ) (x : Note) → get_elem? (map f (range_with_len from n)) i ≡ some x → (c : ℕ) × (c < from + n) × (x ≡ f c)
map_item f from zero i x is = absurd (some-ne-none x (sym is))
map_item f from (suc n) zero x is = (from, omega arith, sym (some-injective (f from) x is))
map_item f from (suc n) (suc i) x is = let r = map_item f (from + 1) n i x is in let low = r.1 in (r.0, omega arith, r.2)

map_at : (f : ℕ → Note) (from n c : ℕ) → c < n → get_elem? (map f (range_with_len from n)) c ≡ some (f (from + c))
map_at f from zero c low = absurd (omega arith)
map_at f from (suc n) zero low = ap (λ k. some (f k)) (omega arith)
map_at f from (suc n) (suc c) low = map_at f (from + 1) n c (omega arith) ∙ ap (λ k. some (f k)) (omega arith)

each_append : (P : Note → Type 0) (xs ys : List Note) → Each P xs → Each P ys → Each P (xs ++ ys)
each_append P [] ys first second i x is = second i x is
each_append P (y ∷ xs) ys first second zero x is = first zero x is
each_append P (y ∷ xs) ys first second (suc i) x is = each_append P xs ys (λ j z at. first (suc j) z at) second i x is

still_there : (xs ys : List Note) (i : ℕ) (x : Note) → get_elem? xs i ≡ some x → get_elem? (xs ++ ys) i ≡ some x
still_there [] ys i x is = absurd (some-ne-none x (sym is))
still_there (y ∷ xs) ys zero x is = is
still_there (y ∷ xs) ys (suc i) x is = still_there xs ys i x is

-- The last entry that touches a core, among the first of these entries.
touched_up : (c k last : ℕ) (es : List Entry) → last ≤ k → last ≤ touched_from c k last es
touched_up c k last [] low = omega arith
touched_up c k last (e ∷ es) low = elim (touches c e) as (λ b. last ≤ touched_from c (suc k) (cond b (suc k) last) es) [
  | true ↦ let rest = touched_up c (suc k) (suc k) es (omega arith) in omega arith
  | false ↦ touched_up c (suc k) last es (omega arith)
]

touched_take : (c k last q : ℕ) (es : List Entry) → last ≤ k → touched_from c k last (take q es) ≤ touched_from c k last es
touched_take c k last zero es low = touched_up c k last es low
touched_take c k last (suc q) [] low = omega arith
touched_take c k last (suc q) (e ∷ es) low = elim (touches c e) as (λ b. touched_from c (suc k) (cond b (suc k) last) (take q es) ≤ touched_from c (suc k) (cond b (suc k) last) es) [
  | true ↦ touched_take c (suc k) (suc k) q es (omega arith)
  | false ↦ touched_take c (suc k) last q es (omega arith)
]

-- what is read just now
pub fresh_is : (plan : Plan) (h : List Entry) (c : ℕ) → c < plan.cores → slice_index (fresh_of plan h) c ≡ max (round_start h) (touched_from c 0 0 h)
fresh_is plan h c there = get_or-map-range_with_len (λ (k : ℕ). max (round_start h) (touched_from k 0 0 h)) 0 plan.cores c c 0 there (omega arith)

pub fresh_each : (plan : Plan) (h : List Entry) → length (fresh_of plan h) ≡ plan.cores
fresh_each plan h = length-map-range_with_len (λ (k : ℕ). max (round_start h) (touched_from k 0 0 h)) 0 plan.cores

-- it lies in the rows of what is kept
pub fresh_read : (p : Meaning) (plan : Plan) (past : Past) (h : List Entry) → StandsFor p plan past h → ReadIn plan past (fresh_of plan h)
fresh_read p plan past h stands = let window = stands.rows.window in record {
  one_each = fresh_each plan h;
  from_start = λ c there. omega (arith, fresh_is plan h c there, stands.entries);
  to_now = λ c there. let touched = touched_within c 0 0 h (omega arith) in let start = start_within h in omega (arith, fresh_is plan h c there, stands.entries);
}

module _ (p : Meaning) (plan : Plan) (h : List Entry) where
  start : ℕ
  start = round_start h

  row_each : (P : Note → Type 0) (k : ℕ) → ((c : ℕ) → c < plan.cores → P (note_at p plan h k c)) → Each P (row_at p plan h k)
  row_each P k each i x is = let r = map_item (note_at p plan h k) 0 plan.cores i x is in let low = r.1 in subst P (sym r.2) (each r.0 (omega arith))

  rows_each : (P : Note → Type 0) (n : ℕ) → ((k c : ℕ) → round_start h ≤ k → k ≤ round_start h + n → c < plan.cores → P (note_at p plan h k c)) → Each P (rows_to p plan h n)
  rows_each P zero each = row_each P (round_start h) (λ c there. each (round_start h) c (omega arith) (omega arith) there)
  rows_each P (suc n) each = each_append P (row_at p plan h (round_start h + suc n)) (rows_to p plan h n)
      (row_each P (round_start h + suc n) (λ c there. each (round_start h + suc n) c (omega arith) (omega arith) there))
      (rows_each P n (λ k c low high there. each k c low (omega arith) there))

  notes_each : (P : Note → Type 0) → ((k c : ℕ) → round_start h ≤ k → k ≤ length h → c < plan.cores → P (note_at p plan h k c)) → Each P (notes_of p plan h)
  notes_each P each = let within = start_within h in rows_each P (length h - round_start h) (λ k c low high there. each k c low (omega arith) there)

  touched_few : (k c : ℕ) → k ≤ length h → touched_from c 0 0 (take k h) ≤ k
  touched_few k c low = let within = touched_within c 0 0 (take k h) (omega arith) in let count = length-take k h in omega arith

  pub fresh_within : (k c : ℕ) → round_start h ≤ k → k ≤ length h → fresh_at h k c ≤ k
  fresh_within k c low high = let few = touched_few k c high in omega arith

  -- each note says what is to be seen
  pub notes_true : Each (IsTrueNote p plan h) (notes_of p plan h)
  notes_true = notes_each (IsTrueNote p plan h) (λ k c low high there. let within = fresh_within k c low high in record {
    core = there;
    in_round = omega arith;
    within = omega arith;
    seen = refl;
  })

  -- and stands no later than a read just now
  pub notes_late : Each (λ x. x.core < length (fresh_of plan h) → x.at ≤ slice_index (fresh_of plan h) x.core) (notes_of p plan h)
  notes_late = notes_each (λ x. x.core < length (fresh_of plan h) → x.at ≤ slice_index (fresh_of plan h) x.core)
      (λ k c low high there inside. let early = touched_take c 0 0 k h (omega arith) in let now = fresh_is plan h c there in omega arith)

  -- the newest row stands in front
  newest : (n : ℕ) → (more : List Note) × (rows_to p plan h n ≡ row_at p plan h (round_start h + n) ++ more)
  newest zero = ([], sym (append-nil (row_at p plan h (round_start h + 0)) ∙ ap (row_at p plan h) (omega arith)))
  newest (suc n) = (rows_to p plan h n, refl)

  -- so the reads just now are noted
  pub fresh_noted : (c : ℕ) → c < plan.cores → get_elem? (notes_of p plan h) c ≡ some (noted c (slice_index (fresh_of plan h) c) (value_read p plan h c (slice_index (fresh_of plan h) c)))
  fresh_noted c there =
      let n : ℕ = length h - round_start h in let k : ℕ = round_start h + n in let within = start_within h in let last : k ≡ length h = omega arith in
      let row = newest n in let all : take k h ≡ h = take_all k h (omega arith) in
      let at : fresh_at h k c ≡ slice_index (fresh_of plan h) c = ap (λ g. max (round_start h) (touched_from c 0 0 g)) all ∙ sym (fresh_is plan h c there) in
      ap (λ l. get_elem? l c) row.1
      ∙ (still_there (row_at p plan h k) row.0 c (note_at p plan h k c) (map_at (note_at p plan h k) 0 plan.cores c there ∙ ap (λ j. some (note_at p plan h k j)) (omega arith))
      ∙ ap (λ q. some (noted c q (value_read p plan h c q))) at)

  -- One entry more of some core.
  module _ (e : Entry) (inner : is_round e ≡ false) where
    note_same : (k : ℕ) → round_start h ≤ k → k ≤ length h → (c : ℕ) → note_at p plan (h ++ e ∷ []) k c ≡ note_at p plan h k c
    note_same k low high c =
        let at : fresh_at (h ++ e ∷ []) k c ≡ fresh_at h k c = ap₂ (λ s g. max s (touched_from c 0 0 g)) (start_stays h e inner) (early h e k high) in let within = fresh_within k c low high in
        ap (λ q. noted c q (value_read p plan (h ++ e ∷ []) c q)) at
        ∙ ap (λ g. noted c (fresh_at h k c) (seen_of (after p plan g c))) (early h e (fresh_at h k c) (omega arith))

    row_same : (k : ℕ) → round_start h ≤ k → k ≤ length h → row_at p plan (h ++ e ∷ []) k ≡ row_at p plan h k
    row_same k low high = ap (λ (f : ℕ → Note). map f (core_numbers plan)) (λ i c. note_same k low high c i)

    rows_same : (n : ℕ) → round_start h + n ≤ length h → rows_to p plan (h ++ e ∷ []) n ≡ rows_to p plan h n
    rows_same zero high = ap (row_at p plan (h ++ e ∷ [])) (start_stays h e inner) ∙ row_same (round_start h) (omega arith) (omega arith)
    rows_same (suc n) high = ap₂ (λ xs ys. xs ++ ys)
        (ap (λ s. row_at p plan (h ++ e ∷ []) (s + suc n)) (start_stays h e inner) ∙ row_same (round_start h + suc n) (omega arith) high)
        (rows_same n (omega arith))

    pub notes_grow : (more : List Note) × (notes_of p plan (h ++ e ∷ []) ≡ more ++ notes_of p plan h)
    notes_grow =
        let n : ℕ = length h - round_start h in let g : List Entry = h ++ e ∷ [] in let within = start_within h in let long = longer h e in let same = start_stays h e inner in
        let count : length g - round_start g ≡ suc n = omega arith in
        (row_at p plan g (round_start g + suc n), ap (rows_to p plan g) count ∙ ap (λ l. row_at p plan g (round_start g + suc n) ++ l) (rows_same n (omega arith)))

    -- a note of each core comes
    pub row_count : length (notes_of p plan (h ++ e ∷ [])) ≡ plan.cores + length (notes_of p plan h)
    row_count =
        let n : ℕ = length h - round_start h in let g : List Entry = h ++ e ∷ [] in let within = start_within h in let long = longer h e in let same = start_stays h e inner in
        let count : length g - round_start g ≡ suc n = omega arith in
        let row : List Note = row_at p plan g (round_start g + suc n) in
        let each : length row ≡ plan.cores = length-map-range_with_len (note_at p plan g (round_start g + suc n)) 0 plan.cores in
        ap (λ (k : ℕ). length (rows_to p plan g k)) count
        ∙ (ap (λ (l : List Note). length (row ++ l)) (rows_same n (omega arith))
        ∙ (length-append row (notes_of p plan h) ∙ ap (λ (k : ℕ). k + length (notes_of p plan h)) each))
