-- Whether a text begins with the line of an entry. The numbers of an entry are bounded, so all entries can be tried.
use Rattle.std.proofs.Common.{◌≡◌, ◌⊎◌, inl, inr, ℕ, zero, suc, ◌+◌, ◌-◌, ◌<◌, ◌≤◌, ◌==◌, Bool, true, false, List, [], ◌∷◌, ◌++◌, All, length, ap, ap₂, subst, refl, arith}
use Rattle.std.proofs.lemmas.Bool.{cases_lt, eqb-true, eqb-false}
use Rattle.std.proofs.lemmas.List.Elements.{All-cons, All-head, All-nil, All-tail}
use Rattle.sched_base.specs.declared.limits.TheConstants.{MAX_CORES, MAX_ENTRIES, MAX_ROUNDS, MAX_STOLEN, MAX_THREADS}
use Rattle.round_model.specs.declared.entry.Did.{Did}
use Rattle.round_model.specs.declared.entry.Did.TheVariants as did
use Rattle.round_model.specs.declared.entry.Entry.{Entry}
use Rattle.round_model.specs.declared.entry.Entry.TheVariants as entry
use Rattle.sched_history.specs.declared.forms.LineForm.{LineForm}
use Rattle.sched_history.specs.declared.forms.LineForm.TheVariants as form
use Rattle.sched_history.specs.declared.forms.TheConstants.{FIRST_FORMAT_CORES}
use Rattle.sched_history.specs.Ranges.{AreOneEach, ArePlacementReads, AreReads, AreStolen, AreUpTo, IsCoreCount, IsCoreNumber, IsPositionFrom, IsPrintable, IsRoundNumber, IsThreadNumber, NamesThread, cores_in}
use Rattle.sched_history.specs.Spelling.{line_in}
use Rattle.history_reader.specs.Code.Numbers.{IsWithin}
use Rattle.history_reader.specs.Reading.{BeginsWith, BeginsWithNone}

-- it is so, or it isn't
abbrev pub Decided : Type 0 → Type 0
Decided P = P ⊎ (P → ⊥)

same_decision : (P Q : Type 0) → (P → Q) → (Q → P) → Decided P → Decided Q
same_decision P Q there back (inl is) = inl (there is)
same_decision P Q there back (inr none) = inr (λ is. none (back is))

either : (P Q : Type 0) → Decided P → Decided Q → Decided (P ⊎ Q)
either P Q (inl is) other = inl (inl is)
either P Q (inr none) (inl is) = inl (inr is)
either P Q (inr none) (inr neither) = inr by
  where
    by : P ⊎ Q → ⊥
    by (inl is) = none is
    by (inr is) = neither is

-- the text begins with that front
abbrev pub Begins : List ℕ → List ℕ → Type 0
Begins front text = (behind : List ℕ) × (text ≡ front ++ behind)

pub begins : (front text : List ℕ) → Decided (Begins front text)
begins [] text = inl (text, refl)
begins (x ∷ front) [] = inr (λ (behind, same). absurd (cc same))
begins (x ∷ front) (y ∷ text) = by (y == x) refl (begins front text)
  where
    by : (b : Bool) → (y == x) ≡ b → Decided (Begins front text) → Decided (Begins (x ∷ front) (y ∷ text))
    by true test (inl (behind, same)) = inl (behind, ap₂ (λ n ns. n ∷ ns) (eqb-true y x test) same)
    by true test (inr none) = inr (λ (behind, same). none (behind, cc same))
    by false test after = inr (λ (behind, same). eqb-false y x test (cc same))

-- of a number below the bound
below : (P : ℕ → Type 0) → ((n : ℕ) → Decided (P n)) → (bound : ℕ) → Decided ((n : ℕ) × (n < bound) × P n)
below P decide zero = inr (λ (n, lt, is). omega (arith, lt))
below P decide (suc bound) = by (decide bound) (below P decide bound)
  where
    by : Decided (P bound) → Decided ((n : ℕ) × (n < bound) × P n) → Decided ((n : ℕ) × (n < suc bound) × P n)
    by (inl is) before = inl (bound, omega arith, is)
    by (inr other) (inl (n, lt, is)) = inl (n, omega (arith, lt), is)
    by (inr other) (inr none) = inr (λ (n, lt, is). last n lt is (cases_lt n bound))
      where
        last : (n : ℕ) → n < suc bound → P n → (n < bound) ⊎ (bound ≤ n) → ⊥
        last n lt is (inl before) = none (n, before, is)
        last n lt is (inr behind) = other (subst P (omega (arith, lt, behind)) is)

-- of numbers below the bound, as many as may be
abbrev Several : (List ℕ → Type 0) → ℕ → ℕ → Type 0
Several P bound most = (xs : List ℕ) × (length xs ≤ most) × All (λ n. n < bound) xs × P xs

abbrev More : (List ℕ → Type 0) → ℕ → ℕ → Type 0
More P bound most = (n : ℕ) × (n < bound) × Several (λ xs. P (n ∷ xs)) bound most

one_more : (P : List ℕ → Type 0) (bound most : ℕ) → P [] ⊎ More P bound most → Several P bound (suc most)
one_more P bound most (inl is) = ([], omega arith, All-nil (λ n. n < bound), is)
one_more P bound most (inr (n, lt, (xs, few, fit, is))) =
    (n ∷ xs, omega (arith, few), All-cons (λ n. n < bound) n xs lt fit, is)

one_less : (P : List ℕ → Type 0) (bound most : ℕ) → Several P bound (suc most) → P [] ⊎ More P bound most
one_less P bound most ([], few, fit, is) = inl is
one_less P bound most (n ∷ xs, few, fit, is) =
    inr (n, All-head (λ n. n < bound) n xs fit, (xs, omega (arith, few), All-tail (λ n. n < bound) n xs fit, is))

several : (bound most : ℕ) (P : List ℕ → Type 0) → ((xs : List ℕ) → Decided (P xs)) → Decided (Several P bound most)
several bound zero P decide = same_decision (P []) (Several P bound 0)
    (λ is. ([], omega arith, All-nil (λ n. n < bound), is)) back (decide [])
  where
    back : Several P bound 0 → P []
    back ([], few, fit, is) = is
    back (x ∷ xs, few, fit, is) = absurd (omega (arith, few))
several bound (suc most) P decide =
    same_decision (P [] ⊎ More P bound most) (Several P bound (suc most)) (one_more P bound most)
    (one_less P bound most) (either (P []) (More P bound most) (decide [])
    (below (λ n. Several (λ xs. P (n ∷ xs)) bound most)
    (λ n. several bound most (λ xs. P (n ∷ xs)) (λ xs. decide (n ∷ xs))) bound))

-- a number in its range, and reads
from_one : (most : ℕ) (P : ℕ → Type 0) → ((n : ℕ) → Decided (P n)) → Decided ((n : ℕ) × IsWithin 1 most n × P n)
from_one most P decide =
    same_decision ((n : ℕ) × (n < most) × P (n + 1)) ((n : ℕ) × IsWithin 1 most n × P n)
    (λ (n, lt, is). (n + 1, (omega arith, omega (arith, lt)), is)) back
    (below (λ n. P (n + 1)) (λ n. decide (n + 1)) most)
  where
    back : (n : ℕ) × IsWithin 1 most n × P n → (n : ℕ) × (n < most) × P (n + 1)
    back (n, right, is) = (n - 1, omega (arith, right.0, right.1), subst P (omega (arith, right.0)) is)

round_with : (P : ℕ → Type 0) → ((n : ℕ) → Decided (P n)) → Decided ((n : ℕ) × IsRoundNumber n × P n)
round_with P decide = from_one MAX_ROUNDS P decide

thread_with : (P : ℕ → Type 0) → ((n : ℕ) → Decided (P n)) → Decided ((n : ℕ) × IsThreadNumber n × P n)
thread_with P decide = from_one MAX_THREADS P decide

core_with : (f : LineForm) (P : ℕ → Type 0) → ((n : ℕ) → Decided (P n)) → Decided ((n : ℕ) × IsCoreNumber f n × P n)
core_with f P decide = below P decide (cores_in f)

both : (P Q : Type 0) → Decided P → Decided Q → Decided (P × Q)
both P Q (inl is) (inl other) = inl (is, other)
both P Q (inl is) (inr none) = inr (λ x. none x.1)
both P Q (inr none) other = inr (λ x. none x.0)

not_greater : (a b : ℕ) → Decided (a ≤ b)
not_greater a b = by (cases_lt b a)
  where
    by : (b < a) ⊎ (a ≤ b) → Decided (a ≤ b)
    by (inl less) = inr (λ is. omega (arith, less, is))
    by (inr is) = inl is

equal : (a b : ℕ) → Decided (a ≡ b)
equal a b = by (a == b) refl
  where
    by : (t : Bool) → (a == b) ≡ t → Decided (a ≡ b)
    by true test = inl (eqb-true a b test)
    by false test = inr (eqb-false a b test)

each_of : (P : ℕ → Type 0) → ((n : ℕ) → Decided (P n)) → (xs : List ℕ) → Decided (All P xs)
each_of P decide [] = inl (All-nil P)
each_of P decide (x ∷ xs) =
    same_decision (P x × All P xs) (All P (x ∷ xs)) (λ each. All-cons P x xs each.0 each.1) (λ all. (All-head P x xs all, All-tail P x xs all))
    (both (P x) (All P xs) (decide x) (each_of P decide xs))

some_item : (xs : List ℕ) → Decided (0 < length xs)
some_item [] = inr (λ some. omega (arith, some))
some_item (x ∷ xs) = inl (omega arith)

no_item : (xs : List ℕ) → Decided (xs ≡ [])
no_item [] = inl refl
no_item (x ∷ xs) = inr (λ none. cc none)

-- reads, as many as there may be
lists_with : (Right : List ℕ → Type 0) → ((xs : List ℕ) → Decided (Right xs))
    → ((xs : List ℕ) → Right xs → (length xs ≤ MAX_CORES) × All (λ n. n < MAX_ENTRIES + 1) xs)
    → (P : List ℕ → Type 0) → ((xs : List ℕ) → Decided (P xs)) → Decided ((xs : List ℕ) × Right xs × P xs)
lists_with Right test bound P decide =
    same_decision (Several (λ xs. Right xs × P xs) (MAX_ENTRIES + 1) MAX_CORES) ((xs : List ℕ) × Right xs × P xs)
    (λ (xs, few, fit, (right, is)). (xs, right, is)) (λ (xs, right, is). (xs, (bound xs right).0, (bound xs right).1, (right, is)))
    (several (MAX_ENTRIES + 1) MAX_CORES (λ xs. Right xs × P xs) (λ xs. both (Right xs) (P xs) (test xs) (decide xs)))

pub is_core_count : (cores : ℕ) → Decided (IsCoreCount cores)
is_core_count cores = both (1 ≤ cores) (cores ≤ MAX_CORES) (not_greater 1 cores) (not_greater cores MAX_CORES)

are_positions : (start : ℕ) (xs : List ℕ) → Decided (All (IsPositionFrom start) xs)
are_positions start xs =
    each_of (IsPositionFrom start) (λ n. both (start ≤ n) (n ≤ MAX_ENTRIES) (not_greater start n) (not_greater n MAX_ENTRIES)) xs

are_small : (start : ℕ) (xs : List ℕ) → All (IsPositionFrom start) xs → All (λ n. n < MAX_ENTRIES + 1) xs
are_small start xs are = λ k d lt. (let high = (are k d lt).1 in omega (arith, high))

up_to : (most start : ℕ) (xs : List ℕ) → Decided (AreUpTo most start xs)
up_to most start xs =
    same_decision ((length xs ≤ most) × All (IsPositionFrom start) xs) (AreUpTo most start xs)
    (λ is. record { few = is.0; positions = is.1 }) (λ are. (are.few, are.positions))
    (both (length xs ≤ most) (All (IsPositionFrom start) xs) (not_greater (length xs) most) (are_positions start xs))

one_each : (cores start : ℕ) (xs : List ℕ) → Decided (AreOneEach cores start xs)
one_each cores start xs =
    same_decision (IsCoreCount cores × ((length xs ≡ cores) × All (IsPositionFrom start) xs)) (AreOneEach cores start xs)
    (λ is. record { count = is.0; one_each = is.1.0; positions = is.1.1 }) (λ are. (are.count, (are.one_each, are.positions)))
    (both (IsCoreCount cores) ((length xs ≡ cores) × All (IsPositionFrom start) xs) (is_core_count cores)
    (both (length xs ≡ cores) (All (IsPositionFrom start) xs) (equal (length xs) cores) (are_positions start xs)))

each_bound : (cores start : ℕ) (xs : List ℕ) → AreOneEach cores start xs → (length xs ≤ MAX_CORES) × All (λ n. n < MAX_ENTRIES + 1) xs
each_bound cores start xs are = (omega (arith, are.one_each, are.count.1), are_small start xs are.positions)

first_bound : (xs : List ℕ) → AreUpTo FIRST_FORMAT_CORES 0 xs → (length xs ≤ MAX_CORES) × All (λ n. n < MAX_ENTRIES + 1) xs
first_bound xs are = (omega (arith, are.few), are_small 0 xs are.positions)

reads_with : (f : LineForm) (P : List ℕ → Type 0) → ((xs : List ℕ) → Decided (P xs)) → Decided ((xs : List ℕ) × AreReads f xs × P xs)
reads_with form.First P decide = lists_with (AreUpTo FIRST_FORMAT_CORES 0) (up_to FIRST_FORMAT_CORES 0) first_bound P decide
reads_with (form.Second cores start) P decide = lists_with (AreOneEach cores start) (one_each cores start) (each_bound cores start) P decide

placement_with : (f : LineForm) (P : List ℕ → Type 0) → ((xs : List ℕ) → Decided (P xs)) → Decided ((xs : List ℕ) × ArePlacementReads f xs × P xs)
placement_with form.First P decide = lists_with (AreUpTo FIRST_FORMAT_CORES 0) (up_to FIRST_FORMAT_CORES 0) first_bound P decide
placement_with (form.Second cores start) P decide =
    lists_with (ArePlacementReads (form.Second cores start)) (λ xs. either (xs ≡ []) (AreOneEach cores start xs) (no_item xs) (one_each cores start xs)) bound P decide
  where
    bound : (xs : List ℕ) → ArePlacementReads (form.Second cores start) xs → (length xs ≤ MAX_CORES) × All (λ n. n < MAX_ENTRIES + 1) xs
    bound xs (inl none) = (omega (arith, ap length none), λ k d lt. absurd (omega (arith, ap length none, lt)))
    bound xs (inr are) = each_bound cores start xs are

is_thread_number : (n : ℕ) → Decided (IsThreadNumber n)
is_thread_number n = both (1 ≤ n) (n ≤ MAX_THREADS) (not_greater 1 n) (not_greater n MAX_THREADS)

-- threads that a steal may move
stolen_with : (P : List ℕ → Type 0) → ((xs : List ℕ) → Decided (P xs)) → Decided ((xs : List ℕ) × AreStolen xs × P xs)
stolen_with P decide =
    same_decision (Several Some_P (MAX_THREADS + 1) MAX_STOLEN) ((xs : List ℕ) × AreStolen xs × P xs) there back
    (several (MAX_THREADS + 1) MAX_STOLEN Some_P decided)
  where
    Fit : List ℕ → Type 0
    Fit xs = (0 < length xs) × All IsThreadNumber xs

    Some_P : List ℕ → Type 0
    Some_P xs = Fit xs × P xs

    decided : (xs : List ℕ) → Decided (Some_P xs)
    decided xs = both (Fit xs) (P xs) (both (0 < length xs) (All IsThreadNumber xs) (some_item xs) (each_of IsThreadNumber is_thread_number xs)) (decide xs)

    there : Several Some_P (MAX_THREADS + 1) MAX_STOLEN → (xs : List ℕ) × AreStolen xs × P xs
    there (xs, few, fit, is) = (xs, record { some = is.0.0; few = few; numbers = is.0.1 }, is.1)

    back : (xs : List ℕ) × AreStolen xs × P xs → Several Some_P (MAX_THREADS + 1) MAX_STOLEN
    back (xs, are, is) = (xs, are.few, (λ k d lt. (let one = are.numbers k d lt in omega (arith, one.1))), ((are.some, are.numbers), is))

-- what became of a thread
abbrev Words : (Did → Type 0) → ℕ → Type 0
Words P n = P (did.Kept n) ⊎ (P (did.Queued n) ⊎ (P (did.Blocked n) ⊎ P (did.Ended n)))

abbrev Fates : (Did → Type 0) → Type 0
Fates P = P did.Nothing ⊎ ((n : ℕ) × IsThreadNumber n × Words P n)

did_with : (P : Did → Type 0) → ((what : Did) → Decided (P what)) → Decided ((what : Did) × NamesThread what × P what)
did_with P decide =
    same_decision (Fates P) ((what : Did) × NamesThread what × P what) there (λ (what, named, is). back what named is)
    (either _ _ (decide did.Nothing) (thread_with (Words P) (λ n.
    either _ _ (decide (did.Kept n))
    (either _ _ (decide (did.Queued n))
    (either _ _ (decide (did.Blocked n)) (decide (did.Ended n)))))))
  where
    there : Fates P → (what : Did) × NamesThread what × P what
    there (inl is) = (did.Nothing, tt, is)
    there (inr (n, named, inl is)) = (did.Kept n, named, is)
    there (inr (n, named, inr (inl is))) = (did.Queued n, named, is)
    there (inr (n, named, inr (inr (inl is)))) = (did.Blocked n, named, is)
    there (inr (n, named, inr (inr (inr is)))) = (did.Ended n, named, is)

    back : (what : Did) → NamesThread what → P what → Fates P
    back did.Nothing named is = inl is
    back (did.Kept n) named is = inr (n, named, inl is)
    back (did.Queued n) named is = inr (n, named, inr (inl is))
    back (did.Blocked n) named is = inr (n, named, inr (inr (inl is)))
    back (did.Ended n) named is = inr (n, named, inr (inr (inr is)))

-- an entry of each kind
abbrev Rounds : (Entry → Type 0) → Type 0
Rounds P = (n : ℕ) × IsRoundNumber n × P (entry.Round n)

abbrev Twos : LineForm → (List ℕ → Type 0) → (ℕ → ℕ → List ℕ → Type 0) → Type 0
Twos f Right P = (b : ℕ) × IsCoreNumber f b × ((v : ℕ) × IsCoreNumber f v × ((r : List ℕ) × Right r × P b v r))

abbrev Threes : LineForm → (ℕ → ℕ → ℕ → List ℕ → Type 0) → Type 0
Threes f P = (t : ℕ) × IsThreadNumber t × Twos f (ArePlacementReads f) (P t)

abbrev Works : LineForm → (Entry → Type 0) → Type 0
Works f P = (b : ℕ) × IsCoreNumber f b × ((what : Did) × NamesThread what × P (entry.Work b what))

abbrev Passes : LineForm → (Entry → Type 0) → Type 0
Passes f P = (b : ℕ) × IsCoreNumber f b × ((r : List ℕ) × AreReads f r × P (entry.Pass b r))

twos : (f : LineForm) (P : ℕ → ℕ → List ℕ → Type 0) → ((b v : ℕ) (r : List ℕ) → Decided (P b v r)) → Decided (Twos f (AreReads f) P)
twos f P decide = core_with f _ (λ b. core_with f _ (λ v. reads_with f _ (λ r. decide b v r)))

threes : (f : LineForm) (P : ℕ → ℕ → ℕ → List ℕ → Type 0) → ((t b a : ℕ) (r : List ℕ) → Decided (P t b a r)) → Decided (Threes f P)
threes f P decide = thread_with _ (λ t. core_with f _ (λ b. core_with f _ (λ a. placement_with f _ (λ r. decide t b a r))))

abbrev Steals : LineForm → (Entry → Type 0) → Type 0
Steals f P = (ts : List ℕ) × AreStolen ts × Twos f (AreReads f) (λ b v r. P (entry.Steal b v ts r))

abbrev Kinds : LineForm → (Entry → Type 0) → Type 0
Kinds f P =
    Rounds P ⊎ (Threes f (λ t b a r. P (entry.Enter t b a r)) ⊎ (Threes f (λ t b a r. P (entry.Wake t b a r)) ⊎ (Works f P ⊎
    (Steals f P ⊎ (Twos f (AreReads f) (λ b v r. P (entry.Fail b v r)) ⊎ Passes f P)))))

entry_with : (f : LineForm) (P : Entry → Type 0) → ((e : Entry) → Decided (P e)) → Decided ((e : Entry) × IsPrintable f e × P e)
entry_with f P decide =
    same_decision (Kinds f P) ((e : Entry) × IsPrintable f e × P e) there (λ (e, printable, is). back e printable is)
    (either _ _ (round_with _ (λ n. decide (entry.Round n)))
    (either _ _ (threes f _ (λ t b a r. decide (entry.Enter t b a r)))
    (either _ _ (threes f _ (λ t b a r. decide (entry.Wake t b a r)))
    (either _ _ (core_with f _ (λ b. did_with _ (λ what. decide (entry.Work b what))))
    (either _ _ (stolen_with _ (λ ts. twos f _ (λ b v r. decide (entry.Steal b v ts r))))
    (either _ _ (twos f _ (λ b v r. decide (entry.Fail b v r)))
    (core_with f _ (λ b. reads_with f _ (λ r. decide (entry.Pass b r))))))))))
  where
    there : Kinds f P → (e : Entry) × IsPrintable f e × P e
    there (inl (n, right, is)) = (entry.Round n, right, is)
    there (inr (inl (t, thread, (b, by, (a, at, (r, are, is)))))) = (entry.Enter t b a r, (thread, by, at, are), is)
    there (inr (inr (inl (t, thread, (b, by, (a, at, (r, are, is))))))) =
        (entry.Wake t b a r, (thread, by, at, are), is)
    there (inr (inr (inr (inl (b, by, (what, named, is)))))) = (entry.Work b what, (by, named), is)
    there (inr (inr (inr (inr (inl (ts, threads, (b, by, (v, from, (r, are, is))))))))) =
        (entry.Steal b v ts r, (by, from, threads, are), is)
    there (inr (inr (inr (inr (inr (inl (b, by, (v, from, (r, are, is))))))))) = (entry.Fail b v r, (by, from, are), is)
    there (inr (inr (inr (inr (inr (inr (b, by, (r, are, is)))))))) = (entry.Pass b r, (by, are), is)

    back : (e : Entry) → IsPrintable f e → P e → Kinds f P
    back (entry.Round n) right is = inl (n, right, is)
    back (entry.Enter t b a r) (thread, by, at, are) is = inr (inl (t, thread, (b, by, (a, at, (r, are, is)))))
    back (entry.Wake t b a r) (thread, by, at, are) is = inr (inr (inl (t, thread, (b, by, (a, at, (r, are, is))))))
    back (entry.Work b what) (by, named) is = inr (inr (inr (inl (b, by, (what, named, is)))))
    back (entry.Steal b v ts r) (by, from, threads, are) is =
        inr (inr (inr (inr (inl (ts, threads, (b, by, (v, from, (r, are, is))))))))
    back (entry.Fail b v r) (by, from, are) is = inr (inr (inr (inr (inr (inl (b, by, (v, from, (r, are, is))))))))
    back (entry.Pass b r) (by, are) is = inr (inr (inr (inr (inr (inr (b, by, (r, are, is)))))))

-- the text begins with the line of an entry, or with that of none
pub first_line : (f : LineForm) (text : List ℕ) → ((e : Entry) × (behind : List ℕ) × BeginsWith f text e behind) ⊎ BeginsWithNone f text
first_line f text = by (entry_with f (λ e. Begins (line_in f e) text) (λ e. begins (line_in f e) text))
  where
    by : Decided ((e : Entry) × IsPrintable f e × Begins (line_in f e) text) →
        ((e : Entry) × (behind : List ℕ) × BeginsWith f text e behind) ⊎ BeginsWithNone f text
    by (inl (e, printable, (behind, same))) = inl (e, behind, (printable, same))
    by (inr none) = inr (λ e behind is. none (e, is.0, (behind, is.1)))
