-- Reads one behind another, as they are read: distances from the start of their round.
use Rattle.std.proofs.Common.{◌≡◌, ◌≢◌, ℕ, decimal, ◌+◌, ◌-◌, ◌<◌, ◌≤◌, ◌^◌, List, [], ◌∷◌, ◌++◌, All, length, append_assoc, length-append, ap, ap₂, sym, ◌∙◌, refl, arith}
use Rattle.std.proofs.lemmas.List.{flat_map_more}
use Rattle.std.proofs.lemmas.List.Elements.{All-append, All-cons, All-head, All-nil, All-push, All-tail}
use Rattle.sched_base.specs.declared.limits.TheConstants.{MAX_ENTRIES}
use Rattle.sched_history.specs.Ranges.{AreUpTo, IsPositionFrom}
use Rattle.sched_history.specs.Spelling.{distances, spaced, spaced_number}
use Rattle.sched_history.proofs.Distances.{length-distances}
use Rattle.text_forms.specs.Cuts.{Lacks, StartsWith}
use Rattle.history_reader.specs.Code.Numbers.{BeginsWithNoNumber, BeginsWithNumber, IsWithin}
use Rattle.history_reader.proofs.Digits.{decimal_lacks}
use Rattle.history_reader.proofs.Parts.{same_number}

pub starts_spaced : (numbers : List ℕ) → StartsWith 32 (spaced numbers)
unfolding spaced
starts_spaced [] = tt
starts_spaced (number ∷ rest) = refl

pub spaced-nil : spaced [] ≡ []
unfolding spaced
spaced-nil = refl

pub spaced-cons : (number : ℕ) (rest : List ℕ) → spaced (number ∷ rest) ≡ spaced_number number ++ spaced rest
unfolding spaced
spaced-cons number rest = refl

pub number_lacks : (byte number : ℕ) → byte < 32 → number < 2 ^ 64 → Lacks byte (spaced_number number)
number_lacks byte number below small = All-cons (λ other. other ≢ byte) 32 (decimal number)
    (λ same. omega (arith, same)) (decimal_lacks byte number (omega arith) small)

-- the distance of a position
pub distances_push : (start : ℕ) (reads : List ℕ) (distance : ℕ) →
    distances start (reads ++ (start + distance) ∷ []) ≡ distances start reads ++ distance ∷ []
unfolding distances
distances_push start [] distance = ap (λ n. n ∷ []) (omega arith)
distances_push start (read ∷ reads) distance = ap (λ ns. (read - start) ∷ ns) (distances_push start reads distance)

pub distances_within : (start : ℕ) (reads : List ℕ) → All (IsPositionFrom start) reads →
    All (IsWithin 0 (MAX_ENTRIES - start)) (distances start reads)
unfolding distances
distances_within start [] are = All-nil _
distances_within start (read ∷ reads) are =
    let (low, high) = All-head (IsPositionFrom start) read reads are in
    All-cons (IsWithin 0 (MAX_ENTRIES - start)) (read - start) (distances start reads) (omega arith, omega (arith, low, high))
    (distances_within start reads (All-tail (IsPositionFrom start) read reads are))

same_distances : (start : ℕ) (one two : List ℕ) → All (IsPositionFrom start) one → All (IsPositionFrom start) two →
    distances start one ≡ distances start two → one ≡ two
unfolding distances
same_distances start [] [] are_one are_two same = refl
same_distances start [] (y ∷ two) are_one are_two same = absurd (cc same)
same_distances start (x ∷ one) [] are_one are_two same = absurd (cc same)
same_distances start (x ∷ one) (y ∷ two) are_one are_two same =
    let low_x = (All-head (IsPositionFrom start) x one are_one).0 in
    let low_y = (All-head (IsPositionFrom start) y two are_two).0 in
    let first : x - start ≡ y - start = cc same in
    let rest : distances start one ≡ distances start two = cc same in
    ap₂ (λ n ns. n ∷ ns) (omega (arith, first, low_x, low_y)) (same_distances start one two (All-tail (IsPositionFrom start) x one are_one)
    (All-tail (IsPositionFrom start) y two are_two) rest)

small_within : (top number : ℕ) → top ≤ MAX_ENTRIES → IsWithin 0 top number → number < 2 ^ 64
small_within top number few is = let high = is.1 in omega (arith, high, few)

-- numbers that are at most MAX_ENTRIES
module _ (top : ℕ) (few : top ≤ MAX_ENTRIES) where
  pub spaced_lacks : (byte : ℕ) (numbers : List ℕ) → byte < 32 → All (IsWithin 0 top) numbers → Lacks byte (spaced numbers)
  unfolding spaced
  spaced_lacks byte [] below are = All-nil _
  spaced_lacks byte (number ∷ rest) below are =
      let first = number_lacks byte number below (small_within top number few (All-head (IsWithin 0 top) number rest are)) in
      All-append (λ other. other ≢ byte) (spaced_number number) (spaced rest) first
      (spaced_lacks byte rest below (All-tail (IsWithin 0 top) number rest are))

  -- a text is that of one list of such numbers
  pub same_spaced : (one two : List ℕ) → All (IsWithin 0 top) one → All (IsWithin 0 top) two → spaced one ≡ spaced two → one ≡ two
  unfolding spaced
  same_spaced [] [] are_one are_two same = refl
  same_spaced [] (y ∷ two) are_one are_two same = absurd (omega (arith, ap length same))
  same_spaced (x ∷ one) [] are_one are_two same = absurd (omega (arith, ap length same))
  same_spaced (x ∷ one) (y ∷ two) are_one are_two same =
      let small_x = small_within top x few (All-head (IsWithin 0 top) x one are_one) in
      let small_y = small_within top y few (All-head (IsWithin 0 top) y two are_two) in
      let parts = same_number x y (spaced one) (spaced two) small_x small_y (starts_spaced one) (starts_spaced two)
      same in
      ap₂ (λ n ns. n ∷ ns) parts.0 (same_spaced one two (All-tail (IsWithin 0 top) x one are_one)
      (All-tail (IsWithin 0 top) y two are_two) parts.1)

-- a text is that of the distances of one list of positions
pub same_positions : (start : ℕ) (one two : List ℕ) → All (IsPositionFrom start) one → All (IsPositionFrom start) two →
    spaced (distances start one) ≡ spaced (distances start two) → one ≡ two
same_positions start one two are_one are_two same =
    same_distances start one two are_one are_two
    (same_spaced (MAX_ENTRIES - start) (omega arith) (distances start one) (distances start two) (distances_within start one are_one)
    (distances_within start two are_two) same)

-- if the text is that of as many numbers as there may be, then these were read, and the rest is that of the others
abbrev pub Left : ℕ → ℕ → List ℕ → List ℕ → List ℕ → Type 0
Left top most text read rest = (all : List ℕ) → length all ≤ most → All (IsWithin 0 top) all → text ≡ spaced all →
    (more : List ℕ) × (all ≡ read ++ more) × (rest ≡ spaced more) × All (IsWithin 0 top) more

-- what has been read of a text, and the rest
pub record Reads (most start : ℕ) (text reads rest : List ℕ) : Type 0 where
  pub are : AreUpTo most start reads
  pub text_is : text ≡ spaced (distances start reads) ++ rest
  pub left : Left (MAX_ENTRIES - start) most text (distances start reads) rest

module _ (most start : ℕ) where
  abbrev Distance : ℕ → Type 0
  Distance number = IsWithin 0 (MAX_ENTRIES - start) number

  -- before anything was read
  pub none_read : (text : List ℕ) → Reads most start text [] text
  unfolding spaced distances
  none_read text = record {
    are = record { few = omega arith; positions = All-nil (IsPositionFrom start) };
    text_is = refl;
    left = λ all few are is. (all, refl, is, are);
  }

  pub shorter : (rest behind : List ℕ) (number : ℕ) → BeginsWithNumber Distance rest number behind →
      length behind < length rest
  shorter rest behind number begins =
      omega (arith, ap length begins.text_is, length-append (spaced_number number) behind)

  left_behind : (text read rest behind : List ℕ) (number : ℕ) → BeginsWithNumber Distance rest number behind →
      Left (MAX_ENTRIES - start) most text read rest → Left (MAX_ENTRIES - start) most text (read ++ number ∷ []) behind
  left_behind text read rest behind number begins left all few are is = by (left all few are is)
    where
      by : (more : List ℕ) × (all ≡ read ++ more) × (rest ≡ spaced more) × All Distance more →
          (more : List ℕ) × (all ≡ (read ++ number ∷ []) ++ more) × (behind ≡ spaced more) × All Distance more
      by ([], whole, rest_is, fit) =
          absurd (omega (arith, ap length (rest_is ∙ spaced-nil), shorter rest behind number begins))
      by (next ∷ more, whole, rest_is, fit) =
          let inside = All-head Distance next more fit in
          let parts = same_number next number (spaced more) behind (small_within (MAX_ENTRIES - start) next (omega arith) inside)
          (small_within (MAX_ENTRIES - start) number (omega arith) begins.right) (starts_spaced more) begins.space
          (sym (spaced-cons next more) ∙ sym rest_is ∙ begins.text_is) in (
            more,
            whole ∙ ap (λ n. read ++ n ∷ more) parts.0 ∙ sym (append_assoc read (number ∷ []) more),
            sym parts.1,
            All-tail Distance next more fit,
          )

  -- one distance more, where there may be one
  pub more_read : (text reads rest behind : List ℕ) (number : ℕ) → start ≤ MAX_ENTRIES → length reads < most →
      BeginsWithNumber Distance rest number behind → Reads most start text reads rest
      → Reads most start text (reads ++ (start + number) ∷ []) behind
  unfolding spaced
  more_read text reads rest behind number low room begins now =
      let push = distances_push start reads number in
      let high = begins.right.1 in record {
        are = record {
          few = omega (arith, room, length-append reads ((start + number) ∷ []));
          positions = All-push (IsPositionFrom start) reads (start + number) now.are.positions (omega arith, omega (arith, low, high));
        };
        text_is = now.text_is ∙ ap (λ xs. spaced (distances start reads) ++ xs) begins.text_is ∙
            sym (append_assoc (spaced (distances start reads)) (spaced_number number) behind) ∙
            ap (λ xs. xs ++ behind) (flat_map_more spaced_number [] (distances start reads) number) ∙
            ap (λ ns. spaced ns ++ behind) (sym push);
        left = rw push (left_behind text (distances start reads) rest behind number begins now.left);
      }

  -- where no distance begins what is left, though something is left, or where there are as many as there may be, the text
  -- isn't that of positions
  module _ (text reads rest : List ℕ) (some : 0 < length rest) (now : Reads most start text reads rest) where
    pub stuck : BeginsWithNoNumber Distance rest → (all : List ℕ) → AreUpTo most start all →
        text ≡ spaced (distances start all) → ⊥
    stuck none all are is =
        by (now.left (distances start all) (omega (arith, length-distances start all, are.few)) (distances_within start all are.positions) is)
      where
        by : (more : List ℕ) × (distances start all ≡ distances start reads ++ more) × (rest ≡ spaced more) × All Distance more → ⊥
        by ([], whole, rest_is, fit) = omega (arith, ap length (rest_is ∙ spaced-nil), some)
        by (next ∷ more, whole, rest_is, fit) = none next (spaced more) (record {
          right = All-head Distance next more fit;
          text_is = rest_is ∙ spaced-cons next more;
          space = starts_spaced more;
        })

    pub too_many : length reads ≡ most → (all : List ℕ) → AreUpTo most start all → text ≡ spaced (distances start all) → ⊥
    too_many full all are is =
        by (now.left (distances start all) (omega (arith, length-distances start all, are.few)) (distances_within start all are.positions) is)
      where
        by : (more : List ℕ) × (distances start all ≡ distances start reads ++ more) × (rest ≡ spaced more) × All Distance more → ⊥
        by ([], whole, rest_is, fit) = omega (arith, ap length (rest_is ∙ spaced-nil), some)
        by (next ∷ more, whole, rest_is, fit) =
            omega (
              arith,
              full,
              are.few,
              ap length whole,
              length-append (distances start reads) (next ∷ more),
              length-distances start all,
              length-distances start reads,
            )
