-- Threads one behind another, as they are read, and what stands behind them.
use Rattle.std.proofs.Common.{◌≡◌, ◌≢◌, ℕ, ◌<◌, ◌≤◌, ◌^◌, List, [], ◌∷◌, ◌++◌, All, length, append_assoc, length-append, ap, ap₂, sym, ◌∙◌, refl, arith}
use Rattle.std.proofs.lemmas.List.{append-nil, flat_map_more}
use Rattle.std.proofs.lemmas.List.Elements.{All-append, All-head, All-nil, All-push, All-tail}
use Rattle.sched_base.specs.declared.limits.TheConstants.{MAX_STOLEN}
use Rattle.sched_history.specs.Ranges.{AreStolen, IsThreadNumber}
use Rattle.sched_history.specs.Spelling.{spaced, spaced_number}
use Rattle.text_forms.specs.Cuts.{Lacks, StartsWith}
use Rattle.history_reader.specs.Code.Numbers.{BeginsWithNoNumber, BeginsWithNumber, BeginsWithThreads}
use Rattle.history_reader.proofs.Parts.{same_number}
use Rattle.history_reader.proofs.Positions.{number_lacks, spaced-cons, spaced-nil}

small_thread : (thread : ℕ) → IsThreadNumber thread → thread < 2 ^ 64
small_thread thread is = let high = is.1 in omega (arith, high)

-- what stands behind threads begins with a space
pub starts_behind : (threads tail : List ℕ) → StartsWith 32 tail → StartsWith 32 (spaced threads ++ tail)
unfolding spaced
starts_behind [] tail space = space
starts_behind (thread ∷ rest) tail space = refl

-- what was read of the threads of a text, and what is left of it
abbrev pub Left : List ℕ → List ℕ → List ℕ → Type 0
Left text read rest = (all tail : List ℕ) → AreStolen all → StartsWith 32 tail → BeginsWithNoNumber IsThreadNumber tail →
    text ≡ spaced all ++ tail → (more : List ℕ) × (all ≡ read ++ more) × (rest ≡ spaced more ++ tail) × All IsThreadNumber more

pub record Reads (text read rest : List ℕ) : Type 0 where
  pub text_is : text ≡ spaced read ++ rest
  pub numbers : All IsThreadNumber read
  pub left : Left text read rest

-- before any was read
pub none_read : (text : List ℕ) → Reads text [] text
unfolding spaced
none_read text = record {
  text_is = refl;
  numbers = All-nil IsThreadNumber;
  left = λ all tail are space none is. (all, refl, is, are.numbers);
}

-- one more
pub more_read : (text read rest behind : List ℕ) (thread : ℕ) → BeginsWithNumber IsThreadNumber rest thread behind → Reads text read rest
    → Reads text (read ++ thread ∷ []) behind
unfolding spaced
more_read text read rest behind thread begins reads = record {
  text_is = reads.text_is ∙ ap (λ xs. spaced read ++ xs) begins.text_is ∙
      sym (append_assoc (spaced read) (spaced_number thread) behind) ∙
      ap (λ xs. xs ++ behind) (flat_map_more spaced_number [] read thread);
  numbers = All-push IsThreadNumber read thread reads.numbers begins.right;
  left = λ all tail are space none is. by tail space none (reads.left all tail are space none is);
}
  where
    by : {all : List ℕ} (tail : List ℕ) → StartsWith 32 tail → BeginsWithNoNumber IsThreadNumber tail
        → (more : List ℕ) × (all ≡ read ++ more) × (rest ≡ spaced more ++ tail) × All IsThreadNumber more
        → (more : List ℕ) × (all ≡ (read ++ thread ∷ []) ++ more) × (behind ≡ spaced more ++ tail) × All IsThreadNumber more
    by tail space none ([], whole, rest_is, fit) =
        absurd (none thread behind (record { right = begins.right; text_is = sym (rest_is ∙ ap (λ xs. xs ++ tail) spaced-nil) ∙ begins.text_is; space = begins.space }))
    by tail space none (next ∷ more, whole, rest_is, fit) =
        let inside : IsThreadNumber next = All-head IsThreadNumber next more fit in
        let front : rest ≡ spaced_number next ++ (spaced more ++ tail) =
        rest_is ∙ (ap (λ xs. xs ++ tail) (spaced-cons next more) ∙ append_assoc (spaced_number next) (spaced more) tail) in
        let parts = same_number next thread (spaced more ++ tail) behind (small_thread next inside) (small_thread thread begins.right)
        (starts_behind more tail space) begins.space (sym front ∙ begins.text_is) in (
          more,
          whole ∙ ap (λ n. read ++ n ∷ more) parts.0 ∙ sym (append_assoc read (thread ∷ []) more),
          sym parts.1,
          All-tail IsThreadNumber next more fit,
        )

-- all were read where no thread begins what is left
pub stops : (text read rest : List ℕ) → length read ≤ MAX_STOLEN → BeginsWithNoNumber IsThreadNumber rest → Reads text read rest → BeginsWithThreads text read rest
stops text read rest few stuck reads = record {
  text_is = reads.text_is;
  few = few;
  numbers = reads.numbers;
  only = λ all tail are space none is. by tail space (reads.left all tail are space none is);
}
  where
    by : {all : List ℕ} (tail : List ℕ) → StartsWith 32 tail → (more : List ℕ) × (all ≡ read ++ more) × (rest ≡ spaced more ++ tail) × All IsThreadNumber more
        → (all ≡ read) × (rest ≡ tail)
    by tail space ([], whole, rest_is, fit) = (whole ∙ append-nil read, rest_is ∙ ap (λ xs. xs ++ tail) spaced-nil)
    by tail space (next ∷ more, whole, rest_is, fit) = absurd (stuck next (spaced more ++ tail) (record {
      right = All-head IsThreadNumber next more fit;
      text_is = rest_is ∙ (ap (λ xs. xs ++ tail) (spaced-cons next more) ∙ append_assoc (spaced_number next) (spaced more) tail);
      space = starts_behind more tail space;
    }))

-- or where there are as many as there may be
pub is_full : (text read rest : List ℕ) → length read ≡ MAX_STOLEN → Reads text read rest → BeginsWithThreads text read rest
is_full text read rest full reads = record {
  text_is = reads.text_is;
  few = omega (arith, full);
  numbers = reads.numbers;
  only = λ all tail are space none is. by all tail are (reads.left all tail are space none is);
}
  where
    by : (all tail : List ℕ) → AreStolen all → (more : List ℕ) × (all ≡ read ++ more) × (rest ≡ spaced more ++ tail) × All IsThreadNumber more → (all ≡ read) × (rest ≡ tail)
    by all tail are ([], whole, rest_is, fit) = (whole ∙ append-nil read, rest_is ∙ ap (λ xs. xs ++ tail) spaced-nil)
    by all tail are (next ∷ more, whole, rest_is, fit) =
        absurd (omega (arith, are.few, ap length whole, length-append read (next ∷ more), full))

-- a text of threads, and of what is no thread, is that of one list
pub same_threads : (one two more others : List ℕ) → All IsThreadNumber one → All IsThreadNumber two → StartsWith 32 more → StartsWith 32 others
    → BeginsWithNoNumber IsThreadNumber more → BeginsWithNoNumber IsThreadNumber others → spaced one ++ more ≡ spaced two ++ others → (one ≡ two) × (more ≡ others)
unfolding spaced
same_threads [] [] more others are_one are_two starts_one starts_two none_one none_two same = (refl, same)
same_threads [] (y ∷ two) more others are_one are_two starts_one starts_two none_one none_two same =
    absurd (none_one y (spaced two ++ others) (record {
      right = All-head IsThreadNumber y two are_two;
      text_is = same ∙ append_assoc (spaced_number y) (spaced two) others;
      space = starts_behind two others starts_two;
    }))
same_threads (x ∷ one) [] more others are_one are_two starts_one starts_two none_one none_two same =
    absurd (none_two x (spaced one ++ more) (record {
      right = All-head IsThreadNumber x one are_one;
      text_is = sym same ∙ append_assoc (spaced_number x) (spaced one) more;
      space = starts_behind one more starts_one;
    }))
same_threads (x ∷ one) (y ∷ two) more others are_one are_two starts_one starts_two none_one none_two same =
    let small_x = small_thread x (All-head IsThreadNumber x one are_one) in
    let small_y = small_thread y (All-head IsThreadNumber y two are_two) in
    let parts = same_number x y (spaced one ++ more) (spaced two ++ others) small_x small_y (starts_behind one more starts_one) (starts_behind two others starts_two)
    (sym (append_assoc (spaced_number x) (spaced one) more) ∙ same ∙ append_assoc (spaced_number y) (spaced two) others) in
    let rest = same_threads one two more others (All-tail IsThreadNumber x one are_one) (All-tail IsThreadNumber y two are_two) starts_one starts_two none_one none_two parts.1 in
    (ap₂ (λ n ns. n ∷ ns) parts.0 rest.0, rest.1)

-- no byte below a space stands in threads
pub threads_lack : (byte : ℕ) (threads : List ℕ) → byte < 32 → All IsThreadNumber threads → Lacks byte (spaced threads)
unfolding spaced
threads_lack byte [] below are = All-nil _
threads_lack byte (thread ∷ rest) below are =
    let first = number_lacks byte thread below (small_thread thread (All-head IsThreadNumber thread rest are)) in
    All-append (λ other. other ≢ byte) (spaced_number thread) (spaced rest) first
    (threads_lack byte rest below (All-tail IsThreadNumber thread rest are))
