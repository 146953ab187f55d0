-- Words behind words.
use Rattle.std.proofs.Common.{◌≡◌, ◌∙◌, ◌<◌, ◌≤◌, ◌+◌, ℕ, List, [], ◌∷◌, ◌++◌, length, take, get_or, refl, sym, ap, subst, Result, Ok, Err, OnOk, append_assoc, append-nil, map, decimal}
use Rattle.std.specs.List.{flat_map, join_with_byte}
use Rattle.std.proofs.lemmas.List.{take_more, take_all}
use Rattle.job_trace.specs.declared.trace.Numbered.{Numbered}
use Rattle.trace_printer.specs.Adds.{spaced, Adds}
use Rattle.trace_printer.specs.Printed.{numbered_text, trace_text}

spaced_append : (xs ys : List (List ℕ)) → spaced (xs ++ ys) ≡ spaced xs ++ spaced ys
spaced_append [] ys = refl
spaced_append (x ∷ xs) ys =
    ap (λ (more : List ℕ). 32 ∷ (x ++ more)) (spaced_append xs ys)
    ∙ ap (λ (more : List ℕ). 32 ∷ more) (sym (append_assoc x (spaced xs) (spaced ys)))

infixr 5 ◌⊳◌
-- first these words, then those
pub ◌⊳◌ : {xs ys : List (List ℕ)} {a b c : List ℕ} → Adds xs a b → Adds ys b c → Adds (xs ++ ys) a c
◌⊳◌ {xs = xs} {ys = ys} {a = a} one other = record {
  is = other.is ∙ ap (λ (front : List ℕ). front ++ spaced ys) one.is ∙ append_assoc a (spaced xs) (spaced ys)
      ∙ ap (λ (more : List ℕ). a ++ more) (sym (spaced_append xs ys));
}

flat_map-end : {X Y : Type 0} (f : X → List Y) (xs : List X) (x : X) → flat_map f (xs ++ x ∷ []) ≡ flat_map f xs ++ f x
flat_map-end {Y = Y} f [] x = append-nil (f x)
flat_map-end {Y = Y} f (y ∷ ys) x =
    ap (λ (more : List Y). f y ++ more) (flat_map-end f ys x) ∙ sym (append_assoc (f y) (flat_map f ys) (f x))

-- the words of one item more
pub one_at : {X : Type 0} (f : X → List (List ℕ)) (xs : List X) (i : ℕ) (d : X) {a b c : List ℕ} → i < length xs →
    Adds (flat_map f (take i xs)) a b → Adds (f (get_or xs i d)) b c → Adds (flat_map f (take (i + 1) xs)) a c
one_at f xs i d {a = a} {c = c} less so_far item =
    let both = sym (flat_map-end f (take i xs) (get_or xs i d)) ∙ ap (flat_map f) (sym (take_more xs i d less)) in
    subst (λ (words : List (List ℕ)). Adds words a c) both (so_far ⊳ item)

pub one_more : {X : Type 0} (f : X → List (List ℕ)) (xs : List X) (i : ℕ) (x : X) {a b c : List ℕ} → x ≡ get_or xs i x →
    i < length xs → Adds (flat_map f (take i xs)) a b → Adds (f x) b c → Adds (flat_map f (take (i + 1) xs)) a c
one_more f xs i x {b = b} {c = c} is less so_far item =
    one_at f xs i x less so_far (subst (λ y. Adds (f y) b c) is item)

-- the words of all items
pub all_items : {X : Type 0} (f : X → List (List ℕ)) (xs : List X) (i : ℕ) {a b : List ℕ} → length xs ≤ i →
    Adds (flat_map f (take i xs)) a b → Adds (flat_map f xs) a b
all_items f xs i {a = a} {b = b} past so_far =
    subst (λ (words : List (List ℕ)). Adds words a b) (ap (flat_map f) (take_all i xs past)) so_far

-- the word of a number
abbrev pub word_of : ℕ → List (List ℕ)
word_of number = decimal number ∷ []

each_word : (numbers : List ℕ) → flat_map word_of numbers ≡ map decimal numbers
each_word [] = refl
each_word (n ∷ numbers) = ap (λ (more : List (List ℕ)). decimal n ∷ more) (each_word numbers)

-- the words of all numbers
pub all_numbers : (xs : List ℕ) (i : ℕ) {a b : List ℕ} → length xs ≤ i →
    Adds (flat_map word_of (take i xs)) a b → Adds (map decimal xs) a b
all_numbers xs i {a = a} {b = b} past so_far =
    subst (λ (words : List (List ℕ)). Adds words a b) (each_word xs) (all_items word_of xs i past so_far)

pub same_words : {xs ys : List (List ℕ)} {a b : List ℕ} → xs ≡ ys → Adds xs a b → Adds ys a b
same_words {a = a} {b = b} same these = subst (λ (words : List (List ℕ)). Adds words a b) same these

-- what follows from the last call, where it succeeds
pub on_ok : {X E P Q : Type 0} (r : Result X E) → (P → Q) → OnOk r P → OnOk r Q
on_ok (Ok x) f p = f p
on_ok (Err e) f p = tt

joined-spaced : (x : List ℕ) (xs : List (List ℕ)) → join_with_byte 32 (x ∷ xs) ≡ x ++ spaced xs
joined-spaced x [] = sym (append-nil x)
joined-spaced x (y ∷ ys) = ap (λ (more : List ℕ). x ++ 32 ∷ more) (joined-spaced y ys)

-- a first word without a space before it, and the others
pub whole : (x : List ℕ) (xs : List (List ℕ)) (a : List ℕ) {b c : List ℕ} → b ≡ a ++ x → Adds xs b c →
    c ≡ a ++ join_with_byte 32 (x ∷ xs)
whole x xs a first these =
    these.is ∙ ap (λ (front : List ℕ). front ++ spaced xs) first ∙ append_assoc a x (spaced xs)
    ∙ ap (λ (more : List ℕ). a ++ more) (sym (joined-spaced x xs))

-- the text of one line more
pub more_text : (xs : List Numbered) (i : ℕ) (x : Numbered) {b c : List ℕ} → x ≡ get_or xs i x → i < length xs →
    b ≡ trace_text (take i xs) → c ≡ b ++ numbered_text x → c ≡ trace_text (take (i + 1) xs)
more_text xs i x is less so_far line =
    line ∙ ap (λ (front : List ℕ). front ++ numbered_text x) so_far
    ∙ ap (λ n. trace_text (take i xs) ++ numbered_text n) is
    ∙ sym (flat_map-end numbered_text (take i xs) (get_or xs i x)) ∙ ap trace_text (sym (take_more xs i x less))
