-- What lines give, line after line.
use Rattle.std.proofs.Common.{◌≡◌, ◌∙◌, ℕ, Bool, true, false, not, ◌||◌, List, [], ◌∷◌, ◌++◌, map, refl, ap, ap₂, sym}
use Rattle.std.specs.List.{list_any}
use Rattle.std.proofs.lemmas.Bool.{eq-eqb}
use Rattle.std.proofs.lemmas.List.{append-nil, append_assoc}
use Rattle.std.proofs.lemmas.Slice.Eq.{bytes_eq-Decides}
use Rattle.job_trace.specs.declared.trace.Numbered.{Numbered}
use Rattle.job_trace.specs.Keys.{Key, gift_of_key}
use Rattle.job_trace.specs.Rules.{Gift, all_gifts, gift, gifts_of, is_repeated, same_gift}

pub all_gifts-push : (front : List Numbered) (n : Numbered) → all_gifts (front ++ n ∷ []) ≡ all_gifts front ++ gifts_of n.line
all_gifts-push [] n = append-nil (gifts_of n.line)
all_gifts-push (f ∷ front) n =
    ap (λ gs. gifts_of f.line ++ gs) (all_gifts-push front n) ∙ sym (append_assoc (gifts_of f.line) (all_gifts front) (gifts_of n.line))

pub same-gift : (word : List ℕ) (number : ℕ) → same_gift (gift word number []) (gift word number []) ≡ true
same-gift word number = rw ((bytes_eq-Decides word word).1 refl, eq-eqb number number refl) refl

-- a key is among the keys where what it stands for is among what they stand for
pub among-keys : (g : Gift) (keys : List Key) → list_any (λ (k : Key). same_gift g (gift_of_key k)) keys ≡ list_any (same_gift g) (map gift_of_key keys)
among-keys g [] = refl
among-keys g (k ∷ keys) = ap (λ b. same_gift g (gift_of_key k) || b) (among-keys g keys)

-- a line more adds what it gives
pub gifts-added : (front after : List Numbered) (n : Numbered) (old new : List Gift) → old ≡ all_gifts front → new ≡ old ++ gifts_of n.line →
    after ≡ front ++ n ∷ [] → new ≡ all_gifts after
gifts-added front after n old new e f g =
    f ∙ ap (λ gs. gs ++ gifts_of n.line) e ∙ sym (all_gifts-push front n) ∙ sym (ap all_gifts g)

not-not : (b : Bool) → not (not b) ≡ b
not-not true = refl
not-not false = refl

-- a key that isn't new stands for what was given before
pub again-is : (g : Gift) (k : Key) (keys : List Key) (view : List Gift) (new : Bool) → gift_of_key k ≡ g → view ≡ map gift_of_key keys →
    new ≡ not (list_any (λ (key : Key). same_gift (gift_of_key k) (gift_of_key key)) keys) → not new ≡ list_any (same_gift g) view
again-is g k keys view new e f h =
    ap not h ∙ not-not (list_any (λ (key : Key). same_gift (gift_of_key k) (gift_of_key key)) keys)
    ∙ among-keys (gift_of_key k) keys ∙ ap₂ (λ (x : Gift) gs. list_any (same_gift x) gs) e (sym f)

-- the next is new
pub repeated-new : (earlier : List Gift) (g : Gift) (later : List Gift) → list_any (same_gift g) earlier ≡ false →
    is_repeated earlier (g ∷ later) ≡ is_repeated (earlier ++ g ∷ []) later
repeated-new earlier g later e = rw e refl

pub repeated-here : (earlier : List Gift) (g : Gift) (later : List Gift) → list_any (same_gift g) earlier ≡ true → is_repeated earlier (g ∷ later) ≡ true
repeated-here earlier g later e = rw e refl
