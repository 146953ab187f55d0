-- Tokens have one fault of a grammar, and none where they have a syntax within the limits.
use Rattle.std.proofs.Common.{◌≡◌, ◌∙◌, ◌+◌, ◌-◌, ◌<◌, ◌≤◌, ◌⊎◌, inl, inr, ℕ, List, ◌++◌, take, drop, length, Option, Some, refl, ap, sym, subst, arith, append_assoc}
use Rattle.std.proofs.lemmas.Bool.{cases_lt}
use Rattle.std.proofs.lemmas.List.{take-append-drop}
use Rattle.std.proofs.Math.Seq.{take-add}
use Rattle.policy_grammar.specs.declared.terminal.Lexeme.{Lexeme}
use Rattle.policy_grammar.specs.declared.fault.ParseFault.{ParseFault}
use Rattle.policy_grammar.specs.declared.fault.ParseFault.TheVariants.{Unexpected, Deep, Many, Memory}
use Rattle.policy_grammar.specs.Correct.{BeginsIn, NotBefore, IsUnexpectedIn, IsExcessIn, IsFaultIn, IsWithinIn}
use Rattle.policy_grammar.proofs.Places.{IsHere}

-- a longer front is a shorter one and more
longer : {X : Type 0} (a b : ℕ) (xs rest : List X) → a ≤ b → take b xs ++ rest ≡ take a xs ++ (take (b - a) (drop a xs) ++ rest)
longer a b xs rest less =
    let size : b ≡ a + (b - a) = omega (arith, less) in
    ap (λ n. take n xs ++ rest) size ∙ ap (λ front. front ++ rest) (take-add a (b - a) xs)
    ∙ append_assoc (take a xs) (take (b - a) (drop a xs)) rest

some-same : {X : Type 0} {x y : X} → Some x ≡ Some y → x ≡ y
some-same e = cc

module _ (Tree : Type 0) (Is : List Lexeme → Tree → Type 0) (breaks : Tree → Option ParseFault) (ts : List Lexeme) where
  as-shorter : (a b : ℕ) (rest : List Lexeme) (s : Tree) → a ≤ b → Is (take b ts ++ rest) s →
      Is (take a ts ++ (take (b - a) (drop a ts) ++ rest)) s
  as-shorter a b rest s less is = subst (λ us. Is us s) (longer a b ts rest less) is

  begins-shorter : (a b : ℕ) → a ≤ b → BeginsIn Tree Is (take b ts) → BeginsIn Tree Is (take a ts)
  begins-shorter a b less x = record {
    rest = take (b - a) (drop a ts) ++ x.rest;
    syntax = x.syntax;
    is = as-shorter a b x.rest x.syntax less x.is;
  }

  as-whole : (a : ℕ) (s : Tree) → Is ts s → Is (take a ts ++ drop a ts) s
  as-whole a s is = subst (λ us. Is us s) (sym (take-append-drop a ts)) is

  -- the two kinds of faults
  Found : ParseFault → Type 0
  Found f = ((at : ℕ) × (Unexpected at ≡ f) × IsUnexpectedIn Tree Is breaks ts at) ⊎ ((at : ℕ) × IsHere at f × IsExcessIn Tree Is breaks ts at f)

  found : (f : ParseFault) → IsFaultIn Tree Is breaks ts f → (f ≡ Memory → ⊥) → Found f
  unfolding Found
  found (Unexpected at) is real = inl (at, refl, is)
  found (Deep at) is real = inr (at, refl, is)
  found (Many at limit) is real = inr (at, refl, is)
  found Memory is real = absurd (real refl)

  unexpected-later : (a b : ℕ) → IsUnexpectedIn Tree Is breaks ts a → IsUnexpectedIn Tree Is breaks ts b → a < b → ⊥
  unexpected-later a b x y less =
      let within = y.within in
      x.after (omega arith) (begins-shorter (a + 1) b (omega arith) y.before)

  here-after : (a at : ℕ) (f : ParseFault) → IsHere at f → NotBefore a (Some f) → a ≤ at
  here-after a at (Unexpected k) here later = absurd here
  here-after a at (Deep k) here later = omega (arith, here, later)
  here-after a at (Many k limit) here later = omega (arith, here, later)
  here-after a at Memory here later = absurd here

  -- before the limit is passed all is expected, and before what is unexpected no limit is passed
  not-both : (a at : ℕ) (f : ParseFault) → IsUnexpectedIn Tree Is breaks ts a → IsHere at f → IsExcessIn Tree Is breaks ts at f → (at < a) ⊎ (a ≤ at) → ⊥
  not-both a at f x here y (inl less) =
      let begins = x.before in
      let passes = y.first _ begins.syntax (as-shorter (at + 1) a begins.rest begins.syntax (omega (arith, less)) begins.is) in
      let later = here-after a at f here (subst (NotBefore a) passes (x.earlier begins.rest begins.syntax begins.is)) in
      omega (arith, less, later)
  not-both a at f x here y (inr less) =
      let within = y.within in
      x.after (omega (arith, within, less)) (begins-shorter (a + 1) (at + 1) (omega (arith, less)) y.begins)

  excess-earlier : (a b : ℕ) (f g : ParseFault) → IsExcessIn Tree Is breaks ts a f → IsExcessIn Tree Is breaks ts b g → a ≤ b → f ≡ g
  excess-earlier a b f g x y less =
      let begins = y.begins in
      some-same (sym (x.first _ begins.syntax (as-shorter (a + 1) (b + 1) begins.rest begins.syntax (omega (arith, less)) begins.is))
      ∙ y.first begins.rest begins.syntax begins.is)

  excess-same : (a b : ℕ) (f g : ParseFault) → IsExcessIn Tree Is breaks ts a f → IsExcessIn Tree Is breaks ts b g → (a < b) ⊎ (b ≤ a) → f ≡ g
  excess-same a b f g x y (inl less) = excess-earlier a b f g x y (omega (arith, less))
  excess-same a b f g x y (inr less) = sym (excess-earlier b a g f y x less)

  unexpected-same : (a b : ℕ) → IsUnexpectedIn Tree Is breaks ts a → IsUnexpectedIn Tree Is breaks ts b → a ≡ b
  unexpected-same a b x y =
      let one = unexpected-later a b x y in
      let other = unexpected-later b a y x in
      omega (arith, one, other)

  same-found : (f g : ParseFault) → Found f → Found g → f ≡ g
  unfolding Found
  same-found f g (inl x) (inl y) = sym x.1 ∙ ap Unexpected (unexpected-same x.0 y.0 x.2 y.2) ∙ y.1
  same-found f g (inl x) (inr y) = absurd (not-both x.0 y.0 g x.2 y.1 y.2 (cases_lt y.0 x.0))
  same-found f g (inr x) (inl y) = absurd (not-both y.0 x.0 f y.2 x.1 x.2 (cases_lt x.0 y.0))
  same-found f g (inr x) (inr y) = excess-same x.0 y.0 f g x.2 y.2 (cases_lt x.0 y.0)

  -- the fault of the tokens is one
  pub one-fault : (f g : ParseFault) → IsFaultIn Tree Is breaks ts f → IsFaultIn Tree Is breaks ts g → (f ≡ Memory → ⊥) → (g ≡ Memory → ⊥) → f ≡ g
  one-fault f g x y real also = same-found f g (found f x real) (found g y also)

  none-unexpected : (at : ℕ) (s : Tree) → IsUnexpectedIn Tree Is breaks ts at → Is ts s → (at < length ts) ⊎ (length ts ≤ at) → ⊥
  none-unexpected at s x is (inl less) = x.after less (record { rest = drop (at + 1) ts; syntax = s; is = as-whole (at + 1) s is })
  none-unexpected at s x is (inr more) = let within = x.within in x.short (omega (arith, within, more)) s is

  none-found : (f : ParseFault) (s : Tree) → IsWithinIn Tree Is breaks ts s → Found f → ⊥
  unfolding Found
  none-found f s within (inl x) = none-unexpected x.0 s x.2 within.is (cases_lt x.0 (length ts))
  none-found f s within (inr x) =
      let clash = sym within.keeps ∙ x.2.first (drop (x.0 + 1) ts) s (as-whole (x.0 + 1) s within.is) in cc

  -- tokens with a syntax within the limits have no fault
  pub no-fault : (f : ParseFault) (s : Tree) → IsWithinIn Tree Is breaks ts s → IsFaultIn Tree Is breaks ts f → (f ≡ Memory → ⊥) → ⊥
  no-fault f s within is real = none-found f s within (found f is real)
