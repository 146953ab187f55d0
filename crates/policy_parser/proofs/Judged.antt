-- What a test of the parser says of the token, and what reading comes to behind it: within a limit, past one, or stuck.
use Rattle.std.proofs.Common.{◌≡◌, ◌≢◌, ◌<◌, ◌≤◌, ◌⊎◌, inl, inr, ℕ, zero, suc, ◌+◌, ◌==◌, List, [], ◌∷◌, length, drop, refl, sym, ap, subst, arith, lt-ltb, Bool, true, false, not, IsTrue, Option, Some, None, Result, Ok, Err, ◌∙◌}
use Rattle.std.proofs.lemmas.Bool.{le-ltb}
use Rattle.std.proofs.lemmas.Bool.Decides.{eqb_tells, nat_tests}
use Rattle.policy_grammar.specs.declared.terminal.Lexeme.{Lexeme}
use Rattle.policy_grammar.specs.declared.limits.Limits.{Limits}
use Rattle.policy_grammar.specs.declared.fault.ParseFault.{ParseFault}
use Rattle.policy_grammar.specs.declared.fault.ParseFault.TheVariants.{Unexpected, Deep, Many, Memory}
use Rattle.policy_grammar.specs.Terminals.{kind_at, is_word}
use Rattle.policy_grammar.specs.Breaks.{deep, many, of_cores_more, of_threads_more}
use Rattle.policy_grammar.specs.Symbols.{Symbol, word, field, state}
use Rattle.policy_grammar.specs.Machine.{run, go}
use Rattle.policy_grammar.proofs.Steps.{judged, go-stuck}
use Rattle.policy_parser.specs.Answers.{Fails, Answers, IsWordFault}

-- a test of the parser says what stands there, or what doesn't
pub yes : {b : Bool} {k c : ℕ} → b ≡ (k == c) → b ≡ true → k ≡ c
yes {b = b} {k = k} {c = c} is test = by (eqb_tells k c)
  where
    by : (((k == c) ≡ true) × (k ≡ c)) ⊎ (((k == c) ≡ false) × (k ≢ c)) → k ≡ c
    by (inl p) = p.1
    by (inr p) = let clash = sym p.0 ∙ sym is ∙ test in cc

pub isnt : {b x : Bool} → b ≡ x → b ≡ false → x ≡ false
isnt is test = sym is ∙ test

-- a token stands inside
pub inside : (ts : List Lexeme) (at : ℕ) {k : ℕ} → kind_at ts at ≡ k → 0 < k → at < length ts
inside [] zero is some = absurd (omega (arith, is, some))
inside [] (suc at) is some = absurd (omega (arith, is, some))
inside (t ∷ ts) zero is some = omega arith
inside (t ∷ ts) (suc at) is some = let less : at < length ts = inside ts at is some in omega arith

-- a fault is passed on
pub passes : {read now : Option ParseFault} (e : ParseFault) → read ≡ now → Fails now e → Fails read e
passes (Unexpected at) same h = same ∙ h
passes (Deep at) same h = same ∙ h
passes (Many at limit) same h = same ∙ h
passes Memory same h = tt

-- what a reader answers from a state that reads the same
pub answers-as : {X : Type 0} {read now : Option ParseFault} (rest : X → Option ParseFault) (result : Result X ParseFault) →
    read ≡ now → Answers now rest result → Answers read rest result
answers-as rest (Ok x) same h = same ∙ h
answers-as rest (Err e) same h = passes e same h

-- where the limit isn't reached, or is
pub within-deep : (limits : Limits) (at n : ℕ) → n < limits.nesting → deep limits at n ≡ None
within-deep limits at n less = rw (lt-ltb n limits.nesting less) refl

pub past-deep : (limits : Limits) (at n : ℕ) → limits.nesting ≤ n → deep limits at n ≡ Some (Deep at)
past-deep limits at n most = rw (le-ltb n limits.nesting most) refl

pub within-many : (limit at n : ℕ) → n < limit → many limit at n ≡ None
within-many limit at n less = rw (lt-ltb n limit less) refl

pub past-many : (limit at n : ℕ) → limit ≤ n → many limit at n ≡ Some (Many at limit)
past-many limit at n most = rw (le-ltb n limit most) refl

-- reading goes on past a limit that is kept, or ends there
pub kept : {o r : Option ParseFault} (now : Option ParseFault) → r ≡ judged o now → o ≡ None → r ≡ now
kept now e none = e ∙ ap (λ x. judged x now) none

pub broken : {o r : Option ParseFault} (now : Option ParseFault) {f : ParseFault} → r ≡ judged o now → o ≡ Some f → r ≡ Some f
broken now e some = e ∙ ap (λ x. judged x now) some

pub fails-at : (read : Option ParseFault) {e f : ParseFault} → e ≡ f → Fails read f → Fails read e
fails-at read same h = subst (Fails read) (sym same) h

pub go-from : (limits : Limits) (ts : List Lexeme) {m n : ℕ} (count : ℕ) (stack : List Symbol) → m ≡ n → go limits ts m count stack ≡ go limits ts n count stack
go-from limits ts count stack e = ap (λ i. go limits ts i count stack) e

-- no word stands there
pub word-fails : (ts : List Lexeme) (at : ℕ) (read : Option ParseFault) → (is_word (kind_at ts at) ≡ false → read ≡ Some (Unexpected at)) →
    (e : ParseFault) → IsWordFault ts at e → Fails read e
word-fails ts at read stuck (Unexpected spot) h = stuck h.1 ∙ ap (λ n. Some (Unexpected n)) (sym h.0)
word-fails ts at read stuck (Deep spot) h = absurd h
word-fails ts at read stuck (Many spot limit) h = absurd h
word-fails ts at read stuck Memory h = tt

pub word-stuck : (limits : Limits) (ts : List Lexeme) (at count base before : ℕ) (below : List Symbol) → is_word (kind_at ts at) ≡ false →
    go limits ts at count (word base before ∷ below) ≡ Some (Unexpected at)
word-stuck limits ts at count base before below isnt = go-stuck limits ts at count (word base before ∷ below) refl (rw isnt refl)

pub field-stuck : (limits : Limits) (ts : List Lexeme) (at count : ℕ) (below : List Symbol) → is_word (kind_at ts at) ≡ false →
    go limits ts at count (field ∷ below) ≡ Some (Unexpected at)
field-stuck limits ts at count below isnt = go-stuck limits ts at count (field ∷ below) refl (rw isnt refl)

pub word-some : (kind : ℕ) → is_word kind ≡ true → 0 < kind
word-some kind e = grind (arith, nat_tests)

-- one attribute more of its kind
pub cores-more : (b : Bool) {n r : ℕ} → (IsTrue b → r ≡ n + 1) → (b ≡ false → r ≡ n) → r ≡ of_cores_more b n
cores-more true more same = more refl
cores-more false more same = same refl

pub threads-more : (b : Bool) {n r : ℕ} → (IsTrue (not b) → r ≡ n + 1) → (not b ≡ false → r ≡ n) → r ≡ of_threads_more b n
threads-more true more same = same refl
threads-more false more same = more refl

pub at-most-one : (b : Bool) {n r : ℕ} → (IsTrue b → r ≡ n + 1) → (b ≡ false → r ≡ n) → r ≤ n + 1
at-most-one true more same = let e = more refl in omega (arith, e)
at-most-one false more same = let e = same refl in omega (arith, e)

pub plus-two : (at : ℕ) → at + 1 + 1 ≡ at + 2
plus-two at = omega arith

-- tokens behind the last that a policy has
past-run : (limits : Limits) (ts : List Lexeme) (n at : ℕ) → n < length ts → run limits at (state 0 []) (drop n ts) ≡ Some (Unexpected at)
past-run limits [] n at less = absurd (omega (arith, less))
past-run limits (t ∷ ts) zero at less = refl
past-run limits (t ∷ ts) (suc n) at less = past-run limits ts n at (omega (arith, less))

pub past-end : (limits : Limits) (ts : List Lexeme) (at : ℕ) → at < length ts → go limits ts at 0 [] ≡ Some (Unexpected at)
unfolding go
past-end limits ts at less = past-run limits ts at at less
