-- What one token does to reading.
use Rattle.std.proofs.Common.{◌≡◌, ◌<◌, ℕ, zero, suc, ◌+◌, List, [], ◌∷◌, drop, length, refl, sym, ap, subst, arith, true, false, cond, Option, Some, None, ◌∙◌}
use Rattle.std.proofs.lemmas.List.{drop_all}
use Rattle.policy_grammar.specs.declared.terminal.Lexeme.{Lexeme}
use Rattle.policy_grammar.specs.declared.limits.Limits.{Limits}
use Rattle.policy_grammar.specs.declared.fault.ParseFault.{ParseFault}
use Rattle.policy_grammar.specs.declared.fault.ParseFault.TheVariants.{Unexpected}
use Rattle.policy_grammar.specs.Terminals.{kind_at}
use Rattle.policy_grammar.specs.Breaks.{first_of}
use Rattle.policy_grammar.specs.Symbols.{Symbol, State, state, Move, refuses, goes, all_nothing}
use Rattle.policy_grammar.specs.Machine.{moves, after, run, go}

-- the answer, unless a limit is passed
abbrev pub judged : Option ParseFault → Option ParseFault → Option ParseFault
judged None rest = rest
judged (Some fault) rest = Some fault

pub judged-first : (a b : Option ParseFault) (r : Option ParseFault) → judged (first_of a b) r ≡ judged a (judged b r)
judged-first None b r = refl
judged-first (Some f) b r = refl

after-goes : (at : ℕ) (o : Option ParseFault) (q : State) (k : State → Option ParseFault) → after at (goes o q) k ≡ judged o (k q)
after-goes at None q k = refl
after-goes at (Some f) q k = refl

module _ (limits : Limits) where
  run-move : (ts : List Lexeme) (n at count : ℕ) (stack : List Symbol) (m : Move) →
      0 < kind_at ts n → moves limits count at stack (kind_at ts n) ≡ m →
      run limits at (state count stack) (drop n ts) ≡ after at m (λ r. run limits (at + 1) r (drop (suc n) ts))
  run-move [] zero at count stack m some e = absurd (omega (arith, some))
  run-move [] (suc n) at count stack m some e = absurd (omega (arith, some))
  run-move (t ∷ ts) zero at count stack m some e = ap (λ x. after at x (λ r. run limits (at + 1) r ts)) e
  run-move (t ∷ ts) (suc n) at count stack m some e = run-move ts n at count stack m some e

  run-stuck : (ts : List Lexeme) (n at count : ℕ) (stack : List Symbol) →
      all_nothing stack ≡ false → moves limits count at stack (kind_at ts n) ≡ refuses →
      run limits at (state count stack) (drop n ts) ≡ Some (Unexpected at)
  run-stuck [] zero at count stack some e = ap (λ b. cond b None (Some (Unexpected at))) some
  run-stuck [] (suc n) at count stack some e = ap (λ b. cond b None (Some (Unexpected at))) some
  run-stuck (t ∷ ts) zero at count stack some e = ap (λ x. after at x (λ r. run limits (at + 1) r ts)) e
  run-stuck (t ∷ ts) (suc n) at count stack some e = run-stuck ts n at count stack some e

  run-same : (ts : List Lexeme) (n at count other : ℕ) (stack to : List Symbol) →
      all_nothing stack ≡ all_nothing to → moves limits count at stack (kind_at ts n) ≡ moves limits other at to (kind_at ts n) →
      run limits at (state count stack) (drop n ts) ≡ run limits at (state other to) (drop n ts)
  run-same [] zero at count other stack to same e = ap (λ b. cond b None (Some (Unexpected at))) same
  run-same [] (suc n) at count other stack to same e = ap (λ b. cond b None (Some (Unexpected at))) same
  run-same (t ∷ ts) zero at count other stack to same e = ap (λ x. after at x (λ r. run limits (at + 1) r ts)) e
  run-same (t ∷ ts) (suc n) at count other stack to same e = run-same ts n at count other stack to same e

  module _ (ts : List Lexeme) (at : ℕ) where
    -- the token is k, and with k reading goes on
    pub go-move : (k count next : ℕ) (stack to : List Symbol) (o : Option ParseFault) → kind_at ts at ≡ k → 0 < k →
        moves limits count at stack k ≡ goes o (state next to) →
        go limits ts at count stack ≡ judged o (go limits ts (at + 1) next to)
    unfolding go
    go-move k count next stack to o is some e =
        let more : suc at ≡ at + 1 = omega arith in
        run-move ts at at count stack (goes o (state next to)) (subst (λ n. 0 < n) (sym is) some) (ap (moves limits count at stack) is ∙ e)
        ∙ after-goes at o (state next to) _
        ∙ ap (λ n. judged o (run limits (at + 1) (state next to) (drop n ts))) more

    -- no text goes on so
    pub go-stuck : (count : ℕ) (stack : List Symbol) → all_nothing stack ≡ false →
        moves limits count at stack (kind_at ts at) ≡ refuses → go limits ts at count stack ≡ Some (Unexpected at)
    unfolding go
    go-stuck count stack some e = run-stuck ts at at count stack some e

    -- two stacks do the same
    pub go-same : (count other : ℕ) (stack to : List Symbol) → all_nothing stack ≡ all_nothing to →
        moves limits count at stack (kind_at ts at) ≡ moves limits other at to (kind_at ts at) →
        go limits ts at count stack ≡ go limits ts at other to
    unfolding go
    go-same count other stack to same e = run-same ts at at count other stack to same e

    pub is-zero : length ts ≡ at → (count : ℕ) (stack : List Symbol) → all_nothing stack ≡ true → go limits ts at count stack ≡ None
    unfolding go
    is-zero end count stack none =
        let past : drop at ts ≡ [] = drop_all at ts (omega arith) in
        ap (run limits at (state count stack)) past ∙ ap (λ b. cond b None (Some (Unexpected at))) none
