-- Reading answers as the grammar and the limits say.
use Rattle.std.proofs.Common.{◌≡◌, ◌<◌, ℕ, ◌+◌, List, [], ◌∷◌, ◌++◌, length, take, refl, sym, ap, subst, arith, ◌∙◌, Bool, true, false, if◌then◌else◌, Option, Some, None, append_assoc, append-nil, length-append}
use Rattle.std.proofs.Math.Seq.{take-append_seam, take-append-add}
use Rattle.policy_grammar.specs.declared.terminal.Lexeme.{Lexeme}
use Rattle.policy_grammar.specs.declared.limits.Limits.{Limits}
use Rattle.policy_grammar.specs.declared.fault.ParseFault.{ParseFault}
use Rattle.policy_grammar.specs.declared.fault.ParseFault.TheVariants.{Unexpected, Deep, Many, Memory}
use Rattle.policy_grammar.specs.Symbols.{Symbol, state, Move, refuses, goes, all_nothing}
use Rattle.policy_grammar.specs.Machine.{moves, kind_of, after, run, go}
use Rattle.policy_grammar.specs.Correct.{BeginsIn, NotBefore, IsUnexpectedIn, IsExcessIn, IsFaultIn}
use Rattle.policy_grammar.proofs.Languages.{IsLanguage, reach-begins}
use Rattle.policy_grammar.proofs.Reached.{Reach, reach-start, reach-step}
use Rattle.policy_grammar.proofs.Places.{IsLimit, IsHere, MovesHere, moves-here}

module _ (limits : Limits) (text : List ℕ) (Tree : Type 0) (Is : List Lexeme → Tree → Type 0) (breaks : Tree → Option ParseFault) (begin : List Symbol) where
  -- where reading stops
  pub data Stops (at count : ℕ) (stack : List Symbol) : List Lexeme → Type 0 where
    at_end : Stops at count stack []
    refused : (t : Lexeme) (ys : List Lexeme) → moves limits count at stack (kind_of t) ≡ refuses → Stops at count stack (t ∷ ys)
    passed : (t : Lexeme) (ys : List Lexeme) (f : ParseFault) (next : ℕ) (to : List Symbol) →
        moves limits count at stack (kind_of t) ≡ goes (Some f) (state next to) → Stops at count stack (t ∷ ys)

  -- how far the tokens ts are read behind the tokens ps
  pub record Course (ps ts : List Lexeme) (count : ℕ) (stack : List Symbol) : Type 0 where
    pub xs : List Lexeme
    pub ys : List Lexeme
    pub next : ℕ
    pub to : List Symbol
    pub split : ts ≡ xs ++ ys
    pub reach : Reach begin text (ps ++ xs) to
    pub same : (rest : List Lexeme) → run limits (length ps) (state count stack) (xs ++ rest) ≡ run limits (length (ps ++ xs)) (state next to) rest
    pub stops : Stops (length (ps ++ xs)) next to ys

  stays : (ps ts : List Lexeme) (count : ℕ) (stack : List Symbol) → Reach begin text ps stack → Stops (length ps) count stack ts → Course ps ts count stack
  stays ps ts count stack reach stops = record {
    xs = [];
    ys = ts;
    next = count;
    to = stack;
    split = refl;
    reach = subst (λ x. Reach begin text x stack) (sym (append-nil ps)) reach;
    same = λ rest. ap (λ x. run limits (length x) (state count stack) rest) (sym (append-nil ps));
    stops = subst (λ x. Stops (length x) count stack ts) (sym (append-nil ps)) stops;
  }

  pub course : (ts ps : List Lexeme) (count : ℕ) (stack : List Symbol) → Reach begin text ps stack → Course ps ts count stack
  course [] ps count stack reach = stays ps [] count stack reach at_end
  course (t ∷ ts) ps count stack reach = by (moves limits count (length ps) stack (kind_of t)) refl (course ts (ps ++ t ∷ []))
    where
      by : (m : Move) → moves limits count (length ps) stack (kind_of t) ≡ m →
          ((next : ℕ) (to : List Symbol) → Reach begin text (ps ++ t ∷ []) to → Course (ps ++ t ∷ []) ts next to) → Course ps (t ∷ ts) count stack
      by refuses e go_on = stays ps (t ∷ ts) count stack reach (refused t ts e)
      by (goes (Some f) (state next to)) e go_on = stays ps (t ∷ ts) count stack reach (passed t ts f next to e)
      by (goes None (state next to)) e go_on =
          let c = go_on next to (reach-step limits begin text ps t count next stack to None reach e) in
          record {
            xs = t ∷ c.xs;
            ys = c.ys;
            next = c.next;
            to = c.to;
            split = ap (λ x. t ∷ x) c.split;
            reach = subst (λ x. Reach begin text x c.to) (append_assoc ps (t ∷ []) c.xs) c.reach;
            same = λ rest.
                ap (λ m. after (length ps) m (λ r. run limits (length ps + 1) r (c.xs ++ rest))) e
                ∙ ap (λ n. run limits n (state next to) (c.xs ++ rest)) (sym (length-append ps (t ∷ [])))
                ∙ c.same rest
                ∙ ap (λ x. run limits (length x) (state c.next c.to) rest) (append_assoc ps (t ∷ []) c.xs);
            stops = subst (λ x. Stops (length x) c.next c.to c.ys) (append_assoc ps (t ∷ []) c.xs) c.stops;
          }

  weaker : (at : ℕ) (f : ParseFault) → NotBefore (at + 1) (Some f) → NotBefore at (Some f)
  weaker at (Unexpected k) h = omega (arith, h)
  weaker at (Deep k) h = omega (arith, h)
  weaker at (Many k limit) h = omega (arith, h)
  weaker at Memory h = tt

  here : (at : ℕ) (f : ParseFault) → IsHere at f → NotBefore at (Some f)
  here at (Unexpected k) h = absurd h
  here at (Deep k) h = omega (arith, h)
  here at (Many k limit) h = omega (arith, h)
  here at Memory h = absurd h

  some-same : {x y : ParseFault} → ◌≡◌ {A = Option ParseFault} (Some x) (Some y) → x ≡ y
  some-same e = cc

  none-some : {x : ParseFault} → ◌≡◌ {A = Option ParseFault} None (Some x) → ⊥
  none-some e = cc

  unexpected-here : (at : ℕ) (f : ParseFault) → ◌≡◌ {A = Option ParseFault} (Some (Unexpected at)) (Some f) → NotBefore at (Some f)
  unexpected-here at f e = subst (λ x. NotBefore at (Some x)) (some-same e) (omega arith)

  end-from : (at : ℕ) (b : Bool) (f : ParseFault) → (if b then None else Some (Unexpected at)) ≡ Some f → NotBefore at (Some f)
  end-from at true f e = absurd (none-some e)
  end-from at false f e = unexpected-here at f e

  -- a fault comes no earlier than reading
  run-from : (ts : List Lexeme) (at count : ℕ) (stack : List Symbol) (f : ParseFault) → run limits at (state count stack) ts ≡ Some f → NotBefore at (Some f)
  run-from [] at count stack f e = end-from at (all_nothing stack) f e
  run-from (t ∷ ts) at count stack f e =
      by (moves limits count at stack (kind_of t)) (moves-here limits count at stack (kind_of t)) (λ next to. run-from ts (at + 1) next to f) e
    where
      by : (m : Move) → MovesHere at m → ((next : ℕ) (to : List Symbol) → run limits (at + 1) (state next to) ts ≡ Some f → NotBefore (at + 1) (Some f)) →
          after at m (λ r. run limits (at + 1) r ts) ≡ Some f → NotBefore at (Some f)
      by refuses h go_on e = unexpected-here at f e
      by (goes None (state next to)) h go_on e = weaker at f (go_on next to e)
      by (goes (Some g) q) h go_on e = subst (λ x. NotBefore at (Some x)) (some-same e) (here at g h)

  module _ (language : IsLanguage limits text Tree Is breaks begin) where
    no-text : (ts : List Lexeme) (s : Tree) (at : ℕ) → Is ts s → run limits 0 (state 0 begin) ts ≡ Some (Unexpected at) → ⊥
    unfolding go
    no-text ts s at d e = subst IsLimit (sym (language.read ts s d) ∙ e) (language.limit s)

    text-run : (ts : List Lexeme) (s : Tree) → Is ts s → run limits 0 (state 0 begin) ts ≡ breaks s
    unfolding go
    text-run ts s d = language.read ts s d

    -- the state is reached behind the tokens xs, whatever follows
    abbrev pub Comes : List Lexeme → ℕ → List Symbol → Type 0
    Comes xs next to = (rest : List Lexeme) → run limits 0 (state 0 begin) (xs ++ rest) ≡ run limits (length xs) (state next to) rest

    none-before : (xs : List Lexeme) (next : ℕ) (to : List Symbol) → Comes xs next to → (rest : List Lexeme) (s : Tree) →
        Is (xs ++ rest) s → NotBefore (length xs) (breaks s)
    none-before xs next to same rest s d = by (breaks s) refl
      where
        by : (o : Option ParseFault) → breaks s ≡ o → NotBefore (length xs) o
        by None e = tt
        by (Some f) e = run-from rest (length xs) next to f (sym (same rest) ∙ text-run (xs ++ rest) s d ∙ e)

    one-more : (xs ys : List Lexeme) (t : Lexeme) → take (length xs + 1) (xs ++ t ∷ ys) ≡ xs ++ t ∷ []
    one-more xs ys t = take-append-add xs (t ∷ ys) 1

    begins-as : {ps qs : List Lexeme} → ps ≡ qs → BeginsIn Tree Is ps → BeginsIn Tree Is qs
    begins-as e b = subst (λ x. BeginsIn Tree Is x) e b

    unexpected : (xs ys : List Lexeme) (next : ℕ) (to : List Symbol) → Reach begin text xs to → Comes xs next to →
        run limits 0 (state 0 begin) (xs ++ ys) ≡ Some (Unexpected (length xs)) →
        (length xs < length (xs ++ ys) → BeginsIn Tree Is (take (length xs + 1) (xs ++ ys)) → ⊥) → IsUnexpectedIn Tree Is breaks (xs ++ ys) (length xs)
    unexpected xs ys next to reach same e after = record {
      within = let l : length (xs ++ ys) ≡ length xs + length ys = length-append xs ys in omega arith;
      before = begins-as (sym (take-append_seam xs ys)) (reach-begins text Tree Is begin language.from xs to reach);
      after = after;
      short = λ _ s d. no-text (xs ++ ys) s (length xs) d e;
      earlier = λ rest s d. none-before xs next to same rest s (subst (λ x. Is (x ++ rest) s) (take-append_seam xs ys) d);
    }

    end-fault : (xs : List Lexeme) (next : ℕ) (to : List Symbol) → Reach begin text xs to → Comes xs next to → (f : ParseFault) →
        run limits 0 (state 0 begin) (xs ++ []) ≡ Some f → IsFaultIn Tree Is breaks (xs ++ []) f
    end-fault xs next to reach same f e = by (all_nothing to) refl
      where
        by : (b : Bool) → all_nothing to ≡ b → IsFaultIn Tree Is breaks (xs ++ []) f
        by true n = absurd (none-some (ap (λ b. if b then None else Some (Unexpected (length xs))) (sym n) ∙ sym (same []) ∙ e))
        by false n =
            let f_is : Unexpected (length xs) ≡ f = some-same (ap (λ b. if b then None else Some (Unexpected (length xs))) (sym n) ∙ sym (same []) ∙ e) in
            subst (IsFaultIn Tree Is breaks (xs ++ [])) f_is
            (unexpected xs [] next to reach same (e ∙ ap Some (sym f_is))
            (λ short b. absurd (let l : length (xs ++ []) ≡ length xs = ap length (append-nil xs) in omega arith)))

    refused-fault : (xs ys : List Lexeme) (t : Lexeme) (next : ℕ) (to : List Symbol) → Reach begin text xs to → Comes xs next to →
        moves limits next (length xs) to (kind_of t) ≡ refuses → (f : ParseFault) →
        run limits 0 (state 0 begin) (xs ++ t ∷ ys) ≡ Some f → IsFaultIn Tree Is breaks (xs ++ t ∷ ys) f
    refused-fault xs ys t next to reach same m f e =
        subst (IsFaultIn Tree Is breaks (xs ++ t ∷ ys)) (some-same (sym (answer ys) ∙ e))
        (unexpected xs (t ∷ ys) next to reach same (answer ys)
        (λ within b. no-text ((xs ++ t ∷ []) ++ b.rest) b.syntax (length xs)
        (subst (λ x. Is (x ++ b.rest) b.syntax) (one-more xs ys t) b.is) (behind b.rest)))
      where
        answer : (rest : List Lexeme) → run limits 0 (state 0 begin) (xs ++ t ∷ rest) ≡ Some (Unexpected (length xs))
        answer rest = same (t ∷ rest) ∙ ap (λ w. after (length xs) w (λ q. run limits (length xs + 1) q rest)) m

        behind : (rest : List Lexeme) → run limits 0 (state 0 begin) ((xs ++ t ∷ []) ++ rest) ≡ Some (Unexpected (length xs))
        behind rest = ap (run limits 0 (state 0 begin)) (append_assoc xs (t ∷ []) rest) ∙ answer rest

    excess-fault : (ts : List Lexeme) (at : ℕ) (f : ParseFault) → IsHere at f → IsExcessIn Tree Is breaks ts at f → IsFaultIn Tree Is breaks ts f
    excess-fault ts at (Unexpected k) h x = absurd h
    excess-fault ts at (Deep k) h x = subst (λ n. IsExcessIn Tree Is breaks ts n (Deep k)) (sym h) x
    excess-fault ts at (Many k limit) h x = subst (λ n. IsExcessIn Tree Is breaks ts n (Many k limit)) (sym h) x
    excess-fault ts at Memory h x = absurd h

    passed-fault : (xs ys : List Lexeme) (t : Lexeme) (next : ℕ) (to : List Symbol) → Reach begin text xs to → Comes xs next to →
        (g : ParseFault) (later : ℕ) (there : List Symbol) → moves limits next (length xs) to (kind_of t) ≡ goes (Some g) (state later there) → (f : ParseFault) →
        run limits 0 (state 0 begin) (xs ++ t ∷ ys) ≡ Some f → IsFaultIn Tree Is breaks (xs ++ t ∷ ys) f
    passed-fault xs ys t next to reach same g later there m f e =
        subst (IsFaultIn Tree Is breaks (xs ++ t ∷ ys)) (some-same (sym (answer ys) ∙ e))
        (excess-fault (xs ++ t ∷ ys) (length xs) g (subst (MovesHere (length xs)) m (moves-here limits next (length xs) to (kind_of t)))
        (record {
          within = let l : length (xs ++ t ∷ ys) ≡ length xs + length (t ∷ ys) = length-append xs (t ∷ ys) in omega arith;
          begins = begins-as (sym (one-more xs ys t)) (reach-begins text Tree Is begin language.from (xs ++ t ∷ []) there (reach-step limits begin text xs t next later to there (Some g) reach m));
          first = λ rest s d. sym (text-run ((xs ++ t ∷ []) ++ rest) s (subst (λ x. Is (x ++ rest) s) (one-more xs ys t) d)) ∙ behind rest;
        }))
      where
        answer : (rest : List Lexeme) → run limits 0 (state 0 begin) (xs ++ t ∷ rest) ≡ Some g
        answer rest = same (t ∷ rest) ∙ ap (λ w. after (length xs) w (λ q. run limits (length xs + 1) q rest)) m

        behind : (rest : List Lexeme) → run limits 0 (state 0 begin) ((xs ++ t ∷ []) ++ rest) ≡ Some g
        behind rest = ap (run limits 0 (state 0 begin)) (append_assoc xs (t ∷ []) rest) ∙ answer rest

    stop-fault : {ys : List Lexeme} (xs : List Lexeme) (next : ℕ) (to : List Symbol) → Reach begin text xs to → Comes xs next to → Stops (length xs) next to ys →
        (f : ParseFault) → run limits 0 (state 0 begin) (xs ++ ys) ≡ Some f → IsFaultIn Tree Is breaks (xs ++ ys) f
    stop-fault xs next to reach same at_end f e = end-fault xs next to reach same f e
    stop-fault xs next to reach same (refused t ys m) f e = refused-fault xs ys t next to reach same m f e
    stop-fault xs next to reach same (passed t ys g n there m) f e = passed-fault xs ys t next to reach same g n there m f e

    -- the fault that reading ends with is the fault of the tokens
    pub fault-exact : (ts : List Lexeme) (f : ParseFault) → go limits ts 0 0 begin ≡ Some f → IsFaultIn Tree Is breaks ts f
    unfolding go
    fault-exact ts f e =
        let c = course ts [] 0 begin (reach-start begin text) in
        subst (λ x. run limits 0 (state 0 begin) x ≡ Some f → IsFaultIn Tree Is breaks x f) (sym c.split)
        (stop-fault c.xs c.next c.to c.reach c.same c.stops f) e
