-- The entries that may come next, core after core.
use Rattle.std.proofs.Common.{◌≡◌, ℕ, ◌+◌, ◌<◌, ◌≤◌, ◌⊎◌, inl, inr, List, [], ◌∷◌, ◌++◌, Some, All, length, replicate, refl, sym, ap, subst, ◌∙◌, arith, eq-or-lt_of_le}
use Rattle.std.specs.Prelude.{◌≢◌, Any, IsNone, IsSomeAnd, IsTrue, None, Option, get_or, slice_index}
use Rattle.std.proofs.lemmas.Bool.{false≢true}
use Rattle.std.proofs.lemmas.List.{get_or_append_left, length-append, length-replicate, get_or-replicate}
use Rattle.std.proofs.lemmas.List.Elements.{All-push}
use Rattle.std.proofs.lemmas.List.Quantifiers.{Any-push, all_pairs_push}
use Rattle.policy_tree.specs.Meaning.{Meaning}
use Rattle.round_model.specs.declared.entry.Entry.{Entry}
use Rattle.round_model.specs.declared.entry.Entry.TheVariants as entry
use Rattle.round_model.specs.declared.plan.Plan.{Plan}
use Rattle.round_model.specs.Entries.{acting_core}
use Rattle.round_model.specs.Legal.{IsComplete, IsDue, LegalNext, rounds_begun}
use Rattle.round_model.specs.Scenes.{has_attempted, own_entries}
use Rattle.round_judge.specs.declared.past.Past.{Past}
use Rattle.round_judge.specs.Past.{IsWindow}
use Rattle.round_judge.specs.Readable.{ReadIn}
use Rattle.serial_steps.specs.declared.turns.NextStep.{NextStep}
use Rattle.serial_steps.specs.declared.turns.NextStep.TheVariants as next
use Rattle.history_reasons.specs.Next.{AreApart, AreNext, HasTurn, HaveTurns}

any_left : {X : Type 0} (P : X → Type 0) (xs : List X) (y : X) → Any P xs → Any P (xs ++ y ∷ [])
any_left P xs y (k, x, inside, is, holds) = (k, x, omega (arith, length-append xs (y ∷ [])), get_or_append_left xs (y ∷ []) x k inside ∙ is, holds)

-- a look that is made just now lies in the rows
pub now_in : (plan : Plan) (past : Past) → IsWindow past → (reads : List ℕ) → reads ≡ replicate plan.cores past.entries → ReadIn plan past reads
now_in plan past window reads is = record {
  one_each = ap length is ∙ length-replicate plan.cores past.entries;
  from_start = λ c there. let some = window.some in omega (arith, read c there);
  to_now = λ c there. omega (arith, read c there);
}
  where
    read : (c : ℕ) → c < plan.cores → slice_index reads c ≡ past.entries
    read c there = ap (λ xs. slice_index xs c) is ∙ get_or-replicate plan.cores c past.entries 0 there

-- a core that has looked and adds nothing has made its attempt
pub is_over : {A : Type 0} (step : NextStep) (look : List ℕ) → ((e : Entry) → step ≡ next.Adds e → ⊥) → (step ≡ next.Looks → IsNone (Some look) × A) → (h : List Entry) (a : ℕ)
    → (step ≡ next.Over → IsTrue (has_attempted (own_entries h a))) → IsTrue (has_attempted (own_entries h a))
is_over (next.Adds e) look never looks h a over = absurd (never e refl)
is_over next.Looks look never looks h a over = absurd (let none = (looks refl).0 in cc)
is_over next.Over look never looks h a over = over refl

module _ (p : Meaning) (plan : Plan) (h : List Entry) where
  -- of the first no cores nothing is asked
  pub no_turns : (list : List Entry) → list ≡ [] → HaveTurns p plan h 0 list
  no_turns list is = subst (HaveTurns p plan h 0) (sym is) (record {
    legal = λ k d inside. absurd (omega arith);
    of_them = λ k d inside. absurd (omega arith);
    each = λ a below turn. absurd (omega arith);
    once = λ i j d less inside. absurd (omega arith);
  })

  module _ (cores : ℕ) (list : List Entry) (so_far : HaveTurns p plan h cores list) where
    by_place : (P : ℕ → Type 0) → ((a : ℕ) → a < cores → P a) → P cores → (a : ℕ) → a < cores + 1 → P a
    by_place P before last a below = at_end (eq-or-lt_of_le (let within : a ≤ cores = omega arith in within))
      where
        at_end : (a ≡ cores) ⊎ (a < cores) → P a
        at_end (inl same) = subst P (sym same) last
        at_end (inr less) = before a less

    -- a core that is one of the first is one of one more, and isn't the next
    still_of_them : (o : Option ℕ) → IsSomeAnd o (λ a. a < cores) → IsSomeAnd o (λ a. a < cores + 1)
    still_of_them None is = is
    still_of_them (Some a) is = omega (arith, is)

    all_still : All (λ x. IsSomeAnd (acting_core x) (λ a. a < cores + 1)) list
    all_still k d inside = still_of_them (acting_core (get_or list k d)) (so_far.of_them k d inside)

    apart_from : (o other : Option ℕ) → IsSomeAnd o (λ a. a < cores) → other ≡ Some cores → o ≢ other
    apart_from o other below is same =
        let self : cores < cores = subst (λ (x : Option ℕ). IsSomeAnd x (λ a. a < cores)) (same ∙ is) below in
        absurd (omega (arith, self))

    -- an entry of the next core
    pub turn_more : (e : Entry) → LegalNext p plan h e → acting_core e ≡ Some cores → HaveTurns p plan h (cores + 1) (list ++ e ∷ [])
    turn_more e legal acts = record {
      legal = All-push (LegalNext p plan h) list e so_far.legal legal;
      each = by_place (λ a. HasTurn plan h a → Any (λ x. acting_core x ≡ Some a) (list ++ e ∷ []))
          (λ a below turn. any_left (λ x. acting_core x ≡ Some a) list e (so_far.each a below turn))
          (λ turn. Any-push (λ x. acting_core x ≡ Some cores) list e acts);
      of_them = All-push (λ x. IsSomeAnd (acting_core x) (λ a. a < cores + 1)) list e all_still
          (subst (λ (o : Option ℕ). IsSomeAnd o (λ a. a < cores + 1)) (sym acts) (let next : cores < cores + 1 = omega arith in next));
      once = all_pairs_push (λ x y. acting_core x ≢ acting_core y) list e so_far.once
          (λ k d inside. apart_from (acting_core (get_or list k d)) (acting_core e) (so_far.of_them k d inside) acts);
    }

    -- the turn of the next core is over
    pub turn_over : IsTrue (has_attempted (own_entries h cores)) → HaveTurns p plan h (cores + 1) list
    turn_over over = record {
      legal = so_far.legal;
      each = by_place (λ a. HasTurn plan h a → Any (λ x. acting_core x ≡ Some a) list) so_far.each (λ turn. absurd (false≢true (sym turn.left ∙ over)));
      of_them = all_still;
      once = so_far.once;
    }

  acts_not_none : (o : Option ℕ) → IsSomeAnd o (λ a. a < plan.cores) → o ≢ None
  acts_not_none o below same = subst (λ (x : Option ℕ). IsSomeAnd x (λ a. a < plan.cores)) same below

  -- the next round, where it is due
  pub round_more : (list : List Entry) → HaveTurns p plan h plan.cores list → (number : ℕ) → number ≡ rounds_begun h + 1 → LegalNext p plan h (entry.Round number)
      → AreNext p plan h (list ++ entry.Round number ∷ [])
  round_more list turns number is legal = record {
    legal = All-push (LegalNext p plan h) list (entry.Round number) turns.legal legal;
    each = λ a turn. any_left (λ e. acting_core e ≡ Some a) list (entry.Round number) (turns.each a turn.there turn);
    round = λ complete due. Any-push (λ e. e ≡ entry.Round (rounds_begun h + 1)) list (entry.Round number) (ap (λ n. entry.Round n) is);
    once = all_pairs_push (λ x y. acting_core x ≢ acting_core y) list (entry.Round number) turns.once
        (λ k d inside. acts_not_none (acting_core (get_or list k d)) (turns.of_them k d inside));
  }

  -- and where it isn't
  pub round_none : (list : List Entry) → HaveTurns p plan h plan.cores list → (IsComplete plan h → IsDue plan h → ⊥) → AreNext p plan h list
  round_none list turns never = record {
    legal = turns.legal;
    each = λ a turn. turns.each a turn.there turn;
    round = λ complete due. absurd (never complete due);
    once = turns.once;
  }

  -- before the first round no core has a turn
  pub none_begun : (list : List Entry) (cores : ℕ) → list ≡ [] → rounds_begun h ≡ 0 → HaveTurns p plan h cores list
  none_begun list cores is none = record {
    legal = subst (All (LegalNext p plan h)) (sym is) (λ k d inside. absurd (omega arith));
    of_them = subst (All (λ x. IsSomeAnd (acting_core x) (λ a. a < cores))) (sym is) (λ k d inside. absurd (omega arith));
    each = λ a below turn. let begun = turn.begun in absurd (omega arith);
    once = subst AreApart (sym is) (λ i j d less inside. absurd (omega arith));
  }
