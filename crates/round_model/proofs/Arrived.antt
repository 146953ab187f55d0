-- The threads that have entered: one more with each Enter, and the same with any other entry.
use Rattle.std.proofs.Common.{◌≡◌, ℕ, suc, ◌+◌, ◌≤◌, ◌||◌, ◌&&◌, Bool, true, false, eqb, List, [], ◌∷◌, ◌++◌, find, count_by, All, IfSome, Option, Some, None, IsSomeAnd, refl, ap, ap₂, subst, ◌∙◌, arith}
use Rattle.std.proofs.lemmas.Bool.Decides.{nat_tests}
use Rattle.std.proofs.lemmas.List.Sums.{sum_by-cons}
use Rattle.policy_tree.specs.Meaning.{Meaning}
use Rattle.round_model.specs.declared.entry.Entry.{Entry}
use Rattle.round_model.specs.declared.entry.Entry.TheVariants as entry
use Rattle.round_model.specs.declared.plan.Plan.{Plan}
use Rattle.round_model.specs.declared.plan.Planned.{Planned}
use Rattle.round_model.specs.After.{round_of}
use Rattle.round_model.specs.BoundsLaws.{has_entered, is_awaited}
use Rattle.round_model.specs.Entries.{lets_in}
use Rattle.round_model.specs.Fits.{Fits}
use Rattle.round_model.specs.Legal.{Legal, LegalNext}
use Rattle.round_model.specs.Rows.{Row}
use Rattle.round_model.specs.Scenes.{entering_next, is_entering, own_entries, scene_of}
use Rattle.round_model.proofs.Awaited.{entered_more, fresh, let_in_awaited}
use Rattle.round_model.proofs.Counting.{counted}
use Rattle.round_model.proofs.Counting.{count_fewer, count_one_fewer}
use Rattle.round_model.proofs.Finding.{find-All, find-passes}
use Rattle.round_model.proofs.Gaining.{named_comes}

-- those of some numbers that have entered
abbrev pub entered_name : (ℕ → Bool) → List Entry → Planned → Bool
entered_name named h t = named t.id && has_entered h t

still_entered : (named before more : Bool) → (named && before) ≡ true → (named && (before || more)) ≡ true
still_entered true true more is = refl
still_entered true false more is = absurd (cc)
still_entered false before more is = absurd (cc)

now_entered : (before : Bool) → (before || true) ≡ true
now_entered true = refl
now_entered false = refl

module _ (named : ℕ → Bool) (p : Meaning) (plan : Plan) (fits : Fits p plan) (h : List Entry) (so_far : Legal p plan h) where
  stays_entered : (e : Entry) (t : Planned) → entered_name named h t ≡ true → entered_name named (h ++ e ∷ []) t ≡ true
  stays_entered e t is = ap (λ b. named t.id && b) (entered_more h e t) ∙ still_entered (named t.id) (has_entered h t) (lets_in t.id e) is

  no_fewer : (e : Entry) → count_by (entered_name named h) plan.threads ≤ count_by (entered_name named (h ++ e ∷ [])) plan.threads
  no_fewer e = count_fewer (entered_name named (h ++ e ∷ [])) (entered_name named h) plan.threads (stays_entered e)

  one_more_in : (thread by at : ℕ) (reads : List ℕ) (found : Option Planned) → find (is_entering (round_of h) by (own_entries h by)) plan.threads ≡ found
      → IsSomeAnd found (λ (t : Planned). t.id ≡ thread)
      → count_by (entered_name named h) plan.threads + counted (named thread) ≤ count_by (entered_name named (h ++ entry.Enter thread by at reads ∷ [])) plan.threads
  one_more_in thread by at reads None is next = absurd next
  one_more_in thread by at reads (Some t) is next =
      let e = entry.Enter thread by at reads in
      let pick = is_entering (round_of h) by (own_entries h by) in
      let awaited = let_in_awaited h t by (find-passes pick plan.threads t is) in
      let each = find-All pick (λ (x : Planned). is_awaited h x ≡ true → has_entered h x ≡ false) plan.threads (fresh p plan fits h so_far) in
      let new : has_entered h t ≡ false = subst (λ (o : Option Planned). IfSome o (λ x. is_awaited h x ≡ true → has_entered h x ≡ false)) is each awaited in
      elim (named thread) as (λ b. named thread ≡ b → count_by (entered_name named h) plan.threads + counted b ≤ count_by (entered_name named (h ++ e ∷ [])) plan.threads) [
        | true ↦ λ has.
            let own : named t.id ≡ true = ap named next ∙ has in
            let let_in : eqb thread t.id ≡ true = grind (arith, nat_tests) in
            let was : entered_name named h t ≡ false = ap₂ (λ x y. x && y) own new in
            let now : entered_name named (h ++ e ∷ []) t ≡ true = ap₂ (λ x y. x && y) own (entered_more h e t ∙ (ap (λ b. has_entered h t || b) let_in ∙ now_entered (has_entered h t))) in
            count_one_fewer (entered_name named (h ++ e ∷ [])) (entered_name named h) pick plan.threads t (stays_entered e) is now was
        | false ↦ λ has. let fewer = no_fewer e in omega arith
      ] refl

  pub entered_grows : (e : Entry) → LegalNext p plan h e → count_by (entered_name named h) plan.threads + named_comes named e ≤ count_by (entered_name named (h ++ e ∷ [])) plan.threads
  unfolding LegalNext Row scene_of entering_next
  entered_grows (entry.Round number) legal = let fewer = no_fewer (entry.Round number) in omega arith
  entered_grows (entry.Enter thread by at reads) legal = one_more_in thread by at reads (find (is_entering (round_of h) by (own_entries h by)) plan.threads) refl legal.row.next
  entered_grows (entry.Wake thread by at reads) legal = let fewer = no_fewer (entry.Wake thread by at reads) in omega arith
  entered_grows (entry.Work by what) legal = let fewer = no_fewer (entry.Work by what) in omega arith
  entered_grows (entry.Steal by from threads reads) legal = let fewer = no_fewer (entry.Steal by from threads reads) in omega arith
  entered_grows (entry.Fail by from reads) legal = let fewer = no_fewer (entry.Fail by from reads) in omega arith
  entered_grows (entry.Pass by reads) legal = let fewer = no_fewer (entry.Pass by reads) in omega arith

both_counted : (named awaited entered : Bool) → (awaited ≡ true → entered ≡ false) → counted (named && entered) + counted (named && awaited) ≤ counted named
both_counted true true entered apart = let none = ap counted (apart refl) in omega arith
both_counted true false true apart = omega arith
both_counted true false false apart = omega arith
both_counted false awaited entered apart = omega arith

-- who has entered and who has yet to are different threads
pub entered_or_awaited : (named : ℕ → Bool) (h : List Entry) (threads : List Planned) → All (λ (t : Planned). is_awaited h t ≡ true → has_entered h t ≡ false) threads
    → count_by (entered_name named h) threads + count_by (λ (t : Planned). named t.id && is_awaited h t) threads ≤ count_by (λ (t : Planned). named t.id) threads
entered_or_awaited named h [] apart = omega arith
entered_or_awaited named h (t ∷ threads) apart =
    let rest = entered_or_awaited named h threads (λ k d inside. apart (suc k) d (omega arith)) in
    let here = both_counted (named t.id) (is_awaited h t) (has_entered h t) (apart 0 t (omega arith)) in
    omega (
      arith,
      sum_by-cons (λ (x : Planned). counted (entered_name named h x)) t threads,
      sum_by-cons (λ (x : Planned). counted (named x.id && is_awaited h x)) t threads,
      sum_by-cons (λ (x : Planned). counted (named x.id)) t threads,
    )
