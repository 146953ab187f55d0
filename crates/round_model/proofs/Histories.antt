-- Induction over legal histories, and the number of the open round.
use Rattle.std.proofs.Common.{◌≡◌, List, [], ◌∷◌, ◌++◌, length, take, refl, sym, ◌∙◌, subst, arith, take_all, IsTrue, nat_lt, ◌<◌, ◌&&◌, not, Bool, true, false}
use Rattle.std.proofs.lemmas.List.{append-nil, append_assoc, take-append-le}
use mathlib.Core.Option.{some}
use lib.ListN.{get_elem?}
use Rattle.policy_tree.specs.Meaning.{Meaning}
use Rattle.round_model.specs.declared.entry.Entry.{Entry}
use Rattle.round_model.specs.declared.entry.Entry.TheVariants as entry
use Rattle.round_model.specs.declared.plan.Plan.{Plan}
use Rattle.round_model.specs.After.{round_of}
use Rattle.round_model.specs.BoundsLaws.{OpenRoundLaw}
use Rattle.round_model.specs.Legal.{Legal, LegalNext, rounds_begun, IsDue, has_ended, is_due}
use Rattle.round_model.proofs.Grows.{legal_grows}
use Rattle.round_model.proofs.Longer.{begun_more, round_of_more}
use Rattle.round_model.proofs.Walks.{nothing_legal}
use Rattle.std.specs.List.{list_any}
use Rattle.std.proofs.lemmas.Bool.Decides.{nat_tests}

-- the entry after those
behind : {A : Type 0} (h : List A) (e : A) (es : List A) → get_elem? (h ++ e ∷ es) (length h) ≡ some e
behind [] e es = refl
behind (y ∷ ys) e es = behind ys e es

module _ (p : Meaning) (plan : Plan) where
  -- what holds at the beginning, and with each legal entry more, holds of every legal history
  pub legal_induction : (P : List Entry → Type 0) → P [] → ((h : List Entry) (e : Entry) → Legal p plan h → LegalNext p plan h e → P h → P (h ++ e ∷ []))
      → (h : List Entry) → Legal p plan h → P h
  legal_induction P base step h legal = onward [] h (nothing_legal p plan) base legal
    where
      onward : (done todo : List Entry) → Legal p plan done → P done → Legal p plan (done ++ todo) → P (done ++ todo)
      onward done [] so_far holds all = subst P (sym (append-nil done)) holds
      onward done (e ∷ es) so_far holds all =
          let front : take (length done) (done ++ e ∷ es) ≡ done = take-append-le (length done) done (e ∷ es) (omega arith) ∙ take_all (length done) done (omega arith) in
          let next = subst (λ g. LegalNext p plan g e) front (all (length done) e (behind done e es)) in
          subst P (append_assoc done (e ∷ []) es)
          (onward (done ++ e ∷ []) es (legal_grows.grows p plan done e so_far next) (step done e so_far next holds) (subst (Legal p plan) (sym (append_assoc done (e ∷ []) es)) all))

  counted_on : (h : List Entry) (e : Entry) → LegalNext p plan h e → round_of h ≡ rounds_begun h → round_of (h ++ e ∷ []) ≡ rounds_begun (h ++ e ∷ [])
  unfolding LegalNext
  counted_on h (entry.Round number) legal same = round_of_more h (entry.Round number) ∙ (legal.next ∙ sym (begun_more h (entry.Round number)))
  counted_on h (entry.Enter thread by at reads) legal same = let e = entry.Enter thread by at reads in omega (arith, round_of_more h e, begun_more h e, same)
  counted_on h (entry.Wake thread by at reads) legal same = let e = entry.Wake thread by at reads in omega (arith, round_of_more h e, begun_more h e, same)
  counted_on h (entry.Work by what) legal same = let e = entry.Work by what in omega (arith, round_of_more h e, begun_more h e, same)
  counted_on h (entry.Steal by from threads reads) legal same = let e = entry.Steal by from threads reads in omega (arith, round_of_more h e, begun_more h e, same)
  counted_on h (entry.Fail by from reads) legal same = let e = entry.Fail by from reads in omega (arith, round_of_more h e, begun_more h e, same)
  counted_on h (entry.Pass by reads) legal same = let e = entry.Pass by reads in omega (arith, round_of_more h e, begun_more h e, same)

pub open_round : OpenRoundLaw
open_round p plan h legal = legal_induction p plan (λ g. round_of g ≡ rounds_begun g) refl (λ g e so_far next same. counted_on p plan g e next same) h legal

-- a round that is due is within the plan's
pub due_within : (plan : Plan) (h : List Entry) → IsDue plan h → rounds_begun h < plan.rounds
unfolding is_due
due_within plan h due = within (nat_lt (rounds_begun h) plan.rounds) refl due
  where
    within : (b : Bool) → nat_lt (rounds_begun h) plan.rounds ≡ b → IsTrue (b && list_any (λ t. not (has_ended h t)) plan.threads) → rounds_begun h < plan.rounds
    within true e due = grind (arith, nat_tests)
    within false e due = absurd (cc)
