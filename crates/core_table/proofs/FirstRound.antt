-- What a caller with the opening seat alone needs: the first round, and one core held, published and let go.
use Rattle.std.proofs.Common.{◌≡◌, ℕ, ◌<◌, ◌&&◌, not, true, cond, List, [], ◌∷◌, ◌++◌, map, length, refl, sym, ap, ◌∙◌, subst, arith, eq-eqb}
use Rattle.std.specs.List.{list_any}
use Rattle.std.specs.Prelude.{IsTrue, nat_lt}
use Rattle.std.proofs.lemmas.Bool.Decides.{nat_tests}
use mathlib.Core.Option.{some, some-ne-none}
use lib.ListN.{get_elem?}
use Rattle.policy_tree.specs.declared.typed.Policy.{Policy}
use Rattle.policy_tree.specs.Meaning.{Meaning}
use Rattle.round_model.specs.declared.entry.Entry.{Entry}
use Rattle.round_model.specs.declared.entry.Entry.TheVariants as entry
use Rattle.round_model.specs.declared.plan.Plan.{Plan}
use Rattle.round_model.specs.declared.plan.Planned.{Planned}
use Rattle.round_model.specs.Legal.{IsComplete, IsDue, Legal, LegalNext, has_ended, is_complete, is_due, rounds_begun}
use Rattle.round_model.proofs.Histories.{legal_induction, open_round}
use Rattle.round_model.proofs.Longer.{begun_more}
use Rattle.serial_steps.specs.SerialEnds.{RoundFits}
use Rattle.core_state.specs.Views.{CoreView}
use Rattle.core_table.specs.declared.views.Turn.{Turn}
use Rattle.core_table.specs.declared.views.View.{View}
use Rattle.core_table.specs.Views.{all_idle, first_view, giving, holding, meaning_in, published, remembering, taken}
use Rattle.core_table.specs.Told.{Agrees, HasAllBack, IsIn, IsNextRound, MayBeginRound}
use Rattle.core_table.specs.Plays.{Begins}
use Rattle.core_table.specs.Public.{HasCore, publishing}
use Rattle.core_table.specs.Seats.{IsNewest}
use Rattle.core_table.proofs.Beginning.{idle_at}

-- behind a legal entry some round has begun
some_begun : (p : Meaning) (plan : Plan) (h : List Entry) (e : Entry) → LegalNext p plan h e → rounds_begun (h ++ e ∷ []) ≡ 0 → ⊥
unfolding LegalNext
some_begun p plan h (entry.Round number) next none = let more = begun_more h (entry.Round number) in absurd (omega arith)
some_begun p plan h (entry.Enter thread by at reads) next none = let more = begun_more h (entry.Enter thread by at reads) in let one = next.begun in absurd (omega arith)
some_begun p plan h (entry.Wake thread by at reads) next none = let more = begun_more h (entry.Wake thread by at reads) in let one = next.begun in absurd (omega arith)
some_begun p plan h (entry.Work by what) next none = let more = begun_more h (entry.Work by what) in let one = next.begun in absurd (omega arith)
some_begun p plan h (entry.Steal by from threads reads) next none = let more = begun_more h (entry.Steal by from threads reads) in let one = next.begun in absurd (omega arith)
some_begun p plan h (entry.Fail by from reads) next none = let more = begun_more h (entry.Fail by from reads) in let one = next.begun in absurd (omega arith)
some_begun p plan h (entry.Pass by reads) next none = let more = begun_more h (entry.Pass by reads) in let one = next.begun in absurd (omega arith)

-- so a legal history in which none has is empty
none_before : (p : Meaning) (plan : Plan) (h : List Entry) → Legal p plan h → rounds_begun h ≡ 0 → length h ≡ 0
none_before p plan h legal =
    legal_induction p plan (λ g. rounds_begun g ≡ 0 → length g ≡ 0) (λ _. refl) (λ g e so_far next before none. absurd (some_begun p plan g e next none)) h legal

-- before the first round the seat knows that there is no entry
none_yet : (v : View) (h : List Entry) → v.round ≡ 0 → Agrees v h → (rounds_begun h ≡ 0) × (h ≡ [])
none_yet v h first ag =
    let round = ag.dated.round in let counted = open_round (meaning_in v) v.plan h ag.legal in let none : rounds_begun h ≡ 0 = omega arith in
    (none, empty h (none_before (meaning_in v) v.plan h ag.legal none))
  where
    empty : (g : List Entry) → length g ≡ 0 → g ≡ []
    empty [] is = refl
    empty (x ∷ xs) is = absurd (omega arith)

first_due : (plan : Plan) → 0 < plan.rounds → 0 < length plan.threads → IsDue plan []
unfolding is_due
first_due plan rounds some_thread = is plan.threads some_thread
  where
    more : nat_lt 0 plan.rounds ≡ true
    more = let low = rounds in grind (arith, nat_tests)

    is : (threads : List Planned) → 0 < length threads → IsTrue (nat_lt 0 plan.rounds && list_any (λ t. not (has_ended [] t)) threads)
    is [] some_one = absurd (omega arith)
    is (t ∷ ts) some_one = ap (λ b. b && true) more

first_complete : (plan : Plan) → IsComplete plan []
unfolding is_complete
first_complete plan = refl

-- The first round may begin, if the plan has a round and a thread, and room for all that the round may add.
pub may_begin_first : (v : View) → v.round ≡ 0 → 0 < v.plan.rounds → 0 < length v.plan.threads → RoundFits v.plan 0 → MayBeginRound v 1
may_begin_first v first rounds some_thread fits h ag = let t = none_yet v h first ag in subst (λ (g : List Entry). IsNextRound v.plan g 1) (sym t.1) record {
  next = record { complete = first_complete v.plan; due = first_due v.plan rounds some_thread; next = refl };
  room = fits;
}

-- and stands at position 0
pub begins_at_0 : (v w : View) (n : ℕ) → v.round ≡ 0 → Begins 1 v n w → n ≡ 0
begins_at_0 v w n first d = sym d.at ∙ ap length (none_yet v d.history first d.before).1

-- No core's seat is out: at the start, and after each step of the opening seat alone.
idle_in : (n c : ℕ) (t : Turn) → get_elem? (all_idle n) c ≡ some t → IsIn t
idle_in n c t is = subst IsIn (sym (idle_at n c t is)) tt

pub back_first : (policy : Policy) (plan : Plan) → HasAllBack (first_view policy plan)
back_first policy plan = record { merged = []; turns = all_idle plan.cores; role = refl; back = idle_in plan.cores }

pub back_begun : (number n : ℕ) (v w : View) → Begins number v n w → HasAllBack w
back_begun number n v w d = record { merged = d.history ++ entry.Round number ∷ []; turns = all_idle v.plan.cores; role = ap (λ (u : View). u.role) d.view; back = idle_in v.plan.cores }

pub back_same : (v w : View) → w.role ≡ v.role → HasAllBack v → HasAllBack w
back_same v w is b = record { merged = b.merged; turns = b.turns; role = is ∙ b.role; back = b.back }

pub back_given : (v : View) → HasAllBack v → HasAllBack (giving v)
back_given v b = record { merged = b.merged; turns = b.turns; role = ap (remembering v.round v.held) b.role; back = b.back }

-- One core: it is held, published as it is, and let go.
pub has_taken : (c : ℕ) (y : CoreView) (v : View) → HasCore (holding c y v) c y
has_taken c y v = record { place = 0; of = taken v.plan.cores c y; there = refl; core = refl; state = refl }

pub last_published : (c : ℕ) (y : CoreView) (v : View) → v.held ≡ [] → IsNewest (publishing c y (holding c y v)) c y []
last_published c y v free = record {
  held = (λ i. cond (eq-eqb c c refl i) (taken v.plan.cores c y) (taken v.plan.cores c y) ∷ map (published v.plan.cores c) (free i));
  apart = λ i x at. absurd (some-ne-none x (sym at));
}

pub none_given : (c : ℕ) (y : CoreView) (v : View) → v.held ≡ [] → (giving (publishing c y (holding c y v))).held ≡ []
none_given c y v free = ap (map (published v.plan.cores c)) free
