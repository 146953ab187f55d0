-- A history in memory with no entry yet, and as a round begins.
use Rattle.std.proofs.Common.{◌≡◌, ℕ, ◌+◌, false, List, [], ◌∷◌, ◌++◌, refl, sym, ap, subst, arith}
use Rattle.policy_tree.specs.declared.typed.Policy.{Policy}
use Rattle.policy_tree.specs.Meaning.{Meaning, meaning_of}
use Rattle.policy_eval.specs.Obligations.{MeetsHandlerObligations}
use Rattle.round_model.specs.declared.entry.Entry.{Entry}
use Rattle.round_model.specs.declared.entry.Entry.TheVariants as entry
use Rattle.round_model.specs.declared.plan.Plan.{Plan}
use Rattle.round_model.specs.Fits.{Fits}
use Rattle.round_model.specs.Legal.{LegalNext, LegalRound, rounds_begun}
use Rattle.round_model.proofs.Longer.{begun_more}
use Rattle.round_judge.specs.declared.past.Past.{Past}
use Rattle.round_judge.specs.Past.{IsPastOf, StandsFor}
use Rattle.serial_steps.proofs.SerialEnding.{round_room}
use Rattle.core_table.proofs.Histories.{own_begins}
use Rattle.core_table.proofs.Opening.{first_agrees}
use Rattle.turn_tests.specs.declared.memory_calls.MemoryCalls.{MemoryCalls}
use Rattle.turn_tests.specs.Memory.{HasBegun, HasGrown, IsKept, MayGrow, Keeps, MayBegin, history_of, meaning_in_memory, past_of, plan_of, policy_of}
use Rattle.turn_tests.proofs.Growing.{told}

-- nothing is owed yet
pub opened : (policy : Policy) (plan : Plan) (past : Past) (h : List Entry) → Fits (meaning_of policy) plan → MeetsHandlerObligations (meaning_of policy) → h ≡ [] → StandsFor (meaning_of policy) plan past []
    → IsPastOf (meaning_of policy) plan past → Keeps (meaning_of policy) plan past h
opened policy plan past h fits handlers empty stands belongs = subst (Keeps (meaning_of policy) plan past) (sym empty) (record {
  fits = fits;
  handlers = handlers;
  stands = stands;
  belongs = belongs;
  reserve = (first_agrees policy plan fits belongs.limits handlers).reserve;
})

module _ (it : MemoryCalls) (kept : IsKept it) (may : MayBegin it) (number : ℕ) (is : number ≡ rounds_begun (history_of it) + 1) where
  abbrev p : Meaning
  p = meaning_in_memory it

  abbrev plan : Plan
  plan = plan_of it

  abbrev h : List Entry
  h = history_of it

  legal_round : LegalNext p plan h (entry.Round number)
  unfolding LegalNext
  legal_round = subst (LegalRound plan h) (sym is) may.next

  pub round_next : MayGrow it (entry.Round number)
  round_next = let room = may.room in let few = kept.belongs.limits.few_entries in record { legal = legal_round; room = omega arith }

  module _ (now : MemoryCalls) (grown : HasGrown (entry.Round number) it now) where
    abbrev begun : MemoryCalls
    begun = record it { core = 0; past = past_of now; history = h ++ entry.Round number ∷ []; none_due = false }

    begun_kept : IsKept begun
    begun_kept = record {
      fits = kept.fits;
      handlers = kept.handlers;
      stands = grown.stands;
      belongs = grown.belongs;
      reserve = round_room p plan kept.fits kept.handlers h number grown.stands.legal may.room;
    }

    pub round_kept : IsKept (record now { core = 0; none_due = false })
    round_kept = subst (λ (x : MemoryCalls). IsKept (record x { core = 0; none_due = false })) (sym grown.is) begun_kept

    pub round_begun : HasBegun it (record now { core = 0; none_due = false })
    round_begun = subst (λ (x : MemoryCalls). HasBegun it (record x { core = 0; none_due = false })) (sym grown.is) (record {
      ready = record {
        kept = begun_kept;
        agrees = let more = begun_more h (entry.Round number) in let some = kept.fits.some_cores in
            told (policy_of it) plan 0 (h ++ entry.Round number ∷ []) false kept.fits kept.belongs.limits kept.handlers grown.stands.legal begun_kept.reserve (omega arith) (omega arith) (λ marked. absurd (cc));
      };
      core = refl;
      history = ap (λ (n : ℕ). h ++ entry.Round n ∷ []) is;
      fresh = λ c. own_begins c h (entry.Round number) refl;
    })
