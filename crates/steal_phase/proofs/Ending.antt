-- What an attempt came to, by what was drawn.
use Rattle.std.proofs.Common.{◌≡◌, ◌≢◌, ℕ, true, false, Bool, cond, List, [], ◌∷◌, ◌++◌, Option, Some, None, refl, sym, ap, ◌∙◌, subst, inl, inr}
use Rattle.std.specs.Prelude.{IsSomeAnd}
use Rattle.sched_base.specs.declared.task.Task.{Task}
use Rattle.policy_eval.specs.Orders.{best_of}
use Rattle.policy_tree.specs.Meaning.{Meaning}
use Rattle.round_model.specs.declared.entry.Entry.{Entry}
use Rattle.round_model.specs.declared.entry.Entry.TheVariants as entry
use Rattle.round_model.specs.declared.plan.Plan.{Plan}
use Rattle.round_model.specs.After.{after}
use Rattle.round_model.specs.Attempts.{attempt_on, attempt_with, moves_after, moves_with, present_values, steal_or_fail}
use Rattle.round_model.specs.Choices.{may_steal}
use Rattle.round_model.specs.Cores.{Cores}
use Rattle.round_model.specs.Legal.{Legal}
use Rattle.round_model.specs.Moves.{handed, received}
use Rattle.round_model.specs.Work.{before}
use Rattle.core_table.specs.declared.views.View.{View}
use Rattle.core_table.specs.Views.{meaning_in}
use Rattle.select_phase.specs.declared.looks.Look.{Look}
use Rattle.steal_phase.specs.declared.outcome.Outcome.TheVariants as outcome
use Rattle.steal_phase.specs.Attempts.{Attempted, IsDrawn, IsNext, TakesNothing, entry_of, victim_in}

none_best : (first : Task → Task → Bool) (queue : List Task) → best_of first queue ≡ None → queue ≡ []
none_best first [] is = refl
none_best first (t ∷ queue) is = absurd (cc)

module _ (p : Meaning) (plan : Plan) (m : Cores) (a v : ℕ) (reads : List ℕ) where
  -- the threads that are taken, the first of them that one
  all_of : Task → List ℕ
  all_of t = t.id ∷ moves_after p plan a v p.batch (received t (m a)) (handed t.id (m v))

  -- the threads that are taken, if there are any
  taken_of : Bool → List Task → List ℕ
  taken_of may queue = moves_with (cond may (best_of (before p.steal) queue) None) all_of

  -- an attempt that fails takes nothing
  fails : entry.Fail a v reads ≡ attempt_on p plan m a reads v → TakesNothing p plan m a v
  unfolding all_of taken_of
  fails is = by_filter (may_steal p (present_values plan m a) (present_values plan m v)) refl (best_of (before p.steal) (m v).queue) refl is
    where
      by_filter : (may : Bool) → may_steal p (present_values plan m a) (present_values plan m v) ≡ may → (best : Option Task) → best_of (before p.steal) (m v).queue ≡ best
          → entry.Fail a v reads ≡ steal_or_fail a v reads (moves_with (cond may best None) all_of) → TakesNothing p plan m a v
      by_filter false filter best queue e = inl filter
      by_filter true filter None queue e = inr (none_best (before p.steal) (m v).queue queue)
      by_filter true filter (Some t) queue e = absurd (cc)

  -- and one that steals does
  steals : (threads : List ℕ) → entry.Steal a v threads reads ≡ attempt_on p plan m a reads v → TakesNothing p plan m a v → ⊥
  unfolding all_of taken_of
  steals threads is (inl filter) =
      let failed : entry.Steal a v threads reads ≡ entry.Fail a v reads = is ∙ ap (λ may. steal_or_fail a v reads (taken_of may (m v).queue)) filter in absurd (cc)
  steals threads is (inr empty) =
      let failed : entry.Steal a v threads reads ≡ entry.Fail a v reads = is ∙ (ap (λ queue. steal_or_fail a v reads (taken_of may queue)) empty ∙ either may) in absurd (cc)
    where
      may : Bool
      may = may_steal p (present_values plan m a) (present_values plan m v)

      either : (b : Bool) → steal_or_fail a v reads (taken_of b []) ≡ entry.Fail a v reads
      either true = refl
      either false = refl

-- without a choice it passes
pub passes : (look : Look) (at : ℕ) (v : View) → look.choice ≡ None → IsDrawn look at (entry.Pass look.by look.reads) v → Attempted look (outcome.Passed at) v
passes look at v none drawn = record {
  drawn = drawn;
  passed = (λ _. none, λ _. tt);
  failed = (λ is. absurd is, λ some. subst (λ (o : Option ℕ). IsSomeAnd o (TakesNothing (meaning_in v) v.plan (after (meaning_in v) v.plan drawn.next.history) look.by)) none some);
}

module _ (look : Look) (at from : ℕ) (v : View) (chosen : look.choice ≡ Some from) where
  not_passed : look.choice ≡ None → ⊥
  not_passed none = let both : Some from ≡ None = sym chosen ∙ none in absurd (cc)

  -- the entry names the core that was chosen
  named : (threads : List ℕ) → steal_or_fail look.by from look.reads threads ≡ steal_or_fail look.by (victim_in look.choice) look.reads threads
  named threads = ap (λ o. steal_or_fail look.by (victim_in o) look.reads threads) (sym chosen)

  named_next : (threads : List ℕ) → IsNext at (steal_or_fail look.by from look.reads threads) v → IsNext at (steal_or_fail look.by (victim_in look.choice) look.reads threads) v
  named_next threads next = record {
    history = next.history;
    agrees = next.agrees;
    position = next.position;
    legal = subst (λ (e : Entry). Legal (meaning_in v) v.plan (next.history ++ e ∷ [])) (named threads) next.legal;
    above = next.above;
  }

  on_it : (e : Entry) (m : Cores) → e ≡ attempt_with (meaning_in v) v.plan m look.by look.reads look.choice → e ≡ attempt_on (meaning_in v) v.plan m look.by look.reads from
  on_it e m is = is ∙ ap (attempt_with (meaning_in v) v.plan m look.by look.reads) chosen

  fails_with : IsDrawn look at (entry.Fail look.by from look.reads) v → Attempted look (outcome.Failed at) v
  unfolding named_next
  fails_with drawn =
      let m = after (meaning_in v) v.plan drawn.next.history in
      let nothing = fails (meaning_in v) v.plan m look.by from look.reads (on_it (entry.Fail look.by from look.reads) m drawn.attempt) in
      record {
        drawn = record { next = named_next [] drawn.next; attempt = sym (named []) ∙ drawn.attempt };
        passed = (λ is. absurd is, λ none. absurd (not_passed none));
        failed = (λ _. subst (λ (o : Option ℕ). IsSomeAnd o (TakesNothing (meaning_in v) v.plan m look.by)) (sym chosen) nothing, λ _. tt);
      }

  -- no thread was taken
  pub fails_at : (threads : List ℕ) → threads ≡ [] → IsDrawn look at (steal_or_fail look.by from look.reads threads) v → Attempted look (outcome.Failed at) v
  fails_at threads none drawn = fails_with (subst (λ (ids : List ℕ). IsDrawn look at (steal_or_fail look.by from look.reads ids) v) none drawn)

  -- threads were taken
  pub steals_at : (threads : List ℕ) → threads ≢ [] → IsDrawn look at (steal_or_fail look.by from look.reads threads) v → Attempted look (outcome.Stole at threads) v
  unfolding named_next
  steals_at [] some drawn = absurd (some refl)
  steals_at (id ∷ ids) some drawn =
      let m = after (meaning_in v) v.plan drawn.next.history in let threads = id ∷ ids in
      let taken = steals (meaning_in v) v.plan m look.by from look.reads threads (on_it (entry.Steal look.by from threads look.reads) m drawn.attempt) in
      record {
        drawn = record { next = named_next threads drawn.next; attempt = sym (named threads) ∙ drawn.attempt };
        passed = (λ is. absurd is, λ none. absurd (not_passed none));
        failed = (λ is. absurd is, λ some. absurd (taken (subst (λ (o : Option ℕ). IsSomeAnd o (TakesNothing (meaning_in v) v.plan m look.by)) chosen some)));
      }

  -- the entry that was added, as the outcome says it
  pub failed_entry : (threads : List ℕ) → threads ≡ [] → steal_or_fail look.by from look.reads threads ≡ entry_of look (outcome.Failed at)
  failed_entry threads none = ap (steal_or_fail look.by from look.reads) none ∙ named []

  pub stolen_entry : (threads : List ℕ) → threads ≢ [] → steal_or_fail look.by from look.reads threads ≡ entry_of look (outcome.Stole at threads)
  stolen_entry [] some = absurd (some refl)
  stolen_entry (id ∷ ids) some = named (id ∷ ids)
