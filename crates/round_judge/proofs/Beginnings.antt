-- The past of the empty history.
use Rattle.std.proofs.Common.{◌≡◌, ℕ, zero, suc, ◌+◌, ◌<◌, nat_lt, false, List, [], ◌∷◌, map, length, replicate, get_or, sum_by, zero-add, All, refl, sym, ap, ◌∙◌, arith, subst}
use Rattle.std.proofs.Math.Seq.{take-nil}
use Rattle.std.proofs.lemmas.List.{length-replicate}
use Rattle.std.proofs.lemmas.List.FromFn.{get_or-map-range_with_len, length-map-range_with_len}
use Rattle.std.proofs.lemmas.List.Sums.{count_by-le-length, sum_by-cons}
use Rattle.std.specs.List.{range_with_len}
use Rattle.sched_base.specs.declared.limits.TheConstants.{MAX_CORES, MAX_THREADS}
use Rattle.policy_tree.specs.Meaning.{Meaning}
use Rattle.policy_eval.specs.Fitting.{LoadsFit}
use Rattle.round_model.specs.declared.entry.Entry.{Entry}
use Rattle.round_model.specs.declared.plan.Plan.{Plan}
use Rattle.round_model.specs.declared.plan.Planned.{Planned}
use Rattle.round_model.specs.declared.state.CountAndLoad.{CountAndLoad}
use Rattle.round_model.specs.After.{after, after_from}
use Rattle.round_model.specs.Bounds.{CoreInBounds, standing_count}
use Rattle.round_model.specs.Cores.{core_numbers, listed, opening_state, seen_of}
use Rattle.round_model.specs.Fits.{Fits}
use Rattle.round_model.specs.Limits.{IsWithinLimits}
use Rattle.round_model.specs.Lists.{Lists}
use Rattle.round_model.specs.Reads.{value_read}
use Rattle.round_model.proofs.Openings.{opening_core}
use Rattle.round_model.proofs.Walks.{nothing_legal}
use Rattle.round_judge.specs.declared.past.Past.{Past}
use Rattle.round_judge.specs.declared.past.Turn.{Turn}
use Rattle.round_judge.specs.Past.{IsPastOf, StandsFor, is_flagged, seen_in, turn_of}

abbrev pub no_turn : Turn
no_turn = record { worked = false; attempted = false }

abbrev pub nothing : CountAndLoad
nothing = record { nr = 0; load = 0 }

turns-begun : (from n : ℕ) → replicate n no_turn ≡ map (turn_of []) (range_with_len from n)
turns-begun from zero = refl
turns-begun from (suc n) = ap (λ (rest : List Turn). no_turn ∷ rest) (turns-begun (from + 1) n)

-- what the fields of a past are as it begins
pub record Begins (plan : Plan) (past : Past) : Type 0 where
  pub state : past.state ≡ listed plan.cores (opening_state plan)
  pub entries : past.entries ≡ 0
  pub rounds : past.rounds ≡ 0
  pub turns : past.turns ≡ replicate plan.cores no_turn
  pub arrivals : past.arrivals ≡ []
  pub rows : past.rows ≡ replicate MAX_CORES nothing ∷ []
  pub ended : past.ended ≡ replicate (MAX_THREADS + 1) false

same_everywhere : {X : Type 0} (x : X) (n at : ℕ) → get_or (replicate n x) at x ≡ x
same_everywhere x zero at = refl
same_everywhere x (suc n) zero = refl
same_everywhere x (suc n) (suc at) = same_everywhere x n at

first_row : (k c : ℕ) → seen_in (replicate MAX_CORES nothing ∷ []) k c ≡ nothing
first_row zero c = same_everywhere nothing MAX_CORES c
first_row (suc k) c = refl

nobody_stands : (plan : Plan) (cores : List ℕ) → sum_by standing_count (map (opening_state plan) cores) ≡ 0
unfolding opening_state
nobody_stands plan [] = refl
nobody_stands plan (c ∷ cores) = sum_by-cons standing_count (opening_state plan c) (map (opening_state plan) cores) ∙ (zero-add _ ∙ nobody_stands plan cores)

module _ (plan : Plan) (past : Past) (begins : Begins plan past) where
  row_begun : (k c : ℕ) → seen_in past.rows k c ≡ nothing
  row_begun k c = ap (λ rows. seen_in rows k c) begins.rows ∙ first_row k c

  seen_begun : (p : Meaning) (k c : ℕ) → seen_in past.rows k c ≡ value_read p plan [] c (0 + k)
  unfolding after_from opening_state
  seen_begun p k c = row_begun k c ∙ sym (ap (λ (h : List Entry). seen_of (after p plan h c)) (take-nil (0 + k)))

  pub stands_begun : (p : Meaning) → StandsFor p plan past []
  unfolding after_from
  stands_begun p = record {
    legal = nothing_legal p plan;
    state = begins.state;
    entries = begins.entries;
    rounds = begins.rounds;
    round = begins.rounds;
    turns = begins.turns ∙ turns-begun 0 plan.cores;
    arrivals = λ begun. absurd (let none = begins.rounds in omega arith);
    rows = record { window = ap (λ rows. 0 + length rows) begins.rows; each = λ k c inside there. seen_begun p k c };
    ended = λ k d inside. ap (λ flags. is_flagged flags (get_or plan.threads k d).id) begins.ended ∙ same_everywhere false (MAX_THREADS + 1) (get_or plan.threads k d).id;
  }

  fits_begun : (p : Meaning) (k c : ℕ) → LoadsFit p (seen_in past.rows k c).nr (seen_in past.rows k c).load
  fits_begun p k c = subst (λ (seen : CountAndLoad). LoadsFit p seen.nr seen.load) (sym (row_begun k c)) (record { few = omega arith; light = omega arith; heavy = omega arith })

  in_bounds_begun : (p : Meaning) → Fits p plan → All (CoreInBounds p) past.state
  in_bounds_begun p fits = subst (All (CoreInBounds p)) (sym begins.state) (λ k d inside.
      let there : k < plan.cores = omega (arith, length-map-range_with_len (opening_state plan) 0 plan.cores) in
      subst (CoreInBounds p) (sym (get_or-map-range_with_len (opening_state plan) 0 plan.cores k k d there (omega arith))) (opening_core p plan fits k there))

  pub belongs_begun : (p : Meaning) → Fits p plan → IsWithinLimits plan → Lists plan past.directory → IsPastOf p plan past
  belongs_begun p fits limits lists =
      let nobody = ap (sum_by standing_count) begins.state ∙ nobody_stands plan (core_numbers plan) in
      let none = ap length begins.arrivals in let one = ap length begins.rows in
      let entries = begins.entries in let rounds = begins.rounds in
      record {
        limits = limits;
        cores = ap length begins.state ∙ length-map-range_with_len (opening_state plan) 0 plan.cores;
        turns = ap length begins.turns ∙ length-replicate plan.cores no_turn;
        each = in_bounds_begun p fits;
        total = omega (arith, count_by-le-length (λ (t : Planned). nat_lt past.rounds t.round) plan.threads);
        window = record { some = omega arith; within = omega arith; few = omega arith };
        rows = λ k c inside there. fits_begun p k c;
        rounds = omega arith;
        lists = lists;
        ended = ap length begins.ended ∙ length-replicate (MAX_THREADS + 1) false;
      }
