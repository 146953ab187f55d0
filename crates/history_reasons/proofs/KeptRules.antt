-- An entry is legal exactly where it keeps all its rules, and none that breaks one is.
use Rattle.std.proofs.Common.{◌≡◌, ℕ, suc, List, [], ◌∷◌, All, inl, inr, length, refl, ap, arith}
use Rattle.std.proofs.lemmas.List.Elements.{All-cons, All-nil}
use Rattle.policy_tree.specs.Meaning.{Meaning, PlaceTree, here, least}
use Rattle.round_model.specs.declared.entry.Entry.{Entry}
use Rattle.round_model.specs.declared.entry.Entry.TheVariants as entry
use Rattle.round_model.specs.declared.plan.Plan.{Plan}
use Rattle.round_model.specs.Kinds.{is_steal}
use Rattle.round_model.specs.Legal.{LegalNext}
use Rattle.round_model.specs.Rows.{PlacementReads, Row}
use Rattle.round_model.specs.Scenes.{scene_of}
use Rattle.history_reasons.specs.declared.reason.Reason.{Reason}
use Rattle.history_reasons.specs.Laws.{RulesLaw}
use Rattle.history_reasons.specs.Reasons.{IsReason, rule_of}
use Rattle.history_reasons.specs.Rules.{AreMade, IsFirstBroken, IsKept, Rule, attempt_once, attempt_rules, choice, chosen_in, core_there, enters, place, placement_count, read_count, read_window, round_due, round_number, round_open, round_over, rules_of, steals, threads, unit, unit_first, unit_once, wakes}

-- what stands among rules that are all kept isn't broken
none_broken : (p : Meaning) (plan : Plan) (h : List Entry) (e : Entry) (rules : List Rule) (broken : Rule) → All (IsKept p plan h e) rules → ¬ IsFirstBroken p plan h e rules broken
none_broken p plan h e [] broken kept is = is
none_broken p plan h e (rule ∷ rules) broken kept (inl (same, breaks)) = breaks (kept 0 rule (omega arith))
none_broken p plan h e (rule ∷ rules) broken kept (inr (keeps, later)) = none_broken p plan h e rules broken (λ k d inside. kept (suc k) d (omega arith)) later

-- the reads of a placement are as many as it asks for, and made in the round
placed_reads : (place : PlaceTree) (p : Meaning) (plan : Plan) (h : List Entry) (by : ℕ) (reads : List ℕ) → PlacementReads place plan (scene_of p plan h by) reads
    → (length reads ≡ placement_count place plan) × AreMade p plan h reads
unfolding scene_of
placed_reads here p plan h by reads is = (ap length is, λ k d inside. absurd (omega (arith, ap length is)))
placed_reads (least e) p plan h by reads fit = (fit.one_each, fit.each)

reads_placed : (place : PlaceTree) (p : Meaning) (plan : Plan) (h : List Entry) (by : ℕ) (reads : List ℕ) → length reads ≡ placement_count place plan → AreMade p plan h reads
    → PlacementReads place plan (scene_of p plan h by) reads
unfolding scene_of
reads_placed here p plan h by [] count made = refl
reads_placed here p plan h by (r ∷ rs) count made = absurd (omega arith)
reads_placed (least e) p plan h by reads count made = record { one_each = count; each = made }

module _ (p : Meaning) (plan : Plan) (h : List Entry) where
  abbrev Keeps : Entry → List Rule → Type 0
  Keeps e rules = All (IsKept p plan h e) rules

  -- a rule more
  also : (e : Entry) (rule : Rule) (rules : List Rule) → IsKept p plan h e rule → Keeps e rules → Keeps e (rule ∷ rules)
  also e rule rules kept rest = All-cons (IsKept p plan h e) rule rules kept rest

  none : (e : Entry) → Keeps e []
  none e = All-nil (IsKept p plan h e)

  -- what a legal attempt keeps
  steal_keeps : (by from : ℕ) (ids reads : List ℕ) → LegalNext p plan h (entry.Steal by from ids reads) → Keeps (entry.Steal by from ids reads) attempt_rules
  unfolding LegalNext Row scene_of
  steal_keeps by from ids reads legal =
      let e = entry.Steal by from ids reads in
      let row = legal.row in
      also e round_open (core_there ∷ unit_first ∷ attempt_once ∷ read_count ∷ read_window ∷ choice ∷ steals ∷ threads ∷ []) legal.begun
      (also e core_there (unit_first ∷ attempt_once ∷ read_count ∷ read_window ∷ choice ∷ steals ∷ threads ∷ []) row.core
      (also e unit_first (attempt_once ∷ read_count ∷ read_window ∷ choice ∷ steals ∷ threads ∷ []) row.worked
      (also e attempt_once (read_count ∷ read_window ∷ choice ∷ steals ∷ threads ∷ []) row.first
      (also e read_count (read_window ∷ choice ∷ steals ∷ threads ∷ []) row.read.one_each
      (also e read_window (choice ∷ steals ∷ threads ∷ []) row.read.each
      (also e choice (steals ∷ threads ∷ []) (ap chosen_in row.outcome)
      (also e steals (threads ∷ []) (ap is_steal row.outcome)
      (also e threads [] row.outcome (none e)))))))))

  fail_keeps : (by from : ℕ) (reads : List ℕ) → LegalNext p plan h (entry.Fail by from reads) → Keeps (entry.Fail by from reads) attempt_rules
  unfolding LegalNext Row scene_of
  fail_keeps by from reads legal =
      let e = entry.Fail by from reads in
      let row = legal.row in
      also e round_open (core_there ∷ unit_first ∷ attempt_once ∷ read_count ∷ read_window ∷ choice ∷ steals ∷ threads ∷ []) legal.begun
      (also e core_there (unit_first ∷ attempt_once ∷ read_count ∷ read_window ∷ choice ∷ steals ∷ threads ∷ []) row.core
      (also e unit_first (attempt_once ∷ read_count ∷ read_window ∷ choice ∷ steals ∷ threads ∷ []) row.worked
      (also e attempt_once (read_count ∷ read_window ∷ choice ∷ steals ∷ threads ∷ []) row.first
      (also e read_count (read_window ∷ choice ∷ steals ∷ threads ∷ []) row.read.one_each
      (also e read_window (choice ∷ steals ∷ threads ∷ []) row.read.each
      (also e choice (steals ∷ threads ∷ []) (ap chosen_in row.outcome)
      (also e steals (threads ∷ []) (ap is_steal row.outcome)
      (also e threads [] row.outcome (none e)))))))))

  pass_keeps : (by : ℕ) (reads : List ℕ) → LegalNext p plan h (entry.Pass by reads) → Keeps (entry.Pass by reads) attempt_rules
  unfolding LegalNext Row scene_of
  pass_keeps by reads legal =
      let e = entry.Pass by reads in
      let row = legal.row in
      also e round_open (core_there ∷ unit_first ∷ attempt_once ∷ read_count ∷ read_window ∷ choice ∷ steals ∷ threads ∷ []) legal.begun
      (also e core_there (unit_first ∷ attempt_once ∷ read_count ∷ read_window ∷ choice ∷ steals ∷ threads ∷ []) row.core
      (also e unit_first (attempt_once ∷ read_count ∷ read_window ∷ choice ∷ steals ∷ threads ∷ []) row.worked
      (also e attempt_once (read_count ∷ read_window ∷ choice ∷ steals ∷ threads ∷ []) row.first
      (also e read_count (read_window ∷ choice ∷ steals ∷ threads ∷ []) row.read.one_each
      (also e read_window (choice ∷ steals ∷ threads ∷ []) row.read.each
      (also e choice (steals ∷ threads ∷ []) (ap chosen_in row.outcome)
      (also e steals (threads ∷ []) (ap is_steal row.outcome)
      (also e threads [] row.outcome (none e)))))))))

  legal_keeps : (e : Entry) → LegalNext p plan h e → Keeps e (rules_of e)
  unfolding LegalNext Row scene_of
  legal_keeps (entry.Round number) legal =
      let e = entry.Round number in
      also e round_over (round_due ∷ round_number ∷ []) legal.complete (also e round_due (round_number ∷ []) legal.due (also e round_number [] legal.next (none e)))
  legal_keeps (entry.Enter thread by at reads) legal =
      let e = entry.Enter thread by at reads in
      let row = legal.row in
      let read = placed_reads p.place p plan h by reads row.placement.read in
      also e round_open (core_there ∷ enters ∷ read_count ∷ read_window ∷ place ∷ []) legal.begun
      (also e core_there (enters ∷ read_count ∷ read_window ∷ place ∷ []) row.core
      (also e enters (read_count ∷ read_window ∷ place ∷ []) row.next
      (also e read_count (read_window ∷ place ∷ []) read.0 (also e read_window (place ∷ []) read.1 (also e place [] row.placement.target (none e))))))
  legal_keeps (entry.Wake thread by at reads) legal =
      let e = entry.Wake thread by at reads in
      let row = legal.row in
      let read = placed_reads p.place p plan h by reads row.placement.read in
      also e round_open (core_there ∷ enters ∷ wakes ∷ read_count ∷ read_window ∷ place ∷ []) legal.begun
      (also e core_there (enters ∷ wakes ∷ read_count ∷ read_window ∷ place ∷ []) row.core
      (also e enters (wakes ∷ read_count ∷ read_window ∷ place ∷ []) row.entered
      (also e wakes (read_count ∷ read_window ∷ place ∷ []) row.next
      (also e read_count (read_window ∷ place ∷ []) read.0 (also e read_window (place ∷ []) read.1 (also e place [] row.placement.target (none e)))))))
  legal_keeps (entry.Work by did) legal =
      let e = entry.Work by did in
      let row = legal.row in
      also e round_open (core_there ∷ enters ∷ wakes ∷ unit_once ∷ unit ∷ []) legal.begun
      (also e core_there (enters ∷ wakes ∷ unit_once ∷ unit ∷ []) row.core
      (also e enters (wakes ∷ unit_once ∷ unit ∷ []) row.entered (also e wakes (unit_once ∷ unit ∷ []) row.woken (also e unit_once (unit ∷ []) row.first (also e unit [] row.outcome (none e))))))
  legal_keeps (entry.Steal by from ids reads) legal = steal_keeps by from ids reads legal
  legal_keeps (entry.Fail by from reads) legal = fail_keeps by from reads legal
  legal_keeps (entry.Pass by reads) legal = pass_keeps by reads legal

  keeps_legal : (e : Entry) → Keeps e (rules_of e) → LegalNext p plan h e
  unfolding LegalNext Row scene_of
  keeps_legal (entry.Round number) kept = record {
    complete = kept 0 round_over (omega arith);
    due = kept 1 round_over (omega arith);
    next = kept 2 round_over (omega arith);
  }
  keeps_legal (entry.Enter thread by at reads) kept = record {
    begun = kept 0 round_open (omega arith);
    row = record {
      core = kept 1 round_open (omega arith);
      next = kept 2 round_open (omega arith);
      placement = record {
        read = reads_placed p.place p plan h by reads (kept 3 round_open (omega arith)) (kept 4 round_open (omega arith));
        target = kept 5 round_open (omega arith);
      };
    };
  }
  keeps_legal (entry.Wake thread by at reads) kept = record {
    begun = kept 0 round_open (omega arith);
    row = record {
      core = kept 1 round_open (omega arith);
      entered = kept 2 round_open (omega arith);
      next = kept 3 round_open (omega arith);
      placement = record {
        read = reads_placed p.place p plan h by reads (kept 4 round_open (omega arith)) (kept 5 round_open (omega arith));
        target = kept 6 round_open (omega arith);
      };
    };
  }
  keeps_legal (entry.Work by did) kept = record {
    begun = kept 0 round_open (omega arith);
    row = record {
      core = kept 1 round_open (omega arith);
      entered = kept 2 round_open (omega arith);
      woken = kept 3 round_open (omega arith);
      first = kept 4 round_open (omega arith);
      outcome = kept 5 round_open (omega arith);
    };
  }
  keeps_legal (entry.Steal by from ids reads) kept = record {
    begun = kept 0 round_open (omega arith);
    row = record {
      core = kept 1 round_open (omega arith);
      worked = kept 2 round_open (omega arith);
      first = kept 3 round_open (omega arith);
      read = record { one_each = kept 4 round_open (omega arith); each = kept 5 round_open (omega arith) };
      outcome = kept 8 round_open (omega arith);
    };
  }
  keeps_legal (entry.Fail by from reads) kept = record {
    begun = kept 0 round_open (omega arith);
    row = record {
      core = kept 1 round_open (omega arith);
      worked = kept 2 round_open (omega arith);
      first = kept 3 round_open (omega arith);
      read = record { one_each = kept 4 round_open (omega arith); each = kept 5 round_open (omega arith) };
      outcome = kept 8 round_open (omega arith);
    };
  }
  keeps_legal (entry.Pass by reads) kept = record {
    begun = kept 0 round_open (omega arith);
    row = record {
      core = kept 1 round_open (omega arith);
      worked = kept 2 round_open (omega arith);
      first = kept 3 round_open (omega arith);
      read = record { one_each = kept 4 round_open (omega arith); each = kept 5 round_open (omega arith) };
      outcome = kept 8 round_open (omega arith);
    };
  }

  -- what keeps all its rules is legal
  pub kept_is_legal : (e : Entry) → Keeps e (rules_of e) → LegalNext p plan h e
  kept_is_legal = keeps_legal

  -- and what has a reason isn't
  pub reason_is_illegal : (e : Entry) (why : Reason) → IsReason p plan h e why → ¬ LegalNext p plan h e
  reason_is_illegal e why is legal = none_broken p plan h e (rules_of e) (rule_of why) (legal_keeps e legal) is.broken

pub rules_law : RulesLaw
rules_law = record {
  legal = λ p plan h e. (legal_keeps p plan h e, keeps_legal p plan h e);
  reason = reason_is_illegal;
}
