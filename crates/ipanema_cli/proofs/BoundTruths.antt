-- From how `bound` ends to the truth of what it says.
use Rattle.std.proofs.Common.{◌≡◌, ◌≢◌, ℕ, inl, inr, List, [], ◌∷◌, Option, Some, refl, sym, arith, subst}
use Rattle.std.proofs.lemmas.List.Elements.{All-contains}
use Rattle.sched_base.specs.declared.limits.TheConstants.{CHECK_BUDGET}
use Rattle.sched_io.specs.Puts.{joined}
use Rattle.sched_io.specs.Told.{Told}
use Rattle.sched_io.specs.Written.{Adds}
use Rattle.policy_tree.specs.Meaning.{Meaning}
use Rattle.policy_eval.specs.LastWaiting.{LeavesLastToIdle}
use Rattle.policy_eval.specs.Obligations.{MeetsObligations, Statement, batch_leaves_last, filter_leaves_last}
use Rattle.policy_eval.specs.Resolved.{IsResolved}
use Rattle.policy_reader.specs.Spelled.{SpellsPolicy}
use Rattle.linear_form.specs.Difference.{IsDifference}
use Rattle.linear_form.specs.System.{LinearSystem}
use Rattle.obligations.specs.DifferencePolicies.{ComparesDifferences}
use Rattle.obligations.specs.Systems.{systems_of}
use Rattle.obligations.proofs.Differing.{comparisons_give_differences}
use Rattle.policy_checker.specs.Answers as obligation
use Rattle.policy_checker.specs.Outcomes.{HasOpen, IsTrueOf, outcome_of}
use Rattle.policy_checker.specs.declared.answer.ObAnswer.{ObAnswer}
use Rattle.policy_checker.specs.declared.answer.ObAnswer.TheVariants as ob_answer
use Rattle.policy_checker.specs.declared.answer.Outcome.{Outcome}
use Rattle.policy_checker.specs.declared.answer.Outcome.TheVariants as outcome
use Rattle.policy_checker.specs.declared.verdict.Verdict.{Verdict}
use Rattle.policy_checker.specs.declared.verdict.Verdict.TheVariants as verdict
use Rattle.policy_checker.proofs.Points.{points_refute}
use Rattle.policy_checker.proofs.True.{meets, statements_are_true}
use Rattle.policy_answers.specs.Bounds.{IsBounded, IsBoundOf, IsToldOfLast, bound_lines, told_of}
use Rattle.policy_answers.specs.Checks.{IsCheckOf}
use Rattle.policy_answers.specs.Lines.{check_lines}
use Rattle.policy_answers.specs.declared.answer.CheckAnswer.TheVariants as checked
use Rattle.policy_answers.specs.declared.bounding.BoundAnswer.{BoundAnswer}
use Rattle.policy_answers.specs.declared.bounding.BoundAnswer.TheVariants as bounded
use Rattle.policy_answers.specs.declared.bounding.Bounding.{Bounding}
use Rattle.round_laws.proofs.MainTheorem.{main_theorem}
use Rattle.ipanema_cli.specs.BoundTruths.{BoundsTruly, IsTrueOfLast, LastIsOpen, MustBound, ShowsTaking}
use Rattle.ipanema_cli.specs.Causes.{OneOf}
use Rattle.ipanema_cli.specs.CheckTruths.{AcceptedPolicy, Spells}
use Rattle.ipanema_cli.specs.Status.{bound_status, code_of, outcome_status, verdict_status}
use Rattle.ipanema_cli.specs.Texts.{MayBeLong, MayRead}
use Rattle.ipanema_cli.specs.declared.answers.Answer.TheVariants as answer
use Rattle.ipanema_cli.specs.declared.texts.TextKind.TheVariants as kind
use Rattle.ipanema_cli.proofs.CheckTruths.{long_refuses, low_or_stopped, not_long, pays_for_waste, pays_if_equal, refusal_high, refusal_not_0, stopped_refuses, tells_fault, verdict_answers}
use Rattle.ipanema_cli.proofs.Stopped.{Stopped, at_4, at_5, at_6, stopped_not}
use Rattle.ipanema_cli.proofs.PolicyFacts.{judged_refuses, never_left, read_decides, read_refuses, refused_refuses, refused_text, resolved, same_policy}
use Rattle.command_words.specs.Command.{Asked, bound}
use Rattle.ipanema_cli.specs.Commands.{statuses_of}
use Rattle.ipanema_cli.specs.Truths.{IsTruthful}
use Rattle.ipanema_cli.proofs.CheckTruths.{long_policy}
use Rattle.ipanema_cli.proofs.CodeLemmas.{bound_among}
use Rattle.ipanema_cli.proofs.CommandLaw.{CommandLaw, Crowds, Known, Shows, given}
use Rattle.ipanema_cli.proofs.Crowding.{bound_crowds}

-- the answers to the two statements tell the truth of the last waiting thread
last_true : (p : Meaning) (f b : ObAnswer) → IsTrueOf p filter_leaves_last (outcome_of f) → IsTrueOf p batch_leaves_last (outcome_of b)
    → IsTrueOfLast p (outcome_of (told_of f b).1)
last_true p (ob_answer.Fails point) b of_filter of_batch = λ leaves. of_filter leaves.filter
last_true p (ob_answer.Holds certs) (ob_answer.Holds others) of_filter of_batch = record { filter = of_filter; batch = of_batch }
last_true p (ob_answer.Holds certs) (ob_answer.Fails point) of_filter of_batch = λ leaves. of_batch leaves.batch
last_true p (ob_answer.Holds certs) (ob_answer.Undecided points) of_filter of_batch = inr of_batch
last_true p (ob_answer.Undecided points) (ob_answer.Holds certs) of_filter of_batch = inl of_filter
last_true p (ob_answer.Undecided points) (ob_answer.Fails point) of_filter of_batch = λ leaves. of_batch leaves.batch
last_true p (ob_answer.Undecided points) (ob_answer.Undecided others) of_filter of_batch = inl of_filter

-- and where one fails, the point shows it
taking_shown : (p : Meaning) → IsResolved p → (f b : ObAnswer) → obligation.IsAnswer CHECK_BUDGET (systems_of p filter_leaves_last) f
    → obligation.IsAnswer CHECK_BUDGET (systems_of p batch_leaves_last) b → ShowsTaking p (told_of f b).0 (told_of f b).1
taking_shown p is (ob_answer.Fails point) b of_filter of_batch = points_refute p is filter_leaves_last CHECK_BUDGET point.vals of_filter
taking_shown p is (ob_answer.Holds certs) (ob_answer.Holds others) of_filter of_batch = tt
taking_shown p is (ob_answer.Holds certs) (ob_answer.Fails point) of_filter of_batch = points_refute p is batch_leaves_last CHECK_BUDGET point.vals of_batch
taking_shown p is (ob_answer.Holds certs) (ob_answer.Undecided points) of_filter of_batch = tt
taking_shown p is (ob_answer.Undecided points) (ob_answer.Holds certs) of_filter of_batch = tt
taking_shown p is (ob_answer.Undecided points) (ob_answer.Fails point) of_filter of_batch = points_refute p is batch_leaves_last CHECK_BUDGET point.vals of_batch
taking_shown p is (ob_answer.Undecided points) (ob_answer.Undecided others) of_filter of_batch = tt

abbrev OfDifferences : LinearSystem → Type 0
OfDifferences system = IsDifference system.rows

-- no system of a policy whose comparisons are differences is open
statement_closed : (p : Meaning) → ComparesDifferences p → (s : Statement) → HasOpen (systems_of p s) → ⊥
statement_closed p form s (system, inside, open_one) =
    open_one.no_differences (All-contains OfDifferences (systems_of p s) system (comparisons_give_differences p form s) inside)

last_closed : (p : Meaning) → ComparesDifferences p → LastIsOpen p → ⊥
last_closed p form (inl open_one) = statement_closed p form filter_leaves_last open_one
last_closed p form (inr open_one) = statement_closed p form batch_leaves_last open_one

stopped_must : (policy : Told) (code : ℕ) → Stopped code → MustBound policy code
stopped_must policy code stop = record {
  leaves = λ p held met last. elim stop [ at_4 e ↦ rw e refl | at_5 e ↦ rw e refl | at_6 e ↦ rw e refl ];
  takes = λ p held no. elim stop [ at_4 e ↦ rw e refl | at_5 e ↦ rw e refl | at_6 e ↦ rw e refl ];
  decides = λ p held none last. stopped_not code 3 (λ e. omega arith) (λ e. omega arith) (λ e. omega arith) stop;
  differences = λ p held form. stopped_not code 3 (λ e. omega arith) (λ e. omega arith) (λ e. omega arith) stop;
}

pub stopped_bound : (policy : Told) (before after : Option (List ℕ)) (code : ℕ) → Stopped code → BoundsTruly policy before after code
stopped_bound policy before after code stop = record {
  bounded = λ h. absurd (stopped_not code 0 (λ e. omega arith) (λ e. omega arith) (λ e. omega arith) stop h);
  lines = λ low. absurd (low_or_stopped code low stop);
  must = stopped_must policy code stop;
  refuses = stopped_refuses policy code stop;
  bad_text = λ h. absurd (stopped_not code 2 (λ e. omega arith) (λ e. omega arith) (λ e. omega arith) stop h);
}

outcome_not_2 : (told : Outcome) (code : ℕ) → code ≡ code_of (outcome_status told) → code ≢ 2
outcome_not_2 outcome.Holds code own e = omega arith
outcome_not_2 outcome.Fails code own e = omega arith
outcome_not_2 outcome.Undecided code own e = omega arith

-- under 0 the last waiting thread is left to idle cores
leaves_at_0 : (p : Meaning) (told : Outcome) (code : ℕ) → IsTrueOfLast p told → code ≡ code_of (outcome_status told) → code ≡ 0 → LeavesLastToIdle p
leaves_at_0 p outcome.Holds code word own zero = word
leaves_at_0 p outcome.Fails code word own zero = absurd (omega arith)
leaves_at_0 p outcome.Undecided code word own zero = absurd (omega arith)

module _ (policy : Told) (text : List ℕ) (p : Meaning) (read : MayRead kind.Policy policy text) (spells : SpellsPolicy text p) where
  same : (q : Meaning) → Spells policy q → p ≡ q
  same q held = same_policy policy text p q read spells held

  -- what must come of a policy that is accepted
  bounded_must : (told : Outcome) (code : ℕ) → MeetsObligations p → IsTrueOfLast p told → code ≡ code_of (outcome_status told) → MustBound policy code
  bounded_must outcome.Holds code met leaves own = record {
    leaves = λ q held met_q last. rw own refl;
    takes = λ q held no. absurd (no (subst MeetsObligations (same q held) met) (subst LeavesLastToIdle (same q held) leaves));
    decides = λ q held none last three. absurd (omega arith);
    differences = λ q held form three. absurd (omega arith);
  }
  bounded_must outcome.Fails code met takes own = record {
    leaves = λ q held met_q last. absurd (takes (subst LeavesLastToIdle (sym (same q held)) last));
    takes = λ q held no. rw own refl;
    decides = λ q held none last three. absurd (omega arith);
    differences = λ q held form three. absurd (omega arith);
  }
  bounded_must outcome.Undecided code met open_one own = record {
    leaves = λ q held met_q last. rw own refl;
    takes = λ q held no. rw own refl;
    decides = λ q held none last three. last (subst LastIsOpen (same q held) open_one);
    differences = λ q held form three. last_closed q form (subst LastIsOpen (same q held) open_one);
  }

-- the policy is accepted
bounded_truly : (policy : Told) (text : List ℕ) (told : Bounding) (before after : Option (List ℕ)) (code : ℕ) → MayRead kind.Policy policy text
    → IsBounded text told → code ≡ code_of (outcome_status told.outcome) → Adds (joined (bound_lines (bounded.Bounded told))) before after
    → BoundsTruly policy before after code
bounded_truly policy text told before after code read is own added =
    let p : Meaning = is.p in
    let whole_policy = resolved policy text p read is.spells in
    let met = meets p whole_policy is.certified in
    let accepted : AcceptedPolicy policy p = record {
      spelled = (text, read, is.spells);
      certified = is.certified;
      meets = met;
      wastes_no_core = main_theorem p met;
      pays = pays_if_equal p met;
    } in
    let reason : IsToldOfLast p told = is.told in
    let of_both = last_true p reason.filter reason.batch
    (statements_are_true p whole_policy filter_leaves_last reason.filter reason.of_filter)
    (statements_are_true p whole_policy batch_leaves_last reason.batch reason.of_batch) in
    let word : IsTrueOfLast p told.outcome = subst (IsTrueOfLast p) (sym reason.told) of_both in
    record {
      bounded = λ h.
          let last = leaves_at_0 p told.outcome code word own h in
          (p, record { accepted = accepted; leaves_last = last; pays = pays_for_waste p met last });
      lines = λ low. inl (record {
        p = p;
        bounding = told;
        accepted = accepted;
        reason = reason;
        word = word;
        shows = taking_shown p whole_policy reason.filter reason.batch reason.of_filter reason.of_batch;
        written = added;
        status = own;
      });
      must = bounded_must policy text p read is.spells told.outcome code met word own;
      refuses = judged_refuses policy text p code read is.spells is.few;
      bad_text = λ h. absurd (outcome_not_2 told.outcome code own h);
    }

-- the policy was judged, and isn't accepted
judged : (policy : Told) (v : Verdict) (text : List ℕ) (before after : Option (List ℕ)) (code : ℕ) → MayRead kind.Policy policy text → IsCheckOf text (checked.Judged v)
    → code ≡ code_of (verdict_status v) → code ≢ 0 → code ≢ 2 → OneOf (1 ∷ 3 ∷ 4 ∷ 5 ∷ 6 ∷ []) code → Adds (joined (check_lines (checked.Judged v))) before after
    → BoundsTruly policy before after code
judged policy v text before after code read is own not_0 not_2 other added =
    let decides_it = read_decides policy text (checked.Judged v) code read is own in
    record {
      bounded = λ h. absurd (not_0 h);
      lines = λ low. inr (not_0, verdict_answers policy text v before after code read is own added);
      must = record {
        leaves = λ q held met last. decides_it.accepts q held met;
        takes = λ q held no. other;
        decides = λ q held none last. decides_it.decides q held none;
        differences = never_left policy code decides_it;
      };
      refuses = read_refuses policy text (checked.Judged v) code read is own;
      bad_text = λ h. absurd (not_2 h);
    }

-- a file was read
read_bound : (policy : Told) (text : List ℕ) (b : BoundAnswer) (before after : Option (List ℕ)) (code : ℕ) → MayRead kind.Policy policy text → IsBoundOf text b
    → code ≡ code_of (bound_status b) → Adds (joined (bound_lines b)) before after → BoundsTruly policy before after code
read_bound policy text (bounded.Bounded told) before after code read is own added = bounded_truly policy text told before after code read is own added
read_bound policy text (bounded.Unbounded (checked.Judged (verdict.Accepted kept))) before after code read is own added = absurd is.1
read_bound policy text (bounded.Unbounded (checked.Judged (verdict.Refused answers kept))) before after code read is own added =
    judged policy (verdict.Refused answers kept) text before after code read is.0 own (λ e. omega arith) (λ e. omega arith) (rw own refl) added
read_bound policy text (bounded.Unbounded (checked.Judged (verdict.Undecided answers kept))) before after code read is own added =
    judged policy (verdict.Undecided answers kept) text before after code read is.0 own (λ e. omega arith) (λ e. omega arith) (rw own refl) added
read_bound policy text (bounded.Unbounded (checked.Unjudged why)) before after code read is own added = record {
  bounded = λ h. absurd (refusal_not_0 why code own h);
  lines = λ low. absurd (refusal_high why code own low);
  must = record {
    leaves = λ q held met last. absurd (refused_text policy text why q read is.0 held);
    takes = λ q held no. absurd (refused_text policy text why q read is.0 held);
    decides = λ q held none last three. refused_text policy text why q read is.0 held;
    differences = λ q held form three. refused_text policy text why q read is.0 held;
  };
  refuses = refused_refuses policy text why code read is.0 own;
  bad_text = λ h. tells_fault policy text why before after code read is.0 own added h;
}

long_bound : (policy : Told) (before after : Option (List ℕ)) (code : ℕ) → MayBeLong kind.Policy policy → code ≡ 10 → BoundsTruly policy before after code
long_bound policy before after code long own = record {
  bounded = λ h. absurd (omega arith);
  lines = λ low. absurd (let bad = rw own at low in cc);
  must = record {
    leaves = λ q held met last. absurd (not_long kind.Policy policy held.text long held.held);
    takes = λ q held no. absurd (not_long kind.Policy policy held.text long held.held);
    decides = λ q held none last three. not_long kind.Policy policy held.text long held.held;
    differences = λ q held form three. not_long kind.Policy policy held.text long held.held;
  };
  refuses = long_refuses policy code long;
  bad_text = λ h. absurd (omega arith);
}

pub bound_law : (Passed : ℕ → ℕ → Type 0) (policy : List ℕ) → CommandLaw Passed (Some (bound policy))
bound_law Passed policy =
    let asked : Option Asked = Some (bound policy) in
    record {
      known = λ text a is. given answer.Bounded _ (Known asked) (λ b is. bound_among (statuses_of asked) refl refl refl refl refl b) a is;
      crowds = λ told text before after a files is.
          given answer.Bounded _ (Crowds asked told before after) (bound_crowds asked told before after policy (text kind.Policy) (inl (refl, refl)) files.0) a is;
      shows = λ told text before after code a files is.
          given answer.Bounded _ (Shows (IsTruthful Passed asked told before after code) before after code)
          (λ b is own added. read_bound (told policy) (text kind.Policy) b before after code files.0 is own added) a is;
      long = λ told before after code which long own. long_bound (told policy) before after code (long_policy which told policy long) own;
      stopped = λ told before after code stop file. stopped_bound (told policy) before after code stop;
    }
