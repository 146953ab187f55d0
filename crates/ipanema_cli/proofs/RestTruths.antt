-- From how `rest` ends to the truth of what it says.
use Rattle.std.proofs.Common.{◌≡◌, ◌≢◌, ℕ, suc, ◌+◌, ◌≤◌, ℤ, pos, ◌+ℤ◌, ◌≤ℤ◌, Bool, true, false, true≢false, not, ◌&&◌, inl, inr, List, [], ◌∷◌, Option, Some, min, refl, sym, ◌∙◌, arith, subst}
use Rattle.std.proofs.lemmas.Int.{ints}
use Rattle.std.proofs.lemmas.List.Elements.{All-contains}
use Rattle.sched_base.specs.declared.limits.TheConstants.{CHECK_BUDGET, MAX_LOAD}
use Rattle.sched_io.specs.Puts.{joined}
use Rattle.sched_io.specs.Told.{Told}
use Rattle.sched_io.specs.Written.{Adds}
use Rattle.policy_tree.specs.declared.variables.TheConstants.{OTHER_LOAD, SELF_LOAD}
use Rattle.policy_tree.specs.Meaning.{Meaning}
use Rattle.policy_eval.specs.Obligations.{MeetsObligations, RestGap, rest_gap}
use Rattle.policy_eval.specs.Ranges.{AreIn, greatest_weight, least_weight}
use Rattle.policy_eval.specs.Resolved.{IsResolved}
use Rattle.policy_eval.specs.Sights.{assigned}
use Rattle.policy_eval.specs.Values.{Assignment, holds, variable_of}
use Rattle.policy_eval.proofs.Statements.{handler_obligations}
use Rattle.policy_reader.specs.Spelled.{SpellsPolicy}
use Rattle.linear_form.specs.Difference.{IsDifference}
use Rattle.linear_form.specs.System.{LinearSystem}
use Rattle.obligations.specs.DifferencePolicies.{ComparesDifferences}
use Rattle.obligations.specs.Refutations.{cores_fit, gap_is_wide, refutation}
use Rattle.obligations.specs.Systems.{systems_of, variable_ranges, variables_of}
use Rattle.obligations.proofs.Differing.{comparisons_give_differences}
use Rattle.obligations.proofs.Balance.{core_fits, core_of, filter_sees, loads_test}
use Rattle.obligations.proofs.Given.{for_all_values}
use Rattle.obligations.proofs.Tests.{and_true, le_tells, not_false}
use Rattle.policy_checker.specs.Laws.{FailsAt}
use Rattle.policy_checker.specs.Outcomes.{HasOpen}
use Rattle.policy_checker.specs.RestGaps.{IsLeastGap, IsOpenGap}
use Rattle.policy_checker.specs.declared.answer.ObAnswer.TheVariants as ob_answer
use Rattle.policy_checker.specs.declared.rest_gaps.LeastGap.{LeastGap}
use Rattle.policy_checker.specs.declared.rest_gaps.LeastGap.TheVariants as gap
use Rattle.policy_checker.specs.declared.verdict.Verdict.{Verdict}
use Rattle.policy_checker.specs.declared.verdict.Verdict.TheVariants as verdict
use Rattle.policy_checker.proofs.True.{meets, statements_are_true}
use Rattle.policy_answers.specs.Checks.{IsCheckOf}
use Rattle.policy_answers.specs.Lines.{check_lines}
use Rattle.policy_answers.specs.Rests.{IsAtRest, IsRestOf, IsToldOfGap, rest_lines}
use Rattle.policy_answers.specs.declared.answer.CheckAnswer.TheVariants as checked
use Rattle.policy_answers.specs.declared.resting.RestAnswer.{RestAnswer}
use Rattle.policy_answers.specs.declared.resting.RestAnswer.TheVariants as rested
use Rattle.policy_answers.specs.declared.resting.Resting.{Resting}
use Rattle.rest_laws.proofs.Gap as cores
use Rattle.rest_laws.proofs.LowestFirst.{lowest_first}
use Rattle.rest_bounds.specs.Following.{raises_lowest}
use Rattle.rest_bounds.proofs.Keeping.{raises_law}
use Rattle.round_laws.proofs.MainTheorem.{main_theorem}
use Rattle.round_laws.proofs.MoveObligations.{move_obligations}
use Rattle.ipanema_cli.specs.Causes.{OneOf}
use Rattle.ipanema_cli.specs.CheckTruths.{AcceptedPolicy, SomeIsOpen, Spells}
use Rattle.ipanema_cli.specs.RestTruths.{GapIsOpen, HasJustGap, IsTrueOfGap, IsTrueOfRounds, MustRest, RestedPolicy, RestsTruly, RestsWithin}
use Rattle.ipanema_cli.specs.Status.{code_of, gap_status, rest_status, verdict_status}
use Rattle.ipanema_cli.specs.Texts.{MayBeLong, MayRead}
use Rattle.ipanema_cli.specs.declared.answers.Answer.TheVariants as answer
use Rattle.ipanema_cli.specs.declared.texts.TextKind.TheVariants as kind
use Rattle.ipanema_cli.proofs.CheckTruths.{long_refuses, low_or_stopped, not_long, pays_if_equal, refusal_high, refusal_not_0, stopped_refuses, tells_fault, verdict_answers}
use Rattle.ipanema_cli.proofs.Stopped.{Stopped, at_4, at_5, at_6, stopped_not}
use Rattle.ipanema_cli.proofs.PolicyFacts.{judged_refuses, never_left, read_decides, read_refuses, refused_refuses, refused_text, resolved, same_policy}
use Rattle.command_words.specs.Command.{Asked, rest}
use Rattle.ipanema_cli.specs.Commands.{statuses_of}
use Rattle.ipanema_cli.specs.Truths.{IsTruthful}
use Rattle.ipanema_cli.proofs.CheckTruths.{long_policy}
use Rattle.ipanema_cli.proofs.CodeLemmas.{rest_among}
use Rattle.ipanema_cli.proofs.CommandLaw.{CommandLaw, Crowds, Known, Shows, given}
use Rattle.ipanema_cli.proofs.Crowding.{rest_crowds}

-- a load that is greater than another by more than one less than the gap, and by no more than the gap, is greater by the gap
just_between : (least before own victim : ℕ) → least ≡ before + 1 → victim ≤ MAX_LOAD → (pos own +ℤ pos (suc (min before MAX_LOAD))) ≤ℤ pos victim → victim ≤ own + least
    → pos victim ≡ pos own +ℤ pos least
just_between least before own victim next small wide near =
    let passed : own + suc (min before MAX_LOAD) ≤ victim = omega (arith, ints, wide) in
    let same : victim ≡ own + least = omega (arith, next, small, passed, near) in
    omega (arith, ints, same)

-- what the gap says of values of all variables
record IsJustAt (p : Meaning) (least : ℕ) (values : Assignment) : Type 0 where
  pub fit : holds values (cores_fit p.load) ≡ true
  pub fails : holds values p.filter ≡ false
  pub gap : variable_of values OTHER_LOAD ≡ variable_of values SELF_LOAD +ℤ pos least

module _ (p : Meaning) (is : IsResolved p) where
  -- values that refute one less have just the gap
  just_at : (least before : ℕ) → least ≡ before + 1 → RestGap p least → (values : Assignment) → AreIn (variable_ranges p) values
      → holds values (refutation p (rest_gap before)) ≡ true → IsJustAt p least values
  unfolding core_of
  just_at least before next leaves = for_all_values p (λ values. holds values (refutation p (rest_gap before)) ≡ true → IsJustAt p least values) (λ nr load victim_nr victim_load weight fresh own victims attrs n refutes.
      let values : Assignment = assigned nr load victim_nr victim_load weight fresh own victims attrs in
      let parts = and_true (holds values (cores_fit p.load) && holds values (gap_is_wide before)) (not (holds values p.filter)) refutes in
      let pair = and_true (holds values (cores_fit p.load)) (holds values (gap_is_wide before)) parts.0 in
      let loads = and_true (loads_test (least_weight p.load) (greatest_weight p.load) nr load) (loads_test (least_weight p.load) (greatest_weight p.load) victim_nr victim_load) pair.0 in
      let wide = le_tells (pos load +ℤ pos (suc (min before MAX_LOAD))) (pos victim_load) pair.1 in
      let same = filter_sees p is (core_of p is nr load own) (core_of p is victim_nr victim_load victims) weight fresh attrs n.own_in n.victims_in in
      let fails = not_false (holds values p.filter) parts.1 in
      let near = leaves (core_of p is nr load own) (core_of p is victim_nr victim_load victims) (core_fits p is nr load own n.nr_small loads.0 n.own_in)
      (core_fits p is victim_nr victim_load victims n.victim_nr_small loads.1 n.victims_in) (λ held. true≢false (sym held ∙ (same ∙ fails))) in
      let small = n.victim_load_small in let greatest = is.load.small in
      record { fit = pair.0; fails = fails; gap = just_between least before load victim_load next (omega arith) wide near })

  -- the point at which one less fails is of two cores that have just the gap
  just_gap : (least before : ℕ) (point : List ℤ) → least ≡ before + 1 → RestGap p least → FailsAt p (rest_gap before) point → HasJustGap p least (variables_of p (rest_gap before)) point
  just_gap least before point next leaves fails =
      let just = just_at least before next leaves fails.values fails.in_range fails.refute in
      record {
        values = fails.values;
        in_range = fails.in_range;
        fit = just.fit;
        fails = λ held. true≢false (sym held ∙ just.fails);
        gap = just.gap;
        shown = fails.shown;
      }

  open_gap : (at : ℕ) → IsOpenGap p CHECK_BUDGET at → HasOpen (systems_of p (rest_gap at))
  open_gap at (points, left) = statements_are_true p is (rest_gap at) (ob_answer.Undecided points) left

  -- what is found of the gap is true
  gap_true : (found : LeastGap) → IsLeastGap p CHECK_BUDGET found → IsTrueOfGap p found
  gap_true gap.Even leaves = leaves
  gap_true (gap.Least least wider) found =
      (found.leaves, subst (λ (vars : List ℕ). HasJustGap p least vars wider.point.vals) (sym found.apart.vars) (just_gap least wider.gap wider.point.vals found.next found.leaves found.apart.fails))
  gap_true (gap.Undecided at proved) found = (open_gap at found.unknown, found.leaves)

-- what is told of the rounds is true
rounds_true : (p : Meaning) → IsResolved p → MeetsObligations p → (told : Bool) → told ≡ raises_lowest p → IsTrueOfRounds p told
rounds_true p is met true told =
    let lowest = raises_law p is (sym told) in
    record { lowest = lowest; rounds = λ plan history fits legal. lowest_first p plan history fits (move_obligations p met) lowest legal }
rounds_true p is met false told = tt

-- where the filter leaves no wider gap, cores at rest have none
rests_within : (p : Meaning) (least : ℕ) → MeetsObligations p → RestGap p least → RestsWithin p least
rests_within p least met leaves plan history k fits legal still = cores.rest_gap p plan history least k fits (handler_obligations p met) legal leaves still

abbrev OfDifferences : LinearSystem → Type 0
OfDifferences system = IsDifference system.rows

-- no system of a policy whose comparisons are differences is open
gap_closed : (p : Meaning) → ComparesDifferences p → ¬ GapIsOpen p
gap_closed p form (least, (system, inside, open_one)) =
    open_one.no_differences (All-contains OfDifferences (systems_of p (rest_gap least)) system (comparisons_give_differences p form (rest_gap least)) inside)

stopped_must : (policy : Told) (code : ℕ) → Stopped code → MustRest policy code
stopped_must policy code stop = record {
  accepts = λ p held met. elim stop [ at_4 e ↦ rw e refl | at_5 e ↦ rw e refl | at_6 e ↦ rw e refl ];
  others = λ p held no. elim stop [ at_4 e ↦ rw e refl | at_5 e ↦ rw e refl | at_6 e ↦ rw e refl ];
  decides = λ p held none known. stopped_not code 3 (λ e. omega arith) (λ e. omega arith) (λ e. omega arith) stop;
  differences = λ p held form. stopped_not code 3 (λ e. omega arith) (λ e. omega arith) (λ e. omega arith) stop;
}

pub stopped_rest : (policy : Told) (before after : Option (List ℕ)) (code : ℕ) → Stopped code → RestsTruly policy before after code
stopped_rest policy before after code stop = record {
  rested = λ h. absurd (stopped_not code 0 (λ e. omega arith) (λ e. omega arith) (λ e. omega arith) stop h);
  lines = λ low. absurd (low_or_stopped code low stop);
  must = stopped_must policy code stop;
  refuses = stopped_refuses policy code stop;
  bad_text = λ h. absurd (stopped_not code 2 (λ e. omega arith) (λ e. omega arith) (λ e. omega arith) stop h);
}

gap_not_2 : (found : LeastGap) (code : ℕ) → code ≡ code_of (gap_status found) → code ≢ 2
gap_not_2 gap.Even code own e = omega arith
gap_not_2 (gap.Least least wider) code own e = omega arith
gap_not_2 (gap.Undecided at proved) code own e = omega arith

-- under 0 the gap is known
left_at_0 : (p : Meaning) (found : LeastGap) (code : ℕ) → IsTrueOfGap p found → code ≡ code_of (gap_status found) → code ≡ 0 → (least : ℕ) × RestGap p least
left_at_0 p gap.Even code word own zero = (0, word)
left_at_0 p (gap.Least least wider) code word own zero = (least, word.0)
left_at_0 p (gap.Undecided at proved) code word own zero = absurd (omega arith)

module _ (policy : Told) (text : List ℕ) (p : Meaning) (read : MayRead kind.Policy policy text) (spells : SpellsPolicy text p) where
  same : (q : Meaning) → Spells policy q → p ≡ q
  same q held = same_policy policy text p q read spells held

  -- what must come of a policy that is accepted
  rested_must : (found : LeastGap) (code : ℕ) → MeetsObligations p → IsTrueOfGap p found → code ≡ code_of (gap_status found) → MustRest policy code
  rested_must gap.Even code met word own = record {
    accepts = λ q held met_q. rw own refl;
    others = λ q held no. absurd (no (subst MeetsObligations (same q held) met));
    decides = λ q held none known three. absurd (omega arith);
    differences = λ q held form three. absurd (omega arith);
  }
  rested_must (gap.Least least wider) code met word own = record {
    accepts = λ q held met_q. rw own refl;
    others = λ q held no. absurd (no (subst MeetsObligations (same q held) met));
    decides = λ q held none known three. absurd (omega arith);
    differences = λ q held form three. absurd (omega arith);
  }
  rested_must (gap.Undecided at proved) code met word own = record {
    accepts = λ q held met_q. rw own refl;
    others = λ q held no. absurd (no (subst MeetsObligations (same q held) met));
    decides = λ q held none known three. known (subst GapIsOpen (same q held) (at, word.0));
    differences = λ q held form three. gap_closed q form (subst GapIsOpen (same q held) (at, word.0));
  }

-- the policy is accepted
rested_truly : (policy : Told) (text : List ℕ) (told : Resting) (before after : Option (List ℕ)) (code : ℕ) → MayRead kind.Policy policy text
    → IsAtRest text told → code ≡ code_of (gap_status told.gap) → Adds (joined (rest_lines (rested.Rests told))) before after
    → RestsTruly policy before after code
rested_truly policy text told before after code read is own added =
    let p : Meaning = is.p in
    let whole_policy = resolved policy text p read is.spells in
    let met = meets p whole_policy is.certified in
    let accepted : AcceptedPolicy policy p = record {
      spelled = (text, read, is.spells);
      certified = is.certified;
      meets = met;
      wastes_no_core = main_theorem p met;
      pays = pays_if_equal p met;
    } in
    let reason : IsToldOfGap p told = is.told in
    let word : IsTrueOfGap p told.gap = gap_true p whole_policy told.gap reason.found in
    record {
      rested = λ h.
          let left = left_at_0 p told.gap code word own h in
          (p, left.0, record { accepted = accepted; leaves = left.1; within = rests_within p left.0 met left.1 });
      lines = λ low. inl (record {
        p = p;
        resting = told;
        accepted = accepted;
        reason = reason;
        word = word;
        bound = rounds_true p whole_policy met told.lowest_first reason.lowest;
        written = added;
        status = own;
      });
      must = rested_must policy text p read is.spells told.gap code met word own;
      refuses = judged_refuses policy text p code read is.spells is.few;
      bad_text = λ h. absurd (gap_not_2 told.gap code own h);
    }

-- the policy was judged, and isn't accepted
judged : (policy : Told) (v : Verdict) (text : List ℕ) (before after : Option (List ℕ)) (code : ℕ) → MayRead kind.Policy policy text → IsCheckOf text (checked.Judged v)
    → code ≡ code_of (verdict_status v) → code ≢ 0 → code ≢ 2 → OneOf (1 ∷ 3 ∷ 4 ∷ 5 ∷ 6 ∷ []) code → Adds (joined (check_lines (checked.Judged v))) before after
    → RestsTruly policy before after code
judged policy v text before after code read is own not_0 not_2 other added =
    let decides_it = read_decides policy text (checked.Judged v) code read is own in
    record {
      rested = λ h. absurd (not_0 h);
      lines = λ low. inr (not_0, verdict_answers policy text v before after code read is own added);
      must = record {
        accepts = λ q held met. decides_it.accepts q held met;
        others = λ q held no. other;
        decides = λ q held none known. decides_it.decides q held none;
        differences = never_left policy code decides_it;
      };
      refuses = read_refuses policy text (checked.Judged v) code read is own;
      bad_text = λ h. absurd (not_2 h);
    }

-- a file was read
read_rest : (policy : Told) (text : List ℕ) (r : RestAnswer) (before after : Option (List ℕ)) (code : ℕ) → MayRead kind.Policy policy text → IsRestOf text r
    → code ≡ code_of (rest_status r) → Adds (joined (rest_lines r)) before after → RestsTruly policy before after code
read_rest policy text (rested.Rests told) before after code read is own added = rested_truly policy text told before after code read is own added
read_rest policy text (rested.Unaccepted (checked.Judged (verdict.Accepted kept))) before after code read is own added = absurd is.1
read_rest policy text (rested.Unaccepted (checked.Judged (verdict.Refused answers kept))) before after code read is own added =
    judged policy (verdict.Refused answers kept) text before after code read is.0 own (λ e. omega arith) (λ e. omega arith) (rw own refl) added
read_rest policy text (rested.Unaccepted (checked.Judged (verdict.Undecided answers kept))) before after code read is own added =
    judged policy (verdict.Undecided answers kept) text before after code read is.0 own (λ e. omega arith) (λ e. omega arith) (rw own refl) added
read_rest policy text (rested.Unaccepted (checked.Unjudged why)) before after code read is own added = record {
  rested = λ h. absurd (refusal_not_0 why code own h);
  lines = λ low. absurd (refusal_high why code own low);
  must = record {
    accepts = λ q held met. absurd (refused_text policy text why q read is.0 held);
    others = λ q held no. absurd (refused_text policy text why q read is.0 held);
    decides = λ q held none known three. refused_text policy text why q read is.0 held;
    differences = λ q held form three. refused_text policy text why q read is.0 held;
  };
  refuses = refused_refuses policy text why code read is.0 own;
  bad_text = λ h. tells_fault policy text why before after code read is.0 own added h;
}

long_rest : (policy : Told) (before after : Option (List ℕ)) (code : ℕ) → MayBeLong kind.Policy policy → code ≡ 10 → RestsTruly policy before after code
long_rest policy before after code long own = record {
  rested = λ h. absurd (omega arith);
  lines = λ low. absurd (let bad = rw own at low in cc);
  must = record {
    accepts = λ q held met. absurd (not_long kind.Policy policy held.text long held.held);
    others = λ q held no. absurd (not_long kind.Policy policy held.text long held.held);
    decides = λ q held none known three. not_long kind.Policy policy held.text long held.held;
    differences = λ q held form three. not_long kind.Policy policy held.text long held.held;
  };
  refuses = long_refuses policy code long;
  bad_text = λ h. absurd (omega arith);
}

pub rest_law : (Passed : ℕ → ℕ → Type 0) (policy : List ℕ) → CommandLaw Passed (Some (rest policy))
rest_law Passed policy =
    let asked : Option Asked = Some (rest policy) in
    record {
      known = λ text a is. given answer.Rested _ (Known asked) (λ r is. rest_among (statuses_of asked) refl refl refl refl refl r) a is;
      crowds = λ told text before after a files is.
          given answer.Rested _ (Crowds asked told before after) (rest_crowds asked told before after policy (text kind.Policy) (inl (refl, refl)) files.0) a is;
      shows = λ told text before after code a files is.
          given answer.Rested _ (Shows (IsTruthful Passed asked told before after code) before after code)
          (λ r is own added. read_rest (told policy) (text kind.Policy) r before after code files.0 is own added) a is;
      long = λ told before after code which long own. long_rest (told policy) before after code (long_policy which told policy long) own;
      stopped = λ told before after code stop file. stopped_rest (told policy) before after code stop;
    }
