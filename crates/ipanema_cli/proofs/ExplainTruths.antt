-- From how `explain` ends to the truth of what it says.
use Rattle.std.proofs.Common.{◌≡◌, ◌≢◌, ℕ, inl, List, [], ◌∷◌, Option, Some, refl, arith, subst}
use Rattle.sched_base.specs.declared.limits.TheConstants.{CHECK_BUDGET}
use Rattle.sched_io.specs.Puts.{joined}
use Rattle.sched_io.specs.Told.{Told}
use Rattle.sched_io.specs.Written.{Adds}
use Rattle.policy_tree.specs.Meaning.{Meaning}
use Rattle.policy_eval.specs.Resolved.{IsResolved}
use Rattle.obligations.specs.declared.names.ObName.{ObName}
use Rattle.obligations.specs.Names.{statement_of}
use Rattle.obligations.specs.Systems.{systems_of}
use Rattle.policy_checker.specs.Answers as obligation
use Rattle.policy_checker.specs.Outcomes.{HasOpen, IsTold, outcome_of}
use Rattle.policy_checker.specs.declared.answer.ObAnswer.{ObAnswer}
use Rattle.policy_checker.specs.declared.answer.ObAnswer.TheVariants as ob_answer
use Rattle.policy_checker.specs.declared.answer.Outcome.{Outcome}
use Rattle.policy_checker.specs.declared.answer.Outcome.TheVariants as outcome
use Rattle.policy_checker.proofs.Decided.{closed}
use Rattle.policy_checker.proofs.Points.{points_refute}
use Rattle.policy_checker.proofs.True.{answers_are_true}
use Rattle.policy_answers.specs.Checks.{IsExplained, IsExplainOf}
use Rattle.policy_answers.specs.Lines.{explain_lines}
use Rattle.policy_answers.specs.declared.explaining.ExplainAnswer.{ExplainAnswer}
use Rattle.policy_answers.specs.declared.explaining.ExplainAnswer.TheVariants as explained
use Rattle.policy_answers.specs.declared.explaining.Explanation.{Explanation}
use Rattle.ipanema_cli.specs.Causes.{OneOf}
use Rattle.ipanema_cli.specs.Status.{code_of, explain_status, outcome_status}
use Rattle.ipanema_cli.specs.Texts.{MayBeLong, MayRead}
use Rattle.ipanema_cli.specs.CheckTruths.{Spells}
use Rattle.ipanema_cli.specs.ExplainTruths.{ExplainsTruly, ShowsFailure}
use Rattle.ipanema_cli.specs.declared.answers.Answer.TheVariants as answer
use Rattle.ipanema_cli.specs.declared.texts.TextKind.TheVariants as kind
use Rattle.ipanema_cli.proofs.CheckTruths.{long_refuses, low_or_stopped, not_long, refusal_high, stopped_refuses, tells_fault}
use Rattle.ipanema_cli.proofs.Stopped.{Stopped, at_4, at_5, at_6, stopped_not}
use Rattle.ipanema_cli.proofs.PolicyFacts.{judged_refuses, refused_refuses, refused_text, resolved, same_policy}
use Rattle.ipanema_cli.proofs.WritesLemmas.{one_line}
use Rattle.command_words.specs.Command.{Asked, explain}
use Rattle.ipanema_cli.specs.Commands.{statuses_of}
use Rattle.ipanema_cli.specs.Truths.{IsTruthful}
use Rattle.ipanema_cli.proofs.CheckTruths.{long_policy}
use Rattle.ipanema_cli.proofs.CodeLemmas.{explain_among}
use Rattle.ipanema_cli.proofs.CommandLaw.{CommandLaw, Crowds, Known, Shows, given}
use Rattle.ipanema_cli.proofs.Crowding.{explain_crowds}

pub stopped_explain : (policy : Told) (name : ObName) (before after : Option (List ℕ)) (code : ℕ) → Stopped code → ExplainsTruly policy name before after code
stopped_explain policy name before after code stop = record {
  line = λ low. absurd (low_or_stopped code low stop);
  answers = λ p held. elim stop [ at_4 e ↦ rw e refl | at_5 e ↦ rw e refl | at_6 e ↦ rw e refl ];
  decides = λ p held none. stopped_not code 3 (λ e. omega arith) (λ e. omega arith) (λ e. omega arith) stop;
  differences = λ p held form. stopped_not code 3 (λ e. omega arith) (λ e. omega arith) (λ e. omega arith) stop;
  refuses = stopped_refuses policy code stop;
  bad_text = λ h. absurd (stopped_not code 2 (λ e. omega arith) (λ e. omega arith) (λ e. omega arith) stop h);
}

-- an answer that an obligation fails shows where
shows : (p : Meaning) (name : ObName) (a : ObAnswer) → IsResolved p → obligation.IsAnswer CHECK_BUDGET (systems_of p (statement_of name)) a → ShowsFailure p name a
shows p name (ob_answer.Holds certs) is answers = tt
shows p name (ob_answer.Fails point) is answers = points_refute p is (statement_of name) CHECK_BUDGET point.vals answers
shows p name (ob_answer.Undecided points) is answers = tt

outcome_low : (told : Outcome) (code : ℕ) → code ≡ code_of (outcome_status told) → OneOf (0 ∷ 1 ∷ 3 ∷ 4 ∷ 5 ∷ 6 ∷ []) code
outcome_low outcome.Holds code own = rw own refl
outcome_low outcome.Fails code own = rw own refl
outcome_low outcome.Undecided code own = rw own refl

outcome_not_2 : (told : Outcome) (code : ℕ) → code ≡ code_of (outcome_status told) → code ≢ 2
outcome_not_2 outcome.Holds code own e = omega arith
outcome_not_2 outcome.Fails code own e = omega arith
outcome_not_2 outcome.Undecided code own e = omega arith

-- only an obligation of which nothing is known has the number 3
left_open : (p : Meaning) (name : ObName) (told : Outcome) (code : ℕ) → IsTold p name told → code ≡ code_of (outcome_status told) → code ≡ 3
    → HasOpen (systems_of p (statement_of name))
left_open p name outcome.Holds code told own three = absurd (omega arith)
left_open p name outcome.Fails code told own three = absurd (omega arith)
left_open p name outcome.Undecided code told own three = told

-- a text was judged
explained_truly : (policy : Told) (text : List ℕ) (name : ObName) (e : Explanation) (before after : Option (List ℕ)) (code : ℕ) → MayRead kind.Policy policy text
    → IsExplained text name e → code ≡ code_of (outcome_status e.outcome) → Adds (joined (e.line.items ∷ [])) before after → ExplainsTruly policy name before after code
explained_truly policy text name e before after code read is own added =
    let p : Meaning = is.p in
    let whole_policy = resolved policy text p read is.spells in
    let word = answers_are_true p whole_policy name is.answer is.is in
    let own_answer : code ≡ code_of (outcome_status (outcome_of is.answer)) = subst (λ (o : Outcome). code ≡ code_of (outcome_status o)) is.told own in
    record {
      line = λ low. record {
        p = p;
        answer = is.answer;
        spelled = (text, read, is.spells);
        told = record { reason = is.is; word = word };
        shows = shows p name is.answer whole_policy is.is;
        written = subst (λ (bytes : List ℕ). Adds bytes before after) is.line (one_line e.line.items before after added);
        status = own_answer;
      };
      answers = λ q held. outcome_low e.outcome code own;
      decides = λ q held none three. none (open_of word own_answer q held three);
      differences = λ q held form three. closed q form name (open_of word own_answer q held three);
      refuses = judged_refuses policy text p code read is.spells is.few;
      bad_text = λ h. absurd (outcome_not_2 e.outcome code own h);
    }
  where
    open_of : IsTold is.p name (outcome_of is.answer) → code ≡ code_of (outcome_status (outcome_of is.answer)) → (q : Meaning) → Spells policy q → code ≡ 3
        → HasOpen (systems_of q (statement_of name))
    open_of word own_answer q held three =
        subst (λ (m : Meaning). HasOpen (systems_of m (statement_of name))) (same_policy policy text is.p q read is.spells held)
        (left_open is.p name (outcome_of is.answer) code word own_answer three)

read_explain : (policy : Told) (text : List ℕ) (name : ObName) (e : ExplainAnswer) (before after : Option (List ℕ)) (code : ℕ) → MayRead kind.Policy policy text
    → IsExplainOf text name e → code ≡ code_of (explain_status e) → Adds (joined (explain_lines e)) before after → ExplainsTruly policy name before after code
read_explain policy text name (explained.Explained e) before after code read is own added = explained_truly policy text name e before after code read is own added
read_explain policy text name (explained.Unjudged why) before after code read is own added = record {
  line = λ low. absurd (refusal_high why code own low);
  answers = λ q held. absurd (refused_text policy text why q read is held);
  decides = λ q held none three. refused_text policy text why q read is held;
  differences = λ q held form three. refused_text policy text why q read is held;
  refuses = refused_refuses policy text why code read is own;
  bad_text = λ h. tells_fault policy text why before after code read is own added h;
}

long_explain : (policy : Told) (name : ObName) (before after : Option (List ℕ)) (code : ℕ) → MayBeLong kind.Policy policy → code ≡ 10 → ExplainsTruly policy name before after code
long_explain policy name before after code long own = record {
  line = λ low. absurd (let bad = rw own at low in cc);
  answers = λ q held. absurd (not_long kind.Policy policy held.text long held.held);
  decides = λ q held none three. not_long kind.Policy policy held.text long held.held;
  differences = λ q held form three. not_long kind.Policy policy held.text long held.held;
  refuses = long_refuses policy code long;
  bad_text = λ h. absurd (omega arith);
}

pub explain_law : (Passed : ℕ → ℕ → Type 0) (policy : List ℕ) (name : ObName) → CommandLaw Passed (Some (explain policy name))
explain_law Passed policy name =
    let asked : Option Asked = Some (explain policy name) in
    record {
      known = λ text a is. given answer.Explained _ (Known asked) (λ e is. explain_among (statuses_of asked) refl refl refl refl refl e) a is;
      crowds = λ told text before after a files is.
          given answer.Explained _ (Crowds asked told before after) (explain_crowds asked told before after policy (text kind.Policy) (inl (refl, refl)) files.0 name) a is;
      shows = λ told text before after code a files is.
          given answer.Explained _ (Shows (IsTruthful Passed asked told before after code) before after code)
          (λ e is own added. read_explain (told policy) (text kind.Policy) name e before after code files.0 is own added) a is;
      long = λ told before after code which long own. long_explain (told policy) name before after code (long_policy which told policy long) own;
      stopped = λ told before after code stop file. stopped_explain (told policy) name before after code stop;
    }
