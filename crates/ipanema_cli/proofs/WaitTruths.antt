-- From how `waits` ends to the truth of what it says.
use Rattle.std.proofs.Common.{◌≡◌, ◌≢◌, ℕ, inl, inr, List, [], ◌∷◌, Option, Some, None, sym, ◌∙◌, arith, refl, subst}
use Rattle.sched_io.specs.Puts.{joined}
use Rattle.sched_io.specs.Told.{Told}
use Rattle.sched_io.specs.Written.{Adds}
use Rattle.policy_tree.specs.Meaning.{Meaning}
use Rattle.policy_eval.specs.Obligations.{MeetsObligations}
use Rattle.policy_eval.proofs.Statements.{handler_obligations}
use Rattle.policy_reader.specs.Spelled.{SpellsPolicy}
use Rattle.policy_checker.specs.declared.verdict.Verdict.{Verdict}
use Rattle.policy_checker.specs.declared.verdict.Verdict.TheVariants as verdict
use Rattle.policy_checker.proofs.True.{meets}
use Rattle.policy_answers.specs.Checks.{IsCheckOf}
use Rattle.policy_answers.specs.Lines.{check_lines}
use Rattle.policy_answers.specs.declared.answer.CheckAnswer.TheVariants as checked
use Rattle.round_laws.proofs.MainTheorem.{main_theorem}
use Rattle.starving_plays.specs.Searches.{IsFound, NoneStarve}
use Rattle.starving_plays.specs.declared.searching.Starving.{Starving}
use Rattle.wait_classes.specs.declared.classes.WaitClass.{WaitClass}
use Rattle.wait_classes.specs.declared.classes.WaitClass.TheVariants as wait
use Rattle.wait_classes.specs.Classes.{class_of}
use Rattle.wait_classes.specs.Laws.{Waits}
use Rattle.wait_classes.proofs.Applying.{bounds_law, queue_law}
use Rattle.waiting_laws.specs.Waiting.{QueuesAlways}
use Rattle.waiting_laws.proofs.Waiting.{waiting_law}
use Rattle.turn_laws.proofs.Shares.{fair_share}
use Rattle.turn_laws.proofs.Turns.{turns_law}
use Rattle.round_laws.proofs.MoveObligations.{move_obligations}
use Rattle.wait_answers.specs.Waits.{IsSearched, IsToldOfWaits, IsWaitOf, IsWaiting, wait_lines}
use Rattle.wait_answers.specs.declared.answering.WaitAnswer.{WaitAnswer}
use Rattle.wait_answers.specs.declared.answering.WaitAnswer.TheVariants as waited
use Rattle.wait_answers.specs.declared.answering.Waiting.{Waiting}
use Rattle.command_words.specs.Command.{Asked, waits}
use Rattle.ipanema_cli.specs.Causes.{OneOf}
use Rattle.ipanema_cli.specs.CheckTruths.{AcceptedPolicy, Decides, SomeIsOpen, Spells}
use Rattle.ipanema_cli.specs.Commands.{statuses_of}
use Rattle.ipanema_cli.specs.Status.{code_of, verdict_status, wait_status, waiting_status}
use Rattle.ipanema_cli.specs.Texts.{MayBeLong, MayRead}
use Rattle.ipanema_cli.specs.Truths.{IsTruthful}
use Rattle.ipanema_cli.specs.WaitTruths.{BoundedWaits, BoundsWaiting, IsTrueOfStarving, MustWait, WaitsTruly}
use Rattle.ipanema_cli.specs.declared.answers.Answer.TheVariants as answer
use Rattle.ipanema_cli.specs.declared.texts.TextKind.TheVariants as kind
use Rattle.ipanema_cli.proofs.CheckTruths.{long_policy, long_refuses, low_or_stopped, not_long, pays_if_equal, refusal_high, refusal_not_0, stopped_refuses, tells_fault, verdict_answers}
use Rattle.ipanema_cli.proofs.CodeLemmas.{wait_among}
use Rattle.ipanema_cli.proofs.CommandLaw.{CommandLaw, Crowds, Known, Shows, given}
use Rattle.ipanema_cli.proofs.Crowding.{wait_crowds}
use Rattle.ipanema_cli.proofs.PolicyFacts.{judged_refuses, never_left, read_decides, read_refuses, refused_refuses, refused_text, resolved, same_policy}
use Rattle.ipanema_cli.proofs.Stopped.{Stopped, at_4, at_5, at_6, stopped_not}

-- the law of a policy's class holds in each history
bounded_by : (p : Meaning) → MeetsObligations p → (class : WaitClass) → class ≡ class_of p → BoundsWaiting p class
bounded_by p met wait.Queue is = λ plan history fits legal.
    let queues : QueuesAlways p = (queue_law p).0 (sym is) in
    let moves = move_obligations p met in
    record {
      in_turn = waiting_law p plan history fits queues legal;
      at_rest = turns_law p plan history fits moves queues legal;
      share = λ same gap. fair_share p plan history fits moves queues same gap legal;
    }
bounded_by p met (wait.Slices a keeps) is = λ plan history fits legal. subst (Waits p plan history) (sym is) (bounds_law p plan history fits legal)
bounded_by p met (wait.Least a) is = λ plan history fits legal.
    subst (Waits p plan history) (sym is) (bounds_law p plan history fits legal) (handler_obligations p met)
bounded_by p met wait.Unknown is = tt

-- what was found is true
starving_true : (p : Meaning) (class : WaitClass) (starving : Option Starving) → IsSearched p class starving → IsTrueOfStarving p starving
starving_true p class None found = tt
starving_true p wait.Queue (Some starving) found = absurd (let bad = found in cc)
starving_true p (wait.Slices a keeps) (Some starving) found = absurd (let bad = found in cc)
starving_true p (wait.Least a) (Some starving) found = absurd (let bad = found in cc)
starving_true p wait.Unknown (Some starving) found = found

stopped_must : (policy : Told) (code : ℕ) → Stopped code → MustWait policy code
stopped_must policy code stop = record {
  known = λ p held met class. elim stop [ at_4 e ↦ rw e refl | at_5 e ↦ rw e refl | at_6 e ↦ rw e refl ];
  unknown = λ p held met class. elim stop [ at_4 e ↦ rw e refl | at_5 e ↦ rw e refl | at_6 e ↦ rw e refl ];
  starves = λ p held none class starve. elim stop [ at_4 e ↦ rw e refl | at_5 e ↦ rw e refl | at_6 e ↦ rw e refl ];
  others = λ p held no. elim stop [ at_4 e ↦ rw e refl | at_5 e ↦ rw e refl | at_6 e ↦ rw e refl ];
  decides = λ p held none class. stopped_not code 3 (λ e. omega arith) (λ e. omega arith) (λ e. omega arith) stop;
  differences = λ p held form class. stopped_not code 3 (λ e. omega arith) (λ e. omega arith) (λ e. omega arith) stop;
}

stopped_waits : (policy : Told) (before after : Option (List ℕ)) (code : ℕ) → Stopped code → WaitsTruly policy before after code
stopped_waits policy before after code stop = record {
  bounded = λ h. absurd (stopped_not code 0 (λ e. omega arith) (λ e. omega arith) (λ e. omega arith) stop h);
  lines = λ low. absurd (low_or_stopped code low stop);
  must = stopped_must policy code stop;
  refuses = stopped_refuses policy code stop;
  bad_text = λ h. absurd (stopped_not code 2 (λ e. omega arith) (λ e. omega arith) (λ e. omega arith) stop h);
}

-- an answer's number is none of a fault
waiting_not_2 : (class : WaitClass) (starving : Option Starving) (code : ℕ) → code ≡ code_of (waiting_status class starving) → code ≢ 2
waiting_not_2 wait.Queue None code own e = omega arith
waiting_not_2 (wait.Slices a keeps) None code own e = omega arith
waiting_not_2 (wait.Least a) None code own e = omega arith
waiting_not_2 wait.Unknown None code own e = omega arith
waiting_not_2 class (Some starving) code own e = omega arith

-- under 0 the class is known
known_at_0 : (class : WaitClass) (starving : Option Starving) (code : ℕ) → code ≡ code_of (waiting_status class starving) → code ≡ 0 → class ≢ wait.Unknown
known_at_0 wait.Queue None code own zero e = let bad = e in cc
known_at_0 (wait.Slices a keeps) None code own zero e = let bad = e in cc
known_at_0 (wait.Least a) None code own zero e = let bad = e in cc
known_at_0 wait.Unknown None code own zero e = absurd (omega arith)
known_at_0 class (Some starving) code own zero e = absurd (omega arith)

module _ (p : Meaning) where
  -- where the class is known, the number is 0
  zero_if_known : (class : WaitClass) (starving : Option Starving) (code : ℕ) → IsSearched p class starving → code ≡ code_of (waiting_status class starving) → class ≢ wait.Unknown → code ≡ 0
  zero_if_known wait.Queue None code found own known = own
  zero_if_known (wait.Slices a keeps) None code found own known = own
  zero_if_known (wait.Least a) None code found own known = own
  zero_if_known wait.Unknown starving code found own known = absurd (known refl)
  zero_if_known wait.Queue (Some starving) code found own known = absurd (let bad = found in cc)
  zero_if_known (wait.Slices a keeps) (Some starving) code found own known = absurd (let bad = found in cc)
  zero_if_known (wait.Least a) (Some starving) code found own known = absurd (let bad = found in cc)

  -- and else 1 or 3
  if_unknown : (starving : Option Starving) (code : ℕ) → code ≡ code_of (waiting_status wait.Unknown starving) → OneOf (1 ∷ 3 ∷ 4 ∷ 5 ∷ 6 ∷ []) code
  if_unknown None code own = rw own refl
  if_unknown (Some starving) code own = rw own refl

  if_starving : (starving : Option Starving) (code : ℕ) → IsFound p starving → code ≡ code_of (waiting_status wait.Unknown starving) → ¬ NoneStarve p → OneOf (1 ∷ 4 ∷ 5 ∷ 6 ∷ []) code
  if_starving None code found own some = absurd (some found)
  if_starving (Some starving) code found own some = rw own refl

module _ (policy : Told) (text : List ℕ) (p : Meaning) (read : MayRead kind.Policy policy text) (spells : SpellsPolicy text p) where
  same : (q : Meaning) → Spells policy q → p ≡ q
  same q held = same_policy policy text p q read spells held

  class_is : (q : Meaning) → Spells policy q → (class : WaitClass) → class ≡ class_of p → class ≡ class_of q
  class_is q held class is = subst (λ (r : Meaning). class ≡ class_of r) (same q held) is

  -- what must come of a policy that is accepted
  module _ (told : Waiting) (code : ℕ) (met : MeetsObligations p) (reason : IsToldOfWaits p told) (own : code ≡ code_of (waiting_status told.class told.starving)) where
    known_zero : (q : Meaning) → Spells policy q → class_of q ≢ wait.Unknown → code ≡ 0
    known_zero q held known = zero_if_known p told.class told.starving code reason.searched own (λ e. known (sym (class_is q held told.class reason.class) ∙ e))

    is_unknown : (q : Meaning) → Spells policy q → class_of q ≡ wait.Unknown → told.class ≡ wait.Unknown
    is_unknown q held unknown = class_is q held told.class reason.class ∙ unknown

    unknown_code : (q : Meaning) → Spells policy q → class_of q ≡ wait.Unknown → code ≡ code_of (waiting_status wait.Unknown told.starving)
    unknown_code q held unknown = subst (λ (class : WaitClass). code ≡ code_of (waiting_status class told.starving)) (is_unknown q held unknown) own

    waits_must : MustWait policy code
    waits_must = record {
      known = λ q held met_q known. rw (known_zero q held known) refl;
      unknown = λ q held met_q unknown. if_unknown p told.starving code (unknown_code q held unknown);
      starves = λ q held none unknown some. if_starving p told.starving code
          (subst (λ (class : WaitClass). IsSearched p class told.starving) (is_unknown q held unknown) reason.searched) (unknown_code q held unknown)
          (subst (λ (r : Meaning). ¬ NoneStarve r) (sym (same q held)) some);
      others = λ q held no. absurd (no (subst MeetsObligations (same q held) met));
      decides = λ q held none known three. absurd (let zero = known_zero q held known in omega arith);
      differences = λ q held form known three. absurd (let zero = known_zero q held known in omega arith);
    }

-- the policy is accepted
waits_truly : (policy : Told) (text : List ℕ) (told : Waiting) (before after : Option (List ℕ)) (code : ℕ) → MayRead kind.Policy policy text
    → IsWaiting text told → code ≡ code_of (waiting_status told.class told.starving) → Adds (joined (wait_lines (waited.Waits told))) before after
    → WaitsTruly policy before after code
waits_truly policy text told before after code read is own added =
    let p : Meaning = is.p in
    let whole_policy = resolved policy text p read is.spells in
    let met = meets p whole_policy is.certified in
    let accepted : AcceptedPolicy policy p = record {
      spelled = (text, read, is.spells);
      certified = is.certified;
      meets = met;
      wastes_no_core = main_theorem p met;
      pays = pays_if_equal p met;
    } in
    let reason : IsToldOfWaits p told = is.told in
    record {
      bounded = λ h. (
        p,
        record {
          accepted = accepted;
          known = λ unknown. known_at_0 told.class told.starving code own h (reason.class ∙ unknown);
          bounds = bounded_by p met (class_of p) refl;
        },
      );
      lines = λ low. inl (record {
        p = p;
        waiting = told;
        accepted = accepted;
        reason = reason;
        bounds = bounded_by p met told.class reason.class;
        starves = starving_true p told.class told.starving reason.searched;
        written = added;
        status = own;
      });
      must = waits_must policy text p read is.spells told code met reason own;
      refuses = judged_refuses policy text p code read is.spells is.few;
      bad_text = λ h. absurd (waiting_not_2 told.class told.starving code own h);
    }

-- the policy was judged, and isn't accepted
judged : (policy : Told) (v : Verdict) (text : List ℕ) (before after : Option (List ℕ)) (code : ℕ) → MayRead kind.Policy policy text → IsCheckOf text (checked.Judged v)
    → code ≡ code_of (verdict_status v) → code ≢ 0 → code ≢ 2 → OneOf (1 ∷ 3 ∷ 4 ∷ 5 ∷ 6 ∷ []) code
    → ((q : Meaning) → Spells policy q → ¬ SomeIsOpen q → OneOf (1 ∷ 4 ∷ 5 ∷ 6 ∷ []) code) → Adds (joined (check_lines (checked.Judged v))) before after → WaitsTruly policy before after code
judged policy v text before after code read is own not_0 not_2 other closed added =
    let decides_it : Decides policy code = read_decides policy text (checked.Judged v) code read is own in
    record {
      bounded = λ h. absurd (not_0 h);
      lines = λ low. inr (not_0, verdict_answers policy text v before after code read is own added);
      must = record {
        known = λ q held met class. decides_it.accepts q held met;
        unknown = λ q held met class. other;
        starves = λ q held none class some. closed q held none;
        others = λ q held no. other;
        decides = λ q held none class. decides_it.decides q held none;
        differences = λ q held form class. never_left policy code decides_it q held form;
      };
      refuses = read_refuses policy text (checked.Judged v) code read is own;
      bad_text = λ h. absurd (not_2 h);
    }

-- a file was read
read_waits : (policy : Told) (text : List ℕ) (w : WaitAnswer) (before after : Option (List ℕ)) (code : ℕ) → MayRead kind.Policy policy text → IsWaitOf text w
    → code ≡ code_of (wait_status w) → Adds (joined (wait_lines w)) before after → WaitsTruly policy before after code
read_waits policy text (waited.Waits told) before after code read is own added = waits_truly policy text told before after code read is own added
read_waits policy text (waited.Unaccepted (checked.Judged (verdict.Accepted kept))) before after code read is own added = absurd is.1
read_waits policy text (waited.Unaccepted (checked.Judged (verdict.Refused answers kept))) before after code read is own added =
    judged policy (verdict.Refused answers kept) text before after code read is.0 own (λ e. omega arith) (λ e. omega arith) (rw own refl) (λ q held none. rw own refl) added
read_waits policy text (waited.Unaccepted (checked.Judged (verdict.Undecided answers kept))) before after code read is own added =
    judged policy (verdict.Undecided answers kept) text before after code read is.0 own (λ e. omega arith) (λ e. omega arith) (rw own refl)
    (λ q held none. absurd ((read_decides policy text (checked.Judged (verdict.Undecided answers kept)) code read is.0 own).decides q held none own)) added
read_waits policy text (waited.Unaccepted (checked.Unjudged why)) before after code read is own added = record {
  bounded = λ h. absurd (refusal_not_0 why code own h);
  lines = λ low. absurd (refusal_high why code own low);
  must = record {
    known = λ q held met class. absurd (refused_text policy text why q read is.0 held);
    unknown = λ q held met class. absurd (refused_text policy text why q read is.0 held);
    starves = λ q held none class some. absurd (refused_text policy text why q read is.0 held);
    others = λ q held no. absurd (refused_text policy text why q read is.0 held);
    decides = λ q held none class three. refused_text policy text why q read is.0 held;
    differences = λ q held form class three. refused_text policy text why q read is.0 held;
  };
  refuses = refused_refuses policy text why code read is.0 own;
  bad_text = λ h. tells_fault policy text why before after code read is.0 own added h;
}

long_waits : (policy : Told) (before after : Option (List ℕ)) (code : ℕ) → MayBeLong kind.Policy policy → code ≡ 10 → WaitsTruly policy before after code
long_waits policy before after code long own = record {
  bounded = λ h. absurd (omega arith);
  lines = λ low. absurd (let bad = rw own at low in cc);
  must = record {
    known = λ q held met class. absurd (not_long kind.Policy policy held.text long held.held);
    unknown = λ q held met class. absurd (not_long kind.Policy policy held.text long held.held);
    starves = λ q held none class some. absurd (not_long kind.Policy policy held.text long held.held);
    others = λ q held no. absurd (not_long kind.Policy policy held.text long held.held);
    decides = λ q held none class three. not_long kind.Policy policy held.text long held.held;
    differences = λ q held form class three. not_long kind.Policy policy held.text long held.held;
  };
  refuses = long_refuses policy code long;
  bad_text = λ h. absurd (omega arith);
}

pub waits_law : (Passed : ℕ → ℕ → Type 0) (policy : List ℕ) → CommandLaw Passed (Some (waits policy))
waits_law Passed policy =
    let asked : Option Asked = Some (waits policy) in
    record {
      known = λ text a is. given answer.Waited _ (Known asked) (λ w is. wait_among (statuses_of asked) refl refl refl refl refl w) a is;
      crowds = λ told text before after a files is.
          given answer.Waited _ (Crowds asked told before after) (wait_crowds asked told before after policy (text kind.Policy) (inl (refl, refl)) files.0) a is;
      shows = λ told text before after code a files is.
          given answer.Waited _ (Shows (IsTruthful Passed asked told before after code) before after code)
          (λ w is own added. read_waits (told policy) (text kind.Policy) w before after code files.0 is own added) a is;
      long = λ told before after code which long own. long_waits (told policy) before after code (long_policy which told policy long) own;
      stopped = λ told before after code stop file. stopped_waits (told policy) before after code stop;
    }
