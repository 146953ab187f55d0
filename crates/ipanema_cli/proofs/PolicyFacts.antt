-- What follows for a text from the answer that `check` gives.
use Rattle.std.proofs.Common.{◌≡◌, ◌≢◌, ℕ, List, [], ◌∷◌, None, refl, sym, ◌∙◌, arith, subst}
use Rattle.std.specs.Prelude.{IsTrue}
use Rattle.std.specs.List.{All, AllByRecursion}
use Rattle.std.proofs.lemmas.List.Elements.{All-from_recursion}
use Rattle.sched_base.specs.declared.limits.TheConstants.{CHECK_BUDGET}
use Rattle.sched_io.specs.Told.{Told}
use Rattle.policy_eval.specs.Obligations.{MeetsObligations}
use Rattle.policy_eval.specs.Resolved.{IsResolved}
use Rattle.policy_tree.specs.Meaning.{Meaning, meaning_of}
use Rattle.policy_reader.specs.Faults.{HasFault}
use Rattle.policy_reader.specs.Spelled.{SpellsPolicy}
use Rattle.policy_reader.proofs.OneFault.{never_both, one_policy}
use Rattle.policy_reader.proofs.Resolved.{spells_resolved}
use Rattle.obligations.specs.Counts.{first_crowded}
use Rattle.obligations.specs.DifferencePolicies.{ComparesDifferences}
use Rattle.obligations.specs.Names.{ob_names}
use Rattle.policy_checker.specs.Verdicts.{Answers, AreAnswers, IsVerdict, policy_of}
use Rattle.policy_checker.specs.declared.answer.Answered.{Answered}
use Rattle.policy_checker.specs.declared.verdict.Verdict.{Verdict}
use Rattle.policy_checker.specs.declared.verdict.Verdict.TheVariants as verdict
use Rattle.policy_checker.specs.Playable.{HasCertifiedHandlers, is_playable}
use Rattle.policy_checker.proofs.Decided.{closed}
use Rattle.policy_checker.proofs.KeptHandlers.{handlers_certified, handlers_kept, playable_law}
use Rattle.policy_checker.proofs.True.{answers_are_true, meets}
use Rattle.policy_checker.proofs.Worth.{open_one, unmet}
use Rattle.policy_answers.specs.Checks.{IsCheckOf, IsRefusal}
use Rattle.policy_answers.specs.declared.answer.CheckAnswer.{CheckAnswer}
use Rattle.policy_answers.specs.declared.answer.CheckAnswer.TheVariants as checked
use Rattle.policy_answers.specs.declared.reading.Refusal.{Refusal}
use Rattle.policy_answers.specs.declared.reading.Refusal.TheVariants as refusal
use Rattle.ipanema_cli.specs.Status.{check_status, code_of, refusal_status, verdict_status}
use Rattle.ipanema_cli.specs.Texts.{MayRead}
use Rattle.ipanema_cli.specs.CheckTruths.{AllToldTruly, Decides, Holds, IsToldTruly, Refuses, SomeIsOpen, Spells}
use Rattle.ipanema_cli.specs.declared.texts.TextKind.{TextKind}
use Rattle.ipanema_cli.specs.declared.texts.TextKind.TheVariants as kind

-- what a file holds is what was read
pub text_read : (which : TextKind) (told : Told) (text held : List ℕ) → MayRead which told text → Holds which told held → text ≡ held
text_read which told text held read holding = read.held.same held holding.is

-- a policy that was read is resolved
pub resolved : (policy : Told) (text : List ℕ) (p : Meaning) → MayRead kind.Policy policy text → SpellsPolicy text p → IsResolved p
resolved policy text p read spells = spells_resolved text p read.short spells

-- the policy that a file holds is the one that was read
pub same_policy : (policy : Told) (text : List ℕ) (p q : Meaning) → MayRead kind.Policy policy text → SpellsPolicy text p → Spells policy q → p ≡ q
same_policy policy text p q read spells held =
    one_policy text p q spells (subst (λ (t : List ℕ). SpellsPolicy t q) (sym (text_read kind.Policy policy text held.text read held.held)) held.spells)

all_truly : (p : Meaning) (answers : List Answered) → IsResolved p → AreAnswers p CHECK_BUDGET answers → All (IsToldTruly p) answers
all_truly p answers is are = All-from_recursion (IsToldTruly p) answers (each answers are.each)
  where
    each : (xs : List Answered) → AllByRecursion (Answers p CHECK_BUDGET) xs → AllByRecursion (IsToldTruly p) xs
    each [] all = tt
    each (x ∷ xs) all = (record { reason = all.0; word = answers_are_true p is x.name x.answer all.0 }, each xs all.1)

-- what a verdict tells is true
pub told_truly : (p : Meaning) (v : Verdict) → IsResolved p → IsVerdict p CHECK_BUDGET v → AllToldTruly p v
told_truly p (verdict.Accepted policy) is accepted = meets p is accepted.certified
told_truly p (verdict.Refused answers policy) is refused = all_truly p answers is refused.answers_are
told_truly p (verdict.Undecided answers policy) is undecided = all_truly p answers is undecided.answers_are

-- what must come of a text that was judged
judged_decides : (policy : Told) (text : List ℕ) (p : Meaning) (v : Verdict) (code : ℕ) → MayRead kind.Policy policy text → SpellsPolicy text p
    → IsVerdict p CHECK_BUDGET v → code ≡ code_of (verdict_status v) → Decides policy code
judged_decides policy text p (verdict.Accepted kept) code read spells accepted own =
    let is = resolved policy text p read spells in
    record {
      accepts = λ q held met. rw own refl;
      refuses = λ q held unmet_q. absurd (unmet_q (subst MeetsObligations (same_policy policy text p q read spells held) (meets p is accepted.certified)));
      decides = λ q held none three. absurd (omega arith);
    }
judged_decides policy text p (verdict.Refused answers kept) code read spells refused own =
    let is = resolved policy text p read spells in
    record {
      accepts = λ q held met. absurd (unmet p is answers refused (subst MeetsObligations (sym (same_policy policy text p q read spells held)) met));
      refuses = λ q held unmet_q. rw own refl;
      decides = λ q held none three. absurd (omega arith);
    }
judged_decides policy text p (verdict.Undecided answers kept) code read spells undecided own =
    let is = resolved policy text p read spells in
    record {
      accepts = λ q held met. rw own refl;
      refuses = λ q held unmet_q. rw own refl;
      decides = λ q held none three. none (subst SomeIsOpen (same_policy policy text p q read spells held) (open_one p is answers undecided));
    }

-- no text that was judged is one that isn't
pub judged_refuses : (policy : Told) (text : List ℕ) (p : Meaning) (code : ℕ) → MayRead kind.Policy policy text → SpellsPolicy text p → first_crowded p ob_names ≡ None
    → Refuses policy code
judged_refuses policy text p code read spells few = record {
  crowded = λ held q holding spelled many.
      let same = one_policy text p q spells (subst (λ (t : List ℕ). SpellsPolicy t q) (sym (text_read kind.Policy policy text held read holding)) spelled) in
      absurd (many (subst (λ (m : Meaning). first_crowded m ob_names ≡ None) same few));
  faulty = λ held fault holding has.
      absurd (never_both text p fault spells (subst (λ (t : List ℕ). HasFault t fault) (sym (text_read kind.Policy policy text held read holding)) has));
}

-- a text that isn't judged is none that a verdict must come of
pub refused_text : (policy : Told) (text : List ℕ) (why : Refusal) (q : Meaning) → MayRead kind.Policy policy text → IsRefusal text why → Spells policy q → ⊥
refused_text policy text (refusal.Faulty fault) q read has held =
    never_both text q fault (subst (λ (t : List ℕ). SpellsPolicy t q) (sym (text_read kind.Policy policy text held.text read held.held)) held.spells) has
refused_text policy text (refusal.Crowded name) q read crowded held =
    let same = same_policy policy text crowded.p q read crowded.spells held in
    let few = subst (λ (m : Meaning). first_crowded m ob_names ≡ None) (sym same) held.few in
    let clash = sym few ∙ crowded.first in cc

pub refused_decides : (policy : Told) (text : List ℕ) (why : Refusal) (code : ℕ) → MayRead kind.Policy policy text → IsRefusal text why → Decides policy code
refused_decides policy text why code read is = record {
  accepts = λ q held met. absurd (refused_text policy text why q read is held);
  refuses = λ q held unmet_q. absurd (refused_text policy text why q read is held);
  decides = λ q held none three. refused_text policy text why q read is held;
}

pub refused_refuses : (policy : Told) (text : List ℕ) (why : Refusal) (code : ℕ) → MayRead kind.Policy policy text → IsRefusal text why → code ≡ code_of (refusal_status why)
    → Refuses policy code
refused_refuses policy text (refusal.Faulty fault) code read has own = record {
  crowded = λ held q holding spelled many.
      absurd (never_both text q fault (subst (λ (t : List ℕ). SpellsPolicy t q) (sym (text_read kind.Policy policy text held read holding)) spelled) has);
  faulty = λ held other holding has_it. rw own refl;
}
refused_refuses policy text (refusal.Crowded name) code read crowded own = record {
  crowded = λ held q holding spelled many. rw own refl;
  faulty = λ held fault holding has.
      absurd (never_both text crowded.p fault crowded.spells (subst (λ (t : List ℕ). HasFault t fault) (sym (text_read kind.Policy policy text held read holding)) has));
}

-- what must come of a text that was read
pub read_decides : (policy : Told) (text : List ℕ) (c : CheckAnswer) (code : ℕ) → MayRead kind.Policy policy text → IsCheckOf text c → code ≡ code_of (check_status c)
    → Decides policy code
read_decides policy text (checked.Judged v) code read is own = judged_decides policy text (meaning_of (policy_of v)) v code read is.spells is.is own
read_decides policy text (checked.Unjudged why) code read is own = refused_decides policy text why code read is

pub read_refuses : (policy : Told) (text : List ℕ) (c : CheckAnswer) (code : ℕ) → MayRead kind.Policy policy text → IsCheckOf text c → code ≡ code_of (check_status c)
    → Refuses policy code
read_refuses policy text (checked.Judged v) code read is own = judged_refuses policy text (meaning_of (policy_of v)) code read is.spells is.few
read_refuses policy text (checked.Unjudged why) code read is own = refused_refuses policy text why code read is own

-- a policy that is found to be playable has right certificates for its handlers
pub handlers_of : (p : Meaning) (v : Verdict) → IsVerdict p CHECK_BUDGET v → IsTrue (is_playable v) → HasCertifiedHandlers p
handlers_of p (verdict.Accepted kept) is plays = playable_law.accepted p is.certified
handlers_of p (verdict.Refused answers kept) is plays = handlers_certified p answers (handlers_kept p CHECK_BUDGET answers is.answers_are plays)
handlers_of p (verdict.Undecided answers kept) is plays = handlers_certified p answers (handlers_kept p CHECK_BUDGET answers is.answers_are plays)

-- no policy whose comparisons are differences is left undecided: no system of it is open
pub never_left : (policy : Told) (code : ℕ) → Decides policy code → (p : Meaning) → Spells policy p → ComparesDifferences p → code ≢ 3
never_left policy code decides p held form = decides.decides p held (λ open_one. closed p form open_one.0 open_one.1)
