-- The C header of a policy by the verdict on it. Of a policy that isn't accepted it is a draft, which says so.
use Rattle.std.specs.Prelude.{ℕ, List, [], ◌∷◌, ◌++◌, codes}
use Rattle.std.specs.List.{flat_map}
use Rattle.policy_tree.specs.Meaning.{Meaning, meaning_of}
use Rattle.obligations.specs.declared.names.ObName.{ObName}
use Rattle.obligations.specs.Names.{ob_text}
use Rattle.policy_checker.specs.Outcomes.{outcome_of}
use Rattle.policy_checker.specs.declared.answer.Answered.{Answered}
use Rattle.policy_checker.specs.declared.answer.Outcome.{Outcome}
use Rattle.policy_checker.specs.declared.answer.Outcome.TheVariants as outcome
use Rattle.policy_checker.specs.declared.verdict.Verdict.{Verdict}
use Rattle.policy_checker.specs.declared.verdict.Verdict.TheVariants as verdict
use Rattle.c_printer.specs.declared.words.HeaderKind.TheVariants as header
use Rattle.c_printer.specs.Adds.{glued}
use Rattle.c_printer.specs.CText.{c_body, c_text}

-- what is told of an obligation of which that was found; nothing where it holds
abbrev pub told_texts : ObName → Outcome → List (List ℕ)
told_texts name outcome.Holds = []
told_texts name outcome.Fails = codes " " ∷ ob_text name ∷ codes " fails." ∷ []
told_texts name outcome.Undecided = codes " " ∷ ob_text name ∷ codes " is undecided." ∷ []

-- the same of an answer
abbrev pub flaw_texts : Answered → List (List ℕ)
flaw_texts answered = told_texts answered.name (outcome_of answered.answer)

-- what a draft is
abbrev pub about_texts : List (List ℕ)
about_texts =
    codes "\n *\n"
    ∷ codes " * This is a draft for lectures and tries: the rules of that policy as C99,\n"
    ∷ codes " * printed from its text. Change the text, and print it again. The laws of\n"
    ∷ codes " * accepted policies aren't proved of it. A balancer by it may leave a core\n"
    ∷ codes " * idle beside waiting threads. No proof of this project speaks of C.\n */\n" ∷ []

-- The comment at the head of a draft. Its first line names each obligation that isn't answered to hold.
abbrev pub comment_texts : List Answered → Meaning → List (List ℕ)
comment_texts answers p =
    codes "/* " ∷ p.name ∷ codes " isn't accepted." ∷ (flat_map flaw_texts answers ++ about_texts)

-- the draft of a policy whose obligations have these answers
abbrev pub draft_of : List Answered → Meaning → List ℕ
draft_of answers p = glued (comment_texts answers p) ++ c_body header.Draft p

-- the header of the policy that a verdict keeps
unfoldable pub draft_text : Verdict → List ℕ
draft_text (verdict.Accepted policy) = c_text (meaning_of policy)
draft_text (verdict.Refused answers policy) = draft_of answers (meaning_of policy)
draft_text (verdict.Undecided answers policy) = draft_of answers (meaning_of policy)
