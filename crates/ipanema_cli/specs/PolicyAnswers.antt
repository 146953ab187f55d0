-- When a policy is accepted, and what commands may write of one that is.
use Rattle.std.specs.Prelude.{◌≡◌, ℕ, Bool, true, false, List, None}
use Rattle.policy_tree.specs.Meaning.{Meaning}
use Rattle.policy_reader.specs.Spelled.{SpellsPolicy}
use Rattle.obligations.specs.Counts.{first_crowded}
use Rattle.obligations.specs.Names.{ob_names}
use Rattle.policy_checker.specs.Certified.{IsCertified}
use Rattle.policy_checker.specs.declared.verdict.Verdict.TheVariants as verdict
use Rattle.policy_answers.specs.declared.answer.CheckAnswer.{CheckAnswer}
use Rattle.policy_answers.specs.declared.answer.CheckAnswer.TheVariants as checked
use Rattle.cert_file.specs.Wrong.{Proves}
use Rattle.c_printer.specs.CText.{c_text}
use Rattle.ipanema_cli.specs.declared.kinds.ExportCommand.{ExportCommand}
use Rattle.ipanema_cli.specs.declared.kinds.ExportCommand.TheVariants as export_command

-- The text spells this policy, no obligation has too many cases, and each system of each has a right certificate.
pub record IsAccepted (text : List ℕ) (p : Meaning) : Type 0 where
  pub spells : SpellsPolicy text p
  pub few : first_crowded p ob_names ≡ None
  pub certified : IsCertified p

-- whether the policy is accepted
abbrev pub accepts : CheckAnswer → Bool
accepts (checked.Judged (verdict.Accepted policy)) = true
accepts (checked.Judged (verdict.Refused answers policy)) = false
accepts (checked.Judged (verdict.Undecided answers policy)) = false
accepts (checked.Unjudged why) = false

-- a command that writes a text of an accepted policy: which text that may be
abbrev pub Exporting : Type 1
Exporting = Meaning → (text : List ℕ) → Type 0

-- the text is the policy's header in C
abbrev pub IsHeader : Exporting
IsHeader p text = text ≡ c_text p

-- what each of them may write
abbrev pub exporting_of : ExportCommand → Exporting
exporting_of export_command.Prove = Proves
exporting_of export_command.Emit = IsHeader
