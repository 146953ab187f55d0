-- The texts that commands load.
use Rattle.std.specs.Prelude.{ℕ, ◌<◌, ◌≤◌, List, codes, length}
use Rattle.sched_base.specs.declared.limits.TheConstants.{MAX_CERTIFICATE_BYTES, MAX_HISTORY_BYTES, MAX_POLICY_BYTES}
use Rattle.sched_base.specs.declared.limits.TheConstants.{MAX_TRACE_BYTES}
use Rattle.sched_io.specs.Told.{Told, MayHold}
use Rattle.ipanema_cli.specs.declared.texts.TextKind.{TextKind}
use Rattle.ipanema_cli.specs.declared.texts.TextKind.TheVariants as kind
use Rattle.ipanema_cli.specs.declared.texts.Texts.{Texts}

-- the most bytes of such a text
abbrev pub room_of : TextKind → ℕ
room_of kind.Policy = MAX_POLICY_BYTES
room_of kind.Trace = MAX_TRACE_BYTES
room_of kind.History = MAX_HISTORY_BYTES
room_of kind.Certificates = MAX_CERTIFICATE_BYTES

-- the line that says that a text is longer
abbrev pub too_long_line : TextKind → List ℕ
too_long_line kind.Policy = codes "too-long policy\n"
too_long_line kind.Trace = codes "too-long trace\n"
too_long_line kind.History = codes "too-long history\n"
too_long_line kind.Certificates = codes "too-long certs\n"

-- The file of which this is told may hold this text, which isn't longer than such a text may be.
pub record MayRead (which : TextKind) (told : Told) (text : List ℕ) : Type 0 where
  pub held : MayHold told text
  pub short : length text ≤ room_of which

-- The file may hold a text that is longer.
abbrev pub MayBeLong : TextKind → Told → Type 0
MayBeLong which told = (text : List ℕ) × MayHold told text × (room_of which < length text)

-- the text of that kind among the texts of a command's files
abbrev pub text_of : Texts → TextKind → List ℕ
text_of texts kind.Policy = texts.policy.items
text_of texts kind.Trace = texts.trace.items
text_of texts kind.History = texts.history.items
text_of texts kind.Certificates = texts.certificates.items

-- None of them is longer than such a text may be, of those kinds whose readers ask for it.
pub record AreShort (texts : Texts) : Type 0 where
  pub policy : length texts.policy.items ≤ MAX_POLICY_BYTES
  pub trace : length texts.trace.items ≤ MAX_TRACE_BYTES
  pub certificates : length texts.certificates.items ≤ MAX_CERTIFICATE_BYTES
