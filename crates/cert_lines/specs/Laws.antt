-- What the definitions are meant to give, as a law over all texts.
use Rattle.std.specs.Prelude.{◌≡◌, ℕ, List}
use Rattle.linear_cert.specs.Right.{CertTree}
use Rattle.cert_lines.specs.Faults.{IsFirstBadLine}
use Rattle.cert_lines.specs.Text.{SpellsCertificate}

-- a text spells one certificate at most, or has one first bad line, and not both
pub record OneReading : Type 0 where
  pub one_certificate : (text : List ℕ) (one two : CertTree) →
      SpellsCertificate text one → SpellsCertificate text two → one ≡ two
  pub one_bad_line : (text : List ℕ) (one two : ℕ) → IsFirstBadLine text one → IsFirstBadLine text two → one ≡ two
  pub not_both : (text : List ℕ) (tree : CertTree) (line : ℕ) →
      SpellsCertificate text tree → IsFirstBadLine text line → ⊥
