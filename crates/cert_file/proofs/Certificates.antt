-- A certificate that is read from the lines that were announced for it, and the bad line where none is.
use Rattle.std.proofs.Common.{◌≡◌, ◌≢◌, ℕ, zero, suc, ◌+◌, ◌-◌, ◌<◌, ◌≤◌, ◌^◌, List, [], ◌∷◌, ◌++◌, length, length-append, append_assoc, ap, sym, subst, ◌∙◌, refl, arith}
use Rattle.std.proofs.lemmas.List.{append-nil}
use Rattle.std.proofs.lemmas.List.Elements.{All-nil}
use Rattle.linear_cert.specs.Right.{CertTree}
use Rattle.sched_base.specs.declared.limits.TheConstants.{MAX_SPLITS}
use Rattle.obligations.specs.declared.names.ObName.{ObName}
use Rattle.cert_lines.specs.Faults.{IsFirstBadLine}
use Rattle.cert_lines.specs.Reading.{nodes_of}
use Rattle.cert_lines.specs.Text.{SpellsCertificate, cert_text}
use Rattle.cert_file.specs.BadLines.{IsBadFrom, parts}
use Rattle.cert_file.specs.Reading.{IsFront, IsNextCertificate, IsNextLine, IsNextSystem, feeds}
use Rattle.cert_file.specs.Text.{system_line}
use Rattle.cert_file.proofs.Feeds.{feeds_few, feeds_tree}
use Rattle.cert_file.proofs.Paths.{forward, reads_tree}
use Rattle.cert_file.proofs.Within.{bad_end, bad_in_few, bad_in_lines, lines_are_none}

-- lines are no more than bytes
pub feeds_fit : (text : List ℕ) (lines : ℕ) (front behind : List ℕ) (missing : ℕ) → IsFront text lines front behind missing → lines - missing ≤ length text
feeds_fit text lines front behind missing is =
    omega (arith, is.count, ap length is.whole, length-append front behind, feeds_few front)

nodes_are : (text : List ℕ) (lines : ℕ) (front behind : List ℕ) (missing : ℕ) (tree : CertTree) → IsFront text lines front behind missing → SpellsCertificate front tree
    → nodes_of tree + missing ≡ lines
nodes_are text lines front behind missing tree is spells =
    omega (arith, is.count, ap feeds spells.text_is, feeds_tree tree spells.in_range)

-- all lines are there
pub next_certificate : (text : List ℕ) (lines number : ℕ) (front behind : List ℕ) (missing : ℕ) (tree : CertTree) (next : ℕ) → IsFront text lines front behind missing → missing ≡ 0
    → SpellsCertificate front tree → lines < 2 ^ 64 → next ≡ number + (lines - missing) → IsNextCertificate lines tree number text next behind
next_certificate text lines number front behind missing tree next is none spells lt next_is =
    let nodes : nodes_of tree ≡ lines = omega (arith, nodes_are text lines front behind missing tree is spells, none) in
    record {
      text_is = is.whole ∙ ap (λ t. t ++ behind) spells.text_is;
      lines_are = sym nodes;
      writable = record { shallow = spells.shallow; in_range = spells.in_range; lines = omega (arith, nodes, lt) };
      next_is = omega (arith, next_is, nodes, none);
    }

-- some are missing behind a whole certificate
pub short_certificate : (text : List ℕ) (lines number : ℕ) (front behind : List ℕ) (missing : ℕ) (tree : CertTree) (systems : ℕ) (names : List ObName) (next : ℕ) → IsFront text lines front behind missing → missing ≢ 0
    → SpellsCertificate front tree → next ≡ number + (lines - missing) → IsBadFrom (parts (MAX_SPLITS ∷ []) lines systems names) number text next
short_certificate text lines number front behind missing tree systems names next is some spells next_is =
    let nodes = nodes_are text lines front behind missing tree is spells in
    let whole : text ≡ cert_text tree ++ [] = is.whole ∙ ap (λ t. t ++ behind) spells.text_is ∙ ap (λ t. cert_text tree ++ t) (is.is_all some) in
    let at : number + nodes_of tree ≡ next = omega (arith, next_is, nodes) in
    let ended = bad_end (parts [] missing systems names) (number + nodes_of tree) [] (All-nil _) (λ same. some (lines_are_none missing systems names same)) in
    let reads = reads_tree tree MAX_SPLITS [] missing systems names spells.shallow spells.in_range in
    let bad = forward (parts (MAX_SPLITS ∷ []) (nodes_of tree + missing) systems names) (parts [] missing systems names) (cert_text tree) (nodes_of tree) reads number [] (number + nodes_of tree) ended in
    subst (λ (k : ℕ). IsBadFrom (parts (MAX_SPLITS ∷ []) lines systems names) number text k) at
    (subst (λ (k : ℕ). IsBadFrom (parts (MAX_SPLITS ∷ []) k systems names) number text (number + nodes_of tree)) nodes
    (subst (λ (t : List ℕ). IsBadFrom (parts (MAX_SPLITS ∷ []) (nodes_of tree + missing) systems names) number t (number + nodes_of tree)) (sym whole) bad))

-- no certificate is there
pub no_certificate : (text : List ℕ) (lines number : ℕ) (front behind : List ℕ) (missing line systems : ℕ) (names : List ObName) → IsFront text lines front behind missing
    → IsFirstBadLine front line → IsBadFrom (parts (MAX_SPLITS ∷ []) lines systems names) number text (number + (line - 1))
no_certificate text lines number front behind zero line systems names is bad =
    subst (λ (t : List ℕ). IsBadFrom (parts (MAX_SPLITS ∷ []) lines systems names) number t (number + (line - 1))) (sym is.whole)
    (bad_in_lines (MAX_SPLITS ∷ []) 1 front line bad lines number systems names behind (is.are_lines refl))
no_certificate text lines number front behind (suc missing) line systems names is bad =
    let none = is.is_all (λ same. omega (arith, same)) in
    let whole : text ≡ front = is.whole ∙ ap (λ t. front ++ t) none ∙ append-nil front in
    let few : feeds front < lines = omega (arith, is.count) in
    subst (λ (t : List ℕ). IsBadFrom (parts (MAX_SPLITS ∷ []) lines systems names) number t (number + (line - 1))) (sym whole)
    (bad_in_few (MAX_SPLITS ∷ []) 1 front line bad lines number systems names few)

-- a system's line and its certificate
pub next_system : (lines : ℕ) (tree : CertTree) (number : ℕ) (text : List ℕ) (next : ℕ) (between : List ℕ) (last : ℕ) (behind : List ℕ) → IsNextLine (system_line lines) number text next between
    → IsNextCertificate lines tree next between last behind → IsNextSystem tree number text last behind
next_system lines tree number text next between last behind line cert = record {
  text_is = line.text_is ∙ ap (λ t. system_line lines ++ 10 ∷ t) cert.text_is ∙ ap (λ k. system_line k ++ 10 ∷ (cert_text tree ++ behind)) cert.lines_are ∙ sym (append_assoc (system_line (nodes_of tree)) (10 ∷ cert_text tree) behind);
  writable = cert.writable;
  next_is = omega (arith, line.next_is, cert.next_is);
}
