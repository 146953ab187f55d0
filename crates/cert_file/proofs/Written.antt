-- What is put behind a text, part by part.
use Rattle.std.proofs.Common.{◌≡◌, ℕ, zero, suc, ◌+◌, ◌<◌, ◌≤◌, ◌^◌, List, [], ◌∷◌, ◌++◌, codes, decimal, length, map, take, get_or, append_assoc, ap, sym, subst, ◌∙◌, refl, arith}
use Rattle.std.specs.List.{AllByRecursion, AllZip, count_by}
use Rattle.std.proofs.lemmas.List.{append-nil, map-append, take_all, take_more}
use Rattle.linear_form.specs.System.{LinearSystem}
use Rattle.linear_cert.specs.declared.cert.Cert.{Cert}
use Rattle.linear_cert.specs.Right.{CertTree, IsShallow, cert_tree}
use Rattle.policy_tree.specs.Meaning.{Meaning}
use Rattle.obligations.specs.declared.names.ObName.{ObName}
use Rattle.obligations.specs.Names.{ob_names, ob_text, statement_of}
use Rattle.obligations.specs.Systems.{systems_of}
use Rattle.policy_checker.specs.Certified.{Certifies}
use Rattle.policy_checker.specs.Refuted.{Refutes}
use Rattle.text_forms.specs.Cuts.{is_byte}
use Rattle.cert_lines.specs.Reading.{nodes_of}
use Rattle.cert_lines.specs.Text.{SpellsCertificate}
use Rattle.cert_file.specs.Reading.{AreWritten, feeds}
use Rattle.cert_file.specs.Text.{AreWritable, IsWritable, obligation_line, obligation_text, obligations_text, system_line, system_text, systems_text}
use Rattle.cert_file.specs.Wrong.{Proves}
use Rattle.cert_file.proofs.Feeds.{feeds_count, feeds_tree}
use Rattle.cert_file.proofs.Parts.{text_more, writable_more}

shallow_trees : (systems : List LinearSystem) (trees : List CertTree) → AllZip Refutes systems trees → AllByRecursion IsShallow trees
shallow_trees [] [] right = tt
shallow_trees [] (tree ∷ trees) right = absurd right
shallow_trees (system ∷ systems) [] right = absurd right
shallow_trees (system ∷ systems) (tree ∷ trees) right = (right.0.shallow, shallow_trees systems trees right.1)

-- certificates that are right are shallow
pub certified_shallow : (p : Meaning) (ob : ObName) (trees : List CertTree) → Certifies p ob trees → AllByRecursion IsShallow trees
certified_shallow p ob trees right = shallow_trees (systems_of p (statement_of ob)) trees right

pub shallow_at : (certs : List Cert) (at : ℕ) (d : Cert) → AllByRecursion IsShallow (map cert_tree certs) → at < length certs → IsShallow (cert_tree (get_or certs at d))
shallow_at [] at d all lt = absurd (omega (arith, lt))
shallow_at (cert ∷ certs) zero d all lt = all.0
shallow_at (cert ∷ certs) (suc at) d all lt = shallow_at certs at d all.1 (omega (arith, lt))

abbrev trees_to : List Cert → ℕ → List CertTree
trees_to certs at = map cert_tree (take at certs)

trees_next : (certs : List Cert) (at : ℕ) (cert : Cert) → at < length certs → cert ≡ get_or certs at cert → trees_to certs (at + 1) ≡ trees_to certs at ++ cert_tree cert ∷ []
trees_next certs at cert lt is =
    ap (map cert_tree) (take_more certs at cert lt) ∙ map-append cert_tree (take at certs) (get_or certs at cert ∷ []) ∙ ap (λ (c : Cert). trees_to certs at ++ cert_tree c ∷ []) (sym is)

-- one system more
pub put_next : (old before after : List ℕ) (certs : List Cert) (at : ℕ) (cert : Cert) → at < length certs → cert ≡ get_or certs at cert → before ≡ old ++ systems_text (trees_to certs at)
    → after ≡ before ++ system_text (cert_tree cert) → after ≡ old ++ systems_text (trees_to certs (at + 1))
put_next old before after certs at cert lt is so_far put =
    put ∙ ap (λ t. t ++ system_text (cert_tree cert)) so_far ∙ append_assoc old (systems_text (trees_to certs at)) (system_text (cert_tree cert))
    ∙ ap (λ t. old ++ t) (sym (text_more (trees_to certs at) (cert_tree cert)) ∙ ap systems_text (sym (trees_next certs at cert lt is)))

pub writable_next : (certs : List Cert) (at : ℕ) (cert : Cert) → at < length certs → cert ≡ get_or certs at cert → AllByRecursion IsWritable (trees_to certs at) → IsWritable (cert_tree cert)
    → AllByRecursion IsWritable (trees_to certs (at + 1))
writable_next certs at cert lt is are one =
    subst (AllByRecursion IsWritable) (sym (trees_next certs at cert lt is)) (writable_more (trees_to certs at) (cert_tree cert) are one)

pub all_trees : (certs : List Cert) (at : ℕ) → length certs ≤ at → trees_to certs at ≡ map cert_tree certs
all_trees certs at le = ap (map cert_tree) (take_all at certs le)

-- a system as its pieces
pub put_pieces : (old one two three after own slice : List ℕ) (lines : ℕ) (tree : CertTree) → one ≡ old ++ codes "system " → two ≡ one ++ decimal lines → three ≡ two ++ 10 ∷ []
    → after ≡ three ++ slice → slice ≡ own → lines ≡ count_by (is_byte 10) own → SpellsCertificate own tree → after ≡ old ++ system_text tree
put_pieces old one two three after own slice lines tree first second third fourth same count spells =
    let number : lines ≡ nodes_of tree = count ∙ sym (feeds_count own) ∙ ap feeds spells.text_is ∙ feeds_tree tree spells.in_range in
    let line = system_line (nodes_of tree) in
    let put : after ≡ (((old ++ codes "system ") ++ decimal lines) ++ 10 ∷ []) ++ own =
    fourth ∙ ap (λ t. three ++ t) same ∙ ap (λ t. t ++ own) (third ∙ ap (λ t. t ++ 10 ∷ []) (second ∙ ap (λ t. t ++ decimal lines) first)) in
    put ∙ ap (λ k. (((old ++ codes "system ") ++ decimal k) ++ 10 ∷ []) ++ own) number
    ∙ append_assoc ((old ++ codes "system ") ++ decimal (nodes_of tree)) (10 ∷ []) own
    ∙ ap (λ t. t ++ 10 ∷ own) (append_assoc old (codes "system ") (decimal (nodes_of tree)))
    ∙ append_assoc old line (10 ∷ own)
    ∙ ap (λ t. old ++ (line ++ 10 ∷ t)) spells.text_is

pub writable_piece : (own : List ℕ) (lines : ℕ) (tree : CertTree) → SpellsCertificate own tree → lines ≡ count_by (is_byte 10) own → lines < 2 ^ 64 → IsWritable tree
writable_piece own lines tree spells count lt = record {
  shallow = spells.shallow;
  in_range = spells.in_range;
  lines = omega (arith, lt, count, feeds_count own, ap feeds spells.text_is, feeds_tree tree spells.in_range);
}

-- an obligation as its pieces
pub put_obligation_pieces : (old one two three four five after name : List ℕ) (ob : ObName) (count : ℕ) (trees : List CertTree) → one ≡ old ++ codes "obligation " → two ≡ one ++ name → name ≡ ob_text ob
    → three ≡ two ++ 32 ∷ [] → four ≡ three ++ decimal count → count ≡ length trees → five ≡ four ++ 10 ∷ [] → after ≡ five ++ systems_text trees → after ≡ old ++ obligation_text ob trees
put_obligation_pieces old one two three four five after name ob count trees first second same third fourth counted fifth sixth =
    let number = decimal (length trees) in
    let line = obligation_line ob (length trees) in
    let begun : two ≡ (old ++ codes "obligation ") ++ ob_text ob = second ∙ ap (λ t. one ++ t) same ∙ ap (λ t. t ++ ob_text ob) first in
    let numbered : four ≡ (((old ++ codes "obligation ") ++ ob_text ob) ++ 32 ∷ []) ++ number = fourth ∙ ap (λ k. three ++ decimal k) counted ∙ ap (λ t. t ++ number) (third ∙ ap (λ t. t ++ 32 ∷ []) begun) in
    sixth ∙ ap (λ t. t ++ systems_text trees) (fifth ∙ ap (λ t. t ++ 10 ∷ []) numbered)
    ∙ append_assoc ((((old ++ codes "obligation ") ++ ob_text ob) ++ 32 ∷ []) ++ number) (10 ∷ []) (systems_text trees)
    ∙ ap (λ t. t ++ 10 ∷ systems_text trees)
    (append_assoc ((old ++ codes "obligation ") ++ ob_text ob) (32 ∷ []) number ∙ append_assoc (old ++ codes "obligation ") (ob_text ob) (32 ∷ number)
    ∙ append_assoc old (codes "obligation ") (ob_text ob ++ 32 ∷ number))
    ∙ append_assoc old line (10 ∷ systems_text trees)

-- obligations one after the other
pub written_none : (p : Meaning) (text : List ℕ) → AreWritten p [] text text
written_none p text = record { lists = []; text_is = sym (append-nil text); one_for_each = refl; writable = tt; right = tt }

pub written_more : (p : Meaning) (ob : ObName) (names : List ObName) (before between after : List ℕ) (trees : List CertTree) → Certifies p ob trees → AreWritable trees
    → between ≡ before ++ obligation_text ob trees → AreWritten p names between after → AreWritten p (ob ∷ names) before after
written_more p ob names before between after trees right writable put written = record {
  lists = trees ∷ written.lists;
  text_is = written.text_is ∙ ap (λ t. t ++ obligations_text names written.lists) put ∙ append_assoc before (obligation_text ob trees) (obligations_text names written.lists);
  one_for_each = ap (λ k. suc k) written.one_for_each;
  writable = (writable, written.writable);
  right = (right, written.right);
}

-- the first obligation and the rest
pub written_first : (p : Meaning) (names : List ObName) (ob : ObName) (more : List ObName) (before between after : List ℕ) (trees : List CertTree) → names ≡ ob ∷ more → Certifies p ob trees → AreWritable trees
    → between ≡ before ++ obligation_text ob trees → AreWritten p more between after → AreWritten p names before after
written_first p names ob more before between after trees split right writable put written =
    subst (λ (ns : List ObName). AreWritten p ns before after) (sym split) (written_more p ob more before between after trees right writable put written)

pub written_last : (p : Meaning) (names : List ObName) (text : List ℕ) → length names ≡ 0 → AreWritten p names text text
written_last p [] text none = written_none p text
written_last p (ob ∷ more) text none = absurd (omega (arith, none))

-- the whole file
pub written_whole : (p : Meaning) (front text : List ℕ) → front ≡ codes "certificates 1\n" → AreWritten p ob_names front text → Proves p text
written_whole p front text first written = record {
  lists = written.lists;
  spelled = record {
    text_is = written.text_is ∙ ap (λ t. t ++ obligations_text ob_names written.lists) first;
    one_for_each = written.one_for_each;
    writable = written.writable;
  };
  right = written.right;
}
