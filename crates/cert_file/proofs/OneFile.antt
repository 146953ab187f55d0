-- A text is read in one way: it is the file of one list of certificates for each obligation at most, or has one first bad
-- line.
use Rattle.std.proofs.Common.{◌≡◌, ℕ, suc, ◌+◌, List, [], ◌∷◌, ◌++◌, length, append_assoc, ap₂, sym, subst, ◌∙◌, refl, arith}
use Rattle.std.specs.List.{AllByRecursion}
use Rattle.std.proofs.lemmas.List.{append-nil, append_cancel_left}
use Rattle.linear_cert.specs.Right.{CertTree}
use Rattle.cert_lines.specs.Reading.{nodes_of}
use Rattle.cert_lines.specs.Text.{cert_text}
use Rattle.cert_lines.proofs.BadLines.{same_line}
use Rattle.cert_lines.proofs.OneReading.{same_certificate}
use Rattle.obligations.specs.declared.names.ObName.{ObName}
use Rattle.obligations.specs.Names.{ob_names}
use Rattle.cert_file.specs.BadLines.{all, parts, nothing, takes_heading, IsFirstBadLine}
use Rattle.cert_file.specs.Laws.{OneReading}
use Rattle.cert_file.specs.Text.{AreWritable, IsWritable, SpellsCertificateFile, file_text, heading, obligation_line, obligations_text, system_line, system_text, systems_text}
use Rattle.cert_file.proofs.TakenLines.{obligation_lacks, same_obligation, system_lacks}
use Rattle.cert_file.proofs.Paths.{Reads, reads_line, reads_obligations, all_lines, backward, no_end}
use Rattle.cert_file.proofs.Paths as reads

-- the text of a system and what stands behind it
same_systems_text : (one two : CertTree) (rest behind : List ℕ) → IsWritable one → IsWritable two → system_text one ++ rest ≡ system_text two ++ behind → (one ≡ two) × (rest ≡ behind)
same_systems_text one two rest behind is_one is_two same =
    let text = sym (append_assoc (system_line (nodes_of one)) (10 ∷ cert_text one) rest) ∙ same ∙ append_assoc (system_line (nodes_of two)) (10 ∷ cert_text two) behind in
    let cut = same_line (system_line (nodes_of one)) (cert_text one ++ rest) (system_line (nodes_of two)) (cert_text two ++ behind) (system_lacks (nodes_of one) is_one.lines) (system_lacks (nodes_of two) is_two.lines) text in
    same_certificate one two rest behind is_one.in_range is_two.in_range cut.1

same_trees : (one two : List CertTree) (rest behind : List ℕ) → length one ≡ length two → AllByRecursion IsWritable one → AllByRecursion IsWritable two
    → systems_text one ++ rest ≡ systems_text two ++ behind → (one ≡ two) × (rest ≡ behind)
same_trees [] [] rest behind count are_one are_two same = (refl, same)
same_trees [] (tree ∷ two) rest behind count are_one are_two same = absurd (omega (arith, count))
same_trees (tree ∷ one) [] rest behind count are_one are_two same = absurd (omega (arith, count))
same_trees (tree ∷ one) (other ∷ two) rest behind count are_one are_two same =
    let text = sym (append_assoc (system_text tree) (systems_text one) rest) ∙ same ∙ append_assoc (system_text other) (systems_text two) behind in
    let first = same_systems_text tree other (systems_text one ++ rest) (systems_text two ++ behind) are_one.0 are_two.0 text in
    let others = same_trees one two rest behind (omega (arith, count)) are_one.1 are_two.1 first.1 in
    (ap₂ (λ (t : CertTree) ts. t ∷ ts) first.0 others.0, others.1)

same_lists : (names : List ObName) (one two : List (List CertTree)) → length one ≡ length names → length two ≡ length names → AllByRecursion AreWritable one → AllByRecursion AreWritable two
    → obligations_text names one ≡ obligations_text names two → one ≡ two
same_lists [] [] [] count_one count_two are_one are_two same = refl
same_lists [] [] (trees ∷ two) count_one count_two are_one are_two same = absurd (omega (arith, count_two))
same_lists [] (trees ∷ one) two count_one count_two are_one are_two same = absurd (omega (arith, count_one))
same_lists (ob ∷ names) [] two count_one count_two are_one are_two same = absurd (omega (arith, count_one))
same_lists (ob ∷ names) (trees ∷ one) [] count_one count_two are_one are_two same = absurd (omega (arith, count_two))
same_lists (ob ∷ names) (trees ∷ one) (others ∷ two) count_one count_two are_one are_two same =
    let line_one = obligation_line ob (length trees) in
    let line_two = obligation_line ob (length others) in
    let text = sym (append_assoc line_one (10 ∷ systems_text trees) (obligations_text names one)) ∙ same ∙ append_assoc line_two (10 ∷ systems_text others) (obligations_text names two) in
    let cut = same_line line_one (systems_text trees ++ obligations_text names one) line_two (systems_text others ++ obligations_text names two)
    (obligation_lacks ob (length trees) are_one.0.few) (obligation_lacks ob (length others) are_two.0.few) text in
    let count = same_obligation ob ob (length trees) (length others) are_one.0.few are_two.0.few refl cut.0 in
    let first = same_trees trees others (obligations_text names one) (obligations_text names two) count are_one.0.each are_two.0.each cut.1 in
    let rest = same_lists names one two (omega (arith, count_one)) (omega (arith, count_two)) are_one.1 are_two.1 first.1 in
    ap₂ (λ (ts : List CertTree) tss. ts ∷ tss) first.0 rest

pub one_file : (text : List ℕ) (one two : List (List CertTree)) → SpellsCertificateFile text one → SpellsCertificateFile text two → one ≡ two
one_file text one two first second =
    let same = append_cancel_left (heading ++ 10 ∷ []) (obligations_text ob_names one) (obligations_text ob_names two)
    (append_assoc heading (10 ∷ []) (obligations_text ob_names one) ∙ sym first.text_is ∙ second.text_is ∙ sym (append_assoc heading (10 ∷ []) (obligations_text ob_names two))) in
    same_lists ob_names one two first.one_for_each second.one_for_each first.writable second.writable same

-- the lines of a file
reads_file : (lists : List (List CertTree)) → length lists ≡ length ob_names → AllByRecursion AreWritable lists
    → Reads all (file_text lists) (suc (all_lines ob_names lists)) nothing
reads_file lists count are =
    reads_line all (parts [] 0 0 ob_names) nothing heading (obligations_text ob_names lists) (all_lines ob_names lists) takes_heading (reads_obligations ob_names lists count are)

pub not_both : (text : List ℕ) (lists : List (List CertTree)) (line : ℕ) → SpellsCertificateFile text lists → IsFirstBadLine text line → ⊥
not_both text lists line spells bad =
    let whole : text ≡ file_text lists ++ [] = spells.text_is ∙ sym (append-nil (file_text lists)) in
    let reads_all = reads_file lists spells.one_for_each spells.writable in
    let behind = backward all nothing (file_text lists) (suc (all_lines ob_names lists)) reads_all 1 [] line (subst (λ (t : List ℕ). IsFirstBadLine t line) whole bad) in
    no_end (1 + suc (all_lines ob_names lists)) line behind

pub one_bad_line : (text : List ℕ) (one two : ℕ) → IsFirstBadLine text one → IsFirstBadLine text two → one ≡ two
one_bad_line text one two first second = reads.one_bad_line all 1 text one two first second

-- the law of one reading
pub one_reading : OneReading
one_reading = record { one_file = one_file; one_bad_line = one_bad_line; not_both = not_both }
