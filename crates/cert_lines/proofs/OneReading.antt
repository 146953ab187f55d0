-- A text is read in one way: it spells one certificate at most, or has one first bad line, and not both.
use Rattle.std.proofs.Common.{◌≡◌, ℕ, suc, ◌+◌, ◌-◌, List, [], ◌∷◌, ◌++◌, length, All, drop, ℤ, decimal, append_assoc, length-append, inl, inr, Result, Ok, Err, IfOk, IfErr, ap, ap₂, sym, subst, ◌∙◌, refl, arith}
use Rattle.std.specs.Fmt.{signed_decimal}
use Rattle.std.proofs.lemmas.Int.{ints}
use Rattle.std.proofs.lemmas.Fmt.{decimal_injective, signed_decimal_injective}
use Rattle.std.proofs.lemmas.List.{append-nil}
use Rattle.linear_cert.specs.declared.cert.Mult.{Mult}
use Rattle.linear_cert.specs.declared.cert.Cert.{Cert}
use Rattle.sched_base.specs.declared.limits.TheConstants.{MAX_SPLITS}
use Rattle.linear_cert.specs.Right.{CertTree, leaf, split, SplitsAtMost, cert_tree}
use Rattle.cert_lines.specs.declared.fault.CertFault.{CertFault}
use Rattle.cert_lines.specs.declared.fault.CertFault.TheVariants.{BadText, Memory}
use Rattle.cert_lines.specs.Answers.{GivesUnlessMemory, IsFaultOf, RefusesUnlessMemory}
use Rattle.cert_lines.specs.Faults.{Takes, takes_leaf, takes_split, IsBadAt, bad_here, bad_later, IsFirstBadLine}
use Rattle.cert_lines.specs.Laws.{OneReading}
use Rattle.cert_lines.specs.Nodes.{word_of}
use Rattle.cert_lines.specs.Reading.{nodes_of}
use Rattle.cert_lines.specs.Text.{AreInRange, IsMult, IsSplit, SpellsCertificate, cert_text, leaf_line, mults_text, split_line}
use Rattle.text_forms.proofs.Cutting.{same_cut}
use Rattle.cert_lines.proofs.Digits.{decimal_lacks, word_lacks_space}
use Rattle.cert_lines.proofs.ManyMults.{spaced}
use Rattle.cert_lines.proofs.BadLines.{leaf_lacks_feed, leaf_not_split, same_line, split_lacks_feed, takes_lacks_feed, takes_with_room}

mult_of : ℕ → ℕ → Mult
mult_of row by = record { row = row; by = by }

-- the text of a multiplier is that of no other
same_mult : (one two : Mult) → IsMult one → IsMult two → word_of one ≡ word_of two → one ≡ two
same_mult one two is_one is_two same =
    let parts = same_cut 58 (decimal one.row) (58 ∷ decimal one.by) (decimal two.row) (58 ∷ decimal two.by)
    (decimal_lacks 58 one.row (inr (omega arith)) (omega (arith, is_one.row))) (decimal_lacks 58 two.row (inr (omega arith)) (omega (arith, is_two.row))) refl refl same in
    let behind : decimal one.by ≡ decimal two.by = cc (parts.1) in
    let row = decimal_injective one.row two.row (omega (arith, is_one.row)) (omega (arith, is_two.row)) parts.0 in
    let by = decimal_injective one.by two.by is_one.by is_two.by behind in
    ap₂ (λ (r b : ℕ). (let m : Mult = record { row = r; by = b } in m)) row by

tail_fits : (m : Mult) (ms : List Mult) → All IsMult (m ∷ ms) → All IsMult ms
tail_fits m ms fit k d lt = fit (suc k) d (omega arith)

same_mults : (one two : List Mult) → All IsMult one → All IsMult two → mults_text one ≡ mults_text two → one ≡ two
same_mults [] [] fit_one fit_two same = refl
same_mults [] (m ∷ two) fit_one fit_two same = absurd (omega (arith, ap length same))
same_mults (m ∷ one) [] fit_one fit_two same = absurd (omega (arith, ap length same))
same_mults (m ∷ one) (n ∷ two) fit_one fit_two same =
    let is_m = fit_one 0 m (omega arith) in
    let is_n = fit_two 0 n (omega arith) in
    let text : word_of m ++ mults_text one ≡ word_of n ++ mults_text two = cc (same) in
    let parts = same_cut 32 (word_of m) (mults_text one) (word_of n) (mults_text two) (word_lacks_space m is_m) (word_lacks_space n is_n) (spaced one) (spaced two) text in
    ap₂ (λ x xs. x ∷ xs) (same_mult m n is_m is_n parts.0) (same_mults one two (tail_fits m one fit_one) (tail_fits n two fit_two) parts.1)

same_leaf : (one two : List Mult) → All IsMult one → All IsMult two → leaf_line one ≡ leaf_line two → one ≡ two
same_leaf one two fit_one fit_two same =
    let text : mults_text one ≡ mults_text two = cc (same) in
    same_mults one two fit_one fit_two text

same_split : (v w : ℕ) (y z : ℤ) → IsSplit v y → IsSplit w z → split_line v y ≡ split_line w z → (v ≡ w) × (y ≡ z)
same_split v w y z is_one is_two same =
    let text : decimal v ++ 32 ∷ signed_decimal y ≡ decimal w ++ 32 ∷ signed_decimal z = cc (same) in
    let parts = same_cut 32 (decimal v) (32 ∷ signed_decimal y) (decimal w) (32 ∷ signed_decimal z)
    (decimal_lacks 32 v (inl (omega arith)) (omega (arith, is_one.variable_fits))) (decimal_lacks 32 w (inl (omega arith)) (omega (arith, is_two.variable_fits))) refl refl text in
    let behind : signed_decimal y ≡ signed_decimal z = cc (parts.1) in (
      decimal_injective v w (omega (arith, is_one.variable_fits)) (omega (arith, is_two.variable_fits)) parts.0,
      signed_decimal_injective y z (omega (arith, ints, is_one.at_fits)) (omega (arith, ints, is_two.at_fits)) behind,
    )

-- what comes behind a split
abbrev halves : List ℕ → List ℕ
halves [] = []
halves (room ∷ coming) = (room - 1) ∷ (room - 1) ∷ coming

-- a line that is taken is that of a leaf or that of a split, which says what comes behind it
data Taken (coming line after : List ℕ) : Type 0 where
  leaf_taken : (mults : List Mult) → line ≡ leaf_line mults → after ≡ drop 1 coming → Taken coming line after
  split_taken : (variable : ℕ) (at : ℤ) → line ≡ split_line variable at → after ≡ halves coming → Taken coming line after

taken : (coming line after : List ℕ) → Takes coming line after → Taken coming line after
taken _ _ _ (takes_leaf room coming mults fit) = leaf_taken mults refl refl
taken _ _ _ (takes_split room coming variable at is) = split_taken variable at refl (let less : suc room - 1 ≡ room = omega arith in rw less refl)

same_after : (coming line one two : List ℕ) → Taken coming line one → Taken coming line two → one ≡ two
same_after coming line one two (leaf_taken ms is a) (leaf_taken ns js b) = a ∙ sym b
same_after coming line one two (split_taken v y is a) (split_taken w z js b) = a ∙ sym b
same_after coming line one two (leaf_taken ms is a) (split_taken w z js b) = absurd (leaf_not_split ms w z (sym is ∙ js))
same_after coming line one two (split_taken v y is a) (leaf_taken ns js b) = absurd (leaf_not_split ns v y (sym js ∙ is))

pub same_takes : (coming line other one two rest behind : List ℕ) → Takes coming line one → Takes coming other two → line ++ 10 ∷ rest ≡ other ++ 10 ∷ behind → (rest ≡ behind) × (one ≡ two)
same_takes coming line other one two rest behind first second same =
    let parts = same_line line rest other behind (takes_lacks_feed coming line one first) (takes_lacks_feed coming other two second) same in
    (parts.1, same_after coming line one two (taken coming line one first) (subst (λ l. Taken coming l two) (sym parts.0) (taken coming other two second)))

-- a bad line stands here, or behind a line that is taken
data Where (coming : List ℕ) (number : ℕ) (text : List ℕ) (at : ℕ) : Type 0 where
  at_once : at ≡ number → (coming ≡ [] → text ≡ [] → ⊥) → ((line rest after : List ℕ) → text ≡ line ++ 10 ∷ rest → Takes coming line after → ⊥) → Where coming number text at
  afterwards : (line rest after : List ℕ) → text ≡ line ++ 10 ∷ rest → Takes coming line after → IsBadAt after (number + 1) rest at → Where coming number text at

where_bad : (coming : List ℕ) (number : ℕ) (text : List ℕ) (at : ℕ) → IsBadAt coming number text at → Where coming number text at
where_bad _ _ _ _ (bad_here coming number text some none) = at_once refl some none
where_bad _ _ _ _ (bad_later coming after number line rest at takes bad) = afterwards line rest after refl takes bad

-- a text has one first bad line
pub one_bad_line : (coming : List ℕ) (number : ℕ) (text : List ℕ) (a b : ℕ) → IsBadAt coming number text a → IsBadAt coming number text b → a ≡ b
one_bad_line _ _ _ _ b (bad_here coming number text some none) other = by (where_bad coming number text b other)
  where
    by : Where coming number text b → number ≡ b
    by (at_once same _ _) = sym same
    by (afterwards line rest after is takes bad) = absurd (none line rest after is takes)
one_bad_line _ _ _ _ b (bad_later coming after number line rest at takes bad) other =
    by (where_bad coming number (line ++ 10 ∷ rest) b other) (one_bad_line after (number + 1) rest at b bad)
  where
    by : Where coming number (line ++ 10 ∷ rest) b → (IsBadAt after (number + 1) rest b → at ≡ b) → at ≡ b
    by (at_once same some none) again = absurd (none line rest after refl takes)
    by (afterwards l r next is takes_too worse) again =
        let same = same_takes coming line l after next rest r takes takes_too is in
        again (subst (λ t. IsBadAt after (number + 1) t b) (sym same.0) (subst (λ c. IsBadAt c (number + 1) r b) (sym same.1) worse))

-- behind a line that is taken
skip : (coming line after rest : List ℕ) (number : ℕ) (text : List ℕ) (at : ℕ) → text ≡ line ++ 10 ∷ rest → Takes coming line after → IsBadAt coming number text at → IsBadAt after (number + 1) rest at
skip coming line after rest number text at is takes bad = by (where_bad coming number text at bad)
  where
    by : Where coming number text at → IsBadAt after (number + 1) rest at
    by (at_once same some none) = absurd (none line rest after is takes)
    by (afterwards l r next js takes_too worse) =
        let same = same_takes coming line l after next rest r takes takes_too (sym is ∙ js) in
        subst (λ t. IsBadAt after (number + 1) t at) (sym same.0) (subst (λ c. IsBadAt c (number + 1) r at) (sym same.1) worse)

-- a whole certificate has no bad line
pub skip_part : (tree : CertTree) (room number : ℕ) (behind coming : List ℕ) (at : ℕ) → SplitsAtMost room tree → AreInRange tree → IsBadAt (room ∷ coming) number (cert_text tree ++ behind) at → IsBadAt coming (number + nodes_of tree) behind at
skip_part (leaf mults) room number behind coming at within fit bad =
    skip (room ∷ coming) (leaf_line mults) coming behind number _ at (append_assoc (leaf_line mults) (10 ∷ []) behind) (takes_leaf room coming mults fit) bad
skip_part (split variable value left right) room number behind coming at (some, within_left, within_right) (fit, fit_left, fit_right) bad =
    let less = room - 1 in
    let text : cert_text (split variable value left right) ++ behind ≡ split_line variable value ++ 10 ∷ (cert_text left ++ (cert_text right ++ behind)) =
    append_assoc (split_line variable value) (10 ∷ (cert_text left ++ cert_text right)) behind ∙ ap (λ xs. split_line variable value ++ 10 ∷ xs) (append_assoc (cert_text left) (cert_text right) behind) in
    let first = skip (room ∷ coming) (split_line variable value) (less ∷ less ∷ coming) (cert_text left ++ (cert_text right ++ behind)) number _ at text (takes_with_room room coming variable value some fit) bad in
    let second = skip_part left less (number + 1) (cert_text right ++ behind) (less ∷ coming) at within_left fit_left first in
    let third = skip_part right less (number + 1 + nodes_of left) behind coming at within_right fit_right second in
    let count : number + 1 + nodes_of left + nodes_of right ≡ number + (1 + (nodes_of left + nodes_of right)) = omega arith in
    subst (λ k. IsBadAt coming k behind at) count third

no_end : (number at : ℕ) → IsBadAt [] number [] at → ⊥
no_end number at bad = by (where_bad [] number [] at bad)
  where
    by : Where [] number [] at → ⊥
    by (at_once same some none) = some refl refl
    by (afterwards line rest after is takes worse) = omega (arith, ap length is, length-append line (10 ∷ rest))

pub spelled_is_good : (text : List ℕ) (tree : CertTree) (at : ℕ) → SpellsCertificate text tree → IsFirstBadLine text at → ⊥
spelled_is_good text tree at spells bad =
    let whole : text ≡ cert_text tree ++ [] = spells.text_is ∙ sym (append-nil (cert_text tree)) in
    no_end _ at (skip_part tree MAX_SPLITS 1 [] [] at spells.shallow spells.in_range (subst (λ t. IsBadAt (MAX_SPLITS ∷ []) 1 t at) whole bad))

-- a text is that of one certificate
pub same_certificate : (one two : CertTree) (rest behind : List ℕ) → AreInRange one → AreInRange two → cert_text one ++ rest ≡ cert_text two ++ behind → (one ≡ two) × (rest ≡ behind)
same_certificate (leaf ms) (leaf ns) rest behind fit_one fit_two same =
    let text = sym (append_assoc (leaf_line ms) (10 ∷ []) rest) ∙ same ∙ append_assoc (leaf_line ns) (10 ∷ []) behind in
    let parts = same_line (leaf_line ms) rest (leaf_line ns) behind (leaf_lacks_feed ms fit_one) (leaf_lacks_feed ns fit_two) text in
    (ap leaf (same_leaf ms ns fit_one fit_two parts.0), parts.1)
same_certificate (leaf ms) (split w z left right) rest behind fit_one fit_two same =
    let text = sym (append_assoc (leaf_line ms) (10 ∷ []) rest) ∙ same ∙ append_assoc (split_line w z) (10 ∷ (cert_text left ++ cert_text right)) behind in
    let parts = same_line (leaf_line ms) rest (split_line w z) _ (leaf_lacks_feed ms fit_one) (split_lacks_feed w z fit_two.0) text in
    absurd (leaf_not_split ms w z parts.0)
same_certificate (split v y left right) (leaf ns) rest behind fit_one fit_two same =
    let text = sym (append_assoc (split_line v y) (10 ∷ (cert_text left ++ cert_text right)) rest) ∙ same ∙ append_assoc (leaf_line ns) (10 ∷ []) behind in
    let parts = same_line (split_line v y) _ (leaf_line ns) behind (split_lacks_feed v y fit_one.0) (leaf_lacks_feed ns fit_two) text in
    absurd (leaf_not_split ns v y (sym parts.0))
same_certificate (split v y left right) (split w z low high) rest behind fit_one fit_two same =
    let text = sym (append_assoc (split_line v y) (10 ∷ (cert_text left ++ cert_text right)) rest) ∙ same ∙ append_assoc (split_line w z) (10 ∷ (cert_text low ++ cert_text high)) behind in
    let parts = same_line (split_line v y) _ (split_line w z) _ (split_lacks_feed v y fit_one.0) (split_lacks_feed w z fit_two.0) text in
    let numbers = same_split v w y z fit_one.0 fit_two.0 parts.0 in
    let inner = sym (append_assoc (cert_text left) (cert_text right) rest) ∙ parts.1 ∙ append_assoc (cert_text low) (cert_text high) behind in
    let first = same_certificate left low (cert_text right ++ rest) (cert_text high ++ behind) fit_one.1 fit_two.1 inner in
    let second = same_certificate right high rest behind fit_one.2 fit_two.2 first.1 in
    (cc (numbers.0, numbers.1, first.0, second.0), second.1)

pub one_spelled : (text : List ℕ) (one two : CertTree) → SpellsCertificate text one → SpellsCertificate text two → one ≡ two
one_spelled text one two first second =
    let same = ap (λ t. t ++ []) (sym first.text_is ∙ second.text_is) in
    (same_certificate one two [] [] first.in_range second.in_range same).0

-- the law of one reading
pub one_reading : OneReading
one_reading = record {
  one_certificate = one_spelled;
  one_bad_line = λ text one two first second. one_bad_line (MAX_SPLITS ∷ []) 1 text one two first second;
  not_both = spelled_is_good;
}

-- what is answered rightly is answered as it must be
pub must_give : (text : List ℕ) (result : Result Cert CertFault) → IfOk result (λ cert. SpellsCertificate text (cert_tree cert)) → IfErr result (IsFaultOf text) → (tree : CertTree) → SpellsCertificate text tree → GivesUnlessMemory tree result
must_give text (Ok cert) given fault tree spells = one_spelled text (cert_tree cert) tree given spells
must_give text (Err (BadText line)) given fault tree spells = spelled_is_good text tree line spells fault
must_give text (Err Memory) given fault tree spells = tt

pub must_refuse : (text : List ℕ) (result : Result Cert CertFault) → IfOk result (λ cert. SpellsCertificate text (cert_tree cert)) → IfErr result (IsFaultOf text) → (line : ℕ) → IsFirstBadLine text line → RefusesUnlessMemory line result
must_refuse text (Ok cert) given fault line bad = spelled_is_good text (cert_tree cert) line given bad
must_refuse text (Err (BadText other)) given fault line bad = one_bad_line (MAX_SPLITS ∷ []) 1 text other line fault bad
must_refuse text (Err Memory) given fault line bad = tt
