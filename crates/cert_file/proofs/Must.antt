-- What is answered rightly is answered as it must be: the causes exclude each other, and each settles its answer.
use Rattle.std.proofs.Common.{◌≡◌, ℕ, List, Some, None, Result, Ok, Err, IfOk, IfErr, ap, sym, subst, ◌∙◌, refl}
use Rattle.std.specs.List.{AllZip}
use Rattle.linear_cert.specs.Right.{CertTree}
use Rattle.policy_tree.specs.Meaning.{Meaning}
use Rattle.obligations.specs.declared.names.ObName.{ObName}
use Rattle.obligations.specs.Counts.{first_crowded}
use Rattle.obligations.specs.Names.{ob_names}
use Rattle.policy_checker.specs.Certified.{Certifies}
use Rattle.cert_file.specs.Answers.{IsCauseOf, IsUncrowded, IsUnlessMemory, IsVerified, IsWritten, MustAnswer}
use Rattle.cert_file.specs.BadLines.{IsFirstBadLine}
use Rattle.cert_file.specs.Laws.{IsOkOrMemory}
use Rattle.cert_file.specs.Wrong.{IsFirstWrongOf, IsWrongAt, Proves, count_systems}
use Rattle.cert_file.specs.declared.answer.Verified.{Verified}
use Rattle.cert_file.specs.declared.answer.VerifyFault.{VerifyFault}
use Rattle.cert_file.specs.declared.answer.VerifyFault.TheVariants as fault
use Rattle.cert_file.proofs.OneFile.{not_both, one_bad_line, one_file}
use Rattle.cert_file.proofs.Places.{none_wrong_of, same_wrong}

module _ (p : Meaning) (text : List ℕ) where
  crowd : (ob : ObName) (count : ℕ) → IsUncrowded p → first_crowded p ob_names ≡ Some (ob, count) → ⊥
  crowd ob count none some = let clash : None ≡ Some (ob, count) = sym none ∙ some in let nothing : ⊥ = cc clash in nothing

  proved_not_wrong : (ob : ObName) (place : ℕ) → Proves p text → IsWrongAt p text ob place → ⊥
  proved_not_wrong ob place proves wrong =
      let same = one_file text proves.lists wrong.lists proves.spelled wrong.spelled in
      none_wrong_of p ob_names wrong.lists ob place (subst (λ (ls : List (List CertTree)). AllZip (Certifies p) ob_names ls) same proves.right) wrong.first

  one_wrong : (one two : ObName) (first second : ℕ) → IsWrongAt p text one first → IsWrongAt p text two second → (one ≡ two) × (first ≡ second)
  one_wrong one two first second wrong worse =
      let same = one_file text worse.lists wrong.lists worse.spelled wrong.spelled in
      same_wrong p ob_names wrong.lists one two first second wrong.first (subst (λ (ls : List (List CertTree)). IsFirstWrongOf p ob_names ls two second) same worse.first)

  abbrev Answers : Result Verified VerifyFault → Type 0
  Answers result = IfOk result (IsVerified p text) × IfErr result (IsCauseOf p text)

  accepts : (result : Result Verified VerifyFault) → Answers result → (verified : Verified) → IsVerified p text verified → IsUnlessMemory (Ok verified) result
  accepts (Ok other) is verified should =
      let same : other.systems ≡ verified.systems = is.0.systems ∙ sym should.systems in
      ap (λ (k : ℕ). (let v : Verified = record { systems = k } in let r : Result Verified VerifyFault = Ok v in r)) same
  accepts (Err (fault.Cases ob count)) is verified should = absurd (crowd ob count should.uncrowded is.1)
  accepts (Err (fault.BadLine line)) is verified should = absurd (not_both text should.proves.lists line should.proves.spelled is.1.1)
  accepts (Err (fault.Wrong ob place)) is verified should = absurd (proved_not_wrong ob place should.proves is.1.1)
  accepts (Err fault.Memory) is verified should = tt

  crowded : (result : Result Verified VerifyFault) → Answers result → (ob : ObName) (count : ℕ) → first_crowded p ob_names ≡ Some (ob, count) → IsUnlessMemory (Err (fault.Cases ob count)) result
  crowded (Ok other) is ob count should = absurd (crowd ob count is.0.uncrowded should)
  crowded (Err (fault.Cases other many)) is ob count should =
      let same : Some (other, many) ≡ Some (ob, count) = sym is.1 ∙ should in
      let pair : (other, many) ≡ (ob, count) = cc same in
      let obs : other ≡ ob = ap (λ (x : ObName × ℕ). x.0) pair in
      let counts : many ≡ count = ap (λ (x : ObName × ℕ). x.1) pair in
      cc (obs, counts)
  crowded (Err (fault.BadLine line)) is ob count should = absurd (crowd ob count is.1.0 should)
  crowded (Err (fault.Wrong other place)) is ob count should = absurd (crowd ob count is.1.0 should)
  crowded (Err fault.Memory) is ob count should = tt

  bad_line : (result : Result Verified VerifyFault) → Answers result → (line : ℕ) → IsUncrowded p → IsFirstBadLine text line → IsUnlessMemory (Err (fault.BadLine line)) result
  bad_line (Ok other) is line none bad = absurd (not_both text is.0.proves.lists line is.0.proves.spelled bad)
  bad_line (Err (fault.Cases ob count)) is line none bad = absurd (crowd ob count none is.1)
  bad_line (Err (fault.BadLine other)) is line none bad =
      let same : other ≡ line = one_bad_line text other line is.1.1 bad in
      cc same
  bad_line (Err (fault.Wrong ob place)) is line none bad = absurd (not_both text is.1.1.lists line is.1.1.spelled bad)
  bad_line (Err fault.Memory) is line none bad = tt

  wrong_at : (result : Result Verified VerifyFault) → Answers result → (ob : ObName) (place : ℕ) → IsUncrowded p → IsWrongAt p text ob place → IsUnlessMemory (Err (fault.Wrong ob place)) result
  wrong_at (Ok other) is ob place none wrong = absurd (proved_not_wrong ob place is.0.proves wrong)
  wrong_at (Err (fault.Cases other count)) is ob place none wrong = absurd (crowd other count none is.1)
  wrong_at (Err (fault.BadLine line)) is ob place none wrong = absurd (not_both text wrong.lists line wrong.spelled is.1.1)
  wrong_at (Err (fault.Wrong other last)) is ob place none wrong =
      let same = one_wrong other ob last place is.1.1 wrong in
      let obs : other ≡ ob = same.0 in
      let places : last ≡ place = same.1 in
      cc (obs, places)
  wrong_at (Err fault.Memory) is ob place none wrong = tt

  pub must_answer : (result : Result Verified VerifyFault) → IfOk result (IsVerified p text) → IfErr result (IsCauseOf p text) → MustAnswer p text result
  must_answer result ok err = record {
    accepts = accepts result (ok, err);
    crowded = crowded result (ok, err);
    bad_line = bad_line result (ok, err);
    wrong = wrong_at result (ok, err);
  }

  -- a file that was written for the policy is verified
  pub written_verified : (result : Result Verified VerifyFault) → IsWritten p text → MustAnswer p text result → IsOkOrMemory result
  written_verified result written must = by result (must.accepts verified (record { uncrowded = written.uncrowded; proves = written.proves; systems = refl }))
    where
      verified : Verified
      verified = record { systems = count_systems p ob_names }

      by : (r : Result Verified VerifyFault) → IsUnlessMemory (Ok verified) r → IsOkOrMemory r
      by (Ok other) is = tt
      by (Err (fault.Cases ob count)) is = absurd (let clash : ⊥ = cc is in clash)
      by (Err (fault.BadLine line)) is = absurd (let clash : ⊥ = cc is in clash)
      by (Err (fault.Wrong ob place)) is = absurd (let clash : ⊥ = cc is in clash)
      by (Err fault.Memory) is = refl
