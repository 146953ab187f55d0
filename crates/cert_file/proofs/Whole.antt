-- The heading of a file, and what comes of the whole.
use Rattle.std.proofs.Common.{◌≡◌, ◌≢◌, ℕ, List, [], ◌∷◌, ◌++◌, Option, None, Some, Result, Ok, Err, IfOk, IfErr, codes, sym, subst, ◌∙◌, refl, arith, ap}
use Rattle.policy_tree.specs.Meaning.{Meaning}
use Rattle.policy_eval.specs.Obligations.{MeetsObligations}
use Rattle.policy_eval.specs.Resolved.{IsResolved}
use Rattle.obligations.specs.declared.names.ObName.{ObName}
use Rattle.obligations.specs.Counts.{first_crowded}
use Rattle.obligations.specs.Names.{ob_names}
use Rattle.policy_checker.specs.Certified.{IsCertified}
use Rattle.policy_checker.proofs.True.{meets}
use Rattle.cert_lines.specs.declared.fault.CertFault.{CertFault}
use Rattle.cert_file.specs.Answers.{IsCauseOf, IsUncrowded, IsVerified}
use Rattle.cert_file.specs.BadLines.{Coming, all, parts, takes_heading, IsBadFrom, bad_here}
use Rattle.cert_file.specs.Reading.{FailsFrom, IsFoundOf, IsTallyOf, IsTallyOfFile, verdict_by, verdict_of}
use Rattle.cert_file.specs.Text.{SpellsCertificateFile, heading}
use Rattle.cert_file.specs.Wrong.{Proves}
use Rattle.cert_file.specs.declared.answer.Verified.{Verified}
use Rattle.cert_file.specs.declared.answer.VerifyFault.{VerifyFault}
use Rattle.cert_file.specs.declared.systems.Tally.{Tally}
use Rattle.cert_file.proofs.TakenLines.{Taken, of_heading, of_obligation, of_system, of_node, taken}
use Rattle.cert_file.proofs.Places.{same_count}
use Rattle.cert_file.proofs.Paths.{reads_line, reads_nothing}
use Rattle.cert_file.proofs.Within.{fails_behind}

pub with_heading : (text bytes : List ℕ) → text ≡ codes "certificates 1\n" ++ bytes → text ≡ heading ++ 10 ∷ bytes
with_heading text bytes is = is

pub whole_tally : (p : Meaning) (text bytes : List ℕ) (tally : Tally) → text ≡ heading ++ 10 ∷ bytes → IsTallyOf p ob_names bytes tally → IsTallyOfFile p text tally
whole_tally p text bytes tally is tallied = record {
  lists = tallied.lists;
  text_is = is ∙ ap (λ t. heading ++ 10 ∷ t) tallied.text_is;
  one_for_each = tallied.one_for_each;
  writable = tallied.writable;
  systems = tallied.systems;
  found = tallied.found;
}

pub whole_fails : (text bytes : List ℕ) (fault : CertFault) → text ≡ heading ++ 10 ∷ bytes → FailsFrom (parts [] 0 0 ob_names) 2 bytes fault → FailsFrom all 1 text fault
whole_fails text bytes fault is fails =
    fails_behind all (parts [] 0 0 ob_names) 1 2 text (heading ++ 10 ∷ []) 1 bytes fault is (omega arith)
    (reads_line all (parts [] 0 0 ob_names) (parts [] 0 0 ob_names) heading [] 0 takes_heading (reads_nothing (parts [] 0 0 ob_names))) fails

-- a choice that is no pair
pub uncrowded_by : (p : Meaning) → ((ob : ObName) (count : ℕ) → first_crowded p ob_names ≡ Some (ob, count) → ⊥) → IsUncrowded p
uncrowded_by p none = by (first_crowded p ob_names) refl
  where
    by : (found : Option (ObName × ℕ)) → first_crowded p ob_names ≡ found → IsUncrowded p
    by None is = is
    by (Some (ob, count)) is = absurd (none ob count is)

-- another heading
pub no_heading : (text : List ℕ) → ((rest : List ℕ) → text ≢ codes "certificates 1\n" ++ rest) → IsBadFrom all 1 text 1
no_heading text none = bad_here all 1 text (λ same _. let clash : ⊥ = cc same in clash) (λ line rest after is takes. by line rest is (taken all line after takes))
  where
    by : (line rest : List ℕ) {after : Coming} → text ≡ line ++ 10 ∷ rest → Taken all line after → ⊥
    by line rest is (of_heading c l a) = none rest (is ∙ ap (λ t. t ++ 10 ∷ rest) l)
    by line rest is (of_obligation ob obs count lt c l a) = let clash : ⊥ = cc c in clash
    by line rest is (of_system count obs lines some lt c l a) = let clash : ⊥ = cc c in clash
    by line rest is (of_node nodes ends lines count obs takes_it c a) = let clash : ⊥ = cc c in clash

spelled : (p : Meaning) (text : List ℕ) (tally : Tally) (file : IsTallyOfFile p text tally) → SpellsCertificateFile text file.lists
spelled p text tally file = record { text_is = file.text_is; one_for_each = file.one_for_each; writable = file.writable }

-- what comes of the whole file
verdict_ok : (p : Meaning) (text : List ℕ) (tally : Tally) (wrong : Option (ObName × ℕ)) → IsUncrowded p → IsTallyOfFile p text tally → tally.wrong ≡ wrong → IfOk (verdict_by tally.systems wrong) (IsVerified p text)
verdict_ok p text tally None none file is =
    let right = subst (λ (w : Option (ObName × ℕ)). IsFoundOf p ob_names file.lists w) is file.found in
    record {
      uncrowded = none;
      proves = record { lists = file.lists; spelled = spelled p text tally file; right = right };
      systems = file.systems ∙ same_count p ob_names file.lists right;
    }
verdict_ok p text tally (Some found) none file is = tt

verdict_err : (p : Meaning) (text : List ℕ) (tally : Tally) (wrong : Option (ObName × ℕ)) → IsUncrowded p → IsTallyOfFile p text tally → tally.wrong ≡ wrong → IfErr (verdict_by tally.systems wrong) (IsCauseOf p text)
verdict_err p text tally None none file is = tt
verdict_err p text tally (Some found) none file is =
    (none, record { lists = file.lists; spelled = spelled p text tally file; first = subst (λ (w : Option (ObName × ℕ)). IsFoundOf p ob_names file.lists w) is file.found })

pub verified_by : (p : Meaning) (text : List ℕ) (tally : Tally) (result : Result Verified VerifyFault) → IsUncrowded p → IsTallyOfFile p text tally → result ≡ verdict_of tally → IfOk result (IsVerified p text)
verified_by p text tally result none file is = subst (λ (r : Result Verified VerifyFault). IfOk r (IsVerified p text)) (sym is) (verdict_ok p text tally tally.wrong none file refl)

pub caused_by : (p : Meaning) (text : List ℕ) (tally : Tally) (result : Result Verified VerifyFault) → IsUncrowded p → IsTallyOfFile p text tally → result ≡ verdict_of tally → IfErr result (IsCauseOf p text)
caused_by p text tally result none file is = subst (λ (r : Result Verified VerifyFault). IfErr r (IsCauseOf p text)) (sym is) (verdict_err p text tally tally.wrong none file refl)

-- a policy that a file proves meets its statements
pub proved_meet : (p : Meaning) (text : List ℕ) → IsResolved p → Proves p text → MeetsObligations p
proved_meet p text resolved proves =
    let certified : IsCertified p = (proves.lists, proves.right) in
    meets p resolved certified

pub verified_meet : (p : Meaning) (text : List ℕ) (result : Result Verified VerifyFault) → IsResolved p → IfOk result (IsVerified p text) → IfOk result (λ _. MeetsObligations p)
verified_meet p text (Ok verified) resolved is = proved_meet p text resolved is.proves
verified_meet p text (Err fault) resolved is = tt
