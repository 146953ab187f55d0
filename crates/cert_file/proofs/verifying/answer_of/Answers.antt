-- What comes of the whole file, of which no obligation has too many cases.
use Rattle.std.proofs.Common.{◌∙◌}
use Rattle.policy_tree.specs.Meaning.{meaning_of}
use Rattle.cert_file.proofs.Whole.{caused_by, uncrowded_by, verified_by}
use Rattle.cert_file.proofs.verifying.answer_of.Goals as goal

pub returns-in-Ok-tally_of-clause-verified : goal.returns-in-Ok-tally_of-clause-verified
returns-in-Ok-tally_of-clause-verified c =
    let p = meaning_of c.args.policy.now in
    let none = uncrowded_by p (λ ob count some. let clash = (c.in-Ok.ensures.crowded ob count).1 some in let nothing : ⊥ = cc clash in nothing) in
    verified_by p c.args.text.now c.in-Ok-tally_of.tally c.verdict_of.result none (c.in-Ok-tally_of.ensures.tally p (c.as_slice.ensures.items ∙ c.in-Ok.ensures.ok)) c.verdict_of.ensures

pub returns-in-Ok-tally_of-clause-cause : goal.returns-in-Ok-tally_of-clause-cause
returns-in-Ok-tally_of-clause-cause c =
    let p = meaning_of c.args.policy.now in
    let none = uncrowded_by p (λ ob count some. let clash = (c.in-Ok.ensures.crowded ob count).1 some in let nothing : ⊥ = cc clash in nothing) in
    caused_by p c.args.text.now c.in-Ok-tally_of.tally c.verdict_of.result none (c.in-Ok-tally_of.ensures.tally p (c.as_slice.ensures.items ∙ c.in-Ok.ensures.ok)) c.verdict_of.ensures

pub returns-in-Err-BadText-clause-cause : goal.returns-in-Err-BadText-clause-cause
returns-in-Err-BadText-clause-cause c =
    let p = meaning_of c.args.policy.now in
    let none = uncrowded_by p (λ ob count some. let clash = (c.in-Ok.ensures.crowded ob count).1 some in let nothing : ⊥ = cc clash in nothing) in
    (none, rw c.in-Err-BadText.field-0-is at (c.in-Err-BadText.ensures.fault p (c.as_slice.ensures.items ∙ c.in-Ok.ensures.ok)))

pub returns-in-Err-Cases-clause-cause : goal.returns-in-Err-Cases-clause-cause
returns-in-Err-Cases-clause-cause c =
    rw c.in-Err-Cases.field-0-is ((c.in-Err-Cases.ensures.crowded c.in-Err-Cases.name c.in-Err-Cases.count).0 (cc c.in-Err-Cases.field-0-is))
