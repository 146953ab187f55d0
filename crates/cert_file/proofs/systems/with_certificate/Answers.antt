-- One certificate more, behind those of which the first wrong place is known.
use Rattle.std.proofs.Common.{ℕ, Option, subst, sym, ◌∙◌}
use Rattle.std.proofs.lemmas.Bool.{false≢true}
use Rattle.linear_cert.specs.Right.{cert_tree}
use Rattle.cert_file.specs.Reading.{IsFoundSoFar}
use Rattle.cert_file.proofs.Places.{found_before, found_right, found_wrong}
use Rattle.cert_file.proofs.systems.with_certificate.Goals as goal

pub returns-in-Some : goal.returns-in-Some
returns-in-Some c = λ trees count shallow found.
    found_before c.args.systems.now trees (cert_tree c.args.cert.now) c.in-Some.first (subst (λ (w : Option ℕ). IsFoundSoFar c.args.systems.now trees w) c.in-Some.is found)

pub returns-then-is_right_at : goal.returns-then-is_right_at
returns-then-is_right_at c = λ trees count shallow found.
    found_right c.args.systems.now trees (cert_tree c.args.cert.now) c.args.place count (subst (λ (w : Option ℕ). IsFoundSoFar c.args.systems.now trees w) c.in-None.is found)
    (c.is_right_at.ensures.0 c.if-is_right_at.true) shallow

pub returns-else-is_right_at : goal.returns-else-is_right_at
returns-else-is_right_at c = λ trees count shallow found.
    found_wrong c.args.systems.now trees (cert_tree c.args.cert.now) c.args.place count (subst (λ (w : Option ℕ). IsFoundSoFar c.args.systems.now trees w) c.in-None.is found)
    (λ right. false≢true (sym c.if-is_right_at.false ∙ c.is_right_at.ensures.1 right))
