-- No obligation has too many cases.
use Rattle.std.proofs.Common.{◌∙◌, Err, ap, sym}
use Rattle.policy_answers.proofs.bounding.bounding_of.Goals as goal

pub unreachable-requires : goal.unreachable-requires
unreachable-requires c =
    let crowded = (c.in-Err-Cases.ensures.crowded c.in-Err-Cases._name c.in-Err-Cases._count).0 (ap Err c.in-Err-Cases.field-0-is) in
    let clash = sym c.requires.few ∙ crowded in
    cc
