use Rattle.std.proofs.Common.{◌∙◌, ap, sym, rules, FitsSigned}
use Rattle.std.specs.Int.{w32}
use Rattle.std.proofs.lemmas.Int.{to_z-of_z}
use Rattle.policy_tree.specs.declared.typed.Attr.{Attr}
use Rattle.job_trace.proofs.StartLemmas.{starts-declared, starts-past}
use Rattle.job_trace.proofs.constants.start_at.Goals as goal

pub returns-in-Some : goal.returns-in-Some
returns-in-Some c =
    let attrs = c.args.attrs.now in
    let (found, is, some, within, value) = c.in-Some.ensures.lookup in
    let inside = within.0 in
    let small : FitsSigned w32 c.in-Some.attr.now.start = search rules in
    to_z-of_z w32 c.in-Some.attr.now.start small ∙ ap (λ (a : Attr). a.start) is
    ∙ sym (starts-declared attrs c.args.at c.in-Some.attr.now c.requires inside)

pub returns-in-None : goal.returns-in-None
returns-in-None c =
    let (found, is, some, past, value) = c.in-None.ensures.lookup in
    sym (starts-past c.args.attrs.now c.args.at c.requires past)
