-- Where the policy places threads on the core itself, nothing is read.
use Rattle.std.proofs.Common.{◌≡◌, ap, sym, ◌∙◌, subst}
use Rattle.policy_tree.specs.Meaning.{PlaceTree, meaning_of, place_tree}
use Rattle.round_model.specs.declared.entry.Entry.TheVariants as entry
use Rattle.round_model.specs.Choices.{target_by, target_of}
use Rattle.round_model.specs.Outcomes.{values_at}
use Rattle.history_reasons.specs.Judging.{Judges}
use Rattle.history_reasons.specs.Rules.{placement_count, placement_rules}
use Rattle.history_reasons.proofs.ReadReasons.{place_judged, reads_then_place, starts}
use Rattle.history_reasons.proofs.placing.why_not_place.Goals as goal

pub returns-in-Here : goal.returns-in-Here
unfolding target_of
returns-in-Here c thread history stands =
    let p = meaning_of c.args.policy.now in let plan = c.args.plan.now in
    let reads = c.args.reads.now in
    let rule = ap place_tree c.in-Here.is in
    let asks : 0 ≡ placement_count p.place plan = ap (λ (r : PlaceTree). placement_count r plan) (sym rule) in
    let from = starts p plan c.args.past.now history c.args.start c.requires.start stands in
    let here = ap (λ (r : PlaceTree). target_by r plan.cores (values_at p plan history reads) c.args.by) rule in
    subst (Judges p plan history (entry.Enter thread c.args.by c.args.at reads) placement_rules) (sym c.or.ensures)
    (reads_then_place p plan history thread c.args.by c.args.at reads 0 c.args.start c.entries.result asks from (c.entries.ensures.entries ∙ stands.entries) c.why_not_read-reason.result c.why_not_there.result
    c.why_not_read-reason.ensures (place_judged p plan history thread c.args.by c.args.at reads c.args.by c.why_not_there.result here c.why_not_there.ensures))
