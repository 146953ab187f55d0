-- The rules of the turn are kept, and then those of the reads and the place.
use Rattle.std.proofs.Common.{◌<◌, ◌∷◌, sym, ◌∙◌, arith}
use Rattle.policy_tree.specs.Meaning.{meaning_of}
use Rattle.round_model.specs.declared.entry.Entry.TheVariants as entry
use Rattle.round_model.specs.Legal.{rounds_begun}
use Rattle.round_model.proofs.Judging.{is_unless_ne, some_named}
use Rattle.history_reasons.specs.Rules.{core_there, enters, next_to_enter, placement_rules, round_open}
use Rattle.history_reasons.proofs.Judging.{goes_on}
use Rattle.history_reasons.proofs.placing.why_not_enter.Goals as goal

pub returns : goal.returns
returns c history stands =
    let p = meaning_of c.args.policy.now in let plan = c.args.plan.now in let o = c.why_not_place.result in
    let e = entry.Enter c.args.thread c.args.by c.args.at c.args.reads.now in
    let rounds = c.rounds.ensures p plan history stands in
    let some = c.if-rounds-eq0.false in
    let begun : 0 < rounds_begun history = omega arith in
    let arrives = is_unless_ne c.arriving-next.result c.args.thread c.ne.result c.ne.ensures c.if-ne.false in
    let next = some_named c.args.thread (next_to_enter p plan history c.args.by) (sym arrives ∙ c.arriving-next.ensures p plan history stands) in
    goes_on p plan history e round_open (core_there ∷ enters ∷ placement_rules) o begun
    (goes_on p plan history e core_there (enters ∷ placement_rules) o c.if-by-plan.false
    (goes_on p plan history e enters placement_rules o next (c.why_not_place.ensures c.args.thread history stands)))
