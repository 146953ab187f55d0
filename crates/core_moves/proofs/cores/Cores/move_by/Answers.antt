use Rattle.std.proofs.Common.{◌≢◌, ℕ, ◌<◌, [], ◌++◌, ◌∷◌, IfSome, Option, ◌∙◌, ap, sym, subst}
use Rattle.policy_tree.specs.Meaning.{meaning_of}
use Rattle.round_model.specs.declared.entry.Entry.{Entry}
use Rattle.round_model.specs.declared.entry.Entry.TheVariants as entry
use Rattle.round_model.specs.After.{after, round_of}
use Rattle.round_model.specs.Attempts.{attempt_with, steal_or_fail}
use Rattle.round_model.specs.Cores.{Cores}
use Rattle.round_model.specs.Kinds.{is_attempt}
use Rattle.round_model.proofs.Grows.{one_more}
use Rattle.round_model.proofs.Moved.{unmoved_pass}
use Rattle.core_moves.proofs.Shown.{shown_same}
use Rattle.core_moves.proofs.Stealing.{moved_over, tries}
use Rattle.core_moves.proofs.cores.Cores.move_by.Goals as goal

pub returns-in-None-clause-cores : goal.returns-in-None-clause-cores
returns-in-None-clause-cores c h are =
    let p = meaning_of c.args.policy.now in let plan = c.args.plan.now in let m : Cores = after p plan h in let e : Entry = entry.Pass c.args.core c.args.reads in
    shown_same p plan h m (after p plan (h ++ e ∷ [])) c.args.self.now
    (λ k inside. unmoved_pass p plan (round_of h) m c.args.core c.args.reads k ∙ sym (ap (λ (n : Cores). n k) (one_more p plan h e))) are

pub returns-in-Some-clause-kind : goal.returns-in-Some-clause-kind
returns-in-Some-clause-kind c = ap is_attempt c.steal_or_fail.ensures ∙ tries c.args.core c.in-Some.from c.args.reads c.steal-threads.result

pub returns-in-Some-clause-entry : goal.returns-in-Some-clause-entry
returns-in-Some-clause-entry c h are = c.steal_or_fail.ensures ∙ ap (steal_or_fail c.args.core c.in-Some.from c.args.reads) (c.steal-threads.ensures.threads h are)
    ∙ ap (attempt_with (meaning_of c.args.policy.now) c.args.plan.now (after (meaning_of c.args.policy.now) c.args.plan.now h) c.args.core c.args.reads) (sym c.in-Some.is)

pub returns-in-Some-clause-cores : goal.returns-in-Some-clause-cores
returns-in-Some-clause-cores c h are =
    let p = meaning_of c.args.policy.now in let plan = c.args.plan.now in let chosen = subst (λ (o : Option ℕ). IfSome o (λ v. (v < plan.cores) × (c.args.core ≢ v))) c.in-Some.is c.requires.choice in
    moved_over p plan c.args.self.now c.args.core c.in-Some.from c.requires.core chosen.0 chosen.1 c.steal-threads.result c.args.reads c.steal-threads.new.self h
    (c.steal-threads.ensures.cores h (after p plan h) are) c.steal_or_fail.result c.steal_or_fail.ensures
