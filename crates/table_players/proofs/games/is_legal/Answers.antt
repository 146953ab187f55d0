use Rattle.std.proofs.Common.{arith}
use Rattle.std.proofs.lemmas.Bool.Decides.{nat_tests}
use Rattle.policy_tree.specs.Meaning.{meaning_of}
use Rattle.table_players.proofs.Fitting.{crowd_within, tried_handlers}
use Rattle.table_players.proofs.Judged.{all_legal, legal_all}
use Rattle.table_players.proofs.games.is_legal.Goals as goal

pub legal_length-requires-clause-handlers : goal.legal_length-requires-clause-handlers
legal_length-requires-clause-handlers c = tried_handlers (meaning_of c.args.policy.now) c.requires.policy

pub legal_length-requires-clause-limits : goal.legal_length-requires-clause-limits
legal_length-requires-clause-limits c = crowd_within c.args.plan.now c.requires.plan

pub returns-then-entries : goal.returns-then-entries
returns-then-entries c = (λ yes. absurd (cc), λ is. absurd (let many = c.if-entries.true in let few = is.0 in omega arith))

pub returns : goal.returns
returns c =
    let p = meaning_of c.args.policy.now in let plan = c.args.plan.now in let entries = c.args.entries.now in let n = c.in_ok-length.length in let few = c.if-entries.false in (
      λ yes. (omega arith, all_legal p plan entries n c.in_ok-length.ensures (grind (arith, nat_tests))),
      λ is. let all = legal_all p plan entries n c.in_ok-length.ensures is.1 in grind (arith, nat_tests),
    )
