use Rattle.policy_checker.proofs.deciding.decided.Goals as goal

pub returns-then-is_difference-clause-found : goal.returns-then-is_difference-clause-found
returns-then-is_difference-clause-found c = c.by_differences.ensures c.args.budget
