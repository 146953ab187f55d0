-- The answer by the text's language is the text's.
use Rattle.std.proofs.lemmas.Result.{err_from_is_err_and}
use Rattle.policy_reader.proofs.Answered.{told_of_tokens}
use Rattle.policy_reader.proofs.reading.read.Goals as goal

pub returns-in_err-tokens-clause-fault : goal.returns-in_err-tokens-clause-fault
returns-in_err-tokens-clause-fault c =
    let p = err_from_is_err_and c.from_residual.result c.from_residual.ensures.1 in
    rw p.1 (told_of_tokens c.args.text.now p.0 c.in_err-tokens.field-0.0 c.in_err-tokens.ensures.fault p.2)
