-- What is known of a failure, of a call that failed, holds wherever the call fails. A search for it would pass through all of a policy.
use Rattle.std.proofs.Common.{Result, Ok, Err, IfErr}
use Rattle.std.specs.Result.{IsErrAnd}

pub if_failed : {A E : Type 0} (P : E → Type 0) (r : Result A E) → IsErrAnd r P → IfErr r P
if_failed P (Ok x) is = absurd is
if_failed P (Err why) is = is
