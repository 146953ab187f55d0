-- What a request asks for.
use Rattle.std.specs.Prelude.{Option, Some, None}
use Rattle.command_words.specs.Command.{Asked, bench, bound, check, crew, draft, emit, explain, make, migrate}
use Rattle.command_words.specs.Command.{play, prove, replay, report, run, simulate, verify, waits, waste, rest, tell_why}
use Rattle.command_words.specs.declared.request.Request.{Request}
use Rattle.command_words.specs.declared.request.Request.TheVariants.{Bench, Bound, Check, Crew, Draft, Emit, Explain}
use Rattle.command_words.specs.declared.request.Request.TheVariants.{Make, Migrate, Play, Prove, Replay, Report}
use Rattle.command_words.specs.declared.request.Request.TheVariants.{Run, Simulate, Unknown, Verify, Waits, Waste, Rest, Why}

abbrev pub asked : Request → Option Asked
asked (Check policy) = Some (check policy.now)
asked (Explain policy name) = Some (explain policy.now name)
asked (Prove policy) = Some (prove policy.now)
asked (Bound policy) = Some (bound policy.now)
asked (Rest policy) = Some (rest policy.now)
asked (Waits policy) = Some (waits policy.now)
asked (Emit policy) = Some (emit policy.now)
asked (Draft policy) = Some (draft policy.now)
asked (Verify policy certs) = Some (verify policy.now certs.now)
asked (Play policy trace) = Some (play policy.now trace.now)
asked (Run policy trace) = Some (run policy.now trace.now)
asked (Crew policy trace workers) = Some (crew policy.now trace.now workers)
asked (Simulate policy trace) = Some (simulate policy.now trace.now)
asked (Waste policy trace) = Some (waste policy.now trace.now)
asked (Replay files) = Some (replay files.policy.now files.trace.now files.history.now)
asked (Report files) = Some (report files.policy.now files.trace.now files.history.now)
asked (Migrate files) = Some (migrate files.policy.now files.trace.now files.history.now)
asked (Why files) = Some (tell_why files.policy.now files.trace.now files.history.now)
asked (Make seed size) = Some (make seed size)
asked (Bench seed size) = Some (bench seed size)
asked Unknown = None
