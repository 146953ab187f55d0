-- What is left repeats what the whole repeats, and what was given so far is new.
use Rattle.std.proofs.Common.{◌≡◌, ◌++◌, drop, map}
use Rattle.job_trace.specs.Rules.{const_gift, is_repeated}
use Rattle.job_trace.proofs.given.Given.take_consts.Given as goal

abbrev pub invariant-loop-given : goal.invariant-loop-given
invariant-loop-given l = record {
  same : is_repeated l.initial.self (map (const_gift l.core) l.consts) ≡ is_repeated l.self (map (const_gift l.core) (drop l.given-index l.consts));
  whole : l.initial.self ++ map (const_gift l.core) l.consts ≡ l.self ++ map (const_gift l.core) (drop l.given-index l.consts);
}
