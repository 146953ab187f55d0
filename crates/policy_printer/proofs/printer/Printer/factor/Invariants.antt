-- The signs so far.
use Rattle.std.proofs.Common.{codes, replicate}
use Rattle.policy_printer.specs.Adds.{Adds}
use Rattle.policy_printer.proofs.printer.Printer.factor.Given as goal

abbrev pub invariant-loop-sign : goal.invariant-loop-sign
invariant-loop-sign l = Adds (replicate l._sign (codes "-")) l.initial.self.bytes.items l.self.bytes.items
