-- What can be told of an explanation can be told of its parts.
use Rattle.std.proofs.Common.{subst}
use Rattle.history_reasons.specs.Lines.{CanBeTold}
use Rattle.history_replay.proofs.explanations.put_why.Goals as goal

pub print_coming-requires : goal.print_coming-requires
print_coming-requires g c = subst CanBeTold c.in-Short.is c.requires

pub put_broken-requires : goal.put_broken-requires
put_broken-requires g c = subst CanBeTold c.in-Illegal.is c.requires
