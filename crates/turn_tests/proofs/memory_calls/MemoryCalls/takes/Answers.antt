use Rattle.turn_tests.proofs.Stepping.{look_read}
use Rattle.turn_tests.proofs.memory_calls.MemoryCalls.takes.Goals as goal

pub next-requires-clause-look : goal.next-requires-clause-look
next-requires-clause-look c = look_read c.args.self.now c.requires.ready c.in-Act.look (c.requires.look c.in-Act.look c.in-Act.is)
