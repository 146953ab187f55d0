use Rattle.bench_play.proofs.Benches.{one_bench}
use Rattle.bench_play.proofs.laws.law_one_bench.Goals as goal

pub returns : goal.returns
returns c = one_bench
