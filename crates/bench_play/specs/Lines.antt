-- How a bench is written, line by line.
use Rattle.std.specs.Prelude.{ℕ, List, ◌∷◌, codes}
use Rattle.sched_report.specs.Lines.{line_of_total, totals_lines}
use Rattle.bench_play.specs.declared.playing.BenchTotals.{BenchTotals}

-- the line of the threads
abbrev pub threads_line : ℕ → List ℕ
threads_line threads = line_of_total (codes "threads ") threads

-- the seven lines
abbrev pub bench_lines : BenchTotals → List (List ℕ)
bench_lines told = threads_line told.threads ∷ totals_lines told.totals
