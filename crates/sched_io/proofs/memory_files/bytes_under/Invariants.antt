-- What is told by all files is told by those that are left.
use Rattle.std.proofs.Common.{◌≡◌, drop, string_bytes}
use Rattle.sched_io.specs.InMemory.{told_among}
use Rattle.sched_io.proofs.memory_files.bytes_under.Given as goal

abbrev pub invariant-loop-file : goal.invariant-loop-file
invariant-loop-file l =
    told_among (λ f. string_bytes f.0) (λ f. f.1.items) l.files l.name
    ≡ told_among (λ f. string_bytes f.0) (λ f. f.1.items) (drop l.file-index l.files) l.name
