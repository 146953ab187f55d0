-- The number of cores takes two digits at most.
use Rattle.std.proofs.Common.{List, ℕ, ◌++◌, codes, length, length-append, ap, ◌∙◌, arith}
use Rattle.sched_history.specs.Spelling.{spaced_number}
use Rattle.sched_history.proofs.RoomLemmas.{count-length}
use Rattle.sched_history.proofs.printing.print_header.Goals as goal

pub add-requires-2 : goal.add-requires-2
add-requires-2 c =
    let number = spaced_number c.args.cores in
    let front = c.add.ensures ∙ ap (λ (bytes : List ℕ). bytes ++ codes "history 2 cores") c.requires.empty in
    let whole = ap length (c.add_spaced.ensures ∙ ap (λ (bytes : List ℕ). bytes ++ number) front) in
    omega (arith, whole, length-append (codes "history 2 cores") number, count-length c.args.cores c.requires.cores)
