-- The words of an entry leave room for a number, and so for the line feed.
use Rattle.std.proofs.Common.{List, ℕ, ◌++◌, codes, length, length-append, ap, sym, ◌∙◌, arith}
use Rattle.round_model.specs.Entries.{reads_of}
use Rattle.sched_history.specs.Spelling.{head_of, reads_from}
use Rattle.sched_history.proofs.RoomLemmas.{length-head_of, reads-length, reads_behind, words_parts}
use Rattle.sched_history.proofs.printing.print_entry.Goals as goal

pub add_head-requires : goal.add_head-requires
add_head-requires c =
    let (cores, is) = c.requires.printable in
    let head = length-head_of cores c.args.start c.args.entry.now is in
    rw c.requires.empty (omega (arith, head))

pub add_reads-requires-clause-room : goal.add_reads-requires-clause-room
add_reads-requires-clause-room c =
    let (cores, is) = c.requires.printable in let e = c.args.entry.now in
    let head = length-head_of cores c.args.start e is in
    let reads = reads-length cores c.args.start e is in
    let line = ap length (c.add_head.ensures ∙ ap (λ (bytes : List ℕ). bytes ++ head_of e) c.requires.empty) in
    omega (arith, line, head, reads)

pub add_reads-requires-clause-start : goal.add_reads-requires-clause-start
add_reads-requires-clause-start c =
    let (cores, is) = c.requires.printable in
    reads_behind cores c.args.start c.args.entry.now is

pub add-requires : goal.add-requires
add-requires c =
    let (cores, is) = c.requires.printable in let e = c.args.entry.now in
    let head = length-head_of cores c.args.start e is in
    let reads = reads-length cores c.args.start e is in
    let line = ap length (c.add_head.ensures ∙ ap (λ (bytes : List ℕ). bytes ++ head_of e) c.requires.empty) in
    let whole = ap length c.add_reads.ensures in
    omega (arith, whole, line, head, reads, length-append c.add_head.new.line (reads_from c.args.start (reads_of e)))

pub returns : goal.returns
returns c =
    let e = c.args.entry.now in let start : ℕ = c.args.start in
    let head = c.add_head.ensures ∙ ap (λ (bytes : List ℕ). bytes ++ head_of e) c.requires.empty in
    let words = c.add_reads.ensures
    ∙ (ap (λ (bytes : List ℕ). bytes ++ reads_from start (reads_of e)) head ∙ sym (words_parts start e)) in
    c.add.ensures ∙ ap (λ (bytes : List ℕ). bytes ++ codes "\n") words
