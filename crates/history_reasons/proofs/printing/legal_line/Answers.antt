-- An entry's line leaves room for the word before it.
use Rattle.std.proofs.Common.{ℕ, List, ◌++◌, ap, arith, codes, length, ◌∙◌}
use Rattle.std.proofs.lemmas.List.{length-append}
use Rattle.round_model.specs.Entries.{reads_of}
use Rattle.sched_history.specs.Spelling.{head_of, reads_from, words_with}
use Rattle.sched_history.proofs.RoomLemmas.{length-head_of, reads-length, words_parts}
use Rattle.history_reasons.proofs.printing.legal_line.Goals as goal

pub add-requires-2 : goal.add-requires-2
add-requires-2 c =
    let (cores, is) = c.requires in let e = c.args.entry.now in let start = c.args.start in
    let head = length-head_of cores start e is in
    let reads = reads-length cores start e is in
    let words = ap length (words_parts start e) in
    omega (
      arith,
      head,
      reads,
      words,
      length-append (head_of e) (reads_from start (reads_of e)),
      length-append (words_with (reads_from start) e) (codes "\n"),
      ap length c.print_entry.ensures,
      ap length c.as_bytes.ensures,
      ap length (c.add.ensures ∙ ap (λ (bytes : List ℕ). bytes ++ codes "legal ") c.new-line.ensures),
    )
