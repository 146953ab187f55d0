use Rattle.std.proofs.Common.{◌∙◌, arith}
use Rattle.std.proofs.lemmas.Bool.Decides.{Decides-eqb}
use Rattle.std.proofs.lemmas.Slice.Eq.{strip_prefix_is}
use Rattle.sched_history.specs.Ranges.{IsCoreCount}
use Rattle.history_reader.proofs.WholeTexts.{found_header}
use Rattle.history_reader.proofs.reading.behind_header.Goals as goal

pub returns : goal.returns
returns c =
    let count : IsCoreCount c.args.cores = (omega (arith, c.if-cores-eq0.false), omega (arith, c.if-cores.false)) in
    found_header c.args.cores c.args.text.now c.as_bytes.result.now c.strip_prefix.result count (c.as_bytes.ensures ∙ c.print_header.ensures)
    (strip_prefix_is Decides-eqb c.args.text.now c.as_bytes.result.now c.strip_prefix.result c.strip_prefix.ensures.cases)
