use Rattle.std.proofs.Common.{◌++◌, ap, ◌∙◌, arith, length, length-append, decimal}
use Rattle.std.proofs.lemmas.Fmt.{length-decimal-le}
use Rattle.starving_plays.proofs.traces.add_numbered.Goals as goal

pub returns-clause-few : goal.returns-clause-few
returns-clause-few c =
    let fits = c.ranges.number.fits in
    let digits = ap length (c.as_bytes.ensures.value ∙ c.format.ensures.text) in
    let short = length-decimal-le 10 c.args.number (omega arith) (omega arith) (omega arith) in
    omega (
      arith,
      ap length c.in_ok-extend_from_slice-2.ensures.items,
      ap length c.in_ok-extend_from_slice.ensures.items,
      length-append c.args.text.now.items c.args.words.now,
      length-append c.extend_from_slice.new.self.items c.as_bytes.result.now,
      digits,
      short,
    )
