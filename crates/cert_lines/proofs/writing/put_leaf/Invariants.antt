use Rattle.std.proofs.Common.{◌≡◌, ◌++◌, take, All}
use Rattle.cert_lines.specs.Text.{IsMult, leaf_line}
use Rattle.cert_lines.proofs.writing.put_leaf.Given as goal

abbrev pub invariant-loop-mult : goal.invariant-loop-mult
invariant-loop-mult l = record {
  text : l.text.items ≡ l.fn.text.items ++ leaf_line (take l.mult-index l.mults);
  in_range : All IsMult (take l.mult-index l.mults);
}
