use Rattle.std.proofs.Common.{◌≡◌, ◌≤◌, ◌+◌, ◌++◌, All, length, vec_len}
use Rattle.cert_lines.specs.Text.{IsMult, mults_text}
use Rattle.cert_lines.proofs.ManyMults.{Left}
use Rattle.cert_lines.proofs.node.mults_in.Given as goal

abbrev pub invariant-loop-rest : goal.invariant-loop-rest
invariant-loop-rest l = record {
  read : l.text ≡ mults_text l.mults.items ++ l.rest;
  in_range : All IsMult l.mults.items;
  short : vec_len l.mults + length l.rest ≤ length l.text;
  left : Left l.text → Left l.rest;
}

abbrev pub decreases-loop-rest : goal.decreases-loop-rest
decreases-loop-rest l = length l.rest
