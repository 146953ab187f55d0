-- The systems of the certificates so far stand behind the text.
use Rattle.std.proofs.Common.{◌≡◌, ◌++◌, map, take}
use Rattle.std.specs.List.{AllByRecursion}
use Rattle.linear_cert.specs.Right.{cert_tree}
use Rattle.cert_file.specs.Text.{IsWritable, systems_text}
use Rattle.cert_file.proofs.writing.put_systems.Given as goal

abbrev pub invariant-loop-cert : goal.invariant-loop-cert
invariant-loop-cert l = record {
  text : l.text.items ≡ l.fn.text.items ++ systems_text (map cert_tree (take l.cert-index l.certs));
  writable : AllByRecursion IsWritable (map cert_tree (take l.cert-index l.certs));
}
