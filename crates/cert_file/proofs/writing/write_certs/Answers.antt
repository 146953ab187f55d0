-- The heading, and all obligations.
use Rattle.std.proofs.Common.{◌++◌, ◌∙◌, List, ap, codes, subst}
use Rattle.obligations.specs.declared.names.ObName.{ObName}
use Rattle.policy_tree.specs.Meaning.{meaning_of}
use Rattle.cert_file.specs.Reading.{AreWritten}
use Rattle.cert_file.proofs.Written.{written_whole}
use Rattle.cert_file.proofs.writing.write_certs.Goals as goal

pub returns : goal.returns
returns c =
    let p = meaning_of c.args.policy.now in
    let front = c.in_ok-extend_from_slice.ensures.items ∙ ap (λ t. t ++ codes "certificates 1\n") c.new-text.ensures.items in
    let written = subst (λ (names : List ObName). AreWritten p names c.extend_from_slice.new.self.items c.put_obligations.new.text.items) c.obligations.ensures.names c.in_ok-put_obligations.ensures in
    record {
      uncrowded = c.obligations.ensures.few;
      proves = written_whole p c.extend_from_slice.new.self.items c.put_obligations.new.text.items front written;
    }
