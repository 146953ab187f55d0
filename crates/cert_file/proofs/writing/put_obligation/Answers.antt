-- The pieces of an obligation are its text.
use Rattle.std.proofs.Common.{◌∙◌, map, sym}
use Rattle.std.proofs.lemmas.List.{length-map}
use Rattle.std.proofs.lemmas.Result.{on_ok_weaker}
use Rattle.linear_cert.specs.Right.{cert_tree}
use Rattle.cert_file.proofs.Written.{put_obligation_pieces}
use Rattle.cert_file.proofs.writing.put_obligation.Goals as goal

pub returns-clause-text : goal.returns-clause-text
returns-clause-text c =
    on_ok_weaker c.put_systems.result
    (λ put. put_obligation_pieces c.args.text.now.items _ _ _ _ _ c.put_systems.new.text.items c.as_bytes.result.now c.args.name _ (map cert_tree c.args.certs.now)
    c.in_ok-extend_from_slice.ensures.items c.in_ok-extend_from_slice-2.ensures.items (c.as_bytes.ensures.value ∙ c.text.ensures.text) c.in_ok-push.ensures.items c.in_ok-put_number.ensures
    (sym (length-map c.args.certs.now cert_tree)) c.in_ok-push-2.ensures.items put)
    c.put_systems.ensures.text
