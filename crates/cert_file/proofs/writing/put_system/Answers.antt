-- The pieces of a system are its text.
use Rattle.std.proofs.Common.{rules}
use Rattle.linear_cert.specs.Right.{cert_tree}
use Rattle.cert_file.proofs.Written.{put_pieces, writable_piece}
use Rattle.cert_file.proofs.writing.put_system.Goals as goal

pub returns-clause-text : goal.returns-clause-text
returns-clause-text c =
    put_pieces c.args.text.now.items _ _ _ c.extend_from_slice-2.new.self.items c.in-Ok.own.items c.as_slice-2.result.now c.lines_in.result (cert_tree c.args.cert.now)
    c.in_ok-extend_from_slice.ensures.items c.in_ok-put_number.ensures c.in_ok-push.ensures.items c.in_ok-extend_from_slice-2.ensures.items c.as_slice-2.ensures.value (search rules) c.in-Ok.ensures

pub returns-clause-writable : goal.returns-clause-writable
returns-clause-writable c = writable_piece c.in-Ok.own.items c.lines_in.result (cert_tree c.args.cert.now) c.in-Ok.ensures (search rules) (search rules)
