-- One system after another.
use Rattle.std.proofs.Common.{sym, subst}
use Rattle.linear_cert.specs.declared.cert.Cert.{Cert}
use Rattle.linear_cert.specs.Right.{IsShallow, cert_tree}
use Rattle.cert_file.proofs.Written.{put_next, shallow_at, writable_next}
use Rattle.cert_file.proofs.writing.put_systems.Goals as goal

pub put_system-requires : goal.put_system-requires
put_system-requires c =
    subst (λ (cert : Cert). IsShallow (cert_tree cert)) (sym c.cert-item.is) (shallow_at c.args.certs.now c.loop-cert.cert-index c.cert-item.result c.requires c.loop-cert-test.true)

pub loop-cert-preserved : goal.loop-cert-preserved
loop-cert-preserved c =
    let at = c.loop-cert.cert-index in
    let now = c.loop-cert.invariant in
    let put = c.in_ok-put_system.ensures in
    record {
      text = put_next c.args.text.now.items _ _ c.args.certs.now at c.cert-item.result c.loop-cert-test.true c.cert-item.is now.text put.text;
      writable = writable_next c.args.certs.now at c.cert-item.result c.loop-cert-test.true c.cert-item.is now.writable put.writable;
    }
