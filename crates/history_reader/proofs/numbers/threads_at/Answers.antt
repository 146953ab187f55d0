use Rattle.std.proofs.Common.{◌∷◌, [], length-append, arith}
use Rattle.history_reader.proofs.Threads.{is_full, more_read, none_read, stops}
use Rattle.history_reader.proofs.numbers.threads_at.Goals as goal

pub loop-thread-init : goal.loop-thread-init
loop-thread-init c = rw c.empty-threads.ensures (record { count = omega arith; reads = none_read c.args.text.now })

pub returns-in_default : goal.returns-in_default
returns-in_default c =
    stops c.args.text.now _ _ (let count = c.loop-thread.invariant.count in let inside = c.loop-thread-test.true in omega arith)
    c.in_default.ensures c.loop-thread.invariant.reads

pub push-requires : goal.push-requires
push-requires c = let count = c.loop-thread.invariant.count in let inside = c.loop-thread-test.true in omega arith

pub loop-thread-preserved : goal.loop-thread-preserved
loop-thread-preserved c =
    let now = c.loop-thread.invariant in
    rw c.push.ensures (record {
      count = omega (arith, now.count, length-append c.loop-thread.threads (c.in-Some.thread ∷ []));
      reads = more_read c.args.text.now _ _ _ _ c.in-Some.ensures now.reads;
    })

pub returns : goal.returns
returns c = is_full c.args.text.now _ _ (let count = c.loop-thread.invariant.count in let over = c.loop-thread-test.false in let low = c.loop-thread.auto._thread-end in omega arith) c.loop-thread.invariant.reads
