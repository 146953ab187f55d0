-- What is found under the name is what is told of it.
use Rattle.std.proofs.Common.{◌≡◌, ◌∙◌, inr}
use Rattle.sched_io.proofs.memory_files.MemoryFilesFiles.load.Goals as goal

pub returns-in_default-clause-failed : goal.returns-in_default-clause-failed
returns-in_default-clause-failed c h = inr (rw c.as_slice.ensures.value at c.in_default.ensures)

pub returns-in_default-clause-only_chosen : goal.returns-in_default-clause-only_chosen
returns-in_default-clause-only_chosen c h = inr (rw c.as_slice.ensures.value at c.in_default.ensures)

pub returns-then-fails-clause-missing_is_no_fault : goal.returns-then-fails-clause-missing_is_no_fault
returns-then-fails-clause-missing_is_no_fault c h =
    let found = rw c.as_slice.ensures.value at c.in-Some.ensures in cc

pub returns-then-bytes-limit-clause-too_long : goal.returns-then-bytes-limit-clause-too_long
returns-then-bytes-limit-clause-too_long c fault bytes h =
    let found = rw c.as_slice.ensures.value at c.in-Some.ensures in
    let same : c.in-Some.bytes.now ≡ bytes = cc in
    rw (← same) c.if-bytes-limit.true

pub returns-then-bytes-limit-clause-missing : goal.returns-then-bytes-limit-clause-missing
returns-then-bytes-limit-clause-missing c h =
    let found = rw c.as_slice.ensures.value at c.in-Some.ensures in cc

pub returns-clause-bytes : goal.returns-clause-bytes
returns-clause-bytes c bytes h =
    let found = rw c.as_slice.ensures.value at c.in-Some.ensures in
    let same : c.in-Some.bytes.now ≡ bytes = cc in
    c.in_ok-from_slice.ensures.items ∙ same

pub returns-clause-missing : goal.returns-clause-missing
returns-clause-missing c h =
    let found = rw c.as_slice.ensures.value at c.in-Some.ensures in cc
