-- The trusted edge, as contracts see it.
use Rattle.std.specs.Prelude.{◌≡◌, ℕ, List, Option, None}
use Rattle.sched_io.specs.declared.disk_files.DiskFiles.{DiskFiles}
use Rattle.sched_io.specs.Shown.{Shown}

-- how many loads failed
abbrev pub disk_faults : {R : Type 0} → DiskFiles R → ℕ
disk_faults files = files.faults

-- A writer of this kind tells its bytes always or never.
abbrev pub TellsAlwaysOrNever : {W : Type 0} → (W → Option (List ℕ)) → Type 0
TellsAlwaysOrNever {W} contents = (before after : W) → contents before ≡ None → contents after ≡ None

-- A sink over a writer is seen as the writer, and how many puts have failed.
abbrev pub writer_of : {W : Type 0} → W × ℕ → W
writer_of sink = sink.0

abbrev pub writer_faults : {W : Type 0} → W × ℕ → ℕ
writer_faults sink = sink.1

-- it tells the bytes that its writer tells, and no pieces
abbrev pub shown_by_writer : {W : Type 0} → (W → Option (List ℕ)) → W × ℕ → Shown
shown_by_writer contents sink =
    record { written = contents (writer_of sink); offered = None; faults = writer_faults sink }
