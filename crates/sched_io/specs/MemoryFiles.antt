-- Files in memory, as contracts see them.
use Rattle.std.specs.Prelude.{ℕ, List, map, Option, option_map, String, string_bytes, Vec}
use Rattle.sched_io.specs.Loads.{LoadRequest, load_request}
use Rattle.sched_io.specs.declared.memory_files.MemoryFiles.{MemoryFiles}
use Rattle.sched_io.specs.InMemory.{told_among}
use Rattle.sched_io.specs.Told.{Told}

-- what is told of a name
abbrev pub told_by : MemoryFiles → List ℕ → Told
told_by m name = told_among (λ f. string_bytes f.0) (λ f. f.1.items) m.files.items name

-- the numbers of the loads that fail
abbrev pub failing_of : MemoryFiles → List ℕ
failing_of m = m.failing.items

-- the number of the next load
abbrev pub loads_of : MemoryFiles → ℕ
loads_of m = m.loads

-- a load that was kept
abbrev pub request_in : {A : Type 0} → String A × ℕ → LoadRequest
request_in kept = load_request (string_bytes kept.0) kept.1

-- the loads that were kept
abbrev pub requests_in : {A : Type 0} → Option (Vec (String A × ℕ) A) → Option (List LoadRequest)
requests_in kept = option_map (λ v. map request_in v.items) kept

-- the loads so far, as long as there was memory to keep them
abbrev pub requested_of : MemoryFiles → Option (List LoadRequest)
requested_of m = requests_in m.requested

abbrev pub faults_of : MemoryFiles → ℕ
faults_of m = m.faults
