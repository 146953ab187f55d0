-- The histories of the worked rows.
use Rattle.std.specs.Prelude.{ℕ, List, [], ◌∷◌, ◌++◌, map}
use Rattle.round_model.specs.declared.entry.Did.TheVariants as did
use Rattle.round_model.specs.declared.entry.Entry.{Entry}
use Rattle.round_model.specs.declared.entry.Entry.TheVariants as entry

abbrev pub one_core_history : List Entry
one_core_history =
    entry.Round 1
    ∷ entry.Enter 1 0 0 []
    ∷ entry.Work 0 (did.Kept 1)
    ∷ entry.Pass 0 (3 ∷ [])
    ∷ entry.Round 2
    ∷ entry.Work 0 (did.Ended 1)
    ∷ entry.Pass 0 (6 ∷ [])
    ∷ []

-- what comes before the second core's attempt
abbrev pub two_cores_front : List Entry
two_cores_front =
    entry.Round 1
    ∷ entry.Enter 1 0 0 []
    ∷ entry.Enter 2 0 0 []
    ∷ entry.Work 0 (did.Kept 1)
    ∷ entry.Pass 0 (4 ∷ 1 ∷ [])
    ∷ entry.Work 1 did.Nothing
    ∷ []

abbrev pub two_cores_history : List Entry
two_cores_history = two_cores_front ++ entry.Steal 1 0 (2 ∷ []) (5 ∷ 6 ∷ []) ∷ []

abbrev pub stale_read_history : List Entry
stale_read_history =
    entry.Round 1
    ∷ entry.Enter 1 0 0 []
    ∷ entry.Enter 2 0 0 []
    ∷ entry.Work 0 (did.Kept 1)
    ∷ entry.Pass 0 (4 ∷ 1 ∷ 1 ∷ [])
    ∷ entry.Work 1 did.Nothing
    ∷ entry.Work 2 did.Nothing
    ∷ entry.Steal 1 0 (2 ∷ []) (5 ∷ 6 ∷ 1 ∷ [])
    ∷ entry.Fail 2 0 (5 ∷ 6 ∷ 7 ∷ [])
    ∷ []

abbrev pub block_and_wake_history : List Entry
block_and_wake_history =
    entry.Round 1
    ∷ entry.Enter 1 0 0 (1 ∷ 1 ∷ [])
    ∷ entry.Enter 2 0 1 (2 ∷ 1 ∷ [])
    ∷ entry.Work 0 (did.Blocked 1)
    ∷ entry.Pass 0 (4 ∷ 3 ∷ [])
    ∷ entry.Work 1 (did.Queued 2)
    ∷ entry.Pass 1 (5 ∷ 6 ∷ [])
    ∷ entry.Round 2
    ∷ entry.Wake 1 0 0 (8 ∷ 8 ∷ [])
    ∷ entry.Work 0 (did.Ended 1)
    ∷ entry.Pass 0 (10 ∷ 8 ∷ [])
    ∷ entry.Work 1 (did.Queued 2)
    ∷ entry.Pass 1 (11 ∷ 12 ∷ [])
    ∷ []

abbrev pub eight_threads_history : List Entry
eight_threads_history =
    entry.Round 1
    ∷ entry.Work 1 did.Nothing
    ∷ entry.Pass 1 (1 ∷ 2 ∷ 1 ∷ 1 ∷ [])
    ∷ entry.Work 2 did.Nothing
    ∷ entry.Pass 2 (1 ∷ 3 ∷ 4 ∷ 1 ∷ [])
    ∷ entry.Work 3 did.Nothing
    ∷ entry.Pass 3 (1 ∷ 3 ∷ 5 ∷ 6 ∷ [])
    ∷ entry.Enter 1 0 0 []
    ∷ entry.Enter 2 0 0 []
    ∷ entry.Enter 3 0 0 []
    ∷ entry.Enter 4 0 0 []
    ∷ entry.Enter 5 0 0 []
    ∷ entry.Enter 6 0 0 []
    ∷ entry.Enter 7 0 0 []
    ∷ entry.Enter 8 0 0 []
    ∷ entry.Work 0 (did.Kept 1)
    ∷ entry.Pass 0 (16 ∷ 3 ∷ 5 ∷ 7 ∷ [])
    ∷ entry.Round 2
    ∷ entry.Work 0 (did.Kept 1)
    ∷ entry.Pass 0 (19 ∷ 18 ∷ 18 ∷ 18 ∷ [])
    ∷ entry.Work 1 did.Nothing
    ∷ entry.Steal 1 0 (2 ∷ []) (20 ∷ 21 ∷ 18 ∷ 18 ∷ [])
    ∷ entry.Work 2 did.Nothing
    ∷ entry.Steal 2 0 (3 ∷ []) (22 ∷ 22 ∷ 23 ∷ 18 ∷ [])
    ∷ entry.Work 3 did.Nothing
    ∷ entry.Steal 3 0 (4 ∷ []) (24 ∷ 22 ∷ 24 ∷ 25 ∷ [])
    ∷ entry.Round 3
    ∷ entry.Work 0 (did.Kept 1)
    ∷ entry.Pass 0 (28 ∷ 27 ∷ 27 ∷ 27 ∷ [])
    ∷ entry.Work 1 (did.Kept 2)
    ∷ entry.Steal 1 0 (5 ∷ []) (29 ∷ 30 ∷ 27 ∷ 27 ∷ [])
    ∷ entry.Work 2 (did.Kept 3)
    ∷ entry.Steal 2 0 (6 ∷ []) (31 ∷ 31 ∷ 32 ∷ 27 ∷ [])
    ∷ entry.Work 3 (did.Kept 4)
    ∷ entry.Steal 3 0 (7 ∷ []) (33 ∷ 31 ∷ 33 ∷ 34 ∷ [])
    ∷ entry.Round 4
    ∷ entry.Work 0 (did.Kept 1)
    ∷ entry.Pass 0 (37 ∷ 36 ∷ 36 ∷ 36 ∷ [])
    ∷ entry.Work 1 (did.Kept 2)
    ∷ entry.Pass 1 (38 ∷ 39 ∷ 36 ∷ 36 ∷ [])
    ∷ entry.Work 2 (did.Kept 3)
    ∷ entry.Pass 2 (38 ∷ 40 ∷ 41 ∷ 36 ∷ [])
    ∷ entry.Work 3 (did.Kept 4)
    ∷ entry.Pass 3 (38 ∷ 40 ∷ 42 ∷ 43 ∷ [])
    ∷ []

-- the threads enter on the first of two cores, of which each works. The first one's attempt reads its own position
abbrev pub batch_front : List ℕ → (own : ℕ) → List Entry
batch_front threads own =
    entry.Round 1
    ∷ map (λ id. entry.Enter id 0 0 []) threads
    ++ entry.Work 0 (did.Kept 1)
    ∷ entry.Pass 0 (own ∷ 1 ∷ [])
    ∷ entry.Work 1 did.Nothing
    ∷ []

-- six threads
abbrev pub six_front : List Entry
six_front = batch_front (1 ∷ 2 ∷ 3 ∷ 4 ∷ 5 ∷ 6 ∷ []) 8

-- the second core takes these of the six threads
abbrev pub six_steal : List ℕ → Entry
six_steal threads = entry.Steal 1 0 threads (9 ∷ 10 ∷ [])

-- six threads, of which the second core takes two, since it has one itself
abbrev pub seven_front : List Entry
seven_front =
    entry.Round 1
    ∷ map (λ id. entry.Enter id 0 0 []) (1 ∷ 2 ∷ 3 ∷ 4 ∷ 5 ∷ 6 ∷ [])
    ++ entry.Work 0 (did.Kept 1)
    ∷ entry.Pass 0 (8 ∷ 1 ∷ [])
    ∷ entry.Enter 7 1 1 []
    ∷ entry.Work 1 (did.Kept 7)
    ∷ []

abbrev pub seven_steal : List ℕ → Entry
seven_steal threads = entry.Steal 1 0 threads (9 ∷ 11 ∷ [])

-- three threads, of which the second core takes two at once
abbrev pub three_history : List Entry
three_history = batch_front (1 ∷ 2 ∷ 3 ∷ []) 5 ++ entry.Steal 1 0 (2 ∷ 3 ∷ []) (6 ∷ 7 ∷ []) ∷ []
