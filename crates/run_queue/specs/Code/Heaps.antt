-- A heap in a list: the children of place k stand in places 2k + 1 and 2k + 2. No clause of a queue speaks of it.
use Rattle.std.specs.Prelude.{◌≡◌, ◌≢◌, ℕ, ◌+◌, ◌*◌, ◌<◌, ◌≤◌, Bool, true, false, List, length, slice_index_or}

-- place c is a child of place p
pub record IsChild (p c : ℕ) : Type 0 where
  pub low : p * 2 < c
  pub high : c ≤ p * 2 + 2

module _ {X : Type 0} (ahead : X → X → Bool) (xs : List X) where
  -- the item in place i isn't ahead of the one in place j
  abbrev pub NotAhead : ℕ → ℕ → Type 0
  NotAhead i j = (d : X) → ahead (slice_index_or xs i d) (slice_index_or xs j d) ≡ false

  -- no item is ahead of its parent
  abbrev pub IsHeap : Type 0
  IsHeap = (p c : ℕ) → IsChild p c → c < length xs → NotAhead c p

  -- the same but for place k, whose children aren't ahead of its parent either
  pub record IsHeapBut (k : ℕ) : Type 0 where
    pub others : (p c : ℕ) → IsChild p c → c < length xs → p ≢ k → c ≢ k → NotAhead c p
    pub across : (p c : ℕ) → IsChild p k → IsChild k c → c < length xs → NotAhead c p

  -- no child of place k is ahead of it
  abbrev pub LeadsChildren : ℕ → Type 0
  LeadsChildren k = (c : ℕ) → IsChild k c → c < length xs → NotAhead c k

  -- the item in place k isn't ahead of its parent
  abbrev pub FollowsParent : ℕ → Type 0
  FollowsParent k = (p : ℕ) → IsChild p k → NotAhead k p

  -- the parent p of place k, and the item in place k is ahead of it
  pub record IsParentBehind (k p : ℕ) : Type 0 where
    pub child : IsChild p k
    pub first : (d : X) → ahead (slice_index_or xs k d) (slice_index_or xs p d) ≡ true

  -- the child c of place k, which its other child isn't ahead of
  pub record IsFirstChild (k c : ℕ) : Type 0 where
    pub child : IsChild k c
    pub inside : c < length xs
    pub other : (j : ℕ) → IsChild k j → j < length xs → NotAhead j c

  -- the same, and it is ahead of place k
  pub record IsChildAhead (k c : ℕ) : Type 0 where
    pub place : IsFirstChild k c
    pub first : (d : X) → ahead (slice_index_or xs c d) (slice_index_or xs k d) ≡ true

-- place k has no child
abbrev pub HasNoChild : {X : Type 0} → List X → ℕ → Type 0
HasNoChild xs k = (c : ℕ) → IsChild k c → c < length xs → ⊥
