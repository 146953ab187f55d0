-- The policies by levels of the worked rows.
use Rattle.std.specs.Prelude.{ℕ, ◌+◌, pos, List, [], ◌∷◌, None, codes, replicate}
use Rattle.policy_tree.specs.declared.trees.Cmp.TheVariants as cmp
use Rattle.policy_tree.specs.declared.typed.Attr.{Attr}
use Rattle.policy_tree.specs.declared.typed.Load.TheVariants as load
use Rattle.policy_tree.specs.declared.typed.Put.TheVariants as put
use Rattle.policy_tree.specs.Meaning.{Meaning, greatest_first, here}
use Rattle.policy_tree.specs.Trees.{CondTree, always, both, either, minus, number, test, variable}
use Rattle.policy_eval.specs.declared.env.CoreValues.{CoreValues}
use Rattle.fair_policy.specs.Forms.{handlers_with, whenever}
use Rattle.level_policy.specs.Levels.{LevelTree, LevelsMeaning}

-- core NAME in 0..HIGH start 0
abbrev pub attribute : List ℕ → ℕ → Attr
attribute name high = record { name = name; lo = pos 0; hi = pos high; start = pos 0 }

-- what the policies say beside their levels: loads are counts, and the fullest core is chosen
abbrev pub beside : List ℕ → List Attr → Meaning
beside name attrs = record {
  name = name;
  load = load.Count;
  core_attrs = attrs;
  thread_attrs = [];
  place = here;
  elect = [];
  handlers = handlers_with (whenever [] put.Keep);
  filter = always;
  choose = greatest_first (variable 3) ∷ [];
  steal = [];
  batch = None;
}

abbrev pub level : CondTree → CondTree → LevelTree
level within filter = record { within = within; filter = filter }

-- the two cores have the same attribute of that number
abbrev pub same : ℕ → CondTree
same at = test cmp.Eq (variable (6 + at)) (variable (14 + at))

-- victim.nr - self.nr >= GAP
abbrev pub gap_of : ℕ → CondTree
gap_of gap = test cmp.Ge (minus (variable 2) (variable 0)) (number (pos gap))

-- self.nr == 0 and victim.nr >= 2 or victim.nr - self.nr >= GAP
abbrev pub idle_or_gap : ℕ → CondTree
idle_or_gap gap = either
    (both (test cmp.Eq (variable 0) (number (pos 0))) (test cmp.Ge (variable 2) (number (pos 2))))
    (gap_of gap)

-- the own node first, then every core
abbrev pub numa : LevelsMeaning
numa = record {
  plain = beside (codes "numa") (attribute (codes "node") 1 ∷ []);
  levels = level (same 0) (gap_of 2) ∷ level always (idle_or_gap 3) ∷ [];
}

-- the same, but an idle core doesn't see each core of the other node that has two threads
abbrev pub numa_cut : LevelsMeaning
numa_cut = record numa { levels = level (same 0) (gap_of 2) ∷ level always (gap_of 3) ∷ [] }

-- levels of which one core may lie in several
abbrev pub overlapping : LevelsMeaning
overlapping = record {
  plain = beside (codes "overlapping") (attribute (codes "a") 9 ∷ attribute (codes "b") 9 ∷ []);
  levels = level (same 0) (gap_of 2) ∷ level (same 1) (gap_of 2) ∷ level always (gap_of 2) ∷ [];
}

-- near cores are left more than far ones
abbrev pub strict : LevelsMeaning
strict = record numa { levels = level (same 0) (gap_of 4) ∷ level always (gap_of 2) ∷ [] }

-- cores of the other node belong to no level
abbrev pub near_alone : LevelsMeaning
near_alone = record numa { levels = level (same 0) (gap_of 2) ∷ [] }

-- what is seen of a core with so many threads of weight 1 and these two attributes
abbrev pub seen : ℕ → ℕ → ℕ → CoreValues
seen nr first second = record {
  nr = nr;
  load = nr;
  consts = pos first ∷ pos second ∷ replicate 6 (pos 0);
}
