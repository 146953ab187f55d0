-- The policy `fair`: weighted loads, the least used thread runs, and a tick sends it to the queue's end.
use Rattle.std.specs.Prelude.{pos, List, [], ◌∷◌, None, codes}
use Rattle.policy_tree.specs.declared.trees.Cmp.TheVariants as cmp
use Rattle.policy_tree.specs.declared.typed.Attr.{Attr}
use Rattle.policy_tree.specs.declared.typed.Load.TheVariants as load
use Rattle.policy_tree.specs.declared.typed.Put.TheVariants as put
use Rattle.policy_tree.specs.Meaning.{HandlerTrees, Meaning, SetTree, greatest_first, least, least_first}
use Rattle.policy_tree.specs.Trees.{number, variable, plus, minus, CondTree, both, either, test}
use Rattle.fair_policy.specs.Forms.{handlers_with, whenever}

-- thread used in 0..1000 start 0
abbrev pub fair_attributes : List Attr
fair_attributes = record { name = codes "used"; lo = pos 0; hi = pos 1000; start = pos 0 } ∷ []

-- t.used = t.used + 1
abbrev pub counted_use : List SetTree
counted_use = record { attr = 0; expr = plus (variable 22) (number (pos 1)) } ∷ []

-- on tick { when always : t.used = t.used + 1, queue }
abbrev pub fair_handlers : HandlerTrees
fair_handlers = handlers_with (whenever counted_use put.Queue)

-- self.nr == 0 and victim.nr >= 2
abbrev pub idle_sees_two : CondTree
idle_sees_two = both (test cmp.Eq (variable 0) (number (pos 0))) (test cmp.Ge (variable 2) (number (pos 2)))

-- victim.load - self.load > 8
abbrev pub gap_is_wide : CondTree
gap_is_wide = test cmp.Gt (minus (variable 3) (variable 1)) (number (pos 8))

-- the filter
abbrev pub fair_filter : CondTree
fair_filter = either idle_sees_two gap_is_wide

-- the whole policy: load weight 1..8, place min core.load, elect min t.used, choose max victim.load, steal max t.weight
abbrev pub fair_meaning : Meaning
fair_meaning = record {
  name = codes "fair";
  load = load.Weight 1 8;
  core_attrs = [];
  thread_attrs = fair_attributes;
  place = least (variable 3);
  elect = least_first (variable 22) ∷ [];
  handlers = fair_handlers;
  filter = fair_filter;
  choose = greatest_first (variable 3) ∷ [];
  steal = greatest_first (variable 4) ∷ [];
  batch = None;
}
