-- The policies of the worked rows.
use Rattle.std.specs.Prelude.{ℕ, pos, [], None, Some, codes}
use Rattle.policy_tree.specs.declared.trees.Cmp.TheVariants as cmp
use Rattle.policy_tree.specs.declared.typed.Load.TheVariants as load
use Rattle.policy_tree.specs.declared.typed.Put.TheVariants as put
use Rattle.fair_policy.specs.Fair.{fair_meaning as fair}
use Rattle.fair_policy.specs.Forms.{handlers_with, whenever}
use Rattle.policy_eval.specs.declared.env.CoreValues.{CoreValues}
use Rattle.policy_eval.specs.Sights.{no_attributes}
use Rattle.policy_tree.specs.Trees.{number, variable, minus, CondTree, test}
use Rattle.policy_tree.specs.Meaning.{BatchTree, Meaning, here}

-- steal from a core with so many threads more
abbrev pub gap_of : ℕ → CondTree
gap_of least_gap = test cmp.Ge (minus (variable 2) (variable 0)) (number (pos least_gap))

-- the basic policy: loads are counts, and a gap of two is enough
abbrev pub basic : Meaning
basic = record {
  name = codes "basic";
  load = load.Count;
  core_attrs = [];
  thread_attrs = [];
  place = here;
  elect = [];
  handlers = handlers_with (whenever [] put.Keep);
  filter = gap_of 2;
  choose = [];
  steal = [];
  batch = None;
}

-- a steal goes on while the victim has two threads more, and moves so many at most
abbrev pub while_gap : ℕ → BatchTree
while_gap limit = record { condition = gap_of 2; limit = limit }

-- the basic policy with that batch
abbrev pub in_batches : ℕ → Meaning
in_batches limit = record basic { batch = Some (while_gap limit) }

-- victim.load - self.load > t.weight
abbrev pub weighs_less : CondTree
weighs_less = test cmp.Gt (minus (variable 3) (variable 1)) (variable 4)

-- the fair policy on threads without attributes, each of which stays where it enters and runs on. A steal goes on as
-- long as the next thread weighs less than the gap
abbrev pub weighted : ℕ → Meaning
weighted limit = record fair {
  thread_attrs = [];
  place = here;
  elect = [];
  handlers = basic.handlers;
  batch = Some (record { condition = weighs_less; limit = limit });
}

-- what is seen of a core with so many threads of weight 1, and without attributes
abbrev pub seen_count : ℕ → CoreValues
seen_count nr = record { nr = nr; load = nr; consts = no_attributes }
