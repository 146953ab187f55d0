-- The classes of policies that are written down here: the definitions compute them.
use Rattle.std.proofs.Common.{◌≡◌, List, [], ◌∷◌, None, pos, refl}
use Rattle.policy_tree.specs.declared.trees.Cmp.TheVariants as cmp
use Rattle.policy_tree.specs.declared.typed.Attr.{Attr}
use Rattle.policy_tree.specs.declared.typed.Load.TheVariants as load
use Rattle.policy_tree.specs.declared.typed.Put.TheVariants as put
use Rattle.policy_tree.specs.Meaning.{CaseTree, KeyTree, Meaning, greatest_first, here, least_first}
use Rattle.policy_tree.specs.Trees.{always, minus, number, plus, test, variable}
use Rattle.wait_classes.specs.declared.classes.WaitClass.TheVariants as wait
use Rattle.wait_classes.specs.Classes.{class_of}

abbrev left : Attr
left = record { name = []; lo = pos 0; hi = pos 3; start = pos 3 }

abbrev used : Attr
used = record { name = []; lo = pos 0; hi = pos 1000; start = pos 0 }

abbrev keeps : CaseTree
keeps = record { guard = always; sets = []; put = put.Keep }

abbrev queues : CaseTree
queues = record { guard = always; sets = []; put = put.Queue }

abbrev blocks : CaseTree
blocks = record { guard = always; sets = []; put = put.Block }

-- when t.left > 0 : t.left = t.left - 1, keep
abbrev spends_one : CaseTree
spends_one = record { guard = test cmp.Gt (variable 22) (number (pos 0)); sets = record { attr = 0; expr = minus (variable 22) (number (pos 1)) } ∷ []; put = put.Keep }

-- when t.left >= 0 : t.left = t.left - 1, keep
abbrev never_stops : CaseTree
never_stops = record { guard = test cmp.Ge (variable 22) (number (pos 0)); sets = record { attr = 0; expr = minus (variable 22) (number (pos 1)) } ∷ []; put = put.Keep }

-- when t.left == 0 : t.left = 3, queue
abbrev refills : CaseTree
refills = record { guard = test cmp.Eq (variable 22) (number (pos 0)); sets = record { attr = 0; expr = number (pos 3) } ∷ []; put = put.Queue }

-- when always : t.used = t.used + 1, queue
abbrev counts_up : CaseTree
counts_up = record { guard = always; sets = record { attr = 0; expr = plus (variable 22) (number (pos 1)) } ∷ []; put = put.Queue }

-- with these attributes, keys, and cases of tick and of yield
abbrev policy : List Attr → List KeyTree → List CaseTree → List CaseTree → Meaning
policy attrs keys tick yields = record {
  name = [];
  load = load.Count;
  core_attrs = [];
  thread_attrs = attrs;
  place = here;
  elect = keys;
  handlers = record { on_enqueue = queues ∷ []; on_tick = tick; on_yield = yields; on_block = blocks ∷ [] };
  filter = always;
  choose = [];
  steal = [];
  batch = None;
}

in_turn : class_of (policy [] [] (queues ∷ []) (queues ∷ [])) ≡ wait.Queue
in_turn = refl

kept_on_tick : class_of (policy [] [] (keeps ∷ []) (queues ∷ [])) ≡ wait.Unknown
kept_on_tick = refl

kept_on_yield : class_of (policy [] [] (queues ∷ []) (keeps ∷ [])) ≡ wait.Unknown
kept_on_yield = refl

sliced : class_of (policy (left ∷ []) [] (spends_one ∷ refills ∷ []) (queues ∷ [])) ≡ wait.Slices 0 3
sliced = refl

sliced_without_end : class_of (policy (left ∷ []) [] (never_stops ∷ refills ∷ []) (queues ∷ [])) ≡ wait.Unknown
sliced_without_end = refl

sliced_but_kept_on_yield : class_of (policy (left ∷ []) [] (spends_one ∷ refills ∷ []) (keeps ∷ [])) ≡ wait.Unknown
sliced_but_kept_on_yield = refl

counted : class_of (policy (used ∷ []) (least_first (variable 22) ∷ []) (counts_up ∷ []) (counts_up ∷ [])) ≡ wait.Least 0
counted = refl

not_counted_on_yield : class_of (policy (used ∷ []) (least_first (variable 22) ∷ []) (counts_up ∷ []) (queues ∷ [])) ≡ wait.Unknown
not_counted_on_yield = refl

by_two_keys : class_of (policy (used ∷ []) (least_first (variable 22) ∷ greatest_first (variable 4) ∷ []) (counts_up ∷ []) (counts_up ∷ [])) ≡ wait.Unknown
by_two_keys = refl

by_weight : class_of (policy (used ∷ []) (least_first (variable 4) ∷ []) (counts_up ∷ []) (counts_up ∷ [])) ≡ wait.Unknown
by_weight = refl
