-- The definitions computed on policies that are written out.
use Rattle.std.proofs.Common.{◌≡◌, ℕ, ℤ, pos, negsuc, List, [], ◌∷◌, length, None, Some, refl}
use Rattle.policy_tree.specs.declared.trees.Cmp.TheVariants as cmp
use Rattle.policy_tree.specs.declared.typed.Load.{Load}
use Rattle.policy_tree.specs.declared.typed.Load.TheVariants as load
use Rattle.policy_tree.specs.declared.typed.Put.TheVariants as put
use Rattle.policy_tree.specs.Trees.{CondTree, number, variable, minus, always, both, test}
use Rattle.policy_tree.specs.Meaning.{CaseTree, HandlerTrees, Meaning, here}
use Rattle.policy_eval.specs.Obligations.{idle_sees_overloaded, victim_is_overloaded, move_narrows_gap, further_move_narrows_gap}
use Rattle.linear_form.specs.declared.form.Term.{Term}
use Rattle.linear_form.specs.declared.form.Row.{Row}
use Rattle.linear_form.specs.declared.form.Bound.{Bound}
use Rattle.linear_form.specs.System.{LinearSystem}
use Rattle.obligations.specs.Forms.{at_most}
use Rattle.obligations.specs.declared.names.ObName.TheVariants as name
use Rattle.obligations.specs.Counts.{case_count, first_crowded}
use Rattle.obligations.specs.Names.{ob_names}
use Rattle.obligations.specs.Systems.{systems_of}

abbrev pub handler : CondTree → List CaseTree
handler guard = record { guard = guard; sets = []; put = put.Queue } ∷ []

abbrev pub handlers : HandlerTrees
handlers = record { on_enqueue = handler always; on_tick = handler always; on_yield = handler always; on_block = handler always }

abbrev pub policy : CondTree → Meaning
policy filter = record {
  name = [];
  load = load.Count;
  core_attrs = [];
  thread_attrs = [];
  place = here;
  elect = [];
  handlers = handlers;
  filter = filter;
  choose = [];
  steal = [];
  batch = None;
}

abbrev pub basic : Meaning
basic = policy (test cmp.Ge (minus (variable 2) (variable 0)) (number (pos 2)))

abbrev plus_one : ℕ → Term
plus_one v = record { var = v; coef = pos 1 }

abbrev minus_one : ℕ → Term
minus_one v = record { var = v; coef = negsuc 0 }

abbrev row : List Term → ℤ → Row
row terms bound = record { terms = terms; bound = bound }

abbrev count : Bound
count = record { lo = pos 0; hi = pos 1023 }

abbrev pair : List Row → LinearSystem
pair rows = record {
  bounds = count ∷ count ∷ count ∷ count ∷ [];
  rows = row (plus_one 0 ∷ minus_one 1 ∷ []) (pos 0) ∷ row (minus_one 0 ∷ plus_one 1 ∷ []) (pos 0)
      ∷ row (plus_one 2 ∷ minus_one 3 ∷ []) (pos 0) ∷ row (minus_one 2 ∷ plus_one 3 ∷ []) (pos 0) ∷ rows;
}

basic_sees : systems_of basic idle_sees_overloaded ≡
    pair (row (plus_one 0 ∷ []) (pos 0) ∷ row (minus_one 2 ∷ []) (negsuc 1) ∷ row (minus_one 0 ∷ plus_one 2 ∷ []) (pos 1) ∷ []) ∷ []
unfolding at_most
basic_sees = refl

basic_spares : systems_of basic victim_is_overloaded ≡
    pair (row (plus_one 2 ∷ []) (pos 1) ∷ row (plus_one 0 ∷ minus_one 2 ∷ []) (negsuc 1) ∷ []) ∷ []
unfolding at_most
basic_spares = refl

basic_narrows : systems_of basic move_narrows_gap ≡
    pair (row (plus_one 2 ∷ minus_one 3 ∷ []) (pos 0) ∷ row (minus_one 1 ∷ plus_one 3 ∷ []) (pos 1) ∷ row (plus_one 0 ∷ minus_one 2 ∷ []) (negsuc 1) ∷ []) ∷ []
unfolding at_most
basic_narrows = refl

abbrev differs : CondTree
differs = test cmp.Ne (variable 0) (number (pos 0))

abbrev eight : CondTree
eight = both (both (both (both (both (both (both differs differs) differs) differs) differs) differs) differs) differs

eight_sees : case_count (policy eight) idle_sees_overloaded ≡ 8
eight_sees = refl

eight_spares : case_count (policy eight) victim_is_overloaded ≡ 256
eight_spares = refl

nine_spares : case_count (policy (both eight differs)) victim_is_overloaded ≡ 512
nine_spares = refl

eight_cases : length (systems_of (policy eight) victim_is_overloaded) ≡ 256
eight_cases = refl

-- a policy with a batch that goes on while the condition holds
abbrev pub batched : Load → CondTree → Meaning
batched weights condition = record (policy always) { load = weights; batch = Some (record { condition = condition; limit = 8 }) }

-- without a batch nothing is made
basic_goes_on : systems_of basic further_move_narrows_gap ≡ []
basic_goes_on = refl

-- while victim.nr - self.nr >= 2
gap_of_two_goes_on : systems_of (batched load.Count (test cmp.Ge (minus (variable 2) (variable 0)) (number (pos 2)))) further_move_narrows_gap ≡
    pair (row (minus_one 2 ∷ []) (negsuc 0) ∷ row (plus_one 2 ∷ minus_one 3 ∷ []) (pos 0) ∷ row (minus_one 1 ∷ plus_one 3 ∷ []) (pos 1)
    ∷ row (plus_one 0 ∷ minus_one 2 ∷ []) (negsuc 1) ∷ []) ∷ []
unfolding at_most
gap_of_two_goes_on = refl

abbrev times_of : ℕ → ℤ → Term
times_of v by = record { var = v; coef = by }

abbrev weighted_load : Bound
weighted_load = record { lo = pos 0; hi = pos 8184 }

abbrev weights : Bound
weights = record { lo = pos 1; hi = pos 8 }

-- while victim.load - self.load > t.weight, under weights from 1 to 8
wide_gap_goes_on : systems_of (batched (load.Weight 1 8) (test cmp.Gt (minus (variable 3) (variable 1)) (variable 4))) further_move_narrows_gap ≡
    record {
      bounds = count ∷ weighted_load ∷ count ∷ weighted_load ∷ weights ∷ [];
      rows = row (plus_one 0 ∷ minus_one 1 ∷ []) (pos 0) ∷ row (times_of 0 (negsuc 7) ∷ plus_one 1 ∷ []) (pos 0)
          ∷ row (plus_one 2 ∷ minus_one 3 ∷ []) (pos 0) ∷ row (times_of 2 (negsuc 7) ∷ plus_one 3 ∷ []) (pos 0)
          ∷ row (minus_one 2 ∷ []) (negsuc 0) ∷ row (plus_one 2 ∷ minus_one 3 ∷ plus_one 4 ∷ []) (pos 1)
          ∷ row (minus_one 1 ∷ plus_one 3 ∷ minus_one 4 ∷ []) (pos 0) ∷ row (plus_one 1 ∷ minus_one 3 ∷ plus_one 4 ∷ []) (negsuc 0) ∷ [];
    } ∷ []
unfolding at_most
wide_gap_goes_on = refl

eight_go_on : length (systems_of (batched load.Count eight) further_move_narrows_gap) ≡ 256
eight_go_on = refl

nine_are_too_many : first_crowded (batched load.Count (both eight differs)) ob_names ≡ Some (name.B4, 512)
unfolding ob_names
nine_are_too_many = refl
