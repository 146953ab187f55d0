-- What a core in memory reads of all cores.
use Rattle.std.proofs.Common.{◌≡◌, ℕ, ◌+◌, ◌<◌, List, set, length, slice_index, sym, ap, ◌∙◌, subst, arith}
use mathlib.Core.Logic.{dite}
use mathlib.Core.Option.{some}
use native.Mathlib.Decide.{ℕ_discrete}
use Rattle.sched_base.specs.declared.limits.TheConstants.{MAX_CORES}
use Rattle.policy_tree.specs.Meaning.{Meaning}
use Rattle.policy_eval.specs.declared.env.CoreValues.{CoreValues}
use Rattle.round_model.specs.declared.entry.Entry.{Entry}
use Rattle.round_model.specs.declared.plan.Plan.{Plan}
use Rattle.round_model.specs.declared.state.CountAndLoad.{CountAndLoad}
use Rattle.round_model.specs.Choices.{values_in}
use Rattle.round_model.specs.Cores.{consts_of}
use Rattle.round_model.specs.Reads.{value_read, values_of}
use Rattle.core_table.specs.Views.{noted}
use Rattle.select_phase.specs.Glances.{AreGlanced}
use Rattle.select_phase.proofs.Reading.{seen_before, seen_now}
use Rattle.select_phase.specs.Seen.{AreLast}
use Rattle.turn_tests.specs.declared.memory_calls.MemoryCalls.{MemoryCalls}
use Rattle.turn_tests.specs.Memory.{fresh_of, history_of, meaning_in_memory, plan_of, view_of}
use Rattle.turn_tests.proofs.Rows.{fresh_each, fresh_noted}

-- of each core below that one the values are those that these reads saw
abbrev pub AreSeen : Meaning → Plan → List Entry → List ℕ → List CoreValues → ℕ → Type 0
AreSeen p plan h reads values n = (c : ℕ) → c < n → values_in values c ≡ values_of plan c (value_read p plan h c (slice_index reads c))

-- one core more
pub seen_more : (p : Meaning) (plan : Plan) (h : List Entry) (reads : List ℕ) (values : List CoreValues) (k at : ℕ) (seen : CountAndLoad) (x : CoreValues) → k < length values → at ≡ slice_index reads k
    → seen ≡ value_read p plan h k at → x ≡ record { nr = seen.nr; load = seen.load; consts = consts_of plan k } → AreSeen p plan h reads values k → AreSeen p plan h reads (set values k x) (k + 1)
seen_more p plan h reads values k at seen x deep position sees is before c low = dite (ℕ_discrete c k)
    (λ same. subst (λ (j : ℕ). values_in (set values k x) j ≡ values_of plan j (value_read p plan h j (slice_index reads j))) (sym same)
    (seen_now values k x deep ∙ (is ∙ ap (values_of plan k) (sees ∙ ap (value_read p plan h k) position))))
    (λ other. seen_before values k x c (omega arith) ∙ before c (omega arith))

-- so the view has read them
pub glanced : (it : MemoryCalls) (reads : List ℕ) (values : List CoreValues) → reads ≡ fresh_of (plan_of it) (history_of it) → length values ≡ MAX_CORES
    → AreSeen (meaning_in_memory it) (plan_of it) (history_of it) reads values (plan_of it).cores → AreGlanced (view_of it) reads values
glanced it reads values fresh long seen = record {
  long = long;
  read = record {
    one_each = ap length fresh ∙ fresh_each (plan_of it) (history_of it);
    each = λ c low. record {
      place = c;
      there = fresh_noted (meaning_in_memory it) (plan_of it) (history_of it) c low
          ∙ (ap (λ (l : List ℕ). some (noted c (slice_index l c) (value_read (meaning_in_memory it) (plan_of it) (history_of it) c (slice_index l c)))) (sym fresh)
          ∙ ap (λ (x : CoreValues). some (noted c (slice_index reads c) (record { nr = x.nr; load = x.load }))) (sym (seen c low)));
    };
  };
  each = λ c low. seen c low ∙ ap (λ (x : CoreValues). values_of (plan_of it) c (record { nr = x.nr; load = x.load })) (sym (seen c low));
}

-- a look just now is the last thing that it read
pub fresh_last : (it : MemoryCalls) → AreLast (view_of it) (fresh_of (plan_of it) (history_of it))
fresh_last it c inside = record {
  place = c;
  newest = inside;
  seen = value_read (meaning_in_memory it) (plan_of it) (history_of it) c (slice_index (fresh_of (plan_of it) (history_of it)) c);
  there = fresh_noted (meaning_in_memory it) (plan_of it) (history_of it) c (let each = fresh_each (plan_of it) (history_of it) in omega (arith, inside, each));
}
