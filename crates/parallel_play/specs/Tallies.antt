-- What is counted from round to round.
use Rattle.std.specs.Prelude.{◌≡◌, ℕ, ◌+◌, ◌≤◌, ◌&&◌, ◌||◌, nat_lt, not, false, Bool, get_or, min}
use Rattle.std.specs.List.{list_any}
use Rattle.sched_base.specs.declared.limits.TheConstants.{MAX_THREADS}
use Rattle.round_model.specs.declared.plan.Plan.{Plan}
use Rattle.round_model.specs.declared.plan.Planned.{Planned}
use Rattle.core_calls.specs.declared.turned.Turned.{Turned}
use Rattle.core_calls.specs.Turns.{is_told}
use Rattle.parallel_play.specs.declared.sums.Tally.{Tally}

-- the greatest number of 32 bits, at which counting stops
abbrev pub MAX_COUNT : ℕ
MAX_COUNT = 4294967295

-- whether the thread is counted as ended
abbrev pub flag_of : Tally → ℕ → Bool
flag_of t id = get_or t.ended id false

pub record IsEmpty (t : Tally) : Type 0 where
  pub entries : t.entries ≡ 0
  pub ended : (id : ℕ) → flag_of t id ≡ false

-- the turn is counted: its entries, as far as the number goes, and the thread that ended
pub record CountsTurn (turned : Turned) (old new : Tally) : Type 0 where
  pub entries : new.entries ≡ min (old.entries + turned.entries) MAX_COUNT
  pub ended : (id : ℕ) → id ≤ MAX_THREADS → flag_of new id ≡ (flag_of old id || is_told id turned.ended)

-- whether a next round is due behind so many
abbrev pub due_by : Plan → ℕ → Tally → Bool
due_by plan begun t = nat_lt begun plan.rounds && list_any (λ (p : Planned). not (flag_of t p.id)) plan.threads
