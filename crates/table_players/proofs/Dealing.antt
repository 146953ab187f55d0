-- The opening seat deals the cores' seats, and takes them back.
use Rattle.std.proofs.Common.{◌≡◌, ◌≢◌, ◌<◌, ◌+◌, ℕ, Bool, List, [], ◌∷◌, ◌++◌, map, length, set, sym, ap, ◌∙◌, subst, arith, ⊎_elim, length-set}
use Rattle.std.proofs.lemmas.List.{get_or-replicate, length-replicate}
use mathlib.Core.Option.{some}
use lib.ListN.{get_elem?}
use Rattle.atomic_table.proofs.Lists.{at_index, at_set, set_else}
use Rattle.round_model.specs.declared.entry.Entry.{Entry}
use Rattle.round_model.specs.declared.plan.Plan.{Plan}
use Rattle.round_model.specs.After.{after}
use Rattle.round_model.specs.declared.entry.Entry.TheVariants as entry
use Rattle.core_table.specs.declared.seat.Seat.{Seat}
use Rattle.core_table.specs.declared.seat.Table.{Table}
use Rattle.core_table.specs.declared.views.Role.{Role}
use Rattle.core_table.specs.declared.views.Role.TheVariants as role
use Rattle.core_table.specs.declared.views.Turn.{Turn}
use Rattle.core_table.specs.declared.views.Turn.TheVariants as turn
use Rattle.core_table.specs.declared.views.View.{View}
use Rattle.core_table.specs.Plays.{Begins}
use Rattle.core_table.specs.Public.{IsOf, plan_of, view_of}
use Rattle.core_table.specs.Told.{HasIdle, IsIn}
use Rattle.core_table.specs.Views.{all_idle, held_grown, joined_role, joining, leaving, meaning_in, with_turn}
use Rattle.core_table.proofs.Histories.{at_less}
use Rattle.table_players.specs.Games.{IsDealing, IsHost, IsTaking}
use Rattle.table_players.specs.Tables.{IsFree}

all_are_idle : (n c : ℕ) → c < n → get_elem? (all_idle n) c ≡ some turn.Idle
all_are_idle n c inside =
    at_index (all_idle n) c turn.Idle (let long = length-replicate n turn.Idle in omega arith) (sym (get_or-replicate n c turn.Idle turn.Idle inside))

module _ (t : Table) (s : Seat) where
  -- the round begins
  pub deals_first : (v : View) (n : ℕ) → IsOf t s → v.held ≡ [] → v.plan ≡ plan_of t → Begins 1 v n (view_of s) → IsDealing t s 0
  deals_first v n of free plan_is b = record {
    turns = all_idle v.plan.cores;
    host = record {
      of = of;
      free = ap (λ (x : View). x.held) b.view ∙ ap (map (held_grown v.round n (entry.Round 1) (after (meaning_in v) v.plan b.history) v)) free;
      round = ap (λ (x : View). x.round) b.view;
      merged = b.history ++ entry.Round 1 ∷ [];
      role = ap (λ (x : View). x.role) b.view;
      count = length-replicate v.plan.cores turn.Idle ∙ ap (λ (x : Plan). x.cores) plan_is;
    };
    idle = λ c late inside. all_are_idle v.plan.cores c (subst (λ (x : Plan). c < x.cores) (sym plan_is) inside);
  }

  -- the host counts a core anew
  host_with : (v : View) (turns : List Turn) (core : ℕ) (u : Turn) (merged : List Entry) → v.role ≡ role.Opening merged turns → length turns ≡ (plan_of t).cores → v.held ≡ [] → v.round ≡ 1
      → IsOf t s → view_of s ≡ record v { role = with_turn core u v.role } → IsHost t s (set turns core u)
  host_with v turns core u merged is count free first of now = record {
    of = of;
    free = ap (λ (x : View). x.held) now ∙ free;
    round = ap (λ (x : View). x.round) now ∙ first;
    merged = merged;
    role = ap (λ (x : View). x.role) now ∙ ap (with_turn core u) is;
    count = length-set turns core u ∙ count;
  }

  -- the core gets its seat
  pub deals_next : (old : Seat) (core : ℕ) → IsDealing t old core → IsOf t s → view_of s ≡ leaving core (view_of old) → IsDealing t s (core + 1)
  deals_next old core d of now = record {
    turns = set d.turns core turn.Out;
    host = host_with (view_of old) d.turns core turn.Out d.host.merged d.host.role d.host.count d.host.free d.host.round of now;
    idle = λ c late inside. set_else d.turns core c turn.Out (λ same. absurd (omega arith)) ∙ d.idle c (omega arith) inside;
  }

  -- all cores have theirs
  pub dealt : (n : ℕ) → IsDealing t s n → n ≡ (plan_of t).cores → IsTaking t s n
  dealt n d all = record {
    turns = d.turns;
    host = d.host;
    back = λ c u late is. let inside = at_less d.turns c u is in let count = d.host.count in absurd (omega arith);
  }

  -- a seat comes back
  pub takes_next : (old : Seat) (core : ℕ) (other : View) (none_due : Bool) → IsTaking t old (core + 1) → other.role ≡ role.Core core none_due → IsOf t s → view_of s ≡ joining (view_of old) other → IsTaking t s core
  takes_next old core other none_due d is of now =
      let joined : joined_role other.role other.own (view_of old).role ≡ with_turn core (turn.Done other.own) (view_of old).role = ap (λ (r : Role). joined_role r other.own (view_of old).role) is in
      record {
        turns = set d.turns core (turn.Done other.own);
        host = host_with (view_of old) d.turns core (turn.Done other.own) d.host.merged d.host.role d.host.count d.host.free d.host.round of (now ∙ ap (λ (r : Role). record (view_of old) { role = r }) joined);
        back = λ c u late there. ⊎_elim
            (λ (hit : (c ≡ core) × (turn.Done other.own ≡ u)). subst IsIn hit.1 tt)
            (λ (miss : (c ≢ core) × (get_elem? d.turns c ≡ some u)). let apart = miss.0 in d.back c u (omega arith) miss.1)
            (at_set d.turns core c (turn.Done other.own) u there);
      }

  -- all are back
  pub all_taken : IsTaking t s 0 → IsFree t s
  all_taken d = record {
    of = d.host.of;
    back = record { merged = d.host.merged; turns = d.turns; role = d.host.role; back = λ c u is. d.back c u (omega arith) is };
    free = d.host.free;
  }

pub has_idle : (t : Table) (s : Seat) (core : ℕ) → IsDealing t s core → core < (plan_of t).cores → HasIdle (view_of s) core
has_idle t s core d inside = record { opening = record { merged = d.host.merged; turns = d.turns; role = d.host.role }; idle = d.idle core (omega arith) inside }
