-- Cores that play side by side, one after the other in the opening seat's view.
use Rattle.std.proofs.Common.{◌≡◌, ◌≢◌, ℕ, zero, suc, ◌+◌, ◌<◌, ◌≤◌, ◌||◌, Bool, true, false, List, [], ◌∷◌, ◌++◌, drop, map, length, set, refl, sym, ap, ◌∙◌, subst, ⊎_elim, arith, length-set}
use Rattle.std.specs.List.{list_any}
use Rattle.std.proofs.lemmas.List.{drop-set}
use Rattle.std.proofs.lemmas.List.Sums.{sum_by-cons}
use mathlib.Core.Option.{some}
use lib.ListN.{get_elem?, length-replicate}
use Rattle.atomic_table.proofs.Lists.{at_set, set_else}
use Rattle.round_model.specs.declared.entry.Entry.TheVariants as entry
use Rattle.round_model.specs.After.{after}
use Rattle.round_model.specs.Entries.{ends}
use Rattle.core_table.specs.declared.views.Role.TheVariants as role
use Rattle.core_table.specs.declared.views.Turn.{Turn}
use Rattle.core_table.specs.declared.views.Turn.TheVariants as turn
use Rattle.core_table.specs.declared.views.View.{View}
use Rattle.core_table.specs.Plays.{Begins}
use Rattle.core_table.specs.Told.{HasAllBack, HasIdle, IsIn}
use Rattle.core_table.specs.Views.{all_idle, held_grown, leaving, meaning_in, seat_of_core}
use Rattle.core_table.proofs.Beginning.{idle_at}
use Rattle.core_table.proofs.Histories.{at_less, entry_at}
use Rattle.core_table.proofs.Joining.{joining_is, leaving_is}
use Rattle.core_calls.specs.declared.turned.Turned.{Turned}
use Rattle.core_calls.specs.Turns.{HasTurned, IsFresh, is_told}
use Rattle.parallel_play.specs.declared.sums.Tally.{Tally}
use Rattle.parallel_play.specs.Playing.{IdleFrom, IsPlayed, Joins, Leaves, Played, entries_in, entries_of, log_in, merged_in, turns_in}
use Rattle.parallel_play.specs.Tallies.{CountsTurn, MAX_COUNT, flag_of}

-- a core that is still idle may get its seat
pub is_idle : (c : ℕ) (v : View) → c < v.plan.cores → IdleFrom c v → HasIdle v c
is_idle c v low i =
    let w = i.wide in let t = entry_at i.turns c (omega arith) in
    record { opening = record { merged = i.merged; turns = i.turns; role = i.role }; idle = t.1 ∙ ap some (i.idle c t.0 t.1 (omega arith)) }

pub left_idle : (c : ℕ) (v : View) → IdleFrom c v → IdleFrom (c + 1) (leaving c v)
left_idle c v i = record {
  merged = i.merged;
  turns = set i.turns c turn.Out;
  role = leaving_is v i.merged i.turns c i.role;
  idle = λ d t at late. i.idle d t (sym (set_else i.turns c d turn.Out (λ e. omega arith)) ∙ at) (omega arith);
  wide = length-set i.turns c turn.Out ∙ i.wide;
  begun = i.begun;
  free = i.free;
}

pub fresh_seat : (c : ℕ) (v w : View) → w ≡ seat_of_core c v → IsFresh w c
fresh_seat c v w is = record {
  of_core = record { none_due = false; role = ap (λ (u : View). u.role) is };
  own = ap (λ (u : View). u.own) is;
  free = ap (λ (u : View). u.held) is;
}

or_nothing : (b : Bool) → b ≡ (b || false)
or_nothing true = refl
or_nothing false = refl

drop_all : {X : Type 0} (xs : List X) (c : ℕ) → length xs ≤ c → drop c xs ≡ []
drop_all [] zero few = refl
drop_all [] (suc c) few = refl
drop_all (x ∷ xs) zero few = absurd (omega arith)
drop_all (x ∷ xs) (suc c) few = drop_all xs c (omega arith)

-- no core is left to play
pub played_none : (c : ℕ) (t : Tally) (v : View) → v.plan.cores ≤ c → IdleFrom c v → t.entries ≤ MAX_COUNT → Played c t t v v
played_none c t v high i small =
    let rest : drop c i.turns ≡ [] = drop_all i.turns c (let w = i.wide in omega arith) in
    record {
      turns = i.turns;
      role = i.role ∙ ap (λ m. role.Opening m i.turns) (sym (ap merged_in i.role));
      wide = sym (ap (λ r. length (turns_in r)) i.role);
      earlier = λ d x low at. ap (λ l. get_elem? l d) (ap turns_in i.role) ∙ at;
      later = λ d x late at. let l = at_less i.turns d x at in let w = i.wide in absurd (omega arith);
      entries = let none : entries_of (drop c i.turns) ≡ 0 = ap entries_of rest in omega arith;
      ended = λ id low. or_nothing (flag_of t id) ∙ ap (λ (l : List Turn). flag_of t id || list_any (λ (x : Turn). list_any (ends id) (entries_in x)) l) (sym rest);
      rest = refl;
      known = λ low. absurd (omega arith);
    }

or_order : (a b c : Bool) → ((a || b) || c) ≡ (a || (c || b))
or_order true b c = refl
or_order false true true = refl
or_order false true false = refl
or_order false false true = refl
or_order false false false = refl

-- one more core has played
module _ (c : ℕ) (before counted after : Tally) (v left w u x : View) (turned : Turned) (i : IdleFrom c v) (leaves : Leaves c v left) (pl : Played (c + 1) before counted left w)
    (own : View) (done : HasTurned c turned own u) (joins : Joins w u x) (adds : CountsTurn turned counted after) (low : c < v.plan.cores) where
  left_role : left.role ≡ role.Opening i.merged (set i.turns c turn.Out)
  left_role = ap (λ (t : View). t.role) leaves.view ∙ leaving_is v i.merged i.turns c i.role

  turns_now : List Turn
  turns_now = set pl.turns c (turn.Done u.own)

  wide_is : length pl.turns ≡ v.plan.cores
  wide_is = pl.wide ∙ (ap (λ r. length (turns_in r)) left_role ∙ (length-set i.turns c turn.Out ∙ i.wide))

  rest_is : drop c turns_now ≡ turn.Done u.own ∷ drop (c + 1) pl.turns
  unfolding turns_now
  rest_is = drop-set pl.turns c (turn.Done u.own) (let wide = wide_is in omega arith)

  pub played_more : Played c before after v x
  unfolding turns_now
  played_more = record {
    turns = turns_now;
    role = ap (λ (t : View). t.role) joins.view ∙ (joining_is w u (merged_in left.role) pl.turns c pl.role done.of_core
        ∙ ap (λ m. role.Opening m turns_now) (ap merged_in left_role ∙ sym (ap merged_in i.role)));
    wide = length-set pl.turns c (turn.Done u.own) ∙ (wide_is ∙ (sym i.wide ∙ sym (ap (λ r. length (turns_in r)) i.role)));
    earlier = λ d t early at. let e = pl.earlier d t (omega arith) (sym (set_else pl.turns c d (turn.Done u.own) (λ z. omega arith)) ∙ at) in
        ap (λ r. get_elem? (turns_in r) d) i.role ∙ (sym (set_else i.turns c d turn.Out (λ z. omega arith)) ∙ (sym (ap (λ r. get_elem? (turns_in r) d) left_role) ∙ e));
    later = λ d t late at. ⊎_elim
        (λ (hit : (d ≡ c) × (turn.Done u.own ≡ t)). subst IsPlayed hit.1 done.attempted)
        (λ (miss : (d ≢ c) × (get_elem? pl.turns d ≡ some t)). let other : ¬ (d ≡ c) = miss.0 in pl.later d t (omega arith) miss.1)
        (at_set pl.turns c d (turn.Done u.own) t at);
    entries =
        let split : entries_of (drop c turns_now) ≡ length u.own + entries_of (drop (c + 1) pl.turns) =
        ap entries_of rest_is ∙ sum_by-cons (λ (t : Turn). length (log_in t)) (turn.Done u.own) (drop (c + 1) pl.turns) in
        let count = done.entries in let sum = pl.entries in let more = adds.entries in omega arith;
    ended = λ id few.
        adds.ended id few ∙ (ap (λ b. b || is_told id turned.ended) (pl.ended id few)
        ∙ (or_order (flag_of before id) (list_any (λ (t : Turn). list_any (ends id) (entries_in t)) (drop (c + 1) pl.turns)) (is_told id turned.ended)
        ∙ (ap (λ b. flag_of before id || (b || list_any (λ (t : Turn). list_any (ends id) (entries_in t)) (drop (c + 1) pl.turns))) (sym (done.ended id))
        ∙ ap (λ (l : List Turn). flag_of before id || list_any (λ (t : Turn). list_any (ends id) (entries_in t)) l) (sym rest_is))));
    rest = joins.view ∙ ((λ k. record w { role = (sym joins.view k).role })
        ∙ (ap (λ (t : View). record t { role = x.role }) pl.rest ∙ ap (λ (t : View). record t { role = x.role }) leaves.view));
    known = λ inside. joins.known;
  }

-- after the beginning of a round each core is idle
pub begun_idle : (number at : ℕ) (v w : View) → Begins number v at w → v.held ≡ [] → 0 < number → IdleFrom 0 w
begun_idle number at v w d free positive = subst (IdleFrom 0) (sym d.view) record {
  merged = d.history ++ entry.Round number ∷ [];
  turns = all_idle v.plan.cores;
  role = refl;
  idle = λ c t there _. idle_at v.plan.cores c t there;
  wide = length-replicate v.plan.cores turn.Idle;
  begun = positive;
  free = ap (map (held_grown v.round at (entry.Round number) (after (meaning_in v) v.plan d.history) v)) free;
}

played_in : (t : Turn) → IsPlayed t → IsIn t
played_in turn.Idle p = tt
played_in turn.Out p = p
played_in (turn.Done own) p = tt

-- once every core has played, all seats are back
pub played_back : (before after : Tally) (v w : View) → Played 0 before after v w → HasAllBack w
played_back before after v w pl = record { merged = merged_in v.role; turns = pl.turns; role = pl.role; back = λ c t at. played_in t (pl.later c t (omega arith) at) }
