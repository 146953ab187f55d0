-- What a step leaves to its seat, and what its draw tells.
use Rattle.std.proofs.Common.{◌≡◌, ℕ, suc, ◌+◌, ◌<◌, ◌≤◌, true, List, [], ◌∷◌, ◌++◌, length, slice_index, MatchOption, Option, Some, None, refl, sym, ap, ◌∙◌, subst}
use Rattle.std.proofs.lemmas.List.{append_assoc}
use Rattle.round_model.specs.declared.entry.Entry.{Entry}
use Rattle.round_model.specs.declared.entry.Entry.TheVariants as entry
use Rattle.round_model.specs.Legal.{Legal}
use Rattle.core_state.specs.Logs.{logged}
use Rattle.core_state.specs.Views.{CoreView}
use Rattle.core_table.specs.declared.views.Role.TheVariants as role
use Rattle.core_table.specs.declared.views.View.{View}
use Rattle.core_table.specs.Plays.{Draws}
use Rattle.core_table.specs.Pairs.{holding_two}
use Rattle.core_table.specs.Public.{publishing}
use Rattle.core_table.specs.Told.{Agrees, Each, IsSeatOf, IsTrueRole}
use Rattle.core_table.specs.Views.{giving, holding, meaning_in, note_of_core}
use Rattle.core_table.proofs.TwoHeld.{notes_held, stacked_length}
use Rattle.core_table.proofs.Positions.{above}
use Rattle.select_phase.specs.Seen.{AreLate, HasMoreNotes}
use Rattle.select_phase.proofs.Reading.{behind}
use Rattle.steal_phase.proofs.Added.{added_one, added_two}
use Rattle.steal_phase.proofs.Drawn.{agrees_one, agrees_two, next_by}
use Rattle.core_calls.specs.Code.Finishes.{Finished, Glimpsed}
use Rattle.core_calls.specs.Code.Wakes.{WokenBy}
use Rattle.core_calls.specs.Steps.{AddsNext, HasLetAllIn, HasNoneDue, MayWake, ReadsAtMost, Woken}

-- one core was held
pub adds_one : (v : View) (a at : ℕ) (e : Entry) → IsSeatOf v a → v.held ≡ [] → (c : ℕ) (y : CoreView) → c < v.plan.cores → (w now : View) → w ≡ holding c y v → (b : ℕ) → Finished e b at w now → AddsNext a at e v now
adds_one v a at e of_core free c y low w now is b f =
    let d = subst (λ (x : View). Draws e x at f.drawn) is f.draws in
    record {
      added = added_one v a at e of_core c y b f.state free low w f.drawn (publishing b f.state f.drawn) now is f.draws refl f.given;
      next = next_by v (holding c y v) f.drawn at e d refl (agrees_one v free c y low d.history d.before);
    }

-- two were
pub adds_two : (v : View) (a at : ℕ) (e : Entry) → IsSeatOf v a → v.held ≡ [] → (b : ℕ) (y : CoreView) (c : ℕ) (z : CoreView) (k : ℕ) (y_now : CoreView) (l : ℕ) (z_now : CoreView) → (w u x now : View) → w ≡ holding_two b y c z v
    → Draws e w at u → x ≡ publishing l z_now (publishing k y_now u) → now ≡ giving (giving x) → now.held ≡ [] → AddsNext a at e v now
adds_two v a at e of_core free b y c z k y_now l z_now w u x now is drawn shown given empty =
    let d = subst (λ (x : View). Draws e x at u) is drawn in
    record {
      added = added_two v a at e of_core b y c z k y_now l z_now w u x now is drawn shown given empty;
      next = next_by v (holding_two b y c z v) u at e d refl (agrees_two v free b y c z d.history d.before);
    }

-- the seat only read before, or held cores and let them go
module _ (a : ℕ) (v w : View) (g : Glimpsed a v w) (of_core : IsSeatOf v a) where
  agrees_glimpsed : (h : List Entry) → Agrees w h → Agrees v h
  agrees_glimpsed h agreed =
      let ag = subst (λ (x : View). Agrees x h) g.rest agreed in
      let t = subst (IsTrueRole (meaning_in v) v.plan h v.own) g.of_core.role ag.role in
      record {
        fits = ag.fits;
        limits = ag.limits;
        handlers = ag.handlers;
        legal = ag.legal;
        reserve = ag.reserve;
        dated = record { round = ag.dated.round; start = ag.dated.start };
        role = subst (IsTrueRole (meaning_in v) v.plan h v.own) (sym of_core.role) (record {
          there = t.there;
          begun = t.begun;
          is_own = t.is_own;
          due = λ yes. let both : role.Core a g.of_core.none_due ≡ role.Core a true = sym g.of_core.role ∙ g.marked (of_core.role ∙ ap (role.Core a) yes) in let marked : g.of_core.none_due ≡ true = cc in t.due marked;
        });
        notes = λ i x there. ag.notes (length g.more + i) x (behind g.more v.notes i ∙ there);
        held = ag.held;
      }

  pub adds_behind : (at : ℕ) (e : Entry) (now : View) → AddsNext a at e w now → AddsNext a at e v now
  adds_behind at e now adds =
      let s = adds.added in let n = adds.next in let ag = agrees_glimpsed n.history n.agrees in
      record {
        added = record {
          own = s.own ∙ ap (λ (x : View). x.own ++ logged at e ∷ []) g.rest;
          free = s.free;
          of_core = s.of_core;
          marked = λ marked. s.marked (g.marked marked);
          more = s.more ++ g.more;
          notes = s.notes ∙ (ap (λ (x : View). s.more ++ x.notes) g.rest ∙ sym (append_assoc s.more g.more v.notes));
          rest = s.rest ∙ ap (λ (x : View). record x { role = now.role; own = now.own; notes = now.notes; held = now.held }) g.rest;
        };
        next = record {
          history = n.history;
          agrees = ag;
          position = n.position;
          legal = subst (λ (x : View). Legal (meaning_in x) x.plan (n.history ++ e ∷ [])) g.rest n.legal;
          above = above v n.history at ag n.position (subst (λ (x : View). at < x.plan.limit) g.rest n.above.limit);
        };
      }

  pub none_behind : (now : View) → HasNoneDue a w now → HasNoneDue a v now
  none_behind now none = record {
    marked = none.marked;
    more = none.more ++ g.more;
    rest = none.rest ∙ (ap (λ (x : View). record x { role = now.role; notes = none.more ++ x.notes }) g.rest
        ∙ (λ i. record v { role = now.role; notes = sym (append_assoc none.more g.more v.notes) i }));
  }

  pub may_still : HasLetAllIn v a → MayWake w a
  may_still entered = record { of_core = g.of_core; entered = subst (λ (x : View). HasLetAllIn x a) (sym g.rest) entered; free = g.free }

-- reads alone
pub noted_only : (a : ℕ) (v w : View) → IsSeatOf v a → v.held ≡ [] → HasMoreNotes v w → Glimpsed a v w
noted_only a v w of_core free more =
    let same : w.role ≡ v.role = ap (λ (x : View). x.role) more.is in
    record {
      of_core = record { none_due = of_core.none_due; role = same ∙ of_core.role };
      marked = λ marked. same ∙ marked;
      free = ap (λ (x : View). x.held) more.is ∙ free;
      more = more.more;
      rest = more.is ∙ (λ i. record v { role = sym same i; notes = more.more ++ v.notes });
    }

-- so a thread woke, or none was due, seen from before
pub woke_behind : (a : ℕ) (reads : List ℕ) (v w : View) → Glimpsed a v w → IsSeatOf v a → (result : Option ℕ) (now : View) → MatchOption result (HasNoneDue a w now) (λ at. WokenBy a reads at w now)
    → MatchOption result (HasNoneDue a v now) (λ at. WokenBy a reads at v now)
woke_behind a reads v w g of_core None now none = none_behind a v w g of_core now none
woke_behind a reads v w g of_core (Some at) now woke = record {
  thread = woke.thread;
  to = woke.to;
  adds = adds_behind a v w g of_core at (entry.Wake woke.thread a woke.to reads) now woke.adds;
}

-- and the reads were made for it
pub woke_late : (a : ℕ) (reads : List ℕ) (v : View) → AreLate v reads → (result : Option ℕ) (now : View) → ReadsAtMost 5 v now reads → MatchOption result (HasNoneDue a v now) (λ at. WokenBy a reads at v now)
    → MatchOption result (HasNoneDue a v now) (λ at. Woken a at v now)
woke_late a reads v late None now all none = none
woke_late a reads v late (Some at) now all woke = record { thread = woke.thread; to = woke.to; reads = reads; late = late; all = all; adds = woke.adds }

each_behind : {X : Type 0} (P : X → Type 0) (xs ys : List X) → Each P (xs ++ ys) → Each P ys
each_behind P [] ys all = all
each_behind P (x ∷ xs) ys all = each_behind P xs ys (λ i y there. all (suc i) y there)

-- what is no earlier than is known of a core now is none earlier than was known before
pub late_behind : (a : ℕ) (reads : List ℕ) (v w : View) → Glimpsed a v w → AreLate w reads → AreLate v reads
late_behind a reads v w g late =
    each_behind (λ x. x.core < length reads → x.at ≤ slice_index reads x.core) g.more v.notes
    (subst (Each (λ x. x.core < length reads → x.at ≤ slice_index reads x.core)) (ap (λ (x : View). x.notes) g.rest) late)

-- How many notes come. A core that is held is noted
pub held_count : (c : ℕ) (y : CoreView) (v : View) → c < v.plan.cores → length (holding c y v).notes ≡ suc (length v.notes)
held_count c y v low = ap length (notes_held c y v low)

-- and once it is let go
pub glimpsed_count : (c : ℕ) (y : CoreView) (v now : View) → c < v.plan.cores → now ≡ giving (holding c y v) → length now.notes ≡ suc (length v.notes)
glimpsed_count c y v now low is = ap (λ (t : View). length t.notes) is ∙ held_count c y v low

pub two_glimpsed_count : (b : ℕ) (y : CoreView) (c : ℕ) (z : CoreView) (v now : View) → now ≡ giving (giving (holding_two b y c z v)) → length now.notes ≡ suc (suc (length v.notes))
two_glimpsed_count b y c z v now is = ap (λ (t : View). length t.notes) is ∙ stacked_length b c (note_of_core v.start b y) (note_of_core v.start c z) v.notes

-- its word is noted as it is written
pub finished_count : (c : ℕ) (y : CoreView) (v w now : View) → c < v.plan.cores → w ≡ holding c y v → (e : Entry) (b at : ℕ) → Finished e b at w now → length now.notes ≡ suc (suc (length v.notes))
finished_count c y v w now low is e b at f =
    ap (λ (t : View). length t.notes) (f.given ∙ ap (λ (t : View). giving (publishing b f.state t)) f.draws.view)
    ∙ (ap (λ (t : View). suc (length t.notes)) is ∙ ap suc (held_count c y v low))

pub two_finished_count : (b : ℕ) (y : CoreView) (c : ℕ) (z : CoreView) (v w u x now : View) → w ≡ holding_two b y c z v → (e : Entry) (at : ℕ) → Draws e w at u → (k : ℕ) (y_now : CoreView) (l : ℕ) (z_now : CoreView)
    → x ≡ publishing l z_now (publishing k y_now u) → now ≡ giving (giving x) → length now.notes ≡ suc (suc (suc (suc (length v.notes))))
two_finished_count b y c z v w u x now is e at drawn k y_now l z_now shown given =
    ap (λ (t : View). length t.notes) (given ∙ ap (λ (t : View). giving (giving t)) (shown ∙ ap (λ (t : View). publishing l z_now (publishing k y_now t)) drawn.view))
    ∙ (ap (λ (t : View). suc (suc (length t.notes))) is ∙ ap (λ n. suc (suc n)) (stacked_length b c (note_of_core v.start b y) (note_of_core v.start c z) v.notes))
