-- Cores and held cores behind one entry more, of whatever kind.
use Rattle.std.proofs.Common.{◌≡◌, ◌≢◌, ℕ, ◌+◌, ◌<◌, ◌≤◌, true, false, cond, List, [], ◌∷◌, ◌++◌, map, length, set, sym, ap, ◌∙◌, subst, ⊎_elim, arith, get_or-set_other}
use Rattle.std.proofs.lemmas.List.{append-nil}
use mathlib.Core.Option.{none, some, some-ne-none, some-injective}
use Rattle.atomic_table.proofs.Lists.{at_map}
use Rattle.policy_tree.specs.Meaning.{Meaning}
use Rattle.round_model.specs.declared.entry.Entry.{Entry}
use Rattle.round_model.specs.declared.plan.Plan.{Plan}
use Rattle.round_model.specs.After.{after, effect, moved, round_of}
use Rattle.round_model.specs.Cores.{Cores, seen_of}
use Rattle.round_model.specs.Entries.{touches}
use Rattle.round_model.specs.Reads.{round_start}
use Rattle.round_model.proofs.Grows.{one_more}
use Rattle.core_state.specs.declared.logged.Logged.{Logged}
use Rattle.core_state.specs.Logs.{logged}
use Rattle.core_state.specs.Views.{CoreView}
use Rattle.core_state.proofs.Logs.{log_grows}
use Rattle.core_table.specs.declared.views.HeldCore.{HeldCore}
use Rattle.core_table.specs.declared.views.View.{View}
use Rattle.core_table.specs.Logs.{NonePass, log_at, stands_in}
use Rattle.core_table.specs.Words.{mark_of, word_of}
use Rattle.core_table.specs.Views.{grown, held_grown, meaning_in, slot_of, version_of, version_of_log}
use Rattle.core_table.specs.Told.{IsAmong, IsCoreNow}
use Rattle.core_table.specs.Rule.{Keep, kept_by}
use Rattle.core_table.proofs.Histories.{bool_cases, early}
use Rattle.core_table.proofs.Parts.{AllHold, AreKept, CoreHolds, Now}
use Rattle.core_table.proofs.Frames.{map_at}
use Rattle.core_table.proofs.Words.{version_low}

-- a core, whoever has it, after the entry
abbrev pub keep_grown : Meaning → Plan → (round at : ℕ) → Entry → Cores → ℕ → Keep → Keep
keep_grown p plan round at e m c k = record { owner = k.owner; state = grown p plan round at e m c k.state; version = k.version }

abbrev pub keeps_grown : Meaning → Plan → (round at : ℕ) → Entry → Cores → (ℕ → Keep) → ℕ → Keep
keeps_grown p plan round at e m keeps c = keep_grown p plan round at e m c (keeps c)

-- a core in whose log the entry doesn't stand, and which it doesn't touch, stays
pub grown_else : (p : Meaning) (plan : Plan) (round at : ℕ) (e : Entry) (m : Cores) (c : ℕ) (y : CoreView) → stands_in plan.cores c e ≡ false → touches c e ≡ false → y.core ≡ m c
    → grown p plan round at e m c y ≡ y
grown_else p plan round at e m c y out not is =
    let a : moved p plan round e m c ≡ y.core = ap (λ b. cond b (effect p plan round e m c) (m c)) not ∙ sym is in
    let l : y.log ++ cond (stands_in plan.cores c e) (logged at e ∷ []) [] ≡ y.log = ap (λ b. y.log ++ cond b (logged at e ∷ []) []) out ∙ append-nil y.log in
    λ i. record y { core = a i; log = l i }

pub among_grown : (round at : ℕ) (e : Entry) (m : Cores) (v : View) (held : List HeldCore) (d : ℕ) → IsAmong held d → IsAmong (map (held_grown round at e m v) held) d
among_grown round at e m v held d t = record {
  place = t.place;
  of = held_grown round at e m v t.of;
  there = at_map (held_grown round at e m v) held t.place t.of t.there;
  core = t.core;
}

-- what the seat holds
pub kept_mine : (v : View) (keeps : ℕ → Keep) (id round at : ℕ) (e : Entry) (m : Cores) (held : List HeldCore) → AreKept v.plan keeps id held
    → AreKept v.plan (keeps_grown (meaning_in v) v.plan round at e m keeps) id (map (held_grown round at e m v) held)
kept_mine v keeps id round at e m held are i z is =
    let o = map_at (held_grown round at e m v) held i z is in let t = are i o.0 o.1 in
    subst (λ (q : HeldCore). (q.core ≤ v.plan.cores) × (keeps_grown (meaning_in v) v.plan round at e m keeps q.core ≡ kept_by id q)) o.2
    (t.0, ap (keep_grown (meaning_in v) v.plan round at e m o.0.core) t.1)

module _ (p : Meaning) (plan : Plan) (s : Now) (r : AllHold p plan s) (id round at : ℕ) (e : Entry) (date : round ≡ round_of r.history) (count : at ≡ length r.history)
    (owned : (c : ℕ) → c ≤ plan.cores → stands_in plan.cores c e ≡ true → (r.keeps c).owner ≡ some id)
    (inner : (c : ℕ) → c ≤ plan.cores → stands_in plan.cores c e ≡ false → touches c e ≡ false) where
  -- what another seat holds
  pub kept_others : (j : ℕ) (held : List HeldCore) → j ≢ id → AreKept plan r.keeps j held → AreKept plan (keeps_grown p plan round at e (after p plan r.history) r.keeps) j held
  kept_others j held other are i x is =
      let t = are i x is in
      let out : stands_in plan.cores x.core e ≡ false = ⊎_elim (λ u. absurd (other (some-injective j id (sym (ap (λ (k : Keep). k.owner) t.1) ∙ owned x.core t.0 u)))) (λ f. f) (bool_cases (stands_in plan.cores x.core e)) in
      let stays = grown_else p plan round at e (after p plan r.history) x.core (r.keeps x.core).state out (inner x.core t.0 out) (r.each_core x.core t.0).now.core in
      (t.0, (λ i. record { owner = (r.keeps x.core).owner; state = stays i; version = (r.keeps x.core).version }) ∙ t.1)

  -- the core as the longer history leaves it
  grown_now : (c : ℕ) → c ≤ plan.cores → IsCoreNow p plan (r.history ++ e ∷ []) c (grown p plan round at e (after p plan r.history) c (r.keeps c).state)
  grown_now c low = let ok = (r.each_core c low).now in record {
    core = ap (λ q. moved p plan q e (after p plan r.history) c) date ∙ sym (ap (λ (m : Cores). m c) (one_more p plan r.history e));
    log = ap (λ (z : List Logged). z ++ cond (stands_in plan.cores c e) (logged at e ∷ []) []) ok.log
        ∙ (ap (λ z. log_at plan.cores c r.history ++ cond (stands_in plan.cores c e) (logged z e ∷ []) []) count ∙ sym (log_grows (stands_in plan.cores c) r.history e));
    log_room = ok.log_room;
    order = ok.order;
    room = ok.room;
    blocked_room = ok.blocked_room;
  }

  -- what is true of the core after the entry
  pub core_grows : (x c : ℕ) → c ≤ plan.cores → (c < plan.cores → NonePass (touches c) (r.history ++ e ∷ []) (r.keeps c).version (round_start (r.history ++ e ∷ [])))
      → CoreHolds p plan (r.history ++ e ∷ []) (set s.words 0 x) s.homes c (keeps_grown p plan round at e (after p plan r.history) r.keeps c)
  core_grows x c low settled =
      let h : List Entry = r.history in let ok = r.each_core c low in let k : Keep = r.keeps c in let y : CoreView = k.state in let same = early h e k.version (version_low p plan s r c low) in
      let stays : k.owner ≡ none → grown p plan round at e (after p plan h) c y ≡ y = (λ free.
      let out : stands_in plan.cores c e ≡ false = ⊎_elim (λ t. absurd (some-ne-none id (sym (owned c low t) ∙ free))) (λ f. f) (bool_cases (stands_in plan.cores c e)) in
      grown_else p plan round at e (after p plan h) c y out (inner c low out) ok.now.core) in record {
        now = grown_now c low;
        word = get_or-set_other s.words 0 (c + 1) x 0 (λ z. omega arith) ∙ (ok.word ∙ ap (λ g. word_of k.version (seen_of (after p plan g c)) + mark_of k.owner) (sym same));
        prefix = ok.prefix ∙ ap (λ g. version_of_log plan.cores c (log_at plan.cores c g)) (sym same);
        current = λ free. ok.current free ∙ ap (version_of plan.cores c) (sym (stays free));
        settled = settled;
        home = λ free. ok.home free ∙ ap (λ (z : CoreView). some (some (slot_of plan.cores c z))) (sym (stays free));
        out = ok.out;
      }
