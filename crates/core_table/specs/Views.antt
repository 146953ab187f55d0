-- What a seat knows, and what each step makes of it.
use Rattle.std.specs.Prelude.{ℕ, suc, ◌==◌, max, Bool, true, false, cond, ◌&&◌, ◌||◌, List, [], ◌∷◌, ◌++◌, map}
use Rattle.std.specs.Prelude.{replicate, slice_set, is_none, None}
use Rattle.std.specs.List.{list_any}
use Rattle.policy_tree.specs.declared.trees.Cond.{Always}
use Rattle.policy_tree.specs.declared.typed.Load.TheVariants as load
use Rattle.policy_tree.specs.declared.typed.PlaceRule.TheVariants as rule
use Rattle.policy_tree.specs.declared.typed.Policy.{Policy}
use Rattle.policy_tree.specs.Meaning.{Meaning, meaning_of}
use Rattle.round_model.specs.declared.entry.Entry.{Entry}
use Rattle.round_model.specs.declared.entry.Entry.TheVariants as entry
use Rattle.round_model.specs.declared.plan.Plan.{Plan}
use Rattle.round_model.specs.declared.state.CountAndLoad.{CountAndLoad}
use Rattle.round_model.specs.After.{moved}
use Rattle.round_model.specs.Cores.{Cores, seen_of}
use Rattle.round_model.specs.Scenes.{waking_next}
use Rattle.core_state.specs.declared.logged.Logged.{Logged}
use Rattle.core_state.specs.Logs.{after_last, logged}
use Rattle.core_state.specs.Views.{CoreView}
use Rattle.core_table.specs.declared.slots.Slot.{Slot}
use Rattle.core_table.specs.declared.slots.Slot.TheVariants as slot
use Rattle.core_table.specs.declared.views.HeldCore.{HeldCore}
use Rattle.core_table.specs.declared.views.Note.{Note}
use Rattle.core_table.specs.declared.views.Role.{Role}
use Rattle.core_table.specs.declared.views.Role.TheVariants as role
use Rattle.core_table.specs.declared.views.Turn.{Turn}
use Rattle.core_table.specs.declared.views.Turn.TheVariants as turn
use Rattle.core_table.specs.declared.views.View.{View}
use Rattle.core_table.specs.Logs.{stands_in}
use Rattle.core_table.specs.Words.{seen_in, version_in}

-- what the policy of the opening means
abbrev pub meaning_in : View → Meaning
meaning_in v = meaning_of v.policy

-- what the word of a log is to say: one past its last position. The word of the rounds says 0
abbrev pub version_of_log : (n c : ℕ) → List Logged → ℕ
version_of_log n c log = cond (c == n) 0 (after_last 0 log)

abbrev pub version_of : (n c : ℕ) → CoreView → ℕ
version_of n c y = version_of_log n c y.log

-- the slot of that number: that of a core, or behind all cores the log of the rounds
abbrev pub slot_of : (n c : ℕ) → CoreView → Slot
slot_of n c y = cond (c == n) (slot.Rounds (record { entries = y.log; room = y.log_room })) (slot.Core y)

abbrev pub noted : (c at : ℕ) → CountAndLoad → Note
noted c at seen = record { core = c; at = at; seen = seen }

-- what is held as its word says it
abbrev pub taken : (n c : ℕ) → CoreView → HeldCore
taken n c y = record { core = c; state = y; version = version_of n c y }

-- a core as it is, as a note: at its version, or at the start of the round where that is later
abbrev pub note_of_core : (start c : ℕ) → CoreView → Note
note_of_core start c y = noted c (max start (after_last 0 y.log)) (seen_of y.core)

-- the view once the core, or the log of the rounds, is held
abbrev pub holding : ℕ → CoreView → View → View
holding c y v = record v {
  held = taken v.plan.cores c y ∷ v.held;
  notes = cond (c == v.plan.cores) v.notes (note_of_core v.start c y ∷ v.notes);
}

-- what a word says of its core, as a note
abbrev pub note_of_word : (start c word : ℕ) → Note
note_of_word start c word = noted c (max start (version_in word)) (seen_in word)

-- the view with one note more
abbrev pub noting : Note → View → View
noting x v = record v { notes = x ∷ v.notes }

-- a held core once the word of the core c says it as it is
abbrev pub published : (n c : ℕ) → HeldCore → HeldCore
published n c x = cond (x.core == c) (record x { version = version_of n x.core x.state }) x

-- the view once that word was written for the held core
abbrev pub publishing_word : (c word : ℕ) → View → View
publishing_word c word v = record v {
  held = map (published v.plan.cores c) v.held;
  notes = note_of_word v.start c word ∷ v.notes;
}

-- what is held, without what was taken last
abbrev pub but_newest : List HeldCore → List HeldCore
but_newest [] = []
but_newest (x ∷ earlier) = earlier

-- whether no blocked thread of the core may wake by that round
abbrev pub has_none_due : ℕ → CoreView → Bool
has_none_due round y = is_none (waking_next round y.core)

-- whether it is the core c, and none of its threads is due
abbrev pub is_without_due : (round c : ℕ) → HeldCore → Bool
is_without_due round c x = (x.core == c) && has_none_due round x.state

-- a core's seat marks that nothing of its own core is due, once it held the core so
abbrev pub remembering : ℕ → List HeldCore → Role → Role
remembering round held (role.Opening merged turns) = role.Opening merged turns
remembering round held (role.Core c none_due) = role.Core c (none_due || list_any (is_without_due round c) held)
remembering round held role.Spent = role.Spent

-- the view once what was taken last is given back
abbrev pub giving : View → View
giving v = record v { role = remembering v.round v.held v.role; held = but_newest v.held }

-- a core, or the log of the rounds, with one entry more, over the cores before it
abbrev pub grown : Meaning → Plan → (round at : ℕ) → Entry → Cores → ℕ → CoreView → CoreView
grown p plan round at e m c y = record y {
  core = moved p plan round e m c;
  log = y.log ++ cond (stands_in plan.cores c e) (logged at e ∷ []) [];
}

abbrev pub held_grown : (round at : ℕ) → Entry → Cores → View → HeldCore → HeldCore
held_grown round at e m v x = record x { state = grown (meaning_in v) v.plan round at e m x.core x.state }

-- all that the seat holds, with one entry more
abbrev pub all_grown : (at : ℕ) → Entry → Cores → View → List HeldCore
all_grown at e m v = map (held_grown v.round at e m v) v.held

-- the view of a core's seat with one entry more at that position
abbrev pub drawing : (at : ℕ) → Entry → Cores → View → View
drawing at e m v = record v { own = v.own ++ logged at e ∷ []; held = all_grown at e m v }

-- no core's seat is out, and none came back
abbrev pub all_idle : ℕ → List Turn
all_idle n = replicate n turn.Idle

-- the view of the opening seat once the round of that number began at that position. What was merged before is this
abbrev pub beginning : (number at : ℕ) → Cores → List Entry → View → View
beginning number at m merged v = record v {
  role = role.Opening merged (all_idle v.plan.cores);
  round = number;
  start = suc at;
  notes = [];
  held = all_grown at (entry.Round number) m v;
}

-- whether the seat wasn't joined away
unfoldable pub is_live : Role → Bool
is_live (role.Opening merged turns) = true
is_live (role.Core c none_due) = true
is_live role.Spent = false

-- the view of the opening seat at the start
abbrev pub first_view : Policy → Plan → View
first_view policy plan = record {
  policy = policy;
  plan = plan;
  role = role.Opening [] (all_idle plan.cores);
  round = 0;
  start = 0;
  own = [];
  notes = [];
  held = [];
}

-- the role with another turn of the core
abbrev pub with_turn : ℕ → Turn → Role → Role
with_turn c t (role.Opening merged turns) = role.Opening merged (slice_set turns c t)
with_turn c t (role.Core d none_due) = role.Core d none_due
with_turn c t role.Spent = role.Spent

-- the view of the opening seat once the core's seat is out
abbrev pub leaving : ℕ → View → View
leaving c v = record v { role = with_turn c turn.Out v.role }

-- the view of a seat that is split off for the core
abbrev pub seat_of_core : ℕ → View → View
seat_of_core c v = record v { role = role.Core c false; own = []; notes = []; held = [] }

-- the opening role once a seat with that role and those entries came back
abbrev pub joined_role : Role → List Logged → Role → Role
joined_role (role.Opening merged turns) own into = into
joined_role (role.Core c none_due) own into = with_turn c (turn.Done own) into
joined_role role.Spent own into = into

-- the view of the opening seat once the other seat came back
abbrev pub joining : (into other : View) → View
joining into other = record into { role = joined_role other.role other.own into.role }

-- a policy without text
abbrev pub no_policy : Policy
no_policy = record {
  name = [];
  load = load.Count;
  core_attrs = [];
  thread_attrs = [];
  place = rule.Here;
  elect = [];
  handlers = record { on_enqueue = []; on_tick = []; on_yield = []; on_block = [] };
  filter = Always;
  choose = [];
  steal = [];
  batch = None;
}

-- a plan without cores
abbrev pub no_plan : Plan
no_plan = record { cores = 0; rounds = 0; limit = 0; consts = []; threads = []; orders = [] }

-- the view of every seat that was joined away
abbrev pub spent_view : View
spent_view = record {
  policy = no_policy;
  plan = no_plan;
  role = role.Spent;
  round = 0;
  start = 0;
  own = [];
  notes = [];
  held = [];
}
