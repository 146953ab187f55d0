-- The rule by cores and by seats, and what it says of one seat's view.
use Rattle.std.proofs.Common.{◌≡◌, ℕ, ◌+◌, ◌<◌, ◌≤◌, max, true, false, List, length, take, ap, subst, arith}
use Rattle.std.specs.Prelude.{slice_index}
use mathlib.Core.Option.{Option, none, some}
use lib.ListN.{get_elem?}
use Rattle.atomic_table.specs.Table.{State}
use Rattle.policy_tree.specs.Meaning.{Meaning}
use Rattle.policy_eval.specs.Obligations.{MeetsHandlerObligations}
use Rattle.round_model.specs.declared.entry.Entry.{Entry}
use Rattle.round_model.specs.declared.plan.Plan.{Plan}
use Rattle.round_model.specs.Entries.{touches}
use Rattle.round_model.specs.Fits.{Fits}
use Rattle.round_model.specs.Legal.{Legal}
use Rattle.round_model.specs.Limits.{IsWithinLimits}
use Rattle.round_model.specs.Owed.{owed_total}
use Rattle.round_model.specs.Reads.{round_start, value_read}
use Rattle.core_state.specs.Views.{CoreView}
use Rattle.core_table.specs.declared.slots.Slot.{Slot}
use Rattle.core_table.specs.declared.views.HeldCore.{HeldCore}
use Rattle.core_table.specs.declared.views.Note.{Note}
use Rattle.core_table.specs.declared.views.View.{View}
use Rattle.core_table.specs.Logs.{NonePass, log_at}
use Rattle.core_table.specs.Words.{mark_of, word_of}
use Rattle.core_table.specs.Views.{is_live, meaning_in, slot_of, spent_view, version_of, version_of_log}
use Rattle.core_table.specs.Told.{Agrees, Each, IsAmong, IsCoreNow, IsDated, IsOpening, IsSeatOf, IsTrueNote, IsTrueRole}
use Rattle.core_table.specs.Rule.{IsSeated, Keep, TableHolds, kept_by}

abbrev pub Now : Type 0
Now = State Slot View

-- all that the rule says of one core
pub record CoreHolds (p : Meaning) (plan : Plan) (h : List Entry) (ws : List ℕ) (homes : List (Option Slot)) (c : ℕ) (k : Keep) : Type 0 where
  pub now : IsCoreNow p plan h c k.state
  pub word : slice_index ws (c + 1) ≡ word_of k.version (value_read p plan h c k.version) + mark_of k.owner
  pub prefix : k.version ≡ version_of_log plan.cores c (log_at plan.cores c (take k.version h))
  pub current : k.owner ≡ none → k.version ≡ version_of plan.cores c k.state
  pub settled : c < plan.cores → NonePass (touches c) h k.version (round_start h)
  pub home : k.owner ≡ none → get_elem? homes c ≡ some (some (slot_of plan.cores c k.state))
  pub out : (j : ℕ) → k.owner ≡ some j → get_elem? homes c ≡ some none

abbrev pub AreFresh : List Entry → (ℕ → Keep) → List Note → Type 0
AreFresh h keeps notes = Each (λ (x : Note). x.at ≤ max (round_start h) (keeps x.core).version) notes

abbrev pub AreKept : Plan → (ℕ → Keep) → ℕ → List HeldCore → Type 0
AreKept plan keeps j held = Each (λ (x : HeldCore). (x.core ≤ plan.cores) × (keeps x.core ≡ kept_by j x)) held

-- all that the rule says of one seat
pub record SeatHolds (p : Meaning) (plan : Plan) (h : List Entry) (keeps : ℕ → Keep) (away : ℕ → Option ℕ) (lead j : ℕ) (v : View) : Type 0 where
  pub dated : is_live v.role ≡ true → IsDated h v
  pub role : IsTrueRole p plan h v.own v.role
  pub seated : IsSeated away lead j v.role
  pub spent : is_live v.role ≡ false → v ≡ spent_view
  pub opening : is_live v.role ≡ true → (meaning_in v ≡ p) × (v.plan ≡ plan)
  pub notes : Each (IsTrueNote p plan h) v.notes
  pub fresh : AreFresh h keeps v.notes
  pub held : AreKept plan keeps j v.held

-- who has a core has it in its view
abbrev pub InHands : (ℕ → Keep) → List View → ℕ → Type 0
InHands keeps views n = (c j : ℕ) → c ≤ n → (keeps c).owner ≡ some j → (v : View) × (get_elem? views j ≡ some v) × IsAmong v.held c

-- who is out is there
abbrev pub AreThere : (ℕ → Option ℕ) → List View → Type 0
AreThere away views = (c j : ℕ) → away c ≡ some j → (v : View) × (get_elem? views j ≡ some v) × IsSeatOf v c

abbrev pub IsLed : ℕ → List View → Type 0
IsLed lead views = (v : View) × (get_elem? views lead ≡ some v) × IsOpening v

-- the whole rule
pub record AllHold (p : Meaning) (plan : Plan) (s : Now) : Type 0 where
  pub fits : Fits p plan
  pub limits : IsWithinLimits plan
  pub handlers : MeetsHandlerObligations p
  pub history : List Entry
  pub keeps : ℕ → Keep
  pub away : ℕ → Option ℕ
  pub lead : ℕ
  pub wide : length s.words ≡ plan.cores + 2
  pub deep : length s.homes ≡ plan.cores + 1
  pub next : slice_index s.words 0 ≡ length history
  pub legal : Legal p plan history
  pub room : length history + owed_total p plan history ≤ plan.limit
  pub each_core : (c : ℕ) → c ≤ plan.cores → CoreHolds p plan history s.words s.homes c (keeps c)
  pub hands : InHands keeps s.views plan.cores
  pub there : AreThere away s.views
  pub leads : IsLed lead s.views
  pub each_seat : (j : ℕ) (v : View) → get_elem? s.views j ≡ some v → SeatHolds p plan history keeps away lead j v

unfoldable pub parted : (p : Meaning) (plan : Plan) (s : Now) → TableHolds p plan s → AllHold p plan s
parted p plan s t = record {
  fits = t.fits;
  limits = t.limits;
  handlers = t.handlers;
  history = t.ledger.history;
  keeps = t.ledger.keeps;
  away = t.ledger.away;
  lead = t.ledger.lead;
  wide = t.wide;
  deep = t.deep;
  next = t.numbering.next;
  legal = t.agreement.legal;
  room = t.reserve.room;
  each_core = λ c low. record {
    now = t.agreement.cores c low;
    word = t.published.word c low;
    prefix = t.published.prefix c low;
    current = t.published.current c low;
    settled = t.published.settled c;
    home = t.custody.home c low;
    out = λ j. t.custody.out c j low;
  };
  hands = t.custody.hands;
  there = t.roster.there;
  leads = t.roster.lead;
  each_seat = λ j v at. record {
    dated = t.roster.dated j v at;
    role = t.roster.roles j v at;
    seated = t.roster.seated j v at;
    spent = t.roster.spent j v at;
    opening = t.roster.opening j v at;
    notes = t.notes.are_true j v at;
    fresh = t.notes.fresh j v at;
    held = t.custody.held j v at;
  };
}

unfoldable pub whole : (p : Meaning) (plan : Plan) (s : Now) → AllHold p plan s → TableHolds p plan s
whole p plan s a = record {
  fits = a.fits;
  limits = a.limits;
  handlers = a.handlers;
  wide = a.wide;
  deep = a.deep;
  ledger = record { history = a.history; keeps = a.keeps; away = a.away; lead = a.lead };
  custody = record {
    home = λ c low. (a.each_core c low).home;
    out = λ c j low. (a.each_core c low).out j;
    hands = a.hands;
    held = λ j v at. (a.each_seat j v at).held;
  };
  numbering = record { next = a.next };
  agreement = record { legal = a.legal; cores = λ c low. (a.each_core c low).now };
  published = record {
    word = λ c low. (a.each_core c low).word;
    prefix = λ c low. (a.each_core c low).prefix;
    current = λ c low. (a.each_core c low).current;
    settled = λ c low. (a.each_core c (omega arith)).settled low;
  };
  notes = record {
    are_true = λ j v at. (a.each_seat j v at).notes;
    fresh = λ j v at. (a.each_seat j v at).fresh;
  };
  reserve = record { room = a.room };
  roster = record {
    dated = λ j v at. (a.each_seat j v at).dated;
    roles = λ j v at. (a.each_seat j v at).role;
    seated = λ j v at. (a.each_seat j v at).seated;
    spent = λ j v at. (a.each_seat j v at).spent;
    opening = λ j v at. (a.each_seat j v at).opening;
    there = a.there;
    lead = a.leads;
  };
}

-- a seat that isn't joined away agrees with the history
pub agrees : (s : Now) (j : ℕ) (v : View) (a : AllHold (meaning_in v) v.plan s) → get_elem? s.views j ≡ some v → is_live v.role ≡ true → Agrees v a.history
agrees s j v a at live = let seat = a.each_seat j v at in record {
  fits = a.fits;
  limits = a.limits;
  handlers = a.handlers;
  legal = a.legal;
  reserve = a.room;
  dated = seat.dated live;
  role = seat.role;
  notes = seat.notes;
  held = λ i x is. let t = seat.held i x is in record {
    there = t.0;
    now = subst (λ (y : CoreView). IsCoreNow (meaning_in v) v.plan a.history x.core y) (ap (λ (k : Keep). k.state) t.1) (a.each_core x.core t.0).now;
  };
}
