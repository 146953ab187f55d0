-- The beginning of a round keeps the rule.
use Rattle.std.proofs.Common.{◌≡◌, ◌≢◌, ℕ, zero, suc, ◌+◌, ◌%◌, ◌^◌, ◌<◌, ◌≤◌, true, false, List, [], ◌∷◌, ◌++◌, length, get_or, set, sym, refl, ap, ◌∙◌, subst, ⊎_elim, arith, length-set, get_or-set_same, take_all}
use Rattle.std.proofs.lemmas.Bool.{true≢false}
use mathlib.Core.Logic.{dite}
use mathlib.Core.Option.{Option, none, some, some-ne-none, some-injective}
use native.Mathlib.Decide.{ℕ_discrete}
use lib.ListN.{get_elem?, length-replicate}
use Rattle.atomic_table.specs.Table.{Allows, keeps}
use Rattle.policy_tree.specs.Meaning.{Meaning}
use Rattle.round_model.specs.declared.entry.Entry.{Entry}
use Rattle.round_model.specs.declared.entry.Entry.TheVariants as entry
use Rattle.round_model.specs.declared.plan.Plan.{Plan}
use Rattle.round_model.specs.After.{after, round_of}
use Rattle.round_model.specs.Entries.{touches}
use Rattle.round_model.specs.Legal.{Legal, LegalNext}
use Rattle.round_model.specs.Reads.{round_start}
use Rattle.round_model.proofs.Grows.{at_end, legal_grows}
use Rattle.round_model.proofs.Longer.{round_of_more, start_of_round}
use Rattle.round_model.proofs.OwedBounds.{owed_bound}
use Rattle.core_state.specs.Logs.{after_last}
use Rattle.core_state.specs.declared.logged.Logged.{Logged}
use Rattle.core_table.specs.declared.views.HeldCore.{HeldCore}
use Rattle.core_table.specs.declared.views.Role.{Role}
use Rattle.core_table.specs.declared.views.Role.TheVariants as role
use Rattle.core_table.specs.declared.views.Turn.{Turn}
use Rattle.core_table.specs.declared.views.Turn.TheVariants as turn
use Rattle.core_table.specs.declared.views.View.{View}
use Rattle.core_table.specs.Logs.{NonePass, stands_in}
use Rattle.core_table.specs.Views.{all_idle, beginning, is_live, meaning_in}
use Rattle.core_table.specs.Told.{Agrees, HasAllBack, HoldsRounds, IsAmong, IsIn, IsNextRound, IsTrueRole, IsTrueTurn, MayBeginRound}
use Rattle.core_table.specs.Rule.{IsCounted, IsSeated, Keep, TableHolds}
use Rattle.core_table.specs.Plays.{SeatNow, begins}
use Rattle.core_table.proofs.Histories.{at_less, entry_at, log_core, longer, none_later, own_begins, stands_core, version_core}
use Rattle.core_table.proofs.Parts.{AllHold, Now, SeatHolds, agrees, parted, whole}
use Rattle.core_table.proofs.Frames.{has_owner, hands_stay, seat_there, seats_stay}
use Rattle.core_table.proofs.Entries.{among_grown, core_grows, keeps_grown, kept_mine}

pub idle_at : (n c : ℕ) (t : Turn) → get_elem? (all_idle n) c ≡ some t → t ≡ turn.Idle
idle_at zero c t is = absurd (some-ne-none t (sym is))
idle_at (suc n) zero t is = sym (some-injective turn.Idle t is)
idle_at (suc n) (suc c) t is = idle_at n c t is

-- who is back isn't out
is_back : (away : ℕ → Option ℕ) (c : ℕ) (t : Turn) → IsIn t → IsCounted away c t → away c ≡ none
is_back away c turn.Idle back seat = seat
is_back away c turn.Out back seat = absurd back
is_back away c (turn.Done own) back seat = seat

-- where no seat is out, only the opening one knows anything
others_spent : (away : ℕ → Option ℕ) (lead j : ℕ) (p : Meaning) (plan : Plan) (h : List Entry) (own : List Logged) (role : Role) → ((c : ℕ) → c < plan.cores → away c ≡ none) → j ≢ lead
    → IsSeated away lead j role → IsTrueRole p plan h own role → is_live role ≡ false
unfolding is_live
others_spent away lead j p plan h own (role.Opening merged turns) free other seat t = absurd (other seat.0)
others_spent away lead j p plan h own (role.Core d none_due) free other seat t = absurd (some-ne-none j (sym seat ∙ free d t.there))
others_spent away lead j p plan h own role.Spent free other seat t = refl

spent_role : (p : Meaning) (plan : Plan) (h : List Entry) (own : List Logged) (role : Role) → is_live role ≡ false → IsTrueRole p plan h own role
unfolding is_live
spent_role p plan h own (role.Opening merged turns) dead = absurd (true≢false dead)
spent_role p plan h own (role.Core c none_due) dead = absurd (true≢false dead)
spent_role p plan h own role.Spent dead = tt

-- a seat that was joined away knows nothing that an entry could change
spent_knows : (p : Meaning) (plan : Plan) (h h' : List Entry) (had has : ℕ → Keep) (away : ℕ → Option ℕ) (lead j : ℕ) (v : View) → is_live v.role ≡ false
    → SeatHolds p plan h had away lead j v → SeatHolds p plan h' has away lead j v
spent_knows p plan h h' had has away lead j v dead seat = let is = seat.spent dead in record {
  dated = λ live. absurd (true≢false (sym live ∙ dead));
  role = spent_role p plan h' v.own v.role dead;
  seated = seat.seated;
  spent = seat.spent;
  opening = seat.opening;
  notes = λ i x at. absurd (some-ne-none x (sym at ∙ ap (λ (u : View). get_elem? u.notes i) is));
  fresh = λ i x at. absurd (some-ne-none x (sym at ∙ ap (λ (u : View). get_elem? u.notes i) is));
  held = λ i x at. absurd (some-ne-none x (sym at ∙ ap (λ (u : View). get_elem? u.held i) is));
}

none_among : (v : View) (c : ℕ) → v.held ≡ [] → IsAmong v.held c → ⊥
none_among v c free t = some-ne-none t.of (sym t.there ∙ ap (λ (l : List HeldCore). get_elem? l t.place) free)

only_among : (x : HeldCore) (c : ℕ) → IsAmong (x ∷ []) c → x.core ≡ c
only_among x c t = by_place t.place t.of t.there t.core
  where
    by_place : (i : ℕ) (y : HeldCore) → get_elem? (x ∷ []) i ≡ some y → y.core ≡ c → x.core ≡ c
    by_place zero y at core = ap (λ (z : HeldCore). z.core) (some-injective x y at) ∙ core
    by_place (suc i) y at core = absurd (some-ne-none y (sym at))

module _ (s : Now) (me : SeatNow) (r : AllHold (meaning_in me.0) me.0.plan s) (id : ℕ) (back : HasAllBack me.0) (at : get_elem? s.views id ≡ some me.0) where
  live : is_live me.0.role ≡ true
  unfolding is_live
  live = ap is_live back.role

  seat : IsSeated r.away r.lead id (role.Opening back.merged back.turns)
  seat = subst (IsSeated r.away r.lead id) back.role ((r.each_seat id me.0 at).seated)

  -- no core's seat is out
  nobody_out : (c : ℕ) → c < me.0.plan.cores → r.away c ≡ none
  nobody_out c low =
      let t = subst (IsTrueRole (meaning_in me.0) me.0.plan r.history me.0.own) back.role ((r.each_seat id me.0 at).role) in let wide = t.count in
      let x = entry_at back.turns c (omega arith) in is_back r.away c x.0 (back.back c x.0 x.1) (seat.1 c x.0 x.1)

  -- a seat that holds something is the opening one
  holder_leads : (j : ℕ) (u : View) (c : ℕ) → get_elem? s.views j ≡ some u → IsAmong u.held c → j ≡ id
  holder_leads j u c is among = dite (ℕ_discrete j id) (λ hit. hit) (λ miss.
      let it = r.each_seat j u is in
      let dead = others_spent r.away r.lead j (meaning_in me.0) me.0.plan r.history u.own u.role nobody_out (λ e. miss (e ∙ sym seat.0)) it.seated it.role in
      absurd (none_among u c (ap (λ (z : View). z.held) (it.spent dead)) among))

  -- so what the opening seat doesn't hold is at home
  free_core : (c : ℕ) → c ≤ me.0.plan.cores → (IsAmong me.0.held c → ⊥) → (r.keeps c).owner ≡ none
  free_core c low not = ⊎_elim (λ free. free)
      (λ (t : (j : ℕ) × ((r.keeps c).owner ≡ some j)). let x = r.hands c t.0 low t.1 in let hit = holder_leads t.0 x.0 c x.1 x.2 in
      absurd (not (subst (λ (u : View). IsAmong u.held c) (some-injective x.0 me.0 (sym x.1 ∙ (ap (get_elem? s.views) hit ∙ at))) x.2)))
      (has_owner (r.keeps c).owner)

  pub all_home : me.0.held ≡ [] → (c : ℕ) → c ≤ me.0.plan.cores → (r.keeps c).owner ≡ none
  all_home free c low = free_core c low (none_among me.0 c free)

  module _ (number : ℕ) where
    abbrev e : Entry
    e = entry.Round number

    -- the opening seat behind the Round
    begins_knows : (w : ℕ) → w ≡ length r.history
        → SeatHolds (meaning_in me.0) me.0.plan (r.history ++ entry.Round number ∷ []) (keeps_grown (meaning_in me.0) me.0.plan me.0.round w (entry.Round number) (after (meaning_in me.0) me.0.plan r.history) r.keeps) r.away r.lead id
        (beginning number w (after (meaning_in me.0) me.0.plan r.history) (r.history ++ entry.Round number ∷ []) me.0)
    unfolding is_live
    begins_knows w count =
        let p : Meaning = meaning_in me.0 in let plan : Plan = me.0.plan in let h : List Entry = r.history in let h' : List Entry = h ++ entry.Round number ∷ [] in let it = r.each_seat id me.0 at in
        let long = longer h e in let start = start_of_round h e refl in let wide = length-replicate plan.cores turn.Idle in record {
          dated = λ _. record { round = sym (round_of_more h e); start = omega arith };
          role = record {
            is_merged = sym (take_all (round_start h') h' (omega arith));
            count = wide;
            are_true = λ c t is. subst (IsTrueTurn h' c) (sym (idle_at plan.cores c t is)) (own_begins c h e refl);
          };
          seated = (seat.0, λ c t is. let small = at_less (all_idle plan.cores) c t is in subst (IsCounted r.away c) (sym (idle_at plan.cores c t is)) (nobody_out c (omega arith)));
          spent = λ dead. absurd (true≢false dead);
          opening = λ _. (refl, refl);
          notes = λ i x is. absurd (some-ne-none x (sym is));
          fresh = λ i x is. absurd (some-ne-none x (sym is));
          held = kept_mine me.0 r.keeps id me.0.round w (entry.Round number) (after p plan h) me.0.held it.held;
        }

    -- a core at home is touched by no entry from its version up to the new start
    settled_begin : (c : ℕ) → c < me.0.plan.cores → (r.keeps c).owner ≡ none → NonePass (touches c) (r.history ++ entry.Round number ∷ []) (r.keeps c).version (round_start (r.history ++ entry.Round number ∷ []))
    unfolding touches
    settled_begin c inside free i x low high is =
        let p : Meaning = meaning_in me.0 in let plan : Plan = me.0.plan in let h : List Entry = r.history in let ok = r.each_core c (omega arith) in let miss : c ≢ plan.cores = (λ z. omega arith) in
        let ver = ok.current free ∙ (version_core plan.cores c (r.keeps c).state.log miss ∙ ap (after_last 0) (ok.now.log ∙ log_core plan.cores c h miss)) in ⊎_elim
        (λ (old : (i < length h) × (get_elem? h i ≡ some x)). none_later (touches c) h i x (omega arith) old.0 old.1)
        (λ (new : (i ≡ length h) × (entry.Round number ≡ x)). ap (touches c) (sym new.1))
        (at_end h (entry.Round number) x i is)

    -- the Round stands in the log of the rounds alone
    stands_alone : (c : ℕ) → stands_in me.0.plan.cores c (entry.Round number) ≡ true → c ≡ me.0.plan.cores
    unfolding touches
    stands_alone c is = dite (ℕ_discrete c me.0.plan.cores) (λ hit. hit)
        (λ miss. absurd (true≢false (sym is ∙ ap (λ test. test (entry.Round number)) (stands_core me.0.plan.cores c miss))))

    touches_none : (c : ℕ) → touches c (entry.Round number) ≡ false
    unfolding touches
    touches_none c = refl

    module _ (alone : HoldsRounds me.0) (may : MayBeginRound me.0 number) where
      is_next : IsNextRound me.0.plan r.history number
      is_next = may r.history (agrees s id me.0 r at live)

      next : LegalNext (meaning_in me.0) me.0.plan r.history (entry.Round number)
      unfolding LegalNext
      next = is_next.next

      begun : AllHold (meaning_in me.0) me.0.plan record { words = set s.words 0 (get_or s.words 0 0 + 1); homes = s.homes; views = set s.views id (beginning number (get_or s.words 0 0) (after (meaning_in me.0) me.0.plan r.history) (r.history ++ entry.Round number ∷ []) me.0) }
      begun =
          let p : Meaning = meaning_in me.0 in let plan : Plan = me.0.plan in let h : List Entry = r.history in let h' : List Entry = h ++ entry.Round number ∷ [] in let w : ℕ = get_or s.words 0 0 in let count : w ≡ length h = r.next in
          let v : View = beginning number w (after p plan h) h' me.0 in let has : ℕ → Keep = keeps_grown p plan me.0.round w (entry.Round number) (after p plan h) r.keeps in let it = r.each_seat id me.0 at in
          let date : me.0.round ≡ round_of h = (it.dated live).round in
          let legal : Legal p plan h' = legal_grows.grows p plan h (entry.Round number) r.legal next in let owes = owed_bound p plan h' r.fits r.handlers legal in let long = longer h e in let room = is_next.room in
          let owned : (c : ℕ) → c ≤ plan.cores → stands_in plan.cores c (entry.Round number) ≡ true → (r.keeps c).owner ≡ some id = (λ c low is. ap (λ z. (r.keeps z).owner) (stands_alone c is ∙ sym alone.core)
          ∙ ap (λ (z : Keep). z.owner) (it.held 0 alone.of (ap (λ (l : List HeldCore). get_elem? l 0) alone.held)).1) in record {
            fits = r.fits;
            limits = r.limits;
            handlers = r.handlers;
            history = h';
            keeps = has;
            away = r.away;
            lead = r.lead;
            wide = length-set s.words 0 _ ∙ r.wide;
            deep = r.deep;
            next = get_or-set_same s.words 0 _ 0 (omega (arith, r.wide)) ∙ omega arith;
            legal = legal;
            room = omega arith;
            each_core = λ c low. core_grows p plan s r id me.0.round w (entry.Round number) date count owned (λ d _ _. touches_none d) (w + 1) c low
                (λ inside. settled_begin c inside (free_core c low (λ g. let x = only_among alone.of c (subst (λ (l : List HeldCore). IsAmong l c) alone.held g) in let y = alone.core in omega arith)));
            hands = hands_stay p plan s r id me.0 v at has (λ _. refl) (among_grown me.0.round w (entry.Round number) (after p plan h) me.0 me.0.held);
            there = λ c j is. absurd (some-ne-none j (sym is ∙ away_none c j is));
            leads = (v, seat_there p plan s r id me.0 v at r.lead (sym seat.0), record { merged = h'; turns = all_idle plan.cores; role = refl });
            each_seat = seats_stay (SeatHolds p plan h' has r.away r.lead) s.views id v (begins_knows w count)
                (λ j d other is. let k = r.each_seat j d is in
                spent_knows p plan h h' r.keeps has r.away r.lead j d (others_spent r.away r.lead j p plan h d.own d.role nobody_out (λ z. other (z ∙ sym seat.0)) k.seated k.role) k);
          }
        where
          away_none : (c j : ℕ) → r.away c ≡ some j → r.away c ≡ none
          away_none c j is =
              let t = r.there c j is in let it = r.each_seat j t.0 t.1 in
              nobody_out c (subst (IsTrueRole (meaning_in me.0) me.0.plan r.history t.0.own) t.2.role it.role).there

      begun_agrees : Agrees (beginning number (get_or s.words 0 0) (after (meaning_in me.0) me.0.plan r.history) (r.history ++ entry.Round number ∷ []) me.0) (r.history ++ entry.Round number ∷ [])
      unfolding begun is_live
      begun_agrees = let v : View = beginning number (get_or s.words 0 0) (after (meaning_in me.0) me.0.plan r.history) (r.history ++ entry.Round number ∷ []) me.0 in
          agrees _ id v begun (seat_there (meaning_in me.0) me.0.plan s r id me.0 v at id refl) refl

pub begins_on : (slots id : ℕ) (me : SeatNow) (number : ℕ) → HasAllBack me.0 → HoldsRounds me.0 → MayBeginRound me.0 number
    → Allows (TableHolds (meaning_in me.0) me.0.plan) slots id me 0 (λ w. (w + 1) % 2 ^ 64) (λ n new. begins number me n new)
begins_on slots id me number back alone may s holds deep at small =
    let p : Meaning = meaning_in me.0 in let plan : Plan = me.0.plan in let r : AllHold p plan s = parted p plan s holds in let h : List Entry = r.history in let w : ℕ = get_or s.words 0 0 in let count : w ≡ length h = r.next in
    let ag = agrees s id me.0 r at (live s me r id back at) in let room = (may h ag).room in let few = r.limits.few_entries in
    let one_more : (w + 1) % 18446744073709551616 ≡ w + 1 = omega arith in let v : View = beginning number w (after p plan h) (h ++ entry.Round number ∷ []) me.0 in (
      v,
      keeps,
      tt,
      subst (λ (x : ℕ). TableHolds p plan record { words = set s.words 0 x; homes = s.homes; views = set s.views id v }) (sym one_more) (whole p plan _ (begun s me r id back at number alone may)),
      (record { history = h; before = ag; at = sym count; below = omega arith; view = refl; now = begun_agrees s me r id back at number alone may }, refl),
    )
