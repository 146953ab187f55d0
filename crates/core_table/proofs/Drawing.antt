-- A draw of a core's seat keeps the rule, however many cores the entry touches.
use Rattle.std.proofs.Common.{◌≡◌, ◌≢◌, ℕ, ◌+◌, ◌%◌, ◌^◌, ◌<◌, ◌≤◌, Bool, true, false, cond, List, [], ◌∷◌, ◌++◌, map, length, take, find, count_by, get_or, set, Some, sym, refl, ap, ◌∙◌, subst, ⊎_elim, arith, length-set, get_or-set_same, eq-eqb, ne_eqb}
use Rattle.std.specs.Prelude.{IsNone, is_some}
use Rattle.std.proofs.lemmas.Bool.{true≢false}
use Rattle.std.proofs.lemmas.List.{append-nil}
use Rattle.std.proofs.lemmas.List.Sums.{sum_by-cons}
use mathlib.Core.Logic.{dite}
use mathlib.Core.Option.{Option, some, some-ne-none, some-injective}
use native.Mathlib.Decide.{ℕ_discrete}
use lib.ListN.{get_elem?}
use Rattle.atomic_table.specs.Table.{Allows, keeps}
use Rattle.policy_tree.specs.Meaning.{Meaning}
use Rattle.round_model.specs.declared.entry.Entry.{Entry}
use Rattle.round_model.specs.declared.plan.Plan.{Plan}
use Rattle.round_model.specs.After.{after, round_of}
use Rattle.round_model.specs.Cores.{seen_of}
use Rattle.round_model.specs.Entries.{acting_core, touches}
use Rattle.round_model.specs.Fits.{Fits}
use Rattle.round_model.specs.Kinds.{is_round}
use Rattle.round_model.specs.Legal.{LegalNext, rounds_begun}
use Rattle.round_model.specs.Reads.{round_start}
use Rattle.round_model.specs.Scenes.{is_due_blocked, scene_of, waking_next}
use Rattle.round_model.proofs.Acting.{acts_is, no_round, round_stays}
use Rattle.round_model.proofs.Counting.{counted}
use Rattle.round_model.proofs.Grows.{legal_grows}
use Rattle.round_model.proofs.Locality.{next_of}
use Rattle.round_model.proofs.Longer.{begun_more, round_of_more, start_stays, start_within}
use Rattle.round_model.proofs.OwedTotals.{reserve_kept}
use Rattle.round_model.proofs.Owing.{none_found}
use Rattle.round_model.proofs.Changed.{none_falls_due}
use Rattle.round_model.proofs.Reaching.{touched_next}
use Rattle.round_model.proofs.There.{acts_there}
use Rattle.core_state.specs.declared.logged.Logged.{Logged}
use Rattle.core_state.specs.Logs.{logged}
use Rattle.core_table.specs.declared.views.Note.{Note}
use Rattle.core_table.specs.declared.views.Role.{Role}
use Rattle.core_table.specs.declared.views.Role.TheVariants as role
use Rattle.core_table.specs.declared.views.Turn.{Turn}
use Rattle.core_table.specs.declared.views.Turn.TheVariants as turn
use Rattle.core_table.specs.declared.views.View.{View}
use Rattle.core_table.specs.Logs.{NonePass, own_log, stands_in}
use Rattle.core_table.specs.Views.{drawing, is_live, meaning_in}
use Rattle.core_table.specs.Told.{Agrees, HoldsTouched, IsAsViewed, IsDated, IsLocalIn, IsTrueNote, IsTrueRole, IsTrueTurn}
use Rattle.core_table.specs.Rule.{IsCounted, IsSeated, Keep, TableHolds}
use Rattle.core_table.specs.Plays.{SeatNow, draws}
use Rattle.core_table.specs.Public.{IsActors}
use Rattle.core_table.proofs.Histories.{bool_cases, early, longer, none_longer, own_grows, own_is, stands_core, stands_rounds}
use Rattle.core_table.proofs.Parts.{AllHold, AreFresh, AreKept, Now, SeatHolds, agrees, parted, whole}
use Rattle.core_table.proofs.Frames.{away_there, hands_stay, lead_there, same_role, seat_there, seats_stay}
use Rattle.core_table.proofs.Entries.{among_grown, core_grows, keeps_grown, kept_mine, kept_others}

-- a history that agrees with the view of a core's seat gives a scene that has what the view has
scene_viewed : (v : View) (h : List Entry) (a : ℕ) (none_due : Bool) → v.role ≡ role.Core a none_due → Agrees v h → IsAsViewed v (scene_of (meaning_in v) v.plan h a)
unfolding scene_of
scene_viewed v h a none_due is ag = let t = subst (IsTrueRole (meaning_in v) v.plan h v.own) is ag.role in record {
  round = sym ag.dated.round;
  start = sym ag.dated.start;
  own = sym (ap (map (λ (l : Logged). l.entry)) t.is_own ∙ own_is a h);
  cores = λ i x at. sym (ag.held i x at).now.core;
  notes = λ i x at. let n = ag.notes i x at in record { in_round = n.in_round; before = n.within; seen = sym n.seen };
}

-- so what is local there is legal next
pub next_by_view : (v : View) (h : List Entry) (e : Entry) → IsActors v e → Agrees v h → IsLocalIn v e → LegalNext (meaning_in v) v.plan h e
next_by_view v h e actors ag local =
    let a : ℕ = actors.actor in let t = subst (IsTrueRole (meaning_in v) v.plan h v.own) actors.own.role ag.role in
    next_of (meaning_in v) v.plan h a t.begun e actors.acting (local (scene_of (meaning_in v) v.plan h a) (scene_viewed v h a actors.own.none_due actors.own.role ag))

-- where none passes none is found
unfound : {X : Type 0} (test : X → Bool) (xs : List X) → count_by test xs ≡ 0 → IsNone (find test xs)
unfound test [] is = refl
unfound test (x ∷ xs) is =
    let cons : count_by test (x ∷ xs) ≡ counted (test x) + count_by test xs = sum_by-cons (λ y. counted (test y)) x xs in ⊎_elim
    (λ (yes : test x ≡ true). let one : counted (test x) ≡ 1 = ap counted yes in absurd (omega arith))
    (λ (no : test x ≡ false). let nought : counted (test x) ≡ 0 = ap counted no in
    ap (λ b. is_some (cond b (Some x) (find test xs))) no ∙ unfound test xs (omega arith))
    (bool_cases (test x))

-- The parts of a view that speak of the history, when it grows by an entry of the core a.
module _ (p : Meaning) (plan : Plan) (fits : Fits p plan) (h : List Entry) (e : Entry) (a : ℕ) (acting : acting_core e ≡ Some a) where
  not : is_round e ≡ false
  not = no_round e a acting

  start_same : round_start (h ++ e ∷ []) ≡ round_start h
  start_same = start_stays h e not

  round_same : round_of (h ++ e ∷ []) ≡ round_of h
  round_same = round_of_more h e ∙ round_stays e a (round_of h) acting

  begun_same : rounds_begun (h ++ e ∷ []) ≡ rounds_begun h
  begun_same = begun_more h e ∙ (ap (λ b. rounds_begun h + cond b 1 0) not ∙ omega arith)

  due_stays : (c : ℕ) → IsNone (waking_next (round_of h) (after p plan h c)) → IsNone (waking_next (round_of (h ++ e ∷ [])) (after p plan (h ++ e ∷ []) c))
  unfolding waking_next
  due_stays c is =
      let few = (none_falls_due p plan h e fits).no_more c in let old = none_found (is_due_blocked (round_of h)) (after p plan h c).blocked is in
      subst (λ (q : ℕ). IsNone (find (is_due_blocked q) (after p plan (h ++ e ∷ []) c).blocked)) (sym round_same) (unfound (is_due_blocked (round_of h)) (after p plan (h ++ e ∷ []) c).blocked (omega arith))

  dated_grows : (v : View) → IsDated h v → IsDated (h ++ e ∷ []) v
  dated_grows v d = record { round = d.round ∙ sym round_same; start = d.start ∙ sym start_same }

  note_grows : (x : Note) → IsTrueNote p plan h x → IsTrueNote p plan (h ++ e ∷ []) x
  note_grows x t = let b = t.in_round in let w = t.within in let s = start_same in let l = longer h e in record {
    core = t.core;
    in_round = omega arith;
    within = omega arith;
    seen = t.seen ∙ ap (λ g. seen_of (after p plan g x.core)) (sym (early h e x.at w));
  }

  fresh_grows : (kept kept' : ℕ → Keep) (notes : List Note) → ((c : ℕ) → (kept' c).version ≡ (kept c).version) → AreFresh h kept notes → AreFresh (h ++ e ∷ []) kept' notes
  fresh_grows kept kept' notes same f i x is = let t = f i x is in let s = start_same in let b = same x.core in omega arith

  own_here : own_log a (h ++ e ∷ []) ≡ own_log a h ++ logged (length h) e ∷ []
  own_here = own_grows a h e not ∙ ap (λ b. own_log a h ++ cond b (logged (length h) e ∷ []) []) (acts_is e a a acting ∙ eq-eqb a a refl)

  own_else : (c : ℕ) → c ≢ a → own_log c (h ++ e ∷ []) ≡ own_log c h
  own_else c other = own_grows c h e not
      ∙ (ap (λ b. own_log c h ++ cond b (logged (length h) e ∷ []) []) (acts_is e a c acting ∙ ne_eqb a c (λ z. other (sym z))) ∙ append-nil (own_log c h))

  -- a core that doesn't act
  turn_grows : (c : ℕ) (t : Turn) → c ≢ a → IsTrueTurn h c t → IsTrueTurn (h ++ e ∷ []) c t
  turn_grows c turn.Idle other t = own_else c other ∙ t
  turn_grows c turn.Out other t = tt
  turn_grows c (turn.Done own) other t = own_else c other ∙ t

  -- the core that acts has its seat out
  turn_acts : (away : ℕ → Option ℕ) (id c : ℕ) (t : Turn) → away a ≡ some id → IsCounted away c t → IsTrueTurn h c t → IsTrueTurn (h ++ e ∷ []) c t
  turn_acts away id c turn.Idle out seat t = turn_grows c turn.Idle (λ z. some-ne-none id (sym out ∙ (ap away (sym z) ∙ seat))) t
  turn_acts away id c turn.Out out seat t = tt
  turn_acts away id c (turn.Done own) out seat t = turn_grows c (turn.Done own) (λ z. some-ne-none id (sym out ∙ (ap away (sym z) ∙ seat))) t

  -- a seat that looks on
  role_grows : (away : ℕ → Option ℕ) (lead id j : ℕ) (own : List Logged) (role : Role) → away a ≡ some id → j ≢ id → IsSeated away lead j role → IsTrueRole p plan h own role → IsTrueRole p plan (h ++ e ∷ []) own role
  role_grows away lead id j own (role.Opening merged turns) out other seat t = record {
    is_merged = t.is_merged ∙ (sym (early h e (round_start h) (start_within h)) ∙ ap (λ k. take k (h ++ e ∷ [])) (sym start_same));
    count = t.count;
    are_true = λ c u is. turn_acts away id c u out (seat.1 c u is) (t.are_true c u is);
  }
  role_grows away lead id j own (role.Core d none_due) out other seat t =
      let differs : d ≢ a = (λ z. other (some-injective j id (sym seat ∙ (ap away z ∙ out)))) in record {
        there = t.there;
        begun = subst (λ k. 0 < k) (sym begun_same) t.begun;
        is_own = t.is_own ∙ sym (own_else d differs);
        due = λ marked. due_stays d (t.due marked);
      }
  role_grows away lead id j own role.Spent out other seat t = tt

  -- the seat whose entry it is
  role_draws : (at : ℕ) (own : List Logged) (none_due : Bool) → at ≡ length h → IsTrueRole p plan h own (role.Core a none_due) → IsTrueRole p plan (h ++ e ∷ []) (own ++ logged at e ∷ []) (role.Core a none_due)
  role_draws at own none_due count t = record {
    there = t.there;
    begun = subst (λ k. 0 < k) (sym begun_same) t.begun;
    is_own = (λ i. t.is_own i ++ logged (count i) e ∷ []) ∙ sym own_here;
    due = λ marked. due_stays a (t.due marked);
  }

  others_grow : (kept kept' : ℕ → Keep) (away : ℕ → Option ℕ) (lead id j : ℕ) (v : View) → away a ≡ some id → j ≢ id → ((c : ℕ) → (kept' c).version ≡ (kept c).version)
      → AreKept plan kept' j v.held → SeatHolds p plan h kept away lead j v → SeatHolds p plan (h ++ e ∷ []) kept' away lead j v
  others_grow kept kept' away lead id j v out other same held seat = record {
    dated = λ live. dated_grows v (seat.dated live);
    role = role_grows away lead id j v.own v.role out other seat.seated seat.role;
    seated = seat.seated;
    spent = seat.spent;
    opening = seat.opening;
    notes = λ i x is. note_grows x (seat.notes i x is);
    fresh = fresh_grows kept kept' v.notes same seat.fresh;
    held = held;
  }

  -- an entry of a core stands where it touches a core of the plan
  pub stands_touched : LegalNext p plan h e → (c : ℕ) → c ≤ plan.cores → stands_in plan.cores c e ≡ false → touches c e ≡ false
  stands_touched next c low out = dite (ℕ_discrete c plan.cores)
      (λ hit. ⊎_elim (λ (yes : touches c e ≡ true). let there = touched_next p plan h e next c yes in absurd (omega arith)) (λ no. no) (bool_cases (touches c e)))
      (λ miss. sym (ap (λ test. test e) (stands_core plan.cores c miss)) ∙ out)

  pub touched_stands : (c : ℕ) → stands_in plan.cores c e ≡ true → c ≤ plan.cores → (c < plan.cores) × (touches c e ≡ true)
  touched_stands c is low = dite (ℕ_discrete c plan.cores)
      (λ hit. absurd (true≢false (sym is ∙ (ap (λ test. test e) (stands_rounds plan.cores c hit) ∙ not))))
      (λ miss. (omega arith, sym (ap (λ test. test e) (stands_core plan.cores c miss)) ∙ is))

module _ (s : Now) (me : SeatNow) (r : AllHold (meaning_in me.0) me.0.plan s) (id : ℕ) (e : Entry) (actors : IsActors me.0 e) (touched : HoldsTouched me.0 e) (local : IsLocalIn me.0 e) (at : get_elem? s.views id ≡ some me.0) where
  live : is_live me.0.role ≡ true
  unfolding is_live
  live = ap is_live actors.own.role

  next : LegalNext (meaning_in me.0) me.0.plan r.history e
  next = next_by_view me.0 r.history e actors (agrees s id me.0 r at live) local

  drawn : AllHold (meaning_in me.0) me.0.plan record { words = set s.words 0 (get_or s.words 0 0 + 1); homes = s.homes; views = set s.views id (drawing (get_or s.words 0 0) e (after (meaning_in me.0) me.0.plan r.history) me.0) }
  drawn =
      let p : Meaning = meaning_in me.0 in let plan : Plan = me.0.plan in let h : List Entry = r.history in let h' : List Entry = h ++ e ∷ [] in let w : ℕ = get_or s.words 0 0 in let count : w ≡ length h = r.next in
      let v : View = drawing w e (after p plan h) me.0 in let a : ℕ = actors.actor in let acting = actors.acting in let seat = r.each_seat id me.0 at in let date : me.0.round ≡ round_of h = (seat.dated live).round in
      let keeps' : ℕ → Keep = keeps_grown p plan me.0.round w e (after p plan h) r.keeps in
      let out : r.away a ≡ some id = subst (IsSeated r.away r.lead id) actors.own.role seat.seated in
      let there = acts_there p plan h e a acting next in let owes = reserve_kept p plan h e a r.fits r.handlers r.legal next acting there in let long = longer h e in let room = r.room in
      let owned : (c : ℕ) → c ≤ plan.cores → stands_in plan.cores c e ≡ true → (r.keeps c).owner ≡ some id = (λ c low is.
      let t = touched_stands p plan r.fits h e a acting c is low in let x = touched c t.0 t.1 in ap (λ z. (r.keeps z).owner) (sym x.core) ∙ ap (λ (z : Keep). z.owner) (seat.held x.place x.of x.there).1) in
      let inner = stands_touched p plan r.fits h e a acting next in record {
        fits = r.fits;
        limits = r.limits;
        handlers = r.handlers;
        history = h';
        keeps = keeps';
        away = r.away;
        lead = r.lead;
        wide = length-set s.words 0 _ ∙ r.wide;
        deep = r.deep;
        next = get_or-set_same s.words 0 _ 0 (omega (arith, r.wide)) ∙ omega arith;
        legal = legal_grows.grows p plan h e r.legal next;
        room = omega arith;
        each_core = λ c low. core_grows p plan s r id me.0.round w e date count owned inner (w + 1) c low
            (λ inside. subst (NonePass (touches c) h' (r.keeps c).version) (sym (start_same p plan r.fits h e a acting)) (none_longer (touches c) h e (r.keeps c).version (round_start h) (start_within h) ((r.each_core c low).settled inside)));
        hands = hands_stay p plan s r id me.0 v at keeps' (λ _. refl) (among_grown me.0.round w e (after p plan h) me.0 me.0.held);
        there = away_there p plan s r id me.0 v at (same_role me.0 v refl);
        leads = lead_there p plan s r id me.0 v at (same_role me.0 v refl);
        each_seat = seats_stay (SeatHolds p plan h' keeps' r.away r.lead) s.views id v
            record {
              dated = λ l. let d = dated_grows p plan r.fits h e a acting me.0 (seat.dated l) in record { round = d.round; start = d.start };
              role = subst (IsTrueRole p plan h' v.own) (sym actors.own.role) (role_draws p plan r.fits h e a acting w me.0.own actors.own.none_due count (subst (IsTrueRole p plan h me.0.own) actors.own.role seat.role));
              seated = seat.seated;
              spent = λ dead. absurd (true≢false (sym live ∙ dead));
              opening = λ _. (refl, refl);
              notes = λ i x is. note_grows p plan r.fits h e a acting x (seat.notes i x is);
              fresh = fresh_grows p plan r.fits h e a acting r.keeps keeps' me.0.notes (λ _. refl) seat.fresh;
              held = kept_mine me.0 r.keeps id me.0.round w e (after p plan h) me.0.held seat.held;
            }
            (λ j d other is. let k = r.each_seat j d is in
            others_grow p plan r.fits h e a acting r.keeps keeps' r.away r.lead id j d out other (λ _. refl) (kept_others p plan s r id me.0.round w e date count owned inner j d.held other k.held) k);
      }

  drawn_agrees : Agrees (drawing (get_or s.words 0 0) e (after (meaning_in me.0) me.0.plan r.history) me.0) (r.history ++ e ∷ [])
  unfolding drawn
  drawn_agrees = let v : View = drawing (get_or s.words 0 0) e (after (meaning_in me.0) me.0.plan r.history) me.0 in agrees _ id v drawn (seat_there (meaning_in me.0) me.0.plan s r id me.0 v at id refl) live

pub draws_on : (slots id : ℕ) (me : SeatNow) (e : Entry) → IsActors me.0 e → HoldsTouched me.0 e → IsLocalIn me.0 e
    → Allows (TableHolds (meaning_in me.0) me.0.plan) slots id me 0 (λ w. (w + 1) % 2 ^ 64) (λ n new. draws e me n new)
draws_on slots id me e actors touched local s holds deep at small =
    let p : Meaning = meaning_in me.0 in let plan : Plan = me.0.plan in let r : AllHold p plan s = parted p plan s holds in let h : List Entry = r.history in let w : ℕ = get_or s.words 0 0 in let count : w ≡ length h = r.next in
    let is_next = next s me r id e actors touched local at in let there = acts_there p plan h e actors.actor actors.acting is_next in
    let owes = reserve_kept p plan h e actors.actor r.fits r.handlers r.legal is_next actors.acting there in let room = r.room in let few = r.limits.few_entries in
    let one_more : (w + 1) % 18446744073709551616 ≡ w + 1 = omega arith in let v : View = drawing w e (after p plan h) me.0 in (
      v,
      keeps,
      tt,
      subst (λ (x : ℕ). TableHolds p plan record { words = set s.words 0 x; homes = s.homes; views = set s.views id v }) (sym one_more) (whole p plan _ (drawn s me r id e actors touched local at)),
      (record { history = h; before = agrees s id me.0 r at (live s me r id e actors touched local at); at = sym count; below = omega arith; view = refl; now = drawn_agrees s me r id e actors touched local at }, refl),
    )
