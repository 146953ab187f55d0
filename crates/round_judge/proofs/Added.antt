-- A past with an entry of one core more stands for the history with it.
use Rattle.std.proofs.Common.{◌≡◌, ◌≢◌, eqb, map, get_or-set_same, get_or-set_other, ℕ, ◌+◌, ◌<◌, ◌||◌, ◌&&◌, Bool, true, false, cond, List, [], ◌∷◌, ◌++◌, length, slice_set, get_or, All, Some, refl, sym, ap, ap₂, subst, ◌∙◌, arith}
use Rattle.std.specs.List.{list_any}
use Rattle.std.proofs.Math.ListN.{length-set}
use Rattle.std.proofs.lemmas.Bool.Decides.{nat_tests}
use Rattle.std.proofs.lemmas.List.{length-append}
use Rattle.std.proofs.lemmas.List.FromFn.{fill_by_all, get_or-map-range_with_len, length-map-range_with_len}
use Rattle.std.proofs.lemmas.List.Folds.{list_any-append}
use Rattle.policy_tree.specs.Meaning.{Meaning}
use Rattle.round_model.specs.declared.entry.Did.{Did}
use Rattle.round_model.specs.declared.entry.Did.TheVariants as did
use Rattle.round_model.specs.declared.entry.Entry.{Entry}
use Rattle.round_model.specs.declared.entry.Entry.TheVariants as entry
use Rattle.round_model.specs.declared.plan.Plan.{Plan}
use Rattle.round_model.specs.declared.plan.Planned.{Planned}
use Rattle.round_model.specs.Fits.{Fits}
use Rattle.round_model.specs.After.{after, moved, round_of}
use Rattle.round_model.specs.Cores.{core_numbers, listed}
use Rattle.round_model.specs.Entries.{acting_core, acts, ends, is_ended}
use Rattle.round_model.specs.Kinds.{is_attempt, is_round, is_work}
use Rattle.round_model.specs.Legal.{LegalNext, has_ended, rounds_begun}
use Rattle.round_model.specs.Scenes.{own_entries}
use Rattle.round_model.specs.Fitting.{MayBeSaid}
use Rattle.round_model.proofs.Grows.{one_more}
use Rattle.round_model.proofs.Keeping.{some_at}
use Rattle.round_model.proofs.Longer.{begun_more, done_more, own_more, round_of_more}
use Rattle.round_judge.specs.declared.past.Past.{Past}
use Rattle.round_judge.specs.declared.past.Turn.{Turn}
use Rattle.round_judge.specs.Past.{IsPastOf, StandsFor, is_flagged, turn_of}
use Rattle.round_judge.specs.Additions.{IsAdded, ended_after, ended_by, turn_after}
use Rattle.round_model.proofs.Acting.{acts_is, legal_said, no_round, or_nothing, round_stays}

-- how far a core has come, with one entry more of some core
pub turn_more : (h : List Entry) (e : Entry) (a : ℕ) → is_round e ≡ false
    → turn_of (h ++ e ∷ []) a ≡ record { worked = (turn_of h a).worked || (acts a e && is_work e); attempted = (turn_of h a).attempted || (acts a e && is_attempt e) }
turn_more h e a is =
    ap turn_with (own_more h e a is)
    ∙ ap₂ (λ (worked attempted : Bool). turn worked attempted) (done_more is_work (own_entries h a) e a) (done_more is_attempt (own_entries h a) e a)
  where
    turn : Bool → Bool → Turn
    turn worked attempted = record { worked = worked; attempted = attempted }

    turn_with : List Entry → Turn
    turn_with own = record { worked = list_any is_work own; attempted = list_any is_attempt own }

module _ (p : Meaning) (plan : Plan) (old new : Past) (h : List Entry) (e : Entry) (by : ℕ) where
  pub state_added : acting_core e ≡ Some by → StandsFor p plan old h → LegalNext p plan h e → IsAdded p plan by e old new → new.state ≡ listed plan.cores (after p plan (h ++ e ∷ []))
  state_added acting stands legal added =
      let said = subst (λ (r : ℕ). MayBeSaid p plan r (after p plan h) e) (sym stands.round) (legal_said p plan h e legal) in
      added.state (after p plan h) stands.state said
      ∙ (ap (λ (r : ℕ). listed plan.cores (moved p plan r e (after p plan h))) stands.round ∙ ap (listed plan.cores) (sym (one_more p plan h e)))

  pub counts_added : acting_core e ≡ Some by → StandsFor p plan old h → IsAdded p plan by e old new
      → (new.entries ≡ length (h ++ e ∷ [])) × (new.rounds ≡ rounds_begun (h ++ e ∷ [])) × (new.rounds ≡ round_of (h ++ e ∷ []))
  counts_added acting stands added = (
    added.entries ∙ (ap (λ (n : ℕ). n + 1) stands.entries ∙ sym (length-append h (e ∷ []))),
    added.rounds ∙ (stands.rounds ∙ (sym (ap (λ b. rounds_begun h + cond b 1 0) (no_round e by acting) ∙ omega arith) ∙ sym (begun_more h e))),
    added.rounds ∙ (stands.round ∙ (sym (round_stays e by (round_of h) acting) ∙ sym (round_of_more h e))),
  )

turn_other : (h : List Entry) (e : Entry) (a : ℕ) → is_round e ≡ false → acts a e ≡ false → turn_of (h ++ e ∷ []) a ≡ turn_of h a
turn_other h e a is other =
    turn_more h e a is
    ∙ (ap (λ (b : Bool). turn ((turn_of h a).worked || (b && is_work e)) ((turn_of h a).attempted || (b && is_attempt e))) other
    ∙ ap₂ turn (or_nothing (turn_of h a).worked) (or_nothing (turn_of h a).attempted))
  where
    turn : Bool → Bool → Turn
    turn worked attempted = record { worked = worked; attempted = attempted }

turn_own : (h : List Entry) (e : Entry) (a : ℕ) → is_round e ≡ false → acts a e ≡ true → turn_of (h ++ e ∷ []) a ≡ turn_after e (turn_of h a)
turn_own h e a is own =
    turn_more h e a is ∙ ap (λ (b : Bool). turn ((turn_of h a).worked || (b && is_work e)) ((turn_of h a).attempted || (b && is_attempt e))) own
  where
    turn : Bool → Bool → Turn
    turn worked attempted = record { worked = worked; attempted = attempted }

pub turns_added : (p : Meaning) (plan : Plan) (old new : Past) (h : List Entry) (e : Entry) (by : ℕ) → acting_core e ≡ Some by → by < plan.cores → StandsFor p plan old h → IsAdded p plan by e old new
    → new.turns ≡ map (turn_of (h ++ e ∷ [])) (core_numbers plan)
turns_added p plan old new h e by acting there stands added =
    let d = turn_of h by in
    let long : length old.turns ≡ plan.cores = ap length stands.turns ∙ length-map-range_with_len (turn_of h) 0 plan.cores in
    let at : (k : ℕ) → k < plan.cores → get_or old.turns k d ≡ turn_of h k =
    λ k inside. ap (λ (turns : List Turn). get_or turns k d) stands.turns ∙ get_or-map-range_with_len (turn_of h) 0 plan.cores k k d inside (omega arith) in
    let is = some_at old.turns by d (omega arith) ∙ ap Some (at by there) in
    let now = added.turns (turn_of h by) is in
    let no = no_round e by acting in
    fill_by_all (turn_of (h ++ e ∷ [])) new.turns plan.cores d (ap length now ∙ (length-set old.turns by (turn_after e (turn_of h by)) ∙ long)) (λ k inside.
    ap (λ (turns : List Turn). get_or turns k d) now
    ∙ elim (eqb by k) as (λ b. eqb by k ≡ b → get_or (slice_set old.turns by (turn_after e (turn_of h by))) k d ≡ turn_of (h ++ e ∷ []) k) [
      | true ↦ λ same. let one : by ≡ k = grind (arith, nat_tests) in
          subst (λ (j : ℕ). get_or (slice_set old.turns by (turn_after e (turn_of h by))) j d ≡ turn_of (h ++ e ∷ []) j) one
          (get_or-set_same old.turns by (turn_after e (turn_of h by)) d (omega arith) ∙ sym (turn_own h e by no (acts_is e by by acting ∙ (ap (eqb by) one ∙ same))))
      | false ↦ λ apart. let other : k ≢ by = grind (arith, nat_tests) in
          get_or-set_other old.turns by k (turn_after e (turn_of h by)) d other ∙ (at k inside ∙ sym (turn_other h e k no (acts_is e by k acting ∙ apart)))
    ] refl)

or_one : (b : Bool) → (b || true) ≡ true
or_one true = refl
or_one false = refl

pub flag_set : (flags : List Bool) (thread id : ℕ) → id < length flags → is_flagged (slice_set flags thread true) id ≡ (is_flagged flags id || eqb thread id)
flag_set flags thread id inside =
    elim (eqb thread id) as (λ b. eqb thread id ≡ b → is_flagged (slice_set flags thread true) id ≡ (is_flagged flags id || b)) [
      | true ↦ λ same. let one : thread ≡ id = grind (arith, nat_tests) in
          subst (λ (j : ℕ). is_flagged (slice_set flags thread true) j ≡ (is_flagged flags j || true)) one (get_or-set_same flags thread true false (omega arith) ∙ sym (or_one (is_flagged flags thread)))
      | false ↦ λ apart. let other : id ≢ thread = grind (arith, nat_tests) in get_or-set_other flags thread id true false other ∙ sym (or_nothing (is_flagged flags id))
    ] refl

pub flag_by : (what : Did) (flags : List Bool) (id : ℕ) → id < length flags → is_flagged (ended_by what flags) id ≡ (is_flagged flags id || is_ended id what)
flag_by did.Nothing flags id inside = sym (or_nothing (is_flagged flags id))
flag_by (did.Kept thread) flags id inside = sym (or_nothing (is_flagged flags id))
flag_by (did.Queued thread) flags id inside = sym (or_nothing (is_flagged flags id))
flag_by (did.Blocked thread) flags id inside = sym (or_nothing (is_flagged flags id))
flag_by (did.Ended thread) flags id inside = flag_set flags thread id inside

pub flag_after : (e : Entry) (flags : List Bool) (id : ℕ) → id < length flags → is_flagged (ended_after e flags) id ≡ (is_flagged flags id || ends id e)
flag_after (entry.Round number) flags id inside = sym (or_nothing (is_flagged flags id))
flag_after (entry.Enter thread a at reads) flags id inside = sym (or_nothing (is_flagged flags id))
flag_after (entry.Wake thread a at reads) flags id inside = sym (or_nothing (is_flagged flags id))
flag_after (entry.Work a what) flags id inside = flag_by what flags id inside
flag_after (entry.Steal a from threads reads) flags id inside = sym (or_nothing (is_flagged flags id))
flag_after (entry.Fail a from reads) flags id inside = sym (or_nothing (is_flagged flags id))
flag_after (entry.Pass a reads) flags id inside = sym (or_nothing (is_flagged flags id))

pub ended_added : (p : Meaning) (plan : Plan) (old new : Past) (h : List Entry) (e : Entry) (by : ℕ) → Fits p plan → IsPastOf p plan old → StandsFor p plan old h → IsAdded p plan by e old new
    → All (λ (t : Planned). is_flagged new.ended t.id ≡ has_ended (h ++ e ∷ []) t) plan.threads
ended_added p plan old new h e by fits belongs stands added k d inside =
    let t = get_or plan.threads k d in
    let small = (fits.threads k d inside).id_small in
    ap (λ (flags : List Bool). is_flagged flags t.id) added.ended
    ∙ (flag_after e old.ended t.id (omega (arith, belongs.ended))
    ∙ (ap (λ (b : Bool). b || ends t.id e) (stands.ended k d inside)
    ∙ sym (list_any-append (ends t.id) h (e ∷ []) ∙ ap (λ (b : Bool). has_ended h t || b) (or_nothing (ends t.id e)))))
