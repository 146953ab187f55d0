-- Whether an entry of a core is legal next depends on what the core knows alone: its own entries and the times of the
-- round, the cores that the entry touches, and what its reads saw.
use Rattle.std.proofs.Common.{◌≡◌, ℕ, ◌<◌, nat_lt, ◌&&◌, ◌||◌, eqb, Bool, true, false, cond, List, [], ◌∷◌, length, slice_index, IfSome, IsSomeAnd, IsNone, IsFalse, IsTrue, Option, Some, None, refl, sym, ap, ap₂, subst, ◌∙◌, arith}
use Rattle.std.proofs.lemmas.Bool.Decides.{nat_tests}
use Rattle.policy_tree.specs.Meaning.{Meaning, PlaceTree, here, least}
use Rattle.round_model.specs.declared.entry.Entry.{Entry}
use Rattle.round_model.specs.declared.entry.Entry.TheVariants as entry
use Rattle.round_model.specs.declared.plan.Plan.{Plan}
use Rattle.round_model.specs.declared.plan.Planned.{Planned}
use Rattle.round_model.specs.declared.state.Blocked.{Blocked}
use Rattle.round_model.specs.declared.state.ModelCore.{ModelCore}
use Rattle.round_model.specs.After.{after}
use Rattle.round_model.specs.Attempts.{attempt_of, attempt_on, attempt_with, moves_of, steal_or_fail}
use Rattle.round_model.specs.Choices.{choice_of, target_by, target_of}
use Rattle.round_model.specs.Cores.{Cores}
use Rattle.round_model.specs.Entries.{acting_core, reads_of, touches}
use Rattle.round_model.specs.Legal.{LegalInRound, LegalNext, rounds_begun}
use Rattle.round_model.specs.Local.{IsAsKnown, LocalLaw, is_read_at, needed_of}
use Rattle.round_model.specs.Reads.{ReadsFit, read_values, value_read, values_of}
use Rattle.round_model.specs.Rows.{IsPlacement, LegalAttempt, PlacementReads, Row}
use Rattle.round_model.specs.Scenes.{Scene, entering_next, has_attempted, has_worked, scene_of, waking_next}
use Rattle.round_model.specs.Work.{IsOutcomeOfWork}
use Rattle.round_model.proofs.Outcomes.{choice_same, target_same}

-- an attempt on a core touches both
one_touched : (a v : ℕ) → (eqb a a || eqb v a) ≡ true
one_touched a v = let own : eqb a a ≡ true = grind (arith, nat_tests) in ap (λ b. b || eqb v a) own

other_touched : (a v : ℕ) → (eqb a v || eqb v v) ≡ true
other_touched a v = by_first (eqb a v)
  where
    by_first : (b : Bool) → (b || eqb v v) ≡ true
    by_first true = refl
    by_first false = grind (arith, nat_tests)

touches_pair : (a v : ℕ) (reads moves : List ℕ) (c : ℕ) → (eqb a c || eqb v c) ≡ true → touches c (steal_or_fail a v reads moves) ≡ true
unfolding touches
touches_pair a v reads [] c is = is
touches_pair a v reads (id ∷ ids) c is = is

on_touches : (p : Meaning) (plan : Plan) (m : Cores) (a v : ℕ) (reads : List ℕ) (c : ℕ) → (eqb a c || eqb v c) ≡ true → touches c (attempt_on p plan m a reads v) ≡ true
on_touches p plan m a v reads c is = touches_pair a v reads (moves_of p plan a v p.batch (m a) (m v)) c is

-- and depends on them alone
on_same : (p : Meaning) (plan : Plan) (m k : Cores) (a v : ℕ) (reads : List ℕ) → m a ≡ k a → m v ≡ k v → attempt_on p plan m a reads v ≡ attempt_on p plan k a reads v
on_same p plan m k a v reads = ap₂ (λ (x y : ModelCore). steal_or_fail a v reads (moves_of p plan a v p.batch x y))

-- two moments that are the same for an entry
record AreSame (s t : Scene) (e : Entry) : Type 0 where
  round : s.round ≡ t.round
  start : s.start ≡ t.start
  position : s.position ≡ t.position
  own : s.own ≡ t.own
  cores : (c : ℕ) → touches c e ≡ true → s.cores c ≡ t.cores c
  seen : (c : ℕ) → c < length (reads_of e) → s.seen c (slice_index (reads_of e) c) ≡ t.seen c (slice_index (reads_of e) c)

module _ (p : Meaning) (plan : Plan) (s t : Scene) (e : Entry) (same : AreSame s t e) where
  reads_fit : (reads : List ℕ) → ReadsFit plan.cores t.start t.position reads → ReadsFit plan.cores s.start s.position reads
  reads_fit reads fit =
      subst (λ (at : ℕ). ReadsFit plan.cores s.start at reads) (sym same.position)
      (subst (λ (start : ℕ). ReadsFit plan.cores start t.position reads) (sym same.start) fit)

  entering_same : (a : ℕ) → entering_next plan s.round a s.own ≡ entering_next plan t.round a t.own
  entering_same a = ap₂ (λ (round : ℕ) (own : List Entry). entering_next plan round a own) same.round same.own

  waking_same : (a : ℕ) → touches a e ≡ true → waking_next s.round (s.cores a) ≡ waking_next t.round (t.cores a)
  waking_same a is = ap₂ (λ (round : ℕ) (core : ModelCore). waking_next round core) same.round (same.cores a is)

  values_same : (reads : List ℕ) → reads_of e ≡ reads → length reads ≡ plan.cores → (c : ℕ) → c < plan.cores → read_values plan s.seen reads c ≡ read_values plan t.seen reads c
  values_same reads are count c inside =
      subst (λ (l : List ℕ). c < length l → read_values plan s.seen l c ≡ read_values plan t.seen l c) are
      (λ within. ap (values_of plan c) (same.seen c within)) (omega (arith, count))

  placement_same : (a at : ℕ) (reads : List ℕ) → reads_of e ≡ reads → IsPlacement p plan t a at reads → IsPlacement p plan s a at reads
  unfolding target_of
  placement_same a at reads are old = record { read = read p.place old.read; target = target p.place refl old.read ∙ old.target }
    where
      read : (rule : PlaceTree) → PlacementReads rule plan t reads → PlacementReads rule plan s reads
      read here none = none
      read (least x) fit = reads_fit reads fit

      target : (rule : PlaceTree) → p.place ≡ rule → PlacementReads rule plan t reads → target_of p plan.cores (read_values plan s.seen reads) a ≡ target_of p plan.cores (read_values plan t.seen reads) a
      target here is none =
          ap (λ (r : PlaceTree). target_by r plan.cores (read_values plan s.seen reads) a) is ∙ sym (ap (λ (r : PlaceTree). target_by r plan.cores (read_values plan t.seen reads) a) is)
      target (least x) is fit = target_same p plan.cores (read_values plan s.seen reads) (read_values plan t.seen reads) (values_same reads are fit.one_each) a

  attempt_same : (a : ℕ) (reads : List ℕ) → reads_of e ≡ reads → LegalAttempt p plan t a reads e → LegalAttempt p plan s a reads e
  unfolding attempt_of
  attempt_same a reads are old = record {
    core = old.core;
    worked = subst (λ (own : List Entry). IsTrue (has_worked own)) (sym same.own) old.worked;
    first = subst (λ (own : List Entry). IsFalse (has_attempted own)) (sym same.own) old.first;
    read = reads_fit reads old.read;
    outcome =
        let values = read_values plan t.seen reads in
        let choices = choice_same p plan.cores (read_values plan s.seen reads) values (values_same reads are old.read.one_each) a old.core in
        outcome (choice_of p plan.cores values a) old.outcome ∙ sym (ap (attempt_with p plan s.cores a reads) choices);
  }
    where
      outcome : (chosen : Option ℕ) → e ≡ attempt_with p plan t.cores a reads chosen → e ≡ attempt_with p plan s.cores a reads chosen
      outcome None is = is
      outcome (Some v) is =
          let touched : (c : ℕ) → (eqb a c || eqb v c) ≡ true → touches c e ≡ true =
          λ c of_pair. subst (λ (x : Entry). touches c x ≡ true) (sym is) (on_touches p plan t.cores a v reads c of_pair) in
          is ∙ sym (on_same p plan s.cores t.cores a v reads (same.cores a (touched a (one_touched a v))) (same.cores v (touched v (other_touched a v))))

-- what is legal in the one moment is so in the other
row_same : (p : Meaning) (plan : Plan) (s t : Scene) (e : Entry) → AreSame s t e → Row p plan t e → Row p plan s e
unfolding Row touches
row_same p plan s t (entry.Round number) same none = none
row_same p plan s t (entry.Enter thread a at reads) same old =
    let e = entry.Enter thread a at reads in
    record {
      core = old.core;
      next = subst (λ (o : Option Planned). IsSomeAnd o (λ (x : Planned). x.id ≡ thread)) (sym (entering_same p plan s t e same a)) old.next;
      placement = placement_same p plan s t e same a at reads refl old.placement;
    }
row_same p plan s t (entry.Wake thread a at reads) same old =
    let e = entry.Wake thread a at reads in
    record {
      core = old.core;
      entered = subst IsNone (sym (entering_same p plan s t e same a)) old.entered;
      next = subst (λ (o : Option Blocked). IsSomeAnd o (λ (b : Blocked). b.task.id ≡ thread)) (sym (waking_same p plan s t e same a (one_touched a at))) old.next;
      placement = placement_same p plan s t e same a at reads refl old.placement;
    }
row_same p plan s t (entry.Work a did) same old =
    let e = entry.Work a did in
    let own : eqb a a ≡ true = grind (arith, nat_tests) in
    record {
      core = old.core;
      entered = subst IsNone (sym (entering_same p plan s t e same a)) old.entered;
      woken = subst IsNone (sym (waking_same p plan s t e same a own)) old.woken;
      first = subst (λ (entries : List Entry). IsFalse (has_worked entries)) (sym same.own) old.first;
      outcome = subst (λ (round : ℕ). IsOutcomeOfWork p plan round (s.cores a) did) (sym same.round)
          (subst (λ (core : ModelCore). IsOutcomeOfWork p plan t.round core did) (sym (same.cores a own)) old.outcome);
    }
row_same p plan s t (entry.Steal a from threads reads) same old = attempt_same p plan s t (entry.Steal a from threads reads) same a reads refl old
row_same p plan s t (entry.Fail a from reads) same old = attempt_same p plan s t (entry.Fail a from reads) same a reads refl old
row_same p plan s t (entry.Pass a reads) same old = attempt_same p plan s t (entry.Pass a reads) same a reads refl old

-- what is known where a test passes
known_by : {X : Type 0} (b : Bool) (x : X) → IfSome (cond b (Some x) None) (λ y. x ≡ y)
known_by true x = refl
known_by false x = tt

known_at : {X : Type 0} (b : Bool) (x y : X) → b ≡ true → IfSome (cond b (Some x) None) (λ z. y ≡ z) → y ≡ x
known_at true x y is known = known
known_at false x y is known = absurd (cc)

read_there : (reads : List ℕ) (c : ℕ) → c < length reads → is_read_at reads c (slice_index reads c) ≡ true
read_there reads c inside =
    let first : nat_lt c (length reads) ≡ true = grind (arith, nat_tests, inside) in
    let second : eqb (slice_index reads c) (slice_index reads c) ≡ true = grind (arith, nat_tests) in
    ap₂ (λ (a b : Bool). a && b) first second

module _ (p : Meaning) (plan : Plan) (h : List Entry) (a : ℕ) (begun : 0 < rounds_begun h) where
  scene_known : (e : Entry) → IsAsKnown (needed_of p plan h a e) (scene_of p plan h a)
  unfolding scene_of
  scene_known e = record {
    round = refl;
    start = refl;
    position = refl;
    own = refl;
    cores = λ c. known_by (touches c e) (after p plan h c);
    seen = λ c k. known_by (is_read_at (reads_of e) c k) (value_read p plan h c k);
  }

  known_same : (e : Entry) (s : Scene) → IsAsKnown (needed_of p plan h a e) s → AreSame s (scene_of p plan h a) e
  unfolding scene_of
  known_same e s known = record {
    round = known.round;
    start = known.start;
    position = known.position;
    own = known.own;
    cores = λ c is. known_at (touches c e) (after p plan h c) (s.cores c) is (known.cores c);
    seen = λ c inside. let k = slice_index (reads_of e) c in
        known_at (is_read_at (reads_of e) c k) (value_read p plan h c k) (s.seen c k) (read_there (reads_of e) c inside) (known.seen c k);
  }

  row_of : (e : Entry) → acting_core e ≡ Some a → LegalNext p plan h e → Row p plan (scene_of p plan h a) e
  unfolding LegalNext
  row_of (entry.Round number) acting next = absurd (cc)
  row_of (entry.Enter thread by at reads) acting next = let own : by ≡ a = cc in subst (λ (c : ℕ). Row p plan (scene_of p plan h c) (entry.Enter thread by at reads)) own next.row
  row_of (entry.Wake thread by at reads) acting next = let own : by ≡ a = cc in subst (λ (c : ℕ). Row p plan (scene_of p plan h c) (entry.Wake thread by at reads)) own next.row
  row_of (entry.Work by did) acting next = let own : by ≡ a = cc in subst (λ (c : ℕ). Row p plan (scene_of p plan h c) (entry.Work by did)) own next.row
  row_of (entry.Steal by from threads reads) acting next = let own : by ≡ a = cc in subst (λ (c : ℕ). Row p plan (scene_of p plan h c) (entry.Steal by from threads reads)) own next.row
  row_of (entry.Fail by from reads) acting next = let own : by ≡ a = cc in subst (λ (c : ℕ). Row p plan (scene_of p plan h c) (entry.Fail by from reads)) own next.row
  row_of (entry.Pass by reads) acting next = let own : by ≡ a = cc in subst (λ (c : ℕ). Row p plan (scene_of p plan h c) (entry.Pass by reads)) own next.row

  in_round : (e : Entry) (by : ℕ) → a ≡ by → Row p plan (scene_of p plan h a) e → LegalInRound p plan h by e
  in_round e by own row = record { begun = begun; row = subst (λ (c : ℕ). Row p plan (scene_of p plan h c) e) own row }

  -- a legal entry of the acting core in an open round
  pub next_of : (e : Entry) → acting_core e ≡ Some a → Row p plan (scene_of p plan h a) e → LegalNext p plan h e
  unfolding LegalNext
  next_of (entry.Round number) acting row = absurd (cc)
  next_of (entry.Enter thread by at reads) acting row = in_round (entry.Enter thread by at reads) by (let own : a ≡ by = cc in own) row
  next_of (entry.Wake thread by at reads) acting row = in_round (entry.Wake thread by at reads) by (let own : a ≡ by = cc in own) row
  next_of (entry.Work by did) acting row = in_round (entry.Work by did) by (let own : a ≡ by = cc in own) row
  next_of (entry.Steal by from threads reads) acting row = in_round (entry.Steal by from threads reads) by (let own : a ≡ by = cc in own) row
  next_of (entry.Fail by from reads) acting row = in_round (entry.Fail by from reads) by (let own : a ≡ by = cc in own) row
  next_of (entry.Pass by reads) acting row = in_round (entry.Pass by reads) by (let own : a ≡ by = cc in own) row

pub local_law : LocalLaw
local_law p plan h e a begun acting = (
  λ next s known. row_same p plan s (scene_of p plan h a) e (known_same p plan h a begun e s known) (row_of p plan h a begun e acting next),
  λ is_local. next_of p plan h a begun e acting (is_local (scene_of p plan h a) (scene_known p plan h a begun e)),
)
