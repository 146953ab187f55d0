-- What each read adds to what a seat has read.
use Rattle.std.proofs.Common.{◌≡◌, ℕ, suc, ◌+◌, ◌<◌, ◌≤◌, List, [], ◌∷◌, ◌++◌, length, set, get_or, take, slice_get, Some, sym, ap, ◌∙◌, subst, arith, get_or-set_same, get_or-set_other, slice_index}
use Rattle.std.proofs.lemmas.List.{length_push}
use Rattle.std.proofs.Math.ListN.{get_or-append}
use Rattle.std.proofs.Math.Seq.{get_or-append_seam}
use Rattle.std.proofs.lemmas.Option.{get_or_from_slice_get}
use mathlib.Core.Logic.{dite}
use native.Mathlib.Decide.{ℕ_discrete}
use lib.ListN.{get_elem?}
use Rattle.policy_eval.specs.declared.env.CoreValues.{CoreValues}
use Rattle.policy_eval.specs.Fitting.{CoreFits}
use Rattle.policy_eval.specs.Sights.{no_attributes}
use Rattle.round_model.specs.declared.entry.Entry.{Entry}
use Rattle.round_model.specs.declared.plan.Plan.{Plan}
use Rattle.round_model.specs.declared.state.CountAndLoad.{CountAndLoad}
use Rattle.round_model.specs.Choices.{no_values, values_in}
use Rattle.round_model.specs.Cores.{consts_of}
use Rattle.round_model.specs.Reads.{values_of}
use Rattle.round_model.proofs.Bounded.{bounds_law}
use Rattle.round_model.proofs.Grows.{legal_prefix}
use Rattle.core_table.specs.declared.views.Note.{Note}
use Rattle.core_table.specs.declared.views.View.{View}
use Rattle.core_table.specs.Views.{meaning_in, noted, noting}
use Rattle.core_table.specs.Told.{Agrees, Each}
use Rattle.select_phase.specs.Seen.{AreAll, AreLast, HasMoreNotes, HasRead, IsAmongLast}
use Rattle.select_phase.specs.Glances.{seen_in}

pub one_more : (v v1 v2 : View) (x : Note) → HasMoreNotes v v1 → v2 ≡ noting x v1 → HasMoreNotes v v2
one_more v v1 v2 x m is = record { more = x ∷ m.more; is = is ∙ ap (noting x) m.is }

-- what was read before is still noted
pub read_before : (v w : View) (x : Note) (c at : ℕ) (seen : CountAndLoad) → w ≡ noting x v → HasRead v c at seen → HasRead w c at seen
read_before v w x c at seen is r = record { place = suc r.place; there = ap (λ (u : View). get_elem? u.notes (suc r.place)) is ∙ r.there }

pub read_now : (v w : View) (c at : ℕ) (seen : CountAndLoad) → w ≡ noting (noted c at seen) v → HasRead w c at seen
read_now v w c at seen is = record { place = 0; there = ap (λ (u : View). get_elem? u.notes 0) is }

-- the numbers of a core once it is read
module _ (values : List CoreValues) (k : ℕ) (x : CoreValues) where
  pub seen_before : (c : ℕ) → c < k → values_in (set values k x) c ≡ values_in values c
  seen_before c low = get_or-set_other values k c x no_values (λ e. omega arith)

  pub seen_now : k < length values → values_in (set values k x) k ≡ x
  seen_now inside = get_or-set_same values k x no_values inside

pub read_at : (reads : List ℕ) (c at : ℕ) → c < length reads → slice_index (reads ++ at ∷ []) c ≡ slice_index reads c
read_at reads c at low = get_or-append reads (at ∷ []) 0 c low

pub read_last : (reads : List ℕ) (k at : ℕ) → length reads ≡ k → slice_index (reads ++ at ∷ []) k ≡ at
read_last reads k at count = ap (λ n. get_or (reads ++ at ∷ []) n 0) (sym count) ∙ get_or-append_seam reads at [] 0

pub consts_are : (plan : Plan) (c : ℕ) (consts : List _) → slice_get plan.consts c ≡ Some consts → consts ≡ consts_of plan c
consts_are plan c consts is = sym (get_or_from_slice_get plan.consts c consts no_attributes is)

-- what was read lies in the policy's ranges
pub read_fits : (v : View) (h : List Entry) (c at : ℕ) (seen : CountAndLoad) → c < v.plan.cores → Agrees v h → HasRead v c at seen → CoreFits (meaning_in v) (values_of v.plan c seen)
read_fits v h c at seen low ag r =
    let p = meaning_in v in let note = ag.notes r.place (noted c at seen) r.there in
    let before : List Entry = take at h in let bounds = bounds_law p v.plan before ag.fits ag.handlers (legal_prefix p v.plan h at ag.legal) in
    subst (λ (s : CountAndLoad). CoreFits p (values_of v.plan c s)) (sym note.seen)
    (record { loads = (bounds.bounds.each c low).loads; consts = ag.fits.consts c no_attributes (omega (arith, ag.fits.consts_each)) })

-- one core more is read
pub read_more : (v w : View) (reads longer : List ℕ) (values : List CoreValues) (k at : ℕ) (x : CoreValues) → w ≡ noting (noted k at (record { nr = x.nr; load = x.load })) v → longer ≡ reads ++ at ∷ []
    → length reads ≡ k → k < length values → ((c : ℕ) → c < k → HasRead v c (slice_index reads c) (seen_in values c))
    → (c : ℕ) → c < k + 1 → HasRead w c (slice_index longer c) (seen_in (set values k x) c)
read_more v w reads longer values k at x is pushed count deep before c low = dite (ℕ_discrete c k)
    (λ same.
    let position : slice_index longer c ≡ at = ap (λ (l : List ℕ). slice_index l c) pushed ∙ (ap (λ n. slice_index (reads ++ at ∷ []) n) same ∙ read_last reads k at count) in
    let value : values_in (set values k x) c ≡ x = ap (values_in (set values k x)) same ∙ seen_now values k x deep in
    subst (λ (z : ℕ × ℕ × CoreValues). HasRead w z.0 z.1 (record { nr = z.2.nr; load = z.2.load })) (λ i. (sym same i, sym position i, sym value i))
    (read_now v w k at (record { nr = x.nr; load = x.load }) is))
    (λ other.
    let below : c < k = omega arith in
    let position : slice_index longer c ≡ slice_index reads c = ap (λ (l : List ℕ). slice_index l c) pushed ∙ read_at reads c at (omega arith) in
    subst (λ (z : ℕ × CoreValues). HasRead w c z.0 (record { nr = z.1.nr; load = z.1.load })) (λ i. (sym position i, sym (seen_before values k x c below) i))
    (read_before v w (noted k at (record { nr = x.nr; load = x.load })) c (slice_index reads c) (seen_in values c) is (before c below)))

pub values_more : (plan : Plan) (values : List CoreValues) (k : ℕ) (x : CoreValues) → k < length values → x.consts ≡ consts_of plan k
    → ((c : ℕ) → c < k → values_in values c ≡ values_of plan c (seen_in values c))
    → (c : ℕ) → c < k + 1 → values_in (set values k x) c ≡ values_of plan c (seen_in (set values k x) c)
values_more plan values k x deep consts before c low = dite (ℕ_discrete c k)
    (λ same.
    let value : values_in (set values k x) c ≡ x = ap (values_in (set values k x)) same ∙ seen_now values k x deep in
    let own : x.consts ≡ consts_of plan c = consts ∙ ap (consts_of plan) (sym same) in
    value ∙ ((λ i. record { nr = x.nr; load = x.load; consts = own i }) ∙ (λ i. values_of plan c (record { nr = (sym value i).nr; load = (sym value i).load }))))
    (λ other.
    let below : c < k = omega arith in let value = seen_before values k x c below in
    value ∙ (before c below ∙ (λ i. values_of plan c (record { nr = (sym value i).nr; load = (sym value i).load }))))

-- what stands behind other notes
pub behind : {X : Type 0} (xs ys : List X) (i : ℕ) → get_elem? (xs ++ ys) (length xs + i) ≡ get_elem? ys i
behind [] ys i = ap (get_elem? ys) (let same : 0 + i ≡ i = omega arith in same)
behind (x ∷ xs) ys i = ap (get_elem? (x ∷ xs ++ ys)) (let same : suc (length xs) + i ≡ suc (length xs + i) = omega arith in same) ∙ behind xs ys i

-- and it isn't earlier than what the seat knew of it
pub late_more : (v0 v : View) (reads longer : List ℕ) (k at : ℕ) → longer ≡ reads ++ at ∷ [] → length reads ≡ k → HasMoreNotes v0 v
    → Each (λ (x : Note). x.core < k → x.at ≤ slice_index reads x.core) v0.notes → Each (λ (x : Note). x.core ≡ k → x.at ≤ at) v.notes
    → Each (λ (x : Note). x.core < k + 1 → x.at ≤ slice_index longer x.core) v0.notes
late_more v0 v reads longer k at pushed count m late latest i x there low = dite (ℕ_discrete x.core k)
    (λ same.
    let position : slice_index longer x.core ≡ at = ap (λ (l : List ℕ). slice_index l x.core) pushed ∙ (ap (λ n. slice_index (reads ++ at ∷ []) n) same ∙ read_last reads k at count) in
    let last = latest (length m.more + i) x (ap (λ (u : View). get_elem? u.notes (length m.more + i)) m.is ∙ (behind m.more v0.notes i ∙ there)) same in omega arith)
    (λ other.
    let below : x.core < k = omega arith in
    let position : slice_index longer x.core ≡ slice_index reads x.core = ap (λ (l : List ℕ). slice_index l x.core) pushed ∙ read_at reads x.core at (omega arith) in
    let before = late i x there below in omega arith)

-- each read is told
pub all_more : (v0 v w : View) (x : Note) (reads longer : List ℕ) (at : ℕ) → w ≡ noting x v → longer ≡ reads ++ at ∷ [] → AreAll v0 v reads → AreAll v0 w longer
all_more v0 v w x reads longer at is pushed all =
    ap (λ (u : View). length u.notes) is ∙ (let count : suc (length v.notes) ≡ length longer + length v0.notes = omega (arith, ap length pushed, length_push reads at, all) in count)

-- it is the last one, and those before it stay next to it
pub last_more : (v w : View) (reads longer : List ℕ) (k at : ℕ) (seen : CountAndLoad) → w ≡ noting (noted k at seen) v → longer ≡ reads ++ at ∷ [] → length reads ≡ k → AreLast v reads → AreLast w longer
last_more v w reads longer k at seen is pushed count last c inside = dite (ℕ_discrete c k)
    (λ same.
    let position : slice_index longer c ≡ at = ap (λ (l : List ℕ). slice_index l c) pushed ∙ (ap (λ n. slice_index (reads ++ at ∷ []) n) same ∙ read_last reads k at count) in
    subst (λ (z : ℕ × ℕ). IsAmongLast w (length longer) z.0 z.1) (λ i. (sym same i, sym position i))
    (record { place = 0; newest = omega (arith, inside); seen = seen; there = ap (λ (u : View). get_elem? u.notes 0) is }))
    (λ other.
    let many : length longer ≡ length reads + 1 = ap length pushed ∙ length_push reads at in
    let below : c < length reads = omega (arith, inside, many, count, other) in
    let old = last c below in
    let low : old.place < length reads = old.newest in
    let position : slice_index longer c ≡ slice_index reads c = ap (λ (l : List ℕ). slice_index l c) pushed ∙ read_at reads c at below in
    subst (λ (q : ℕ). IsAmongLast w (length longer) c q) (sym position)
    (record { place = suc old.place; newest = omega (arith, low, many); seen = old.seen; there = ap (λ (u : View). get_elem? u.notes (suc old.place)) is ∙ old.there }))
