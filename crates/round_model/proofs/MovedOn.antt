-- The cores after some moves: with one more of them, in front or at the end, and what is seen of them.
use Rattle.std.proofs.Common.{◌≡◌, ℕ, ◌+◌, ◌-◌, List, [], ◌∷◌, ◌++◌, find, length, sum_by, option_to_list, Option, Some, refl, sym, ap, ap₂, ◌∙◌, arith}
use Rattle.std.proofs.lemmas.List.{append-nil, append_assoc, length-append}
use Rattle.std.proofs.lemmas.List.Sums.{sum_by-append, sum_by-cons}
use Rattle.sched_base.specs.declared.task.Task.{Task}
use Rattle.policy_eval.specs.declared.env.CoreValues.{CoreValues}
use Rattle.round_model.specs.declared.plan.Plan.{Plan}
use Rattle.round_model.specs.declared.state.ModelCore.{ModelCore}
use Rattle.round_model.specs.Batches.{with_fewer, with_more}
use Rattle.round_model.specs.Cores.{load_of, seen_of, thread_count}
use Rattle.round_model.specs.Moves.{handed, handed_all, is_task, queued_of, received, received_all, taken_from, without_first}
use Rattle.round_model.specs.Reads.{values_of}
use Rattle.round_model.proofs.Takings.{found-more, left-more, length-taken, sum-taken}

-- a thread more in front
pub come_cons : (t : Task) (ids : List ℕ) (thief victim : ModelCore) → queued_of t.id victim ≡ Some t
    → received_all (taken_from (t.id ∷ ids) victim.queue).found thief ≡ received_all (taken_from ids (handed t.id victim).queue).found (received t thief)
unfolding received_all received handed
come_cons t ids thief victim queued =
    let rest = (taken_from ids (without_first (is_task t.id) victim.queue)).found in
    ap (λ (queue : List Task). let core : ModelCore = record thief { queue = queue } in core)
    (ap (λ (o : Option Task). thief.queue ++ (option_to_list o ++ rest)) queued ∙ sym (append_assoc thief.queue (t ∷ []) rest))

pub left_cons : (id : ℕ) (ids : List ℕ) (victim : ModelCore) → handed_all (id ∷ ids) victim ≡ handed_all ids (handed id victim)
unfolding handed_all handed
left_cons id ids victim = refl

pub none_come : (thief : ModelCore) → received_all [] thief ≡ thief
unfolding received_all
none_come thief = ap (λ (queue : List Task). let core : ModelCore = record thief { queue = queue } in core) (append-nil thief.queue)

pub none_leave : (victim : ModelCore) → handed_all [] victim ≡ victim
unfolding handed_all
none_leave victim = refl

-- a thread more at the end
pub come_more : (ids : List ℕ) (t : Task) (thief victim : ModelCore) → find (is_task t.id) (taken_from ids victim.queue).left ≡ Some t
    → received t (received_all (taken_from ids victim.queue).found thief) ≡ received_all (taken_from (ids ++ t.id ∷ []) victim.queue).found thief
unfolding received received_all
come_more ids t thief victim found =
    let tasks = (taken_from ids victim.queue).found in
    ap (λ (queue : List Task). let core : ModelCore = record thief { queue = queue } in core)
    (append_assoc thief.queue tasks (t ∷ [])
    ∙ ap (λ (list : List Task). thief.queue ++ list)
    (sym (found-more ids t.id victim.queue ∙ ap (λ (o : Option Task). tasks ++ option_to_list o) found)))

pub leave_more : (ids : List ℕ) (id : ℕ) (victim : ModelCore) → handed id (handed_all ids victim) ≡ handed_all (ids ++ id ∷ []) victim
unfolding handed handed_all
leave_more ids id victim =
    ap (λ (queue : List Task). let core : ModelCore = record victim { queue = queue } in core) (sym (left-more ids id victim.queue))

-- the first thread
pub come_one : (t : Task) (thief victim : ModelCore) → queued_of t.id victim ≡ Some t → received t thief ≡ received_all (taken_from (t.id ∷ []) victim.queue).found thief
come_one t thief victim queued = ap (received t) (sym (none_come thief)) ∙ come_more [] t thief victim queued

pub leave_one : (id : ℕ) (victim : ModelCore) → handed id victim ≡ handed_all (id ∷ []) victim
leave_one id victim = ap (handed id) (sym (none_leave victim)) ∙ leave_more [] id victim

pub queue_left : (ids : List ℕ) (victim : ModelCore) → (handed_all ids victim).queue ≡ (taken_from ids victim.queue).left
unfolding handed_all
queue_left ids victim = refl

-- how many the moves found, and their load
abbrev pub found_count : List ℕ → ModelCore → ℕ
found_count ids victim = length (taken_from ids victim.queue).found

abbrev pub found_load : List ℕ → ModelCore → ℕ
found_load ids victim = sum_by (λ (t : Task). t.weight) (taken_from ids victim.queue).found

module _ (ids : List ℕ) (t : Task) (victim : ModelCore) (found : find (is_task t.id) (taken_from ids victim.queue).left ≡ Some t) where
  more : (taken_from (ids ++ t.id ∷ []) victim.queue).found ≡ (taken_from ids victim.queue).found ++ t ∷ []
  more = found-more ids t.id victim.queue ∙ ap (λ (o : Option Task). (taken_from ids victim.queue).found ++ option_to_list o) found

  pub found_count-more : found_count (ids ++ t.id ∷ []) victim ≡ found_count ids victim + 1
  found_count-more = ap (λ (list : List Task). length list) more ∙ length-append (taken_from ids victim.queue).found (t ∷ [])

  pub found_load-more : found_load (ids ++ t.id ∷ []) victim ≡ found_load ids victim + t.weight
  found_load-more =
      let weight : Task → ℕ = λ x. x.weight in let tasks = (taken_from ids victim.queue).found in
      let none : sum_by weight [] ≡ 0 = refl in
      ap (sum_by weight) more ∙ omega (arith, sum_by-append weight tasks (t ∷ []), sum_by-cons weight t [], none)

-- count and load of the cores after the moves
thief_count : (ids : List ℕ) (thief victim : ModelCore) → thread_count (received_all (taken_from ids victim.queue).found thief) ≡ thread_count thief + found_count ids victim
unfolding received_all
thief_count ids thief victim =
    let front = option_to_list thief.current in let back = (taken_from ids victim.queue).found in
    omega (arith, length-append front (thief.queue ++ back), length-append thief.queue back, length-append front thief.queue)

thief_load : (ids : List ℕ) (thief victim : ModelCore) → load_of (received_all (taken_from ids victim.queue).found thief) ≡ load_of thief + found_load ids victim
unfolding received_all
thief_load ids thief victim =
    let weight : Task → ℕ = λ t. t.weight in
    let front = option_to_list thief.current in let back = (taken_from ids victim.queue).found in
    omega (arith, sum_by-append weight front (thief.queue ++ back), sum_by-append weight thief.queue back, sum_by-append weight front thief.queue)

victim_count : (ids : List ℕ) (victim : ModelCore) → thread_count (handed_all ids victim) + found_count ids victim ≡ thread_count victim
unfolding handed_all
victim_count ids victim =
    let front = option_to_list victim.current in
    omega (arith, length-append front (taken_from ids victim.queue).left, length-append front victim.queue, length-taken ids victim.queue)

victim_load : (ids : List ℕ) (victim : ModelCore) → load_of (handed_all ids victim) + found_load ids victim ≡ load_of victim
unfolding handed_all
victim_load ids victim =
    let weight : Task → ℕ = λ t. t.weight in
    let front = option_to_list victim.current in
    omega (arith, sum_by-append weight front (taken_from ids victim.queue).left, sum_by-append weight front victim.queue, sum-taken weight ids victim.queue)

-- what is seen of a core by its count and load
seen_as : (plan : Plan) (c : ℕ) (core : ModelCore) (own : CoreValues) (nr load : ℕ) → own.consts ≡ (values_of plan c (seen_of core)).consts → nr ≡ thread_count core → load ≡ load_of core
    → (let values : CoreValues = record own { nr = nr; load = load } in values) ≡ values_of plan c (seen_of core)
seen_as plan c core own nr load consts count weight =
    ap (λ k. let values : CoreValues = record { nr = nr; load = load; consts = k } in values) consts
    ∙ ap₂ (λ n l. let values : CoreValues = record { nr = n; load = l; consts = (values_of plan c (seen_of core)).consts } in values) count weight

-- what is seen of the cores after the moves
pub more_seen_is : (ids : List ℕ) (thief victim : ModelCore) (plan : Plan) (a : ℕ) (own : CoreValues) (count load : ℕ) → own ≡ values_of plan a (seen_of thief)
    → count ≡ found_count ids victim → load ≡ found_load ids victim
    → with_more count load own ≡ values_of plan a (seen_of (received_all (taken_from ids victim.queue).found thief))
more_seen_is ids thief victim plan a own count load is counted weighed =
    let nr = ap (λ (v : CoreValues). v.nr) is in let weight = ap (λ (v : CoreValues). v.load) is in
    seen_as plan a (received_all (taken_from ids victim.queue).found thief) own (own.nr + count) (own.load + load) (ap (λ (v : CoreValues). v.consts) is)
    (omega (arith, nr, counted, thief_count ids thief victim)) (omega (arith, weight, weighed, thief_load ids thief victim))

pub fewer_seen_is : (ids : List ℕ) (victim : ModelCore) (plan : Plan) (v : ℕ) (other : CoreValues) (count load : ℕ) → other ≡ values_of plan v (seen_of victim)
    → count ≡ found_count ids victim → load ≡ found_load ids victim
    → with_fewer count load other ≡ values_of plan v (seen_of (handed_all ids victim))
fewer_seen_is ids victim plan v other count load is counted weighed =
    let nr = ap (λ (x : CoreValues). x.nr) is in let weight = ap (λ (x : CoreValues). x.load) is in
    seen_as plan v (handed_all ids victim) other (other.nr - count) (other.load - load) (ap (λ (x : CoreValues). x.consts) is)
    (omega (arith, nr, counted, victim_count ids victim)) (omega (arith, weight, weighed, victim_load ids victim))
