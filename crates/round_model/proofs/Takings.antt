-- What a list of numbers takes from a queue: what was found and what is left are the queue together.
use Rattle.std.proofs.Common.{◌≡◌, ◌≢◌, ℕ, suc, ◌+◌, ◌≤◌, Bool, true, false, cond, List, [], ◌∷◌, ◌++◌, find, length, sum_by, option_to_list, All, IfSome, Option, Some, None, refl, sym, ap, ◌∙◌, arith}
use Rattle.std.proofs.lemmas.List.{append-nil, append_assoc, length-append}
use Rattle.std.proofs.lemmas.List.Sums.{sum_by-append, sum_by-cons}
use Rattle.sched_base.specs.declared.task.Task.{Task}
use Rattle.policy_tree.specs.Meaning.{Meaning}
use Rattle.policy_eval.specs.Fitting.{IsTask}
use Rattle.round_model.specs.declared.entry.Entry.TheVariants as entry
use Rattle.round_model.specs.declared.plan.Plan.{Plan}
use Rattle.round_model.specs.declared.state.ModelCore.{ModelCore}
use Rattle.round_model.specs.After.{moved}
use Rattle.round_model.specs.Cores.{Cores}
use Rattle.round_model.specs.Kept.{Holds}
use Rattle.round_model.specs.Updates.{updated}
use Rattle.round_model.specs.Moves.{handed, handed_all, is_task, queued_of, received, received_all, taken_from, without_first}
use Rattle.round_model.proofs.Finding.{find-All}
use Rattle.round_model.proofs.Keeping.{All-append, All-one, All-without}
use Rattle.round_model.proofs.Moved.{moved_steal}

-- what is found and what is left without it are the list together, by any measure
sum-found : {X : Type 0} (f : X → ℕ) (test : X → Bool) (xs : List X)
    → sum_by f (option_to_list (find test xs)) + sum_by f (without_first test xs) ≡ sum_by f xs
sum-found f test [] = refl
sum-found f test (x ∷ xs) = at (sum-found f test xs) (test x)
  where
    at : sum_by f (option_to_list (find test xs)) + sum_by f (without_first test xs) ≡ sum_by f xs
        → (b : Bool) → sum_by f (option_to_list (cond b (Some x) (find test xs))) + sum_by f (cond b xs (x ∷ without_first test xs)) ≡ sum_by f (x ∷ xs)
    at rest true =
        let none : sum_by f [] ≡ 0 = refl in
        let e : sum_by f (x ∷ []) + sum_by f xs ≡ sum_by f (x ∷ xs) = omega (arith, sum_by-cons f x [], sum_by-cons f x xs, none) in e
    at rest false =
        let e : sum_by f (option_to_list (find test xs)) + sum_by f (x ∷ without_first test xs) ≡ sum_by f (x ∷ xs) =
        omega (arith, sum_by-cons f x (without_first test xs), sum_by-cons f x xs, rest) in e

length-found : {X : Type 0} (test : X → Bool) (xs : List X)
    → length (option_to_list (find test xs)) + length (without_first test xs) ≡ length xs
length-found test [] = refl
length-found test (x ∷ xs) = at (length-found test xs) (test x)
  where
    at : length (option_to_list (find test xs)) + length (without_first test xs) ≡ length xs → (b : Bool)
        → length (option_to_list (cond b (Some x) (find test xs))) + length (cond b xs (x ∷ without_first test xs)) ≡ suc (length xs)
    at rest true = let e : 1 + length xs ≡ suc (length xs) = omega arith in e
    at rest false =
        let e : length (option_to_list (find test xs)) + suc (length (without_first test xs)) ≡ suc (length xs) = omega (arith, rest) in e

pub sum-taken : (f : Task → ℕ) (ids : List ℕ) (queue : List Task)
    → sum_by f (taken_from ids queue).found + sum_by f (taken_from ids queue).left ≡ sum_by f queue
sum-taken f [] queue =
    let none : sum_by f [] ≡ 0 = refl in let e : sum_by f [] + sum_by f queue ≡ sum_by f queue = omega (arith, none) in e
sum-taken f (id ∷ ids) queue =
    let one = sum-found f (is_task id) queue in let rest = sum-taken f ids (without_first (is_task id) queue) in
    let both = sum_by-append f (option_to_list (find (is_task id) queue)) (taken_from ids (without_first (is_task id) queue)).found in
    omega (arith, one, rest, both)

pub length-taken : (ids : List ℕ) (queue : List Task)
    → length (taken_from ids queue).found + length (taken_from ids queue).left ≡ length queue
length-taken [] queue = let e : 0 + length queue ≡ length queue = omega arith in e
length-taken (id ∷ ids) queue =
    let one = length-found (is_task id) queue in let rest = length-taken ids (without_first (is_task id) queue) in
    let both = length-append (option_to_list (find (is_task id) queue)) (taken_from ids (without_first (is_task id) queue)).found in
    omega (arith, one, rest, both)

one_at_most : {X : Type 0} (o : Option X) → length (option_to_list o) ≤ 1
one_at_most None = omega arith
one_at_most (Some x) = omega arith

-- no more are found than are named
pub few-found : (ids : List ℕ) (queue : List Task) → length (taken_from ids queue).found ≤ length ids
few-found [] queue = omega arith
few-found (id ∷ ids) queue =
    let one = one_at_most (find (is_task id) queue) in let rest = few-found ids (without_first (is_task id) queue) in
    let both = length-append (option_to_list (find (is_task id) queue)) (taken_from ids (without_first (is_task id) queue)).found in
    omega (arith, one, rest, both)

-- what holds of each queued task holds of those that are found and of those that are left
All-option : {X : Type 0} (P : X → Type 0) (o : Option X) → IfSome o P → All P (option_to_list o)
All-option P None is = λ k d inside. absurd (omega arith)
All-option P (Some x) is = All-one P x is

pub All-found : (P : Task → Type 0) (ids : List ℕ) (queue : List Task) → All P queue → All P (taken_from ids queue).found
All-found P [] queue each = λ k d inside. absurd (omega arith)
All-found P (id ∷ ids) queue each =
    All-append P (option_to_list (find (is_task id) queue)) (taken_from ids (without_first (is_task id) queue)).found
    (All-option P (find (is_task id) queue) (find-All (is_task id) P queue each))
    (All-found P ids (without_first (is_task id) queue) (All-without P (is_task id) queue each))

pub All-left : (P : Task → Type 0) (ids : List ℕ) (queue : List Task) → All P queue → All P (taken_from ids queue).left
All-left P [] queue each = each
All-left P (id ∷ ids) queue each = All-left P ids (without_first (is_task id) queue) (All-without P (is_task id) queue each)

-- one number more at the end
pub left-more : (ids : List ℕ) (id : ℕ) (queue : List Task)
    → (taken_from (ids ++ id ∷ []) queue).left ≡ without_first (is_task id) (taken_from ids queue).left
left-more [] id queue = refl
left-more (i ∷ ids) id queue = left-more ids id (without_first (is_task i) queue)

pub found-more : (ids : List ℕ) (id : ℕ) (queue : List Task)
    → (taken_from (ids ++ id ∷ []) queue).found ≡ (taken_from ids queue).found ++ option_to_list (find (is_task id) (taken_from ids queue).left)
found-more [] id queue = append-nil (option_to_list (find (is_task id) queue))
found-more (i ∷ ids) id queue =
    let first = option_to_list (find (is_task i) queue) in let others = without_first (is_task i) queue in
    ap (λ (rest : List Task). first ++ rest) (found-more ids id others)
    ∙ sym (append_assoc first (taken_from ids others).found (option_to_list (find (is_task id) (taken_from ids others).left)))

-- one number alone
pub one_handed : (id : ℕ) (core : ModelCore) → handed_all (id ∷ []) core ≡ handed id core
unfolding handed handed_all
one_handed id core = refl

pub one_received : (t : Task) (core : ModelCore) → received_all (t ∷ []) core ≡ received t core
unfolding received received_all
one_received t core = refl

pub one_found : (id : ℕ) (t : Task) (core : ModelCore) → queued_of id core ≡ Some t → (taken_from (id ∷ []) core.queue).found ≡ t ∷ []
one_found id t core is = ap (λ (o : Option Task). option_to_list o ++ []) is

-- the core that is left, and the one that they come to
pub holds_left : (p : Meaning) (ids : List ℕ) (core : ModelCore) → Holds p core → Holds p (handed_all ids core)
unfolding handed_all
holds_left p ids core holds = record { current = holds.current; queue = All-left (IsTask p) ids core.queue holds.queue; blocked = holds.blocked; consts = holds.consts }

pub holds_come : (p : Meaning) (tasks : List Task) (core : ModelCore) → Holds p core → All (IsTask p) tasks → Holds p (received_all tasks core)
unfolding received_all
holds_come p tasks core holds fits = record { current = holds.current; queue = All-append (IsTask p) core.queue tasks holds.queue fits; blocked = holds.blocked; consts = holds.consts }

-- a steal of one thread that is queued, as changes of one core after the other
pub moved_one : (p : Meaning) (plan : Plan) (round : ℕ) (m : Cores) (by from thread : ℕ) (reads : List ℕ) (t : Task) → queued_of thread (m from) ≡ Some t → by ≢ from → (c : ℕ)
    → updated (updated m by (received t (m by))) from (handed thread (m from)) c ≡ moved p plan round (entry.Steal by from (thread ∷ []) reads) m c
moved_one p plan round m by from thread reads t is apart c =
    ap (λ (x : ModelCore). updated (updated m by x) from (handed thread (m from)) c)
    (sym (ap (λ (found : List Task). received_all found (m by)) (one_found thread t (m from) is) ∙ one_received t (m by)))
    ∙ (ap (λ (y : ModelCore). updated (updated m by (received_all (taken_from (thread ∷ []) (m from).queue).found (m by))) from y c) (sym (one_handed thread (m from)))
    ∙ moved_steal p plan round m by from (thread ∷ []) reads apart c)
