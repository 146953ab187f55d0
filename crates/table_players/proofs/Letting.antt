-- The threads that a core lets in, one after another.
use Rattle.std.proofs.Common.{◌≡◌, ◌≤◌, ◌<◌, ◌+◌, ◌==◌, ◌&&◌, ◌||◌, not, ℕ, zero, suc, Bool, true, false, cond, List, [], ◌∷◌, ◌++◌, map, length, get_or, Option, Some, None, refl, sym, ap, ◌∙◌, subst, arith, eq-eqb, ne_eqb, ⊎_elim}
use Rattle.std.specs.Prelude.{IsSomeAnd, IsNone}
use Rattle.std.specs.List.{find, list_any}
use Rattle.std.proofs.lemmas.Bool.{cases_lt}
use Rattle.std.proofs.lemmas.List.{map-append}
use Rattle.std.proofs.lemmas.List.Folds.{list_any-append}
use Rattle.round_model.specs.declared.entry.Entry.{Entry}
use Rattle.round_model.specs.declared.entry.Entry.TheVariants as entry
use Rattle.round_model.specs.declared.plan.Plan.{Plan}
use Rattle.round_model.specs.declared.plan.Planned.{Planned}
use Rattle.round_model.specs.Entries.{lets_in}
use Rattle.round_model.specs.Scenes.{entering_next, is_entering}
use Rattle.core_state.specs.declared.logged.Logged.{Logged}
use Rattle.core_state.specs.Logs.{logged}
use Rattle.core_table.specs.declared.views.View.{View}
use Rattle.steal_phase.specs.Attempts.{HasAdded, own_entries_in}
use Rattle.core_calls.specs.Steps.{HasLetAllIn}
use Rattle.table_players.specs.Crowds.{IsCrowd}
use Rattle.table_players.specs.Games.{HasLetIn, LetsNext, LetsNone, lets}

-- the first that passes a test
find_first : {X : Type 0} (p : X → Bool) (xs : List X) (k : ℕ) (d : X) → k < length xs → ((j : ℕ) → j < k → p (get_or xs j d) ≡ false) → p (get_or xs k d) ≡ true → find p xs ≡ Some (get_or xs k d)
find_first p [] k d inside before here = absurd (omega arith)
find_first p (x ∷ xs) zero d inside before here = ap (λ b. cond b (Some x) (find p xs)) here
find_first p (x ∷ xs) (suc k) d inside before here =
    ap (λ b. cond b (Some x) (find p xs)) (before 0 (omega arith)) ∙ find_first p xs k d (omega arith) (λ j less. before (suc j) (omega arith)) here

find_none : {X : Type 0} (p : X → Bool) (xs : List X) → ((j : ℕ) (d : X) → j < length xs → p (get_or xs j d) ≡ false) → find p xs ≡ None
find_none p [] fails = refl
find_none p (x ∷ xs) fails = ap (λ b. cond b (Some x) (find p xs)) (fails 0 x (omega arith)) ∙ find_none p xs (λ j d inside. fails (suc j) d (omega arith))

-- what an entry more makes of the core's own entries
pub own_more : (v w : View) (core at : ℕ) (e : Entry) → HasAdded core at e v w → own_entries_in w ≡ own_entries_in v ++ e ∷ []
own_more v w core at e added =
    ap (map (λ (l : Logged). l.entry)) added.own ∙ map-append (λ (l : Logged). l.entry) v.own (logged at e ∷ [])

pub any_more : (test : Entry → Bool) (v w : View) (core at : ℕ) (e : Entry) → HasAdded core at e v w → list_any test (own_entries_in w) ≡ (list_any test (own_entries_in v) || (test e || false))
any_more test v w core at e added = ap (list_any test) (own_more v w core at e added) ∙ list_any-append test (own_entries_in v) (e ∷ [])

pub plan_same : (v w : View) (core at : ℕ) (e : Entry) → HasAdded core at e v w → w.plan ≡ v.plan
plan_same v w core at e added = ap (λ (x : View). x.plan) added.rest

-- truth tables
let_in_before : (a b c : Bool) → (a && not b) ≡ false → (a && not (b || c)) ≡ false
let_in_before true true c none = refl
let_in_before true false c none = absurd (cc)
let_in_before false b c none = refl

let_in_now : (a b c : Bool) → c ≡ true → (a && not (b || (c || false))) ≡ false
let_in_now true true c now = refl
let_in_now true false true now = refl
let_in_now true false false now = absurd (cc)
let_in_now false b c now = refl

not_its : (a b : Bool) → a ≡ false → (a && b) ≡ false
not_its true b is = absurd (cc)
not_its false b is = refl

to_let_in : (a b : Bool) → a ≡ true → b ≡ false → (a && not b) ≡ true
to_let_in true true its ahead = absurd (cc)
to_let_in true false its ahead = refl
to_let_in false b its ahead = absurd (cc)

stays_false : (a b : Bool) → a ≡ false → b ≡ false → (a || (b || false)) ≡ false
stays_false true b first second = absurd (cc)
stays_false false true first second = absurd (cc)
stays_false false false first second = refl

pub same_or : (a : Bool) → (a || (false || false)) ≡ a
same_or true = refl
same_or false = refl

-- the threads of a plan, which a core lets in by their places
module _ (v : View) (crowd : IsCrowd v.plan) (core place : ℕ) (in_so_far : HasLetIn v core place) where
  own : List Entry
  own = own_entries_in v

  -- none of those before the next is to enter
  not_entering : (k : ℕ) → LetsNone core v.plan.threads place k → (j : ℕ) (d : Planned) → j < k → j < length v.plan.threads → is_entering 1 core own (get_or v.plan.threads j d) ≡ false
  unfolding own
  not_entering k none j d less inside =
      ⊎_elim (λ (early : j < place). in_so_far.passed j d early inside)
      (λ (late : place ≤ j). not_its (lets core (get_or v.plan.threads j d)) (not (list_any (lets_in (get_or v.plan.threads j d).id) own)) (none j d late less inside))
      (cases_lt j place)

  module _ (k : ℕ) (next : LetsNext core v.plan.threads place k) (d : Planned) where
    thread : Planned
    thread = get_or v.plan.threads k d

    thread_id : thread.id ≡ k + 1
    unfolding thread
    thread_id = (crowd.threads k d next.inside).id

    enters : is_entering 1 core own thread ≡ true
    unfolding thread own
    enters = to_let_in (lets core thread) (list_any (lets_in thread.id) own) (next.lets_it d) (ap (λ id. list_any (lets_in id) own) thread_id ∙ in_so_far.ahead k next.behind next.inside)

    found : entering_next v.plan 1 core own ≡ Some thread
    unfolding thread own entering_next
    found = find_first (is_entering 1 core own) v.plan.threads k d next.inside (λ j less. not_entering k next.none_before j d less (let inside = next.inside in omega arith)) enters

    pub next_enters : v.round ≡ 1 → (id : ℕ) → id ≡ (get_or v.plan.threads k d).id → IsSomeAnd (entering_next v.plan v.round core (own_entries_in v)) (λ (t : Planned). t.id ≡ id)
    unfolding thread own
    next_enters first id is =
        subst (λ round. IsSomeAnd (entering_next v.plan round core own) (λ (t : Planned). t.id ≡ id)) (sym first)
        (subst (λ (o : Option Planned). IsSomeAnd o (λ (t : Planned). t.id ≡ id)) (sym found) (sym is))

    -- the thread entered
    module _ (w : View) (at to : ℕ) (reads : List ℕ) (id : ℕ) (is : id ≡ (get_or v.plan.threads k d).id) (added : HasAdded core at (entry.Enter id core to reads) v w) where
      entered : Entry
      entered = entry.Enter id core to reads

      pub let_in_one : HasLetIn w core (k + 1)
      unfolding own entered
      let_in_one = record {
        passed = λ j e less inside. passed_by j e less (subst (λ (x : Plan). j < length x.threads) (plan_same v w core at entered added) inside)
            (subst (λ (x : Plan). get_or x.threads j e ≡ get_or v.plan.threads j e) (sym (plan_same v w core at entered added)) refl);
        ahead = λ j late inside. any_more (lets_in (j + 1)) v w core at entered added
            ∙ stays_false (list_any (lets_in (j + 1)) own) (id == j + 1) (in_so_far.ahead j (let behind = next.behind in omega arith) (subst (λ (x : Plan). j < length x.threads) (plan_same v w core at entered added) inside))
            (ne_eqb id (j + 1) (λ same. let known = thread_id_is in absurd (omega arith)));
      }
        where
          thread_id_is : id ≡ k + 1
          thread_id_is = is ∙ (crowd.threads k d next.inside).id

          before_it : (j : ℕ) (e : Planned) → j < k → j < length v.plan.threads → is_entering 1 core (own_entries_in w) (get_or v.plan.threads j e) ≡ false
          before_it j e less inside =
              ap (λ b. lets core (get_or v.plan.threads j e) && not b) (any_more (lets_in (get_or v.plan.threads j e).id) v w core at (entry.Enter id core to reads) added)
              ∙ let_in_before (lets core (get_or v.plan.threads j e)) (list_any (lets_in (get_or v.plan.threads j e).id) (own_entries_in v)) ((id == (get_or v.plan.threads j e).id) || false) (not_entering k next.none_before j e less inside)

          at_it : (j : ℕ) (e : Planned) → j ≡ k → j < length v.plan.threads → is_entering 1 core (own_entries_in w) (get_or v.plan.threads j e) ≡ false
          at_it j e same inside =
              ap (λ b. lets core (get_or v.plan.threads j e) && not b) (any_more (lets_in (get_or v.plan.threads j e).id) v w core at (entry.Enter id core to reads) added)
              ∙ let_in_now (lets core (get_or v.plan.threads j e)) (list_any (lets_in (get_or v.plan.threads j e).id) (own_entries_in v)) (id == (get_or v.plan.threads j e).id)
              (eq-eqb id (get_or v.plan.threads j e).id (let known = thread_id_is in let its = (crowd.threads j e inside).id in omega arith))

          passed_by : (j : ℕ) (e : Planned) → j < k + 1 → j < length v.plan.threads → get_or w.plan.threads j e ≡ get_or v.plan.threads j e → is_entering 1 core (own_entries_in w) (get_or w.plan.threads j e) ≡ false
          passed_by j e less inside same = subst (λ (t : Planned). is_entering 1 core (own_entries_in w) t ≡ false) (sym same)
              (⊎_elim (λ (early : j < k). before_it j e early inside) (λ (late : k ≤ j). at_it j e (omega arith) inside) (cases_lt j k))

  -- none is left
  pub all_let_in : v.round ≡ 1 → LetsNone core v.plan.threads place (length v.plan.threads) → HasLetAllIn v core
  unfolding own entering_next
  all_let_in first none =
      subst (λ round. IsNone (entering_next v.plan round core own)) (sym first)
      (subst IsNone (sym (find_none (is_entering 1 core own) v.plan.threads (λ j d inside. not_entering (length v.plan.threads) none j d inside inside))) refl)

-- an entry that lets no thread in changes nothing of that
pub still_all_in : (v w : View) (core at : ℕ) (e : Entry) → ((id : ℕ) → lets_in id e ≡ false) → HasAdded core at e v w → HasLetAllIn v core → HasLetAllIn w core
unfolding entering_next
still_all_in v w core at e none added all = subst IsNone (sym same) all
  where
    any_same : (id : ℕ) → list_any (lets_in id) (own_entries_in w) ≡ list_any (lets_in id) (own_entries_in v)
    any_same id = any_more (lets_in id) v w core at e added ∙ (ap (λ b. list_any (lets_in id) (own_entries_in v) || (b || false)) (none id) ∙ same_or (list_any (lets_in id) (own_entries_in v)))

    same : find (is_entering w.round core (own_entries_in w)) w.plan.threads ≡ find (is_entering v.round core (own_entries_in v)) v.plan.threads
    same = λ i. find (λ (t : Planned). (t.core == core) && (t.round == (added.rest i).round) && not (any_same t.id i)) (added.rest i).plan.threads
