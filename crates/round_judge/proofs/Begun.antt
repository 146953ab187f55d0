-- A past whose next round began stands for the history with that Round.
use Rattle.std.proofs.Common.{◌≡◌, None, ℕ, ◌+◌, ◌-◌, ◌==◌, ◌<◌, ◌≤◌, ◌||◌, ◌&&◌, Bool, true, false, cond, List, [], ◌∷◌, ◌++◌, filter, length, map, replicate, get_or, refl, sym, ap, ap₂, subst, ◌∙◌, eqb, arith}
use Rattle.std.specs.List.{list_any}
use Rattle.std.proofs.lemmas.List.{length-append, take_all}
use Rattle.std.proofs.lemmas.List.Folds.{list_any-append}
use Rattle.policy_tree.specs.Meaning.{Meaning}
use Rattle.round_model.specs.declared.entry.Entry.{Entry}
use Rattle.round_model.specs.declared.entry.Entry.TheVariants as entry
use Rattle.round_model.specs.declared.plan.Plan.{Plan}
use Rattle.round_model.specs.declared.plan.Planned.{Planned}
use Rattle.round_model.specs.declared.state.CountAndLoad.{CountAndLoad}
use Rattle.round_model.specs.After.{after, round_of}
use Rattle.round_model.specs.Cores.{core_numbers, seen_of}
use Rattle.round_model.specs.Entries.{acting_core, ends}
use Rattle.round_model.specs.Kinds.{is_attempt, is_work}
use Rattle.round_model.specs.Legal.{LegalNext, LegalRound, has_ended, rounds_begun}
use Rattle.round_model.specs.Reads.{round_start, value_read}
use Rattle.round_model.specs.Scenes.{is_entering}
use Rattle.round_model.proofs.Grows.{legal_grows, one_more}
use Rattle.round_model.proofs.Keeping.{some_at}
use Rattle.round_model.proofs.Longer.{begun_more, own_none, round_of_more, start_of_round}
use Rattle.round_model.proofs.Moved.{unmoved_round}
use Rattle.round_model.proofs.States.{listed_same}
use Rattle.round_judge.specs.declared.past.Past.{Past}
use Rattle.round_judge.specs.declared.past.Turn.{Turn}
use Rattle.round_judge.specs.declared.past.Arrival.{Arrival}
use Rattle.round_judge.specs.Past.{StandsFor, arrival_of, arrives_at, is_flagged, seen_in, turn_of}
use Rattle.round_judge.specs.Additions.{IsBegun}
use Rattle.round_model.proofs.Histories.{due_within}

at_begin : Turn
at_begin = record { worked = false; attempted = false }

all_begin : (old new : ℕ → Turn) (cores : List ℕ) → ((c : ℕ) → new c ≡ record { worked = false; attempted = false })
    → replicate (length (map old cores)) (record { worked = false; attempted = false }) ≡ map new cores
all_begin old new [] same = refl
all_begin old new (c ∷ cores) same = ap₂ (λ (t : Turn) (rest : List Turn). t ∷ rest) (sym (same c)) (all_begin old new cores same)

-- of those who enter in the round, the ones by a core
pub arriving_by : (round a : ℕ) (threads : List Planned)
    → filter (arrives_at a) (map arrival_of (filter (λ (t : Planned). t.round == round) threads)) ≡ map arrival_of (filter (is_entering round a []) threads)
arriving_by round a [] = refl
arriving_by round a (t ∷ threads) =
    let rest = arriving_by round a threads in
    let inner : List Arrival = map arrival_of (filter (λ (x : Planned). x.round == round) threads) in
    let outer : List Planned = filter (is_entering round a []) threads in
    elim (eqb t.round round) as (λ b. filter (arrives_at a) (map arrival_of (cond b (t ∷ filter (λ (x : Planned). x.round == round) threads) (filter (λ (x : Planned). x.round == round) threads)))
    ≡ map arrival_of (cond ((eqb t.core a && b) && true) (t ∷ outer) outer)) [
      | true ↦ elim (eqb t.core a) as (λ b. cond b (arrival_of t ∷ filter (arrives_at a) inner) (filter (arrives_at a) inner) ≡ map arrival_of (cond ((b && true) && true) (t ∷ outer) outer)) [
        | true ↦ ap (λ (xs : List Arrival). arrival_of t ∷ xs) rest
        | false ↦ rest
      ]
      | false ↦ elim (eqb t.core a) as (λ b. filter (arrives_at a) inner ≡ map arrival_of (cond ((b && false) && true) (t ∷ outer) outer)) [ true ↦ rest | false ↦ rest ]
    ]

or_nothing : (b : Bool) → (b || false) ≡ b
or_nothing true = refl
or_nothing false = refl

module _ (p : Meaning) (plan : Plan) (old new : Past) (h : List Entry) (number : ℕ) where
  -- what is to be seen at the end of a history
  read_now : (history : List Entry) (c : ℕ) → value_read p plan history c (length history) ≡ seen_of (after p plan history c)
  read_now history c = ap (λ (g : List Entry). seen_of (after p plan g c)) (take_all (length history) history (omega arith))

  pub stands_begun : StandsFor p plan old h → LegalNext p plan h (entry.Round number) → 1 ≤ length old.rows → IsBegun plan old new
      → StandsFor p plan new (h ++ entry.Round number ∷ [])
  unfolding LegalNext
  stands_begun stands legal some begun =
      let e = entry.Round number in
      let longer : length (h ++ e ∷ []) ≡ length h + 1 = length-append h (e ∷ []) in
      let rounds : new.rounds ≡ rounds_begun (h ++ e ∷ []) = begun.rounds ∙ (ap (λ (n : ℕ). n + 1) stands.rounds ∙ sym (begun_more h e)) in
      let numbered : new.rounds ≡ number = begun.rounds ∙ (ap (λ (n : ℕ). n + 1) stands.rounds ∙ sym legal.next) in
      let round : new.rounds ≡ round_of (h ++ e ∷ []) = numbered ∙ sym (round_of_more h e) in
      let core_same : (c : ℕ) → after p plan h c ≡ after p plan (h ++ e ∷ []) c =
      λ c. unmoved_round p plan (round_of h) (after p plan h) number c ∙ ap (λ m. m c) (sym (one_more p plan h e)) in
      record {
        legal = legal_grows.grows p plan h e stands.legal legal;
        state = begun.state ∙ (stands.state ∙ listed_same plan.cores (after p plan h) (after p plan (h ++ e ∷ [])) (λ k inside. core_same k));
        entries = begun.entries ∙ (ap (λ (n : ℕ). n + 1) stands.entries ∙ sym longer);
        rounds = rounds;
        round = round;
        turns = begun.turns
            ∙ (ap (λ (turns : List Turn). replicate (length turns) (record { worked = false; attempted = false })) stands.turns
            ∙ all_begin (turn_of h) (turn_of (h ++ e ∷ [])) (core_numbers plan) (λ c. ap (turn_with) (own_none h e c refl)));
        arrivals = λ begun_one. record {
          at_core = λ a. ap (filter (arrives_at a)) begun.arrivals
              ∙ (arriving_by new.rounds a plan.threads
              ∙ ap₂ (λ (r : ℕ) (own : List Entry). map arrival_of (filter (is_entering r a own) plan.threads)) round (sym (own_none h e a refl)));
        };
        rows =
            let k0 = length old.rows - 1 in
            let row = get_or old.rows k0 [] in
            let only : new.rows ≡ row ∷ [] = begun.rows row k0 (some_at old.rows k0 [] (omega arith)) (omega arith) in
            let start = start_of_round h e refl in
            record {
              window = omega (arith, start, longer, ap length only);
              each = λ k c inside there.
                  let first : k ≡ 0 = let one = ap length only in omega arith in
                  let before : round_start h + k0 ≡ length h = let window = stands.rows.window in omega arith in
                  let now : round_start (h ++ e ∷ []) + k ≡ length (h ++ e ∷ []) = omega (arith, start, longer, first) in
                  ap₂ (λ (rows : List (List CountAndLoad)) (j : ℕ). seen_in rows j c) only first
                  ∙ (stands.rows.each k0 c (omega arith) there
                  ∙ (ap (value_read p plan h c) before
                  ∙ (read_now h c
                  ∙ (ap seen_of (core_same c)
                  ∙ (sym (read_now (h ++ e ∷ []) c) ∙ ap (value_read p plan (h ++ e ∷ []) c) (sym now))))));
            };
        ended = λ k d inside.
            subst (λ (flags : List Bool). is_flagged flags (get_or plan.threads k d).id ≡ has_ended (h ++ e ∷ []) (get_or plan.threads k d)) (sym begun.ended)
            (stands.ended k d inside ∙ sym (list_any-append (ends (get_or plan.threads k d).id) h (e ∷ []) ∙ or_nothing (has_ended h (get_or plan.threads k d))));
      }
    where
      turn_with : List Entry → Turn
      turn_with own = record { worked = list_any is_work own; attempted = list_any is_attempt own }

-- an entry without an acting core is a Round
pub round_of_none : (e : Entry) → acting_core e ≡ None → (number : ℕ) × (e ≡ entry.Round number)
round_of_none (entry.Round number) is = (number, refl)
round_of_none (entry.Enter thread by at reads) is = absurd (cc)
round_of_none (entry.Wake thread by at reads) is = absurd (cc)
round_of_none (entry.Work by what) is = absurd (cc)
round_of_none (entry.Steal by from threads reads) is = absurd (cc)
round_of_none (entry.Fail by from reads) is = absurd (cc)
round_of_none (entry.Pass by reads) is = absurd (cc)

pub stands_of_round : (p : Meaning) (plan : Plan) (old new : Past) (h : List Entry) (e : Entry) → acting_core e ≡ None → StandsFor p plan old h → LegalNext p plan h e
    → 1 ≤ length old.rows → IsBegun plan old new → StandsFor p plan new (h ++ e ∷ [])
stands_of_round p plan old new h e none stands legal some begun =
    let is = round_of_none e none in
    subst (λ (x : Entry). StandsFor p plan new (h ++ x ∷ [])) (sym is.1)
    (stands_begun p plan old new h is.0 stands (subst (LegalNext p plan h) is.1 legal) some begun)

pub room_for_round : (p : Meaning) (plan : Plan) (past : Past) (h : List Entry) (e : Entry) → acting_core e ≡ None → StandsFor p plan past h → LegalNext p plan h e → past.rounds < plan.rounds
unfolding LegalNext
room_for_round p plan past h e none stands legal =
    let is = round_of_none e none in
    let round : LegalRound plan h is.0 = subst (LegalNext p plan h) is.1 legal in
    let within = due_within plan h round.due in
    omega (arith, stands.rounds)
