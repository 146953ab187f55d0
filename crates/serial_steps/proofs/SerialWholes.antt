-- The rounds of serial play are complete, and its history is whole.
use Rattle.std.proofs.Common.{◌≡◌, ℕ, zero, suc, ◌+◌, ◌*◌, ◌-◌, ◌<◌, ◌≤◌, ltb, ◌&&◌, ◌||◌, ◌==◌, eqb, Bool, true, false, cond, List, [], ◌∷◌, ◌++◌, find, flat_map, fold, map, length, replicate, All, IfSome, Option, Some, None, refl, sym, ap, ap₂, subst, ◌∙◌, arith}
use Rattle.std.specs.List.{list_all, range_with_len}
use Rattle.std.proofs.lemmas.Bool.Decides.{nat_tests}
use Rattle.std.proofs.lemmas.Grind.{flat_map-append}
use Rattle.std.proofs.lemmas.List.{append-nil, append_assoc, length-append}
use Rattle.std.proofs.lemmas.List.Folds.{list_all-append}
use Rattle.std.proofs.lemmas.List.FromFn.{map-range_with_len_more}
use Rattle.std.proofs.lemmas.List.Sums.{fold-append, fold_push}
use Rattle.policy_tree.specs.Meaning.{Meaning}
use Rattle.policy_eval.specs.Obligations.{MeetsHandlerObligations}
use Rattle.round_model.specs.declared.entry.Entry.{Entry}
use Rattle.round_model.specs.declared.entry.Entry.TheVariants as entry
use Rattle.round_model.specs.declared.plan.OrderLine.{OrderLine}
use Rattle.round_model.specs.declared.plan.Plan.{Plan}
use Rattle.round_model.specs.Fits.{Fits, OrderFits}
use Rattle.round_model.specs.Legal.{IsComplete, IsDue, Legal, LegalNext, is_complete, is_due, rounds_begun}
use Rattle.round_model.specs.Scenes.{has_attempted, own_entries}
use Rattle.round_model.proofs.Histories.{due_within}
use Rattle.round_model.proofs.Finding.{find-All}
use Rattle.round_model.proofs.Grows.{legal_grows}
use Rattle.round_model.proofs.Keeping.{All-append}
use Rattle.round_model.proofs.Longer.{begun_more}
use Rattle.round_model.proofs.OwedBounds.{owed_bound}
use Rattle.serial_steps.specs.Serial.{SerialState, step_of}
use Rattle.serial_steps.specs.SerialEnds.{most_entries}
use Rattle.serial_steps.specs.SerialLaws.{IsBeginning, SerialRoundsLaw, SerialWholeLaw, StopsFullLaw}
use Rattle.serial_steps.specs.SerialMoments.{IsWithinRound}
use Rattle.serial_steps.specs.SerialRounds.{cores_in, most_steps, order_of}
use Rattle.serial_steps.specs.SerialRounds.{remaining_turns, serial_history, serial_rounds, with_round}
use Rattle.serial_steps.proofs.SerialTurns.{All-same, keeps_all, keeps_both, turn_made}

-- once more
pub times_more : (n most : ℕ) → (n + 1) * most ≡ n * most + most
times_more n most = omega arith

-- one number more
map_same : (xs : List ℕ) → map (λ (k : ℕ). k) xs ≡ xs
map_same [] = refl
map_same (x ∷ xs) = ap (λ (rest : List ℕ). x ∷ rest) (map_same xs)

range_more : (a n : ℕ) → range_with_len a (n + 1) ≡ range_with_len a n ++ (a + n) ∷ []
range_more a n = sym (map_same (range_with_len a (n + 1))) ∙ (map-range_with_len_more (λ (k : ℕ). k) a n (a + n) refl ∙ ap (λ (front : List ℕ). front ++ (a + n) ∷ []) (map_same (range_with_len a n)))

range_next : (n : ℕ) → range_with_len 0 (n + 1) ≡ range_with_len 0 n ++ n ∷ []
range_next n = range_more 0 n ∙ ap (λ (k : ℕ). range_with_len 0 n ++ k ∷ []) (omega arith)

-- the turns of the first cores
abbrev pub turns_of : Plan → ℕ → List ℕ
turns_of plan n = flat_map (λ (c : ℕ). replicate (most_steps plan) c) (range_with_len 0 n)

pub turns_more : (plan : Plan) (n : ℕ) → turns_of plan (n + 1) ≡ turns_of plan n ++ replicate (most_steps plan) n
turns_more plan n =
    ap (flat_map (λ (k : ℕ). replicate (most_steps plan) k)) (range_next n)
    ∙ (flat_map-append (λ (k : ℕ). replicate (most_steps plan) k) (range_with_len 0 n) (n ∷ [])
    ∙ ap (λ (rest : List ℕ). turns_of plan n ++ rest) (append-nil (replicate (most_steps plan) n)))

-- what holds of the numbers below, and of the next
pub next_too : (P : ℕ → Type 0) (n : ℕ) → ((c : ℕ) → c < n → P c) → P n → (c : ℕ) → c < n + 1 → P c
next_too P n below here c inside =
    elim (eqb c n) as (λ b. eqb c n ≡ b → P c) [
      | true ↦ λ e. let same : n ≡ c = grind (arith, nat_tests) in subst P same here
      | false ↦ λ e. let apart : c ≡ n → ⊥ = grind (arith, nat_tests) in below c (grind (arith, inside, apart))
    ] refl

-- a test of all cores
all_cores : (test : ℕ → Bool) (n : ℕ) → ((c : ℕ) → c < n → test c ≡ true) → list_all test (range_with_len 0 n) ≡ true
all_cores test zero each = refl
all_cores test (suc n) each =
    let more : suc n ≡ n + 1 = omega arith in
    ap (λ (k : ℕ). list_all test (range_with_len 0 k)) more
    ∙ (ap (list_all test) (range_next n)
    ∙ (list_all-append test (range_with_len 0 n) (n ∷ [])
    ∙ ap₂ (λ (a b : Bool). a && (b && true)) (all_cores test n (λ c inside. each c (omega arith))) (each n (omega arith))))

-- each core of a round's order is there
pub ordered_there : (p : Meaning) (plan : Plan) (number : ℕ) → Fits p plan → All (λ c. c < plan.cores) (order_of plan number)
ordered_there p plan number fits = each_of (find (λ (l : OrderLine). l.round == number) plan.orders) (find-All (λ (l : OrderLine). l.round == number) (OrderFits plan.cores) plan.orders fits.orders)
  where
    each_of : (found : Option OrderLine) → IfSome found (OrderFits plan.cores) → All (λ c. c < plan.cores) (cores_in found)
    each_of None is = λ k d inside. absurd (omega arith)
    each_of (Some l) is = is.each

-- the turns of the first cores name those alone
turns_there : (plan : Plan) (n : ℕ) → n ≤ plan.cores → All (λ c. c < plan.cores) (turns_of plan n)
turns_there plan zero few = λ k d inside. absurd (omega arith)
turns_there plan (suc n) few =
    let more : n + 1 ≡ suc n = omega arith in
    subst (λ (k : ℕ). All (λ c. c < plan.cores) (turns_of plan k)) more
    (subst (All (λ c. c < plan.cores)) (sym (turns_more plan n))
    (All-append (λ c. c < plan.cores) (turns_of plan n) (replicate (most_steps plan) n) (turns_there plan n (omega arith)) (All-same (λ c. c < plan.cores) (most_steps plan) n (omega arith))))

module _ (p : Meaning) (plan : Plan) (fits : Fits p plan) (handlers : MeetsHandlerObligations p) where
  -- the turns of the first cores come to their attempts
  turns_made : (n : ℕ) → n ≤ plan.cores → (s : SerialState) → IsWithinRound p plan s → (c : ℕ) → c < n → has_attempted (own_entries (fold (step_of p plan) s (turns_of plan n)).history c) ≡ true
  turns_made zero few s within c inside = absurd (omega arith)
  turns_made (suc n) few s within c inside =
      let mid = fold (step_of p plan) s (turns_of plan n) in
      let before = keeps_all p plan fits handlers (turns_of plan n) s within (turns_there plan n (omega arith)) in
      let last = keeps_all p plan fits handlers (replicate (most_steps plan) n) mid before.within (All-same (λ k. k < plan.cores) (most_steps plan) n (omega arith)) in
      let made : SerialState → ℕ → Type 0 = λ t k. has_attempted (own_entries t.history k) ≡ true in
      let more : n + 1 ≡ suc n = omega arith in
      subst (λ (k : ℕ). made (fold (step_of p plan) s (turns_of plan k)) c) more
      (subst (λ (cores : List ℕ). made (fold (step_of p plan) s cores) c) (sym (turns_more plan n))
      (subst (λ (t : SerialState). made t c) (sym (fold-append (step_of p plan) s (turns_of plan n) (replicate (most_steps plan) n)))
      (next_too (made (fold (step_of p plan) mid (replicate (most_steps plan) n))) n
      (λ k below. last.attempted k (turns_made n (omega arith) s within k below))
      (turn_made p plan fits handlers mid n before.within (omega arith)) c (omega (arith, inside)))))

  -- as a round begins
  abbrev pub opened : List Entry → ℕ → SerialState
  opened h number = record { history = h ++ entry.Round number ∷ []; looks = λ c. None }

  pub opened_within : (h : List Entry) (number : ℕ) → Legal p plan h → LegalNext p plan h (entry.Round number) → IsWithinRound p plan (opened h number)
  opened_within h number legal next = record {
    legal = legal_grows.grows p plan h (entry.Round number) legal next;
    begun = omega (arith, begun_more h (entry.Round number));
    looks = λ c reads inside is. absurd (cc);
  }

  -- what a round leaves
  pub record RoundPlayed (old new : List Entry) : Type 0 where
    pub legal : Legal p plan new
    pub complete : IsComplete plan new
    pub rounds : rounds_begun new ≡ rounds_begun old + 1
    pub few : length new ≤ length old + most_entries plan
    pub rest : List Entry
    pub longer : new ≡ old ++ rest

  pub round_played : (h : List Entry) (number : ℕ) → Legal p plan h → IsComplete plan h → IsDue plan h → number ≡ rounds_begun h + 1 → RoundPlayed h (with_round p plan h number)
  unfolding with_round is_complete LegalNext
  round_played h number legal complete due next =
      let e = entry.Round number in
      let first = opened h number in
      let within = opened_within h number legal (record { complete = complete; due = due; next = next }) in
      let order = order_of plan number in
      let ordered = keeps_all p plan fits handlers order first within (ordered_there p plan number fits) in
      let mid = fold (step_of p plan) first order in
      let last = fold (step_of p plan) mid (remaining_turns plan) in
      let ended = keeps_all p plan fits handlers (remaining_turns plan) mid ordered.within (turns_there plan plan.cores (omega arith)) in
      let both = keeps_both p plan first mid last ordered ended in
      let is : last.history ≡ cond (is_due plan h) (fold (step_of p plan) first (order ++ remaining_turns plan)).history h =
      ap (λ (t : SerialState). t.history) (sym (fold-append (step_of p plan) first order (remaining_turns plan)))
      ∙ sym (ap (λ b. cond b (fold (step_of p plan) first (order ++ remaining_turns plan)).history h) due) in
      let made = all_cores (λ c. has_attempted (own_entries last.history c)) plan.cores (turns_made plan.cores (omega arith) mid ordered.within) in
      let owes = owed_bound p plan (h ++ e ∷ []) fits handlers within.legal in
      let reserve = both.reserve in
      let more = length-append h (e ∷ []) in
      subst (RoundPlayed h) is (record {
        legal = both.within.legal;
        complete = ap (λ b. (rounds_begun last.history == 0) || b) made ∙ or_one (rounds_begun last.history == 0);
        rounds = both.rounds ∙ begun_more h e;
        few = omega (arith, more);
        rest = (e ∷ []) ++ both.rest;
        longer = both.longer ∙ append_assoc h (e ∷ []) both.rest;
      })
    where
      or_one : (b : Bool) → (b || true) ≡ true
      or_one true = refl
      or_one false = refl

-- one round more
pub serial_more : (p : Meaning) (plan : Plan) (k : ℕ) → serial_rounds p plan (k + 1) ≡ with_round p plan (serial_rounds p plan k) (k + 1)
serial_more p plan k =
    ap (fold (with_round p plan) []) (range_more 1 k ∙ ap (λ (n : ℕ). range_with_len 1 k ++ n ∷ []) (omega arith)) ∙ fold_push (with_round p plan) [] (range_with_len 1 k) (k + 1)

-- where no round is due, none comes
pub not_due_stays : (p : Meaning) (plan : Plan) (h : List Entry) (number : ℕ) → is_due plan h ≡ false → with_round p plan h number ≡ h
unfolding with_round
not_due_stays p plan h number none =
    ap (λ b. cond b (fold (step_of p plan) (record { history = h ++ entry.Round number ∷ []; looks = λ c. None }) (order_of plan number ++ remaining_turns plan)).history h) none

pub serial_stays : (p : Meaning) (plan : Plan) (k : ℕ) → is_due plan (serial_rounds p plan k) ≡ false → (j : ℕ) → serial_rounds p plan (k + j) ≡ serial_rounds p plan k
serial_stays p plan k none zero = let same : k + 0 ≡ k = omega arith in ap (serial_rounds p plan) same
serial_stays p plan k none (suc j) =
    let same = serial_stays p plan k none j in
    let more : k + suc j ≡ k + j + 1 = omega arith in
    ap (serial_rounds p plan) more
    ∙ (serial_more p plan (k + j)
    ∙ (not_due_stays p plan (serial_rounds p plan (k + j)) (k + j + 1) (ap (is_due plan) same ∙ none)
    ∙ same))

module _ (p : Meaning) (plan : Plan) (fits : Fits p plan) (handlers : MeetsHandlerObligations p) where
  -- so many rounds of serial play
  record IsKept (k : ℕ) : Type 0 where
    legal : Legal p plan (serial_rounds p plan k)
    complete : IsComplete plan (serial_rounds p plan k)
    rounds : rounds_begun (serial_rounds p plan k) ≤ k
    all_due : IsDue plan (serial_rounds p plan k) → rounds_begun (serial_rounds p plan k) ≡ k
    few : length (serial_rounds p plan k) ≤ k * most_entries plan

  -- the next round comes, or none is due
  pub record OneMore (old new : List Entry) : Type 0 where
    pub rest : List Entry
    pub longer : new ≡ old ++ rest

  kept_none : IsKept 0
  unfolding is_complete
  kept_none = record { legal = λ k e is. absurd (cc); complete = refl; rounds = omega arith; all_due = λ due. refl; few = omega arith }

  kept_more : (k : ℕ) → IsKept k → (b : Bool) → is_due plan (serial_rounds p plan k) ≡ b → IsKept (k + 1) × OneMore (serial_rounds p plan k) (serial_rounds p plan (k + 1))
  kept_more k kept true due =
      let h = serial_rounds p plan k in
      let all = kept.all_due due in
      let played = round_played p plan fits handlers h (k + 1) kept.legal kept.complete due (omega (arith, all)) in
      let is = sym (serial_more p plan k) in
      let now : RoundPlayed p plan fits handlers h (serial_rounds p plan (k + 1)) = subst (RoundPlayed p plan fits handlers h) is played in
      let before = kept.few in
      let one = now.few in
      let product : (k + 1) * most_entries plan ≡ k * most_entries plan + most_entries plan = times_more k (most_entries plan) in (
        record {
          legal = now.legal;
          complete = now.complete;
          rounds = omega (arith, now.rounds, all);
          all_due = λ again. omega (arith, now.rounds, all);
          few = omega (arith, product);
        },
        record { rest = now.rest; longer = now.longer },
      )
  kept_more k kept false none =
      let h = serial_rounds p plan k in
      let same : h ≡ serial_rounds p plan (k + 1) = sym (serial_more p plan k ∙ not_due_stays p plan h (k + 1) none) in
      let few = kept.few in
      let rounds = kept.rounds in
      let grows : k * most_entries plan ≤ (k + 1) * most_entries plan = omega (arith, times_more k (most_entries plan)) in (
        record {
          legal = subst (Legal p plan) same kept.legal;
          complete = subst (IsComplete plan) same kept.complete;
          rounds = omega (arith, ap rounds_begun same);
          all_due = λ due. let never = sym none ∙ (ap (is_due plan) same ∙ due) in absurd (cc);
          few = omega (arith, ap (λ (g : List Entry). length g) same);
        },
        record { rest = []; longer = sym same ∙ sym (append-nil h) },
      )

  kept_all : (k : ℕ) → IsKept k
  kept_all zero = kept_none
  kept_all (suc k) =
      let more : k + 1 ≡ suc k = omega arith in
      subst IsKept more (kept_more k (kept_all k) (is_due plan (serial_rounds p plan k)) refl).0

  -- the first rounds begin what follows
  begins_later : (k j : ℕ) → OneMore (serial_rounds p plan k) (serial_rounds p plan (k + j))
  begins_later k zero =
      let same : k ≡ k + 0 = omega arith in
      record { rest = []; longer = sym (ap (serial_rounds p plan) same) ∙ sym (append-nil (serial_rounds p plan k)) }
  begins_later k (suc j) =
      let front = begins_later k j in
      let last = (kept_more (k + j) (kept_all (k + j)) (is_due plan (serial_rounds p plan (k + j))) refl).1 in
      let more : k + suc j ≡ k + j + 1 = omega arith in
      record {
        rest = front.rest ++ last.rest;
        longer = ap (serial_rounds p plan) more ∙ (last.longer ∙ (ap (λ (h : List Entry). h ++ last.rest) front.longer ∙ append_assoc (serial_rounds p plan k) front.rest last.rest));
      }

  never_due : is_due plan (serial_history p plan) ≡ false
  never_due = by_due (is_due plan (serial_history p plan)) refl
    where
      by_due : (b : Bool) → is_due plan (serial_history p plan) ≡ b → b ≡ false
      by_due true due =
          let all = (kept_all plan.rounds).all_due due in
          let few = due_within plan (serial_history p plan) due in absurd (omega (arith, all))
      by_due false none = refl

  begins_whole : (k : ℕ) → IsBeginning p plan (serial_rounds p plan k)
  begins_whole k = by_order (ltb k plan.rounds) refl
    where
      by_order : (b : Bool) → ltb k plan.rounds ≡ b → IsBeginning p plan (serial_rounds p plan k)
      by_order true early =
          let below : k < plan.rounds = grind (arith, nat_tests) in
          let later = begins_later k (plan.rounds - k) in
          let all : k + (plan.rounds - k) ≡ plan.rounds = omega arith in
          record { rest = later.rest; whole = sym (ap (serial_rounds p plan) all) ∙ later.longer }
      by_order false late =
          let above : plan.rounds ≤ k = grind (arith, nat_tests) in
          let all : plan.rounds + (k - plan.rounds) ≡ k = omega arith in
          let same = sym (serial_stays p plan plan.rounds never_due (k - plan.rounds)) ∙ ap (serial_rounds p plan) all in
          record { rest = []; whole = same ∙ sym (append-nil (serial_rounds p plan k)) }

pub serial_rounds_law : SerialRoundsLaw
serial_rounds_law p plan k fits handlers =
    let kept = kept_all p plan fits handlers k in
    record { legal = kept.legal; complete = kept.complete; rounds = kept.rounds; few = kept.few; begins = begins_whole p plan fits handlers k }

-- a due round of serial play is the next by its number
pub due_number : (p : Meaning) (plan : Plan) (k : ℕ) → Fits p plan → MeetsHandlerObligations p → IsDue plan (serial_rounds p plan k) → rounds_begun (serial_rounds p plan k) ≡ k
due_number p plan k fits handlers due = (kept_all p plan fits handlers k).all_due due

pub serial_whole_law : SerialWholeLaw
serial_whole_law p plan fits handlers =
    let kept = kept_all p plan fits handlers plan.rounds in
    record { legal = kept.legal; complete = kept.complete; finished = never_due p plan fits handlers }

pub stops_full_law : StopsFullLaw
stops_full_law p plan history fits handlers stops = record {
  rounds = due_within plan history stops.full.due;
  begins = subst (IsBeginning p plan) (sym stops.serial) (begins_whole p plan fits handlers stops.rounds);
}
