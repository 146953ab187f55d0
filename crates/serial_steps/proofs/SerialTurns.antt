-- What the steps of serial play keep, and that each turn comes to its attempt.
use Rattle.std.proofs.Common.{◌≡◌, ℕ, zero, suc, ◌+◌, ◌<◌, ◌≤◌, ◌||◌, ◌==◌, eqb, Bool, true, false, cond, List, [], ◌∷◌, ◌++◌, fold, length, replicate, get_or, sum_by, All, Option, Some, None, refl, sym, ap, ap₂, subst, ◌∙◌, arith}
use Rattle.std.specs.Option.{is_some}
use Rattle.std.proofs.lemmas.Bool.Decides.{nat_tests}
use Rattle.std.proofs.lemmas.List.{append-nil, append_assoc, length-append}
use Rattle.std.proofs.lemmas.List.FromFn.{get_or-range_with_len, length-range_with_len}
use Rattle.std.proofs.lemmas.List.Sums.{get_or-le-sum_by, sum-map}
use Rattle.policy_tree.specs.Meaning.{Meaning}
use Rattle.policy_eval.specs.Obligations.{MeetsHandlerObligations}
use Rattle.round_model.specs.declared.entry.Entry.{Entry}
use Rattle.round_model.specs.declared.plan.Plan.{Plan}
use Rattle.round_model.specs.After.{after}
use Rattle.round_model.specs.Bounds.{standing_count}
use Rattle.round_model.specs.Cores.{core_numbers}
use Rattle.round_model.specs.Entries.{acting_core}
use Rattle.round_model.specs.Fits.{Fits}
use Rattle.round_model.specs.FreshReads.{fresh_reads}
use Rattle.round_model.specs.Legal.{LegalNext, rounds_begun}
use Rattle.round_model.specs.Owed.{owed, owed_total}
use Rattle.round_model.specs.Reads.{ReadsFit, round_start}
use Rattle.round_model.specs.Scenes.{has_attempted, own_entries, scene_of}
use Rattle.round_model.proofs.Acting.{no_round}
use Rattle.round_model.proofs.Bounded.{bounds_law}
use Rattle.round_model.proofs.Grows.{legal_grows}
use Rattle.round_model.proofs.Longer.{begun_more, start_stays}
use Rattle.round_model.proofs.OwedBounds.{owed_few}
use Rattle.round_model.proofs.OwedTotals.{attempted_more, reserve_kept}
use Rattle.round_model.proofs.Paying.{owed_law}
use Rattle.serial_steps.specs.Serial.{SerialState, step_of, with_entry}
use Rattle.serial_steps.specs.SerialMoments.{IsWithinRound}
use Rattle.serial_steps.specs.SerialRounds.{most_steps}
use Rattle.serial_steps.proofs.SerialSteps.{StepIs, adds, fresh_fit, looks, stays, step_is}

-- reads that fit keep fitting in their round
fit_later : (cores start begin at later : ℕ) (reads : List ℕ) → start ≡ begin → at ≤ later → ReadsFit cores start at reads → ReadsFit cores begin later reads
fit_later cores start begin at later reads same more fit = record {
  one_each = fit.one_each;
  each = λ k d inside. let read = fit.each k d inside in
      let low = read.in_round in let high = read.before_entry in
      record { in_round = omega (arith, same); before_entry = omega arith };
}

-- one where something is still to come
abbrev to_come : Bool → ℕ
to_come b = cond b 0 1

All-cons : (P : ℕ → Type 0) (x : ℕ) (xs : List ℕ) → P x → All P xs → All P (x ∷ xs)
All-cons P x xs here rest zero d inside = here
All-cons P x xs here rest (suc k) d inside = rest k d (omega arith)

pub All-same : (P : ℕ → Type 0) (n c : ℕ) → P c → All P (replicate n c)
All-same P zero c here = λ k d inside. absurd (omega arith)
All-same P (suc n) c here = All-cons P c (replicate n c) here (All-same P n c here)

module _ (p : Meaning) (plan : Plan) where
  -- what steps keep of a moment
  pub record Keeps (old new : SerialState) : Type 0 where
    pub within : IsWithinRound p plan new
    pub reserve : length new.history + owed_total p plan new.history ≡ length old.history + owed_total p plan old.history
    pub rounds : rounds_begun new.history ≡ rounds_begun old.history
    pub attempted : (c : ℕ) → has_attempted (own_entries old.history c) ≡ true → has_attempted (own_entries new.history c) ≡ true
    pub rest : List Entry
    pub longer : new.history ≡ old.history ++ rest

  pub keeps_none : (s : SerialState) → IsWithinRound p plan s → Keeps s s
  keeps_none s within = record { within = within; reserve = refl; rounds = refl; attempted = λ c made. made; rest = []; longer = sym (append-nil s.history) }

  pub keeps_both : (old mid new : SerialState) → Keeps old mid → Keeps mid new → Keeps old new
  keeps_both old mid new one two = record {
    within = two.within;
    reserve = two.reserve ∙ one.reserve;
    rounds = two.rounds ∙ one.rounds;
    attempted = λ c made. two.attempted c (one.attempted c made);
    rest = one.rest ++ two.rest;
    longer = two.longer ∙ (ap (λ (front : List Entry). front ++ two.rest) one.longer ∙ append_assoc old.history one.rest two.rest);
  }

  -- how many steps the core has left in its turn: the entries that it owes, and its look
  abbrev pub steps_left : SerialState → ℕ → ℕ
  steps_left s a = owed p plan s.history a + cond (is_some (s.looks a) || has_attempted (own_entries s.history a)) 0 1

  -- where none is left, the attempt is made
  none_left : (s : SerialState) (a : ℕ) → 0 < rounds_begun s.history → steps_left s a ≤ 0 → has_attempted (own_entries s.history a) ≡ true
  unfolding owed scene_of
  none_left s a begun none =
      let nothing : owed p plan s.history a ≤ 0 = omega arith in
      let open_round : eqb (rounds_begun s.history) 0 ≡ false = grind (arith, nat_tests) in
      made (rounds_begun s.history == 0) (has_attempted (own_entries s.history a)) _ open_round nothing
    where
      made : (no_round attempted : Bool) (rest : ℕ) → no_round ≡ false → cond no_round 0 (rest + cond attempted 0 1) ≤ 0 → attempted ≡ true
      made true attempted rest begun_one few = absurd (cc)
      made false true rest begun_one few = refl
      made false false rest begun_one few = absurd (omega arith)

  module _ (fits : Fits p plan) (handlers : MeetsHandlerObligations p) where
    -- an entry
    keeps_added : (s : SerialState) (a : ℕ) → IsWithinRound p plan s → a < plan.cores → (e : Entry) → LegalNext p plan s.history e → acting_core e ≡ Some a → Keeps s (with_entry s e)
    keeps_added s a within there e legal acting =
        let h = s.history in
        let inner = no_round e a acting in
        let more = length-append h (e ∷ []) in
        let rounds : rounds_begun (h ++ e ∷ []) ≡ rounds_begun h = begun_more h e ∙ (ap (λ b. rounds_begun h + cond b 1 0) inner ∙ omega arith) in
        let begun = within.begun in
        record {
          within = record {
            legal = legal_grows.grows p plan h e within.legal legal;
            begun = omega (arith, rounds);
            looks = λ c reads inside is. fit_later plan.cores (round_start h) (round_start (h ++ e ∷ [])) (length h) (length (h ++ e ∷ [])) reads (sym (start_stays h e inner)) (omega (arith, more)) (within.looks c reads inside is);
          };
          reserve = omega (arith, reserve_kept p plan h e a fits handlers within.legal legal acting there, more);
          rounds = rounds;
          attempted = λ c made. attempted_more h e c inner made;
          rest = e ∷ [];
          longer = refl;
        }

    abbrev looked : SerialState → ℕ → SerialState
    looked s a = record s { looks = λ c. cond (c == a) (Some (fresh_reads plan s.history (scene_of p plan s.history a))) (s.looks c) }

    -- a look
    keeps_looked : (s : SerialState) (a : ℕ) → IsWithinRound p plan s → Keeps s (looked s a)
    keeps_looked s a within = record {
      within = record { legal = within.legal; begun = within.begun; looks = λ c reads inside is. of_core c reads inside (c == a) is };
      reserve = refl;
      rounds = refl;
      attempted = λ c made. made;
      rest = [];
      longer = sym (append-nil s.history);
    }
      where
        of_core : (c : ℕ) (reads : List ℕ) → c < plan.cores → (b : Bool) → cond b (Some (fresh_reads plan s.history (scene_of p plan s.history a))) (s.looks c) ≡ Some reads → ReadsFit plan.cores (round_start s.history) (length s.history) reads
        of_core c reads inside true is =
            let same : fresh_reads plan s.history (scene_of p plan s.history a) ≡ reads = cc in
            subst (ReadsFit plan.cores (round_start s.history) (length s.history)) same (fresh_fit p plan s.history a)
        of_core c reads inside false is = within.looks c reads inside is

    pub keeps_step : (s : SerialState) (a : ℕ) → IsWithinRound p plan s → a < plan.cores → Keeps s (step_of p plan s a)
    keeps_step s a within there = by_kind (step_is p plan fits handlers s within a there)
      where
        by_kind : StepIs p plan fits handlers s a → Keeps s (step_of p plan s a)
        by_kind (adds e legal acting is) = subst (Keeps s) (sym is) (keeps_added s a within there e legal acting)
        by_kind (looks none first is) = subst (Keeps s) (sym is) (keeps_looked s a within)
        by_kind (stays made is) = subst (Keeps s) (sym is) (keeps_none s within)

    pub keeps_all : (cores : List ℕ) (s : SerialState) → IsWithinRound p plan s → All (λ c. c < plan.cores) cores → Keeps s (fold (step_of p plan) s cores)
    keeps_all [] s within each = keeps_none s within
    keeps_all (c ∷ cs) s within each =
        let one = keeps_step s c within (each 0 c (omega arith)) in
        keeps_both s (step_of p plan s c) (fold (step_of p plan) (step_of p plan s c) cs) one
        (keeps_all cs (step_of p plan s c) one.within (λ k d inside. each (suc k) d (omega arith)))

    -- a step is one fewer to come
    fewer_added : (s : SerialState) (a : ℕ) → IsWithinRound p plan s → (e : Entry) → LegalNext p plan s.history e → acting_core e ≡ Some a → steps_left (with_entry s e) a + 1 ≤ steps_left s a
    fewer_added s a within e legal acting =
        let h = s.history in
        let paid = owed_law p plan h e a fits handlers within.legal legal acting in
        let less = no_less (is_some (s.looks a)) (has_attempted (own_entries h a)) (has_attempted (own_entries (h ++ e ∷ []) a)) (attempted_more h e a (no_round e a acting)) in
        omega (arith, paid.own, less)
      where
        no_less : (look first later : Bool) → (first ≡ true → later ≡ true) → cond (look || later) 0 1 ≤ cond (look || first) 0 1
        no_less true first later keeps = omega arith
        no_less false true later keeps = let made = keeps refl in omega (arith, ap to_come made)
        no_less false false true keeps = omega arith
        no_less false false false keeps = omega arith

    fewer_looked : (s : SerialState) (a : ℕ) → s.looks a ≡ None → has_attempted (own_entries s.history a) ≡ false → steps_left (looked s a) a + 1 ≤ steps_left s a
    fewer_looked s a none first =
        let own : eqb a a ≡ true = grind (arith, nat_tests) in
        let before = ap₂ (λ (l : Option (List ℕ)) (b : Bool). to_come (is_some l || b)) none first in
        let now = ap (λ (b : Bool). to_come (is_some (cond b (Some (fresh_reads plan s.history (scene_of p plan s.history a))) (s.looks a)) || has_attempted (own_entries s.history a))) own in
        omega (arith, before, now)

    -- with so many steps the attempt is made
    pub made_by : (n : ℕ) (s : SerialState) (a : ℕ) → IsWithinRound p plan s → a < plan.cores → steps_left s a ≤ n → has_attempted (own_entries (fold (step_of p plan) s (replicate n a)).history a) ≡ true
    made_by zero s a within there few = none_left s a within.begun few
    made_by (suc n) s a within there few =
        by_kind (step_is p plan fits handlers s within a there) (made_by n (step_of p plan s a) a (keeps_step s a within there).within there)
      where
        by_kind : StepIs p plan fits handlers s a → (steps_left (step_of p plan s a) a ≤ n → has_attempted (own_entries (fold (step_of p plan) (step_of p plan s a) (replicate n a)).history a) ≡ true)
            → has_attempted (own_entries (fold (step_of p plan) (step_of p plan s a) (replicate n a)).history a) ≡ true
        by_kind (adds e legal acting is) rest =
            let less = fewer_added s a within e legal acting in
            rest (subst (λ (u : SerialState). steps_left u a ≤ n) (sym is) (omega arith))
        by_kind (looks none first is) rest =
            let less = fewer_looked s a none first in
            rest (subst (λ (u : SerialState). steps_left u a ≤ n) (sym is) (omega arith))
        by_kind (stays made is) rest = (keeps_all (replicate (suc n) a) s within (All-same (λ c. c < plan.cores) (suc n) a there)).attempted a made

    -- no turn has more
    pub left_few : (s : SerialState) (a : ℕ) → IsWithinRound p plan s → a < plan.cores → steps_left s a ≤ most_steps plan
    left_few s a within there =
        let h = s.history in
        let m = after p plan h in
        let bounds = bounds_law p plan h fits handlers within.legal in
        let numbers = core_numbers plan in
        let all : sum_by (λ c. standing_count (m c)) numbers ≤ length plan.threads =
        subst (λ (n : ℕ). n ≤ length plan.threads) (sum-map (λ c. standing_count (m c)) numbers) bounds.bounds.total in
        let one : standing_count (m (get_or numbers a a)) ≤ sum_by (λ c. standing_count (m c)) numbers =
        get_or-le-sum_by (λ c. standing_count (m c)) numbers a a (omega (arith, length-range_with_len 0 plan.cores)) in
        let stand : standing_count (m a) ≤ length plan.threads =
        subst (λ (c : ℕ). standing_count (m c) ≤ length plan.threads) (get_or-range_with_len 0 plan.cores a a there ∙ omega arith) (omega arith) in
        let most = owed_few p plan h a in
        let look : cond (is_some (s.looks a) || has_attempted (own_entries h a)) 0 1 ≤ 1 = one_at_most (is_some (s.looks a) || has_attempted (own_entries h a)) in
        omega arith
      where
        one_at_most : (b : Bool) → cond b 0 1 ≤ 1
        one_at_most true = omega arith
        one_at_most false = omega arith

    -- a turn comes to its attempt
    pub turn_made : (s : SerialState) (a : ℕ) → IsWithinRound p plan s → a < plan.cores → has_attempted (own_entries (fold (step_of p plan) s (replicate (most_steps plan) a)).history a) ≡ true
    turn_made s a within there = made_by (most_steps plan) s a within there (left_few s a within there)

    -- past it no step changes anything
    pub over_stays : (s : SerialState) (a : ℕ) → IsWithinRound p plan s → a < plan.cores → step_of p plan s a ≡ s → (n : ℕ) → fold (step_of p plan) s (replicate n a) ≡ s
    over_stays s a within there over zero = refl
    over_stays s a within there over (suc n) = ap (λ (t : SerialState). fold (step_of p plan) t (replicate n a)) over ∙ over_stays s a within there over n
