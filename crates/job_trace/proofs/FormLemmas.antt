-- The form of a line is what is kept of the line that its words spell.
use Rattle.std.proofs.Common.{◌≡◌, ◌∙◌, ℕ, Bool, true, false, cond, List, [], ◌∷◌, ◌++◌, map, Option, Some, None, codes, refl, ap, ap₂, sym, subst}
use Rattle.std.specs.Prelude.{option_and_then, option_map}
use Rattle.std.specs.Str.{bytes_eq}
use Rattle.std.proofs.lemmas.Slice.Eq.{bytes_eq-Decides}
use Rattle.round_model.specs.declared.plan.Burst.{Burst}
use Rattle.job_trace.specs.declared.form.LineKind.{LineKind}
use Rattle.job_trace.specs.declared.form.LineKind.TheVariants as kind
use Rattle.job_trace.specs.declared.trace.NamedConst.{NamedConst}
use Rattle.job_trace.specs.declared.trace.TraceLine.{TraceLine}
use Rattle.job_trace.specs.declared.trace.TraceLine.TheVariants.{Cores, Rounds, Entries}
use Rattle.job_trace.specs.Forms.{SpellsLine, SpellsNumber, SpellsProgram, SpellsWeight, core_line, cores_line, entries_line, no_weight, order_line, rounds_line, run_block, run_end, run_forever, run_yield, some_weight, thread_line}
use Rattle.job_trace.specs.Code.Steps.{Found, by_kind, consts_in, core_in, core_with, form_of, kept, kind_of, line_in, number_alone, number_behind, number_first, numbers_in, order_in, order_with, program_in, some_of, thread_in, thread_with, weighed_in, weight_first, with_consts, with_core, with_id, with_order, with_round, with_weight}
use Rattle.job_trace.proofs.KeptLemmas.{kept_burst, kept_line}
use Rattle.job_trace.proofs.NumberForms.{alone-is, alone-yes, first-is, first-yes, number_behind-is, number_behind-yes, numbers-spelt, spelt-numbers}
use Rattle.job_trace.proofs.OptionLemmas.{Spelt, chained, mapped, some-same}
use Rattle.job_trace.proofs.ProgramForms.{consts-spelt, program-spelt, spelt-consts, spelt-program}

abbrev word_of : LineKind → List ℕ
word_of kind.Cores = codes "cores"
word_of kind.Rounds = codes "rounds"
word_of kind.Entries = codes "entries"
word_of kind.Core = codes "core"
word_of kind.Thread = codes "thread"
word_of kind.Order = codes "order"

abbrev first_of : List ℕ → LineKind → Option LineKind → Option LineKind
first_of word j others = cond (bytes_eq word (word_of j)) (Some j) others

kind-is : (word : List ℕ) (k : LineKind) → kind_of word ≡ Some k → word ≡ word_of k
unfolding kind_of
kind-is word k e =
    next kind.Cores (first_of word kind.Rounds (first_of word kind.Entries (first_of word kind.Core (first_of word kind.Thread (first_of word kind.Order None)))))
    (next kind.Rounds (first_of word kind.Entries (first_of word kind.Core (first_of word kind.Thread (first_of word kind.Order None))))
    (next kind.Entries (first_of word kind.Core (first_of word kind.Thread (first_of word kind.Order None)))
    (next kind.Core (first_of word kind.Thread (first_of word kind.Order None))
    (next kind.Thread (first_of word kind.Order None) (next kind.Order None (λ f. none f)))))) e
  where
    none : None ≡ Some k → word ≡ word_of k
    none f = cc

    next : (j : LineKind) (others : Option LineKind) → (others ≡ Some k → word ≡ word_of k) → first_of word j others ≡ Some k → word ≡ word_of k
    next j others later f = by (bytes_eq word (word_of j)) (bytes_eq-Decides word (word_of j)).0 f
      where
        by : (b : Bool) → (b ≡ true → word ≡ word_of j) → cond b (Some j) others ≡ Some k → word ≡ word_of k
        by true same f = subst (λ (i : LineKind). word ≡ word_of i) (some-same f) (same refl)
        by false same f = later f

-- a line of one number
number-spelt : (word : List ℕ) (make : ℕ → TraceLine) (rest : List (List ℕ)) (form : TraceLine) →
    ((n : List ℕ) (number : ℕ) → SpellsNumber n number → SpellsLine (word ∷ n ∷ []) (make number)) →
    ((number : ℕ) → kept_line (make number) ≡ make (kept number)) →
    option_map make (number_alone rest) ≡ Some form → Spelt (SpellsLine (word ∷ rest)) kept_line form
number-spelt word make rest form spell keep e =
    let (number, number_is, form_is) = mapped make (number_alone rest) form e in
    let n = alone-is rest number number_is in
    record {
      whole = make n.whole;
      spells = subst (λ (l : List (List ℕ)). SpellsLine (word ∷ l) (make n.whole)) (sym n.line_is) (spell n.digits n.whole n.spells);
      is = keep n.whole ∙ ap make n.is ∙ form_is;
    }

core-spelt : (line : List (List ℕ)) (form : TraceLine) → core_in line ≡ Some form → Spelt (SpellsLine (codes "core" ∷ line)) kept_line form
unfolding core_in
core-spelt line form e =
    let (found, found_is, then_) = chained with_consts (number_first line) form e in
    let core = first-is line found found_is in
    let (consts, consts_is, form_is) = mapped (core_with found.0) (some_of found.1 (consts_in found.1)) form then_ in
    whole (core.digits) core.whole found.0 found.1 consts core.spells core.is core.line_is consts_is form_is
  where
    whole : (digits : List ℕ) (n number : ℕ) (rest : List (List ℕ)) (consts : List NamedConst) → SpellsNumber digits n → kept n ≡ number →
        line ≡ digits ∷ rest → some_of rest (consts_in rest) ≡ Some consts → core_with number consts ≡ form → Spelt (SpellsLine (codes "core" ∷ line)) kept_line form
    whole digits n number [] consts spells is line_is consts_is form_is = cc
    whole digits n number (first ∷ rest) consts spells is line_is consts_is form_is =
        let given = consts-spelt (first ∷ rest) consts consts_is in
        record {
          whole = core_with n given.whole;
          spells = subst (λ (l : List (List ℕ)). SpellsLine (codes "core" ∷ l) (core_with n given.whole)) (sym line_is) (core_line digits first rest spells given.spells);
          is = ap₂ core_with is given.is ∙ form_is;
        }

order-spelt : (line : List (List ℕ)) (form : TraceLine) → order_in line ≡ Some form → Spelt (SpellsLine (codes "order" ∷ line)) kept_line form
unfolding order_in
order-spelt line form e =
    let (found, found_is, then_) = chained with_order (number_first line) form e in
    let round = first-is line found found_is in
    let (cores, cores_is, form_is) = mapped (order_with found.0) (some_of found.1 (numbers_in found.1)) form then_ in
    whole (round.digits) round.whole found.0 found.1 cores round.spells round.is round.line_is cores_is form_is
  where
    whole : (digits : List ℕ) (n number : ℕ) (rest : List (List ℕ)) (cores : List ℕ) → SpellsNumber digits n → kept n ≡ number →
        line ≡ digits ∷ rest → some_of rest (numbers_in rest) ≡ Some cores → order_with number cores ≡ form → Spelt (SpellsLine (codes "order" ∷ line)) kept_line form
    whole digits n number [] cores spells is line_is cores_is form_is = cc
    whole digits n number (first ∷ rest) cores spells is line_is cores_is form_is =
        let given = numbers-spelt (first ∷ rest) cores cores_is in
        record {
          whole = order_with n given.whole;
          spells = subst (λ (l : List (List ℕ)). SpellsLine (codes "order" ∷ l) (order_with n given.whole)) (sym line_is) (order_line digits first rest spells given.spells);
          is = ap₂ order_with is given.is ∙ form_is;
        }

-- a weight with which words begin, or 1
record Weighing (line : List (List ℕ)) (weight : ℕ) (rest : List (List ℕ)) : Type 0 where
  words : List (List ℕ)
  whole : ℕ
  spells : SpellsWeight words whole
  line_is : line ≡ words ++ rest
  is : kept whole ≡ weight

left-out : (line : List (List ℕ)) (found : Found) → ◌≡◌ {A = Found} (1, line) found → Weighing line found.0 found.1
left-out line found e = record {
  words = [];
  whole = 1;
  spells = no_weight;
  line_is = ap (λ (p : Found). p.1) e;
  is = ap (λ (p : Found). p.0) e;
}

weight-is : (line : List (List ℕ)) (found : Found) → weight_first line ≡ Some found → Weighing line found.0 found.1
unfolding weight_first
weight-is [] found e = left-out [] found (some-same e)
weight-is (first ∷ rest) found e = by (bytes_eq first (codes "weight")) (bytes_eq-Decides first (codes "weight")).0 e
  where
    by : (b : Bool) → (b ≡ true → first ≡ codes "weight") → cond b (number_first rest) (Some (1, first ∷ rest)) ≡ Some found → Weighing (first ∷ rest) found.0 found.1
    by true same e =
        let n = first-is rest found e in
        record {
          words = codes "weight" ∷ n.digits ∷ [];
          whole = n.whole;
          spells = some_weight n.digits n.spells;
          line_is = ap₂ (λ (w : List ℕ) ws. w ∷ ws) (same refl) n.line_is;
          is = n.is;
        }
    by false same e = left-out (first ∷ rest) found (some-same e)

-- what stands behind the core's number in a thread's line
record Weighed (id core round : ℕ) (line : List (List ℕ)) (form : TraceLine) : Type 0 where
  weighing : List (List ℕ)
  program : List (List ℕ)
  weight : ℕ
  bursts : List Burst
  weighs : SpellsWeight weighing weight
  runs : SpellsProgram program bursts
  line_is : line ≡ weighing ++ program
  is : thread_with id core round (kept weight) (map kept_burst bursts) ≡ form

weighed-is : (id core round : ℕ) (line : List (List ℕ)) (form : TraceLine) → weighed_in id core round line ≡ Some form → Weighed id core round line form
unfolding weighed_in
weighed-is id core round line form e =
    let (found, found_is, then_) = chained (with_weight id core round) (weight_first line) form e in
    let weight = weight-is line found found_is in
    let (bursts, bursts_is, form_is) = mapped (thread_with id core round found.0) (program_in found.1) form then_ in
    let program = program-spelt found.1 bursts bursts_is in
    record {
      weighing = weight.words;
      program = found.1;
      weight = weight.whole;
      bursts = program.whole;
      weighs = weight.spells;
      runs = program.spells;
      line_is = weight.line_is;
      is = ap₂ (thread_with id core round) weight.is program.is ∙ form_is;
    }

thread-spelt : (line : List (List ℕ)) (form : TraceLine) → thread_in line ≡ Some form → Spelt (SpellsLine (codes "thread" ∷ line)) kept_line form
unfolding thread_in
thread-spelt line form e =
    let (t, t_is, then_core) = chained with_id (number_first line) form e in
    let (c, c_is, then_round) = chained (with_core t.0) (number_behind (codes "core") t.1) form then_core in
    let (r, r_is, then_weight) = chained (with_round t.0 c.0) (number_behind (codes "round") c.1) form then_round in
    let id = first-is line t t_is in
    let core = number_behind-is (codes "core") t.1 c c_is in
    let round = number_behind-is (codes "round") c.1 r r_is in
    let tail = weighed-is t.0 c.0 r.0 r.1 form then_weight in
    let made : TraceLine = thread_with id.whole core.whole round.whole tail.weight tail.bursts in
    let line_is : line ≡ id.digits ∷ codes "core" ∷ core.digits ∷ codes "round" ∷ round.digits ∷ (tail.weighing ++ tail.program) =
    id.line_is ∙ ap (λ (l : List (List ℕ)). id.digits ∷ l) (core.line_is ∙ ap (λ (l : List (List ℕ)). codes "core" ∷ core.digits ∷ l)
    (round.line_is ∙ ap (λ (l : List (List ℕ)). codes "round" ∷ round.digits ∷ l) tail.line_is)) in
    record {
      whole = made;
      spells = subst (λ (l : List (List ℕ)). SpellsLine (codes "thread" ∷ l) made) (sym line_is)
          (thread_line id.digits core.digits round.digits tail.weighing tail.program id.spells core.spells round.spells tail.weighs tail.runs);
      is = ap₂ (λ i c. thread_with i c (kept round.whole) (kept tail.weight) (map kept_burst tail.bursts)) id.is core.is
          ∙ ap (λ r. thread_with t.0 c.0 r (kept tail.weight) (map kept_burst tail.bursts)) round.is ∙ tail.is;
    }

kind-spelt : (k : LineKind) (rest : List (List ℕ)) (form : TraceLine) → line_in k rest ≡ Some form → Spelt (SpellsLine (word_of k ∷ rest)) kept_line form
unfolding line_in
kind-spelt kind.Cores rest form e = number-spelt (codes "cores") Cores rest form (λ n number spells. cores_line n spells) (λ number. refl) e
kind-spelt kind.Rounds rest form e = number-spelt (codes "rounds") Rounds rest form (λ n number spells. rounds_line n spells) (λ number. refl) e
kind-spelt kind.Entries rest form e = number-spelt (codes "entries") Entries rest form (λ n number spells. entries_line n spells) (λ number. refl) e
kind-spelt kind.Core rest form e = core-spelt rest form e
kind-spelt kind.Thread rest form e = thread-spelt rest form e
kind-spelt kind.Order rest form e = order-spelt rest form e

-- the form that was read is kept of a line that is spelt
pub form-spelt : (line : List (List ℕ)) (form : TraceLine) → form_of line ≡ Some form → Spelt (SpellsLine line) kept_line form
unfolding form_of
form-spelt [] form e = cc
form-spelt (first ∷ rest) form e = by (kind_of first) refl e
  where
    by : (o : Option LineKind) → kind_of first ≡ o → by_kind rest o ≡ Some form → Spelt (SpellsLine (first ∷ rest)) kept_line form
    by None is e = cc
    by (Some k) is e = subst (λ (w : List ℕ). Spelt (SpellsLine (w ∷ rest)) kept_line form) (sym (kind-is first k is)) (kind-spelt k rest form e)

-- words that begin a program are no weight
program-weight : (line : List (List ℕ)) (bursts : List Burst) → SpellsProgram line bursts → weight_first line ≡ Some (1, line)
unfolding weight_first
program-weight line bursts (run_end n spells) = refl
program-weight line bursts run_forever = refl
program-weight line bursts (run_yield n rest spells more) = refl
program-weight line bursts (run_block n k rest spells rounds more) = refl

weight-first : (weighing program : List (List ℕ)) (weight : ℕ) (bursts : List Burst) → SpellsWeight weighing weight → SpellsProgram program bursts →
    weight_first (weighing ++ program) ≡ Some (kept weight, program)
unfolding weight_first
weight-first weighing program weight bursts no_weight runs = program-weight program bursts runs
weight-first weighing program weight bursts (some_weight w spells) runs = first-yes w program weight spells

-- what is kept of a line that is spelt is read
pub spelt-form : (line : List (List ℕ)) (whole : TraceLine) → SpellsLine line whole → form_of line ≡ Some (kept_line whole)
unfolding form_of kind_of line_in thread_in weighed_in core_in order_in
spelt-form line whole (cores_line n {number = number} spells) = ap (option_map Cores) (alone-yes n number spells)
spelt-form line whole (rounds_line r {number = number} spells) = ap (option_map Rounds) (alone-yes r number spells)
spelt-form line whole (entries_line e {number = number} spells) = ap (option_map Entries) (alone-yes e number spells)
spelt-form line whole (core_line c first rest {core = core} {consts = consts} spells given) =
    ap (option_and_then with_consts) (first-yes c (first ∷ rest) core spells)
    ∙ ap (option_map (core_with (kept core))) (spelt-consts (first ∷ rest) consts given)
spelt-form line whole (order_line r first rest {round = round} {cores = cores} spells given) =
    ap (option_and_then with_order) (first-yes r (first ∷ rest) round spells)
    ∙ ap (option_map (order_with (kept round))) (spelt-numbers (first ∷ rest) cores given)
spelt-form line whole (thread_line t c r weighing program {id = id} {core = core} {round = round} {weight = weight} {bursts = bursts} t_is c_is r_is weighs runs) =
    ap (option_and_then with_id) (first-yes t (codes "core" ∷ c ∷ codes "round" ∷ r ∷ (weighing ++ program)) id t_is)
    ∙ ap (option_and_then (with_core (kept id))) (number_behind-yes (codes "core") c (codes "round" ∷ r ∷ (weighing ++ program)) core c_is)
    ∙ ap (option_and_then (with_round (kept id) (kept core))) (number_behind-yes (codes "round") r (weighing ++ program) round r_is)
    ∙ ap (option_and_then (with_weight (kept id) (kept core) (kept round))) (weight-first weighing program weight bursts weighs runs)
    ∙ ap (option_map (thread_with (kept id) (kept core) (kept round) (kept weight))) (spelt-program program bursts runs)
