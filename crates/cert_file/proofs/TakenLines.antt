-- The lines of a file: none has a line feed, and what comes behind a line that is taken is settled by the line.
use Rattle.std.proofs.Common.{◌≡◌, ◌≢◌, ℕ, suc, ◌<◌, ◌^◌, ◌==◌, Bool, true, false, not, List, [], ◌∷◌, ◌++◌, codes, decimal, inl, ap, sym, subst, ◌∙◌, refl, arith}
use Rattle.std.specs.List.{list_all}
use Rattle.std.proofs.lemmas.Bool.{false≢true, eqb-false}
use Rattle.std.proofs.lemmas.Fmt.{decimal_injective}
use Rattle.std.proofs.lemmas.List.{append_cancel_left}
use Rattle.std.proofs.lemmas.List.Elements.{All-nil, All-cons, All-append}
use Rattle.sched_base.specs.declared.limits.TheConstants.{MAX_SPLITS}
use Rattle.obligations.specs.declared.names.ObName.{ObName}
use Rattle.obligations.specs.declared.names.ObName.TheVariants as name
use Rattle.obligations.specs.Names.{ob_names, ob_text}
use Rattle.text_forms.specs.Cuts.{Lacks}
use Rattle.cert_lines.specs.Faults.{Takes}
use Rattle.cert_lines.proofs.BadLines.{same_line, takes_lacks_feed}
use Rattle.cert_lines.proofs.Digits.{decimal_lacks}
use Rattle.cert_lines.proofs.OneReading.{same_takes}
use Rattle.cert_file.specs.BadLines.{Coming, all, parts, TakesLine, takes_heading, takes_obligation, takes_system, takes_node}
use Rattle.cert_file.specs.Text.{heading, obligation_line, system_line}

abbrev IsNoFeed : ℕ → Type 0
IsNoFeed byte = byte ≢ 10

-- a text that passes a test
plain : (text : List ℕ) → list_all (λ byte. not (byte == 10)) text ≡ true → Lacks 10 text
plain [] test = All-nil IsNoFeed
plain (byte ∷ rest) test = by (byte == 10) refl (plain rest)
  where
    by : (b : Bool) → (byte == 10) ≡ b → (list_all (λ other. not (other == 10)) rest ≡ true → Lacks 10 rest) → Lacks 10 (byte ∷ rest)
    by true is after = absurd (false≢true (rw is at test))
    by false is after = All-cons IsNoFeed byte rest (eqb-false byte 10 is) (after (rw is at test))

name_lacks : (ob : ObName) → Lacks 10 (ob_text ob)
name_lacks name.B1 = plain (codes "B1") refl
name_lacks name.B2 = plain (codes "B2") refl
name_lacks name.B3 = plain (codes "B3") refl
name_lacks name.B4 = plain (codes "B4") refl
name_lacks name.H1Enqueue = plain (codes "H1.enqueue") refl
name_lacks name.H2Enqueue = plain (codes "H2.enqueue") refl
name_lacks name.H1Tick = plain (codes "H1.tick") refl
name_lacks name.H2Tick = plain (codes "H2.tick") refl
name_lacks name.H1Yield = plain (codes "H1.yield") refl
name_lacks name.H2Yield = plain (codes "H2.yield") refl
name_lacks name.H1Block = plain (codes "H1.block") refl
name_lacks name.H2Block = plain (codes "H2.block") refl

pub heading_lacks : Lacks 10 heading
heading_lacks = plain heading refl

pub obligation_lacks : (ob : ObName) (systems : ℕ) → systems < 2 ^ 32 → Lacks 10 (obligation_line ob systems)
obligation_lacks ob systems lt =
    let number = All-cons IsNoFeed 32 (decimal systems) (λ same. omega (arith, same)) (decimal_lacks 10 systems (inl (omega arith)) (omega (arith, lt))) in
    All-append IsNoFeed (codes "obligation ") (ob_text ob ++ 32 ∷ decimal systems) (plain (codes "obligation ") refl) (All-append IsNoFeed (ob_text ob) (32 ∷ decimal systems) (name_lacks ob) number)

pub system_lacks : (lines : ℕ) → lines < 2 ^ 64 → Lacks 10 (system_line lines)
system_lacks lines lt = All-append IsNoFeed (codes "system ") (decimal lines) (plain (codes "system ") refl) (decimal_lacks 10 lines (inl (omega arith)) lt)

pub taken_lacks : (coming : Coming) (line : List ℕ) (after : Coming) → TakesLine coming line after → Lacks 10 line
taken_lacks _ _ _ takes_heading = heading_lacks
taken_lacks _ _ _ (takes_obligation ob names systems lt) = obligation_lacks ob systems lt
taken_lacks _ _ _ (takes_system systems names lines some lt) = system_lacks lines lt
taken_lacks _ _ _ (takes_node nodes after line lines systems names takes) = takes_lacks_feed nodes line after takes

-- a line that is taken, with what comes before it as an equation
pub data Taken (coming : Coming) (line : List ℕ) (after : Coming) : Type 0 where
  of_heading : coming ≡ all → line ≡ heading → after ≡ parts [] 0 0 ob_names → Taken coming line after
  of_obligation : (ob : ObName) (names : List ObName) (systems : ℕ) → systems < 2 ^ 32 → coming ≡ parts [] 0 0 (ob ∷ names)
      → line ≡ obligation_line ob systems → after ≡ parts [] 0 systems names → Taken coming line after
  of_system : (systems : ℕ) (names : List ObName) (lines : ℕ) → 0 < lines → lines < 2 ^ 64 → coming ≡ parts [] 0 (suc systems) names
      → line ≡ system_line lines → after ≡ parts (MAX_SPLITS ∷ []) lines systems names → Taken coming line after
  of_node : (nodes rest : List ℕ) (lines systems : ℕ) (names : List ObName) → Takes nodes line rest → coming ≡ parts nodes (suc lines) systems names
      → after ≡ parts rest lines systems names → Taken coming line after

pub taken : (coming : Coming) (line : List ℕ) (after : Coming) → TakesLine coming line after → Taken coming line after
taken _ _ _ takes_heading = of_heading refl refl refl
taken _ _ _ (takes_obligation ob names systems lt) = of_obligation ob names systems lt refl refl refl
taken _ _ _ (takes_system systems names lines some lt) = of_system systems names lines some lt refl refl refl
taken _ _ _ (takes_node nodes after line lines systems names takes) = of_node nodes after lines systems names takes refl refl

abbrev pub lines_in : Coming → ℕ
lines_in all = 0
lines_in (parts nodes lines systems names) = lines

abbrev pub systems_in : Coming → ℕ
systems_in all = 0
systems_in (parts nodes lines systems names) = systems

abbrev pub nodes_in : Coming → List ℕ
nodes_in all = []
nodes_in (parts nodes lines systems names) = nodes

abbrev pub names_in : Coming → List ObName
names_in all = []
names_in (parts nodes lines systems names) = names

pub same_obligation : (ob other : ObName) (one two : ℕ) → one < 2 ^ 32 → two < 2 ^ 32 → ob ≡ other → obligation_line ob one ≡ obligation_line other two → one ≡ two
same_obligation ob other one two lt below names same =
    let line : obligation_line ob one ≡ obligation_line ob two = same ∙ ap (λ o. obligation_line o two) (sym names) in
    let behind : ob_text ob ++ 32 ∷ decimal one ≡ ob_text ob ++ 32 ∷ decimal two = append_cancel_left (codes "obligation ") _ _ line in
    let numbers : 32 ∷ decimal one ≡ 32 ∷ decimal two = append_cancel_left (ob_text ob) _ _ behind in
    let last : decimal one ≡ decimal two = cc numbers in
    decimal_injective one two (omega (arith, lt)) (omega (arith, below)) last

same_system : (one two : ℕ) → one < 2 ^ 64 → two < 2 ^ 64 → system_line one ≡ system_line two → one ≡ two
same_system one two lt below same = decimal_injective one two lt below (append_cancel_left (codes "system ") _ _ same)

abbrev pub first_in : List ObName → ObName
first_in [] = name.B1
first_in (ob ∷ obs) = ob

abbrev rest_in : List ObName → List ObName
rest_in [] = []
rest_in (ob ∷ obs) = obs

same_after : (coming : Coming) (line : List ℕ) (one two : Coming) → Taken coming line one → Taken coming line two → one ≡ two
same_after coming line one two (of_heading c l a) (of_heading d m b) = a ∙ sym b
same_after coming line one two (of_heading c l a) (of_obligation ob names systems lt d m b) = absurd (let clash : all ≡ parts [] 0 0 (ob ∷ names) = sym c ∙ d in let none : ⊥ = cc clash in none)
same_after coming line one two (of_heading c l a) (of_system systems names lines some lt d m b) = absurd (let clash : all ≡ parts [] 0 (suc systems) names = sym c ∙ d in let none : ⊥ = cc clash in none)
same_after coming line one two (of_heading c l a) (of_node nodes rest lines systems names takes d b) = absurd (let clash : all ≡ parts nodes (suc lines) systems names = sym c ∙ d in let none : ⊥ = cc clash in none)
same_after coming line one two (of_obligation ob names systems lt c l a) (of_heading d m b) = absurd (let clash : parts [] 0 0 (ob ∷ names) ≡ all = sym c ∙ d in let none : ⊥ = cc clash in none)
same_after coming line one two (of_obligation ob names systems lt c l a) (of_obligation other more count below d m b) =
    let same : parts [] 0 0 (ob ∷ names) ≡ parts [] 0 0 (other ∷ more) = sym c ∙ d in
    let obs : ob ≡ other = ap (λ x. first_in (names_in x)) same in
    let rests : names ≡ more = ap (λ x. rest_in (names_in x)) same in
    let counts = same_obligation ob other systems count lt below obs (sym l ∙ m) in
    a ∙ ap (λ k. parts [] 0 k names) counts ∙ ap (λ ns. parts [] 0 count ns) rests ∙ sym b
same_after coming line one two (of_obligation ob names systems lt c l a) (of_system count more lines some below d m b) = absurd (omega (arith, ap systems_in (sym c ∙ d)))
same_after coming line one two (of_obligation ob names systems lt c l a) (of_node nodes rest lines count more takes d b) = absurd (omega (arith, ap lines_in (sym c ∙ d)))
same_after coming line one two (of_system systems names lines some lt c l a) (of_heading d m b) = absurd (let clash : parts [] 0 (suc systems) names ≡ all = sym c ∙ d in let none : ⊥ = cc clash in none)
same_after coming line one two (of_system systems names lines some lt c l a) (of_obligation other more count below d m b) = absurd (omega (arith, ap systems_in (sym c ∙ d)))
same_after coming line one two (of_system systems names lines some lt c l a) (of_system count more length more_some below d m b) =
    let same : parts [] 0 (suc systems) names ≡ parts [] 0 (suc count) more = sym c ∙ d in
    let counts : systems ≡ count = omega (arith, ap systems_in same) in
    let obs : names ≡ more = ap names_in same in
    let lengths = same_system lines length lt below (sym l ∙ m) in
    a ∙ ap (λ k. parts (MAX_SPLITS ∷ []) k systems names) lengths ∙ ap (λ k. parts (MAX_SPLITS ∷ []) length k names) counts ∙ ap (λ ns. parts (MAX_SPLITS ∷ []) length count ns) obs ∙ sym b
same_after coming line one two (of_system systems names lines some lt c l a) (of_node nodes rest length count more takes d b) = absurd (omega (arith, ap lines_in (sym c ∙ d)))
same_after coming line one two (of_node nodes rest lines systems names takes c a) (of_heading d m b) = absurd (let clash : parts nodes (suc lines) systems names ≡ all = sym c ∙ d in let none : ⊥ = cc clash in none)
same_after coming line one two (of_node nodes rest lines systems names takes c a) (of_obligation other more count below d m b) = absurd (omega (arith, ap lines_in (sym c ∙ d)))
same_after coming line one two (of_node nodes rest lines systems names takes c a) (of_system count more length some below d m b) = absurd (omega (arith, ap lines_in (sym c ∙ d)))
same_after coming line one two (of_node nodes rest lines systems names takes c a) (of_node others ends length count more takes_too d b) =
    let same : parts nodes (suc lines) systems names ≡ parts others (suc length) count more = sym c ∙ d in
    let lengths : lines ≡ length = omega (arith, ap lines_in same) in
    let counts : systems ≡ count = ap systems_in same in
    let obs : names ≡ more = ap names_in same in
    let starts : nodes ≡ others = ap nodes_in same in
    let too = subst (λ (ns : List ℕ). Takes ns line ends) (sym starts) takes_too in
    let rests = (same_takes nodes line line rest ends [] [] takes too refl).1 in
    a ∙ ap (λ ns. parts ns lines systems names) rests ∙ ap (λ k. parts ends k systems names) lengths ∙ ap (λ k. parts ends length k names) counts ∙ ap (λ ns. parts ends length count ns) obs ∙ sym b

-- a text's first line is taken in one way
pub same_taken : (coming : Coming) (line other : List ℕ) (one two : Coming) (rest behind : List ℕ) → TakesLine coming line one → TakesLine coming other two
    → line ++ 10 ∷ rest ≡ other ++ 10 ∷ behind → (rest ≡ behind) × (one ≡ two)
same_taken coming line other one two rest behind first second same =
    let cut = same_line line rest other behind (taken_lacks coming line one first) (taken_lacks coming other two second) same in
    (cut.1, same_after coming line one two (taken coming line one first) (subst (λ (l : List ℕ). Taken coming l two) (sym cut.0) (taken coming other two second)))
