-- Programs and constants that words are, both ways.
use Rattle.std.proofs.Common.{◌≡◌, ◌∙◌, ℕ, Bool, true, false, cond, List, [], ◌∷◌, map, Option, Some, None, codes, refl, ap, ap₂, sym, subst}
use Rattle.std.specs.Prelude.{ℤ, option_and_then, option_map}
use Rattle.std.specs.Str.{bytes_eq}
use Rattle.std.proofs.lemmas.Slice.Eq.{bytes_eq-Decides}
use Rattle.round_model.specs.declared.plan.Burst.{Burst}
use Rattle.job_trace.specs.declared.trace.NamedConst.{NamedConst}
use Rattle.job_trace.specs.Words.{is_name}
use Rattle.job_trace.specs.Forms.{SpellsConsts, SpellsNumber, SpellsProgram, next_const, no_const, run_block, run_end, run_forever, run_yield, signed_in}
use Rattle.job_trace.specs.Code.Steps.{behind, block_of, blocks, const_of, consts_in, endless, ends, joined, kept, kept_in, kept_signed_in, last_in, named, number_alone, program_in, unless_over, yields}
use Rattle.job_trace.proofs.KeptLemmas.{kept_burst, kept_const, kept_value}
use Rattle.job_trace.proofs.NumberForms.{alone-is, behind-is, kept-is, kept-yes, signed-is, signed-yes}
use Rattle.job_trace.proofs.OptionLemmas.{Spelt, both, chained, mapped, some-same}

same-word : (first word : List ℕ) → bytes_eq first word ≡ true → first ≡ word
same-word first word e = (bytes_eq-Decides first word).0 e

one-burst : (line : List (List ℕ)) (b : Burst) (bursts : List Burst) → Spelt (SpellsProgram line) (map kept_burst) (b ∷ []) →
    joined (Some b) (Some []) ≡ Some bursts → Spelt (SpellsProgram line) (map kept_burst) bursts
one-burst line b bursts spelt e = subst (λ bs. Spelt (SpellsProgram line) (map kept_burst) bs) (some-same e) spelt

last-spelt : (line : List (List ℕ)) (b : Burst) → last_in line ≡ Some b → Spelt (SpellsProgram line) (map kept_burst) (b ∷ [])
unfolding last_in
last-spelt line b e = by (behind (codes "forever") line) refl e
  where
    run : option_map ends (option_and_then number_alone (behind (codes "run") line)) ≡ Some b → Spelt (SpellsProgram line) (map kept_burst) (b ∷ [])
    run e =
        let (units, units_is, b_is) = mapped ends (option_and_then number_alone (behind (codes "run") line)) b e in
        let (rest, rest_is, alone) = chained number_alone (behind (codes "run") line) units units_is in
        let n = alone-is rest units alone in
        let line_is : line ≡ codes "run" ∷ n.digits ∷ [] = behind-is (codes "run") line rest rest_is ∙ ap (λ tail. codes "run" ∷ tail) n.line_is in
        record {
          whole = ends n.whole ∷ [];
          spells = subst (λ l. SpellsProgram l (ends n.whole ∷ [])) (sym line_is) (run_end n.digits n.spells);
          is = ap (λ u. ends u ∷ []) n.is ∙ ap (λ x. x ∷ []) b_is;
        }

    by : (o : Option (List (List ℕ))) → behind (codes "forever") line ≡ o →
        unless_over o (option_map ends (option_and_then number_alone (behind (codes "run") line))) ≡ Some b → Spelt (SpellsProgram line) (map kept_burst) (b ∷ [])
    by None is e = run e
    by (Some []) is e = record {
      whole = endless ∷ [];
      spells = subst (λ l. SpellsProgram l (endless ∷ [])) (sym (behind-is (codes "forever") line [] is)) run_forever;
      is = ap (λ x. x ∷ []) (some-same e);
    }
    by (Some (first ∷ rest)) is e = cc

-- each program of the words is spelt
abbrev Reads : List (List ℕ) → Type 0
Reads line = (bs : List Burst) → program_in line ≡ Some bs → Spelt (SpellsProgram line) (map kept_burst) bs

pub program-spelt : (line : List (List ℕ)) (bursts : List Burst) → program_in line ≡ Some bursts → Spelt (SpellsProgram line) (map kept_burst) bursts
unfolding program_in
program-spelt [] bursts e = cc
program-spelt (first ∷ []) bursts e =
    let (b, rest, b_is, rest_is, is) = both (last_in (first ∷ [])) (Some []) bursts e in
    one-burst (first ∷ []) b bursts (last-spelt (first ∷ []) b b_is) (ap (λ o. joined o (Some [])) (sym b_is) ∙ e)
program-spelt (first ∷ n ∷ []) bursts e =
    let (b, rest, b_is, rest_is, is) = both (last_in (first ∷ n ∷ [])) (Some []) bursts e in
    one-burst (first ∷ n ∷ []) b bursts (last-spelt (first ∷ n ∷ []) b b_is) (ap (λ o. joined o (Some [])) (sym b_is) ∙ e)
program-spelt (run ∷ n ∷ end ∷ []) bursts e = cc
program-spelt (run ∷ n ∷ end ∷ k ∷ rest) bursts e =
    by_run (bytes_eq run (codes "run")) (same-word run (codes "run")) (program-spelt (k ∷ rest)) (program-spelt rest) e
  where
    yielding : run ≡ codes "run" → end ≡ codes "yield" → Reads (k ∷ rest) → joined (option_map yields (kept_in n)) (program_in (k ∷ rest)) ≡ Some bursts →
        Spelt (SpellsProgram (run ∷ n ∷ end ∷ k ∷ rest)) (map kept_burst) bursts
    yielding run_is end_is later e =
        let (b, more, b_is, more_is, is) = both (option_map yields (kept_in n)) (program_in (k ∷ rest)) bursts e in
        let (u, u_is, yields_is) = mapped yields (kept_in n) b b_is in
        let units = kept-is n u u_is in
        let tail = later more more_is in
        let spells : SpellsProgram (codes "run" ∷ n ∷ codes "yield" ∷ k ∷ rest) (yields units.whole ∷ tail.whole) = run_yield n {units = units.whole} (k ∷ rest) {bursts = tail.whole} units.spells tail.spells in
        record {
          whole = yields units.whole ∷ tail.whole;
          spells = subst (λ (r : List ℕ). SpellsProgram (r ∷ n ∷ end ∷ k ∷ rest) (yields units.whole ∷ tail.whole)) (sym run_is)
              (subst (λ (w : List ℕ). SpellsProgram (codes "run" ∷ n ∷ w ∷ k ∷ rest) (yields units.whole ∷ tail.whole)) (sym end_is) spells);
          is = ap₂ (λ (x : Burst) xs. x ∷ xs) (ap yields units.is ∙ yields_is) tail.is ∙ is;
        }

    block : (o : Option ℕ) → kept_in n ≡ o → (b : Burst) → block_of o (kept_in k) ≡ Some b →
        (units : Spelt (SpellsNumber n) kept b.units) × (rounds : ℕ) × SpellsNumber k rounds × (blocks (kept units.whole) (kept rounds) ≡ b)
    block None o_is b e = cc
    block (Some u) o_is b e =
        let (r, r_is, b_is) = mapped (blocks u) (kept_in k) b e in
        let units = kept-is n u o_is in
        let rounds = kept-is k r r_is in
        let units_is : u ≡ b.units = ap (λ (x : Burst). x.units) b_is in
        (record { whole = units.whole; spells = units.spells; is = units.is ∙ units_is }, rounds.whole, rounds.spells, ap₂ blocks units.is rounds.is ∙ b_is)

    blocking : run ≡ codes "run" → end ≡ codes "block" → Reads rest → joined (block_of (kept_in n) (kept_in k)) (program_in rest) ≡ Some bursts →
        Spelt (SpellsProgram (run ∷ n ∷ end ∷ k ∷ rest)) (map kept_burst) bursts
    blocking run_is end_is later e =
        let (b, more, b_is, more_is, is) = both (block_of (kept_in n) (kept_in k)) (program_in rest) bursts e in
        let (units, rounds, rounds_spells, blocks_is) = block (kept_in n) refl b b_is in
        let tail = later more more_is in
        let spells : SpellsProgram (codes "run" ∷ n ∷ codes "block" ∷ k ∷ rest) (blocks units.whole rounds ∷ tail.whole) = run_block n k {units = units.whole} {rounds = rounds} rest {bursts = tail.whole} units.spells rounds_spells tail.spells in
        record {
          whole = blocks units.whole rounds ∷ tail.whole;
          spells = subst (λ (r : List ℕ). SpellsProgram (r ∷ n ∷ end ∷ k ∷ rest) (blocks units.whole rounds ∷ tail.whole)) (sym run_is)
              (subst (λ (w : List ℕ). SpellsProgram (codes "run" ∷ n ∷ w ∷ k ∷ rest) (blocks units.whole rounds ∷ tail.whole)) (sym end_is) spells);
          is = ap₂ (λ (x : Burst) xs. x ∷ xs) blocks_is tail.is ∙ is;
        }

    by_block : (b : Bool) → (b ≡ true → end ≡ codes "block") → run ≡ codes "run" → Reads rest →
        cond b (joined (block_of (kept_in n) (kept_in k)) (program_in rest)) None ≡ Some bursts → Spelt (SpellsProgram (run ∷ n ∷ end ∷ k ∷ rest)) (map kept_burst) bursts
    by_block true same run_is later e = blocking run_is (same refl) later e
    by_block false same run_is later e = cc

    by_yield : (b : Bool) → (b ≡ true → end ≡ codes "yield") → run ≡ codes "run" → Reads (k ∷ rest) → Reads rest →
        cond b (joined (option_map yields (kept_in n)) (program_in (k ∷ rest)))
        (cond (bytes_eq end (codes "block")) (joined (block_of (kept_in n) (kept_in k)) (program_in rest)) None) ≡ Some bursts →
        Spelt (SpellsProgram (run ∷ n ∷ end ∷ k ∷ rest)) (map kept_burst) bursts
    by_yield true same run_is next later e = yielding run_is (same refl) next e
    by_yield false same run_is next later e = by_block (bytes_eq end (codes "block")) (same-word end (codes "block")) run_is later e

    by_run : (b : Bool) → (b ≡ true → run ≡ codes "run") → Reads (k ∷ rest) → Reads rest →
        cond b (cond (bytes_eq end (codes "yield")) (joined (option_map yields (kept_in n)) (program_in (k ∷ rest)))
        (cond (bytes_eq end (codes "block")) (joined (block_of (kept_in n) (kept_in k)) (program_in rest)) None)) None ≡ Some bursts →
        Spelt (SpellsProgram (run ∷ n ∷ end ∷ k ∷ rest)) (map kept_burst) bursts
    by_run true same next later e = by_yield (bytes_eq end (codes "yield")) (same-word end (codes "yield")) (same refl) next later e
    by_run false same next later e = cc

pub spelt-program : (line : List (List ℕ)) (bursts : List Burst) → SpellsProgram line bursts → program_in line ≡ Some (map kept_burst bursts)
unfolding program_in last_in number_alone behind
spelt-program line bursts (run_end n {units = units} spells) = rw (kept-yes n units spells) refl
spelt-program line bursts run_forever = refl
spelt-program line bursts (run_yield n {units = units} rest {bursts = later} spells more) =
    followed rest later more (spelt-program rest later more)
  where
    followed : (rest : List (List ℕ)) (later : List Burst) → SpellsProgram rest later → program_in rest ≡ Some (map kept_burst later) →
        program_in (codes "run" ∷ n ∷ codes "yield" ∷ rest) ≡ Some (yields (kept units) ∷ map kept_burst later)
    followed [] later more read = elim more [ ]
    followed (k ∷ rest) later more read = ap₂ joined (ap (option_map yields) (kept-yes n units spells)) read
spelt-program line bursts (run_block n k {units = units} {rounds = rounds} rest {bursts = later} spells rounds_spells more) =
    ap₂ joined (ap₂ block_of (kept-yes n units spells) (kept-yes k rounds rounds_spells)) (spelt-program rest later more)

const-spelt : (name v : List ℕ) (given : NamedConst) → const_of name v ≡ Some given →
    (is_name name ≡ true) × (value : Spelt (λ z. signed_in v ≡ Some z) kept_value given.value) × (given.name ≡ name)
const-spelt name v given e = by (is_name name) refl e
  where
    by : (b : Bool) → is_name name ≡ b → cond b (option_map (named name) (kept_signed_in v)) None ≡ Some given →
        (is_name name ≡ true) × (value : Spelt (λ z. signed_in v ≡ Some z) kept_value given.value) × (given.name ≡ name)
    by true is e =
        let (z, z_is, given_is) = mapped (named name) (kept_signed_in v) given e in
        let value = signed-is v z z_is in
        (is, record { whole = value.whole; spells = value.spells; is = value.is ∙ ap (λ (g : NamedConst). g.value) given_is }, sym (ap (λ (g : NamedConst). g.name) given_is))
    by false is e = cc

pub consts-spelt : (line : List (List ℕ)) (consts : List NamedConst) → consts_in line ≡ Some consts → Spelt (SpellsConsts line) (map kept_const) consts
unfolding consts_in
consts-spelt [] consts e = record { whole = []; spells = no_const; is = some-same e }
consts-spelt (name ∷ []) consts e = cc
consts-spelt (name ∷ v ∷ rest) consts e =
    let (given, more, given_is, more_is, is) = both (const_of name v) (consts_in rest) consts e in
    let (named_so, value, name_is) = const-spelt name v given given_is in
    let later = consts-spelt rest more more_is in
    record {
      whole = named name value.whole ∷ later.whole;
      spells = next_const name v rest named_so value.spells later.spells;
      is = ap₂ (λ (x : NamedConst) xs. x ∷ xs) (ap₂ named (sym name_is) value.is) later.is ∙ is;
    }

const-yes : (name v : List ℕ) (value : ℤ) → is_name name ≡ true → signed_in v ≡ Some value → const_of name v ≡ Some (named name (kept_value value))
const-yes name v value is spells = rw is (ap (option_map (named name)) (signed-yes v value spells))

pub spelt-consts : (line : List (List ℕ)) (consts : List NamedConst) → SpellsConsts line consts → consts_in line ≡ Some (map kept_const consts)
unfolding consts_in
spelt-consts line consts no_const = refl
spelt-consts line consts (next_const name v rest {value = value} {consts = later} named_so spells more) =
    ap₂ joined (const-yes name v value named_so spells) (spelt-consts rest later more)
