-- What `clap` makes of words that are plain: by the verb, and by the number of words behind it.
use Rattle.std.proofs.Common.{◌≡◌, ◌≤◌, ◌&&◌, ℕ, Bool, true, false, not, List, [], ◌∷◌, map, length, eqb, Option, None, codes, refl, sym, subst, ap, arith}
use Rattle.std.specs.List.{list_all}
use Rattle.std.specs.Str.{bytes_eq}
use Rattle.std.proofs.lemmas.List.{length-map}
use Rattle.std.proofs.lemmas.Slice.Eq.{bytes_eq-Decides}
use Rattle.clap.specs.Words.{IsAmong, Kinds, Row, Text, fault_of, subcommand_of}
use Rattle.clap.proofs.OnLiterals.{clap_on_literals}
use Rattle.command_words.specs.Command.{Asked, asked_by, is_plain}
use Rattle.command_words.specs.Program.{asked_from, program}

-- what was found asks for that, and for nothing where there is a fault
abbrev pub Agrees : Kinds → Option (Text × List Row) → Option Asked → Type 0
Agrees [] found asked = asked_from found ≡ asked
Agrees (kind ∷ kinds) found asked = asked ≡ None

abbrev pub AgreesAt : List Text → Type 0
AgreesAt words = Agrees (fault_of program words) (subcommand_of program words) (asked_by words)

-- a plain word
record Word : Type 0 where
  pub first : ℕ
  pub rest : Text
  pub plain : eqb first 45 ≡ false

abbrev text : Word → Text
text w = w.first ∷ w.rest

-- the words behind a verb
data Behind : Type 0 where
  none : Behind
  one : (a : Word) → Behind
  two : (a b : Word) → Behind
  three : (a b c : Word) → Behind

abbrev texts : Behind → List Text
texts none = []
texts (one a) = text a ∷ []
texts (two a b) = text a ∷ text b ∷ []
texts (three a b c) = text a ∷ text b ∷ text c ∷ []

check : (behind : Behind) → AgreesAt (codes "check" ∷ texts behind)
unfolding clap_on_literals
check none = refl
check (one a) = simp a.plain
check (two a b) = simp (a.plain, b.plain)
check (three a b c) = simp (a.plain, b.plain, c.plain)

prove : (behind : Behind) → AgreesAt (codes "prove" ∷ texts behind)
unfolding clap_on_literals
prove none = refl
prove (one a) = simp a.plain
prove (two a b) = simp (a.plain, b.plain)
prove (three a b c) = simp (a.plain, b.plain, c.plain)

bound : (behind : Behind) → AgreesAt (codes "bound" ∷ texts behind)
unfolding clap_on_literals
bound none = refl
bound (one a) = simp a.plain
bound (two a b) = simp (a.plain, b.plain)
bound (three a b c) = simp (a.plain, b.plain, c.plain)

rested : (behind : Behind) → AgreesAt (codes "rest" ∷ texts behind)
unfolding clap_on_literals
rested none = refl
rested (one a) = simp a.plain
rested (two a b) = simp (a.plain, b.plain)
rested (three a b c) = simp (a.plain, b.plain, c.plain)

waits : (behind : Behind) → AgreesAt (codes "waits" ∷ texts behind)
unfolding clap_on_literals
waits none = refl
waits (one a) = simp a.plain
waits (two a b) = simp (a.plain, b.plain)
waits (three a b c) = simp (a.plain, b.plain, c.plain)

emit : (behind : Behind) → AgreesAt (codes "emit" ∷ texts behind)
unfolding clap_on_literals
emit none = refl
emit (one a) = simp a.plain
emit (two a b) = simp (a.plain, b.plain)
emit (three a b c) = simp (a.plain, b.plain, c.plain)

draft : (behind : Behind) → AgreesAt (codes "draft" ∷ texts behind)
unfolding clap_on_literals
draft none = refl
draft (one a) = simp a.plain
draft (two a b) = simp (a.plain, b.plain)
draft (three a b c) = simp (a.plain, b.plain, c.plain)

explain : (behind : Behind) → AgreesAt (codes "explain" ∷ texts behind)
unfolding clap_on_literals
explain none = refl
explain (one a) = simp a.plain
explain (two a b) = simp (a.plain, b.plain)
explain (three a b c) = simp (a.plain, b.plain, c.plain)

verify : (behind : Behind) → AgreesAt (codes "verify" ∷ texts behind)
unfolding clap_on_literals
verify none = refl
verify (one a) = simp a.plain
verify (two a b) = simp (a.plain, b.plain)
verify (three a b c) = simp (a.plain, b.plain, c.plain)

play : (behind : Behind) → AgreesAt (codes "play" ∷ texts behind)
unfolding clap_on_literals
play none = refl
play (one a) = simp a.plain
play (two a b) = simp (a.plain, b.plain)
play (three a b c) = simp (a.plain, b.plain, c.plain)

run : (behind : Behind) → AgreesAt (codes "run" ∷ texts behind)
unfolding clap_on_literals
run none = refl
run (one a) = simp a.plain
run (two a b) = simp (a.plain, b.plain)
run (three a b c) = simp (a.plain, b.plain, c.plain)

simulate : (behind : Behind) → AgreesAt (codes "simulate" ∷ texts behind)
unfolding clap_on_literals
simulate none = refl
simulate (one a) = simp a.plain
simulate (two a b) = simp (a.plain, b.plain)
simulate (three a b c) = simp (a.plain, b.plain, c.plain)

waste : (behind : Behind) → AgreesAt (codes "waste" ∷ texts behind)
unfolding clap_on_literals
waste none = refl
waste (one a) = simp a.plain
waste (two a b) = simp (a.plain, b.plain)
waste (three a b c) = simp (a.plain, b.plain, c.plain)

crew : (behind : Behind) → AgreesAt (codes "crew" ∷ texts behind)
unfolding clap_on_literals
crew none = refl
crew (one a) = simp a.plain
crew (two a b) = simp (a.plain, b.plain)
crew (three a b c) = simp (a.plain, b.plain, c.plain)

replay : (behind : Behind) → AgreesAt (codes "replay" ∷ texts behind)
unfolding clap_on_literals
replay none = refl
replay (one a) = simp a.plain
replay (two a b) = simp (a.plain, b.plain)
replay (three a b c) = simp (a.plain, b.plain, c.plain)

report : (behind : Behind) → AgreesAt (codes "report" ∷ texts behind)
unfolding clap_on_literals
report none = refl
report (one a) = simp a.plain
report (two a b) = simp (a.plain, b.plain)
report (three a b c) = simp (a.plain, b.plain, c.plain)

migrate : (behind : Behind) → AgreesAt (codes "migrate" ∷ texts behind)
unfolding clap_on_literals
migrate none = refl
migrate (one a) = simp a.plain
migrate (two a b) = simp (a.plain, b.plain)
migrate (three a b c) = simp (a.plain, b.plain, c.plain)

tell_why : (behind : Behind) → AgreesAt (codes "why" ∷ texts behind)
unfolding clap_on_literals
tell_why none = refl
tell_why (one a) = simp a.plain
tell_why (two a b) = simp (a.plain, b.plain)
tell_why (three a b c) = simp (a.plain, b.plain, c.plain)

make : (behind : Behind) → AgreesAt (codes "make" ∷ texts behind)
unfolding clap_on_literals
make none = refl
make (one a) = simp a.plain
make (two a b) = simp (a.plain, b.plain)
make (three a b c) = simp (a.plain, b.plain, c.plain)

bench : (behind : Behind) → AgreesAt (codes "bench" ∷ texts behind)
unfolding clap_on_literals
bench none = refl
bench (one a) = simp a.plain
bench (two a b) = simp (a.plain, b.plain)
bench (three a b c) = simp (a.plain, b.plain, c.plain)

-- a verb that is none of these
other : (v : Word) (behind : Behind)
    → bytes_eq (codes "check") (text v) ≡ false
    → bytes_eq (codes "prove") (text v) ≡ false
    → bytes_eq (codes "bound") (text v) ≡ false
    → bytes_eq (codes "rest") (text v) ≡ false
    → bytes_eq (codes "waits") (text v) ≡ false
    → bytes_eq (codes "emit") (text v) ≡ false
    → bytes_eq (codes "draft") (text v) ≡ false
    → bytes_eq (codes "explain") (text v) ≡ false
    → bytes_eq (codes "verify") (text v) ≡ false
    → bytes_eq (codes "play") (text v) ≡ false
    → bytes_eq (codes "run") (text v) ≡ false
    → bytes_eq (codes "simulate") (text v) ≡ false
    → bytes_eq (codes "waste") (text v) ≡ false
    → bytes_eq (codes "crew") (text v) ≡ false
    → bytes_eq (codes "replay") (text v) ≡ false
    → bytes_eq (codes "report") (text v) ≡ false
    → bytes_eq (codes "migrate") (text v) ≡ false
    → bytes_eq (codes "why") (text v) ≡ false
    → bytes_eq (codes "make") (text v) ≡ false
    → bytes_eq (codes "bench") (text v) ≡ false
    → AgreesAt (text v ∷ texts behind)
unfolding clap_on_literals
other v none a b c d e f g h i j k l m n o p q r s t = simp (v.plain, a, b, c, d, e, f, g, h, i, j, k, l, m, n, o, p, q, r, s, t)
other v (one w) a b c d e f g h i j k l m n o p q r s t =
    simp (v.plain, w.plain, a, b, c, d, e, f, g, h, i, j, k, l, m, n, o, p, q, r, s, t)
other v (two w x) a b c d e f g h i j k l m n o p q r s t =
    simp (v.plain, w.plain, x.plain, a, b, c, d, e, f, g, h, i, j, k, l, m, n, o, p, q, r, s, t)
other v (three w x y) a b c d e f g h i j k l m n o p q r s t =
    simp (v.plain, w.plain, x.plain, y.plain, a, b, c, d, e, f, g, h, i, j, k, l, m, n, o, p, q, r, s, t)

-- the verb is this one, or it isn't
at_verb : (verb word : Text) (P : Text → Type 0) → P verb → (bytes_eq verb word ≡ false → P word) → P word
at_verb verb word P here else_here = by (bytes_eq verb word) refl
  where
    by : (b : Bool) → bytes_eq verb word ≡ b → P word
    by true e = subst P ((bytes_eq-Decides verb word).0 e) here
    by false e = else_here e

with_verb : (v : Word) (behind : Behind) → AgreesAt (text v ∷ texts behind)
with_verb v behind =
    let P : Text → Type 0 = λ verb. AgreesAt (verb ∷ texts behind) in
    at_verb (codes "check") (text v) P (check behind) (λ a.
    at_verb (codes "prove") (text v) P (prove behind) (λ b.
    at_verb (codes "bound") (text v) P (bound behind) (λ c.
    at_verb (codes "rest") (text v) P (rested behind) (λ d.
    at_verb (codes "waits") (text v) P (waits behind) (λ e.
    at_verb (codes "emit") (text v) P (emit behind) (λ f.
    at_verb (codes "draft") (text v) P (draft behind) (λ g.
    at_verb (codes "explain") (text v) P (explain behind) (λ h.
    at_verb (codes "verify") (text v) P (verify behind) (λ i.
    at_verb (codes "play") (text v) P (play behind) (λ j.
    at_verb (codes "run") (text v) P (run behind) (λ k.
    at_verb (codes "simulate") (text v) P (simulate behind) (λ l.
    at_verb (codes "waste") (text v) P (waste behind) (λ m.
    at_verb (codes "crew") (text v) P (crew behind) (λ n.
    at_verb (codes "replay") (text v) P (replay behind) (λ o.
    at_verb (codes "report") (text v) P (report behind) (λ p.
    at_verb (codes "migrate") (text v) P (migrate behind) (λ q.
    at_verb (codes "why") (text v) P (tell_why behind) (λ r.
    at_verb (codes "make") (text v) P (make behind) (λ s.
    at_verb (codes "bench") (text v) P (bench behind) (λ t.
    other v behind a b c d e f g h i j k l m n o p q r s t))))))))))))))))))))

no_words : AgreesAt []
unfolding clap_on_literals
no_words = refl

-- words that are all plain
plain_words : (words : List Text) → list_all is_plain words ≡ true
    → (found : List Word) × (map text found ≡ words)
plain_words [] h = ([], refl)
plain_words ([] ∷ words) h = cc
plain_words ((c ∷ cs) ∷ words) h = by (eqb c 45) refl h (plain_words words)
  where
    by : (b : Bool) → eqb c 45 ≡ b → (not b && list_all is_plain words) ≡ true
        → (list_all is_plain words ≡ true → (found : List Word) × (map text found ≡ words))
        → (found : List Word) × (map text found ≡ (c ∷ cs) ∷ words)
    by true e h rest = cc
    by false e h rest =
        (record { first = c; rest = cs; plain = e } ∷ (rest h).0, ap (λ t. (c ∷ cs) ∷ t) (rest h).1)

of_words : (ws : List Word) → length ws ≤ 4 → AgreesAt (map text ws)
of_words [] few = no_words
of_words (v ∷ []) few = with_verb v none
of_words (v ∷ a ∷ []) few = with_verb v (one a)
of_words (v ∷ a ∷ b ∷ []) few = with_verb v (two a b)
of_words (v ∷ a ∷ b ∷ c ∷ []) few = with_verb v (three a b c)
of_words (v ∷ a ∷ b ∷ c ∷ d ∷ ws) few = absurd (omega arith)

-- `clap` agrees with the definition where the words are plain and no more than the longest command has
pub agrees : (words : List Text) → length words ≤ 4 → list_all is_plain words ≡ true → AgreesAt words
agrees words few plain =
    let found = plain_words words plain in
    let short : length found.0 ≤ 4 = rw (← length-map found.0 text, found.1) few in
    subst AgreesAt found.1 (of_words found.0 short)

-- with no fault, what was found asks for what the words ask for
pub no_fault : (kinds : Kinds) (found : Option (Text × List Row)) (asked : Option Asked)
    → Agrees kinds found asked → kinds ≡ [] → asked_from found ≡ asked
no_fault [] found asked h is_none = h
no_fault (kind ∷ kinds) found asked h is_none = cc

-- with one the words ask for nothing
pub any_fault : (kinds : Kinds) (found : Option (Text × List Row)) (asked : Option Asked) (kind : _)
    → Agrees kinds found asked → IsAmong kind kinds → None ≡ asked
any_fault [] found asked kind h among = absurd among
any_fault (first ∷ kinds) found asked kind h among = sym h
