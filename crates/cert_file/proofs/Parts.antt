-- Systems that are read one after the other, and obligations.
use Rattle.std.proofs.Common.{◌≡◌, ℕ, suc, ◌+◌, ◌-◌, ◌<◌, ◌≤◌, ◌^◌, List, [], ◌∷◌, ◌++◌, Option, None, length, map, length-append, append_assoc, ap, sym, subst, ◌∙◌, refl, arith}
use Rattle.std.specs.List.{AllByRecursion}
use Rattle.std.proofs.lemmas.List.{append-nil}
use Rattle.linear_form.specs.System.{LinearSystem}
use Rattle.linear_cert.specs.Right.{CertTree}
use Rattle.policy_tree.specs.Meaning.{Meaning}
use Rattle.obligations.specs.declared.names.ObName.{ObName}
use Rattle.obligations.specs.declared.obligation.Obligation.{Obligation}
use Rattle.obligations.specs.Names.{statement_of}
use Rattle.obligations.specs.Systems.{obligation_of, systems_of}
use Rattle.cert_lines.specs.Reading.{nodes_of}
use Rattle.cert_lines.specs.declared.fault.CertFault.{CertFault}
use Rattle.cert_file.specs.BadLines.{parts, takes_obligation}
use Rattle.cert_file.specs.Reading.{AreNextSystems, FailsFrom, IsFoundIn, IsFoundOf, IsNextLine, IsNextObligation, IsNextSystem, IsTallyOf, first_of, lines_of}
use Rattle.cert_file.specs.Text.{IsWritable, obligation_line, obligation_text, obligations_text, system_text, systems_text}
use Rattle.cert_file.specs.declared.systems.Tally.{Tally}
use Rattle.cert_file.proofs.Places.{found_both}
use Rattle.cert_file.proofs.Paths.{reads_obligation, reads_systems}
use Rattle.cert_file.proofs.Sizes.{count_fits, systems_fit}
use Rattle.cert_file.proofs.Within.{fails_behind, fails_next}

pub text_more : (trees : List CertTree) (tree : CertTree) → systems_text (trees ++ tree ∷ []) ≡ systems_text trees ++ system_text tree
text_more [] tree = append-nil (system_text tree)
text_more (t ∷ trees) tree = ap (λ rest. system_text t ++ rest) (text_more trees tree) ∙ sym (append_assoc (system_text t) (systems_text trees) (system_text tree))

lines_more : (trees : List CertTree) (tree : CertTree) → lines_of (trees ++ tree ∷ []) ≡ lines_of trees + (1 + nodes_of tree)
lines_more [] tree = omega arith
lines_more (t ∷ trees) tree = omega (arith, lines_more trees tree)

pub writable_more : (trees : List CertTree) (tree : CertTree) → AllByRecursion IsWritable trees → IsWritable tree → AllByRecursion IsWritable (trees ++ tree ∷ [])
writable_more [] tree are is = (is, tt)
writable_more (t ∷ trees) tree are is = (are.0, writable_more trees tree are.1 is)

pub systems_none : (found : List CertTree → Type 0) (number : ℕ) (text : List ℕ) → found [] → AreNextSystems found 0 number text number text
systems_none found number text known = record { trees = []; text_is = refl; count_is = refl; writable = tt; next_is = omega arith; known = known }

pub systems_more : (found after : List CertTree → Type 0) (count number : ℕ) (text : List ℕ) (next : ℕ) (behind : List ℕ) (tree : CertTree) (last : ℕ) (rest : List ℕ)
    → AreNextSystems found count number text next behind → IsNextSystem tree next behind last rest
    → ((trees : List CertTree) → length trees ≡ count → found trees → after (trees ++ tree ∷ [])) → AreNextSystems after (count + 1) number text last rest
systems_more found after count number text next behind tree last rest are is more = record {
  trees = are.trees ++ tree ∷ [];
  text_is = are.text_is ∙ ap (λ t. systems_text are.trees ++ t) is.text_is ∙ sym (append_assoc (systems_text are.trees) (system_text tree) rest) ∙ ap (λ t. t ++ rest) (sym (text_more are.trees tree));
  count_is = omega (arith, length-append are.trees (tree ∷ []), are.count_is);
  writable = writable_more are.trees tree are.writable is.writable;
  next_is = omega (arith, are.next_is, is.next_is, lines_more are.trees tree);
  known = more are.trees are.count_is are.known;
}

pub systems_known : (found after : List CertTree → Type 0) (count number : ℕ) (text : List ℕ) (next : ℕ) (behind : List ℕ) → AreNextSystems found count number text next behind
    → ((trees : List CertTree) → length trees ≡ count → found trees → after trees) → AreNextSystems after count number text next behind
systems_known found after count number text next behind are more = record {
  trees = are.trees;
  text_is = are.text_is;
  count_is = are.count_is;
  writable = are.writable;
  next_is = are.next_is;
  known = more are.trees are.count_is are.known;
}

-- the rest has no more lines than the text had bytes
pub systems_short : (found : List CertTree → Type 0) (count number : ℕ) (text : List ℕ) (next : ℕ) (behind : List ℕ) (limit : ℕ) → AreNextSystems found count number text next behind
    → number + length text < limit → next + length behind < limit
systems_short found count number text next behind limit are short =
    omega (arith, short, are.next_is, ap length are.text_is, length-append (systems_text are.trees) behind, systems_fit are.trees)

-- a fault in the next system
pub systems_fail : (found : List CertTree → Type 0) (place count number : ℕ) (text : List ℕ) (next : ℕ) (behind : List ℕ) (names : List ObName) (fault : CertFault)
    → AreNextSystems found place number text next behind → place < count → FailsFrom (parts [] 0 (suc (count - place - 1)) names) next behind fault
    → FailsFrom (parts [] 0 count names) number text fault
systems_fail found place count number text next behind names fault are lt fails =
    let left = suc (count - place - 1) in
    let whole : length are.trees + left ≡ count = omega (arith, are.count_is, lt) in
    let reads = reads_systems are.trees left names are.writable in
    subst (λ (k : ℕ). FailsFrom (parts [] 0 k names) number text fault) whole
    (fails_behind (parts [] 0 (length are.trees + left) names) (parts [] 0 left names) number next text (systems_text are.trees) (lines_of are.trees) behind fault are.text_is are.next_is reads fails)

-- an obligation's line and its systems
pub next_obligation : (obligation : Obligation) (count : ℕ) (wrong : Option ℕ) (number : ℕ) (text : List ℕ) (next : ℕ) (behind : List ℕ) (last : ℕ) (rest : List ℕ)
    → IsNextLine (obligation_line obligation.name count) number text next behind → AreNextSystems (λ trees. IsFoundIn obligation.systems trees wrong) count next behind last rest
    → count < 2 ^ 32 → IsNextObligation obligation count wrong number text last rest
next_obligation obligation count wrong number text next behind last rest line are lt = record {
  trees = are.trees;
  text_is = line.text_is ∙ ap (λ t. obligation_line obligation.name count ++ 10 ∷ t) are.text_is
      ∙ ap (λ k. obligation_line obligation.name k ++ 10 ∷ (systems_text are.trees ++ rest)) (sym are.count_is)
      ∙ sym (append_assoc (obligation_line obligation.name (length are.trees)) (10 ∷ systems_text are.trees) rest);
  count_is = are.count_is;
  writable = record { few = omega (arith, are.count_is, lt); each = are.writable };
  next_is = omega (arith, line.next_is, are.next_is);
  known = are.known;
}

-- a fault in the systems behind an obligation's line
pub fails_in_systems : (ob : ObName) (names : List ObName) (count number : ℕ) (text : List ℕ) (next : ℕ) (behind : List ℕ) (fault : CertFault) → IsNextLine (obligation_line ob count) number text next behind
    → count < 2 ^ 32 → FailsFrom (parts [] 0 count names) next behind fault → FailsFrom (parts [] 0 0 (ob ∷ names)) number text fault
fails_in_systems ob names count number text next behind fault line lt fails =
    fails_next (parts [] 0 0 (ob ∷ names)) (parts [] 0 count names) number next text (obligation_line ob count) behind fault line (takes_obligation ob names count lt) fails

pub line_short : (line : List ℕ) (number : ℕ) (text : List ℕ) (next : ℕ) (behind : List ℕ) (limit : ℕ) → IsNextLine line number text next behind → number + length text < limit → next + length behind < limit
line_short line number text next behind limit is short = omega (arith, short, is.next_is, ap length is.text_is, length-append line (10 ∷ behind))

pub obligation_short : (obligation : Obligation) (count : ℕ) (wrong : Option ℕ) (number : ℕ) (text : List ℕ) (next : ℕ) (behind : List ℕ) (limit : ℕ) → IsNextObligation obligation count wrong number text next behind
    → number + length text < limit → next + length behind < limit
obligation_short obligation count wrong number text next behind limit is short =
    omega (
      arith,
      short,
      is.next_is,
      ap length is.text_is,
      length-append (obligation_text obligation.name is.trees) behind,
      length-append (obligation_line obligation.name (length is.trees)) (10 ∷ systems_text is.trees),
      systems_fit is.trees,
    )

-- a fault behind an obligation
pub fails_in_later : (obligation : Obligation) (count : ℕ) (wrong : Option ℕ) (number : ℕ) (text : List ℕ) (next : ℕ) (behind : List ℕ) (names : List ObName) (fault : CertFault)
    → IsNextObligation obligation count wrong number text next behind → FailsFrom (parts [] 0 0 names) next behind fault → FailsFrom (parts [] 0 0 (obligation.name ∷ names)) number text fault
fails_in_later obligation count wrong number text next behind names fault is fails =
    fails_behind (parts [] 0 0 (obligation.name ∷ names)) (parts [] 0 0 names) number next text (obligation_text obligation.name is.trees) (1 + lines_of is.trees) behind fault is.text_is is.next_is
    (reads_obligation obligation.name names is.trees is.writable) fails

-- obligations as the first and the rest
pub data AreParted (p : Meaning) (obligation : Obligation) (more : List Obligation) (names : List ObName) : Type 0 where
  are_parted : (ob : ObName) (others : List ObName) → names ≡ ob ∷ others → obligation ≡ obligation_of p ob → more ≡ map (obligation_of p) others → AreParted p obligation more names

pub parted : (p : Meaning) (obligation : Obligation) (more : List Obligation) (names : List ObName) → obligation ∷ more ≡ map (obligation_of p) names → AreParted p obligation more names
parted p obligation more [] same = absurd (let none : ⊥ = cc same in none)
parted p obligation more (ob ∷ others) same =
    let first : obligation ≡ obligation_of p ob = cc same in
    let rest : more ≡ map (obligation_of p) others = cc same in
    are_parted ob others refl first rest

-- nothing is left of the text, and no obligation
pub tally_none : (p : Meaning) (text : List ℕ) (tally : Tally) → text ≡ [] → tally.systems ≡ 0 → tally.wrong ≡ None → IsTallyOf p [] text tally
tally_none p text tally ended count found = record {
  lists = [];
  text_is = ended;
  one_for_each = refl;
  writable = tt;
  systems = count;
  found = subst (λ (w : Option (ObName × ℕ)). IsFoundOf p [] [] w) (sym found) tt;
}

-- an obligation more in front
pub tally_more : (p : Meaning) (obligation : Obligation) (ob : ObName) (names : List ObName) (count : ℕ) (wrong : Option ℕ) (number : ℕ) (text : List ℕ) (next : ℕ) (behind : List ℕ) (later tally : Tally)
    → obligation ≡ obligation_of p ob → IsNextObligation obligation count wrong number text next behind → IsTallyOf p names behind later
    → tally.systems ≡ count + later.systems → tally.wrong ≡ first_of obligation.name wrong later.wrong → IsTallyOf p (ob ∷ names) text tally
tally_more p obligation ob names count wrong number text next behind later tally same is tallied systems found =
    let name : obligation.name ≡ ob = ap (λ (o : Obligation). o.name) same in
    let own : IsFoundIn (systems_of p (statement_of ob)) is.trees wrong = subst (λ (ss : List LinearSystem). IsFoundIn ss is.trees wrong) (ap (λ (o : Obligation). o.systems) same) is.known in
    let both = found_both p ob names is.trees tallied.lists wrong later.wrong own tallied.found in
    let found_is : tally.wrong ≡ first_of ob wrong later.wrong = found ∙ ap (λ (o : ObName). first_of o wrong later.wrong) name in
    record {
      lists = is.trees ∷ tallied.lists;
      text_is = is.text_is ∙ ap (λ t. obligation_text obligation.name is.trees ++ t) tallied.text_is ∙ ap (λ (o : ObName). obligation_text o is.trees ++ obligations_text names tallied.lists) name;
      one_for_each = ap (λ k. suc k) tallied.one_for_each;
      writable = (is.writable, tallied.writable);
      systems = omega (arith, systems, is.count_is, tallied.systems);
      found = subst (λ (w : Option (ObName × ℕ)). IsFoundOf p (ob ∷ names) (is.trees ∷ tallied.lists) w) (sym found_is) both;
    }

-- an obligation has as many bytes at least as systems
pub count_short : (obligation : Obligation) (count : ℕ) (wrong : Option ℕ) (number : ℕ) (text : List ℕ) (next : ℕ) (behind : List ℕ) → IsNextObligation obligation count wrong number text next behind
    → count + length behind ≤ length text
count_short obligation count wrong number text next behind is =
    omega (
      arith,
      is.count_is,
      count_fits is.trees,
      systems_fit is.trees,
      ap length is.text_is,
      length-append (obligation_text obligation.name is.trees) behind,
      length-append (obligation_line obligation.name (length is.trees)) (10 ∷ systems_text is.trees),
    )

-- what is read and what fails, of obligations as the first and the rest
pub tally_first : (p : Meaning) (names : List ObName) (obligations : List Obligation) (obligation : Obligation) (more : List Obligation) (count : ℕ) (wrong : Option ℕ) (number : ℕ) (text : List ℕ) (next : ℕ) (behind : List ℕ) (later tally : Tally)
    → obligations ≡ obligation ∷ more → obligations ≡ map (obligation_of p) names → IsNextObligation obligation count wrong number text next behind
    → ((others : List ObName) → more ≡ map (obligation_of p) others → IsTallyOf p others behind later)
    → tally.systems ≡ count + later.systems → tally.wrong ≡ first_of obligation.name wrong later.wrong → IsTallyOf p names text tally
tally_first p names obligations obligation more count wrong number text next behind later tally split same is rest systems found =
    by (parted p obligation more names (sym split ∙ same))
  where
    by : AreParted p obligation more names → IsTallyOf p names text tally
    by (are_parted ob others names_are first mores) =
        subst (λ (ns : List ObName). IsTallyOf p ns text tally) (sym names_are)
        (tally_more p obligation ob others count wrong number text next behind later tally first is (rest others mores) systems found)

pub fails_first : (p : Meaning) (names : List ObName) (obligations : List Obligation) (obligation : Obligation) (more : List Obligation) (number : ℕ) (text : List ℕ) (fault : CertFault)
    → obligations ≡ obligation ∷ more → obligations ≡ map (obligation_of p) names → ((others : List ObName) → more ≡ map (obligation_of p) others → FailsFrom (parts [] 0 0 (obligation.name ∷ others)) number text fault)
    → FailsFrom (parts [] 0 0 names) number text fault
fails_first p names obligations obligation more number text fault split same fails =
    by (parted p obligation more names (sym split ∙ same))
  where
    by : AreParted p obligation more names → FailsFrom (parts [] 0 0 names) number text fault
    by (are_parted ob others names_are first mores) =
        subst (λ (ns : List ObName). FailsFrom (parts [] 0 0 ns) number text fault) (sym (names_are ∙ ap (λ (o : ObName). o ∷ others) (sym (ap (λ (o : Obligation). o.name) first))))
        (fails others mores)

pub no_obligations : (p : Meaning) (names : List ObName) (obligations : List Obligation) → length obligations ≡ 0 → obligations ≡ map (obligation_of p) names → [] ≡ names
no_obligations p [] obligations none same = refl
no_obligations p (ob ∷ others) obligations none same = absurd (omega (arith, none, ap length same))
