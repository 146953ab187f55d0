-- Where a bad line stands within a certificate, and where the text breaks off there.
use Rattle.std.proofs.Common.{◌≡◌, ◌≢◌, ℕ, suc, ◌+◌, ◌-◌, ◌<◌, ◌^◌, List, [], ◌∷◌, ◌++◌, Result, Ok, Err, IfErr, length, length-append, append_assoc, ap, sym, subst, ◌∙◌, refl, arith}
use Rattle.text_forms.specs.Cuts.{Lacks}
use Rattle.cert_lines.specs.Faults.{Takes, IsBadAt, bad_here as cert_bad_here, bad_later as cert_bad_later}
use Rattle.cert_lines.specs.declared.fault.CertFault.{CertFault}
use Rattle.cert_lines.specs.declared.fault.CertFault.TheVariants.{BadText, Memory}
use Rattle.cert_lines.proofs.BadLines.{same_line, takes_lacks_feed}
use Rattle.cert_lines.proofs.Words.{nowhere}
use Rattle.obligations.specs.declared.names.ObName.{ObName}
use Rattle.cert_file.specs.BadLines.{Coming, parts, nothing, TakesLine, takes_node, IsBadFrom, bad_here, bad_later}
use Rattle.cert_file.specs.Reading.{AreLines, no_line, one_more, FailsFrom, IsNextLine, feeds}
use Rattle.cert_file.specs.Text.{obligation_line, system_line}
use Rattle.cert_file.proofs.Feeds.{feeds_line}
use Rattle.cert_file.proofs.TakenLines.{Taken, of_heading, of_obligation, of_system, of_node, taken, taken_lacks, lines_in, systems_in, nodes_in, names_in, first_in}
use Rattle.cert_file.proofs.Paths.{Reads, forward}
use Rattle.cert_file.proofs.Sizes.{bad_from}

-- something of a certificate is to come
abbrev IsWithin : List ℕ → ℕ → Type 0
IsWithin nodes lines = nodes ≡ [] → lines ≡ 0 → ⊥

-- there a line of the certificate alone is taken
record TakesNode (nodes : List ℕ) (lines : ℕ) (line : List ℕ) : Type 0 where
  some : 0 < lines
  after : List ℕ
  takes : Takes nodes line after

within_from : (nodes : List ℕ) (lines systems : ℕ) (names : List ObName) (line : List ℕ) (after : Coming) → IsWithin nodes lines
    → Taken (parts nodes lines systems names) line after → TakesNode nodes lines line
within_from nodes lines systems names line after in_it (of_heading c l a) = absurd (let none : ⊥ = cc c in none)
within_from nodes lines systems names line after in_it (of_obligation ob obs count lt c l a) = absurd (in_it (ap nodes_in c) (ap lines_in c))
within_from nodes lines systems names line after in_it (of_system count obs more some lt c l a) = absurd (in_it (ap nodes_in c) (ap lines_in c))
within_from nodes lines systems names line after in_it (of_node others rest more count obs takes c a) = record {
  some = (let is : lines ≡ suc more = ap lines_in c in omega (arith, is));
  after = rest;
  takes = subst (λ (ns : List ℕ). Takes ns line rest) (sym (ap nodes_in c)) takes;
}

within : (nodes : List ℕ) (lines systems : ℕ) (names : List ObName) (line : List ℕ) (after : Coming) → IsWithin nodes lines
    → TakesLine (parts nodes lines systems names) line after → TakesNode nodes lines line
within nodes lines systems names line after in_it takes = within_from nodes lines systems names line after in_it (taken (parts nodes lines systems names) line after takes)

abbrev is_not_nothing : (nodes : List ℕ) (lines systems : ℕ) (names : List ObName) → IsWithin nodes lines → parts nodes lines systems names ≡ nothing → ⊥
is_not_nothing nodes lines systems names in_it same = in_it (ap nodes_in same) (ap lines_in same)

pub lines_are_none : (lines systems : ℕ) (names : List ObName) → parts [] lines systems names ≡ nothing → lines ≡ 0
lines_are_none lines systems names same = ap lines_in same

-- lines as none, or one and more
data Parted (text : List ℕ) (lines : ℕ) : Type 0 where
  at_end : text ≡ [] → lines ≡ 0 → Parted text lines
  at_line : (first rest : List ℕ) (more : ℕ) → text ≡ first ++ 10 ∷ rest → lines ≡ suc more → Lacks 10 first → AreLines rest more → Parted text lines

parted : (text : List ℕ) (lines : ℕ) → AreLines text lines → Parted text lines
parted _ _ no_line = at_end refl refl
parted _ _ (one_more line rest lines lacks are) = at_line line rest lines refl refl lacks are

-- a bad line of the lines that a certificate has is one of the file, whatever follows
pub bad_in_lines : (nodes : List ℕ) (number : ℕ) (text : List ℕ) (at : ℕ) → IsBadAt nodes number text at → (lines first systems : ℕ) (names : List ObName) (behind : List ℕ)
    → AreLines text lines → IsBadFrom (parts nodes lines systems names) first (text ++ behind) (first + (at - number))
bad_in_lines _ _ _ _ (cert_bad_here nodes number text some none) lines first systems names behind are = here (parted text lines are)
  where
    none_more : first ≡ first + (number - number)
    none_more = omega arith

    here : Parted text lines → IsBadFrom (parts nodes lines systems names) first (text ++ behind) (first + (number - number))
    here (at_end ended no_lines) =
        let in_it : IsWithin nodes lines = λ empty _. some empty ended in
        subst (λ (k : ℕ). IsBadFrom (parts nodes lines systems names) first (text ++ behind) k) none_more
        (bad_here (parts nodes lines systems names) first (text ++ behind)
        (λ same _. is_not_nothing nodes lines systems names in_it same)
        (λ line rest after is takes. omega (arith, no_lines, (within nodes lines systems names line after in_it takes).some)))
    here (at_line begin more_text more is count lacks more_lines) =
        let in_it : IsWithin nodes lines = λ _ zero_lines. omega (arith, count, zero_lines) in
        subst (λ (k : ℕ). IsBadFrom (parts nodes lines systems names) first (text ++ behind) k) none_more
        (bad_here (parts nodes lines systems names) first (text ++ behind)
        (λ same _. is_not_nothing nodes lines systems names in_it same)
        (λ line rest after same takes.
        let node = within nodes lines systems names line after in_it takes in
        let whole : begin ++ 10 ∷ (more_text ++ behind) ≡ line ++ 10 ∷ rest = sym (append_assoc begin (10 ∷ more_text) behind) ∙ ap (λ t. t ++ behind) (sym is) ∙ same in
        let cut = same_line begin (more_text ++ behind) line rest lacks (taken_lacks (parts nodes lines systems names) line after takes) whole in
        none line more_text node.after (is ∙ ap (λ l. l ++ 10 ∷ more_text) cut.0) node.takes))
bad_in_lines _ _ _ _ (cert_bad_later nodes after number line rest at takes bad) lines first systems names behind are =
    later (parted (line ++ 10 ∷ rest) lines are) (λ more rest_are. bad_in_lines after (number + 1) rest at bad more (first + 1) systems names behind rest_are)
  where
    later : Parted (line ++ 10 ∷ rest) lines → ((more : ℕ) → AreLines rest more → IsBadFrom (parts after more systems names) (first + 1) (rest ++ behind) (first + 1 + (at - (number + 1)))) → IsBadFrom (parts nodes lines systems names) first ((line ++ 10 ∷ rest) ++ behind) (first + (at - number))
    later (at_end ended no_lines) again = absurd (omega (arith, ap length ended, length-append line (10 ∷ rest)))
    later (at_line begin more_text more is count lacks more_lines) again =
        let cut = same_line line rest begin more_text (takes_lacks_feed nodes line after takes) lacks is in
        let inner = again more (subst (λ (t : List ℕ). AreLines t more) (sym cut.1) more_lines) in
        let next : first + 1 + (at - (number + 1)) ≡ first + (at - number) = omega (arith, bad_from after (number + 1) rest at bad) in
        let moved = subst (λ (k : ℕ). IsBadFrom (parts after more systems names) (first + 1) (rest ++ behind) k) next inner in
        let whole = bad_later (parts nodes (suc more) systems names) (parts after more systems names) first line (rest ++ behind) (first + (at - number)) (takes_node nodes after line more systems names takes) moved in
        subst (λ (k : ℕ). IsBadFrom (parts nodes k systems names) first ((line ++ 10 ∷ rest) ++ behind) (first + (at - number))) (sym count)
        (subst (λ (t : List ℕ). IsBadFrom (parts nodes (suc more) systems names) first t (first + (at - number))) (sym (append_assoc line (10 ∷ rest) behind)) whole)

-- so it is where fewer lines are left than the certificate was to have
pub bad_in_few : (nodes : List ℕ) (number : ℕ) (text : List ℕ) (at : ℕ) → IsBadAt nodes number text at → (lines first systems : ℕ) (names : List ObName)
    → feeds text < lines → IsBadFrom (parts nodes lines systems names) first text (first + (at - number))
bad_in_few _ _ _ _ (cert_bad_here nodes number text some none) lines first systems names few =
    let in_it : IsWithin nodes lines = λ _ zero_lines. omega (arith, few, zero_lines) in
    let none_more : first ≡ first + (number - number) = omega arith in
    subst (λ (k : ℕ). IsBadFrom (parts nodes lines systems names) first text k) none_more
    (bad_here (parts nodes lines systems names) first text
    (λ same _. is_not_nothing nodes lines systems names in_it same)
    (λ line rest after same takes.
    let node = within nodes lines systems names line after in_it takes in
    none line rest node.after same node.takes))
bad_in_few _ _ _ _ (cert_bad_later nodes after number line rest at takes bad) lines first systems names few =
    let more = lines - 1 in
    let fewer : feeds rest < more = omega (arith, few, feeds_line line rest) in
    let count : suc more ≡ lines = omega (arith, few) in
    let next : first + 1 + (at - (number + 1)) ≡ first + (at - number) = omega (arith, bad_from after (number + 1) rest at bad) in
    let inner = subst (λ (k : ℕ). IsBadFrom (parts after more systems names) (first + 1) rest k) next (bad_in_few after (number + 1) rest at bad more (first + 1) systems names fewer) in
    subst (λ (k : ℕ). IsBadFrom (parts nodes k systems names) first (line ++ 10 ∷ rest) (first + (at - number))) count
    (bad_later (parts nodes (suc more) systems names) (parts after more systems names) first line rest (first + (at - number)) (takes_node nodes after line more systems names takes) inner)

-- no line feed is left, and something is to come
pub bad_end : (coming : Coming) (number : ℕ) (text : List ℕ) → Lacks 10 text → (coming ≡ nothing → ⊥) → IsBadFrom coming number text number
bad_end coming number text lacks some =
    bad_here coming number text (λ same _. some same) (λ line rest after is takes. nowhere 10 text line rest lacks is)

-- the first line may not stand there
pub bad_line : (coming : Coming) (number : ℕ) (text line behind : List ℕ) → text ≡ line ++ 10 ∷ behind → Lacks 10 line → ((after : Coming) → TakesLine coming line after → ⊥)
    → IsBadFrom coming number text number
bad_line coming number text line behind is lacks none =
    bad_here coming number text (λ _ ended. omega (arith, ap length (sym is ∙ ended), length-append line (10 ∷ behind)))
    (λ other rest after same takes.
    let cut = same_line line behind other rest lacks (taken_lacks coming other after takes) (sym is ∙ same) in
    none after (subst (λ (l : List ℕ). TakesLine coming l after) (sym cut.0) takes))

pub err_weaker : {X Y : Type 0} (r : Result X Y) (Q Other : Y → Type 0) → ((y : Y) → Q y → Other y) → IfErr r Q → IfErr r Other
err_weaker (Ok x) Q Other weaker is = tt
err_weaker (Err y) Q Other weaker is = weaker y is

-- a line that is taken, and a fault behind it
pub fails_next : (coming after : Coming) (number next : ℕ) (text line behind : List ℕ) (fault : CertFault) → IsNextLine line number text next behind → TakesLine coming line after
    → FailsFrom after next behind fault → FailsFrom coming number text fault
fails_next coming after number next text line behind (BadText at) is takes fails =
    let moved = subst (λ k. IsBadFrom after k behind at) is.next_is fails in
    subst (λ t. IsBadFrom coming number t at) (sym is.text_is) (bad_later coming after number line behind at takes moved)
fails_next coming after number next text line behind Memory is takes fails = tt

-- and behind lines that are
pub fails_behind : (coming after : Coming) (number next : ℕ) (text front : List ℕ) (lines : ℕ) (behind : List ℕ) (fault : CertFault) → text ≡ front ++ behind → next ≡ number + lines
    → Reads coming front lines after → FailsFrom after next behind fault → FailsFrom coming number text fault
fails_behind coming after number next text front lines behind (BadText at) whole count reads fails =
    let moved = subst (λ k. IsBadFrom after k behind at) count fails in
    subst (λ t. IsBadFrom coming number t at) (sym whole) (forward coming after front lines reads number behind at moved)
fails_behind coming after number next text front lines behind Memory whole count reads fails = tt

-- what may stand at an obligation, and at a system
pub at_obligation : (ob : ObName) (names : List ObName) (line : List ℕ) (after : Coming) → TakesLine (parts [] 0 0 (ob ∷ names)) line after
    → (systems : ℕ) × (systems < 2 ^ 32) × (line ≡ obligation_line ob systems)
at_obligation ob names line after takes = by (taken (parts [] 0 0 (ob ∷ names)) line after takes)
  where
    by : Taken (parts [] 0 0 (ob ∷ names)) line after → (systems : ℕ) × (systems < 2 ^ 32) × (line ≡ obligation_line ob systems)
    by (of_heading c l a) = absurd (let none : ⊥ = cc c in none)
    by (of_obligation other obs systems lt c l a) =
        let same : ob ≡ other = ap (λ x. first_in (names_in x)) c in
        (systems, lt, l ∙ ap (λ o. obligation_line o systems) (sym same))
    by (of_system count obs lines some lt c l a) = absurd (omega (arith, ap systems_in c))
    by (of_node nodes rest lines count obs takes_it c a) = absurd (omega (arith, ap lines_in c))

pub at_system : (systems : ℕ) (names : List ObName) (line : List ℕ) (after : Coming) → TakesLine (parts [] 0 (suc systems) names) line after
    → (lines : ℕ) × (0 < lines) × (lines < 2 ^ 64) × (line ≡ system_line lines)
at_system systems names line after takes = by (taken (parts [] 0 (suc systems) names) line after takes)
  where
    by : Taken (parts [] 0 (suc systems) names) line after → (lines : ℕ) × (0 < lines) × (lines < 2 ^ 64) × (line ≡ system_line lines)
    by (of_heading c l a) = absurd (let none : ⊥ = cc c in none)
    by (of_obligation other obs count lt c l a) = absurd (omega (arith, ap systems_in c))
    by (of_system count obs lines some lt c l a) = (lines, some, lt, l)
    by (of_node nodes rest lines count obs takes_it c a) = absurd (omega (arith, ap lines_in c))

-- an obligation is to come
pub some_names : (ob : ObName) (names : List ObName) → parts [] 0 0 (ob ∷ names) ≡ nothing → ⊥
some_names ob names same = let is : ob ∷ names ≡ [] = ap names_in same in let clash : ⊥ = cc is in clash

-- behind the last obligation no line may stand
pub bad_rest : (number : ℕ) (text : List ℕ) → text ≢ [] → IsBadFrom nothing number text number
bad_rest number text some = bad_here nothing number text (λ _ ended. some ended) (λ line rest after is takes. by (taken nothing line after takes))
  where
    by : {line : List ℕ} {after : Coming} → Taken nothing line after → ⊥
    by (of_heading c l a) = cc c
    by (of_obligation other obs count lt c l a) = let names : [] ≡ other ∷ obs = ap names_in c in cc names
    by (of_system count obs lines some_lines lt c l a) = omega (arith, ap systems_in c)
    by (of_node nodes rest lines count obs takes_it c a) = omega (arith, ap lines_in c)
