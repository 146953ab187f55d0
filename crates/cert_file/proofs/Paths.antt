-- Lines that are taken one after the other, and where a text is bad behind them.
use Rattle.std.proofs.Common.{◌≡◌, ℕ, suc, ◌+◌, ◌-◌, ◌<◌, List, [], ◌∷◌, ◌++◌, length, length-append, append_assoc, ap, sym, subst, ◌∙◌, refl, arith}
use Rattle.std.specs.List.{AllByRecursion}
use Rattle.linear_cert.specs.Right.{CertTree, leaf, split, SplitsAtMost}
use Rattle.sched_base.specs.declared.limits.TheConstants.{MAX_SPLITS}
use Rattle.cert_lines.specs.Faults.{takes_leaf}
use Rattle.cert_lines.specs.Reading.{nodes_of}
use Rattle.cert_lines.specs.Text.{AreInRange, cert_text, leaf_line, split_line}
use Rattle.cert_lines.proofs.BadLines.{takes_with_room}
use Rattle.obligations.specs.declared.names.ObName.{ObName}
use Rattle.cert_file.specs.BadLines.{Coming, parts, nothing, TakesLine, takes_obligation, takes_system, takes_node, IsBadFrom, bad_here, bad_later}
use Rattle.cert_file.specs.Reading.{lines_of}
use Rattle.cert_file.specs.Text.{AreWritable, IsWritable, obligation_line, obligation_text, obligations_text, system_line, system_text, systems_text}
use Rattle.cert_file.proofs.TakenLines.{same_taken}

-- the text is so many lines that are taken, from what is to come before them to what is to come behind
pub data Reads : Coming → List ℕ → ℕ → Coming → Type 0 where
  reads_nothing : (coming : Coming) → Reads coming [] 0 coming
  reads_line : (coming between after : Coming) (line rest : List ℕ) (lines : ℕ) → TakesLine coming line between → Reads between rest lines after
      → Reads coming (line ++ 10 ∷ rest) (suc lines) after

-- behind such lines a bad line is one of the whole
pub forward : (coming after : Coming) (front : List ℕ) (lines : ℕ) → Reads coming front lines after → (number : ℕ) (behind : List ℕ) (at : ℕ)
    → IsBadFrom after (number + lines) behind at → IsBadFrom coming number (front ++ behind) at
forward _ _ _ _ (reads_nothing coming) number behind at bad =
    let same : number + 0 ≡ number = omega arith in
    subst (λ (k : ℕ). IsBadFrom coming k behind at) same bad
forward _ _ _ _ (reads_line coming between after line rest lines takes reads) number behind at bad =
    let same : number + suc lines ≡ number + 1 + lines = omega arith in
    let inner = forward between after rest lines reads (number + 1) behind at (subst (λ (k : ℕ). IsBadFrom after k behind at) same bad) in
    subst (λ (t : List ℕ). IsBadFrom coming number t at) (sym (append_assoc line (10 ∷ rest) behind)) (bad_later coming between number line (rest ++ behind) at takes inner)

-- a bad line stands here, or behind a line that is taken
data Where (coming : Coming) (number : ℕ) (text : List ℕ) (at : ℕ) : Type 0 where
  at_once : at ≡ number → (coming ≡ nothing → text ≡ [] → ⊥) → ((line rest : List ℕ) (after : Coming) → text ≡ line ++ 10 ∷ rest → TakesLine coming line after → ⊥) → Where coming number text at
  afterwards : (line rest : List ℕ) (after : Coming) → text ≡ line ++ 10 ∷ rest → TakesLine coming line after → IsBadFrom after (number + 1) rest at → Where coming number text at

where_bad : (coming : Coming) (number : ℕ) (text : List ℕ) (at : ℕ) → IsBadFrom coming number text at → Where coming number text at
where_bad _ _ _ _ (bad_here coming number text some none) = at_once refl some none
where_bad _ _ _ _ (bad_later coming after number line rest at takes bad) = afterwards line rest after refl takes bad

-- behind a line that is taken
skip : (coming after : Coming) (line rest : List ℕ) (number : ℕ) (text : List ℕ) (at : ℕ) → text ≡ line ++ 10 ∷ rest → TakesLine coming line after → IsBadFrom coming number text at
    → IsBadFrom after (number + 1) rest at
skip coming after line rest number text at is takes bad = by (where_bad coming number text at bad)
  where
    by : Where coming number text at → IsBadFrom after (number + 1) rest at
    by (at_once same some none) = absurd (none line rest after is takes)
    by (afterwards l r next js takes_too worse) =
        let same = same_taken coming line l after next rest r takes takes_too (sym is ∙ js) in
        subst (λ (t : List ℕ). IsBadFrom after (number + 1) t at) (sym same.0) (subst (λ (c : Coming). IsBadFrom c (number + 1) r at) (sym same.1) worse)

-- and a bad line of the whole is one behind them
pub backward : (coming after : Coming) (front : List ℕ) (lines : ℕ) → Reads coming front lines after → (number : ℕ) (behind : List ℕ) (at : ℕ)
    → IsBadFrom coming number (front ++ behind) at → IsBadFrom after (number + lines) behind at
backward _ _ _ _ (reads_nothing coming) number behind at bad =
    let same : number ≡ number + 0 = omega arith in
    subst (λ (k : ℕ). IsBadFrom coming k behind at) same bad
backward _ _ _ _ (reads_line coming between after line rest lines takes reads) number behind at bad =
    let same : number + 1 + lines ≡ number + suc lines = omega arith in
    let inner = skip coming between line (rest ++ behind) number ((line ++ 10 ∷ rest) ++ behind) at (append_assoc line (10 ∷ rest) behind) takes bad in
    subst (λ (k : ℕ). IsBadFrom after k behind at) same (backward between after rest lines reads (number + 1) behind at inner)

-- where nothing is to come and nothing is left, no line is bad
pub no_end : (number at : ℕ) → IsBadFrom nothing number [] at → ⊥
no_end number at bad = by (where_bad nothing number [] at bad)
  where
    by : Where nothing number [] at → ⊥
    by (at_once same some none) = some refl refl
    by (afterwards line rest after is takes worse) = omega (arith, ap length is, length-append line (10 ∷ rest))

-- a text has one first bad line
pub one_bad_line : (coming : Coming) (number : ℕ) (text : List ℕ) (a b : ℕ) → IsBadFrom coming number text a → IsBadFrom coming number text b → a ≡ b
one_bad_line _ _ _ _ b (bad_here coming number text some none) other = by (where_bad coming number text b other)
  where
    by : Where coming number text b → number ≡ b
    by (at_once same _ _) = sym same
    by (afterwards line rest after is takes bad) = absurd (none line rest after is takes)
one_bad_line _ _ _ _ b (bad_later coming after number line rest at takes bad) other =
    one_bad_line after (number + 1) rest at b bad (skip coming after line rest number (line ++ 10 ∷ rest) b refl takes other)

-- two such stretches, one behind the other
pub reads_both : (coming between after : Coming) (front behind : List ℕ) (lines more : ℕ) → Reads coming front lines between → Reads between behind more after
    → Reads coming (front ++ behind) (lines + more) after
reads_both _ between after _ behind _ more (reads_nothing coming) second =
    let same : more ≡ 0 + more = omega arith in
    subst (λ (k : ℕ). Reads coming behind k after) same second
reads_both _ _ after _ behind _ more (reads_line coming next between line rest lines takes reads) second =
    let inner = reads_line coming next after line (rest ++ behind) (lines + more) takes (reads_both next between after rest behind lines more reads second) in
    let count : suc (lines + more) ≡ suc lines + more = omega arith in
    subst (λ (k : ℕ). Reads coming ((line ++ 10 ∷ rest) ++ behind) k after) count
    (subst (λ (t : List ℕ). Reads coming t (suc (lines + more)) after) (sym (append_assoc line (10 ∷ rest) behind)) inner)

-- the lines of a certificate
pub reads_tree : (tree : CertTree) (room : ℕ) (coming : List ℕ) (lines systems : ℕ) (names : List ObName) → SplitsAtMost room tree → AreInRange tree
    → Reads (parts (room ∷ coming) (nodes_of tree + lines) systems names) (cert_text tree) (nodes_of tree) (parts coming lines systems names)
reads_tree (leaf mults) room coming lines systems names within fit =
    let count : suc lines ≡ 1 + lines = omega arith in
    let takes = takes_node (room ∷ coming) coming (leaf_line mults) lines systems names (takes_leaf room coming mults fit) in
    subst (λ (k : ℕ). Reads (parts (room ∷ coming) k systems names) (leaf_line mults ++ 10 ∷ []) 1 (parts coming lines systems names)) count
    (reads_line _ (parts coming lines systems names) _ (leaf_line mults) [] 0 takes (reads_nothing (parts coming lines systems names)))
reads_tree (split variable at left right) room coming lines systems names (some, within_left, within_right) (fit, fit_left, fit_right) =
    let less = room - 1 in
    let behind = nodes_of left + (nodes_of right + lines) in
    let takes = takes_node (room ∷ coming) (less ∷ less ∷ coming) (split_line variable at) behind systems names (takes_with_room room coming variable at some fit) in
    let first = reads_tree left less (less ∷ coming) (nodes_of right + lines) systems names within_left fit_left in
    let second = reads_tree right less coming lines systems names within_right fit_right in
    let both = reads_both (parts (less ∷ less ∷ coming) behind systems names) (parts (less ∷ coming) (nodes_of right + lines) systems names) (parts coming lines systems names) (cert_text left) (cert_text right) (nodes_of left) (nodes_of right) first second in
    let whole = reads_line (parts (room ∷ coming) (suc behind) systems names) (parts (less ∷ less ∷ coming) behind systems names) (parts coming lines systems names) (split_line variable at) (cert_text left ++ cert_text right) (nodes_of left + nodes_of right) takes both in
    let before : suc behind ≡ 1 + (nodes_of left + nodes_of right) + lines = omega arith in
    let count : suc (nodes_of left + nodes_of right) ≡ 1 + (nodes_of left + nodes_of right) = omega arith in
    subst (λ (k : ℕ). Reads (parts (room ∷ coming) k systems names) (split_line variable at ++ 10 ∷ (cert_text left ++ cert_text right)) (1 + (nodes_of left + nodes_of right)) (parts coming lines systems names)) before
    (subst (λ (k : ℕ). Reads (parts (room ∷ coming) (suc behind) systems names) (split_line variable at ++ 10 ∷ (cert_text left ++ cert_text right)) k (parts coming lines systems names)) count whole)

pub nodes_some : (tree : CertTree) → 0 < nodes_of tree
nodes_some (leaf mults) = omega arith
nodes_some (split variable at left right) = omega arith

-- those of a system
pub reads_system : (tree : CertTree) (systems : ℕ) (names : List ObName) → IsWritable tree
    → Reads (parts [] 0 (suc systems) names) (system_text tree) (1 + nodes_of tree) (parts [] 0 systems names)
reads_system tree systems names is =
    let takes = takes_system systems names (nodes_of tree) (nodes_some tree) is.lines in
    let lines : nodes_of tree + 0 ≡ nodes_of tree = omega arith in
    let own = subst (λ (k : ℕ). Reads (parts (MAX_SPLITS ∷ []) k systems names) (cert_text tree) (nodes_of tree) (parts [] 0 systems names)) lines
    (reads_tree tree MAX_SPLITS [] 0 systems names is.shallow is.in_range) in
    let count : suc (nodes_of tree) ≡ 1 + nodes_of tree = omega arith in
    subst (λ (k : ℕ). Reads (parts [] 0 (suc systems) names) (system_text tree) k (parts [] 0 systems names)) count
    (reads_line (parts [] 0 (suc systems) names) (parts (MAX_SPLITS ∷ []) (nodes_of tree) systems names) (parts [] 0 systems names) (system_line (nodes_of tree)) (cert_text tree) (nodes_of tree) takes own)

-- those of some systems, behind which others may come
pub reads_systems : (trees : List CertTree) (left : ℕ) (names : List ObName) → AllByRecursion IsWritable trees
    → Reads (parts [] 0 (length trees + left) names) (systems_text trees) (lines_of trees) (parts [] 0 left names)
reads_systems [] left names all_are =
    let none : left ≡ 0 + left = omega arith in
    subst (λ (k : ℕ). Reads (parts [] 0 k names) [] 0 (parts [] 0 left names)) none (reads_nothing (parts [] 0 left names))
reads_systems (tree ∷ trees) left names all_are =
    let first = reads_system tree (length trees + left) names all_are.0 in
    let rest = reads_systems trees left names all_are.1 in
    let count : suc (length trees + left) ≡ suc (length trees) + left = omega arith in
    subst (λ (k : ℕ). Reads (parts [] 0 k names) (system_text tree ++ systems_text trees) (1 + nodes_of tree + lines_of trees) (parts [] 0 left names)) count
    (reads_both (parts [] 0 (suc (length trees + left)) names) (parts [] 0 (length trees + left) names) (parts [] 0 left names) (system_text tree) (systems_text trees) (1 + nodes_of tree) (lines_of trees) first rest)

-- those of an obligation
pub reads_obligation : (ob : ObName) (names : List ObName) (trees : List CertTree) → AreWritable trees
    → Reads (parts [] 0 0 (ob ∷ names)) (obligation_text ob trees) (1 + lines_of trees) (parts [] 0 0 names)
reads_obligation ob names trees are =
    let takes = takes_obligation ob names (length trees) are.few in
    let none : length trees + 0 ≡ length trees = omega arith in
    let own = subst (λ (k : ℕ). Reads (parts [] 0 k names) (systems_text trees) (lines_of trees) (parts [] 0 0 names)) none (reads_systems trees 0 names are.each) in
    let count : suc (lines_of trees) ≡ 1 + lines_of trees = omega arith in
    subst (λ (k : ℕ). Reads (parts [] 0 0 (ob ∷ names)) (obligation_text ob trees) k (parts [] 0 0 names)) count
    (reads_line (parts [] 0 0 (ob ∷ names)) (parts [] 0 (length trees) names) (parts [] 0 0 names) (obligation_line ob (length trees)) (systems_text trees) (lines_of trees) takes own)

-- and of all that are left
abbrev pub all_lines : List ObName → List (List CertTree) → ℕ
all_lines [] lists = 0
all_lines (ob ∷ names) [] = 0
all_lines (ob ∷ names) (trees ∷ lists) = (1 + lines_of trees) + all_lines names lists

pub reads_obligations : (names : List ObName) (lists : List (List CertTree)) → length lists ≡ length names → AllByRecursion AreWritable lists
    → Reads (parts [] 0 0 names) (obligations_text names lists) (all_lines names lists) nothing
reads_obligations [] lists count are = reads_nothing nothing
reads_obligations (ob ∷ names) [] count are = absurd (omega (arith, count))
reads_obligations (ob ∷ names) (trees ∷ lists) count are =
    reads_both (parts [] 0 0 (ob ∷ names)) (parts [] 0 0 names) nothing (obligation_text ob trees) (obligations_text names lists) (1 + lines_of trees) (all_lines names lists)
    (reads_obligation ob names trees are.0) (reads_obligations names lists (omega (arith, count)) are.1)
