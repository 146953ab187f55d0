-- What one token of a level does, as the parser tests it.
use Rattle.std.proofs.Common.{◌≡◌, ◌<◌, ◌≤◌, ℕ, ◌+◌, ◌==◌, List, ◌∷◌, refl, sym, lit<, false, Some, None, ◌∙◌}
use Rattle.policy_grammar.specs.declared.terminal.Lexeme.{Lexeme}
use Rattle.policy_grammar.specs.declared.limits.Limits.{Limits}
use Rattle.policy_grammar.specs.declared.fault.ParseFault.TheVariants.{Unexpected, Many}
use Rattle.policy_grammar.specs.declared.terminal.Terminal.TheVariants.{Level, Within, Filter, Always}
use Rattle.policy_grammar.specs.Terminals.{code, kind_at}
use Rattle.policy_grammar.specs.Breaks.{many}
use Rattle.policy_grammar.specs.Symbols.{Symbol, the, level, levels, within, condition, compare, operand}
use Rattle.policy_grammar.specs.Machine.{go}
use Rattle.policy_grammar.proofs.Steps.{judged, go-stuck, go-same, go-move}
use Rattle.policy_parser.proofs.Judged.{kept, broken, within-many, past-many}

module _ (limits : Limits) (ts : List Lexeme) (at : ℕ) where
  level-move : (before : ℕ) (below : List Symbol) → kind_at ts at ≡ code Level →
      go limits ts at 0 (level before ∷ below)
      ≡ judged (many limits.levels at before) (go limits ts (at + 1) 0 (the Within ∷ within ∷ the Filter ∷ condition limits.level_comparisons ∷ levels (before + 1) ∷ below))
  level-move before below k = go-move limits ts at (code Level) 0 0 (level before ∷ below) _ (many limits.levels at before) k (lit< tt) refl

  pub level-goes : (before : ℕ) (below : List Symbol) → kind_at ts at ≡ code Level → before < limits.levels →
      go limits ts at 0 (level before ∷ below)
      ≡ go limits ts (at + 1) 0 (the Within ∷ within ∷ the Filter ∷ condition limits.level_comparisons ∷ levels (before + 1) ∷ below)
  level-goes before below k few = kept _ (level-move before below k) (within-many limits.levels at before few)

  pub level-many : (before : ℕ) (below : List Symbol) → kind_at ts at ≡ code Level → limits.levels ≤ before →
      go limits ts at 0 (level before ∷ below) ≡ Some (Many at limits.levels)
  level-many before below k most = broken _ (level-move before below k) (past-many limits.levels at before most)

  pub level-none : (before : ℕ) (below : List Symbol) → (kind_at ts at == code Level) ≡ false → go limits ts at 0 (level before ∷ below) ≡ Some (Unexpected at)
  level-none before below isnt = go-stuck limits ts at 0 (level before ∷ below) refl (rw isnt refl)

  pub levels-level : (before : ℕ) (below : List Symbol) → kind_at ts at ≡ code Level → go limits ts at 0 (levels before ∷ below) ≡ go limits ts at 0 (level before ∷ below)
  levels-level before below k =
      go-move limits ts at (code Level) 0 0 (levels before ∷ below) _ (many limits.levels at before) k (lit< tt) refl ∙ sym (level-move before below k)

  pub levels-over : (before : ℕ) (below : List Symbol) → (kind_at ts at == code Level) ≡ false → go limits ts at 0 (levels before ∷ below) ≡ go limits ts at 0 below
  levels-over before below isnt = go-same limits ts at 0 0 (levels before ∷ below) below refl (rw isnt refl)

  -- what stands behind `within`
  pub within-always-goes : (below : List Symbol) → kind_at ts at ≡ code Always → go limits ts at 0 (within ∷ below) ≡ go limits ts (at + 1) 0 below
  within-always-goes below k = go-move limits ts at (code Always) 0 0 (within ∷ below) below None k (lit< tt) refl

  pub within-test-begins : (below : List Symbol) → (kind_at ts at == code Always) ≡ false →
      go limits ts at 0 (within ∷ below) ≡ go limits ts at 0 (operand 0 0 0 ∷ compare 1 0 ∷ below)
  within-test-begins below isnt = go-same limits ts at 0 0 (within ∷ below) (operand 0 0 0 ∷ compare 1 0 ∷ below) refl (rw isnt refl)
