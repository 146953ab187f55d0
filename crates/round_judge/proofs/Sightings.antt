-- What was read off the rows of a past.
use Rattle.std.proofs.Common.{◌≡◌, ℕ, ◌+◌, ◌-◌, ◌<◌, List, length, slice_index, sym, ap, ◌∙◌, subst, arith}
use Rattle.policy_tree.specs.Meaning.{Meaning}
use Rattle.policy_eval.specs.declared.env.CoreValues.{CoreValues}
use Rattle.policy_eval.specs.Fitting.{CoreFits}
use Rattle.policy_eval.specs.Sights.{no_attributes}
use Rattle.round_model.specs.declared.entry.Entry.{Entry}
use Rattle.round_model.specs.declared.plan.Plan.{Plan}
use Rattle.round_model.specs.Choices.{values_in}
use Rattle.round_model.specs.Fits.{Fits}
use Rattle.round_model.specs.declared.state.CountAndLoad.{CountAndLoad}
use Rattle.round_model.specs.Reads.{read_values, round_start, value_read, values_of}
use Rattle.round_judge.specs.declared.past.Past.{Past}
use Rattle.round_judge.specs.Readable.{ReadIn}
use Rattle.round_judge.specs.Past.{IsKeptPosition, IsPastOf, StandsFor, seen_in}

-- of each core below that one the values are those of the row that was read
abbrev pub AreReadBelow : Plan → Past → List ℕ → List CoreValues → ℕ → Type 0
AreReadBelow plan past reads values n = (c k : ℕ) → c < n → past.entries + k + 1 ≡ slice_index reads c + length past.rows
    → values_in values c ≡ values_of plan c (seen_in past.rows k c)

module _ (plan : Plan) (past : Past) (reads : List ℕ) (read : ReadIn plan past reads) (values : List CoreValues) (are : AreReadBelow plan past reads values plan.cores) where
  -- the row of a read
  row_of : (c : ℕ) → c < plan.cores → (k : ℕ) × (past.entries + k + 1 ≡ slice_index reads c + length past.rows)
  row_of c there = let from = read.from_start c there in (slice_index reads c + length past.rows - (past.entries + 1), omega arith)

  pub values_fit : (p : Meaning) → Fits p plan → IsPastOf p plan past → (c : ℕ) → c < plan.cores → CoreFits p (values_in values c)
  values_fit p fits belongs c there =
      let row = row_of c there in let place = row.1 in let to_now = read.to_now c there in
      subst (CoreFits p) (sym (are c row.0 there row.1)) (record {
        loads = belongs.rows row.0 c (omega arith) there;
        consts = fits.consts c no_attributes (omega (arith, fits.consts_each));
      })

  pub values_seen : (p : Meaning) (history : List Entry) → StandsFor p plan past history → (c : ℕ) → c < plan.cores
      → values_in values c ≡ read_values plan (value_read p plan history) reads c
  values_seen p history stands c there =
      let row = row_of c there in let place = row.1 in let to_now = read.to_now c there in
      let entries = stands.entries in let window = stands.rows.window in
      let at : round_start history + row.0 ≡ slice_index reads c = omega arith in
      are c row.0 there row.1
      ∙ ap (values_of plan c) (stands.rows.each row.0 c (omega arith) there ∙ ap (value_read p plan history c) at)

-- what a row shows of a core at a position that is kept
pub seen_kept : (past : Past) (core position : ℕ) (seen : CountAndLoad) → IsKeptPosition past position
    → ((k : ℕ) → past.entries + k + 1 ≡ position + length past.rows → seen ≡ seen_in past.rows k core)
    → (p : Meaning) (plan : Plan) (history : List Entry) → StandsFor p plan past history → core < plan.cores
    → seen ≡ value_read p plan history core position
seen_kept past core position seen kept shown p plan history stands there =
    let first = kept.not_before in let last = kept.not_after in
    let entries = stands.entries in let window = stands.rows.window in
    let k : ℕ = position + length past.rows - (past.entries + 1) in
    let row : past.entries + k + 1 ≡ position + length past.rows = omega arith in
    let at : round_start history + k ≡ position = omega arith in
    shown k row ∙ stands.rows.each k core (omega arith) there ∙ ap (value_read p plan history core) at
