-- What one entry more leaves of the reads of a play.
use Rattle.std.proofs.Common.{◌≡◌, ℕ, false, List, [], ◌∷◌, ◌++◌, arith}
use Rattle.std.proofs.lemmas.List.{length-append}
use Rattle.policy_tree.specs.Meaning.{Meaning}
use Rattle.round_model.specs.declared.entry.Entry.{Entry}
use Rattle.round_model.specs.declared.plan.Plan.{Plan}
use Rattle.round_model.specs.Kinds.{is_round}
use Rattle.round_model.proofs.Longer.{start_stays}
use Rattle.round_judge.specs.declared.past.Past.{Past}
use Rattle.round_judge.specs.Readable.{ReadIn}
use Rattle.round_judge.specs.Past.{StandsFor}

-- reads of the round stay such
pub read_stays : (p : Meaning) (plan : Plan) (old new : Past) (h : List Entry) (e : Entry) (reads : List ℕ) → is_round e ≡ false → StandsFor p plan old h → StandsFor p plan new (h ++ e ∷ [])
    → ReadIn plan old reads → ReadIn plan new reads
read_stays p plan old new h e reads inner stands longer read =
    let window = stands.rows.window in let wider = longer.rows.window in let start = start_stays h e inner in
    let count = length-append h (e ∷ []) in
    record {
      one_each = read.one_each;
      from_start = λ c there. let from = read.from_start c there in omega (arith, stands.entries, longer.entries);
      to_now = λ c there. let to = read.to_now c there in omega (arith, stands.entries, longer.entries);
    }
