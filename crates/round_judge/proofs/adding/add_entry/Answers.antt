use Rattle.std.proofs.Common.{◌≡◌, ◌∙◌, ℕ, ◌-◌, ap, sym, subst, List, [], ◌∷◌, ◌++◌, length, slice_get, slice_set, Some, arith}
use Rattle.std.proofs.Math.Seq.{set-append_seam}
use Rattle.std.proofs.lemmas.List.{length-append}
use Rattle.policy_tree.specs.Meaning.{meaning_of}
use Rattle.round_model.specs.declared.state.CountAndLoad.{CountAndLoad}
use Rattle.round_model.specs.Kept.{IsKept}
use Rattle.round_judge.specs.Notes.{IsLook}
use Rattle.round_judge.specs.Steps.{comes}
use Rattle.round_judge.proofs.Keeping.{all_hold, few_stand, slice_get_last}
use Rattle.round_judge.proofs.adding.add_entry.Goals as goal

pub note-requires-clause-few : goal.note-requires-clause-few
note-requires-clause-few c =
    let kept = c.in_default.ensures.kept (all_hold (meaning_of c.args.policy.now) c.args.past.now.state c.requires.past.each) in
    omega (arith, kept.len, c.requires.past.cores, c.requires.past.limits.few_cores)

pub note-requires-clause-countable : goal.note-requires-clause-countable
note-requires-clause-countable c =
    let kept = c.in_default.ensures.kept (all_hold (meaning_of c.args.policy.now) c.args.past.now.state c.requires.past.each) in
    few_stand c.change-changed.new.state (let more = kept.count in let free = c.requires.free in omega arith)

pub returns-clause-ok : goal.returns-clause-ok
returns-clause-ok c =
    let p = meaning_of c.args.policy.now in let plan = c.args.plan.now in let old = c.args.past.now in
    let noted = c.note.ensures in
    let newest = c.get-newest.result.now in
    let pushed : c.push.new.self ≡ old.rows ++ newest ∷ [] = c.in_ok-push.ensures.ok in
    record {
      state = λ m is said. noted.state ∙ c.in_default.ensures.ok plan.cores m is c.requires.there said;
      kept = subst (IsKept p 0 (comes c.args.entry.now) old.state) (sym noted.state) (c.in_default.ensures.kept (all_hold p old.state c.requires.past.each));
      entries = noted.entries;
      rounds = noted.rounds;
      turns = noted.turns;
      arrivals = noted.arrivals;
      rows = λ k row last is.
          let at : k ≡ c.len-rows.result - 1 = omega (arith, last, c.len-rows.ensures) in
          let item = c.get-newest.ensures.item in
          let same : row ≡ newest = let both = sym (subst (λ (j : ℕ). slice_get old.rows j ≡ Some row) at is) ∙ item in cc in
          let look = noted.rows (length old.rows) newest (omega (arith, ap length pushed, length-append old.rows (newest ∷ [])))
          (ap (λ (rows : List (List CountAndLoad)). slice_get rows (length old.rows)) pushed ∙ slice_get_last old.rows newest) in
          (look.0, subst (λ (r : List CountAndLoad). IsLook r c.note.new.past.state c.args.entry.now look.0) (sym same) look.1, look.2 ∙ (ap (λ (rows : List (List CountAndLoad)). slice_set rows (length old.rows) look.0) pushed ∙ set-append_seam old.rows newest [] look.0));
      ended = noted.ended;
      directory = noted.directory;
    }
