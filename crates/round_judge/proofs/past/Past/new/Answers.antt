use Rattle.std.proofs.Common.{◌++◌, replicate, refl, ap, ◌∙◌, [], ◌∷◌, List}
use Rattle.sched_base.specs.declared.limits.TheConstants.{MAX_CORES}
use Rattle.round_model.specs.declared.state.CountAndLoad.{CountAndLoad}
use Rattle.round_judge.specs.declared.past.Past.{Past}
use Rattle.round_judge.proofs.Beginnings.{Begins, belongs_begun, nothing, stands_begun}
use Rattle.round_judge.proofs.past.Past.new.Goals as goal

-- the past that is made
abbrev made : goal.After-from_vec-arrivals → Past
made c = record {
  state = c.in_ok-state.state;
  entries = 0;
  rounds = 0;
  turns = c.from_vec-turns.result;
  arrivals = c.from_vec-arrivals.result;
  rows = c.push.new.self;
  ended = c.from_vec-ended.result;
  directory = c.in_ok-directory.directory;
}

begins : (c : goal.After-from_vec-arrivals) → Begins c.args.plan.now (made c)
begins c = record {
  state = c.in_ok-state.ensures;
  entries = refl;
  rounds = refl;
  turns = c.from_vec-turns.ensures ∙ (c.in_ok-from_elem.ensures.items_if_clones_equal (λ y same. same) ∙ ap (replicate c.args.plan.now.cores) c.begun.ensures);
  arrivals = c.from_vec-arrivals.ensures ∙ c.new-2.ensures.items;
  rows = c.in_ok-push.ensures.ok ∙ ap (λ (rows : List (List CountAndLoad)). rows ++ replicate MAX_CORES nothing ∷ []) (c.from_vec-rows.ensures ∙ c.new.ensures.items);
  ended = c.from_vec-ended.ensures ∙ c.in_ok-from_elem-2.ensures.items_if_clones_equal (λ y same. same);
}

pub returns-clause-stands : goal.returns-clause-stands
returns-clause-stands c = stands_begun c.args.plan.now (made c) (begins c)

pub returns-clause-belongs : goal.returns-clause-belongs
returns-clause-belongs c p fits = belongs_begun c.args.plan.now (made c) (begins c) p fits c.requires.limits (c.in_ok-directory.ensures p fits)
