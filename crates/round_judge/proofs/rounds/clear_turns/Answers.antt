use Rattle.std.proofs.Common.{◌≡◌, suc, ◌+◌, ◌++◌, List, drop, replicate, set, length, ap, ap₂, ◌∙◌, arith}
use Rattle.std.proofs.Math.ListN.{length-set}
use Rattle.std.proofs.lemmas.List.{drop_more}
use Rattle.round_model.proofs.Finding.{fill_front}
use Rattle.round_judge.specs.declared.past.Turn.{Turn}
use Rattle.round_judge.proofs.Beginnings.{no_turn}
use Rattle.round_judge.proofs.rounds.clear_turns.Goals as goal

pub loop-at-preserved : goal.loop-at-preserved
loop-at-preserved c =
    let at = c.loop-at.at in let turns = c.args.turns.now in
    let next : suc at ≡ at + 1 = omega arith in
    record {
      len = ap length c.replace-turn.ensures.is ∙ (length-set c.loop-at.turns at c.begun.result ∙ c.loop-at.invariant.len);
      front = c.replace-turn.ensures.is
          ∙ (ap₂ (λ (list : List Turn) (turn : Turn). set list at turn) (c.loop-at.invariant.front ∙ ap (λ (rest : List Turn). replicate at no_turn ++ rest) (drop_more turns at no_turn (omega arith))) c.begun.ensures
          ∙ (fill_front at no_turn _ (drop (at + 1) turns) ∙ ap (λ n. replicate n no_turn ++ drop (at + 1) turns) next));
    }
