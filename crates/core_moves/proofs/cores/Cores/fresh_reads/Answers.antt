use Rattle.std.proofs.Common.{◌≡◌, ℕ, max, List, map, [], ◌∷◌, ◌++◌, length, sym, ap, ap₂, ◌∙◌, arith}
use Rattle.std.specs.List.{range_with_len}
use Rattle.std.proofs.lemmas.List.FromFn.{length-map-range_with_len, map-range_with_len_more}
use Rattle.round_model.specs.After.{after}
use Rattle.round_model.specs.FreshReads.{touched_from}
use Rattle.round_model.specs.Reads.{round_start}
use Rattle.round_model.specs.Scenes.{scene_of}
use Rattle.core_state.specs.declared.logged.Logged.{Logged}
use Rattle.core_state.specs.Logs.{after_last}
use Rattle.core_state.specs.Views.{CoreView}
use Rattle.core_moves.proofs.Fresh.{touched_is}
use Rattle.core_moves.proofs.Seeing.{in_sight, log_ends}
use Rattle.core_moves.proofs.Shown.{shown_at}
use Rattle.core_moves.proofs.cores.Cores.fresh_reads.Goals as goal

pub core-requires : goal.core-requires
core-requires c = in_sight c.requires.0 c.args.plan.now c.args.self.now c.requires.2 c.loop-core.core c.loop-core-test.true

pub end_of-requires : goal.end_of-requires
end_of-requires c =
    let ends = log_ends c.requires.0 c.args.plan.now c.args.self.now c.requires.2 c.loop-core.core c.loop-core-test.true c.core.result.now c.core.ensures in
    let same : after_last 0 c.entries.result.now ≡ after_last 0 c.core.result.now.log = ap (λ (log : List Logged). after_last 0 log) c.entries.ensures in
    omega arith

pub push-requires : goal.push-requires
push-requires c =
    let h = c.requires.2.0 in let few = c.requires.2.1.are.limits.few_cores in let below = c.loop-core-test.true in
    let read : ℕ → ℕ = λ k. max (round_start h) (touched_from k 0 0 h) in
    let reads = ap length (c.loop-core.invariant c.requires.0 h c.requires.2.1.are) ∙ length-map-range_with_len read 0 c.loop-core.core in
    omega arith

pub loop-core-preserved : goal.loop-core-preserved
loop-core-preserved c p h are =
    let core = c.loop-core.core in let read : ℕ → ℕ = λ k. max (round_start h) (touched_from k 0 0 h) in
    let log = ap (λ (list : List Logged). after_last 0 list) (c.entries.ensures
    ∙ ap (λ (y : CoreView). y.log) (shown_at p c.args.plan.now h (after p c.args.plan.now h) c.args.self.now are core c.core.result.now c.loop-core-test.true c.core.ensures)) in
    let this : c.max.result ≡ read core = c.max.ensures ∙ ap₂ max (c.start.ensures ∙ are.start) (c.end_of.ensures ∙ (log ∙ sym (touched_is core 0 0 h))) in
    c.push.ensures
    ∙ (ap₂ (λ (reads : List ℕ) (x : ℕ). reads ++ x ∷ []) (c.loop-core.invariant p h are) this
    ∙ sym (map-range_with_len_more read 0 core core (omega arith)))

pub returns : goal.returns
unfolding scene_of
returns c p core h are =
    let over : c.loop-core.core ≡ c.args.plan.now.cores = omega arith in
    c.loop-core.invariant p h are ∙ ap (λ n. map (λ k. max (round_start h) (touched_from k 0 0 h)) (range_with_len 0 n)) over
