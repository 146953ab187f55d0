use Rattle.std.proofs.Common.{◌≡◌, [], None, Some, slice_get, refl, sym, ap, ◌∙◌, subst, arith}
use Rattle.policy_tree.specs.Meaning.{meaning_of}
use Rattle.policy_eval.specs.declared.env.CoreValues.{CoreValues}
use Rattle.round_model.specs.declared.state.ModelCore.{ModelCore}
use Rattle.round_model.specs.Attempts.{moves_of, steal_or_fail}
use Rattle.round_model.specs.Bounds.{CoreInBounds, standing_count}
use Rattle.round_model.specs.Cores.{seen_of}
use Rattle.round_model.specs.Moves.{StandOnce}
use Rattle.round_model.specs.Reads.{values_of}
use Rattle.round_model.proofs.Elections.{item_at}
use Rattle.round_model.proofs.Finding.{All-at}
use Rattle.round_model.proofs.States.{listed_at}
use Rattle.round_model.proofs.Totals.{sum_two}
use Rattle.round_judge.specs.Code.Batches.{AreSeen}
use Rattle.round_judge.proofs.attempts.stealable.Goals as goal

pub moves-requires-clause-own : goal.moves-requires-clause-own
moves-requires-clause-own c = c.present-own.ensures.fits (meaning_of c.args.policy.now) c.requires.fits c.requires.bounds

pub moves-requires-clause-victim : goal.moves-requires-clause-victim
moves-requires-clause-victim c =
    let p = meaning_of c.args.policy.now in let x = c.get.result.now in
    let seen = c.present-other.ensures.values x c.get.ensures.item in
    record {
      fits = c.present-other.ensures.fits p c.requires.fits c.requires.bounds;
      bounds = All-at (CoreInBounds p) c.args.state.now c.requires.bounds c.args.victim x c.get.ensures.item;
      count = ap (λ (v : CoreValues). v.nr) seen;
      weight = ap (λ (v : CoreValues). v.load) seen;
    }

pub moves-requires-clause-few : goal.moves-requires-clause-few
moves-requires-clause-few c =
    let state = c.args.state.now in let y = c.get.result.now in
    let own : (x : ModelCore) × (slice_get state c.args.core ≡ Some x) = item_at state c.args.core (let cores = c.requires.cores in let inside = c.requires.core in omega arith) in
    let nobody : ModelCore = record { current = None; queue = []; blocked = []; consts = [] } in
    let both = sum_two standing_count state c.args.core c.args.victim own.0 y nobody refl own.1 c.get.ensures.item c.requires.apart in
    let first = ap (λ (v : CoreValues). v.nr) (c.present-own.ensures.values own.0 own.1) in
    let second = ap (λ (v : CoreValues). v.nr) (c.present-other.ensures.values y c.get.ensures.item) in
    omega (arith, both, first, second, c.requires.few)

pub returns : goal.returns
returns c m reads is once =
    let p = meaning_of c.args.policy.now in let plan = c.args.plan.now in let state = c.args.state.now in let a = c.args.core in let v = c.args.victim in
    let own : (x : ModelCore) × (slice_get state a ≡ Some x) = item_at state a (let cores = c.requires.cores in let inside = c.requires.core in omega arith) in
    let thief = listed_at plan.cores m state a own.0 is own.1 c.requires.core in
    let victim = listed_at plan.cores m state v c.get.result.now is c.get.ensures.item c.requires.victim in
    let seen : AreSeen plan a v c.present-own.result c.present-other.result (m a) c.get.result.now = record {
      own_is = c.present-own.ensures.values own.0 own.1 ∙ ap (λ (x : ModelCore). values_of plan a (seen_of x)) thief;
      other_is = c.present-other.ensures.values c.get.result.now c.get.ensures.item;
      once = subst (λ (x : ModelCore). StandOnce x.queue) (sym victim) (once v c.requires.victim);
    } in
    ap (steal_or_fail a v reads) (sym (c.moves.ensures plan a v (m a) seen ∙ ap (λ (x : ModelCore). moves_of p plan a v p.batch (m a) x) victim))
