use Rattle.std.proofs.Common.{◌≡◌, ℕ, ◌+◌, length, sym, ap, ◌∙◌, subst, arith}
use Rattle.core_table.specs.declared.views.View.{View}
use Rattle.core_table.specs.Public.{plan_of, view_of}
use Rattle.parallel_play.specs.Playing.{IdleFrom}
use Rattle.parallel_play.specs.Stages.{table_in}
use Rattle.turn_steps.specs.Shares.{first_of}
use Rattle.turn_steps.proofs.Sharing.{first_grows, first_within, share_grows}
use Rattle.crew_play.specs.Hands.{Nobody}
use Rattle.crew_play.proofs.Handing.{crew_as, dealt_round}
use Rattle.crew_play.proofs.Shares.{share_fits}
use Rattle.crew_play.proofs.crews.deal_share.Goals as goal

pub deal-seat-requires-clause-idle : goal.deal-seat-requires-clause-idle
deal-seat-requires-clause-idle g c =
    subst (λ n. IdleFrom n (view_of c.args.seat)) (sym (c.first_core-first.ensures ∙ ap (λ n. first_of n c.args.workers c.args.worker) c.cores-cores.ensures)) c.requires.idle

pub deal-seat-requires-clause-cores : goal.deal-seat-requires-clause-cores
deal-seat-requires-clause-cores g c =
    let cores : ℕ = (plan_of (table_in c.args.stage.now)).cores in let w = c.requires.workers in
    let first : c.first_core-first.result ≡ first_of cores c.args.workers c.args.worker = c.first_core-first.ensures ∙ ap (λ n. first_of n c.args.workers c.args.worker) c.cores-cores.ensures in
    let end : c.first_core-end.result ≡ first_of cores c.args.workers (c.args.worker + 1) = c.first_core-end.ensures ∙ ap (λ n. first_of n c.args.workers (c.args.worker + 1)) c.cores-cores.ensures in
    let more = first_grows cores c.args.workers c.args.worker (c.args.worker + 1) w.0 (omega arith) in let within = first_within cores c.args.workers (c.args.worker + 1) (let low = w.1 in omega arith) in
    (omega arith, omega arith)

pub deal-seat-requires-clause-room : goal.deal-seat-requires-clause-room
deal-seat-requires-clause-room g c =
    let cores : ℕ = (plan_of (table_in c.args.stage.now)).cores in
    let first : c.first_core-first.result ≡ first_of cores c.args.workers c.args.worker = c.first_core-first.ensures ∙ ap (λ n. first_of n c.args.workers c.args.worker) c.cores-cores.ensures in
    let end : c.first_core-end.result ≡ first_of cores c.args.workers (c.args.worker + 1) = c.first_core-end.ensures ∙ ap (λ n. first_of n c.args.workers (c.args.worker + 1)) c.cores-cores.ensures in
    let fits = share_fits cores c.args.workers c.args.worker c.requires.workers.0 in let room = c.requires.room.1 in
    (c.requires.room.0, omega arith)

pub returns-clause-first : goal.returns-clause-first
returns-clause-first g c = c.first_core-first.ensures ∙ ap (λ n. first_of n c.args.workers c.args.worker) c.cores-cores.ensures

pub returns-clause-seat : goal.returns-clause-seat
returns-clause-seat g c =
    let d = c.deal-seat.ensures in
    (d.seat, c.requires.round ∙ sym (ap (λ (u : View). u.round) d.view ∙ dealt_round c.first_core-first.result (view_of c.args.seat) (length c.deal-seat.result.1.items)))

pub returns-clause-idle : goal.returns-clause-idle
returns-clause-idle g c =
    subst (λ n. IdleFrom n (view_of c.deal-seat.result.0)) (c.first_core-end.ensures ∙ ap (λ n. first_of n c.args.workers (c.args.worker + 1)) c.cores-cores.ensures) c.deal-seat.ensures.idle

pub returns-clause-len : goal.returns-clause-len
returns-clause-len g c = c.deal-seat.ensures.len ∙ (c.first_core-end.ensures ∙ ap (λ n. first_of n c.args.workers (c.args.worker + 1)) c.cores-cores.ensures)

pub returns-clause-crew : goal.returns-clause-crew
returns-clause-crew g c =
    crew_as (table_in c.args.stage.now) Nobody (g.G.Gate.passed c.args.gate.now) c.args.stage.now.round c.first_core-first.result c.deal-seat.result.1.items (λ core round nobody. absurd nobody) c.deal-seat.ensures.crew

pub returns-clause-some : goal.returns-clause-some
returns-clause-some g c few =
    let cores : ℕ = (plan_of (table_in c.args.stage.now)).cores in let grows = share_grows cores c.args.workers c.args.worker c.requires.workers.0 few in
    let first : c.first_core-first.result ≡ first_of cores c.args.workers c.args.worker = c.first_core-first.ensures ∙ ap (λ n. first_of n c.args.workers c.args.worker) c.cores-cores.ensures in
    let end : c.first_core-end.result ≡ first_of cores c.args.workers (c.args.worker + 1) = c.first_core-end.ensures ∙ ap (λ n. first_of n c.args.workers (c.args.worker + 1)) c.cores-cores.ensures in
    let len = c.deal-seat.ensures.len in omega arith
