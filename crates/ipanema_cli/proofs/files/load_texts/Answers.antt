-- Behind each load the files up to it are loaded, and those before it are read. What is told of the others doesn't change.
use Rattle.std.proofs.Common.{◌≡◌, ◌∙◌, ℕ, List, subst}
use Rattle.std.proofs.lemmas.Result.{err_from_is_err_and}
use Rattle.sched_io.specs.Faults.{Rose}
use Rattle.ipanema_cli.specs.Files.{file_named}
use Rattle.ipanema_cli.specs.Stops.{IsStopOf}
use Rattle.ipanema_cli.specs.declared.texts.TextKind.TheVariants as kind
use Rattle.ipanema_cli.proofs.LoadLemmas.{all_behind, loads_behind, loads_here, loads_last, read_before, stop_before, stop_behind, stop_here}
use Rattle.ipanema_cli.proofs.files.load_texts.Goals as goal

pub returns-in_err-policy-clause-loads : goal.returns-in_err-policy-clause-loads
returns-in_err-policy-clause-loads g c =
    loads_here (g.F.Files.told c.args.files.now) kind.Policy c.args.names.policy _ _ _ c.load_named.ensures.requests

pub returns-in_err-trace-clause-loads : goal.returns-in_err-trace-clause-loads
returns-in_err-trace-clause-loads g c =
    loads_behind (g.F.Files.told c.args.files.now) kind.Policy c.args.names.policy (λ which. c.in_ok-policy.policy.items) _ _ _ _ c.in_ok-policy.ensures.text c.load_named.ensures.requests
    (loads_here (g.F.Files.told c.args.files.now) kind.Trace c.args.names.trace _ _ _ c.load_named-2.ensures.requests)

pub returns-in_err-history-clause-stop : goal.returns-in_err-history-clause-stop
returns-in_err-history-clause-stop g c =
    let told = g.F.Files.told in
    let first = c.args.files.now in
    let third = c.load_named-2.new.files in
    let same : (name : List ℕ) → told third name ≡ told first name = λ name. c.load_named-2.ensures.same name ∙ c.load_named.ensures.same name in
    let still : g.F.Files.faults third ≡ g.F.Files.faults first = c.in_ok-trace.ensures.still ∙ c.in_ok-policy.ensures.still in
    let fault = Rose (g.F.Files.faults first) (g.F.Files.faults c.load_named-3.new.files) in
    let why = c.in_err-history.field-0.0 in
    let here : IsStopOf (file_named kind.History c.args.names.history) (told third) fault why =
    subst (λ (count : ℕ). IsStopOf (file_named kind.History c.args.names.history) (told third) (Rose count (g.F.Files.faults c.load_named-3.new.files)) why) still c.in_err-history.ensures.stop in
    let p = err_from_is_err_and c.from_residual-in_err-history.result c.from_residual-in_err-history.ensures.1 in
    rw (p.1, p.2)
    (stop_behind (told first) kind.Policy fault c.args.names.policy (λ which. c.in_ok-policy.policy.items) _ why c.in_ok-policy.ensures.text
    (stop_behind (told first) kind.Trace fault c.args.names.trace (λ which. c.in_ok-trace.trace.items) _ why
    (read_before (told first) (told c.load_named.new.files) c.load_named.ensures.same (λ which. c.in_ok-trace.trace.items) _ c.in_ok-trace.ensures.text)
    (stop_here (told first) kind.History fault c.args.names.history _ why (stop_before (told first) (told third) same fault _ why here))))

pub returns-in_err-history-clause-loads : goal.returns-in_err-history-clause-loads
returns-in_err-history-clause-loads g c =
    let told = g.F.Files.told in
    let first = c.args.files.now in
    loads_behind (told first) kind.Policy c.args.names.policy (λ which. c.in_ok-policy.policy.items) _ _ _ _ c.in_ok-policy.ensures.text c.load_named.ensures.requests
    (loads_behind (told first) kind.Trace c.args.names.trace (λ which. c.in_ok-trace.trace.items) _ _ _ _
    (read_before (told first) (told c.load_named.new.files) c.load_named.ensures.same (λ which. c.in_ok-trace.trace.items) _ c.in_ok-trace.ensures.text) c.load_named-2.ensures.requests
    (loads_here (told first) kind.History c.args.names.history _ _ _ c.load_named-3.ensures.requests))

pub returns-in_err-certificates-clause-stop : goal.returns-in_err-certificates-clause-stop
returns-in_err-certificates-clause-stop g c =
    let told = g.F.Files.told in
    let first = c.args.files.now in
    let third = c.load_named-2.new.files in
    let fourth = c.load_named-3.new.files in
    let same_third : (name : List ℕ) → told third name ≡ told first name = λ name. c.load_named-2.ensures.same name ∙ c.load_named.ensures.same name in
    let same : (name : List ℕ) → told fourth name ≡ told first name = λ name. c.load_named-3.ensures.same name ∙ same_third name in
    let still : g.F.Files.faults fourth ≡ g.F.Files.faults first = c.in_ok-history.ensures.still ∙ (c.in_ok-trace.ensures.still ∙ c.in_ok-policy.ensures.still) in
    let fault = Rose (g.F.Files.faults first) (g.F.Files.faults c.load_named-4.new.files) in
    let why = c.in_err-certificates.field-0.0 in
    let here : IsStopOf (file_named kind.Certificates c.args.names.certificates) (told fourth) fault why =
    subst (λ (count : ℕ). IsStopOf (file_named kind.Certificates c.args.names.certificates) (told fourth) (Rose count (g.F.Files.faults c.load_named-4.new.files)) why) still c.in_err-certificates.ensures.stop in
    let p = err_from_is_err_and c.from_residual-in_err-certificates.result c.from_residual-in_err-certificates.ensures.1 in
    rw (p.1, p.2)
    (stop_behind (told first) kind.Policy fault c.args.names.policy (λ which. c.in_ok-policy.policy.items) _ why c.in_ok-policy.ensures.text
    (stop_behind (told first) kind.Trace fault c.args.names.trace (λ which. c.in_ok-trace.trace.items) _ why
    (read_before (told first) (told c.load_named.new.files) c.load_named.ensures.same (λ which. c.in_ok-trace.trace.items) _ c.in_ok-trace.ensures.text)
    (stop_behind (told first) kind.History fault c.args.names.history (λ which. c.in_ok-history.history.items) _ why
    (read_before (told first) (told third) same_third (λ which. c.in_ok-history.history.items) _ c.in_ok-history.ensures.text)
    (stop_before (told first) (told fourth) same fault _ why here))))

pub returns-in_err-certificates-clause-loads : goal.returns-in_err-certificates-clause-loads
returns-in_err-certificates-clause-loads g c =
    let told = g.F.Files.told in
    let first = c.args.files.now in
    loads_behind (told first) kind.Policy c.args.names.policy (λ which. c.in_ok-policy.policy.items) _ _ _ _ c.in_ok-policy.ensures.text c.load_named.ensures.requests
    (loads_behind (told first) kind.Trace c.args.names.trace (λ which. c.in_ok-trace.trace.items) _ _ _ _
    (read_before (told first) (told c.load_named.new.files) c.load_named.ensures.same (λ which. c.in_ok-trace.trace.items) _ c.in_ok-trace.ensures.text) c.load_named-2.ensures.requests
    (loads_behind (told first) kind.History c.args.names.history (λ which. c.in_ok-history.history.items) _ _ _ _
    (read_before (told first) (told c.load_named-2.new.files) (λ name. c.load_named-2.ensures.same name ∙ c.load_named.ensures.same name) (λ which. c.in_ok-history.history.items) _ c.in_ok-history.ensures.text)
    c.load_named-3.ensures.requests
    (loads_last (told first) kind.Certificates c.args.names.certificates _ _ c.load_named-4.ensures.requests)))

pub returns-clause-loads : goal.returns-clause-loads
returns-clause-loads g c =
    let told = g.F.Files.told in
    let first = c.args.files.now in
    loads_behind (told first) kind.Policy c.args.names.policy (λ which. c.in_ok-policy.policy.items) _ _ _ _ c.in_ok-policy.ensures.text c.load_named.ensures.requests
    (loads_behind (told first) kind.Trace c.args.names.trace (λ which. c.in_ok-trace.trace.items) _ _ _ _
    (read_before (told first) (told c.load_named.new.files) c.load_named.ensures.same (λ which. c.in_ok-trace.trace.items) _ c.in_ok-trace.ensures.text) c.load_named-2.ensures.requests
    (loads_behind (told first) kind.History c.args.names.history (λ which. c.in_ok-history.history.items) _ _ _ _
    (read_before (told first) (told c.load_named-2.new.files) (λ name. c.load_named-2.ensures.same name ∙ c.load_named.ensures.same name) (λ which. c.in_ok-history.history.items) _ c.in_ok-history.ensures.text)
    c.load_named-3.ensures.requests
    (loads_last (told first) kind.Certificates c.args.names.certificates _ _ c.load_named-4.ensures.requests)))

pub returns-clause-loaded : goal.returns-clause-loaded
returns-clause-loaded g c =
    let told = g.F.Files.told c.args.files.now in
    all_behind told kind.Policy c.args.names.policy _ _ _ _ c.load_named.ensures.requests
    (all_behind told kind.Trace c.args.names.trace _ _ _ _ c.load_named-2.ensures.requests
    (all_behind told kind.History c.args.names.history _ _ _ _ c.load_named-3.ensures.requests c.load_named-4.ensures.requests))
