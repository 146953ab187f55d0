-- The log after one entry more.
use Rattle.std.proofs.Common.{◌≡◌, ℕ, suc, ◌+◌, Bool, cond, List, [], ◌∷◌, ◌++◌, length, sym, ap, ◌∙◌, arith}
use Rattle.std.proofs.lemmas.List.{append-nil, append_assoc}
use Rattle.round_model.specs.declared.entry.Entry.{Entry}
use Rattle.core_state.specs.declared.logged.Logged.{Logged}
use Rattle.core_state.specs.Laws.{LogGrowsLaw}
use Rattle.core_state.specs.Logs.{logged, logged_from}

pub logged_from-push : (test : Entry → Bool) (at : ℕ) (history : List Entry) (e : Entry)
    → logged_from test at (history ++ e ∷ []) ≡ logged_from test at history ++ cond (test e) (logged (at + length history) e ∷ []) []
logged_from-push test at [] e =
    append-nil (cond (test e) (logged at e ∷ []) []) ∙ ap (λ n. cond (test e) (logged n e ∷ []) []) (let same : at ≡ at + 0 = omega arith in same)
logged_from-push test at (x ∷ xs) e =
    let front : List Logged = cond (test x) (logged at x ∷ []) [] in
    ap (λ (rest : List Logged). front ++ rest) (logged_from-push test (suc at) xs e
    ∙ ap (λ n. logged_from test (suc at) xs ++ cond (test e) (logged n e ∷ []) []) (let same : suc at + length xs ≡ at + suc (length xs) = omega arith in same))
    ∙ sym (append_assoc front (logged_from test (suc at) xs) (cond (test e) (logged (at + suc (length xs)) e ∷ []) []))

pub log_grows : LogGrowsLaw
log_grows test history e =
    logged_from-push test 0 history e
    ∙ ap (λ n. logged_from test 0 history ++ cond (test e) (logged n e ∷ []) []) (let same : 0 + length history ≡ length history = omega arith in same)
