-- The words of a line that was taken off word by word.
use Rattle.std.proofs.Common.{◌≡◌, ◌≢◌, ℕ, List, ◌∷◌, ◌++◌, codes, decimal, ap, sym, ◌∙◌}
use Rattle.std.proofs.lemmas.List.{append_cancel_left}
use Rattle.obligations.specs.declared.names.ObName.{ObName}
use Rattle.obligations.specs.Names.{ob_text}
use Rattle.cert_file.specs.Text.{obligation_line, system_line}

-- the line of a system begins with its word
pub no_system : (line word : List ℕ) (lines : ℕ) → word ≡ codes "system " → ((rest : List ℕ) → line ≢ word ++ rest) → line ≡ system_line lines → ⊥
no_system line word lines is none same = none (decimal lines) (same ∙ ap (λ w. w ++ decimal lines) (sym is))

pub behind_system : (line word digits : List ℕ) (lines : ℕ) → word ≡ codes "system " → line ≡ word ++ digits → line ≡ system_line lines → digits ≡ decimal lines
behind_system line word digits lines is cut same =
    append_cancel_left (codes "system ") digits (decimal lines) (ap (λ w. w ++ digits) (sym is) ∙ sym cut ∙ same)

-- that of an obligation with its word, its name and a space
pub no_obligation : (line word : List ℕ) (ob : ObName) (systems : ℕ) → word ≡ codes "obligation " → ((rest : List ℕ) → line ≢ word ++ rest) → line ≡ obligation_line ob systems → ⊥
no_obligation line word ob systems is none same = none (ob_text ob ++ 32 ∷ decimal systems) (same ∙ ap (λ w. w ++ (ob_text ob ++ 32 ∷ decimal systems)) (sym is))

behind_obligation : (line word rest : List ℕ) (ob : ObName) (systems : ℕ) → word ≡ codes "obligation " → line ≡ word ++ rest → line ≡ obligation_line ob systems → rest ≡ ob_text ob ++ 32 ∷ decimal systems
behind_obligation line word rest ob systems is cut same =
    append_cancel_left (codes "obligation ") rest (ob_text ob ++ 32 ∷ decimal systems) (ap (λ w. w ++ rest) (sym is) ∙ sym cut ∙ same)

pub no_space : (line word rest name behind space : List ℕ) (ob : ObName) (systems : ℕ) → word ≡ codes "obligation " → line ≡ word ++ rest → (text : List ℕ) → text ≡ ob_text ob → name ≡ text → rest ≡ name ++ behind
    → space ≡ codes " " → ((last : List ℕ) → behind ≢ space ++ last) → line ≡ obligation_line ob systems → ⊥
no_space line word rest name behind space ob systems is cut text text_is name_is named space_is none same =
    let own = behind_obligation line word rest ob systems is cut same in
    let after : behind ≡ 32 ∷ decimal systems = append_cancel_left (ob_text ob) behind (32 ∷ decimal systems) (ap (λ n. n ++ behind) (sym (name_is ∙ text_is)) ∙ sym named ∙ own) in
    none (decimal systems) (after ∙ ap (λ s. s ++ decimal systems) (sym space_is))
