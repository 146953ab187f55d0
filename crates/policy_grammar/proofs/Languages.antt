-- A grammar and what may come at first, where they are one language: what the laws on reading take.
use Rattle.std.proofs.Common.{◌≡◌, ℕ, List, ◌++◌, length, refl, Option}
use Rattle.policy_syntax.specs.SyntaxTrees.{SyntaxTree}
use Rattle.policy_syntax.specs.LevelTrees.{LevelSyntaxTree}
use Rattle.policy_grammar.specs.declared.terminal.Lexeme.{Lexeme}
use Rattle.policy_grammar.specs.declared.limits.Limits.{Limits}
use Rattle.policy_grammar.specs.declared.fault.ParseFault.{ParseFault}
use Rattle.policy_grammar.specs.Policies.{IsPolicy, policy_of}
use Rattle.policy_grammar.specs.Levels.{IsLevels, levels_of}
use Rattle.policy_grammar.specs.Breaks.{breaks_policy}
use Rattle.policy_grammar.specs.LevelBreaks.{breaks_level_text}
use Rattle.policy_grammar.specs.Symbols.{Symbol}
use Rattle.policy_grammar.specs.Machine.{go, start, level_start}
use Rattle.policy_grammar.specs.Correct.{BeginsIn}
use Rattle.policy_grammar.proofs.CompletePolicies.{policy_read}
use Rattle.policy_grammar.proofs.CompleteLevels.{level_text_read}
use Rattle.policy_grammar.proofs.Places.{IsLimit, limit-policy, limit-level-text}
use Rattle.policy_grammar.proofs.Reached.{Reach, completes}
use Rattle.policy_grammar.proofs.Pulled.{token, Are, are_none, are_more}

-- the grammar's texts are read to their end, up to the first limit that each passes, and no others are what may come
pub record IsLanguage (limits : Limits) (text : List ℕ) (Tree : Type 0) (Is : List Lexeme → Tree → Type 0) (breaks : Tree → Option ParseFault)
    (begin : List Symbol) : Type 0 where
  pub read : (ts : List Lexeme) (s : Tree) → Is ts s → go limits ts 0 0 begin ≡ breaks s
  pub from : (ts : List Lexeme) → Are text ts begin 0 (length ts) → (s : Tree) × Is ts s
  pub limit : (s : Tree) → IsLimit (breaks s)

-- what is read begins some text
pub reach-begins : (text : List ℕ) (Tree : Type 0) (Is : List Lexeme → Tree → Type 0) (begin : List Symbol) →
    ((ts : List Lexeme) → Are text ts begin 0 (length ts) → (s : Tree) × Is ts s) →
    (ps : List Lexeme) (stack : List Symbol) → Reach begin text ps stack → BeginsIn Tree Is ps
reach-begins text Tree Is begin from ps stack reach =
    let c = completes text stack in
    let w = from (ps ++ c.0) (reach (ps ++ c.0) c.0 (length (ps ++ c.0)) refl (c.1 ps)) in
    record { rest = c.0; syntax = w.0; is = w.1 }

-- the symbols of a whole policy are a policy
policy-from : (limits : Limits) (text : List ℕ) (ts : List Lexeme) → Are text ts (start limits) 0 (length ts) → (s : SyntaxTree) × IsPolicy text ts s
policy-from limits text ts
    (are_more m0 (token k0) (are_more m1 (token k1) (are_more m2 (token kl) (are_more m3 load (are_more m4 us (are_more m5 p (are_more m6 e (are_more m7 hs
    (are_more m8 (token kf) (are_more m9 f (are_more m10 (token kc) (are_more m11 c (are_more m12 (token ks) (are_more m13 s (are_more m14 b are_none))))))))))))))) =
    (_, policy_of k0 k1 (load 2 (token kl)).1 us.1 p.1 e.1 hs.1 kf f.1 kc c.1 ks s.1 b.1)

-- those of a whole level text are a level text
level_text-from : (limits : Limits) (text : List ℕ) (ts : List Lexeme) → Are text ts (level_start limits) 0 (length ts) → (s : LevelSyntaxTree) × IsLevels text ts s
level_text-from limits text ts
    (are_more m0 (token k0) (are_more m1 (token k1) (are_more m2 (token kl) (are_more m3 load (are_more m4 us (are_more m5 p (are_more m6 e (are_more m7 hs
    (are_more m8 l (are_more m9 (token kc) (are_more m10 c (are_more m11 (token ks) (are_more m12 s (are_more m13 b are_none)))))))))))))) =
    (_, levels_of k0 k1 (load 2 (token kl)).1 us.1 p.1 e.1 hs.1 l.is l.are kc c.1 ks s.1 b.1)

pub policies : (limits : Limits) (text : List ℕ) → IsLanguage limits text SyntaxTree (IsPolicy text) (breaks_policy limits) (start limits)
policies limits text = record {
  read = λ ts s is. policy_read limits text ts is;
  from = policy-from limits text;
  limit = limit-policy limits;
}

pub level_texts : (limits : Limits) (text : List ℕ) → IsLanguage limits text LevelSyntaxTree (IsLevels text) (breaks_level_text limits) (level_start limits)
level_texts limits text = record {
  read = λ ts s is. level_text_read limits text ts is;
  from = level_text-from limits text;
  limit = limit-level-text limits;
}
