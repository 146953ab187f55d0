-- How the keys of an order are stored, so that a queue may be seen with them: an expression and a condition are each
-- stored as words, the parts of each before the word that joins them. This serves the checker alone.
use Rattle.std.specs.Prelude.{◌≡◌, ℕ, zero, suc, ℤ, pos, Bool, true, false, List, [], ◌∷◌, ◌++◌, refl}
use Rattle.std.proofs.Common.{◌⊎◌, inl, inr, ap, ◌∙◌}
use Rattle.std.specs.Coded.{Coded, code_by, coded×, coded⊎, coded_bool, coded_list, coded_ℕ, coded_ℤ}
use Rattle.policy_tree.specs.declared.trees.Cmp.{Cmp}
use Rattle.policy_tree.specs.declared.trees.Cmp.TheVariants as cmp
use Rattle.policy_tree.specs.Meaning.{KeyTree, greatest_first, least_first, preferring}
use Rattle.policy_tree.specs.Trees.{ExprTree, number, variable, negation, plus, minus, times, CondTree, always, negated}
use Rattle.policy_tree.specs.Trees.{both, either, test}

-- trees that are read from words: each word makes one of those that were read, the last of them first
module _ {Word Tree : Type 0} (with_word : Word → List Tree → List Tree) where
  abbrev pub read_words : List Word → List Tree → List Tree
  read_words [] read = read
  read_words (word ∷ words) read = read_words words (with_word word read)

  pub read_words-append : (words more : List Word) (read : List Tree)
      → read_words (words ++ more) read ≡ read_words more (read_words words read)
  read_words-append [] more read = refl
  read_words-append (word ∷ words) more read = read_words-append words more (with_word word read)

  -- the words are those of the tree
  abbrev pub Spell : List Word → Tree → Type 0
  Spell words tree = (read : List Tree) → read_words words read ≡ tree ∷ read

  -- a part, and the word behind it
  pub behind_one : (words : List Word) (word : Word) (part : Tree) (read : List Tree) → Spell words part
      → read_words (words ++ word ∷ []) read ≡ with_word word (part ∷ read)
  behind_one words word part read spell = read_words-append words (word ∷ []) read ∙ ap (with_word word) (spell read)

  -- two parts, and the word behind them
  pub behind_two : (words more : List Word) (word : Word) (left right : Tree) (read : List Tree)
      → Spell words left → Spell more right
      → read_words (words ++ (more ++ word ∷ [])) read ≡ with_word word (right ∷ left ∷ read)
  behind_two words more word left right read first second =
      read_words-append words (more ++ word ∷ []) read
      ∙ (ap (read_words (more ++ word ∷ [])) (first read) ∙ behind_one more word right (left ∷ read) second)

-- a number, a variable, or an operator
abbrev pub Word : Type 0
Word = ℤ ⊎ (ℕ ⊎ ℕ)

-- the words of an expression
abbrev pub words_of : ExprTree → List Word
words_of (number n) = inl n ∷ []
words_of (variable at) = inr (inl at) ∷ []
words_of (negation e) = words_of e ++ inr (inr 0) ∷ []
words_of (plus l r) = words_of l ++ (words_of r ++ inr (inr 1) ∷ [])
words_of (minus l r) = words_of l ++ (words_of r ++ inr (inr 2) ∷ [])
words_of (times l r) = words_of l ++ (words_of r ++ inr (inr 3) ∷ [])

-- the operator of that number joins the last two expressions
abbrev pub joined : ℕ → ExprTree → List ExprTree → List ExprTree
joined zero r read = negation r ∷ read
joined (suc zero) r [] = []
joined (suc zero) r (l ∷ read) = plus l r ∷ read
joined (suc (suc zero)) r [] = []
joined (suc (suc zero)) r (l ∷ read) = minus l r ∷ read
joined (suc (suc (suc op))) r [] = []
joined (suc (suc (suc op))) r (l ∷ read) = times l r ∷ read

-- the expressions that were read after one more word
abbrev pub with_word : Word → List ExprTree → List ExprTree
with_word (inl n) read = number n ∷ read
with_word (inr (inl at)) read = variable at ∷ read
with_word (inr (inr op)) [] = []
with_word (inr (inr op)) (r ∷ read) = joined op r read

-- the words of an expression read back
pub words_of-spell : (e : ExprTree) → Spell with_word (words_of e) e
words_of-spell (number n) read = refl
words_of-spell (variable at) read = refl
words_of-spell (negation e) read = behind_one with_word (words_of e) (inr (inr 0)) e read (words_of-spell e)
words_of-spell (plus l r) read =
    behind_two with_word (words_of l) (words_of r) (inr (inr 1)) l r read (words_of-spell l) (words_of-spell r)
words_of-spell (minus l r) read =
    behind_two with_word (words_of l) (words_of r) (inr (inr 2)) l r read (words_of-spell l) (words_of-spell r)
words_of-spell (times l r) read =
    behind_two with_word (words_of l) (words_of r) (inr (inr 3)) l r read (words_of-spell l) (words_of-spell r)

-- the last expression that was read
abbrev pub last_read : List ExprTree → ExprTree
last_read [] = number (pos 0)
last_read (e ∷ read) = e

-- the code of an expression
abbrev pub tree_code : Coded ExprTree
tree_code =
    code_by (List Word) (coded_list (coded⊎ coded_ℤ (coded⊎ coded_ℕ coded_ℕ)))
    words_of
    (λ words. last_read (read_words with_word words []))
    (λ e. ap last_read (words_of-spell e []))

-- the number of a comparison's symbol
abbrev pub cmp_number : Cmp → ℕ
cmp_number cmp.Eq = 0
cmp_number cmp.Ne = 1
cmp_number cmp.Lt = 2
cmp_number cmp.Le = 3
cmp_number cmp.Gt = 4
cmp_number cmp.Ge = 5

abbrev pub cmp_numbered : ℕ → Cmp
cmp_numbered zero = cmp.Eq
cmp_numbered (suc zero) = cmp.Ne
cmp_numbered (suc (suc zero)) = cmp.Lt
cmp_numbered (suc (suc (suc zero))) = cmp.Le
cmp_numbered (suc (suc (suc (suc zero)))) = cmp.Gt
cmp_numbered (suc (suc (suc (suc (suc n))))) = cmp.Ge

pub cmp_numbered-number : (how : Cmp) → cmp_numbered (cmp_number how) ≡ how
cmp_numbered-number cmp.Eq = refl
cmp_numbered-number cmp.Ne = refl
cmp_numbered-number cmp.Lt = refl
cmp_numbered-number cmp.Le = refl
cmp_numbered-number cmp.Gt = refl
cmp_numbered-number cmp.Ge = refl

abbrev pub cmp_code : Coded Cmp
cmp_code = code_by ℕ coded_ℕ cmp_number cmp_numbered cmp_numbered-number

-- a comparison, or what joins conditions: `always` by 0, `not` by 1, `and` by 2, `or` by 3
abbrev pub CondWord : Type 0
CondWord = ℕ ⊎ (Cmp × (ExprTree × ExprTree))

-- the words of a condition
abbrev pub cond_words_of : CondTree → List CondWord
cond_words_of always = inl 0 ∷ []
cond_words_of (negated c) = cond_words_of c ++ inl 1 ∷ []
cond_words_of (both l r) = cond_words_of l ++ (cond_words_of r ++ inl 2 ∷ [])
cond_words_of (either l r) = cond_words_of l ++ (cond_words_of r ++ inl 3 ∷ [])
cond_words_of (test how l r) = inr (how, (l, r)) ∷ []

-- the last condition negated at 0, the last two joined by `and` at 1 and by `or` after that
abbrev pub cond_joined : ℕ → CondTree → List CondTree → List CondTree
cond_joined zero r read = negated r ∷ read
cond_joined (suc zero) r [] = []
cond_joined (suc zero) r (l ∷ read) = both l r ∷ read
cond_joined (suc (suc n)) r [] = []
cond_joined (suc (suc n)) r (l ∷ read) = either l r ∷ read

-- the conditions that were read after one more word
abbrev pub with_cond_word : CondWord → List CondTree → List CondTree
with_cond_word (inr tested) read = test tested.0 tested.1.0 tested.1.1 ∷ read
with_cond_word (inl zero) read = always ∷ read
with_cond_word (inl (suc n)) [] = []
with_cond_word (inl (suc n)) (r ∷ read) = cond_joined n r read

-- the words of a condition read back
pub cond_words_of-spell : (c : CondTree) → Spell with_cond_word (cond_words_of c) c
cond_words_of-spell always read = refl
cond_words_of-spell (negated c) read =
    behind_one with_cond_word (cond_words_of c) (inl 1) c read (cond_words_of-spell c)
cond_words_of-spell (both l r) read =
    behind_two with_cond_word (cond_words_of l) (cond_words_of r) (inl 2) l r read
    (cond_words_of-spell l) (cond_words_of-spell r)
cond_words_of-spell (either l r) read =
    behind_two with_cond_word (cond_words_of l) (cond_words_of r) (inl 3) l r read
    (cond_words_of-spell l) (cond_words_of-spell r)
cond_words_of-spell (test how l r) read = refl

-- the last condition that was read
abbrev pub last_condition : List CondTree → CondTree
last_condition [] = always
last_condition (c ∷ read) = c

-- the code of a condition
abbrev pub cond_code : Coded CondTree
cond_code =
    code_by (List CondWord) (coded_list (coded⊎ coded_ℕ (coded× cmp_code (coded× tree_code tree_code))))
    cond_words_of
    (λ words. last_condition (read_words with_cond_word words []))
    (λ c. ap last_condition (cond_words_of-spell c []))

-- a key: whether the greatest comes first and an expression, or a condition
abbrev pub KeyParts : Type 0
KeyParts = (Bool × ExprTree) ⊎ CondTree

abbrev pub key_parts : KeyTree → KeyParts
key_parts (least_first e) = inl (false, e)
key_parts (greatest_first e) = inl (true, e)
key_parts (preferring c) = inr c

abbrev pub key_of : KeyParts → KeyTree
key_of (inl (false, e)) = least_first e
key_of (inl (true, e)) = greatest_first e
key_of (inr c) = preferring c

pub key_of-parts : (key : KeyTree) → key_of (key_parts key) ≡ key
key_of-parts (least_first e) = refl
key_of-parts (greatest_first e) = refl
key_of-parts (preferring c) = refl

-- the code of a key
abbrev pub key_code : Coded KeyTree
key_code = code_by KeyParts (coded⊎ (coded× coded_bool tree_code) cond_code) key_parts key_of key_of-parts
