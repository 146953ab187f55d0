-- Productions of several tokens, from the places that the parser has.
use Rattle.std.proofs.Common.{◌≡◌, ℕ, suc, ◌+◌, List, [], ◌∷◌, ◌++◌, map, refl, sym, ap, subst, arith, Bool, true, ◌∙◌}
use Rattle.policy_syntax.specs.declared.syntax.Owner.{Owner}
use Rattle.policy_syntax.specs.declared.syntax.OperandSyntax.TheVariants as operand_is
use Rattle.policy_syntax.specs.declared.syntax.FactorSyntax.{FactorSyntax}
use Rattle.policy_syntax.specs.declared.syntax.TimesSyntax.{TimesSyntax}
use Rattle.policy_syntax.specs.declared.syntax.TermSyntax.{TermSyntax}
use Rattle.policy_syntax.specs.declared.syntax.AddedSyntax.{AddedSyntax}
use Rattle.policy_grammar.specs.declared.terminal.Lexeme.{Lexeme}
use Rattle.policy_grammar.specs.declared.terminal.Terminal.TheVariants.{Dot, Star, Minus, Comma, Number, Load, Count, Weight, Name, In, Start, Task, Gets, When, On, Begin, Finish}
use Rattle.policy_grammar.specs.Terminals.{code, kind_at, value_at, word_at, is_word}
use Rattle.policy_grammar.specs.Words.{owner_word, sign_word, attr_word, put_word, event_word}
use Rattle.policy_syntax.specs.declared.syntax.IntSyntax.{IntSyntax}
use Rattle.policy_syntax.specs.declared.syntax.ExprSyntax.{ExprSyntax}
use Rattle.policy_syntax.specs.declared.syntax.RangeSyntax.{RangeSyntax}
use Rattle.policy_syntax.specs.declared.syntax.AttrSyntax.{AttrSyntax}
use Rattle.policy_syntax.specs.declared.syntax.SetSyntax.{SetSyntax}
use Rattle.policy_syntax.specs.declared.syntax.CaseSyntax.{CaseSyntax}
use Rattle.policy_syntax.specs.declared.syntax.HandlerSyntax.{HandlerSyntax}
use Rattle.policy_tree.specs.declared.typed.Event.{Event}
use Rattle.policy_tree.specs.declared.typed.Put.{Put}
use Rattle.policy_syntax.specs.SyntaxTrees.{ConditionTree, KeySyntaxTree, CaseSyntaxTree, HandlerSyntaxTree, case_syntax_tree, handler_syntax_tree}
use Rattle.policy_parser.specs.Cases.{Cased}
use Rattle.policy_parser.specs.Sections.{IsGuard}
use Rattle.policy_syntax.specs.declared.syntax.LoadSyntax.TheVariants as load_is
use Rattle.policy_grammar.specs.Policies.{IsLoad, load_count, load_weight, IsAttr, attr_of, IsAttrs, attrs_none, attrs_more, IsSets, sets_none, sets_more, IsCase, case_of, IsCases, cases_none, cases_more, IsHandler, handler_of, IsHandlers, handlers_none, handlers_more}
use Rattle.policy_grammar.specs.Expressions.{IsInt, int_signed, IsRange, IsOperand, operand_reference, IsFactor, factor_signed, IsTimes, times_none, times_more, IsTerm, IsExpr, IsAdded, added_none, added_more}
use Rattle.policy_grammar.specs.Orders.{IsKey, IsKeys, keys_none, keys_more}

pub reference_of : {text : List ℕ} {ts : List Lexeme} {at dot next : ℕ} {w : List ℕ} (o : Owner) → kind_at ts at ≡ owner_word o → kind_at ts (at + 1) ≡ code Dot →
    dot ≡ at + 1 + 1 → is_word (kind_at ts dot) ≡ true → next ≡ dot + 1 → w ≡ word_at text ts dot → IsOperand text ts at (operand_is.Reference o w) next
reference_of {text = text} {ts = ts} {at = at} {dot = dot} {next = next} {w = w} o k d at_dot is_a on same =
    let there : dot ≡ at + 2 = omega (arith, at_dot) in
    let end : at + 3 ≡ next = omega (arith, there, on) in
    let whole : IsOperand text ts at (operand_is.Reference o (word_at text ts (at + 2))) (at + 3) = operand_reference o k d (subst (λ n. is_word (kind_at ts n) ≡ true) there is_a) in
    subst (λ n. IsOperand text ts at (operand_is.Reference o w) n) end
    (subst (λ x. IsOperand text ts at (operand_is.Reference o x) (at + 3)) (ap (word_at text ts) (sym there) ∙ sym same) whole)

pub signed_of : {text : List ℕ} {ts : List Lexeme} {at to signs : ℕ} (f : FactorSyntax) → kind_at ts at ≡ code Minus → IsFactor text ts (at + 1) f to →
    signs ≡ f.signs + 1 → IsFactor text ts at (record { at = at; signs = signs; operand = f.operand }) to
signed_of {text = text} {ts = ts} {at = at} {to = to} f k d e =
    let same : suc f.signs ≡ _ = omega (arith, e) in
    subst (λ n. IsFactor text ts at (record { at = at; signs = n; operand = f.operand }) to) same (factor_signed f k d)

pub times-snoc : {text : List ℕ} {ts : List Lexeme} {at mid to : ℕ} {fs : List TimesSyntax} {f : FactorSyntax} → IsTimes text ts at fs mid →
    kind_at ts mid ≡ code Star → IsFactor text ts (mid + 1) f to → IsTimes text ts at (fs ++ record { at = mid; factor = f } ∷ []) to
times-snoc times_none k d = times_more k d times_none
times-snoc (times_more j e more) k d = times_more j e (times-snoc more k d)

pub added-snoc : {text : List ℕ} {ts : List Lexeme} {at mid to : ℕ} {us : List AddedSyntax} {t : TermSyntax} (minus : Bool) → IsAdded text ts at us mid →
    kind_at ts mid ≡ sign_word minus → IsTerm text ts (mid + 1) t to → IsAdded text ts at (us ++ record { at = mid; minus = minus; term = t } ∷ []) to
added-snoc minus added_none k d = added_more minus k d added_none
added-snoc minus (added_more m j e more) k d = added_more m j e (added-snoc minus more k d)

pub keys-snoc : {text : List ℕ} {ts : List Lexeme} {at mid to : ℕ} {ks : List KeySyntaxTree} {key : KeySyntaxTree} → IsKeys text ts at ks mid →
    kind_at ts mid ≡ code Comma → IsKey text ts (mid + 1) key to → IsKeys text ts at (ks ++ key ∷ []) to
keys-snoc keys_none k d = keys_more k d keys_none
keys-snoc (keys_more j e more) k d = keys_more j e (keys-snoc more k d)

pub signed-int : {ts : List Lexeme} {at next value : ℕ} → kind_at ts at ≡ code Minus → kind_at ts (at + 1) ≡ code Number → next ≡ at + 1 + 1 →
    value ≡ value_at ts (at + 1) → IsInt ts at (record { at = at; negative = true; value = value }) next
signed-int {ts = ts} {at = at} {next = next} {value = value} k n on v =
    let end : at + 2 ≡ next = omega (arith, on) in
    subst (λ m. IsInt ts at (record { at = at; negative = true; value = value }) m) end
    (subst (λ x. IsInt ts at (record { at = at; negative = true; value = x }) (at + 2)) (sym v) (int_signed k n))

pub count-load : {ts : List Lexeme} {at rule next : ℕ} → kind_at ts at ≡ code Load → rule ≡ at + 1 → kind_at ts rule ≡ code Count → next ≡ rule + 1 → IsLoad ts at (load_is.Count at) next
count-load {ts = ts} {at = at} {rule = rule} {next = next} k on c last =
    let end : at + 2 ≡ next = omega (arith, on, last) in
    subst (λ m. IsLoad ts at (load_is.Count at) m) end (load_count k (subst (λ n. kind_at ts n ≡ code Count) on c))

pub weight-load : {ts : List Lexeme} {at rule to : ℕ} {range : RangeSyntax} → kind_at ts at ≡ code Load → rule ≡ at + 1 → kind_at ts rule ≡ code Weight →
    IsRange ts (rule + 1) range to → IsLoad ts at (load_is.Weight at range) to
weight-load {ts = ts} {at = at} {rule = rule} {to = to} {range = range} k on w d =
    let there : rule + 1 ≡ at + 2 = omega (arith, on) in
    load_weight k (subst (λ n. kind_at ts n ≡ code Weight) on w) (subst (λ n. IsRange ts n range to) there d)

pub attr-parts : {text : List ℕ} {ts : List Lexeme} {at in_at range_at start_at number_at to : ℕ} {name : List ℕ} {range : RangeSyntax} {start : IntSyntax} (of_cores : Bool) →
    kind_at ts at ≡ attr_word of_cores → kind_at ts (at + 1) ≡ code Name → name ≡ word_at text ts (at + 1) → in_at ≡ at + 1 + 1 →
    kind_at ts in_at ≡ code In → range_at ≡ in_at + 1 → IsRange ts range_at range start_at → kind_at ts start_at ≡ code Start →
    number_at ≡ start_at + 1 → IsInt ts number_at start to →
    IsAttr text ts at (record { at = at; of_cores = of_cores; name = name; range = range; start = start }) to
attr-parts {text = text} {ts = ts} {at = at} {in_at = in_at} {start_at = start_at} {to = to} {name = name} {range = range} {start = start} of_cores k n w e1 i e2 r s e3 d =
    let there : in_at ≡ at + 2 = omega (arith, e1) in
    let further : _ ≡ at + 3 = omega (arith, e1, e2) in
    subst (λ x. IsAttr text ts at (record { at = at; of_cores = of_cores; name = x; range = range; start = start }) to) (sym w)
    (attr_of of_cores k n (subst (λ m. kind_at ts m ≡ code In) there i) (subst (λ m. IsRange ts m range start_at) further r) s
    (subst (λ m. IsInt ts m start to) e3 d))

pub set-parts : {text : List ℕ} {ts : List Lexeme} {at dot gets value_at comma to : ℕ} {w : List ℕ} {v : ExprSyntax} →
    kind_at ts at ≡ code Task → kind_at ts (at + 1) ≡ code Dot → dot ≡ at + 1 + 1 → is_word (kind_at ts dot) ≡ true → w ≡ word_at text ts dot → gets ≡ dot + 1 →
    kind_at ts gets ≡ code Gets → value_at ≡ gets + 1 → IsExpr text ts value_at v comma → kind_at ts comma ≡ code Comma → to ≡ comma + 1 →
    IsSets text ts at (record { at = at; word = w; value = v } ∷ []) to
set-parts {text = text} {ts = ts} {at = at} {dot = dot} {gets = gets} {value_at = value_at} {comma = comma} {w = w} {v = v} t d e1 is_a word e2 g e3 x c e4 =
    let two : dot ≡ at + 2 = omega (arith, e1) in
    let three : gets ≡ at + 3 = omega (arith, e1, e2) in
    let four : value_at ≡ at + 4 = omega (arith, e1, e2, e3) in
    subst (λ m. IsSets text ts at (record { at = at; word = w; value = v } ∷ []) m) (sym e4)
    (subst (λ y. IsSets text ts at (record { at = at; word = y; value = v } ∷ []) (comma + 1)) (sym (word ∙ ap (word_at text ts) two))
    (sets_more t d (subst (λ m. is_word (kind_at ts m) ≡ true) two is_a) (subst (λ m. kind_at ts m ≡ code Gets) three g)
    (subst (λ m. IsExpr text ts m v comma) four x) c sets_none))

pub map-snoc : {X Y : Type 0} (f : X → Y) (xs : List X) (x : X) → map f (xs ++ x ∷ []) ≡ map f xs ++ f x ∷ []
map-snoc f [] x = refl
map-snoc f (y ∷ xs) x = ap (λ r. f y ∷ r) (map-snoc f xs x)

-- an attribute more
pub attrs-snoc : {text : List ℕ} {ts : List Lexeme} {at mid to : ℕ} {items : List AttrSyntax} {a : AttrSyntax} → IsAttrs text ts at items mid → IsAttr text ts mid a to →
    IsAttrs text ts at (items ++ a ∷ []) to
attrs-snoc attrs_none d = attrs_more d attrs_none
attrs-snoc (attrs_more j more) d = attrs_more j (attrs-snoc more d)

-- an assignment more
pub sets-snoc : {text : List ℕ} {ts : List Lexeme} {at mid to : ℕ} {items last : List SetSyntax} → IsSets text ts at items mid → IsSets text ts mid last to →
    IsSets text ts at (items ++ last) to
sets-snoc sets_none d = d
sets-snoc (sets_more t o w g e k more) d = sets_more t o w g e k (sets-snoc more d)

cases-snoc : {text : List ℕ} {ts : List Lexeme} {at mid to : ℕ} {items : List CaseSyntaxTree} {a : CaseSyntaxTree} → IsCases text ts at items mid → IsCase text ts mid a to →
    IsCases text ts at (items ++ a ∷ []) to
cases-snoc cases_none d = cases_more d cases_none
cases-snoc (cases_more j more) d = cases_more j (cases-snoc more d)

handlers-snoc : {text : List ℕ} {ts : List Lexeme} {at mid to : ℕ} {items : List HandlerSyntaxTree} {a : HandlerSyntaxTree} → IsHandlers text ts at items mid → IsHandler text ts mid a to →
    IsHandlers text ts at (items ++ a ∷ []) to
handlers-snoc handlers_none d = handlers_more d handlers_none
handlers-snoc (handlers_more j more) d = handlers_more j (handlers-snoc more d)

-- a handler more
pub handlers-more : {text : List ℕ} {ts : List Lexeme} {at mid to : ℕ} (items : List HandlerSyntax) {new : List HandlerSyntax} (h : HandlerSyntax) →
    IsHandlers text ts at (map handler_syntax_tree items) mid → IsHandler text ts mid (handler_syntax_tree h) to → new ≡ items ++ h ∷ [] →
    IsHandlers text ts at (map handler_syntax_tree new) to
handlers-more {text = text} {ts = ts} {at = at} {to = to} items h d last e =
    subst (λ x. IsHandlers text ts at x to) (sym (ap (map handler_syntax_tree) e ∙ map-snoc handler_syntax_tree items h)) (handlers-snoc d last)

pub handlers-first : {text : List ℕ} {ts : List Lexeme} {at : ℕ} {items : List HandlerSyntax} → items ≡ [] → IsHandlers text ts at (map handler_syntax_tree items) at
handlers-first {text = text} {ts = ts} {at = at} e = subst (λ x. IsHandlers text ts at (map handler_syntax_tree x) at) (sym e) handlers_none

-- the first case of a handler
pub cased-one : {text : List ℕ} {ts : List Lexeme} {at to : ℕ} {items : List CaseSyntax} (first : CaseSyntax) → items ≡ first ∷ [] → IsCase text ts at (case_syntax_tree first) to →
    Cased text ts items at to
cased-one first e d = record { first = case_syntax_tree first; rest = []; mid = _; same = ap (map case_syntax_tree) e; is = d; are = cases_none }

-- a case more
pub cased-snoc : {text : List ℕ} {ts : List Lexeme} {at mid to : ℕ} {items new : List CaseSyntax} (last : CaseSyntax) → Cased text ts items at mid →
    IsCase text ts mid (case_syntax_tree last) to → new ≡ items ++ last ∷ [] → Cased text ts new at to
cased-snoc {items = items} last k d e =
    record {
      first = k.first;
      rest = k.rest ++ case_syntax_tree last ∷ [];
      mid = k.mid;
      same = ap (map case_syntax_tree) e ∙ map-snoc case_syntax_tree items last ∙ ap (λ x. x ++ case_syntax_tree last ∷ []) k.same;
      is = k.is;
      are = cases-snoc k.are d;
    }

-- a case of a handler
pub case-parts : {text : List ℕ} {ts : List Lexeme} {at sets_at last : ℕ} {guard : ConditionTree} {sets : List SetSyntax} (put : Put) → kind_at ts at ≡ code When →
    IsGuard text ts (at + 1) guard sets_at → IsSets text ts sets_at sets last → kind_at ts last ≡ put_word put →
    IsCase text ts at (record { at = at; guard = guard; sets = sets; put_at = last; put = put }) (last + 1)
case-parts {text = text} {ts = ts} {last = last} {sets = sets} put w g s p = case_of put w g.is g.colon (subst (λ n. IsSets text ts n sets last) g.next s) p

-- a handler
pub handler-parts : {text : List ℕ} {ts : List Lexeme} {at cases_at last to : ℕ} {items : List CaseSyntax} (event : Event) → kind_at ts at ≡ code On →
    kind_at ts (at + 1) ≡ event_word event → kind_at ts (at + 2) ≡ code Begin → cases_at ≡ at + 2 + 1 → Cased text ts items cases_at last → kind_at ts last ≡ code Finish →
    to ≡ last + 1 → IsHandler text ts at (record { at = at; event = event; cases = map case_syntax_tree items }) to
handler-parts {text = text} {ts = ts} {at = at} {last = last} {to = to} {items = items} event o v b e c f e2 =
    let there : _ ≡ at + 3 = omega (arith, e) in
    subst (λ x. IsHandler text ts at (record { at = at; event = event; cases = x }) to) (sym c.same)
    (subst (λ n. IsHandler text ts at (record { at = at; event = event; cases = c.first ∷ c.rest }) n) (sym e2)
    (handler_of event o v b (subst (λ n. IsCase text ts n c.first c.mid) there c.is) c.are f))
