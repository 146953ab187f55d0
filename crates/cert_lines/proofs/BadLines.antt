-- Which line of a text is bad: no other line begins the text there, since a text is cut at line feeds in one way.
use Rattle.std.proofs.Common.{◌≡◌, ◌≢◌, ℕ, suc, ◌+◌, ◌-◌, ◌^◌, ◌<◌, ◌≤◌, List, [], ◌∷◌, ◌++◌, length, All, get_or, ℤ, pos, negsuc, FitsSigned, codes, decimal, append_assoc, length-append, inl, ap, sym, subst, ◌∙◌, refl, arith}
use Rattle.std.specs.Fmt.{signed_decimal}
use Rattle.std.specs.Int.{w64}
use Rattle.std.proofs.lemmas.Int.{ints}
use Rattle.std.proofs.lemmas.List.Elements.{All-nil, All-cons, All-append, All-from_recursion}
use Rattle.linear_cert.specs.declared.cert.Mult.{Mult}
use Rattle.linear_cert.specs.Right.{CertTree, leaf, split, SplitsAtMost}
use Rattle.sched_base.specs.declared.limits.TheConstants.{MAX_SPLITS}
use Rattle.cert_lines.specs.declared.fault.CertFault.{CertFault}
use Rattle.cert_lines.specs.declared.fault.CertFault.TheVariants.{BadText, Memory}
use Rattle.cert_lines.specs.declared.node.Node.{Node}
use Rattle.cert_lines.specs.declared.node.Node.TheVariants as node
use Rattle.text_forms.specs.Cuts.{Lacks, IsCut}
use Rattle.cert_lines.specs.Faults.{Takes, takes_leaf, takes_split, IsBadAt, bad_here, bad_later, IsFirstBadLine}
use Rattle.cert_lines.specs.Nodes.{IsLineOf, IsNoLine, word_of}
use Rattle.cert_lines.specs.Reading.{MayStand, IsNextNode, IsPart, FailsIn, nodes_of}
use Rattle.cert_lines.specs.Text.{AreInRange, IsMult, IsSplit, cert_text, leaf_line, mult_text, mults_text, split_line}
use Rattle.text_forms.proofs.Cutting.{same_cut}
use Rattle.cert_lines.proofs.Digits.{decimal_lacks}
use Rattle.cert_lines.proofs.Words.{nowhere}

abbrev IsNoFeed : ℕ → Type 0
IsNoFeed byte = byte ≢ 10

one_lacks : (byte : ℕ) (rest : List ℕ) → 10 < byte → Lacks 10 rest → Lacks 10 (byte ∷ rest)
one_lacks byte rest above after = All-cons IsNoFeed byte rest (λ same. omega arith) after

decimal_lacks_feed : (n : ℕ) → n < 2 ^ 64 → Lacks 10 (decimal n)
decimal_lacks_feed n lt = decimal_lacks 10 n (inl (omega arith)) lt

word_lacks_feed : (mult : Mult) → IsMult mult → Lacks 10 (mult_text mult)
word_lacks_feed mult is =
    let by = one_lacks 58 (decimal mult.by) (omega arith) (decimal_lacks_feed mult.by is.by) in
    let row = decimal_lacks_feed mult.row (omega (arith, is.row)) in
    one_lacks 32 (word_of mult) (omega arith) (All-append IsNoFeed (decimal mult.row) (58 ∷ decimal mult.by) row by)

mults_lack_feed : (mults : List Mult) → All IsMult mults → Lacks 10 (mults_text mults)
mults_lack_feed [] fit = All-nil IsNoFeed
mults_lack_feed (mult ∷ rest) fit =
    All-append IsNoFeed (mult_text mult) (mults_text rest) (word_lacks_feed mult (fit 0 mult (omega arith))) (mults_lack_feed rest (λ k d lt. fit (suc k) d (omega arith)))

signed_lacks_feed : (z : ℤ) → FitsSigned w64 z → Lacks 10 (signed_decimal z)
signed_lacks_feed (pos n) fits = decimal_lacks_feed n (omega (arith, ints, fits))
signed_lacks_feed (negsuc n) fits = one_lacks 45 (decimal (suc n)) (omega arith) (decimal_lacks_feed (suc n) (omega (arith, ints, fits)))

leaf_word : Lacks 10 (codes "leaf")
leaf_word = All-from_recursion IsNoFeed (codes "leaf") ((λ e. omega (arith, e)), ((λ e. omega (arith, e)), ((λ e. omega (arith, e)), ((λ e. omega (arith, e)), tt))))

split_word : Lacks 10 (codes "split ")
split_word = All-from_recursion IsNoFeed (codes "split ") ((λ e. omega (arith, e)), ((λ e. omega (arith, e)), ((λ e. omega (arith, e)), ((λ e. omega (arith, e)), ((λ e. omega (arith, e)), ((λ e. omega (arith, e)), tt))))))

pub leaf_lacks_feed : (mults : List Mult) → All IsMult mults → Lacks 10 (leaf_line mults)
leaf_lacks_feed mults fit =
    All-append IsNoFeed (codes "leaf") (mults_text mults) leaf_word (mults_lack_feed mults fit)

pub split_lacks_feed : (variable : ℕ) (at : ℤ) → IsSplit variable at → Lacks 10 (split_line variable at)
split_lacks_feed variable at is =
    let value = one_lacks 32 (signed_decimal at) (omega arith) (signed_lacks_feed at is.at_fits) in
    let numbers = All-append IsNoFeed (decimal variable) (32 ∷ signed_decimal at) (decimal_lacks_feed variable (omega (arith, is.variable_fits))) value in
    All-append IsNoFeed (codes "split ") (decimal variable ++ 32 ∷ signed_decimal at) split_word numbers

pub takes_lacks_feed : (coming line after : List ℕ) → Takes coming line after → Lacks 10 line
takes_lacks_feed _ _ _ (takes_leaf room coming mults fit) = leaf_lacks_feed mults fit
takes_lacks_feed _ _ _ (takes_split room coming variable at is) = split_lacks_feed variable at is

-- the first line of a text is one
pub same_line : (line rest other behind : List ℕ) → Lacks 10 line → Lacks 10 other → line ++ 10 ∷ rest ≡ other ++ 10 ∷ behind → (line ≡ other) × (rest ≡ behind)
same_line line rest other behind lacks others same =
    let parts = same_cut 10 line (10 ∷ rest) other (10 ∷ behind) lacks others refl refl same in
    (parts.0, cc (parts.1))

-- no line feed is left
pub bad_end : (room number : ℕ) (text : List ℕ) → Lacks 10 text → (coming : List ℕ) → IsBadAt (room ∷ coming) number text number
bad_end room number text lacks coming =
    bad_here (room ∷ coming) number text (λ none _. cc none) (λ line rest after is takes. nowhere 10 text line rest lacks is)

-- the first line is that of no node
no_takes : (line : List ℕ) → IsNoLine line → (coming other after : List ℕ) → line ≡ other → Takes coming other after → ⊥
no_takes line none _ _ _ same (takes_leaf room coming mults fit) = none.no_leaf mults fit same
no_takes line none _ _ _ same (takes_split room coming variable at is) = none.no_split variable at is same

pub bad_line : (room number : ℕ) (text line behind : List ℕ) → IsCut 10 text line behind → IsNoLine line → (coming : List ℕ) → IsBadAt (room ∷ coming) number text number
bad_line room number text line behind cut none coming =
    bad_here (room ∷ coming) number text (λ absent _. cc absent) (λ other rest after is takes.
    no_takes line none (room ∷ coming) other after (same_line line behind other rest cut.first (takes_lacks_feed _ _ _ takes) (sym cut.whole ∙ is)).0 takes)

-- a split with no room
pub leaf_not_split : (mults : List Mult) (variable : ℕ) (at : ℤ) → leaf_line mults ≢ split_line variable at
leaf_not_split mults variable at same =
    let first : 108 ≡ 115 = ap (λ xs. get_or xs 0 0) same in
    omega (arith, first)

no_room_takes : (variable : ℕ) (at : ℤ) (coming other after : List ℕ) → split_line variable at ≡ other → (k : ℕ) → k ≡ 0 → (all : List ℕ) → all ≡ k ∷ coming → Takes all other after → ⊥
no_room_takes variable at _ _ _ same k none _ is (takes_leaf room coming mults fit) = leaf_not_split mults variable at (sym same)
no_room_takes variable at _ _ _ same k none _ is (takes_split room coming v z fits) =
    let one : suc room ≡ k = cc is in
    omega (arith, one, none)

pub bad_split : (room number : ℕ) (text line behind : List ℕ) (variable : ℕ) (at : ℤ) → IsCut 10 text line behind → line ≡ split_line variable at → room ≡ 0 → (coming : List ℕ) → IsBadAt (room ∷ coming) number text number
bad_split room number text line behind variable at cut is_split none coming =
    bad_here (room ∷ coming) number text (λ absent _. cc absent) (λ other rest after is takes.
    no_room_takes variable at coming other after (sym is_split ∙ (same_line line behind other rest cut.first (takes_lacks_feed _ _ _ takes) (sym cut.whole ∙ is)).0) room none (room ∷ coming) refl takes)

-- the node may not stand there
pub bad_node : (room number : ℕ) (text line behind : List ℕ) (n : Node) → IsCut 10 text line behind → IsLineOf n line → (MayStand room n → ⊥) → (coming : List ℕ) → IsBadAt (room ∷ coming) number text number
bad_node room number text line behind (node.Leaf mults) cut is not_there coming = absurd (not_there tt)
bad_node room number text line behind (node.Split variable at) cut is not_there coming =
    bad_split room number text line behind variable at cut is.1 (omega (arith, not_there)) coming

-- a line that was taken
pub later : (coming after : List ℕ) (number : ℕ) (text line rest : List ℕ) (at : ℕ) → text ≡ line ++ 10 ∷ rest → Takes coming line after → IsBadAt after (number + 1) rest at → IsBadAt coming number text at
later coming after number text line rest at is takes bad = subst (λ t. IsBadAt coming number t at) (sym is) (bad_later coming after number line rest at takes bad)

pub takes_with_room : (room : ℕ) (coming : List ℕ) (variable : ℕ) (at : ℤ) → 0 < room → IsSplit variable at → Takes (room ∷ coming) (split_line variable at) ((room - 1) ∷ (room - 1) ∷ coming)
takes_with_room room coming variable at some is =
    let whole : suc (room - 1) ≡ room = omega arith in
    subst (λ r. Takes (r ∷ coming) (split_line variable at) ((room - 1) ∷ (room - 1) ∷ coming)) whole (takes_split (room - 1) coming variable at is)

-- behind a split the fault is in one of its parts
pub behind_split : (room number next : ℕ) (text behind : List ℕ) (variable : ℕ) (at : ℤ) (fault : ℕ) (coming : List ℕ) → IsNextNode room number text (node.Split variable at) behind next → IsBadAt ((room - 1) ∷ (room - 1) ∷ coming) next behind fault → IsBadAt (room ∷ coming) number text fault
behind_split room number next text behind variable at fault coming node bad =
    let line : text ≡ split_line variable at ++ 10 ∷ behind = node.text_is ∙ ap (λ xs. xs ++ 10 ∷ behind) node.is.1 in
    later (room ∷ coming) ((room - 1) ∷ (room - 1) ∷ coming) number text (split_line variable at) behind fault line (takes_with_room room coming variable at node.may_stand node.is.0) (subst (λ k. IsBadAt ((room - 1) ∷ (room - 1) ∷ coming) k behind fault) node.next_is bad)

-- behind a whole certificate the fault is in what comes then
pub behind_part : (tree : CertTree) (room number : ℕ) (behind coming : List ℕ) (fault : ℕ) → SplitsAtMost room tree → AreInRange tree → IsBadAt coming (number + nodes_of tree) behind fault → IsBadAt (room ∷ coming) number (cert_text tree ++ behind) fault
behind_part (leaf mults) room number behind coming fault within fit bad =
    later (room ∷ coming) coming number _ (leaf_line mults) behind fault (append_assoc (leaf_line mults) (10 ∷ []) behind) (takes_leaf room coming mults fit) bad
behind_part (split variable at left right) room number behind coming fault (some, within_left, within_right) (fit, fit_left, fit_right) bad =
    let less = room - 1 in
    let count : number + (1 + (nodes_of left + nodes_of right)) ≡ number + 1 + nodes_of left + nodes_of right = omega arith in
    let last = behind_part right less (number + 1 + nodes_of left) behind coming fault within_right fit_right (subst (λ k. IsBadAt coming k behind fault) count bad) in
    let first = behind_part left less (number + 1) (cert_text right ++ behind) (less ∷ coming) fault within_left fit_left last in
    let text : cert_text (split variable at left right) ++ behind ≡ split_line variable at ++ 10 ∷ (cert_text left ++ (cert_text right ++ behind)) =
    append_assoc (split_line variable at) (10 ∷ (cert_text left ++ cert_text right)) behind ∙ ap (λ xs. split_line variable at ++ 10 ∷ xs) (append_assoc (cert_text left) (cert_text right) behind) in
    later (room ∷ coming) (less ∷ less ∷ coming) number _ (split_line variable at) _ fault text (takes_with_room room coming variable at some fit) first

-- where no part is to come, no text may follow
none_takes : (all line after : List ℕ) → all ≡ [] → Takes all line after → ⊥
none_takes _ _ _ none (takes_leaf room coming mults fit) = cc none
none_takes _ _ _ none (takes_split room coming variable at is) = cc none

pub bad_rest : (number : ℕ) (text : List ℕ) → text ≢ [] → IsBadAt [] number text number
bad_rest number text some = bad_here [] number text (λ _ none. some none) (λ line rest after is takes. none_takes [] line after refl takes)

-- a certificate has no more nodes than bytes
pub lines_fit : (tree : CertTree) → nodes_of tree ≤ length (cert_text tree)
lines_fit (leaf mults) = omega (arith, length-append (leaf_line mults) (10 ∷ []))
lines_fit (split variable at left right) = omega (arith, length-append (split_line variable at) (10 ∷ (cert_text left ++ cert_text right)), length-append (cert_text left) (cert_text right), lines_fit left, lines_fit right)

-- a fault of the left part, and of the right part, is one of the whole
pub fails_left : (room number next : ℕ) (text behind : List ℕ) (variable : ℕ) (at : ℤ) (fault : CertFault) → IsNextNode room number text (node.Split variable at) behind next → FailsIn (room - 1) next behind fault → FailsIn room number text fault
fails_left room number next text behind variable at (BadText line) node bad = λ coming. behind_split room number next text behind variable at line coming node (bad ((room - 1) ∷ coming))
fails_left room number next text behind variable at Memory node bad = tt

pub fails_right : (room number next : ℕ) (text behind : List ℕ) (variable : ℕ) (at : ℤ) (left : CertTree) (rest : List ℕ) (last : ℕ) (fault : CertFault) → IsNextNode room number text (node.Split variable at) behind next → IsPart (room - 1) next behind left rest last → FailsIn (room - 1) last rest fault → FailsIn room number text fault
fails_right room number next text behind variable at left rest last (BadText line) node part bad = λ coming.
    let here : IsBadAt ((room - 1) ∷ coming) (next + nodes_of left) rest line = subst (λ k. IsBadAt ((room - 1) ∷ coming) k rest line) part.next_is (bad coming) in
    let whole = behind_part left (room - 1) next rest ((room - 1) ∷ coming) line part.within part.in_range here in
    behind_split room number next text behind variable at line coming node (subst (λ t. IsBadAt ((room - 1) ∷ (room - 1) ∷ coming) next t line) (sym part.text_is) whole)
fails_right room number next text behind variable at left rest last Memory node part bad = tt

-- a text that goes on behind a whole certificate
pub fails_behind : (text rest : List ℕ) (tree : CertTree) (last : ℕ) → IsPart MAX_SPLITS 1 text tree rest last → rest ≢ [] → IsFirstBadLine text last
fails_behind text rest tree last part some =
    let here : IsBadAt [] (1 + nodes_of tree) rest last = subst (λ k. IsBadAt [] k rest last) part.next_is (bad_rest last rest some) in
    subst (λ t. IsBadAt (MAX_SPLITS ∷ []) 1 t last) (sym part.text_is) (behind_part tree MAX_SPLITS 1 rest [] last part.within part.in_range here)
