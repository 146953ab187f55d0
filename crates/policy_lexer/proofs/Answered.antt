-- Why the answer of the lexer is the only one.
use Rattle.std.proofs.Common.{◌≡◌, ◌∙◌, ◌<◌, ◌≤◌, ◌+◌, ℕ, zero, suc, List, ◌∷◌, length, drop, None, Result, Ok, Err, refl, ap, sym, subst, arith, get_or, length-drop}
use Rattle.std.specs.Prelude.{IfOk, IfErr, slice_index}
use Rattle.std.proofs.lemmas.Bool.Decides.{nat_tests}
use Rattle.std.proofs.lemmas.List.{get_or-drop}
use Rattle.policy_lexer.specs.declared.token.Token.{Token}
use Rattle.policy_lexer.specs.declared.token.TokenKind.{TokenKind}
use Rattle.policy_lexer.specs.declared.token.TokenKind.TheVariants.{Word, Number}
use Rattle.policy_lexer.specs.declared.fault.LexFault.{LexFault}
use Rattle.policy_lexer.specs.declared.fault.LexFault.TheVariants.{NotAscii, BadByte, LongName, WideNumber, Memory}
use Rattle.policy_lexer.specs.Bytes.{single_symbol, double_symbol}
use Rattle.policy_lexer.specs.First.{IsFirstFault, IsOther}
use Rattle.policy_lexer.specs.Pieces.{Piece, gap, token, IsFirstPiece, HasNoPiece}
use Rattle.policy_lexer.specs.Tokens.{KeepsLimits, Reads, reads_nothing, reads_gap, reads_token, SpellsTokens}
use Rattle.policy_lexer.specs.Faults.{Reaches, IsBroken, IsFault, IsUnlessMemory}
use Rattle.policy_lexer.proofs.Firsts.{no_symbol_is_first}
use Rattle.policy_lexer.proofs.Places.{first-unique, front-spells}

-- a piece has a byte
pub first-some : (text : List ℕ) (size : ℕ) (p : Piece) → IsFirstPiece text size p → 0 < size
first-some text zero p first = let e = first.spells in cc
first-some text (suc size) p first = omega arith

-- what a piece must keep to be read
abbrev Keeps : Piece → ℕ → Type 0
Keeps gap size = Unit {0}
Keeps (token kind) size = KeepsLimits kind size

-- reading stops at the place
abbrev Stops : List ℕ → ℕ → Type 0
Stops text at = (size : ℕ) (p : Piece) → IsFirstPiece (drop at text) size p → Keeps p size → ⊥

token-kind : {k j : TokenKind} → token k ≡ token j → k ≡ j
token-kind e = cc

token-same : (t u : Token) → t.kind ≡ u.kind → t.start ≡ u.start → t.end ≡ u.end → t ≡ u
token-same t u kind start end =
    ap (λ k. record { kind = k; start = t.start; end = t.end }) kind
    ∙ ap (λ s. record { kind = u.kind; start = s; end = t.end }) start
    ∙ ap (λ e. record { kind = u.kind; start = u.start; end = e }) end

from-same : {text : List ℕ} {to : ℕ} {ts : List Token} (from k j : ℕ) → k ≡ j → Reads text (from + j) ts to → Reads text (from + k) ts to
from-same {text = text} {to = to} {ts = ts} from k j same reads = subst (λ n. Reads text (from + n) ts to) (sym same) reads

-- there is one way to read up to a stop
reads-same : (text : List ℕ) {from to other : ℕ} {ts us : List Token} → Reads text from ts to → Stops text to →
    Reads text from us other → Stops text other → (ts ≡ us) × (to ≡ other)
reads-same text reads_nothing stop reads_nothing also = (refl, refl)
reads-same text reads_nothing stop (reads_gap k first more) also = absurd (stop k gap first tt)
reads-same text reads_nothing stop (reads_token t k starts ends first keeps more) also = absurd (stop k (token t.kind) first keeps)
reads-same text (reads_gap k first more) stop reads_nothing also = absurd (also k gap first tt)
reads-same text (reads_token t k starts ends first keeps more) stop reads_nothing also = absurd (also k (token t.kind) first keeps)
reads-same text {from = from} (reads_gap k first more) stop (reads_gap j second rest) also =
    let same = first-unique (drop from text) k j gap gap first second in
    reads-same text more stop (from-same from k j same.0 rest) also
reads-same text {from = from} (reads_gap k first more) stop (reads_token u j starts ends second keeps rest) also =
    let clash = (first-unique (drop from text) k j gap (token u.kind) first second).1 in cc
reads-same text {from = from} (reads_token t k starts ends first keeps more) stop (reads_gap j second rest) also =
    let clash = (first-unique (drop from text) k j (token t.kind) gap first second).1 in cc
reads-same text {from = from} (reads_token t {tokens = ts} k t_starts t_ends first keeps more) stop
    (reads_token u {tokens = us} j u_starts u_ends second held rest) also =
    let same = first-unique (drop from text) k j (token t.kind) (token u.kind) first second in
    let later = reads-same text more stop (from-same from k j same.0 rest) also in
    let heads : t ≡ u = token-same t u (token-kind same.1) (t_starts ∙ sym u_starts) (t_ends ∙ ap (λ n. from + n) same.0 ∙ sym u_ends) in
    (ap (λ x. x ∷ ts) heads ∙ ap (λ xs. u ∷ xs) later.0, later.1)

stops-end : (text : List ℕ) → Stops text (length text)
stops-end text size p first keeps =
    let some = first-some _ _ _ first in
    let size_is = length-drop (length text) text in
    let within = first.within in
    omega arith

-- a text has its tokens in one way
pub tokens-same : (text : List ℕ) (one other : List Token) → SpellsTokens text one → SpellsTokens text other → one ≡ other
tokens-same text one other spells too = (reads-same text spells (stops-end text) too (stops-end text)).0

high-other : (byte : ℕ) → 128 ≤ byte → IsOther byte
high-other byte high = record {
  letter = grind (arith, nat_tests);
  digit = grind (arith, nat_tests);
  blank = grind (arith, nat_tests);
  comment = grind (arith, nat_tests);
}

high-single : (byte : ℕ) → 128 ≤ byte → single_symbol byte ≡ None
high-single byte high = grind (arith, nat_tests)

high-double : (byte other : ℕ) → 128 ≤ byte → double_symbol byte other ≡ None
high-double byte other high = grind (arith, nat_tests)

high-no_piece : (text : List ℕ) → 0 < length text → 128 ≤ slice_index text 0 → HasNoPiece text
high-no_piece text some high =
    no_symbol_is_first text some (high-other _ high) (λ two. high-double _ _ high) (high-single _ high)

-- the place that a fault names
abbrev place : LexFault → ℕ
place (NotAscii at) = at
place (BadByte at) = at
place (LongName at) = at
place (WideNumber at) = at
place Memory = 0

first-byte : (text : List ℕ) (at : ℕ) → slice_index (drop at text) 0 ≡ slice_index text at
first-byte text at = get_or-drop at text 0 0 ∙ ap (λ n. get_or text n 0) (omega arith)

high-at : (text : List ℕ) (at : ℕ) → at < length text → 128 ≤ slice_index text at → HasNoPiece (drop at text)
high-at text at within high =
    let size = length-drop at text in
    high-no_piece (drop at text) (omega arith) (subst (λ n. 128 ≤ n) (sym (first-byte text at)) high)

reached : (text : List ℕ) (f : LexFault) → IsBroken text f → Reaches text (place f)
reached text (NotAscii at) broken = broken.0
reached text (BadByte at) broken = broken.0
reached text (LongName at) broken = broken.0
reached text (WideNumber at) broken = broken.0
reached text Memory broken = absurd broken

stops : (text : List ℕ) (f : LexFault) → IsBroken text f → Stops text (place f)
stops text (NotAscii at) broken = λ size p first keeps. high-at text at broken.0.within broken.1 size p first.within first.spells
stops text (BadByte at) broken = λ size p first keeps. broken.2 size p first.within first.spells
stops text (LongName at) broken = λ size p first keeps. long size p first keeps
  where
    long : (size : ℕ) (p : Piece) → IsFirstPiece (drop at text) size p → Keeps p size → ⊥
    long size gap first keeps = let clash = (first-unique _ _ _ _ _ first broken.1.1).1 in cc
    long size (token kind) first keeps =
        let same = first-unique _ _ _ _ _ first broken.1.1 in
        let held : KeepsLimits Word size = subst (λ k. KeepsLimits k size) (token-kind same.1) keeps in
        omega (arith, held, same.0, broken.1.2)
stops text (WideNumber at) broken = λ size p first keeps. wide size p first keeps
  where
    wide : (size : ℕ) (p : Piece) → IsFirstPiece (drop at text) size p → Keeps p size → ⊥
    wide size gap first keeps = let clash = (first-unique _ _ _ _ _ first broken.1.2).1 in cc
    wide size (token kind) first keeps =
        let same = first-unique _ _ _ _ _ first broken.1.2 in
        let held : KeepsLimits (Number broken.1.1) size = subst (λ k. KeepsLimits k size) (token-kind same.1) keeps in
        omega (arith, held, broken.1.3)
stops text Memory broken = absurd broken

none-some : (text : List ℕ) (a b : ℕ) → a ≡ b → HasNoPiece (drop a text) → (size : ℕ) (p : Piece) → IsFirstPiece (drop b text) size p → ⊥
none-some text a b same none size p first =
    subst (λ n. HasNoPiece (drop n text)) same none size p first.within first.spells

-- faults at one place are one
same-cause : (text : List ℕ) (f g : LexFault) → place f ≡ place g → IsBroken text f → IsBroken text g → f ≡ g
same-cause text (NotAscii a) (NotAscii b) same x y = ap NotAscii same
same-cause text (NotAscii a) (BadByte b) same x y =
    let byte = ap (λ n. slice_index text n) same in absurd (omega (arith, byte, x.1, y.1))
same-cause text (NotAscii a) (LongName b) same x y = absurd (none-some text a b same (high-at text a x.0.within x.1) _ _ y.1.1)
same-cause text (NotAscii a) (WideNumber b) same x y = absurd (none-some text a b same (high-at text a x.0.within x.1) _ _ y.1.2)
same-cause text (BadByte a) (NotAscii b) same x y =
    let byte = ap (λ n. slice_index text n) same in absurd (omega (arith, byte, x.1, y.1))
same-cause text (BadByte a) (BadByte b) same x y = ap BadByte same
same-cause text (BadByte a) (LongName b) same x y = absurd (none-some text a b same x.2 _ _ y.1.1)
same-cause text (BadByte a) (WideNumber b) same x y = absurd (none-some text a b same x.2 _ _ y.1.2)
same-cause text (LongName a) (NotAscii b) same x y = absurd (none-some text b a (sym same) (high-at text b y.0.within y.1) _ _ x.1.1)
same-cause text (LongName a) (BadByte b) same x y = absurd (none-some text b a (sym same) y.2 _ _ x.1.1)
same-cause text (LongName a) (LongName b) same x y = ap LongName same
same-cause text (LongName a) (WideNumber b) same x y =
    let there = subst (λ n. IsFirstPiece (drop n text) y.1.0 (token (Number y.1.1))) (sym same) y.1.2 in
    let clash = (first-unique _ _ _ _ _ x.1.1 there).1 in cc
same-cause text (WideNumber a) (NotAscii b) same x y = absurd (none-some text b a (sym same) (high-at text b y.0.within y.1) _ _ x.1.2)
same-cause text (WideNumber a) (BadByte b) same x y = absurd (none-some text b a (sym same) y.2 _ _ x.1.2)
same-cause text (WideNumber a) (LongName b) same x y =
    let there = subst (λ n. IsFirstPiece (drop n text) y.1.0 (token Word)) (sym same) y.1.1 in
    let clash = (first-unique _ _ _ _ _ x.1.2 there).1 in cc
same-cause text (WideNumber a) (WideNumber b) same x y = ap WideNumber same
same-cause text Memory g same x y = absurd x
same-cause text (NotAscii a) Memory same x y = absurd y
same-cause text (BadByte a) Memory same x y = absurd y
same-cause text (LongName a) Memory same x y = absurd y
same-cause text (WideNumber a) Memory same x y = absurd y

same-fault : (text : List ℕ) (f g : LexFault) → IsBroken text f → IsBroken text g → f ≡ g
same-fault text f g x y =
    let one = reached text f x in
    let other = reached text g y in
    same-cause text f g (reads-same text one.reads (stops text f x) other.reads (stops text g y)).1 x y

-- a text with a fault has no tokens
no-tokens : (text : List ℕ) (f : LexFault) (tokens : List Token) → IsBroken text f → SpellsTokens text tokens → ⊥
no-tokens text f tokens x reads =
    let one = reached text f x in
    let same = (reads-same text one.reads (stops text f x) reads (stops-end text)).1 in
    let within = one.within in
    omega arith

pub reads_it : (text : List ℕ) (result : Result (List Token) LexFault) (tokens : List Token) →
    IfOk result (SpellsTokens text) → IfErr result (IsFault text) → SpellsTokens text tokens → IsUnlessMemory (Ok tokens) result
reads_it text (Ok read) tokens ok err spells = ap Ok (reads-same text ok (stops-end text) spells (stops-end text)).0
reads_it text (Err (NotAscii at)) tokens ok err spells = absurd (no-tokens text (NotAscii at) tokens err.0 spells)
reads_it text (Err (BadByte at)) tokens ok err spells = absurd (no-tokens text (BadByte at) tokens err.0 spells)
reads_it text (Err (LongName at)) tokens ok err spells = absurd (no-tokens text (LongName at) tokens err.0 spells)
reads_it text (Err (WideNumber at)) tokens ok err spells = absurd (no-tokens text (WideNumber at) tokens err.0 spells)
reads_it text (Err Memory) tokens ok err spells = tt

pub refuses_it : (text : List ℕ) (result : Result (List Token) LexFault) (f : LexFault) →
    IfOk result (SpellsTokens text) → IfErr result (IsFault text) → IsBroken text f → IsUnlessMemory (Err f) result
refuses_it text (Ok read) f ok err broken = absurd (no-tokens text f read broken ok)
refuses_it text (Err (NotAscii at)) f ok err broken = ap Err (same-fault text (NotAscii at) f err.0 broken)
refuses_it text (Err (BadByte at)) f ok err broken = ap Err (same-fault text (BadByte at) f err.0 broken)
refuses_it text (Err (LongName at)) f ok err broken = ap Err (same-fault text (LongName at) f err.0 broken)
refuses_it text (Err (WideNumber at)) f ok err broken = ap Err (same-fault text (WideNumber at) f err.0 broken)
refuses_it text (Err Memory) f ok err broken = tt

-- the fault that one step finds is the text's
pub fault_at : (text : List ℕ) (at : ℕ) (tokens : List Token) → at < length text → Reads text 0 tokens at →
    (f : LexFault) → IsFirstFault (drop at text) at f → IsFault text f
fault_at text at tokens within reads (NotAscii place) (same, high) =
    subst (λ n. IsFault text (NotAscii n)) (sym same) (
      (record { tokens = tokens; reads = reads; within = within }, subst (λ n. 128 ≤ n) (first-byte text at) high),
      (tokens, front-spells text at tokens (omega arith) reads),
    )
fault_at text at tokens within reads (BadByte place) (same, low, none) =
    subst (λ n. IsFault text (BadByte n)) (sym same) (
      (record { tokens = tokens; reads = reads; within = within }, subst (λ n. n < 128) (first-byte text at) low, none),
      (tokens, front-spells text at tokens (omega arith) reads),
    )
fault_at text at tokens within reads (LongName place) (same, long) =
    subst (λ n. IsFault text (LongName n)) (sym same) (
      (record { tokens = tokens; reads = reads; within = within }, long),
      (tokens, front-spells text at tokens (omega arith) reads),
    )
fault_at text at tokens within reads (WideNumber place) (same, wide) =
    subst (λ n. IsFault text (WideNumber n)) (sym same) (
      (record { tokens = tokens; reads = reads; within = within }, wide),
      (tokens, front-spells text at tokens (omega arith) reads),
    )
fault_at text at tokens within reads Memory broken = absurd broken
