-- From how a call ends to the cause of its status.
use Rattle.std.proofs.Common.{◌≡◌, ◌≢◌, ◌<◌, ℕ, ◌⊎◌, inl, inr, List, [], ◌∷◌, ◌++◌, Option, None, codes, length, refl, sym, ◌∙◌, ap, arith, subst}
use Rattle.sched_io.specs.Shown.{Shown}
use Rattle.sched_io.specs.Told.{Told, holds}
use Rattle.sched_io.specs.Written.{Adds}
use Rattle.command_words.specs.Command.{Asked}
use Rattle.ipanema_cli.specs.Answers.{output_of, status_of}
use Rattle.ipanema_cli.specs.Causes.{HasCause, OneOf, SaysCrowded, SaysTooLong}
use Rattle.ipanema_cli.specs.Commands.{AskedFile, answer_statuses, asked_files, statuses_of, stop_statuses}
use Rattle.ipanema_cli.specs.Ends.{Ends, answered, no_memory, unread}
use Rattle.ipanema_cli.specs.Files.{AreRead, IsAmong, IsFileOf, IsTooLongOf, IsUnreadOf}
use Rattle.ipanema_cli.specs.Replies.{IsAnswer, replies, too_long}
use Rattle.ipanema_cli.specs.Status.{code_of}
use Rattle.ipanema_cli.specs.Texts.{MayRead, room_of, too_long_line}
use Rattle.ipanema_cli.specs.Truths.{NonePassed}
use Rattle.ipanema_cli.specs.declared.answers.Answer.{Answer}
use Rattle.ipanema_cli.specs.declared.answers.Answer.TheVariants as answer
use Rattle.ipanema_cli.specs.declared.texts.TextKind.{TextKind}
use Rattle.ipanema_cli.proofs.Laws.{law_of}
use Rattle.ipanema_cli.proofs.WritesLemmas.{code_among, cut, no_stop, one_line, whole}

-- The numbers of stops are among those of each command.
module _ (own : List ℕ) where
  five_among : (files : List AskedFile) → OneOf (stop_statuses files ++ own) 5
  five_among [] = refl
  five_among (file ∷ files) = refl

  six_among : (files : List AskedFile) → OneOf (stop_statuses files ++ own) 6
  six_among [] = refl
  six_among (file ∷ files) = refl

  four_among : (told : List ℕ → Told) (fault : Type 0) (files : List AskedFile) → IsUnreadOf told fault files → OneOf (stop_statuses files ++ own) 4
  four_among told fault [] missed = absurd missed
  four_among told fault (file ∷ files) missed = refl

  ten_among : (which : TextKind) (told : List ℕ → Told) (files : List AskedFile) → IsTooLongOf which told files → OneOf (stop_statuses files ++ own) 10
  ten_among which told [] long = absurd long
  ten_among which told (file ∷ files) long = refl

-- a text that a file holds, and that is too long, isn't read
not_read : (which : TextKind) (told : Told) (text held : List ℕ) → MayRead which told text → told ≡ holds held → room_of which < length held → ⊥
not_read which told text held read tells long =
    let same = read.held.same held tells in omega (arith, read.short, ap length same)

-- so none of the files that are read is too long
none_long : (told : List ℕ → Told) (text : TextKind → List ℕ) (files : List AskedFile) (which : TextKind) (name held : List ℕ) → AreRead told text files → IsAmong which name files
    → told name ≡ holds held → room_of which < length held → ⊥
none_long told text [] which name held read among tells long = among
none_long told text (file ∷ files) which name held (read, others) (inl (kind, same)) tells long =
    not_read file.which (told file.name) (text file.which) held read (sym (ap told same) ∙ tells) (subst (λ (k : TextKind). room_of k < length held) kind long)
none_long told text (file ∷ files) which name held (read, others) (inr among) tells long = none_long told text files which name held others among tells long

module _ (asked : Option Asked) (told : List ℕ → Told) (a : Answer) where
  answer_known : IsAnswer asked told a → OneOf (statuses_of asked) (code_of (status_of a))
  answer_known (replies text read is) = (law_of NonePassed asked).known text a is
  answer_known (too_long which same long) =
      subst (λ (b : Answer). OneOf (statuses_of asked) (code_of (status_of b))) (sym same) (ten_among (answer_statuses asked) which told (asked_files asked) long)

  ten : (before after : Option (List ℕ)) → IsAnswer asked told a → code_of (status_of a) ≡ 10 → Adds (output_of a) before after
      → SaysTooLong asked told before after ⊎ SaysCrowded asked told before after
  ten before after (replies text read is) e added = inr ((law_of NonePassed asked).crowds told text before after a read is e added)
  ten before after (too_long which same long) e added =
      inl (which, long, one_line (too_long_line which) before after (subst (λ (b : Answer). Adds (output_of b) before after) same added))

  long_file : IsAnswer asked told a → (which : TextKind) (name held : List ℕ) → IsFileOf asked which name → told name ≡ holds held → room_of which < length held
      → code_of (status_of a) ≡ 10
  long_file (replies text read is) which name held file tells long = absurd (none_long told text (asked_files asked) which name held read file tells long)
  long_file (too_long other same _) which name held file tells long = ap (λ (b : Answer). code_of (status_of b)) same

-- words that are no command have one answer
words_answer : (told : List ℕ → Told) (a : Answer) → IsAnswer None told a → a ≡ answer.BadWords
words_answer told a (replies text read is) = is
words_answer told a (too_long which same long) = absurd long

pub causes : (asked : Option Asked) (told : List ℕ → Told) (read_fault : Type 0) (before after : Shown) (code : ℕ) → Ends asked told read_fault before after code → HasCause asked told read_fault before after code
causes asked told read_fault before after code (answered a is writes) =
    let among = code_among a before after code writes in
    let stop = no_stop a in
    let own : (n : ℕ) → n ≢ 5 → code ≡ n → code_of (status_of a) ≡ n = λ n other h. elim among [ inl e ↦ sym e ∙ h | inr e ↦ absurd (other (sym h ∙ e)) ] in
    record {
      known = elim among [ inl e ↦ rw e (answer_known asked told a is) | inr e ↦ rw e (five_among (answer_statuses asked) (asked_files asked)) ];
      unread = λ h. absurd (stop.0 (own 4 (λ e. omega arith) h));
      unwritten = λ h. (a, is, cut a before after code writes stop.1 h);
      no_memory = λ h. absurd (stop.2 (own 6 (λ e. omega arith) h));
      bad_words = λ none h.
          let same = words_answer told a (subst (λ (x : Option Asked). IsAnswer x told a) none is) in
          let added = whole a before after code writes (λ e. omega arith) in
          one_line (codes "bad words\n") before.written after.written (subst (λ (x : Answer). Adds (output_of x) before.written after.written) same added);
      too_much = λ h. ten asked told a before.written after.written is (own 10 (λ e. omega arith) h) (whole a before after code writes (λ e. omega arith));
      past_limit = λ which name held file tells long. elim among [
        | inl f ↦ rw (f, long_file asked told a is which name held file tells long) refl
        | inr f ↦ rw f refl
      ];
    }
causes asked told read_fault before after code (unread e cause added) = record {
  known = rw e (four_among (answer_statuses asked) told read_fault (asked_files asked) cause);
  unread = λ h. (cause, added.bytes);
  unwritten = λ h. absurd (omega arith);
  no_memory = λ h. absurd (omega arith);
  bad_words = λ none h. absurd (omega arith);
  too_much = λ h. absurd (omega arith);
  past_limit = λ which name held file tells long. rw e refl;
}
causes asked told read_fault before after code (no_memory e added) = record {
  known = rw e (six_among (answer_statuses asked) (asked_files asked));
  unread = λ h. absurd (omega arith);
  unwritten = λ h. absurd (omega arith);
  no_memory = λ h. added.bytes;
  bad_words = λ none h. absurd (omega arith);
  too_much = λ h. absurd (omega arith);
  past_limit = λ which name held file tells long. rw e refl;
}
