-- The words and symbols of C that stand for what a policy has as data.
use Rattle.std.specs.Prelude.{ℕ, List, Bool, true, false, codes}
use Rattle.policy_tree.specs.declared.trees.Cmp.{Cmp}
use Rattle.policy_tree.specs.declared.trees.Cmp.TheVariants as cmp
use Rattle.policy_tree.specs.declared.typed.Event.{Event}
use Rattle.policy_tree.specs.declared.typed.Event.TheVariants as event
use Rattle.policy_tree.specs.declared.typed.Put.{Put}
use Rattle.policy_tree.specs.declared.typed.Put.TheVariants as put
use Rattle.c_printer.specs.declared.words.HeaderKind.{HeaderKind}
use Rattle.c_printer.specs.declared.words.HeaderKind.TheVariants as header
use Rattle.c_printer.specs.declared.words.View.{View}
use Rattle.c_printer.specs.declared.words.View.TheVariants as view
use Rattle.c_printer.specs.declared.words.Width.{Width}
use Rattle.c_printer.specs.declared.words.Width.TheVariants as width

-- whether the policy was accepted, as a macro says it
abbrev pub accepted_text : HeaderKind → List ℕ
accepted_text header.Accepted = codes "1\n"
accepted_text header.Draft = codes "0\n"

-- the core that is asked about
abbrev pub other_word : View → List ℕ
other_word view.Named = codes "victim"
other_word view.First = codes "a"
other_word view.Second = codes "b"

-- the thread that is asked about
abbrev pub thread_word : View → List ℕ
thread_word view.Named = codes "thread"
thread_word view.First = codes "a"
thread_word view.Second = codes "b"

abbrev pub opening_text : Bool → List ℕ
opening_text true = codes "("
opening_text false = codes ""

abbrev pub closing_text : Bool → List ℕ
closing_text true = codes ")"
closing_text false = codes ""

abbrev pub minus_text : Bool → List ℕ
minus_text true = codes "-"
minus_text false = codes ""

-- what turns an operand into that type
abbrev pub cast_text : Width → List ℕ
cast_text width.Small = codes ""
cast_text width.Long = codes ""
cast_text width.Wide = codes "(__int128)"

-- what gives a number that type, or one that is cast
abbrev pub suffix_text : Width → List ℕ
suffix_text width.Small = codes ""
suffix_text width.Long = codes "LL"
suffix_text width.Wide = codes "LL"

-- C99 has no integer of 128 bits, so compilers are asked for theirs
abbrev pub begin_text : Width → List ℕ
begin_text width.Small = codes ""
begin_text width.Long = codes ""
begin_text width.Wide = codes "__extension__ ("

abbrev pub end_text : Width → List ℕ
end_text width.Small = codes ""
end_text width.Long = codes ""
end_text width.Wide = codes ")"

abbrev pub event_text : Event → List ℕ
event_text event.Enqueue = codes "enqueue"
event_text event.Tick = codes "tick"
event_text event.Yield = codes "yield"
event_text event.Block = codes "block"

-- when the event comes
abbrev pub event_comment : Event → List ℕ
event_comment event.Enqueue =
    codes "\n/* A thread enters self's queue, fresh where it is new, not where it wakes. No steal calls this. */\n"
event_comment event.Tick = codes "\n/* The thread that runs on self has run a while, and isn't done. */\n"
event_comment event.Yield = codes "\n/* The thread that runs on self yields. */\n"
event_comment event.Block = codes "\n/* The thread that runs on self blocks. */\n"

-- only a thread that comes to a core may be fresh
abbrev pub fresh_text : Event → List ℕ
fresh_text event.Enqueue = codes ", bool fresh"
fresh_text event.Tick = codes ""
fresh_text event.Yield = codes ""
fresh_text event.Block = codes ""

abbrev pub put_text : Put → List ℕ
put_text put.Queue = codes "_put_queue"
put_text put.Keep = codes "_put_keep"
put_text put.Block = codes "_put_block"

abbrev pub compare_text : Cmp → List ℕ
compare_text cmp.Eq = codes " == "
compare_text cmp.Ne = codes " != "
compare_text cmp.Lt = codes " < "
compare_text cmp.Le = codes " <= "
compare_text cmp.Gt = codes " > "
compare_text cmp.Ge = codes " >= "
