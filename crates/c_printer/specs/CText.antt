-- The C header of a policy: a comment, and the body behind it, which drafts have too.
use Rattle.std.specs.Prelude.{ℕ, List, ◌++◌}
use Rattle.policy_tree.specs.declared.typed.Event.TheVariants as event
use Rattle.policy_tree.specs.Meaning.{Meaning}
use Rattle.c_printer.specs.declared.words.HeaderKind.{HeaderKind}
use Rattle.c_printer.specs.declared.words.HeaderKind.TheVariants as header
use Rattle.c_printer.specs.Adds.{glued}
use Rattle.c_printer.specs.EventTexts.{handler_texts}
use Rattle.c_printer.specs.HeadTexts.{accepted_texts, comment_texts, foot_texts, head_texts}
use Rattle.c_printer.specs.OrderTexts.{batch_texts, choose_texts, elect_texts, filter_texts, place_texts, steal_texts}
use Rattle.c_printer.specs.StructTexts.{structs_texts}

-- what says which of two comes first, and who may take from whom
abbrev pub rules_texts : Meaning → List (List ℕ)
rules_texts p =
    filter_texts p ++ (choose_texts p ++ (steal_texts p
    ++ (batch_texts p p.batch ++ (place_texts p ++ elect_texts p))))

-- what events do
abbrev pub events_texts : Meaning → List (List ℕ)
events_texts p =
    handler_texts p event.Enqueue ++ (handler_texts p event.Tick
    ++ (handler_texts p event.Yield ++ handler_texts p event.Block))

-- All but the comment. The kind of the header is told by one macro, and changes nothing else.
abbrev pub body_texts : HeaderKind → Meaning → List (List ℕ)
body_texts kind p =
    head_texts p ++ (accepted_texts kind p ++ (structs_texts p ++ (rules_texts p ++ (events_texts p ++ foot_texts))))

abbrev pub c_body : HeaderKind → Meaning → List ℕ
c_body kind p = glued (body_texts kind p)

abbrev pub header_texts : Meaning → List (List ℕ)
header_texts p = comment_texts p ++ body_texts header.Accepted p

-- the whole header of an accepted policy
abbrev pub c_text : Meaning → List ℕ
c_text p = glued (header_texts p)
