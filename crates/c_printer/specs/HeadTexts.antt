-- What stands before and behind everything else, and what is proved of the policy.
use Rattle.std.specs.Prelude.{ℕ, List, [], ◌∷◌, codes, decimal}
use Rattle.sched_base.specs.declared.limits.TheConstants.{MAX_THREADS}
use Rattle.policy_tree.specs.Meaning.{Meaning}
use Rattle.c_printer.specs.declared.words.HeaderKind.{HeaderKind}
use Rattle.c_printer.specs.WordTexts.{accepted_text}

-- what an attempt is in the model
abbrev pub attempt_texts : List (List ℕ)
attempt_texts =
    codes " * - In a round each core makes one attempt. It reads count and load of\n"
    ∷ codes " *   each core at one moment, which isn't before the start of the round.\n"
    ∷ codes " *   Of the cores of which the filter holds it takes the best, of equals\n"
    ∷ codes " *   the one with the lowest number.\n"
    ∷ codes " * - Both cores are held while the filter is asked again and threads are\n"
    ∷ codes " *   moved. They are moved out of the victim's queue, the best first. The\n"
    ∷ codes " *   one that runs stays.\n"
    ∷ codes " * - The next round begins once each core has made its attempt.\n"
    ∷ codes " * No proof of this project speaks of C. tools/prove_c has frama-c prove\n"
    ∷ codes " * that each function is the policy's rule.\n */\n" ∷ []

-- what is so in the model, of which the laws of accepted policies are proved
abbrev pub owed_texts : List (List ℕ)
owed_texts =
    codes " * The policy was accepted: it meets what policies owe. The laws of such\n"
    ∷ codes " * policies are proved of a model, and of no balancer. In the model it is so:\n"
    ∷ codes " * - There are at most " ∷ decimal MAX_THREADS
    ∷ codes " threads in all, on any number of cores.\n"
    ∷ codes " * - The load of a core is the sum of the weights of its threads, the\n"
    ∷ codes " *   running one counted. A core that has threads runs one of them.\n"
    ∷ codes " * - Weights and attributes lie in their ranges. Neither weights nor the\n"
    ∷ codes " *   attributes of cores change.\n" ∷ attempt_texts

-- the comment at the head of an accepted policy's header
abbrev pub comment_texts : Meaning → List (List ℕ)
comment_texts p =
    codes "/*\n * The scheduling policy " ∷ p.name ∷ codes " as C99, printed from its text. Change the text,\n"
    ∷ codes " * and print it again.\n *\n" ∷ owed_texts

-- What the functions need of the compiler. A BPF program has these types from its vmlinux.h.
abbrev pub head_texts : Meaning → List (List ℕ)
head_texts p =
    codes "#ifndef " ∷ p.name ∷ codes "_POLICY_H\n#define " ∷ p.name ∷ codes "_POLICY_H\n\n"
    ∷ codes "#if defined(__KERNEL__)\n#include <linux/types.h>\n"
    ∷ codes "#elif !defined(__VMLINUX_H__) /* which has these types */\n"
    ∷ codes "#include <stdbool.h>\n#include <stdint.h>\n#endif\n\n"
    ∷ codes "/* A rule need not look at all that it is given, and may compare a number\n"
    ∷ codes " * with itself.\n */\n"
    ∷ codes "#ifdef __GNUC__\n#pragma GCC diagnostic push\n"
    ∷ codes "#pragma GCC diagnostic ignored \"-Wunused-parameter\"\n"
    ∷ codes "#pragma GCC diagnostic ignored \"-Wtautological-compare\"\n#endif\n" ∷ []

-- whether the policy was accepted, for whoever includes the header
abbrev pub accepted_texts : HeaderKind → Meaning → List (List ℕ)
accepted_texts kind p =
    codes "\n/* 1 where the policy was accepted, 0 in a draft. */\n#define " ∷ p.name ∷ codes "_ACCEPTED "
    ∷ accepted_text kind ∷ []

abbrev pub foot_texts : List (List ℕ)
foot_texts = codes "\n#ifdef __GNUC__\n#pragma GCC diagnostic pop\n#endif\n\n#endif\n" ∷ []
