use Rattle.std.specs.List.{flat_map}
use Rattle.std.proofs.Common.{ap, codes, ◌*◌, ◌∙◌}
use Rattle.sched_base.specs.declared.limits.TheConstants.{MAX_THREADS}
use Rattle.c_printer.specs.StructTexts.{limit_constant_texts, range_texts}
use Rattle.policy_tree.specs.Meaning.{meaning_of}
use Rattle.c_printer.proofs.AddsLemmas.{given_ok, same_texts, ◌⊳◌}
use Rattle.c_printer.proofs.printer.Printer.constants.Goals as goal

pub returns : goal.returns
returns c =
    given_ok c.ranges-3.result c.ranges-3.ensures
    (λ last. c.in_ok-word.ensures ⊳ c.in_ok-limit_constant.ensures ⊳
    same_texts (ap (λ n. limit_constant_texts (meaning_of c.args.policy.now) (codes "_LOAD_MAX ") (MAX_THREADS * n)) (c.from-greatest.ensures ∙ c.greatest_weight.ensures)) c.in_ok-limit_constant-2.ensures ⊳
    same_texts (ap (limit_constant_texts (meaning_of c.args.policy.now) (codes "_WEIGHT_MIN ")) (c.from.ensures ∙ c.least_weight.ensures)) c.in_ok-limit_constant-3.ensures ⊳
    same_texts (ap (limit_constant_texts (meaning_of c.args.policy.now) (codes "_WEIGHT_MAX ")) (c.from-greatest.ensures ∙ c.greatest_weight.ensures)) c.in_ok-limit_constant-4.ensures ⊳
    same_texts (ap (flat_map (range_texts (meaning_of c.args.policy.now) (codes "_CORE_"))) c.as_slice.ensures.items) c.in_ok-ranges.ensures ⊳ same_texts (ap (flat_map (range_texts (meaning_of c.args.policy.now) (codes "_THREAD_"))) c.as_slice-2.ensures.items) last)
