use Rattle.std.proofs.Common.{ap, ◌∙◌, drop, arith}
use Rattle.std.proofs.lemmas.Bool.Decides.{nat_tests}
use Rattle.std.proofs.lemmas.List.{nil_from_length}
use Rattle.text_forms.proofs.TextLemmas.{words-none, words-first}
use Rattle.text_forms.proofs.words.first_word.Goals as goal

pub returns-then-is_empty-clause-none : goal.returns-then-is_empty-clause-none
returns-then-is_empty-clause-none c =
    words-none c.args.blanks.now c.args.line.now
    (rw (← c.blanks_len.ensures.len) (rw (← c.split_at.ensures.back) (nil_from_length c.split_at.result.1.now (grind (arith, nat_tests)))))

pub returns-else-is_empty-clause-word : goal.returns-else-is_empty-clause-word
returns-else-is_empty-clause-word c =
    let here = c.split_at.ensures.back ∙ ap (λ n. drop n c.args.line.now) c.blanks_len.ensures.len in
    rw (c.cut_at.ensures.front, c.cut_at.ensures.back, c.word_len.ensures.len)
    (words-first c.args.blanks.now c.args.line.now c.split_at.result.1.now here (grind (arith, nat_tests)))
