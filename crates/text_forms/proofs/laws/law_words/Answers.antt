use Rattle.text_forms.proofs.WordLaws.{words_law}
use Rattle.text_forms.proofs.laws.law_words.Goals as goal

pub returns : goal.returns
returns c = words_law
