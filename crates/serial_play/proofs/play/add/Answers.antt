use Rattle.std.proofs.Common.{◌≡◌, ◌∙◌, ◌++◌, ◌∷◌, [], ℕ, cond, length, ap, ap₂, sym, refl, subst, arith}
use Rattle.policy_tree.specs.Meaning.{meaning_of}
use Rattle.round_model.specs.Entries.{touches}
use Rattle.round_model.specs.FreshReads.{touched_from}
use Rattle.round_model.specs.Reads.{round_start}
use Rattle.round_model.proofs.Longer.{start_stays}
use Rattle.round_model.proofs.Touched.{touched_more}
use Rattle.round_judge.specs.Past.{StandsFor}
use Rattle.serial_play.proofs.Adding.{read_stays}
use Rattle.serial_play.proofs.play.add.Goals as goal

pub returns : goal.returns
returns c =
    let p = meaning_of c.args.policy.now in let plan = c.args.plan.now in let old = c.args.play.now in let e = c.args.entry in
    let h = old.history in let played = c.requires.play in
    let grown : c.append.new.history ≡ h ++ e ∷ [] = c.in_ok-append.ensures.history in
    let stands = c.in_ok-append.ensures.stands in
    let few = c.requires.play.belongs.limits.few_cores in
    record {
      play = record {
        stands = subst (StandsFor p plan c.append.new.past) (sym grown) stands;
        belongs = c.in_ok-append.ensures.belongs;
        start = played.start ∙ (sym (start_stays h e c.requires.inner) ∙ ap round_start (sym grown));
        touched = λ core there.
            c.touch.ensures core (omega arith)
            ∙ (ap₂ (λ (end last : ℕ). cond (touches core e) end last) (c.len.ensures ∙ ap length grown) (played.touched core there)
            ∙ (sym (touched_more core h e) ∙ ap (touched_from core 0 0) (sym grown)));
        looks = λ core reads there is. read_stays p plan old.past c.append.new.past h e reads c.requires.inner played.stands stands (played.looks core reads there is);
      };
      history = grown;
      looks = refl;
    }
