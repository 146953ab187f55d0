-- One name more is one wanted word more, at the end.
use Rattle.std.proofs.Common.{◌≡◌, ◌++◌, ◌∷◌, [], ◌+◌, List, ap, ap₂, sym, map, take, get_or, refl, ◌||◌, ◌∙◌}
use Rattle.std.proofs.lemmas.List.{map-append, take_more}
use Rattle.clap.specs.Words.{App, Rule, Text, rule_of, with_rule}
use Rattle.command_words.specs.Program.{command_of, wanted}
use Rattle.command_words.proofs.commands.command_of.Goals as goal

abbrev alone : Text → List Text → App
alone verb ids = record { top = command_of verb ids; subs = [] }

one_more : (verb : Text) (ids : List Text) (id : Text) → with_rule (alone verb ids) (wanted id) ≡ alone verb (ids ++ id ∷ [])
one_more verb ids id = rw (map-append wanted ids (id ∷ [])) refl

pub loop-id-preserved : goal.loop-id-preserved
loop-id-preserved c =
    let verb = c.args.verb.now in
    let ids = c.args.ids.now in
    let at = c.loop-id.id-index in
    let id = get_or ids at (record { ref_ptr = (0, 0); now = [] }) in
    let before : List Text = map (λ x. x.now) (take at ids) in
    let grows : map (λ x. x.now) (take (at + 1) ids) ≡ before ++ id.now ∷ [] =
    ap (map (λ x. x.now)) (take_more ids at (record { ref_ptr = (0, 0); now = [] }) c.loop-id-test.true) ∙ map-append (λ x. x.now) (take at ids) (id ∷ []) in
    let adds = c.in_ok-command.ensures in
    record {
      shape = adds.shape c.wanted.ensures.local
          ∙ ap (λ (app : App). with_rule app (rule_of c.wanted.result)) c.loop-id.invariant.shape
          ∙ ap (λ (rule : Rule). with_rule (alone verb before) rule) c.wanted.ensures.rule
          ∙ one_more verb before id.now
          ∙ ap (alone verb) (sym grows);
      local = adds.globals ∙ ap₂ ◌||◌ c.loop-id.invariant.local c.wanted.ensures.local;
    }
