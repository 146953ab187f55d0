-- The choice by levels is the model's choice under the compiled policy.
use Rattle.std.specs.Prelude.{◌≡◌, ℕ}
use Rattle.policy_tree.specs.Meaning.{Meaning}
use Rattle.policy_eval.specs.declared.env.CoreValues.{CoreValues}
use Rattle.round_model.specs.Choices.{choice_of}
use Rattle.level_policy.specs.Compiled.{compiled}
use Rattle.level_policy.specs.LevelChoices.{level_choice}
use Rattle.level_policy.specs.Levels.{LevelsMeaning}

-- under the policy each core chooses by those levels, however many the cores and whatever their values
abbrev pub ChoosesByLevel : LevelsMeaning → Meaning → Type 0
ChoosesByLevel l p = (cores : ℕ) (values : ℕ → CoreValues) (a : ℕ) →
    choice_of p cores values a ≡ level_choice l cores values a

-- so it is under the compiled policy
abbrev pub LevelChoiceLaw : Type 0
LevelChoiceLaw = (l : LevelsMeaning) → ChoosesByLevel l (compiled l)
