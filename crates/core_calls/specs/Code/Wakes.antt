-- How a thread wakes that was placed by these reads, as the code does it. No promise rests on this.
use Rattle.std.specs.Prelude.{ℕ, List}
use Rattle.round_model.specs.declared.entry.Entry.TheVariants as entry
use Rattle.core_table.specs.declared.views.View.{View}
use Rattle.core_calls.specs.Steps.{AddsNext}

pub record WokenBy (core : ℕ) (reads : List ℕ) (at : ℕ) (before now : View) : Type 0 where
  pub thread : ℕ
  pub to : ℕ
  pub adds : AddsNext core at (entry.Wake thread core to reads) before now
