-- What `make` says is true.
use Rattle.std.specs.Prelude.{◌≡◌, ℕ, List, [], ◌∷◌, Ok, Option}
use Rattle.sched_io.specs.Written.{Adds}
use Rattle.job_trace.specs.declared.trace.Numbered.{Numbered}
use Rattle.job_trace.specs.TraceText.{SpellsTrace}
use Rattle.trace_maker.specs.Made.{made}
use Rattle.trace_printer.specs.Printed.{trace_text}
use Rattle.ipanema_cli.specs.Causes.{OneOf}

-- The text of the made trace was written, which spells just that trace.
pub record WritesMade (seed size : ℕ) (before after : Option (List ℕ)) : Type 0 where
  pub trace : List Numbered
  pub made : made seed size ≡ Ok trace
  pub spells : SpellsTrace (trace_text trace) trace
  pub written : Adds (trace_text trace) before after

-- What `make` writes is the made trace, and it has no answer but that one.
pub record MakesTruly (seed size : ℕ) (before after : Option (List ℕ)) (code : ℕ) : Type 0 where
  pub ends : OneOf (0 ∷ 5 ∷ 6 ∷ []) code
  pub makes : code ≡ 0 → WritesMade seed size before after
