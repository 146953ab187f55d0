use Rattle.std.proofs.Common.{◌≡◌, [], false, map, take}
use Rattle.clap.specs.Words.{app_of}
use Rattle.clap.specs.declared.builder.command.Command.TheViews.{out-Command as fields_of}
use Rattle.command_words.specs.Program.{command_of}
use Rattle.command_words.proofs.commands.command_of.Given as goal

-- the words so far are those of the names so far
abbrev pub invariant-loop-id : goal.invariant-loop-id
invariant-loop-id l = record {
  shape : app_of l.command ≡ record { top = command_of l.verb (map (λ id. id.now) (take l.id-index l.ids)); subs = [] };
  local : (fields_of l.command).has_globals ≡ false;
}
