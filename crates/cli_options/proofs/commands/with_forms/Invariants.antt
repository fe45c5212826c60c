use Rattle.std.proofs.Common.{◌≡◌, drop, map}
use Rattle.clap.specs.Words.{app_of}
use Rattle.cli_options.specs.Line.{command_told, with_commands}
use Rattle.cli_options.proofs.commands.with_forms.Given as goal

abbrev pub invariant-loop-form : goal.invariant-loop-form
invariant-loop-form l = with_commands (app_of l.words) (map (λ form. (command_told form).top) (drop l.form-index l.forms))
    ≡ with_commands (app_of l.initial.words) (map (λ form. (command_told form).top) l.forms)
