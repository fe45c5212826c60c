use Rattle.std.proofs.Common.{◌≡◌, drop, false, map}
use Rattle.clap.specs.Words.{app_of}
use Rattle.clap.specs.declared.builder.command.Command.TheViews.{out-Command}
use Rattle.cli_options.specs.Line.{command_told, rule_told, with_arguments}
use Rattle.cli_options.proofs.commands.command.Given as goal

abbrev pub invariant-loop-word : goal.invariant-loop-word
invariant-loop-word l = (with_arguments (app_of l.command) (map rule_told (drop l.word-index l.form.words.now)) ≡ command_told l.form)
    × ((out-Command l.command).has_globals ≡ false)
