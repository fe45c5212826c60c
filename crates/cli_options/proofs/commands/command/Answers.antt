-- An argument more is added.
use Rattle.std.proofs.Common.{◌∙◌, map, sym}
use Rattle.std.proofs.lemmas.List.{at_drop_more}
use Rattle.clap.specs.Words.{app_of}
use Rattle.cli_options.specs.Line.{rule_told, with_arguments}
use Rattle.cli_options.proofs.commands.command.Goals as goal

pub loop-word-preserved : goal.loop-word-preserved
loop-word-preserved c = (
  rw c.in_ok-command.ensures.rule
      (sym (at_drop_more (λ left. with_arguments (app_of c.loop-word.command) (map rule_told left)) c.args.form.now.words.now c.loop-word.word-index _ c.loop-word-test.true)
      ∙ c.loop-word.invariant.0),
  c.in_ok-command.ensures.local ∙ c.loop-word.invariant.1,
)
