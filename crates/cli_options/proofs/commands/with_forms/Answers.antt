-- A command more is added, and then all are.
use Rattle.std.proofs.Common.{◌∙◌, ap, map, sym}
use Rattle.std.proofs.lemmas.List.{at_drop_all, at_drop_more}
use Rattle.clap.specs.Words.{app_of}
use Rattle.cli_options.specs.Line.{command_told, with_commands}
use Rattle.cli_options.proofs.commands.with_forms.Goals as goal

pub loop-form-preserved : goal.loop-form-preserved
loop-form-preserved c =
    rw c.in_ok-words.ensures
    (sym (at_drop_more (λ left. with_commands (app_of c.loop-form.words) (map (λ form. (command_told form).top) left)) c.args.forms.now c.loop-form.form-index _ c.loop-form-test.true)
    ∙ c.loop-form.invariant)

pub returns : goal.returns
returns c = λ app is.
    sym (at_drop_all (λ left. with_commands (app_of c.loop-form.words) (map (λ form. (command_told form).top) left)) c.args.forms.now c.loop-form.form-index c.loop-form-test.false)
    ∙ c.loop-form.invariant ∙ ap (λ a. with_commands a (map (λ form. (command_told form).top) c.args.forms.now)) is
