-- The program as it is made, word by word.
use Rattle.std.proofs.Common.{◌≡◌, ◌∙◌, ap, true}
use Rattle.clap.specs.Simple.{app_of_fields, on_top}
use Rattle.clap.specs.Words.{app_of}
use Rattle.cli_options.proofs.commands.bare.Goals as goal

pub returns : goal.returns
returns c =
    let versioned : app_of c.version.result ≡ on_top (λ s. record s { has_version = true }) (app_of c.new.result) = ap app_of_fields c.version.ensures in
    let told : app_of c.after_help.result ≡ app_of c.version.result = ap app_of_fields c.after_help.ensures ∙ ap app_of_fields c.about.ensures in
    ap app_of_fields c.disable_help_subcommand.ensures ∙ ap (on_top (λ s. record s { disable_help_subcommand = true }))
    (told ∙ versioned ∙ ap (on_top (λ s. record s { has_version = true })) c.new.ensures.app)
