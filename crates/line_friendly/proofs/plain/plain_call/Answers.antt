-- No byte is a sign of the friendly form, and the call's tail has nothing that is translated.
use Rattle.std.proofs.Common.{◌∙◌, sym}
use Rattle.line_friendly.proofs.SightLemmas.{bare_at_sight, plain_at_sight}
use Rattle.line_friendly.proofs.plain.plain_call.Goals as goal

pub returns-clause-plain : goal.returns-clause-plain
returns-clause-plain c =
    plain_at_sight c.args.line.now c.in_ok-said.said (sym c.has_no_sign.ensures ∙ search) c.in_ok-said.ensures
    (sym c.has_translation.ensures ∙ c.if-has_translation.false)

pub returns-clause-bare : goal.returns-clause-bare
returns-clause-bare c = bare_at_sight c.args.line.now c.in_ok-said.said (sym c.has_no_sign.ensures ∙ search) c.in_ok-said.ensures
