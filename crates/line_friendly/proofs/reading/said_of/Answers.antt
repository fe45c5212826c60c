-- What the signs behind a mark and blanks say.
use Rattle.std.proofs.Common.{◌+◌, ◌-◌, ◌∙◌, ap, length}
use Rattle.line_friendly.specs.Friendly.{said_of_signs}
use Rattle.line_friendly.specs.Words.{skip_blanks}
use Rattle.line_friendly.proofs.reading.said_of.Goals as goal

pub returns-clause-value : goal.returns-clause-value
returns-clause-value c =
    c.said_of_signs.ensures.value
    ∙ ap (λ s. said_of_signs (length c.args.line.now - length s + 1) s) (c.skip_blanks-signs.ensures.value ∙ ap skip_blanks c.without_mark.ensures.value)
