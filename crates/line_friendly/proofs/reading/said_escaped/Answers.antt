-- A call without a fault.
use Rattle.std.proofs.Common.{◌∙◌, ap, length, Some, []}
use Rattle.std.specs.Option.{option_copied}
use Rattle.line_friendly.specs.CallParts.{CallParts, parts_of, spelled}
use Rattle.line_friendly.specs.Views.{parts_in}
use Rattle.line_friendly.specs.LineText.{added}
use Rattle.line_friendly.proofs.ReadingLemmas.{call_says}
use Rattle.line_friendly.proofs.reading.said_escaped.Goals as goal

pub returns-in-None-clause-value : goal.returns-in-None-clause-value
returns-in-None-clause-value c =
    c.said_of_line.ensures.value
    ∙ call_says c.args.column c.args.call.now (option_copied c.args.reply) (parts_in c.of-parts.result).tail c.escape_fault.result (option_copied c.text.result)
    (ap (λ (p : CallParts). p.tail) c.of-parts.ensures.value) c.escape_fault.ensures c.in-None.is
    (c.text.ensures.value ∙ c.put.ensures ∙ ap (λ l. added l (spelled (parts_in c.of-parts.result))) c.clear.ensures
    ∙ ap (λ p. added (Some []) (spelled p)) c.of-parts.ensures.value)
