-- A text occurs if it has a first match.
use Rattle.std.proofs.Common.{◌∙◌, ap, is_some}
use Rattle.memchr.proofs.lemmas.ValueLemmas.{FindsNeedle-value}
use Rattle.cli_tests.proofs.planned_test.has_text.Goals as goal

pub returns : goal.returns
returns c = c.is_some.ensures ∙ ap is_some (FindsNeedle-value c.args.path.now c.args.text.now c.find.result (rw (c.as_bytes.ensures.value, c.as_bytes-2.ensures.value) at c.find.ensures))
