use Rattle.std.proofs.Common.{◌∙◌, take, sym, ap}
use Rattle.line_rounds.specs.Views.{texts}
use Rattle.line_rounds.proofs.RoundLemmas.{body_ends, texts_of_first}
use Rattle.line_rounds.proofs.structure.body_of.Goals as goal

pub returns-then-within-eq0-clause-value : goal.returns-then-within-eq0-clause-value
returns-then-within-eq0-clause-value c =
    texts_of_first c.loop-i.i c.args.lines.now
    ∙ ap (λ n. take n (texts c.args.lines.now))
    (body_ends c.loop-i.i c.loop-i.within c.args.lines.now _ c.loop-i-test.true c.if-within-eq0.true (sym c.in-Ends.ensures) c.loop-i.invariant.0)
