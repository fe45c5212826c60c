-- A stray arrow begins at this byte, or not.
use Rattle.std.proofs.Common.{◌&&◌, ◌∙◌, ap, refl, sym}
use Rattle.line_friendly.specs.Quotes.{is_outside, is_stray}
use Rattle.line_friendly.proofs.QuoteLemmas.{stray_found, stray_passed}
use Rattle.line_friendly.proofs.quotes.stray_of.Goals as goal

pub loop-i-preserved : goal.loop-i-preserved
loop-i-preserved c =
    stray_passed c.args.text.now c.loop-i.at c.after-at.result c.loop-i.i _ c.loop-i-test.true refl c.after-at.ensures
    (sym c.if-is_stray_at.false ∙ c.is_stray_at.ensures ∙ ap (λ t. is_outside c.after-at.result && is_stray t) c.behind.ensures) c.loop-i.invariant

pub returns-then-is_stray_at-clause-place : goal.returns-then-is_stray_at-clause-place
returns-then-is_stray_at-clause-place c =
    stray_found c.args.text.now c.loop-i.at c.after-at.result c.loop-i.i _ c.loop-i-test.true refl c.after-at.ensures
    (sym c.if-is_stray_at.true ∙ c.is_stray_at.ensures ∙ ap (λ t. is_outside c.after-at.result && is_stray t) c.behind.ensures) c.loop-i.invariant
