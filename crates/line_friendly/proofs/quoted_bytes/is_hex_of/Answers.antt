-- A sign's digits are passed, or aren't there.
use Rattle.std.proofs.Common.{◌+◌, ◌∙◌, ap, arith, drop, length, sym, ℕ}
use Rattle.std.specs.Str.{bytes_eq}
use Rattle.std.proofs.lemmas.List.{length-drop}
use Rattle.own_model.specs.Reply.{hex_text}
use Rattle.line_friendly.specs.QuotedBytes.{bytes_from, sign_at}
use Rattle.line_friendly.proofs.SignLemmas.{hex_other, hex_step}
use Rattle.line_friendly.proofs.quoted_bytes.is_hex_of.Goals as goal

pub returns-then-not-begins_with_hex : goal.returns-then-not-begins_with_hex
returns-then-not-begins_with_hex c =
    sym (c.loop-at.invariant.digits
    ∙ hex_other c.loop-at.left.now c.args.text.now c.loop-at.at c.sign_at-sign.result c.loop-at-test.true (c.sign_at-sign.ensures.value ∙ ap sign_at c.behind.ensures)
    c.sign_at-sign.ensures.some (sym c.begins_with_hex.ensures.value ∙ c.if-not-begins_with_hex.true))

pub loop-at-preserved : goal.loop-at-preserved
loop-at-preserved c = record {
  within = omega (arith, c.sign_at-sign.ensures.fits, ap length c.behind.ensures, length-drop {A = ℕ});
  digits =
      c.loop-at.invariant.digits
      ∙ hex_step c.loop-at.left.now c.args.text.now c.loop-at.at c.sign_at-sign.result c.loop-at-test.true (c.sign_at-sign.ensures.value ∙ ap sign_at c.behind.ensures)
      c.sign_at-sign.ensures.some (sym c.begins_with_hex.ensures.value ∙ c.if-not-begins_with_hex.false)
      ∙ ap (λ left. bytes_eq left (hex_text (bytes_from 0 (drop (c.loop-at.at + c.sign_at-sign.result.size) c.args.text.now)))) (sym c.behind-left.ensures);
}
