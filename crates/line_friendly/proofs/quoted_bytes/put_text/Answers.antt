-- A sign is put, and those behind it are left.
use Rattle.std.proofs.Common.{◌+◌, ◌∙◌, ap, arith, drop, length, sym, ℕ}
use Rattle.std.proofs.lemmas.List.{length-drop}
use Rattle.own_model.specs.Reply.{hex_text}
use Rattle.line_friendly.specs.QuotedBytes.{bytes_from, sign_at}
use Rattle.line_friendly.specs.LineText.{added}
use Rattle.line_friendly.proofs.SignLemmas.{put_step}
use Rattle.line_friendly.proofs.quoted_bytes.put_text.Goals as goal

pub loop-at-preserved : goal.loop-at-preserved
loop-at-preserved c = record {
  within = omega (arith, c.sign_at-sign.ensures.fits, ap length c.behind.ensures, length-drop {A = ℕ});
  put =
      c.loop-at.invariant.put
      ∙ put_step c.loop-at.line c.args.text.now c.loop-at.at c.sign_at-sign.result c.loop-at-test.true (c.sign_at-sign.ensures.value ∙ ap sign_at c.behind.ensures)
      c.sign_at-sign.ensures.some
      ∙ ap (λ line. added line (hex_text (bytes_from 0 (drop (c.loop-at.at + c.sign_at-sign.result.size) c.args.text.now)))) (sym (c.put.ensures ∙ ap (added c.loop-at.line) c.digits_of.ensures));
}
