-- A sign is passed, and the first fault is behind it.
use Rattle.std.proofs.Common.{◌∙◌, ap, arith, length, sym, ℕ}
use Rattle.std.proofs.lemmas.List.{length-drop}
use Rattle.line_friendly.specs.QuotedBytes.{sign_of}
use Rattle.line_friendly.proofs.SignLemmas.{fault_step}
use Rattle.line_friendly.proofs.quoted_bytes.fault_of.Goals as goal

pub loop-at-preserved : goal.loop-at-preserved
loop-at-preserved c = record {
  within = omega (arith, c.in-Some.ensures.fits, ap length c.behind.ensures, length-drop {A = ℕ});
  place =
      c.loop-at.invariant.place
      ∙ fault_step c.args.text.now c.loop-at.at c.in-Some.sign c.loop-at-test.true (ap sign_of (sym c.behind.ensures) ∙ sym c.in-Some.ensures.value) c.in-Some.ensures.some;
}
