-- A piece is passed.
use Rattle.std.proofs.Common.{◌≡◌, ◌+◌, ◌≤◌, ◌∙◌, false, nat_lt, ap, arith, drop, length, sym}
use Rattle.std.proofs.lemmas.Bool.Decides.{nat_tests}
use Rattle.std.proofs.lemmas.List.{length-drop}
use Rattle.line_names.specs.Filling.{piece_at}
use Rattle.line_names.proofs.FillLemmas.{source_step}
use Rattle.line_names.proofs.filling.source_place.Goals as goal

pub loop-at-preserved : goal.loop-at-preserved
loop-at-preserved c =
    let known = c.args.known.now in
    let text = c.args.text.now in
    let at = c.loop-at.at in
    let left = c.loop-at.left in
    let count = c.piece_lengths-length.result.0 in
    let size = c.piece_lengths-length.result.1 in
    let counts : count ≡ length (piece_at known (drop at text)).text =
    c.piece_lengths-length.ensures.length ∙ ap (λ l. length (piece_at known l).text) c.behind.ensures in
    let long : count ≤ left = c.if-left-length.false in
    let past : nat_lt left count ≡ false = grind (arith, nat_tests) in
    let fits : at + size ≤ length text =
    omega (arith, c.piece_lengths-length.ensures.within, ap length c.behind.ensures, length-drop at text, c.loop-at-test.true) in
    record {
      within = fits;
      source =
          c.loop-at.invariant.source
          ∙ source_step known left text at c.loop-at-test.true count size counts
          (c.piece_lengths-length.ensures.size ∙ ap (λ l. (piece_at known l).size) c.behind.ensures)
          (ap (λ k. nat_lt left k) (sym counts) ∙ past) c.piece_lengths-length.ensures.some fits;
    }
