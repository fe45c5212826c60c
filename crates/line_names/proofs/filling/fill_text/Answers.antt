-- A piece more is filled.
use Rattle.std.proofs.Common.{◌≡◌, ◌+◌, ◌≤◌, ◌∙◌, ap, arith, drop, length}
use Rattle.std.proofs.lemmas.List.{length-drop}
use Rattle.line_names.specs.Filling.{piece_at, step_of}
use Rattle.line_names.specs.Views.{made_view, zone_view}
use Rattle.line_names.proofs.FillLemmas.{filled_step}
use Rattle.line_names.proofs.filling.fill_text.Goals as goal

pub loop-at-preserved : goal.loop-at-preserved
loop-at-preserved c =
    let known = c.args.known.now in
    let text = c.args.text.now in
    let at = c.loop-at.at in
    let place = c.args.place in
    let made = made_view c.loop-at.room c.loop-at.holes.items in
    let fits : at + c.in-Ok.size ≤ length text =
    omega (arith, c.in-Ok.ensures.within, ap length c.behind-rest.ensures, length-drop at text, c.loop-at-test.true) in
    record {
      within = fits;
      filled =
          c.loop-at.invariant.filled
          ∙ filled_step known (zone_view c.args.zone) place made text at c.loop-at-test.true (made_view c.put_next.new.room c.put_next.new.holes.items) c.in-Ok.size
          (c.in-Ok.ensures.value ∙ ap (step_of known (zone_view c.args.zone) (place + at) made) c.behind-rest.ensures)
          (c.in-Ok.ensures.size ∙ ap (λ l. (piece_at known l).size) c.behind-rest.ensures) c.in-Ok.ensures.some fits;
    }
