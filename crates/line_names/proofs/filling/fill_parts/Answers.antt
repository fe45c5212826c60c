-- A call is filled, and what is expected behind it.
use Rattle.std.proofs.Common.{◌+◌, ◌∙◌, ap, Some, []}
use Rattle.line_names.specs.Filling.{filled_from, no_zone}
use Rattle.line_names.specs.Views.{made_view}
use Rattle.line_names.proofs.PartLemmas.{parts_made}
use Rattle.line_names.proofs.filling.fill_parts.Goals as goal

pub returns : goal.returns
returns c =
    let known = c.args.known.now in
    let front = c.split_at.result.0.now in
    parts_made known c.args.count c.args.body.now front c.split_at.result.1.now (made_view c.fill_text.new.room c.fill_text.new.holes.items)
    (made_view c.fill_text-2.new.room c.fill_text-2.new.holes.items) c.made_length-start.result (c.args.count + c.quote_place.result) c.text_of-line.result.now c.behind.result.now
    c.split_at.ensures.front c.split_at.ensures.back
    (c.in_ok-fill_text.ensures ∙ ap (λ l. filled_from known no_zone 0 0 (made_view l c.new-holes.result.items) front) c.clear.ensures
    ∙ ap (λ h. filled_from known no_zone 0 0 (made_view (Some []) h) front) c.new-holes.ensures)
    c.made_length-start.ensures (ap (λ n. c.args.count + n) c.quote_place.ensures.value) c.in_ok-fill_text-2.ensures c.text_of-line.ensures c.behind.ensures
