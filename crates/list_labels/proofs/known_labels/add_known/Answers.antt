-- Of the client's own entry.
use Rattle.own_model.specs.Listed.{most_lists}
use Rattle.std.proofs.Common.{[], ◌∙◌, ap, length, refl, sym}
use Rattle.std.proofs.lemmas.Option.{slice_get_past, slice_get_read}
use Rattle.std.specs.List.{slice_get}
use Rattle.list_labels.specs.Asked.{known, known_within}
use Rattle.std.proofs.lemmas.Result.{on_ok_weaker}
use Rattle.list_labels.proofs.KnownLemmas.{added_as, added_none, known_nowhere, known_of_entry}
use Rattle.list_labels.proofs.known_labels.add_known.Goals as goal

pub returns-in-Some : goal.returns-in-Some
returns-in-Some c =
    let list = c.args.wishes.list.now in
    let client = c.args.wishes.client in
    let service = c.args.wishes.service.now in
    let entries = c.entries.result.now in
    on_ok_weaker c.add_within.result
    (λ added. added_as (known_within most_lists list c.in-Some.entry.now service []) (known list client service)
    c.args.labels.now.items c.add_within.new.known.items added
    (λ label filled. known_of_entry list client c.in-Some.entry.now service label
    (sym (slice_get_read entries (length entries) client c.in-Some.entry.now refl c.in-Some.ensures.lookup.3.0 c.in-Some.ensures.lookup.1)
    ∙ ap (λ es. slice_get es client) c.entries.ensures)))
    c.add_within.ensures

pub returns-in-None : goal.returns-in-None
returns-in-None c =
    added_none (known c.args.wishes.list.now c.args.wishes.client c.args.wishes.service.now) c.args.labels.now.items
    (λ label filled. known_nowhere c.args.wishes.list.now c.args.wishes.client c.args.wishes.service.now label
    (sym (slice_get_past c.entries.result.now c.args.wishes.client c.in-None.ensures.lookup.3)
    ∙ ap (λ es. slice_get es c.args.wishes.client) c.entries.ensures))
