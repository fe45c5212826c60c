-- The lists around it.
use Rattle.std.proofs.Common.{◌∙◌, ◌-◌, ◌||◌, ap, arith, sym}
use Rattle.std.specs.List.{list_any}
use Rattle.own_model.specs.Listed.{init_entry}
use Rattle.list_labels.specs.Asked.{behind, is_known, known_within}
use Rattle.std.proofs.lemmas.Result.{on_ok_weaker}
use Rattle.list_labels.proofs.KnownLemmas.{added_as, added_then, known_here, known_out}
use Rattle.list_labels.proofs.known_labels.+add_within.Goals as goal

pub returns-in-Some : goal.returns-in-Some
returns-in-Some t c =
    let list = c.args.wishes.list.now in
    let service = c.args.wishes.service.now in
    let before = c.args.before.now in
    let outer = c.as_slice.result.now in
    let rules = c.rules_of.result.now in
    on_ok_weaker c.add_within.result
    (λ added. added_then (λ label. list_any (is_known service before label) rules)
    (known_within (c.args.lists - 1) list c.in-Some.init.now service outer)
    (known_within c.args.lists list c.args.entry.now service before)
    c.args.known.now.items c.add_by.new.known.items c.add_within.new.known.items c.in_ok-add_by.ensures added
    (λ label filled. known_out c.args.lists (c.args.lists - 1) list c.args.entry.now c.in-Some.init.now service before outer label (omega arith)
    (sym (c.in-Some.ensures ∙ ap (λ n. init_entry list n) c.home.ensures))
    (c.as_slice.ensures.value ∙ (c.behind-outer.ensures ∙ ap (λ n. behind n before) c.name.ensures.name))
    ∙ ap (λ r. list_any (is_known service before label) r
    || known_within (c.args.lists - 1) list c.in-Some.init.now service outer label) (sym c.rules_of.ensures)))
    c.add_within.ensures

pub returns-in-None : goal.returns-in-None
returns-in-None t c =
    let list = c.args.wishes.list.now in
    let service = c.args.wishes.service.now in
    let before = c.args.before.now in
    added_as (λ label. list_any (is_known service before label) c.rules_of.result.now)
    (known_within c.args.lists list c.args.entry.now service before)
    c.args.known.now.items c.add_by.new.known.items c.in_ok-add_by.ensures
    (λ label filled. known_here c.args.lists list c.args.entry.now service before label (omega arith)
    (sym (c.in-None.ensures ∙ ap (λ n. init_entry list n) c.home.ensures))
    ∙ ap (λ r. list_any (is_known service before label) r) (sym c.rules_of.ensures))
