use Rattle.std.proofs.Common.{◌-◌, [], ◌++◌, ◌∷◌, refl, sym, ap, ◌∙◌, arith}
use Rattle.std.proofs.lemmas.Option.{slice_get_read}
use Rattle.list_parts.specs.Steps.{step_to, steps_within}
use Rattle.list_parts.proofs.NestLemmas.{steps_of_init, steps_of_machine, steps_then}
use Rattle.list_parts.proofs.list_part.+steps_within.Goals as goal

pub returns-then-home-eq0 : goal.returns-then-home-eq0
returns-then-home-eq0 n c =
    let entries = c.args.entries.now in
    let number = c.args.number in
    let entry = c.in-Some.entry.now in
    let is = slice_get_read entries _ number entry refl c.in-Some.ensures.lookup.3.0 c.in-Some.ensures.lookup.1 in
    steps_then entries number entry c.home.result c.place_in.result c.to_name.result c.none-steps.result c.push.new.self
    c.home.ensures c.place_in.ensures c.to_name.ensures c.in_ok-push.ensures
    ∙ ap (λ above. above ++ step_to entries number entry ∷ []) c.none-steps.ensures
    ∙ steps_of_machine c.args.lists entries number entry (omega arith) is (sym c.home-2.ensures ∙ c.if-home-eq0.true)

pub returns : goal.returns
returns n c =
    let entries = c.args.entries.now in
    let number = c.args.number in
    let entry = c.in-Some.entry.now in
    let is = slice_get_read entries _ number entry refl c.in-Some.ensures.lookup.3.0 c.in-Some.ensures.lookup.1 in
    steps_then entries number entry c.home.result c.place_in.result c.to_name.result c.in_ok-steps.steps c.push-2.new.self
    c.home.ensures c.place_in.ensures c.to_name.ensures c.in_ok-push-2.ensures
    ∙ ap (λ above. above ++ step_to entries number entry ∷ [])
    (c.in_ok-steps.ensures ∙ ap (λ home. steps_within (c.args.lists - 1) entries (home - 1)) c.home-3.ensures)
    ∙ steps_of_init c.args.lists entries number entry (omega arith) is (omega (arith, c.home-2.ensures))
