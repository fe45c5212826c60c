-- What the meter of a place tells, and one that has heard nobody past the last.
use Rattle.std.proofs.Common.{ap, sym, ◌∙◌, arith}
use Rattle.std.proofs.lemmas.List.{get_or_past, get_or_read}
use Rattle.view_accounts.specs.Meters.{metered, needed_of, no_meter}
use Rattle.view_accounts.proofs.needs.Needs.script.Goals as goal

pub returns-in-Some : goal.returns-in-Some
returns-in-Some c =
    c.by.ensures
    ∙ ap metered (get_or_read c.deref.result.now c.args.place c.in-Some.meter.now c.in-Some.ensures.lookup.3.0 c.in-Some.ensures.lookup.1 no_meter)
    ∙ ap (λ meters. needed_of meters c.args.place) c.deref.ensures.value

pub returns-in-None : goal.returns-in-None
returns-in-None c =
    c.of.ensures ∙ ap metered (sym (get_or_past c.deref.result.now c.args.place no_meter (omega (arith, c.in-None.ensures.lookup))))
    ∙ ap (λ meters. needed_of meters c.args.place) c.deref.ensures.value
