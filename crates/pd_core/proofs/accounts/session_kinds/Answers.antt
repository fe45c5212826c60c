-- A session that is found is its server's.
use Rattle.std.proofs.Common.{rules, ap, sym, ◌∙◌}
use Rattle.std.specs.Prelude.{List, Option}
use Rattle.std.specs.Option.{option_and_then}
use Rattle.std.specs.FinMap.{get}
use Rattle.own_model.specs.ObjectKinds.{ObjectKind}
use Rattle.own_model.specs.Session.{Session as AnOpenSession, offer_of}
use Rattle.object_kinds.specs.Offered.{offered_kinds}
use Rattle.pd_core.specs.Component.{rows_of}
use Rattle.pd_core.proofs.QuotaLemmas.{named_at_place, served_at_place, served_where}
use Rattle.pd_core.proofs.accounts.session_kinds.Goals as goal

pub bounds-components-server : goal.bounds-components-server
bounds-components-server c =
    (served_where c.args.selector c.requires.core c.requires.caller c.index-components-place.is (sym c.session.ensures.named ∙ c.in-Ok.is)).within

pub offset_bounds-components-server : goal.offset_bounds-components-server
offset_bounds-components-server c =
    let served = served_where c.args.selector c.requires.core c.requires.caller c.index-components-place.is (sym c.session.ensures.named ∙ c.in-Ok.is) in
    let within = served.within in search rules

-- the kinds of a session's server
abbrev kinds_of : AnOpenSession → Option (List ObjectKind)
kinds_of s = offered_kinds (offer_of s.state)

pub returns-in-Ok : goal.returns-in-Ok
returns-in-Ok c = λ places.
    let named = sym c.session.ensures.named ∙ c.in-Ok.is in
    let at = c.index-components-server in
    let served = served_where c.args.selector c.requires.core c.requires.caller c.index-components-place.is named in
    c.kinds.ensures c.args.memory.now c.in-Ok.session.0 served.row (ap (λ d. get (rows_of c.args.memory.now d) c.in-Ok.session.0) at.is ∙ served.its at.result)
    ∙ sym (ap (option_and_then kinds_of) (served_at_place places _ _ _ _ c.args.selector _ c.requires.caller c.index-components-place.is named served))

pub returns-in-Err : goal.returns-in-Err
returns-in-Err c = λ places.
    sym (ap (option_and_then kinds_of) (named_at_place places _ _ _ _ c.args.selector _ c.requires.caller c.index-components-place.is (sym c.session.ensures.named ∙ c.in-Err.is)))
