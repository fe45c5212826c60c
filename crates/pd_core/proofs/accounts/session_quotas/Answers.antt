-- A session that is found is its server's, and an own state has its account.
use Rattle.std.proofs.Common.{rules, Some, ap, sym, subst, is_some, ◌∙◌}
use Rattle.std.specs.Option.{option_map}
use Rattle.std.specs.FinMap.{get}
use Rattle.own_model.specs.Session.{Session as AnOpenSession}
use Rattle.pd_core.specs.Component.{rows_of, IsSoundRole}
use Rattle.pd_core.proofs.CoreWorldLemmas.{role_read}
use Rattle.pd_core.proofs.QuotaLemmas.{named_at_place, served_at_place, served_where}
use Rattle.pd_core.proofs.accounts.session_quotas.Goals as goal

pub bounds-components-server : goal.bounds-components-server
bounds-components-server c =
    (served_where c.args.selector c.requires.core c.requires.caller c.index-components-place.is (sym c.session.ensures.named ∙ c.in-Ok.is)).within

pub offset_bounds-components-server : goal.offset_bounds-components-server
offset_bounds-components-server c =
    let served = served_where c.args.selector c.requires.core c.requires.caller c.index-components-place.is (sym c.session.ensures.named ∙ c.in-Ok.is) in
    let within = served.within in search rules

pub session_quotas-requires : goal.session_quotas-requires
session_quotas-requires c =
    let served = served_where c.args.selector c.requires.core c.requires.caller c.index-components-place.is (sym c.session.ensures.named ∙ c.in-Ok.is) in
    let at = c.index-components-server in
    record {
      sound = subst (IsSoundRole c.args.memory.now) (role_read c.args.components.now c.in-Ok.server at.result served.within at.is) (c.requires.core.sound c.in-Ok.server);
      row = ap is_some (ap (λ d. get (rows_of c.args.memory.now d) c.in-Ok.session.0) at.is ∙ served.its at.result);
    }

pub returns-in-Ok : goal.returns-in-Ok
returns-in-Ok c = λ places.
    let named = sym c.session.ensures.named ∙ c.in-Ok.is in
    let at = c.index-components-server in
    let served = served_where c.args.selector c.requires.core c.requires.caller c.index-components-place.is named in
    ap Some (c.session_quotas.ensures served.row (ap (λ d. get (rows_of c.args.memory.now d) c.in-Ok.session.0) at.is ∙ served.its at.result))
    ∙ sym (ap (option_map (λ (s : AnOpenSession). s.account)) (served_at_place places _ _ _ _ c.args.selector _ c.requires.caller c.index-components-place.is named served))

pub returns-in-Err : goal.returns-in-Err
returns-in-Err c = λ places.
    sym (ap (option_map (λ (s : AnOpenSession). s.account)) (named_at_place places _ _ _ _ c.args.selector _ c.requires.caller c.index-components-place.is (sym c.session.ensures.named ∙ c.in-Err.is)))
