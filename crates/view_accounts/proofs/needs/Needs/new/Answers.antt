-- One meter more is that of the next component.
use Rattle.std.proofs.Common.{ap, subst, arith, length, length-append, ◌∷◌, []}
use Rattle.view_accounts.specs.Meters.{IsFresh}
use Rattle.view_accounts.proofs.NeedLemmas.{fresh_more, sees_begun}
use Rattle.view_accounts.proofs.SessionRunLemmas.{sees_no_sessions}
use Rattle.view_accounts.proofs.needs.Needs.new.Goals as goal

pub loop-component-preserved : goal.loop-component-preserved
loop-component-preserved g c = record {
  count = omega (arith, c.loop-component.invariant.count, ap length c.in_ok-push.ensures.items, length-append c.loop-component.meters.items (c.meter_of.result ∷ []));
  fresh = fresh_more c.args.core.now c.loop-component.meters.items c.loop-component.component c.meter_of.result c.loop-component.invariant.count c.in_ok-push.ensures.items
      c.loop-component.invariant.fresh (subst (λ account. IsFresh account c.meter_of.result) c.account.ensures.value c.meter_of.ensures);
}

pub returns-clause-meters : goal.returns-clause-meters
returns-clause-meters g c = λ listed begins.
    sees_begun listed begins (omega (arith, c.loop-component.invariant.count, c.loop-component-test.false, c.loop-component.auto.component-end, c.count-component-end.ensures.entries))
    (λ place within. c.loop-component.invariant.fresh place (omega (arith, within, c.loop-component-test.false, c.loop-component.auto.component-end, c.count-component-end.ensures.entries)))

pub returns-clause-sessions : goal.returns-clause-sessions
returns-clause-sessions g c = λ listed begins. sees_no_sessions listed c.args.core.now _ c.new.ensures.opened c.new.ensures.closed
