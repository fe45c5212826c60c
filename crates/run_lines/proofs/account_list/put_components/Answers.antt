-- One component more is told, or a write fails in its lines.
use Rattle.std.proofs.Common.{ℕ, List, arith, subst}
use Rattle.own_model.specs.AccountList.{component_lines}
use Rattle.own_model.specs.Listed.{ListedEntry}
use Rattle.own_model.specs.Transcript.{state_at}
use Rattle.own_model.specs.World.{World, account_at}
use Rattle.run_lines.specs.Accounts.{unlisted}
use Rattle.run_devices.specs.RunOutput.{Tells}
use Rattle.run_lines.proofs.AccountLemmas.{component_more, component_cut, component_all, entries_listed, told_on, told_cut}
use Rattle.run_devices.proofs.GatheredLemmas.{told_err}
use Rattle.run_lines.proofs.account_list.put_components.Goals as goal

abbrev line : World → ℕ × ListedEntry → List ℕ
line world e = component_lines e.1 (account_at world e.0) (state_at world.states e.0).reserve

pub loop-component-preserved : goal.loop-component-preserved
loop-component-preserved g c = record {
  told = told_on (component_more unlisted (line c.args.core.now) c.args.list.now.entries c.loop-component.component (omega (arith, c.count-component-end.ensures.entries, entries_listed c.args.list.now c.args.core.now c.requires.listed)))
      c.loop-component.invariant.told c.in_ok-put_component.ensures.told;
  works = c.in_ok-put_component.ensures.failing;
}

pub returns-in_err-put_component-clause-told : goal.returns-in_err-put_component-clause-told
returns-in_err-put_component-clause-told g c =
    told_err _ _ _ c.from_residual.ensures.1
    (told_cut _ (component_cut unlisted (line c.args.core.now) c.args.list.now.entries c.loop-component.component (omega (arith, c.count-component-end.ensures.entries, entries_listed c.args.list.now c.args.core.now c.requires.listed)))
    c.loop-component.invariant.told (c.in_err-put_component.ensures.told.1))

pub returns-clause-told : goal.returns-clause-told
returns-clause-told g c =
    subst (λ text. Tells (g.K.Sink.contents c.args.sink.now) c.args.gathered.now (g.K.Sink.contents c.loop-component.sink) c.loop-component.gathered text)
    (component_all unlisted (line c.args.core.now) c.args.list.now.entries c.loop-component.component (omega (arith, c.count-component-end.ensures.entries, entries_listed c.args.list.now c.args.core.now c.requires.listed)))
    c.loop-component.invariant.told
