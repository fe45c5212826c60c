-- A refused exit changes nothing; else all sessions are closed, and then the script ends.
use Rattle.std.proofs.Common.{subst}
use Rattle.pd_core.specs.Component.{IsSoundRole}
use Rattle.pd_core.proofs.ExitCallLemmas.{alone_after, exit_goes, exit_refused_goes}
use Rattle.pd_core.proofs.ExitLemmas.{alone_child, alone_leaf, alone_unlent, alone_reserve}
use Rattle.pd_core.proofs.SessionRefusedLemmas.{passed_on}
use Rattle.pd_core.proofs.CoreWorldLemmas.{role_at}
use Rattle.pd_core.proofs.exit.exit.Goals as goal

pub returns-in_err-places : goal.returns-in_err-places
returns-in_err-places c = λ places at_home.
    let refusal = c.in_err-places.field-0.0 in
    passed_on refusal c.from_residual.result c.from_residual.ensures.1
    (exit_refused_goes places c.args.components.now c.index-components-caller.result c.requires.core c.requires.caller refusal c.in_err-places.ensures.told)

pub leave-requires : goal.leave-requires
leave-requires c =
    let places = c.in_ok-places.ensures in
    let closes = c.close_all.ensures in
    let e = c.index-components-caller-2.result in
    let alone = alone_after c.index-components-caller.result e c.requires.core c.requires.caller places.told places.within closes in
    record {
      sound = subst (IsSoundRole c.close_all.new.memory) (role_at c.close_all.new.components c.args.caller e alone.here) (closes.core.sound c.args.caller);
      script = alone.is_script;
      none = alone.none;
      unlent = alone_unlent alone;
      child = alone_child alone;
      leaf = alone_leaf alone;
      reserve = alone_reserve alone;
    }

pub returns : goal.returns
returns c =
    let places = c.in_ok-places.ensures in
    let ended = c.leave.ensures in
    exit_goes c.index-components-caller.result c.index-components-caller-2.result c.requires.core c.requires.caller places.told places.within c.close_all.ensures ended.gone ended.closes ended.machine ended.caps
