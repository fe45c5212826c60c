-- The lines of so many components are told, and no write failed yet.
use Rattle.std.proofs.Common.{◌≡◌, false, take}
use Rattle.std.specs.List.{enumerate_from, flat_map}
use Rattle.own_model.specs.AccountList.{component_lines}
use Rattle.own_model.specs.Transcript.{state_at}
use Rattle.own_model.specs.World.{account_at}
use Rattle.run_devices.specs.RunOutput.{Tells}
use Rattle.run_lines.proofs.account_list.put_components.Given as goal

abbrev pub invariant-loop-component : goal.invariant-loop-component
invariant-loop-component g l = record {
  told : Tells (g.K.Sink.contents l.fn.sink) l.fn.gathered (g.K.Sink.contents l.sink) l.gathered
      (flat_map (λ e. component_lines e.1 (account_at l.core e.0) (state_at l.core.states e.0).reserve)
      (take l.component (enumerate_from 0 l.list.entries)));
  works : g.K.Sink.has_failed l.sink ≡ false;
}
