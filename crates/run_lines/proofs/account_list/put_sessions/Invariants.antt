-- The lines of so many components are told, and no write failed yet.
use Rattle.std.proofs.Common.{◌≡◌, false, take}
use Rattle.std.specs.List.{enumerate_from, flat_map}
use Rattle.own_model.specs.AccountList.{session_lines}
use Rattle.own_model.specs.Transcript.{state_at}
use Rattle.run_devices.specs.RunOutput.{Tells}
use Rattle.run_lines.proofs.account_list.put_sessions.Given as goal

abbrev pub invariant-loop-component : goal.invariant-loop-component
invariant-loop-component g l = record {
  told : Tells (g.K.Sink.contents l.fn.sink) l.fn.gathered (g.K.Sink.contents l.sink) l.gathered
      (flat_map (λ e. session_lines e.1.path (state_at l.core.states e.0))
      (take l.component (enumerate_from 0 l.list.entries)));
  works : g.K.Sink.has_failed l.sink ≡ false;
}
