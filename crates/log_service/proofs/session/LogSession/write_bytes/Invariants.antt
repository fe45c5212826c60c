-- So many bytes are written.
use Rattle.std.proofs.Common.{◌-◌, ◌≤◌, length, take}
use Rattle.own_model.specs.LogService.{IsPartial}
use Rattle.log_service.specs.Session.{Writes}
use Rattle.log_service.proofs.session.LogSession.write_bytes.Given as goal

abbrev pub invariant-loop-done : goal.invariant-loop-done
invariant-loop-done l = record {
  partial : IsPartial l.self.partial;
  within : l.done ≤ length l.bytes;
  written : Writes l.fn.self l.fn.reply (take l.done l.bytes) l.self l.reply;
}

abbrev pub decreases-loop-done : goal.decreases-loop-done
decreases-loop-done l = length l.bytes - l.done
