-- So many bytes are written.
use Rattle.std.proofs.Common.{◌-◌, ◌≤◌, length, take}
use Rattle.own_model.specs.LogService.{IsPartial}
use Rattle.own_model.specs.Text.{hex_bytes}
use Rattle.log_service.specs.Session.{Writes}
use Rattle.log_service.proofs.session.LogSession.write.Given as goal

abbrev pub invariant-loop-done : goal.invariant-loop-done
invariant-loop-done l = record {
  partial : IsPartial l.self.partial;
  within : l.done ≤ l.count;
  written : Writes l.fn.self l.fn.reply (take l.done (hex_bytes l.hex)) l.self l.reply;
}

abbrev pub decreases-loop-done : goal.decreases-loop-done
decreases-loop-done l = l.count - l.done
