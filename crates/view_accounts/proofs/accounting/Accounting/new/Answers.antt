-- Of a machine that has just booted.
use Rattle.view_accounts.proofs.KeptLemmas.{sees_first}
use Rattle.view_accounts.proofs.accounting.Accounting.new.Goals as goal

pub returns : goal.returns
returns g c = λ listed started. record {
  peaks = sees_first listed started c.in_ok-peaks.ensures.init c.in_ok-peaks.ensures.count c.in_ok-peaks.ensures.components c.in_ok-peaks.ensures.sessions;
  needs = c.in_ok-needs.ensures.meters listed started;
  sessions = c.in_ok-needs.ensures.sessions listed started;
}
