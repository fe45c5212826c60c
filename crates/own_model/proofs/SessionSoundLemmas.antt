-- What servers keep for sessions, before and after calls.
use Rattle.own_model.proofs.ServiceLemmas.{Keeps, kept_after, kept_at_first}
use Rattle.own_model.proofs.SessionLemmas.{effects_each, reserve_each, sessions_each, gone_each}
use Rattle.own_model.proofs.StepTableLemmas.{run_keeps}
use Rattle.own_model.specs.OwnState.{EachSession}
use Rattle.own_model.specs.SessionTheorems.{RunKeepsKept}

-- what is kept for a session is as it should be after calls
pub run_kept : RunKeepsKept
run_kept =
    run_keeps (EachSession Keeps) (effects_each Keeps) (reserve_each Keeps)
    (sessions_each Keeps (λ wish enough. kept_at_first wish.server.kind) (λ x ram caps h. h) (λ x buffer request h. kept_after x.state buffer x request h)) (gone_each Keeps)
