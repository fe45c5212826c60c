-- The session's account is given limits, and the others stay.
use Rattle.std.proofs.Common.{ap, subst, ◌∙◌}
use Rattle.std.specs.Prelude.{OnOk}
use Rattle.own_model.specs.Account.{shortage}
use Rattle.dataspace_core.specs.Store.{account_in, RaisesPart}
use Rattle.server_frame.specs.Frame.{Row}
use Rattle.server_frame.proofs.ServerLemmas.{row_there, server_upgrades, rows_upgrade}
use Rattle.server_frame.proofs.server.Server.upgrade.Goals as goal

pub raise-requires : goal.raise-requires
raise-requires g c = (c.requires.server.each c.args.id.0 c.index-session.result.now c.index-session.ensures).child

pub returns-clause-refusal : goal.returns-clause-refusal
returns-clause-refusal g c = λ row is.
    c.raise.ensures.refusal
    ∙ ap (λ (r : Row g.S.Service.Value). shortage (account_in c.args.memory.now r.client) c.args.ram.0 c.args.caps.0) (row_there g.S.Service.IsKept (g.S.Service.value c.args.self.now.service) g.S.Service.buffer c.args.self.now.sessions c.args.memory.now c.args.self.now.map c.requires.server c.args.id.0 c.index-session.result.now c.index-session.ensures row is)

pub returns-clause-server : goal.returns-clause-server
returns-clause-server g c =
    server_upgrades g.S.Service.IsKept (g.S.Service.value c.args.self.now.service) g.S.Service.buffer c.args.self.now.sessions c.args.memory.now c.args.self.now.map c.requires.server c.args.id.0 c.index-session.result.now c.index-session.ensures
    c.args.ram.0 c.args.caps.0 c.raise.new.self c.raise.ensures.ram_moved c.raise.result c.raise.ensures.ok c.raise.ensures.part c.raise.ensures.err

pub returns-clause-raises : goal.returns-clause-raises
returns-clause-raises g c = λ row is.
    subst (λ (r : Row g.S.Service.Value). OnOk c.raise.result (RaisesPart r.client r.key c.args.ram.0 c.args.caps.0 c.args.memory.now c.raise.new.self)) (row_there g.S.Service.IsKept (g.S.Service.value c.args.self.now.service) g.S.Service.buffer c.args.self.now.sessions c.args.memory.now c.args.self.now.map c.requires.server c.args.id.0 c.index-session.result.now c.index-session.ensures row is) c.raise.ensures.part

pub returns-clause-sessions : goal.returns-clause-sessions
returns-clause-sessions g c = λ row is.
    rows_upgrade g.S.Service.IsKept (g.S.Service.value c.args.self.now.service) g.S.Service.buffer c.args.self.now.sessions c.args.memory.now c.args.self.now.map c.requires.server c.args.id.0 c.index-session.result.now c.index-session.ensures
    c.args.ram.0 c.args.caps.0 c.raise.new.self c.raise.ensures.ram_moved c.raise.result row (row_there g.S.Service.IsKept (g.S.Service.value c.args.self.now.service) g.S.Service.buffer c.args.self.now.sessions c.args.memory.now c.args.self.now.map c.requires.server c.args.id.0 c.index-session.result.now c.index-session.ensures row is) c.raise.ensures.ok c.raise.ensures.part
