-- A session is of the kinds that its server offers, and only a server has sessions.
use Rattle.std.proofs.Common.{sym, ◌∙◌}
use Rattle.pd_core.proofs.QuotaLemmas.{row_of_kinds}
use Rattle.pd_core.proofs.ServerLemmas.{server_of_row}
use Rattle.pd_core.proofs.component.Component.kinds.Goals as goal

pub returns-in-Server : goal.returns-in-Server
returns-in-Server c = λ store id row there.
    c.kinds.ensures ∙ sym (row_of_kinds store c.args.self.now.role id row there c.in-Server.field-0 c.in-Server.host c.in-Server.is)

pub returns-in_default : goal.returns-in_default
returns-in_default c = λ store id row there.
    let its = server_of_row store c.args.self.now.role id row there in absurd (c.in_default.not-Server its.0 its.1.0 its.1.1)
