-- A session's account is open, and is its row's.
use Rattle.std.proofs.Common.{ap, sym, subst, is_some, ◌∙◌}
use Rattle.std.specs.FinMap.{get}
use Rattle.own_model.proofs.NatMapLemmas.{some_of}
use Rattle.dataspace_core.specs.Store.{IsOpenIn, account_in}
use Rattle.server_kinds.proofs.HostLaws.{has_session, row_paid}
use Rattle.pd_core.specs.Component.{rows_in, IsSoundRole}
use Rattle.pd_core.proofs.ServerLemmas.{server_of_row}
use Rattle.pd_core.proofs.component.Component.session_quotas.Goals as goal

pub unreachable-requires : goal.unreachable-requires
unreachable-requires c =
    let memory = c.args.memory.now in
    let known = some_of (get (rows_in memory c.args.self.now.role) c.args.id.0) c.requires.row in
    let its = server_of_row memory c.args.self.now.role c.args.id.0 known.0 known.1 in
    c.in_default.not-Server its.0 its.1.0 its.1.1

pub account-requires : goal.account-requires
account-requires c =
    has_session c.args.memory.now c.in-Server.host c.args.id.0 (ap (λ r. is_some (get (rows_in c.args.memory.now r) c.args.id.0)) (sym c.in-Server.is) ∙ c.requires.row)

pub quotas_of-requires : goal.quotas_of-requires
quotas_of-requires c =
    let memory = c.args.memory.now in
    let known = some_of (get (rows_in memory c.args.self.now.role) c.args.id.0) c.requires.row in
    let there = ap (λ r. get (rows_in memory r) c.args.id.0) (sym c.in-Server.is) ∙ known.1 in
    let works = (subst (IsSoundRole memory) c.in-Server.is c.requires.sound).works in
    subst (IsOpenIn memory) (sym (c.account.ensures memory known.0 there)) (row_paid memory c.in-Server.host works c.args.id.0 known.0 there).opens

pub returns : goal.returns
returns c = λ row known.
    let memory = c.args.memory.now in
    let there = ap (λ r. get (rows_in memory r) c.args.id.0) (sym c.in-Server.is) ∙ known in
    let works = (subst (IsSoundRole memory) c.in-Server.is c.requires.sound).works in
    c.quotas_of.ensures ∙ ap (account_in memory) (c.account.ensures memory row there) ∙ (row_paid memory c.in-Server.host works c.args.id.0 row there).account
