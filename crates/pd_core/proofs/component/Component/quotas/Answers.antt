-- The account of a component is open, and its own state's.
use Rattle.std.proofs.Common.{refl, subst, ◌∙◌}
use Rattle.dataspace_core.proofs.PartLaws.{open_in_part}
use Rattle.pd_core.specs.Component.{IsSoundRole}
use Rattle.pd_core.specs.declared.component.Role.TheVariants.{Script as AScript, Server as AServer, Init as AnInit}
use Rattle.pd_core.proofs.QuotaLemmas.{account_of_known}
use Rattle.pd_core.proofs.component.Component.quotas.Goals as goal

pub quotas_of-requires : goal.quotas_of-requires
quotas_of-requires c = open_in_part _ _ (subst (IsSoundRole c.args.memory.now) c.in-Script.is c.requires).own.paid.is_open

pub quotas_of-requires-in-Server : goal.quotas_of-requires-in-Server
quotas_of-requires-in-Server c = open_in_part _ _ (subst (IsSoundRole c.args.memory.now) c.in-Server.is c.requires).is_open

pub returns-in-Script : goal.returns-in-Script
returns-in-Script c = λ sessions.
    c.quotas_of.ensures ∙ account_of_known sessions c.args.memory.now c.args.self.now.role (AScript c.in-Script.script) c.in-Script.script.account.0 c.in-Script.is refl

pub returns-in-Server : goal.returns-in-Server
returns-in-Server c = λ sessions.
    c.quotas_of-in-Server.ensures ∙ account_of_known sessions c.args.memory.now c.args.self.now.role (AServer c.in-Server.account c.in-Server.field-1) c.in-Server.account.0 c.in-Server.is refl

pub returns-in-Init : goal.returns-in-Init
returns-in-Init c = λ sessions.
    c.quotas_of-in-Init.ensures ∙ account_of_known sessions c.args.memory.now c.args.self.now.role (AnInit c.in-Init.account) c.in-Init.account.0 c.in-Init.is refl
