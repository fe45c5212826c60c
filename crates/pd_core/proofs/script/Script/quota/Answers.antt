-- The account is open.
use Rattle.dataspace_core.proofs.PartLaws.{open_in_part}
use Rattle.pd_core.proofs.script.Script.quota.Goals as goal

pub quotas_of-requires : goal.quotas_of-requires
quotas_of-requires c = open_in_part _ _ c.requires.own.paid.is_open
