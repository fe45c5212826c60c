-- Use, limits and reserves as the model sees them.
use Rattle.own_model.specs.Account.{Account}
use Rattle.own_model.specs.Amounts.{Amounts}
use Rattle.core_calls.specs.declared.quotas.Quotas.{Quotas}
use Rattle.core_calls.specs.declared.reserve.Reserve.{Reserve}

-- the account that has these quotas
abbrev pub quotas_account : Quotas → Account
quotas_account quotas = record {
  ram_limit = quotas.ram_limit.0;
  ram_used = quotas.ram_used.0;
  caps_limit = quotas.caps_limit.0;
  caps_used = quotas.caps_used.0;
}

-- the amounts of a reserve
abbrev pub reserve_amounts : Reserve → Amounts
reserve_amounts reserve = record { ram = reserve.ram.0; caps = reserve.caps.0 }
