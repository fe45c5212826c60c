-- The first entry that isn't covered.
use Rattle.std.proofs.Common.{◌≡◌, true, false, is_some, Option, Some, None, refl}
use Rattle.trade_base.specs.declared.refusal.Refusal.{Refusal}
use Rattle.own_model.specs.StartList.{StartEntry}
use Rattle.list_parser.specs.Quota.{first_or}

pub lacking_first : (refusal : Option Refusal) (start : StartEntry) (behind : Option StartEntry) → is_some refusal ≡ true → first_or refusal start behind ≡ Some start
lacking_first (Some r) start behind is = refl
lacking_first None start behind is = cc

pub covered_first : (refusal : Option Refusal) (start : StartEntry) (behind : Option StartEntry) → is_some refusal ≡ false → first_or refusal start behind ≡ behind
covered_first (Some r) start behind is = cc
covered_first None start behind is = refl
