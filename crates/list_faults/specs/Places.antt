-- Why a text is no start list, or doesn't boot, and the place of the fault.
use Rattle.std.specs.Prelude.{◌≡◌, List, ℕ, codes, Option, Some, None, Result, Ok, Err}
use Rattle.std.specs.Option.{option_and_then}
use Rattle.std.specs.Result.{result_err, result_ok}
use Rattle.serde_json.specs.Data.{Data}
use Rattle.list_parser.specs.FaultPlace as parser
use Rattle.list_parser.specs.Quota.{quota_fault}
use Rattle.list_parser.specs.StartText.{list_in, list_of, placed_list}
use Rattle.list_parser.specs.declared.fault.BootFault.{BootFault}
use Rattle.list_parser.specs.declared.fault.BootFault.TheVariants.{BadJson, BadConfig, QuotaExceeded, NoMemory}
use Rattle.list_parser.specs.declared.fault.ConfigField.TheVariants as field
use Rattle.list_parser.specs.declared.list_fault.ListMember.{ListMember}
use Rattle.list_parser.specs.declared.list_fault.ListMember.TheVariants as member
use Rattle.own_model.specs.Listed.{Listed}
use Rattle.list_parts.specs.Left.{first_shortfall}
use Rattle.list_parts.specs.declared.start_quota.EntryShortfall.{EntryShortfall}
use Rattle.list_faults.specs.declared.list_fault.FaultSite.{FaultSite}
use Rattle.list_faults.specs.declared.list_fault.FaultSite.TheVariants as site

-- the name of a member
abbrev pub member_name : ListMember → List ℕ
member_name (member.Field of) = parser.member_of of
member_name member.Service = codes "service"
member_name member.AnyService = codes "any-service"
member_name member.Label = codes "label"
member_name member.LabelPrefix = codes "label_prefix"
member_name member.LabelSuffix = codes "label_suffix"
member_name member.Child = codes "child"
member_name member.AnyChild = codes "any-child"
member_name member.Parent = codes "parent"
member_name member.Kind = codes "kind"
member_name member.Block = codes "block"
member_name member.Bytes = codes "bytes"

abbrev pub fault_in : Result Listed BootFault → Option BootFault
fault_in (Ok list) = quota_fault list
fault_in (Err fault) = Some fault

abbrev pub fault_of : List ℕ → Option BootFault
fault_of text = fault_in (list_in text)

-- the first entry of a list that isn't covered, if it is read and there is one
abbrev pub lack_in : Data → Option EntryShortfall
lack_in list = option_and_then first_shortfall (result_ok (list_of list))

-- a fault of a value has the place that the reader reports
abbrev pub IsPlaced : Option Data → BootFault → FaultSite → Type 0
IsPlaced list fault (site.Text line column flaw) = fault ≡ BadJson
IsPlaced list fault (site.Value flaw) = option_and_then (λ d. result_err (placed_list d)) list ≡ Some (record { fault = fault; place = flaw.place })
IsPlaced list fault (site.Budget lack) = (fault ≡ QuotaExceeded lack.path) × (option_and_then lack_in list ≡ Some lack)
IsPlaced list fault (site.Size size) = fault ≡ BadConfig field.Size
IsPlaced list fault site.Nowhere = fault ≡ NoMemory
