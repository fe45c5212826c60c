-- The names of refusals.
use Rattle.std.specs.Prelude.{ℕ, List, codes}
use Rattle.trade_base.specs.declared.refusal.Refusal.{Refusal}
use Rattle.trade_base.specs.declared.refusal.Refusal.TheVariants.{BadLine, UnknownComponent, NotAScript, Gone, BadArgs, InvalidSize, InvalidCap, OutOfRam, OutOfCaps, RegionConflict, TooManyRegions, PageFault, TooManyChunks, ServiceDenied, InsufficientRamQuota, InsufficientCapQuota, InvalidSession}

-- the name of a refusal, as replies write it
abbrev pub refusal_name : Refusal → List ℕ
refusal_name BadLine = codes "Bad_line"
refusal_name UnknownComponent = codes "Unknown_component"
refusal_name NotAScript = codes "Not_a_script"
refusal_name Gone = codes "Gone"
refusal_name BadArgs = codes "Bad_args"
refusal_name InvalidSize = codes "Invalid_size"
refusal_name InvalidCap = codes "Invalid_cap"
refusal_name OutOfRam = codes "Out_of_ram"
refusal_name OutOfCaps = codes "Out_of_caps"
refusal_name RegionConflict = codes "Region_conflict"
refusal_name TooManyRegions = codes "Too_many_regions"
refusal_name PageFault = codes "Page_fault"
refusal_name TooManyChunks = codes "Too_many_chunks"
refusal_name ServiceDenied = codes "Service_denied"
refusal_name InsufficientRamQuota = codes "Insufficient_ram_quota"
refusal_name InsufficientCapQuota = codes "Insufficient_cap_quota"
refusal_name InvalidSession = codes "Invalid_session"
