-- The exit status of the commands on one start list.
use Rattle.std.specs.Prelude.{◌≡◌, ◌⊎◌, ℕ, ◌&&◌, ◌++◌, Bool, true, false, List, length, nat_lt, is_err, is_some, if◌then◌else◌, Option, Some, None, Result, Ok}
use Rattle.std.specs.Borrow.{Bor}
use Rattle.std.specs.Option.{option_map}
use Rattle.own_model.specs.Listed.{Listed}
use Rattle.list_faults.specs.Places.{fault_of}
use Rattle.list_parser.specs.Quota.{quota_fault}
use Rattle.list_parser.specs.StartText.{json_in, list_in}
use Rattle.list_findings.specs.AllFindings.{all_findings}
use Rattle.list_reach.specs.Paths.{PathFault, joined, numbers_of_all, fault_of as unnamed_fault}
use Rattle.list_reach.specs.RouteQuery.{Answers, IsWhy}
use Rattle.list_reach.specs.declared.component_numbers.ComponentKind.TheVariants.{Script as Scripts, Server as Servers}
use Rattle.list_reach.specs.declared.component_numbers.Unnamed.{Unnamed}
use Rattle.list_reach.specs.declared.route_path.RoutePath.{RoutePath}
use Rattle.list_reach.specs.declared.route_path.RoutePathFault.{RoutePathFault}
use Rattle.list_reach.specs.declared.route_path.RoutePathFault.TheVariants.{Nobody, BadArgs, NoMemory}
use Rattle.list_review.specs.declared.review.Review.{Review}
use Rattle.cli_options.specs.declared.command_options.CheckOptions.{CheckOptions}
use Rattle.cli_options.specs.declared.command_options.ReachOptions.{ReachOptions}
use Rattle.cli_options.specs.declared.command_options.RouteOptions.{RouteOptions}
use Rattle.cli_options.specs.declared.command_options.TreeOptions.{TreeOptions}
use Rattle.cli_base.specs.Files.{HasNoBoot}
use Rattle.cli_base.specs.MachineTexts.{IsFilled}
use Rattle.cli_base.specs.PolicyVerdict.{IsVerdictAt, verdict_status}
use Rattle.cli_base.specs.Statuses.{EndsAs, IsZero}
use Rattle.cli_base.specs.declared.policy_verdict.PolicyVerdict.{PolicyVerdict}
use Rattle.cli_base.specs.declared.settings.Settings.{Settings}

-- a list that boots was read from this text
abbrev pub IsListOf : List ℕ → Listed → Type 0
IsListOf text list = (list_in text ≡ Ok list) × (quota_fault list ≡ None)

-- and all its findings
abbrev pub IsReviewOf : List ℕ → Review → Type 0
IsReviewOf text review =
    (list_in text ≡ Ok review.list) × (quota_fault review.list ≡ None)
    × (Some review.findings.items ≡ option_map (λ value. all_findings text value review.list) (json_in text))

-- what is read of a text is that of the file at a path
abbrev pub IsAt : (X : Type 0) → (List ℕ → Option (List ℕ)) → Settings → List ℕ → (List ℕ → X → Type 0) → X → Type 0
IsAt X texts settings path Is x = (text : List ℕ) × IsFilled texts settings path text × Is text x

abbrev pub IsListAt : (List ℕ → Option (List ℕ)) → Settings → List ℕ → Listed → Type 0
IsListAt texts settings path list = IsAt Listed texts settings path IsListOf list

abbrev pub IsReviewAt : (List ℕ → Option (List ℕ)) → Settings → List ℕ → Review → Type 0
IsReviewAt texts settings path review = IsAt Review texts settings path IsReviewOf review

-- ---- a command on one list

-- a command ends by what is read of the file at a path. It refuses a list that doesn't boot, or what it reads of one.
abbrev pub EndsOnFile : (X : Type 0) → (List ℕ → Option (List ℕ)) → Settings → List ℕ → (List ℕ → X → Type 0) → (X → Type 0) → (X → ℕ → Type 0) → ℕ → Type 0
EndsOnFile X texts settings path Is Refuses Ends status =
    EndsAs (HasNoBoot texts settings path ⊎ ((x : X) × IsAt X texts settings path Is x × Refuses x))
    (λ ended. (x : X) × IsAt X texts settings path Is x × Ends x ended) status

-- the same by the text of the list
abbrev pub EndsOnText : List ℕ → (Review → Type 0) → (Review → ℕ → Type 0) → ℕ → Type 0
EndsOnText text Refuses Ends status =
    EndsAs ((is_some (fault_of text) ≡ true) ⊎ ((review : Review) × IsReviewOf text review × Refuses review))
    (λ ended. (review : Review) × IsReviewOf text review × Ends review ended) status

-- ---- check

-- findings refuse a list in a strict check
abbrev pub is_refused : Bool → Review → Bool
is_refused strict review = strict && nat_lt 0 (length review.findings.items)

abbrev pub HasRefused : CheckOptions → Review → Type 0
HasRefused asked review = is_refused asked.strict review ≡ true

-- 3 exactly if the list breaks a line of the policy at a path, and 2 if that is no policy or has a fault, or in a strict check a line
-- that speaks of nothing
abbrev pub EndsVerdict : (List ℕ → Option (List ℕ)) → Bool → List ℕ → Listed → ℕ → Type 0
EndsVerdict texts strict path list status =
    (verdict : PolicyVerdict) × IsVerdictAt texts path list verdict × (status ≡ verdict_status strict verdict)

-- without a policy nothing is broken
abbrev pub EndsPolicy : (List ℕ → Option (List ℕ)) → Bool → Option (Bor (List ℕ)) → Listed → ℕ → Type 0
EndsPolicy texts strict None list status = status ≡ 0
EndsPolicy texts strict (Some policy) list status = EndsVerdict texts strict policy.now list status

-- a list that isn't refused has a status by the policy
abbrev pub EndsKept : (List ℕ → Option (List ℕ)) → CheckOptions → Review → ℕ → Type 0
EndsKept texts asked review status =
    (is_refused asked.strict review ≡ false) × EndsPolicy texts asked.strict asked.policy review.list status

abbrev pub EndsReviewed : (List ℕ → Option (List ℕ)) → CheckOptions → Review → ℕ → Type 0
EndsReviewed texts asked review status = EndsAs (HasRefused asked review) (EndsKept texts asked review) status

-- a list is refused if it doesn't boot, or in a strict check if it has findings
abbrev pub CheckEnds : (List ℕ → Option (List ℕ)) → CheckOptions → Settings → ℕ → Type 0
CheckEnds texts asked settings status =
    EndsOnFile Review texts settings asked.list.now IsReviewOf (HasRefused asked) (EndsKept texts asked) status

-- ---- tree

-- a list is refused only if it doesn't boot
abbrev pub TreeEnds : (List ℕ → Option (List ℕ)) → TreeOptions → Settings → ℕ → Type 0
TreeEnds texts asked settings status = EndsOnFile Listed texts settings asked.list.now IsListOf (λ list. ⊥) (λ list. IsZero) status

-- ---- reach

-- the scripts and the servers that the command line names, or why a path denotes none
abbrev pub named_by : ReachOptions → Listed → Result (List ℕ) PathFault
named_by asked list =
    joined (numbers_of_all list Scripts asked.from.items) (numbers_of_all list Servers asked.to.items)

abbrev pub NamesNone : ReachOptions → Listed → Type 0
NamesNone asked list = is_err (named_by asked list) ≡ true

abbrev pub EndsNamed : ReachOptions → Listed → ℕ → Type 0
EndsNamed asked list status = (is_err (named_by asked list) ≡ false) × (status ≡ 0)

-- a path that denotes none is refused, unless the host is out of memory
abbrev pub unnamed_status : Unnamed → ℕ
unnamed_status fault = if is_some (unnamed_fault fault) then 2 else 1

-- a list is refused if it doesn't boot, or if a path of the command line denotes no component of it
abbrev pub ReachEnds : (List ℕ → Option (List ℕ)) → ReachOptions → Settings → ℕ → Type 0
ReachEnds texts asked settings status =
    EndsOnFile Listed texts settings asked.list.now IsListOf (NamesNone asked) (EndsNamed asked) status

-- ---- route

-- 3 exactly if the rules deny the request
abbrev pub routed_status : Option ℕ → ℕ
routed_status child = if is_some child then 0 else 3

abbrev pub EndsRouted : RouteOptions → Listed → ℕ → Type 0
EndsRouted asked list status =
    (path : RoutePath) × Answers list asked.client.now asked.service.now asked.args.now path × (status ≡ routed_status path.child)

-- a request without a route path is refused, unless the host is out of memory
abbrev pub fault_status : RoutePathFault → ℕ
fault_status Nobody = 2
fault_status BadArgs = 2
fault_status NoMemory = 1

-- no script of the list has the path; or one has, and the arguments aren't in the grammar
abbrev pub HasNoRequest : RouteOptions → Listed → Type 0
HasNoRequest asked list =
    IsWhy list asked.client.now asked.args.now Nobody ⊎ IsWhy list asked.client.now asked.args.now BadArgs

-- a list is refused if it doesn't boot, or if the command line states no request of one of its scripts
abbrev pub RouteEnds : (List ℕ → Option (List ℕ)) → RouteOptions → Settings → ℕ → Type 0
RouteEnds texts asked settings status =
    EndsOnFile Listed texts settings asked.list.now IsListOf (HasNoRequest asked) (EndsRouted asked) status
