-- The account list: use and limits of every account, what reserves have, and the sums of all limits.
use Rattle.std.specs.Prelude.{◌≡◌, ℕ, ◌*◌, ◌||◌, ◌++◌, Bool, List, [], ◌∷◌, codes, decimal, nat_lt, is_some, if◌then◌else◌, Option}
use Rattle.std.specs.FinMap.{entries}
use Rattle.std.specs.List.{enumerate_from, flat_map}
use Rattle.own_model.specs.Account.{Account}
use Rattle.own_model.specs.Amounts.{Amounts}
use Rattle.own_model.specs.Listed.{Listed, ListedEntry}
use Rattle.own_model.specs.OwnState.{OwnState, Object}
use Rattle.own_model.specs.OwnState.Object.{Dataspace, RpcObject, OpenSession, Buffer}
use Rattle.own_model.specs.Reply.{amounts_text, quota_text}
use Rattle.own_model.specs.Transcript.{state_at}
use Rattle.own_model.specs.World.{World, IsBalanced, account_at, machine_init, all_ram, all_caps}

-- the line of an account, by its name
abbrev pub account_line : List ℕ → Account → List ℕ
account_line name account = codes "account " ++ name ++ codes " " ++ quota_text account ++ 10 ∷ []

-- the line of a reserve, by its component's name
abbrev pub reserve_line : List ℕ → Amounts → List ℕ
reserve_line name reserve = codes "reserve " ++ name ++ codes " " ++ amounts_text reserve ++ 10 ∷ []

-- a reserve is printed if the start list gives one, and if it has anything
abbrev pub is_told : Option Amounts → Amounts → Bool
is_told given reserve = is_some given || nat_lt 0 reserve.ram || nat_lt 0 reserve.caps

-- the line of a component's account, and then that of its reserve
abbrev pub component_lines : ListedEntry → Account → Amounts → List ℕ
component_lines entry account reserve =
    account_line entry.path account ++ (if is_told entry.reserve reserve then reserve_line entry.path reserve else [])

-- the line of a session's account, by its client's name and its selector
abbrev pub session_line : List ℕ → ℕ → Account → List ℕ
session_line name selector account = codes "session " ++ name ++ codes " " ++ decimal selector ++ codes " " ++ quota_text account ++ 10 ∷ []

-- the line of what a selector names, if it names a session
abbrev pub object_line : List ℕ → ℕ → Object → List ℕ
object_line name selector (OpenSession session) = session_line name selector session.account
object_line name selector (Dataspace bytes) = []
object_line name selector RpcObject = []
object_line name selector (Buffer session bytes) = []

-- the lines of a component's open sessions, by rising selector
abbrev pub session_lines : List ℕ → OwnState → List ℕ
session_lines name s = flat_map (λ e. object_line name e.0 e.1) (entries s.selectors)

-- the line of the sums of all limits
abbrev pub total_line : ℕ → ℕ → List ℕ
total_line ram caps = codes "total ram " ++ decimal ram ++ codes " caps " ++ decimal caps ++ 10 ∷ []

-- the line of the machine's init, the lines of the list's entries in order, the lines of each one's open sessions in order, and
-- the sums
abbrev pub account_list_text : Listed → World → List ℕ
account_list_text list world =
    account_line (codes "init") (machine_init world)
    ++ flat_map (λ e. component_lines e.1 (account_at world e.0) (state_at world.states e.0).reserve) (enumerate_from 0 list.entries)
    ++ flat_map (λ e. session_lines e.1.path (state_at world.states e.0)) (enumerate_from 0 list.entries)
    ++ total_line (all_ram world) (all_caps world)

-- the sums are the machine's
abbrev pub TotalsAreTheMachine : Type 0
TotalsAreTheMachine =
    (pages caps : ℕ) (world : World) → IsBalanced pages caps world → total_line (all_ram world) (all_caps world) ≡ total_line (pages * 4096) caps
