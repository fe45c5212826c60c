-- The calls of a component with an ample account.
use Rattle.std.specs.Prelude.{ℕ, zero, suc, ◌*◌, ◌++◌, List, codes, decimal, length, max, min, nat_lt, if◌then◌else◌, Option, Some, None}
use Rattle.std.specs.Option.{option_map_or}
use Rattle.std.specs.Str.{bytes_eq}
use Rattle.own_model.specs.Amounts.{Amounts}
use Rattle.own_model.specs.Call.{Call}
use Rattle.own_model.specs.Call.Call.{Open, CallSession, Upgrade}
use Rattle.own_model.specs.Listed.{Listed, start_list_of}
use Rattle.own_model.specs.OwnStep.{Outcome}
use Rattle.own_model.specs.Reply.{reply_text}
use Rattle.own_model.specs.Reply.Reply.{Done}
use Rattle.own_model.specs.SessionArgs.{Arguments, arguments_of}
use Rattle.own_model.specs.World.{World, outcome_at, start_world, with_state}
pub use Rattle.init_core.specs.Boot.{coded_world}
use Rattle.budget_search.specs.Donations.{donated_text}
use Rattle.budget_search.specs.Shortages.{shortage_reply}
use Rattle.budget_search.specs.declared.trial.Shortage.TheVariants.{SessionRam, SessionCaps}

-- ---- one call

-- a component on a machine, and the text of the reply to its last call
pub record Client : Type 0 where
  pub component : ℕ
  pub world : World
  pub text : List ℕ

-- a component that has made no call, on the machine of a list
abbrev pub first_client : Listed → ℕ → Client
first_client list component = record { component = component; world = start_world (start_list_of list); text = reply_text Done }

-- the client after a call: the machine takes its step, and has its reply
abbrev pub stepped : Outcome → Client → Client
stepped outcome client = record client {
  world = with_state client.world client.component outcome.next;
  text = reply_text outcome.reply;
}

-- a component that isn't there makes no call
abbrev pub after_step : Call → Client → Client
after_step call client =
    if nat_lt client.component (length client.world.entries)
    then stepped (outcome_at client.world client.component call) client else client

-- ---- sessions with enough

-- the largest word is 2^64 - 1
abbrev pub of_word : ℕ → ℕ
of_word n = min n 18446744073709551615

-- a donation of at least 4096 bytes and 2 capabilities, with which each session opens
abbrev pub enough_of : Arguments → Amounts
enough_of given = record { ram = max given.ram 4096; caps = max given.caps 2 }

-- arguments with that donation, and others as they are
abbrev pub ample_args : List ℕ → List ℕ
ample_args args = option_map_or (λ given. donated_text (enough_of given) args) (arguments_of args) args

abbrev pub ample_call : Call → Call
ample_call (Open service args) = Open service (ample_args args)
ample_call call = call

-- the arguments of an upgrade by so many pages or so many capabilities, if a reply says that the account of a session is short of
-- them
abbrev pub upgrade_args : ℕ → List ℕ → Option (List ℕ)
upgrade_args times text =
    if bytes_eq text (shortage_reply SessionRam) then Some (codes "ram_quota=" ++ decimal (of_word (times * 4096)))
    else (if bytes_eq text (shortage_reply SessionCaps) then Some (codes "cap_quota=" ++ decimal times) else None)

-- a session is upgraded, and the request is made again
abbrev pub asked_again : ℕ → Call → List ℕ → Client → Client
asked_again selector request args client = after_step request (after_step (Upgrade selector args) client)

-- the client after at most so many upgrades, each twice the one before, while the session's account refuses the request
abbrev pub asked_up : ℕ → Call → ℕ → ℕ → Client → Client
asked_up selector request zero times client = client
asked_up selector request (suc left) times client =
    option_map_or (λ args. asked_up selector request left (of_word (times * 2)) (asked_again selector request args client))
    (upgrade_args times client.text) client

-- a call is made with enough for its session: a session opens with enough, and has at most 32 upgrades for a request; any other
-- call is made as it is
abbrev pub made_with_enough : Call → Client → Client
made_with_enough (CallSession selector request) client =
    asked_up selector (CallSession selector request) 32 1 (after_step (CallSession selector request) client)
made_with_enough call client = after_step (ample_call call) client
