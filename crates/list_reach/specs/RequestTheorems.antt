-- The reply to a script's session request, by the entry to which it is routed.
use Rattle.std.specs.Prelude.{◌≡◌, ℕ, ◌≤◌, false, List, Some, None}
use Rattle.std.specs.List.{slice_get}
use Rattle.trade_base.specs.declared.refusal.Refusal.TheVariants.{ServiceDenied}
use Rattle.own_model.specs.Account.{shortage}
use Rattle.own_model.specs.Call.Call.{Open}
use Rattle.own_model.specs.Listed.{Listed, ListedEntry, offer_at, start_of}
use Rattle.own_model.specs.Listed.Binary.{Script}
use Rattle.own_model.specs.Offer.{Offer}
use Rattle.own_model.specs.OwnState.{OwnState}
use Rattle.own_model.specs.OwnStep.{own_step, refused, session_opened}
use Rattle.own_model.specs.Routes.{label_with}
use Rattle.own_model.specs.SessionArgs.{Arguments, arguments_of}
use Rattle.list_labels.specs.GivenLabels.{leads_to}

-- the entry of a script that hasn't exited asks for a session with arguments in the grammar
pub record Asks (list : Listed) (client : ℕ) (entry : ListedEntry) (text : List ℕ) (arguments : Arguments) (s : OwnState) : Type 0 where
  pub entry_is : slice_get list.entries client ≡ Some entry
  pub script : entry.binary ≡ Script
  pub here : s.gone ≡ false
  pub read : arguments_of text ≡ Some arguments

-- if the label is routed nowhere, the service is denied, and nothing changes
abbrev pub RequestsAreDenied : Type 0
RequestsAreDenied =
    (list : Listed) (client : ℕ) (entry : ListedEntry) (service text : List ℕ) (arguments : Arguments) (s : OwnState)
    → Asks list client entry text arguments s → leads_to list client service arguments.label ≡ None
    → own_step (start_of list entry).entry (Open service text) s ≡ refused s ServiceDenied

-- If it is routed to a component, that is a server. It opens a session if the donation is large enough and the account covers it.
abbrev pub RequestsAreOpened : Type 0
RequestsAreOpened =
    (list : Listed) (client : ℕ) (entry : ListedEntry) (service text : List ℕ) (arguments : Arguments) (s : OwnState) (server : ℕ)
    → Asks list client entry text arguments s → leads_to list client service arguments.label ≡ Some server
    → 4096 ≤ arguments.ram → 2 ≤ arguments.caps → shortage s.account arguments.ram arguments.caps ≡ None
    → (kind : Offer) × (offer_at list.entries server ≡ Some kind)
    × (own_step (start_of list entry).entry (Open service text) s
    ≡ session_opened
    (record {
      server = record { kind = kind; place = server };
      label = label_with entry.label arguments.label;
      ram = arguments.ram;
      caps = arguments.caps;
    })
    s)
