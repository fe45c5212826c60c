-- How routes and sessions are stored as parts of a model's value.
use Rattle.std.specs.Prelude.{◌≡◌, ℕ, List, Option, Some, None}
use Rattle.std.proofs.Common.{refl}
use Rattle.std.specs.Coded.{Coded, code_by, coded×, coded_ℕ, coded_list, coded_option}
use Rattle.own_model.specs.Account.{Account, coded_account}
use Rattle.own_model.specs.Offer.{Offer, coded_offer}
use Rattle.own_model.specs.Routes.{Lead, Level, Rule, ServerAt}
use Rattle.own_model.specs.Routes.Lead.{To, Nowhere, Outward}
use Rattle.own_model.specs.Services.{Session, ServiceState, coded_state}

-- a text that is there or not
abbrev pub coded_text : Coded (Option (List ℕ))
coded_text = coded_option (coded_list coded_ℕ)

-- a server is stored as its kind and its place
abbrev pub coded_server : Coded ServerAt
coded_server =
    code_by (Offer × ℕ) (coded× coded_offer coded_ℕ) (λ s. (s.kind, s.place)) (λ p. record { kind = p.0; place = p.1 }) (λ _. refl)

-- a lead is stored as the server that it leads to, if it isn't outward, and if there is one
abbrev pub lead_code : Lead → Option (Option ServerAt)
lead_code (To server) = Some (Some server)
lead_code Nowhere = Some None
lead_code Outward = None

abbrev pub lead_from : Option (Option ServerAt) → Lead
lead_from (Some (Some server)) = To server
lead_from (Some None) = Nowhere
lead_from None = Outward

abbrev pub lead_back : (l : Lead) → lead_from (lead_code l) ≡ l
lead_back (To server) = refl
lead_back Nowhere = refl
lead_back Outward = refl

abbrev pub coded_lead : Coded Lead
coded_lead = code_by (Option (Option ServerAt)) (coded_option (coded_option coded_server)) lead_code lead_from lead_back

abbrev pub coded_rule : Coded Rule
coded_rule =
    code_by
    (Option (List ℕ) × (Option (List ℕ) × (Option (List ℕ) × (Option (List ℕ) × Lead))))
    (coded× coded_text (coded× coded_text (coded× coded_text (coded× coded_text coded_lead))))
    (λ r. (r.service, (r.label, (r.label_prefix, (r.label_suffix, r.to)))))
    (λ p. record { service = p.0; label = p.1.0; label_prefix = p.1.1.0; label_suffix = p.1.1.1.0; to = p.1.1.1.1 })
    (λ _. refl)

abbrev pub coded_level : Coded Level
coded_level =
    code_by
    (List ℕ × List Rule)
    (coded× (coded_list coded_ℕ) (coded_list coded_rule))
    (λ l. (l.name, l.rules))
    (λ p. record { name = p.0; rules = p.1 })
    (λ _. refl)

-- a session is stored as the tuple of its fields
abbrev pub coded_session : Coded Session
coded_session =
    code_by
    (List ℕ × (Account × (ServiceState × ℕ)))
    (coded× (coded_list coded_ℕ) (coded× coded_account (coded× coded_state coded_ℕ)))
    (λ s. (s.label, (s.account, (s.state, s.server))))
    (λ p. record { label = p.0; account = p.1.0; state = p.1.1.0; server = p.1.1.1 })
    (λ _. refl)
