-- Where the routes of components lead.
use Rattle.std.proofs.Common.{◌≡◌, ℕ, ◌<◌, List, Option, None, Some, Err, length, map, get_or, sym, ap, ◌∙◌, inl, inr, arith}
use Rattle.std.proofs.lemmas.Bool.{cases_lt}
use Rattle.std.proofs.lemmas.Option.{none-some, same_Some}
use Rattle.std.proofs.lemmas.List.{get_or-map, get_or_past, length-map}
use Rattle.std.specs.Option.{option_map}
use Rattle.own_model.proofs.NatMapLemmas.{nothing_from}
use Rattle.trade_base.specs.declared.refusal.Refusal.TheVariants.{ServiceDenied}
use Rattle.own_model.specs.Offer.{Offer}
use Rattle.own_model.specs.Routes.{ServerAt, provider}
use Rattle.own_model.specs.Session.{wish, resolved_request, routed_request}
use Rattle.own_model.specs.SessionArgs.{Arguments, arguments_of}
use Rattle.dataspace_core.specs.Store.{Store}
use Rattle.pd_core.specs.Component.{offer_of}
use Rattle.pd_core.specs.Core.{Places}
use Rattle.pd_core.specs.SessionCalls.{Agrees, Leads, server_at as server_there, offer_at}
use Rattle.pd_core.specs.declared.component.Component.{Component}

-- ---- where a component is led

-- a server that is found is of the service of its place
of_kind : (place : ℕ) (found : Option Offer) (server : ServerAt) → option_map (λ kind. record { kind = kind; place = place }) found ≡ Some server →
    (found ≡ Some server.kind) × (server ≡ record { kind = server.kind; place = place })
of_kind place None server is = absurd (none-some server is)
of_kind place (Some kind) server is =
    let same : ◌≡◌ {A = ServerAt} (record { kind = kind; place = place }) server = same_Some _ server is in
    (ap (λ (s : ServerAt). Some s.kind) same, λ j. record { kind = server.kind; place = sym (ap (λ (s : ServerAt). s.place) same) j })

-- a route that leads to a component leads to a server there, of its service
to_service : (components : List Component) (place : ℕ) (to : Option ServerAt) → Some (server_there components place) ≡ option_map Some to →
    (kind : Offer) × (offer_at components place ≡ Some kind) × (to ≡ Some (record { kind = kind; place = place }))
to_service components place None is = absurd (none-some (server_there components place) (sym is))
to_service components place (Some server) is =
    let its = of_kind place (offer_at components place) server (same_Some (server_there components place) (Some server) is) in
    (server.kind, its.0, ap Some its.1)

-- what serves stands among the components, and is what it serves
server_at : (components : List Component) (place : ℕ) (kind : Offer) → offer_at components place ≡ Some kind →
    (place < length components) × ((d : Component) → offer_of (get_or components place d) ≡ Some kind)
server_at components place kind is = elim (cases_lt place (length components)) [
  | inl within ↦ (within, λ d. sym (get_or-map offer_of components place d None within) ∙ is)
  | inr past ↦ absurd (none-some kind (sym (get_or_past (map offer_of components) place None (omega (arith, past, length-map components offer_of))) ∙ is))
]

module _ (places : Places) (leads : Leads) (store : Store) (components : List Component) (i : ℕ) (service label : List ℕ) (agrees : Agrees places leads store components) (here : i < length components) where
  -- where a component is led to a place, a server stands there of the service that its places lead to
  pub led_to_service : (place : ℕ) → leads i service label ≡ Some place →
      (kind : Offer) × (provider (places i).routes service label ≡ Some (record { kind = kind; place = place }))
      × ((place < length components) × ((d : Component) → offer_of (get_or components place d) ≡ Some kind))
  led_to_service place led =
      let both = to_service components place (provider (places i).routes service label)
      (sym (ap (option_map (server_there components)) led) ∙ agrees.each i service label here) in
      (both.0, both.2, server_at components place both.0 both.1)

  -- where it is led to none, its places lead to none
  pub led_to_none : leads i service label ≡ None → provider (places i).routes service label ≡ None
  led_to_none led = nothing_from Some (provider (places i).routes service label) (sym (agrees.each i service label here) ∙ ap (option_map (server_there components)) led)

  -- so its wish is denied
  pub denied_wish : (client text : List ℕ) (args : Arguments) → arguments_of text ≡ Some args → label ≡ args.label → leads i service label ≡ None →
      wish client (places i).routes service text ≡ Err ServiceDenied
  denied_wish client text args reads its none =
      ap (resolved_request client (places i).routes service) reads
      ∙ ap (routed_request client args) (ap (provider (places i).routes service) (sym its) ∙ led_to_none none)
