-- The services that a list declares.
use Rattle.std.proofs.Common.{◌≡◌, ℕ, ◌+◌, ◌<◌, ◌||◌, List, [], ◌∷◌, length, map, drop, get_or, Some, refl, sym, ap, ◌∙◌, add-one, drop-cons}
use Rattle.std.proofs.lemmas.List.Folds.{list_any-append}
use Rattle.std.specs.List.{list_any}
use Rattle.std.specs.Str.{bytes_eq}
use Rattle.trade_base.specs.Service.{service_name, services}
use Rattle.trade_base.specs.declared.service.BuiltInService.{BuiltInService}
use Rattle.trade_base.specs.declared.service.BuiltInService.TheVariants as service
use Rattle.own_model.specs.Listed.{ListedEntry, service_in, services_of, with_name, with_names}
use Rattle.list_parser.specs.Services.{names_with}

-- a name is one of all services if the machine has it built in, or it is declared
pub any_of_names : (name : List ℕ) (declared : List (List ℕ)) →
    list_any (bytes_eq name) (names_with declared) ≡ (list_any (bytes_eq name) (map service_name services) || list_any (bytes_eq name) declared)
any_of_names name declared = list_any-append (bytes_eq name) (map service_name services) declared

-- a service that the machine has built in adds none
pub none_new : (declared : List (List ℕ)) (of : BuiltInService) → with_name (names_with declared) (Some (service_name of)) ≡ names_with declared
none_new declared service.Log = refl
none_new declared service.Files = refl

-- the names so far, with the services of the entries to come, are those of all entries
pub record AreSoFar (declared : List (List ℕ)) (left all : List ListedEntry) : Type 0 where
  pub names : with_names (names_with declared) left ≡ services_of all

pub none_declared : (entries : List ListedEntry) → AreSoFar [] entries entries
none_declared entries = record { names = refl }

-- one entry more
pub one_more : (declared more : List (List ℕ)) (entries all : List ListedEntry) (place : ℕ) (entry : ListedEntry) → AreSoFar declared (drop place entries) all →
    place < length entries → entry ≡ get_or entries place entry → names_with more ≡ with_name (names_with declared) (service_in entry.binary) → AreSoFar more (drop (place + 1) entries) all
one_more declared more entries all place entry so_far inside is adds =
    let next : drop place entries ≡ entry ∷ drop (place + 1) entries = drop-cons entries place entry inside ∙ rw (add-one, ← is) refl in
    record { names = ap (λ names. with_names names (drop (place + 1) entries)) adds ∙ ap (with_names (names_with declared)) (sym next) ∙ so_far.names }
