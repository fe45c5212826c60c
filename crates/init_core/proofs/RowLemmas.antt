-- The rows of a list lead where the list's own rules do.
use Rattle.std.proofs.Common.{◌≡◌, ℕ, zero, suc, ◌+◌, ◌-◌, ◌<◌, List, [], ◌∷◌, ◌++◌, map, take, Option, Some, None, refl, sym, ap, ◌∙◌, arith}
use Rattle.std.specs.List.{slice_get}
use Rattle.std.specs.Option.{option_map, unwrap_or}
use Rattle.std.proofs.lemmas.List.{take_more, take-map}
use Rattle.std.proofs.lemmas.Option.{get_or_from_slice_get, slice_get-map, slice_get_within}
use Rattle.own_model.specs.Listed.{Listed, ListedEntry, init_entry, level_of, levels_within, most_lists}
use Rattle.own_model.specs.Routes.{Lead, Level, ServerAt, decided, label_with, led_to, provider}
use Rattle.own_model.specs.Routes.Lead.{To, Nowhere, Outward}
use Rattle.pd_core.specs.Core.{Places}
use Rattle.init_core.specs.Boot.{place_of, places_at}
use Rattle.init_core.specs.Rows.{RouteRow, destination_of, init_row, levels, levels_at, place_by, places_in, row_of, rows_of}
use Rattle.init_core.specs.declared.rule.Destination.TheVariants as destination

-- the row of an init is that of its entry
init_listed : (list : Listed) (home : ℕ) → init_row (rows_of list) home ≡ option_map (row_of list) (init_entry list home)
init_listed list zero = refl
init_listed list (suc place) = slice_get-map (row_of list) list.entries place

-- the levels of what an entry may have are those of its row
levels_of : (list : Listed) (told : RouteRow → List Level) (said : ListedEntry → List Level) → ((entry : ListedEntry) → told (row_of list entry) ≡ said entry) → (entry : Option ListedEntry) →
    unwrap_or (option_map told (option_map (row_of list) entry)) [] ≡ unwrap_or (option_map said entry) []
levels_of list told said each None = refl
levels_of list told said each (Some entry) = each entry

pub levels_listed : (lists : ℕ) (list : Listed) (entry : ListedEntry) → levels lists (rows_of list) (row_of list entry) ≡ levels_within lists list entry
levels_listed zero list entry = refl
levels_listed (suc lists) list entry =
    ap (λ outer. level_of list entry ∷ outer)
    (ap (λ row. unwrap_or (option_map (levels lists (rows_of list)) row) []) (init_listed list entry.home)
    ∙ levels_of list (levels lists (rows_of list)) (levels_within lists list) (levels_listed lists list) (init_entry list entry.home))

-- so a place is what the list says of it
place_listed : (list : Listed) (entry : Option ListedEntry) → place_by (rows_of list) (option_map (row_of list) entry) ≡ place_of list entry
place_listed list None = refl
place_listed list (Some entry) = λ j. record { name = entry.path; home = entry.home; routes = levels_listed most_lists list entry j }

pub places_listed : (list : Listed) → ◌≡◌ {A = Places} (places_in (rows_of list)) (places_at list)
places_listed list = λ j place. (ap (place_by (rows_of list)) (slice_get-map (row_of list) list.entries place) ∙ place_listed list (slice_get list.entries place)) j

-- a row more
pub row_more : (list : Listed) (rows : List RouteRow) (client : ℕ) (row : RouteRow) → rows ≡ map (row_of list) (take client list.entries) →
    option_map (row_of list) (slice_get list.entries client) ≡ Some row → rows ++ row ∷ [] ≡ map (row_of list) (take (client + 1) list.entries)
row_more list rows client row so_far there =
    let found : slice_get (rows_of list) client ≡ Some row = slice_get-map (row_of list) list.entries client ∙ there in
    ap (λ told. told ++ row ∷ []) (so_far ∙ sym (take-map (row_of list) client list.entries))
    ∙ ap (λ last. take client (rows_of list) ++ last ∷ []) (sym (get_or_from_slice_get (rows_of list) client row row found))
    ∙ sym (take_more (rows_of list) client row (slice_get_within (rows_of list) client row found))
    ∙ take-map (row_of list) (client + 1) list.entries

-- ---- where a row leads

-- the place of a server, if there is one
abbrev place_of_server : Option ServerAt → Option ℕ
place_of_server = option_map (λ (server : ServerAt). server.place)

-- the levels outward of a list of so many at most
abbrev outer : ℕ → List RouteRow → ℕ → List Level
outer lists rows home = unwrap_or (option_map (levels lists rows) (init_row rows home)) []

one_level : (rows : List RouteRow) (lists : ℕ) (row : RouteRow) (service label : List ℕ) → 0 < lists →
    provider (levels lists rows row) service label
    ≡ led_to (decided row.level.rules service label) (provider (outer (lists - 1) rows row.home) service (label_with row.level.name label))
one_level rows zero row service label some = absurd (omega (arith, some))
one_level rows (suc lists) row service label some = rw (fewer lists) refl where
  fewer : (n : ℕ) → suc n - 1 ≡ n
  fewer n = omega arith

-- a lead by its step
nowhere_by : (lead : Lead) → destination.Nowhere ≡ destination_of lead → Nowhere ≡ lead
nowhere_by (To server) is = cc
nowhere_by Nowhere is = refl
nowhere_by Outward is = cc

outward_by : (lead : Lead) → destination.Outward ≡ destination_of lead → Outward ≡ lead
outward_by (To server) is = cc
outward_by Nowhere is = cc
outward_by Outward is = refl

module _ (rows : List RouteRow) (lists client : ℕ) (service label : List ℕ) (row : RouteRow) (some : 0 < lists) (there : slice_get rows client ≡ Some row) where
  by_lead : (lead : Lead) → lead ≡ decided row.level.rules service label →
      provider (levels_at lists rows client) service label ≡ led_to lead (provider (outer (lists - 1) rows row.home) service (label_with row.level.name label))
  by_lead lead is =
      ap (λ found. provider (unwrap_or (option_map (levels lists rows) found) []) service label) there ∙ one_level rows lists row service label some
      ∙ ap (λ to. led_to to (provider (outer (lists - 1) rows row.home) service (label_with row.level.name label))) (sym is)

  -- to a server
  pub leads_to : (place : ℕ) → destination.Server place ≡ destination_of (decided row.level.rules service label) → Some place ≡ place_of_server (provider (levels_at lists rows client) service label)
  leads_to place is = by_step (decided row.level.rules service label) refl is where
    by_step : (lead : Lead) → lead ≡ decided row.level.rules service label → destination.Server place ≡ destination_of lead → Some place ≡ place_of_server (provider (levels_at lists rows client) service label)
    by_step (To server) same to = let there : place ≡ server.place = cc in ap Some there ∙ sym (ap place_of_server (by_lead (To server) same))
    by_step Nowhere same to = cc
    by_step Outward same to = cc

  -- to none
  pub leads_nowhere : destination.Nowhere ≡ destination_of (decided row.level.rules service label) → None ≡ place_of_server (provider (levels_at lists rows client) service label)
  leads_nowhere is = sym (ap place_of_server (by_lead Nowhere (nowhere_by (decided row.level.rules service label) is)))

  -- outward of the machine's list to none
  pub leads_out : destination.Outward ≡ destination_of (decided row.level.rules service label) → row.home ≡ 0 → None ≡ place_of_server (provider (levels_at lists rows client) service label)
  leads_out is machine =
      sym (ap place_of_server (by_lead Outward (outward_by (decided row.level.rules service label) is) ∙ ap (λ home. provider (outer (lists - 1) rows home) service (label_with row.level.name label)) machine))

  -- and of another where the init's row leads, with the name before the label
  pub leads_outward : (longer : List ℕ) (found : Option ℕ) → destination.Outward ≡ destination_of (decided row.level.rules service label) → 0 < row.home → longer ≡ label_with row.level.name label →
      found ≡ place_of_server (provider (levels_at (lists - 1) rows (row.home - 1)) service longer) → found ≡ place_of_server (provider (levels_at lists rows client) service label)
  leads_outward longer found is inner named by_init =
      by_init
      ∙ (λ j. place_of_server (provider (unwrap_or (option_map (levels (lists - 1) rows) (sym (init_of row.home inner) j)) []) service (named j)))
      ∙ sym (ap place_of_server (by_lead Outward (outward_by (decided row.level.rules service label) is)))
    where
      init_of : (home : ℕ) → 0 < home → init_row rows home ≡ slice_get rows (home - 1)
      init_of zero some = absurd (omega (arith, some))
      init_of (suc place) some = rw (less place) refl where
        less : (n : ℕ) → suc n - 1 ≡ n
        less n = omega arith
