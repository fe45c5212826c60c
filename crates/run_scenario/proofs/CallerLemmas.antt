-- Who makes a call: the component of its name, unless it is an init.
use Rattle.std.proofs.Common.{◌≡◌, ℕ, ◌<◌, Bool, true, false, true≢false, cond, List, [], length, map, get_or, Some, None, refl, sym, ◌∙◌, ap, arith}
use Rattle.std.proofs.lemmas.List.{get_or-map, length-map}
use Rattle.std.proofs.lemmas.Option.{slice_get-get_or}
use Rattle.std.specs.List.{position, slice_get}
use Rattle.std.specs.Option.{option_map}
use Rattle.std.specs.Str.{bytes_eq}
use Rattle.own_model.specs.Call.{Call, Spoken}
use Rattle.own_model.specs.Listed.{Binary, Listed, ListedEntry, kind_of, start_list_of, start_of}
use Rattle.own_model.specs.Listed.Binary.{Script, Server, Init}
use Rattle.own_model.specs.StartList.{Entry, StartEntry, entries_of}
use Rattle.own_model.specs.Transcript.{entry_at, heard_call, classify_call, heard_spoken, nobody}
use Rattle.list_parser.specs.Depth.{is_init, runs_init}
use Rattle.run_scenario.specs.Said.{caller_by}

-- an init makes no calls
heard_binary : (binary : Binary) (is : Bool) → runs_init binary ≡ is → (says : Spoken) (component : ℕ) →
    classify_call (kind_of binary) says component ≡ caller_by says.name says.call (cond is None (Some component))
heard_binary Script true is says component = absurd (true≢false (sym is))
heard_binary Script false is says component = refl
heard_binary (Server service offer) true is says component = absurd (true≢false (sym is))
heard_binary (Server service offer) false is says component = refl
heard_binary Init true is says component = refl
heard_binary Init false is says component = absurd (true≢false is)

abbrev pub somebody : ListedEntry
somebody = record { name = []; path = []; label = []; home = 0; binary = Script; ram = 0; caps = 0; provides = false; route = None; reserve = None; inner_route = [] }

module _ (list : Listed) (component : ℕ) (within : component < length list.entries) where
  abbrev here : ListedEntry
  here = get_or list.entries component somebody

  pub kind_here : (entry_at (entries_of (start_list_of list)) component).kind ≡ kind_of here.binary
  kind_here =
      ap (λ (e : Entry). e.kind)
      (get_or-map (λ (start : StartEntry). start.entry) (map (start_of list) list.entries) component (start_of list somebody) nobody (omega (arith, within, length-map list.entries (start_of list)))
      ∙ ap (λ (start : StartEntry). start.entry) (get_or-map (start_of list) list.entries component somebody (start_of list somebody) within))

  -- a call under a name is heard as one of the component of that name, unless that is an init
  pub heard_here : (name : List ℕ) (call : Call) (is : Bool) → position (λ (entry : Entry). bytes_eq entry.name name) (entries_of (start_list_of list)) ≡ Some component →
      option_map is_init (slice_get list.entries component) ≡ Some is →
      heard_spoken (entries_of (start_list_of list)) (Some (record { name = name; call = call })) ≡ caller_by name call (cond is None (Some component))
  heard_here name call is found init =
      let same : Some (is_init here) ≡ Some is = ap (option_map is_init) (sym (slice_get-get_or list.entries component somebody within)) ∙ init in
      let runs : runs_init here.binary ≡ is = cc in
      ap (heard_call (entries_of (start_list_of list)) (record { name = name; call = call })) found
      ∙ ap (λ kind. classify_call kind (record { name = name; call = call }) component) kind_here
      ∙ heard_binary here.binary is runs (record { name = name; call = call }) component
