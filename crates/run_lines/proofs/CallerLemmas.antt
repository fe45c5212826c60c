-- Whom a name calls: an init's calls nobody, and every other entry's that entry.
use Rattle.std.proofs.Common.{◌≡◌, ℕ, Bool, true, false, true≢false, Option, Some, None, refl, sym, ap, ◌∙◌}
use Rattle.std.proofs.lemmas.Option.{get_or_from_slice_get, none-some, slice_get_within}
use Rattle.std.specs.List.{slice_get}
use Rattle.std.specs.Option.{option_map}
use Rattle.list_parser.proofs.ListLemmas.{same_entry}
use Rattle.list_parser.specs.Depth.{is_init, runs_init}
use Rattle.own_model.specs.Call.{Spoken}
use Rattle.own_model.specs.Listed.{Binary, Listed, ListedEntry, kind_of, start_list_of}
use Rattle.own_model.specs.Listed.Binary.{Script, Server, Init}
use Rattle.own_model.specs.StartList.{entries_of}
use Rattle.own_model.specs.Transcript.{entry_at, heard_call, classify_call}
use Rattle.own_model.specs.Transcript.Heard.{Stranger, Caller}

module _ (says : Spoken) (component : ℕ) where
  -- by what an entry runs
  init_heard : (binary : Binary) → runs_init binary ≡ true → classify_call (kind_of binary) says component ≡ Stranger says.name
  init_heard Script is = absurd (true≢false (sym is))
  init_heard (Server service offer) is = absurd (true≢false (sym is))
  init_heard Init is = refl

  other_heard : (binary : Binary) → runs_init binary ≡ false → classify_call (kind_of binary) says component ≡ Caller (record { component = component; call = says.call })
  other_heard Script is = refl
  other_heard (Server service offer) is = refl
  other_heard Init is = absurd (true≢false is)

  module _ (list : Listed) where
    -- what the entry at a place runs, and whether that is an init
    record Runs (init : Bool) : Type 0 where
      binary : Binary
      kind : (entry_at (entries_of (start_list_of list)) component).kind ≡ kind_of binary
      is : runs_init binary ≡ init

    runs_at : (init : Bool) (found : Option ListedEntry) → slice_get list.entries component ≡ found → option_map is_init found ≡ Some init → Runs init
    runs_at init None at told = absurd (none-some init told)
    runs_at init (Some entry) at told = record {
      binary = entry.binary;
      kind = sym (ap (λ e. e.kind) (same_entry list component entry (slice_get_within list.entries component entry at)))
          ∙ ap (λ e. kind_of e.binary) (get_or_from_slice_get list.entries component entry entry at);
      is = (cc);
    }

    pub init_is_nobody : option_map is_init (slice_get list.entries component) ≡ Some true →
        heard_call (entries_of (start_list_of list)) says (Some component) ≡ Stranger says.name
    init_is_nobody told =
        let runs = runs_at true (slice_get list.entries component) refl told in
        ap (λ kind. classify_call kind says component) runs.kind ∙ init_heard runs.binary runs.is

    pub other_is_called : option_map is_init (slice_get list.entries component) ≡ Some false →
        heard_call (entries_of (start_list_of list)) says (Some component) ≡ Caller (record { component = component; call = says.call })
    other_is_called told =
        let runs = runs_at false (slice_get list.entries component) refl told in
        ap (λ kind. classify_call kind says component) runs.kind ∙ other_heard runs.binary runs.is
