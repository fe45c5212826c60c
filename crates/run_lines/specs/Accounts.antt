-- The entries of the account list, and the line of what a selector names.
use Rattle.std.specs.Prelude.{ℕ, false, List, [], slice_index_or, None}
use Rattle.std.specs.FinMap.{get}
use Rattle.std.specs.Option.{option_map_or}
use Rattle.own_model.specs.AccountList.{object_line}
use Rattle.own_model.specs.Listed.{Listed, ListedEntry}
use Rattle.own_model.specs.Listed.Binary.{Script}
use Rattle.own_model.specs.OwnState.{OwnState}

-- a place that no list has is a script without anything
abbrev pub unlisted : ListedEntry
unlisted = record {
  name = [];
  path = [];
  label = [];
  home = 0;
  binary = Script;
  ram = 0;
  caps = 0;
  provides = false;
  route = None;
  reserve = None;
  inner_route = [];
}

-- the entry of a list at a place
abbrev pub listed_at : Listed → ℕ → ListedEntry
listed_at list place = slice_index_or list.entries place unlisted

-- the line of the object that a selector names, if it is a session
abbrev pub selected_line : List ℕ → OwnState → ℕ → List ℕ
selected_line name s selector = option_map_or (λ object. object_line name selector object) (get s.selectors selector) []
