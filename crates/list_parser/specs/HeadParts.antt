-- An entry as it is read, part by part.
use Rattle.std.specs.Prelude.{ℕ, Bool, List, codes, Result, Ok}
use Rattle.serde_json.specs.Data.{Data}
use Rattle.serde_json.specs.Find.{get}
use Rattle.own_model.specs.Listed.{ListedEntry}
use Rattle.list_parser.specs.declared.fault.ConfigField.TheVariants as field
use Rattle.list_parser.specs.declared.list_fault.ExpectedValue.TheVariants as expect
use Rattle.list_parser.specs.declared.list_fault.ListFault.{ListFault}
use Rattle.list_parser.specs.FaultPlace.{◌>>=◌, bad, value_or}
use Rattle.list_parser.specs.Entries.{BinaryWord, EntryHead, ListPlace, Provider, SoFar, behind, list_of_entry, new_name, object_of, own_route, provider_of, provides_expected, reserve_of_entry, with_kinds, word_of_entry}
use Rattle.list_parser.specs.Members.{amount_at, name_at, whole_at}

-- what an entry is called, and the word of its binary
pub record EntryIdentity : Type 0 where
  pub name : List ℕ
  pub word : BinaryWord

abbrev pub named_of : List ListedEntry → ℕ → Data → Result EntryIdentity ListFault
named_of before init entry = do
  told_name ← value_or (bad field.Name expect.Name) (name_at (codes "name") entry)
  name ← new_name before init told_name
  word ← word_of_entry name (get (codes "binary") entry)
  Ok (record { name = name; word = word })

-- what an entry of a binary starts with, and what it provides
pub record EntryResources : Type 0 where
  pub ram : ℕ
  pub caps : ℕ
  pub provider : Provider

abbrev pub shares_of : BinaryWord → Data → Result EntryResources ListFault
shares_of word entry = do
  ram ← value_or (bad field.Quantum expect.Amount) (amount_at (codes "quantum") entry)
  caps ← value_or (bad field.Caps expect.Caps) (whole_at (codes "caps") 0 4294967295 entry)
  provider ← value_or (bad field.Provides (provides_expected word)) (provider_of word (get (codes "provides") entry))
  Ok (record { ram = ram; caps = caps; provider = provider })

-- the entry by these, and what it starts
abbrev pub head_in_parts : ListPlace → Bool → SoFar → Data → Result EntryHead ListFault
head_in_parts place deeper so_far d = do
  entry ← object_of d
  named ← named_of so_far.entries place.init entry
  shares ← shares_of named.word entry
  route ← own_route (get (codes "route") entry)
  reserve ← reserve_of_entry shares.provider.binary entry
  own ← list_of_entry shares.provider.binary deeper so_far.met (get (codes "config") entry)
  binary ← with_kinds shares.provider.binary (get (codes "kinds") entry)
  Ok (record {
    entry = record {
      name = named.name;
      path = behind (codes "/") place.path named.name;
      label = behind (codes " -> ") place.label named.name;
      home = place.init;
      binary = binary;
      ram = shares.ram;
      caps = shares.caps;
      provides = shares.provider.provides;
      route = route;
      reserve = reserve;
      inner_route = own.route;
    };
    starts = own.starts;
  })
