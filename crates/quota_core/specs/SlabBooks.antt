-- How a slab of entries keeps books.
use Rattle.std.specs.Prelude.{ℕ, ◌-◌}
use Rattle.std.specs.FinMap.{remove}
use Rattle.slab.specs.Slab.{Slab, slab_len}
use Rattle.own_model.specs.Account.{Account}
use Rattle.own_model.specs.NatMap.{NatMap}
use Rattle.quota_core.specs.Books.{Books}
use Rattle.quota_core.specs.SlabMap.{map_of}
use Rattle.quota_core.specs.declared.books.AccountEntry.{AccountEntry}

-- the accounts of a slab of entries
abbrev pub accounts_of : Slab AccountEntry → NatMap Account
accounts_of entries = map_of (λ e. e.account) entries

-- their parents, except the root's
abbrev pub parents_of : Slab AccountEntry → ℕ → NatMap ℕ
parents_of entries root = remove (map_of (λ e. e.parent.0) entries) root

-- the books of a slab of entries, with the root under this key: there is room for as many accounts more as find a place
-- in the memory that the slab has
abbrev pub books_of : Slab AccountEntry → ℕ → Books
books_of entries root = record {
  accounts = accounts_of entries;
  parents = parents_of entries root;
  root = root;
  room = entries.capacity - slab_len entries;
}
