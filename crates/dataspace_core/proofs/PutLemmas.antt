-- Bytes put into a dataspace, one piece behind another.
use Rattle.std.proofs.Common.{◌≡◌, ℕ, ◌+◌, ◌≤◌, List, [], ◌++◌, length, refl, sym, ap, subst, ◌∙◌, unwrap_or, arith, rules}
use Rattle.std.proofs.lemmas.Bool.Decides.{nat_tests}
use Rattle.std.specs.FinMap.{insert}
use Rattle.std.specs.Prelude.{Option}
use Rattle.trade_base.specs.Bytes.{with_bytes}
use Rattle.trade_base.proofs.BytesLemmas.{length-with_bytes, with_bytes-more, with_bytes-nothing}
use Rattle.own_model.specs.NatMap.{NatMap}
use Rattle.own_model.proofs.NatMapLemmas.{natmaps, same, value_at, insert_back, get-insert_same, IsSome-insert_same}
use Rattle.dataspace_core.specs.Store.{Store, Space, Exists, space_at, with_bytes_at}

-- what is put in place of what was put before
pub put_again : {X : Type 0} (m : NatMap X) (k : ℕ) (v w : X) → insert (insert m k v) k w ≡ insert m k w
put_again m k v w = same _ _ (λ q. grind (arith, natmaps))

module _ (store : Store) (ds : ℕ) (exists : Exists store ds) where
  -- no bytes put leave all as it was
  pub put_nothing : (offset : ℕ) → with_bytes_at store ds offset [] ≡ store
  put_nothing offset = grind (arith, nat_tests, natmaps, value_at, with_bytes-nothing, insert_back)

  -- once bytes are put
  module _ (now : Store) (offset : ℕ) (done : List ℕ) (put : now ≡ with_bytes_at store ds offset done) (fits : offset + length done ≤ length (space_at store ds).bytes) where
    -- the dataspace is there
    pub put_there : Exists now ds
    put_there = subst (λ (s : Store). Exists s ds) (sym put) (IsSome-insert_same _ _ _ _ refl)

    put_space : space_at now ds ≡ record { payer = (space_at store ds).payer; bytes = with_bytes (space_at store ds).bytes offset done }
    put_space = ap (λ (s : Store). space_at s ds) put ∙ ap (λ (o : Option Space). unwrap_or o (record { payer = 0; bytes = [] })) (get-insert_same store.spaces ds _ ds refl)

    -- and as long as it was
    pub put_long : length (space_at now ds).bytes ≡ length (space_at store ds).bytes
    put_long = ap (λ (s : Space). length s.bytes) put_space ∙ length-with_bytes (space_at store ds).bytes offset done fits

    -- and more that follow are put with them
    pub put_more : (more : List ℕ) → with_bytes_at now ds (offset + length done) more ≡ with_bytes_at store ds offset (done ++ more)
    put_more more = search (rules, put_space, put_again, with_bytes-more)
