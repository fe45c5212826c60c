-- What bytes put over those of a dataspace leave of a part.
use Rattle.std.proofs.Common.{◌≡◌, ◌≢◌, ◌≤◌, ◌+◌, ℕ, List, [], length, refl, ap, ◌∙◌, unwrap_or, rules}
use Rattle.std.proofs.lemmas.Bool.{cases_eq}
use Rattle.std.specs.Prelude.{Option, Some}
use Rattle.std.specs.Option.{option_map}
use Rattle.std.specs.FinMap.{get}
use Rattle.trade_base.specs.Bytes.{with_bytes}
use Rattle.trade_base.proofs.BytesLemmas.{length-with_bytes}
use Rattle.own_model.proofs.NatMapLemmas.{get-insert_same, get-insert_other}
use Rattle.dataspace_core.specs.Store.{Part, part_with_bytes}

module _ (p : Part) (ds offset : ℕ) (put bytes : List ℕ) (there : get p.spaces ds ≡ Some bytes) (fits : offset + length put ≤ length bytes) where
  abbrev pub poked : Part
  poked = part_with_bytes p ds offset put

  -- the bytes that it has then
  pub poked_there : get poked.spaces ds ≡ Some (with_bytes bytes offset put)
  poked_there = get-insert_same p.spaces ds _ ds refl ∙ ap (λ (o : Option (List ℕ)). Some (with_bytes (unwrap_or o []) offset put)) there

  -- other dataspaces stay
  pub poked_other : (q : ℕ) → q ≢ ds → get poked.spaces q ≡ get p.spaces q
  poked_other q apart = get-insert_other p.spaces ds _ q apart

  -- what is told of the bytes alike, before and after, stays of each dataspace
  pub poked_alike : {X : Type 0} (f : List ℕ → X) → f (with_bytes bytes offset put) ≡ f bytes → (q : ℕ) → option_map f (get poked.spaces q) ≡ option_map f (get p.spaces q)
  poked_alike f alike q = search (rules, poked_there, poked_other, cases_eq)

  -- so the lengths stay
  pub poked_length : (q : ℕ) → option_map length (get poked.spaces q) ≡ option_map length (get p.spaces q)
  poked_length = poked_alike length (length-with_bytes bytes offset put fits)
