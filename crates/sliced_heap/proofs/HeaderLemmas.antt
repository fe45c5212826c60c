-- What bytes put over those of a dataspace leave; a word of a header that is stored reads back, and all else stays.
use Rattle.std.proofs.Common.{◌≡◌, ◌<◌, ◌≤◌, ◌^◌, ◌+◌, ◌-◌, ℕ, true, ◌⊎◌, List, [], ◌∷◌, drop, length, refl, ap, ◌∙◌, unwrap_or, arith, rules}
use Rattle.std.proofs.lemmas.Bool.{cases_eq}
use Rattle.std.proofs.lemmas.Bool.Decides.{nat_tests}
use Rattle.std.specs.Prelude.{Option, Some, slice_range}
use Rattle.std.specs.Option.{option_map}
use Rattle.std.specs.FinMap.{get}
use Rattle.trade_base.specs.Bytes.{with_bytes}
use Rattle.trade_base.specs.Word.{word_of, word_bytes}
use Rattle.trade_base.proofs.BytesLemmas.{slice_range-with_bytes}
use Rattle.trade_base.proofs.ElsewhereLemmas.{range_before, range_after, drop_after}
use Rattle.trade_base.proofs.WordLemmas.{word_of-word_bytes, length-word_bytes}
use Rattle.own_model.proofs.Totals.{len-insert_at}
use Rattle.dataspace_core.specs.Store.{Part, bytes_of, part_with_bytes}
use Rattle.sliced_heap.specs.Sliced.{word_at, HasHeader, HeadersChange, IsStored}
use Rattle.sliced_heap.specs.Chain.{link_to, is_listed}
use Rattle.dataspace_core.proofs.PokedLaws.{poked, poked_there, poked_other, poked_alike, poked_length}
use Rattle.dataspace_core.proofs.WindowLaws.{length_some}

-- the words of a dataspace whose bytes stay
pub word_same : (p q : Part) (offset b : ℕ) → get q.spaces b ≡ get p.spaces b → word_at q offset b ≡ word_at p offset b
unfolding word_at
word_same p q offset b e = ap (λ (o : Option (List ℕ)). word_of (slice_range (unwrap_or o []) offset (offset + 8))) e

-- what is read of a dataspace that is there
bytes_of-there : (p : Part) (ds : ℕ) (bytes : List ℕ) → get p.spaces ds ≡ Some bytes → bytes_of p ds ≡ bytes
bytes_of-there p ds bytes there = ap (λ (o : Option (List ℕ)). unwrap_or o []) there

-- a part after bytes are put over those of a dataspace that is there
module _ (p : Part) (ds offset : ℕ) (put bytes : List ℕ) (there : get p.spaces ds ≡ Some bytes) (fits : offset + length put ≤ length bytes) where
  abbrev after : Part
  after = poked p ds offset put bytes there fits

  bytes_then : bytes_of after ds ≡ with_bytes bytes offset put
  bytes_then = bytes_of-there after ds _ (poked_there p ds offset put bytes there fits)

  -- a word before them stays, or after them, or of another dataspace
  pub poked_word : (other b : ℕ) → (other + 8 ≤ offset) ⊎ (offset + length put ≤ other) → word_at after other b ≡ word_at p other b
  unfolding word_at
  poked_word other b clear = search (rules, bytes_then, range_before, range_after, bytes_of-there, poked_other, cases_eq)

  -- so does what lies behind headers, where they are put before it
  pub poked_payload : offset + length put ≤ 32 → (q : ℕ) → option_map (drop 32) (get after.spaces q) ≡ option_map (drop 32) (get p.spaces q)
  poked_payload within = poked_alike p ds offset put bytes there fits (drop 32) (drop_after bytes offset put 32 within fits)

-- a part after a word is stored in the header of a dataspace that is there
module _ (p : Part) (ds offset word : ℕ) (bytes : List ℕ) (there : get p.spaces ds ≡ Some bytes) (small : word < 2 ^ 64) (within : offset + 8 ≤ 32) (long : 32 ≤ length bytes) where
  abbrev stored : Part
  stored = part_with_bytes p ds offset (word_bytes word)

  -- it fits
  fits : offset + length (word_bytes word) ≤ length bytes
  fits = let l = length-word_bytes word in omega (arith, within, long, l)

  -- the word reads back
  word_stored : word_at stored offset ds ≡ word
  unfolding word_at
  word_stored = search (rules, poked_there, fits, length-word_bytes, slice_range-with_bytes, word_of-word_bytes)

  -- and all else stays
  pub is_stored : IsStored ds offset word p stored
  is_stored =
      let l = length-word_bytes word in
      record {
        reads = word_stored;
        elsewhere = λ other clear. poked_word p ds offset (word_bytes word) bytes there fits other ds (rw l clear);
        others = λ other b apart. word_same p stored other b (poked_other p ds offset (word_bytes word) bytes there fits b apart);
        headers = record {
          account = refl;
          payloads = poked_payload p ds offset (word_bytes word) bytes there fits (omega (arith, l, within));
          lengths = poked_length p ds offset (word_bytes word) bytes there fits;
          others = λ k none. poked_other p ds offset (word_bytes word) bytes there fits k (grind (arith, nat_tests));
          count = len-insert_at p.spaces ds _ bytes there;
        };
      }

-- ---- one change of headers after another

-- a change of headers of some blocks is one of more
pub headers_wider : (few more : List ℕ) (p q : Part) → ((k : ℕ) → is_listed few k ≡ true → is_listed more k ≡ true) → HeadersChange few p q → HeadersChange more p q
headers_wider few more p q wider h = search (rules, nat_tests)

-- two changes are one
pub headers_then : (blocks : List ℕ) (p q r : Part) → HeadersChange blocks p q → HeadersChange blocks q r → HeadersChange blocks p r
headers_then blocks p q r g h = search (rules)

-- a block of a list alone is listed in it
pub one_listed : (b : ℕ) (blocks : List ℕ) → is_listed blocks b ≡ true → (k : ℕ) → is_listed (b ∷ []) k ≡ true → is_listed blocks k ≡ true
one_listed b blocks there k h = let e : k ≡ b = grind (arith, nat_tests) in rw e there

-- a dataspace with room for a header keeps it
pub has_header_still : (blocks : List ℕ) (p q : Part) (ds : ℕ) → HeadersChange blocks p q → HasHeader p ds → HasHeader q ds
has_header_still blocks p q ds h header =
    let found = length_some (get q.spaces ds) (length header.bytes) (h.lengths ds ∙ ap (option_map length) header.there) in
    record { bytes = found.0; there = found.1; long = let l = header.long in let e = found.2 in omega (arith, l, e) }

-- a store in a listed block changes headers of the list
pub stored_in : (blocks : List ℕ) (ds offset word : ℕ) (p q : Part) → is_listed blocks ds ≡ true → IsStored ds offset word p q → HeadersChange blocks p q
stored_in blocks ds offset word p q there h = headers_wider (ds ∷ []) blocks p q (one_listed ds blocks there) h.headers

-- the block to which a link leads, as a list
pub of_link : (link : ℕ) → (blocks : List ℕ) × ((b : ℕ) → link ≡ link_to b → is_listed blocks b ≡ true)
of_link link = ((link - 1) ∷ [], λ b is. let e : b ≡ link - 1 = omega arith in grind (arith, nat_tests))
