-- The links of a free block: three words of a dataspace that follow one another.
use Rattle.std.proofs.Common.{◌≡◌, ℕ, ◌+◌, ◌*◌, ◌/◌, ◌%◌, ◌^◌, ◌<◌, ◌≤◌, List, ◌++◌, length, get_or, refl, sym, ap, subst, ◌∙◌, arith}
use Rattle.std.specs.Prelude.{slice_range}
use Rattle.trade_base.specs.Word.{word_of, word_bytes}
use Rattle.trade_base.proofs.WordLemmas.{length-word_bytes}
use Rattle.avl_tree.specs.declared.node.Links.{Links}
use Rattle.avl_alloc.specs.Words.{Words, IsWord, place_at, with_word}
use Rattle.avl_alloc.specs.FreeBlocks.{links_at, with_links}
use Rattle.dataspace_core.specs.Store.{Store, Exists, space_at, with_bytes_at}
use Rattle.dataspace_core.proofs.PutLemmas.{put_there, put_long, put_more}
use Rattle.dataspace_core.proofs.WriteLemmas.{two_long}
use Rattle.heap_core.specs.Words.{Around, word_from, word_in, bytes_in_store, around, bytes_around}
use Rattle.heap_core.specs.Links.{links_bytes, page_word, page_links}
use Rattle.heap_core.proofs.WordsLemmas.{range_in, range_whole, word_there, word_at_place, IsReached, is_reached, words_stored, around_kept}

-- ---- read

-- a word of the page that has an offset
page_word_is : (page bytes : List ℕ) (first q : ℕ) → page ≡ slice_range bytes (first / 4096 * 4096) (first / 4096 * 4096 + 4096) → length page ≡ 4096 → q % 8 ≡ 0 → q + 8 ≤ 4096 →
    page_word page q ≡ word_from bytes (first / 4096 * 4096 + q)
page_word_is page bytes first q is size aligned fits =
    let whole = range_whole bytes (first / 4096 * 4096) 4096 (omega arith) (sym (ap length is) ∙ size) in
    ap (λ p. word_of (slice_range p q (q + 8))) is
    ∙ sym (ap word_of (range_in bytes (first / 4096 * 4096) 4096 q 8 whole fits))
    ∙ sym (word_there bytes (first / 4096 * 4096 + q) (omega (arith, aligned)) (omega (arith, whole, fits)))

-- the links in one page
pub links_read : (page bytes : List ℕ) (offset place : ℕ) → offset % 16 ≡ 0 → place ≡ (offset + 16) % 4096 → place + 24 ≤ 4096 →
    page ≡ slice_range bytes ((offset + 16) / 4096 * 4096) ((offset + 16) / 4096 * 4096 + 4096) → length page ≡ 4096 →
    page_links page place ≡ links_at (word_from bytes) offset
links_read page bytes offset place even at fits is size =
    let word : (q o : ℕ) → q % 8 ≡ 0 → q + 8 ≤ 4096 → (offset + 16) / 4096 * 4096 + q ≡ o → page_word page q ≡ word_from bytes o = λ q o aligned inside there.
    page_word_is page bytes (offset + 16) q is size aligned inside ∙ ap (word_from bytes) there in
    λ i. record {
      left = word place (offset + 16) (omega (arith, even, at)) (omega (arith, fits)) (omega (arith, at)) i;
      right = word (place + 8) (offset + 24) (omega (arith, even, at)) (omega (arith, fits)) (omega (arith, at)) i;
      high = word (place + 16) (offset + 32) (omega (arith, even, at)) (omega (arith, fits)) (omega (arith, at)) i;
    }

-- the links of a chunk's block are those in its dataspace
pub links_at_place : (keys : List ℕ) (bytes : ℕ → List ℕ) (chunk offset ds : ℕ) → chunk < length keys → offset + 32 < 2 ^ 32 → get_or keys chunk 0 ≡ ds →
    links_at (word_in keys bytes) (place_at chunk offset) ≡ links_at (word_from (bytes ds)) offset
links_at_place keys bytes chunk offset ds there short is =
    let word : (k : ℕ) → k ≤ 32 → word_in keys bytes (place_at chunk offset + k) ≡ word_from (bytes ds) (offset + k) = λ k small.
    ap (word_in keys bytes) (omega arith) ∙ word_at_place keys bytes chunk (offset + k) there (omega (arith, short, small)) ∙ ap (λ d. word_from (bytes d) (offset + k)) is in
    λ i. record { left = word 16 (omega arith) i; right = word 24 (omega arith) i; high = word 32 (omega arith) i }

-- ---- stored

-- the links put one word after another
module _ (store : Store) (ds offset : ℕ) (links : Links) (exists : Exists store ds) (range : offset + 40 ≤ length (space_at store ds).bytes)
    (first : Store) (put : first ≡ with_bytes_at store ds (offset + 16) (word_bytes links.left)) where
  one_fits : offset + 16 + length (word_bytes links.left) ≤ length (space_at store ds).bytes
  one_fits = let long = length-word_bytes links.left in omega (arith, long, range)

  pub first_there : Exists first ds
  first_there = put_there store ds exists first (offset + 16) (word_bytes links.left) put one_fits

  pub first_range : offset + 24 + 8 ≤ length (space_at first ds).bytes
  first_range = let long = put_long store ds exists first (offset + 16) (word_bytes links.left) put one_fits in omega (arith, long, range)

  module _ (second : Store) (put_second : second ≡ with_bytes_at first ds (offset + 24) (word_bytes links.right)) where
    two_put : second ≡ with_bytes_at store ds (offset + 16) (word_bytes links.left ++ word_bytes links.right)
    two_put =
        put_second
        ∙ ap (λ n. with_bytes_at first ds n (word_bytes links.right)) (let long = length-word_bytes links.left in omega (arith, long))
        ∙ put_more store ds exists first (offset + 16) (word_bytes links.left) put one_fits (word_bytes links.right)

    two_fits : offset + 16 + length (word_bytes links.left ++ word_bytes links.right) ≤ length (space_at store ds).bytes
    two_fits = let long = two_long links.left links.right in omega (arith, long, range)

    pub second_there : Exists second ds
    second_there = put_there store ds exists second (offset + 16) (word_bytes links.left ++ word_bytes links.right) two_put two_fits

    pub second_range : offset + 32 + 8 ≤ length (space_at second ds).bytes
    second_range =
        let long = put_long store ds exists second (offset + 16) (word_bytes links.left ++ word_bytes links.right) two_put two_fits in
        omega (arith, long, range)

    pub links_put : (third : Store) → third ≡ with_bytes_at second ds (offset + 32) (word_bytes links.high) → third ≡ with_bytes_at store ds (offset + 16) (links_bytes links)
    links_put third put_third =
        put_third
        ∙ ap (λ n. with_bytes_at second ds n (word_bytes links.high)) (let long = two_long links.left links.right in omega (arith, long))
        ∙ put_more store ds exists second (offset + 16) (word_bytes links.left ++ word_bytes links.right) two_put two_fits (word_bytes links.high)

-- a word before that at an offset
word_before : (bytes : ℕ → ℕ) (chunk offset k : ℕ) → offset % 16 ≡ 0 → k % 8 ≡ 0 → k ≤ 32 → IsWord bytes chunk (offset + 32) → IsWord bytes chunk (offset + k)
word_before bytes chunk offset k even step less word =
    let within = word.within in let short = word.short in
    record { aligned = omega (arith, even, step); within = omega (arith, within, less); short = omega (arith, short, less) }

-- the links of a chunk's block are stored
module _ (keys : List ℕ) (store : Store) (chunk offset : ℕ) (links : Links) (even : offset % 16 ≡ 0) (word : IsWord (bytes_around (around keys store)) chunk (offset + 32))
    (left_small : links.left < 2 ^ 64) (right_small : links.right < 2 ^ 64) (high_small : links.high < 2 ^ 64) where
  abbrev pub ds : ℕ
  ds = get_or keys chunk 0

  pub reached : (k : ℕ) → k % 8 ≡ 0 → k ≤ 32 → IsReached keys store chunk (offset + k)
  reached k step less = is_reached keys store chunk (offset + k) (word_before _ chunk offset k even step less word)

  pub links_range : offset + 40 ≤ length (space_at store ds).bytes
  links_range = let long = (reached 32 refl (omega arith)).long in omega (arith, long)

  abbrev first : Store
  first = with_bytes_at store ds (offset + 16) (word_bytes links.left)

  abbrev second : Store
  second = with_bytes_at first ds (offset + 24) (word_bytes links.right)

  abbrev third : Store
  third = with_bytes_at second ds (offset + 32) (word_bytes links.high)

  abbrev pub linked : Store
  linked = with_bytes_at store ds (offset + 16) (links_bytes links)

  same : third ≡ linked
  same = links_put store ds offset links (reached 32 refl (omega arith)).exists links_range first refl second refl third refl

  around_first : around keys first ≡ around keys store
  around_first = around_kept keys store chunk (offset + 16) links.left (reached 16 refl (omega arith)) left_small

  at_first : IsReached keys first chunk (offset + 24)
  at_first = is_reached keys first chunk (offset + 24) (subst (λ (a : Around). IsWord (bytes_around a) chunk (offset + 24)) (sym around_first) (word_before _ chunk offset 24 even refl (omega arith) word))

  around_second : around keys second ≡ around keys store
  around_second = around_kept keys first chunk (offset + 24) links.right at_first right_small ∙ around_first

  at_second : IsReached keys second chunk (offset + 32)
  at_second = is_reached keys second chunk (offset + 32) (subst (λ (a : Around). IsWord (bytes_around a) chunk (offset + 32)) (sym around_second) word)

  -- the three words are others
  pub links_words : word_in keys (bytes_in_store linked) ≡ with_links (word_in keys (bytes_in_store store)) (place_at chunk offset) links
  links_words =
      let at : (w : Words) (k value : ℕ) → with_word w (place_at chunk (offset + k)) value ≡ with_word w (place_at chunk offset + k) value = λ w k value. ap (λ p. with_word w p value) (omega arith) in
      ap (λ (s : Store). word_in keys (bytes_in_store s)) (sym same)
      ∙ words_stored keys second chunk (offset + 32) links.high at_second high_small
      ∙ at _ 32 links.high
      ∙ ap (λ w. with_word w (place_at chunk offset + 32) links.high) (words_stored keys first chunk (offset + 24) links.right at_first right_small
      ∙ at _ 24 links.right
      ∙ ap (λ w. with_word w (place_at chunk offset + 24) links.right) (words_stored keys store chunk (offset + 16) links.left (reached 16 refl (omega arith)) left_small ∙ at _ 16 links.left))

  -- and nothing around changes
  pub links_around : around keys linked ≡ around keys store
  links_around =
      ap (λ (s : Store). around keys s) (sym same)
      ∙ around_kept keys second chunk (offset + 32) links.high at_second high_small
      ∙ around_second
