-- The links of a free block as bytes.
use Rattle.std.specs.Prelude.{ℕ, ◌+◌, List, ◌++◌, slice_range}
use Rattle.trade_base.specs.Word.{word_of, word_bytes}
use Rattle.avl_tree.specs.declared.node.Links.{Links}

-- the bytes of the two links and the height
abbrev pub links_bytes : Links → List ℕ
links_bytes links = word_bytes links.left ++ word_bytes links.right ++ word_bytes links.high

-- the word at an offset of a page
abbrev pub page_word : List ℕ → ℕ → ℕ
page_word page offset = word_of (slice_range page offset (offset + 8))

-- the links at an offset of a page
abbrev pub page_links : List ℕ → ℕ → Links
page_links page offset = record {
  left = page_word page offset;
  right = page_word page (offset + 8);
  high = page_word page (offset + 16);
}
