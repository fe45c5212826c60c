-- A list of blocks in the order of their links. Each block holds a link, and so does its holder, which is no block: number
-- 0.
use Rattle.std.specs.Prelude.{◌≡◌, ℕ, ◌+◌, ◌-◌, ◌<◌, ◌≤◌, ◌==◌, true, if◌then◌else◌, List, [], ◌∷◌}
use Rattle.std.proofs.Common.{zero, suc}
use Rattle.sliced_heap.specs.Chain.{has_no_repeat}
use Rattle.session_nodes.specs.Node.{word_from}

-- the link of a holder begins the order of these blocks: each holds the next one's address, and the last one 0
abbrev pub Leads : (ℕ → ℕ) → ℕ → List ℕ → Type 0
Leads link holder [] = link holder ≡ 0
Leads link holder (block ∷ rest) = (link holder ≡ block) × Leads link block rest

-- the last of these blocks, or their holder if there is none
abbrev pub last_of : ℕ → List ℕ → ℕ
last_of holder [] = holder
last_of holder (block ∷ rest) = last_of block rest

-- at most n blocks in the order of the links from a holder on
abbrev pub along : (ℕ → ℕ) → ℕ → ℕ → List ℕ
along link zero holder = []
along link (suc n) holder = if link holder == 0 then [] else link holder ∷ along link n (link holder)

-- the block to which a block's link leads; none, number 0, from none
abbrev pub led_to : (ℕ → ℕ) → ℕ → ℕ
led_to link block = if block == 0 then 0 else link block

-- the block to which so many links lead from a block on, or 0 after the last one
abbrev pub followed : (ℕ → ℕ) → ℕ → ℕ → ℕ
followed link zero block = block
followed link (suc n) block = led_to link (followed link n block)

-- a page has the links of those of the first n blocks on the way from a block that are so near to an address that the links
-- lie in the page: that of the block at this address would be at its front
abbrev pub ShowsLinks : List ℕ → ℕ → (ℕ → ℕ) → ℕ → ℕ → Type 0
ShowsLinks page front link block n =
    (k : ℕ) → k < n → front ≤ followed link k block → followed link k block ≤ front + 4088 →
    word_from page (followed link k block - front) ≡ link (followed link k block)

-- the first link begins the order of these blocks; none is in it twice and none is the holder
pub record IsLine (link : ℕ → ℕ) (blocks : List ℕ) : Type 0 where
  pub leads : Leads link 0 blocks
  pub once : has_no_repeat (0 ∷ blocks) ≡ true
