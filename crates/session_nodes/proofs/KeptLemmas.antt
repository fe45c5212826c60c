-- Nodes that stay while others are created, changed and freed.
use Rattle.std.proofs.Common.{rules, ◌≡◌, ◌≢◌, ℕ, zero, suc, ◌-◌, ◌<◌, ◌≤◌, true, false, cond, eqb, List, [], ◌∷◌, ◌++◌, length, take, Option, refl, sym, ap, subst, ◌∙◌, inl, inr, arith}
use Rattle.std.proofs.lemmas.Bool.{cases_eq}
use Rattle.std.proofs.lemmas.Bool.Decides.{nat_tests}
use Rattle.std.specs.Prelude.{IsSome}
use Rattle.std.specs.Option.{unwrap_or}
use Rattle.std.specs.FinMap.{get, remove, len}
use Rattle.own_model.specs.NatMap.{NatMap}
use Rattle.own_model.specs.OwnHeap.{OwnHeap, chunk_with, offset_of}
use Rattle.own_model.specs.Sliced.{sliced_header, sliced_size}
use Rattle.own_model.proofs.NatMapLemmas.{some_of, get-remove}
use Rattle.own_model.proofs.Totals.{len-remove_at}
use Rattle.sliced_heap.specs.Chain.{is_listed, has_no_repeat}
use Rattle.session_nodes.specs.Order.{AllStay, OthersStay, Stays, node_at, link_in, nodes_from, bytes_at, HoldsNode, StandAt}
use Rattle.session_nodes.specs.Links.{last_of}
use Rattle.session_nodes.proofs.LinkLemmas.{unlisted, listed_first, listed_later, listed_append, once_first, once_later, last_listed, once_appended, once_without, once_apart, leads_kept, leads_appended, leads_without, along_line}

-- ---- the blocks are found along the links

-- keys of a map, none twice, are no more than it has
pub few_keys : {X : Type 0} (xs : List ℕ) (m : NatMap X) → has_no_repeat xs ≡ true → ((b : ℕ) → is_listed xs b ≡ true → IsSome (get m b)) → length xs ≤ len m
few_keys [] m once there = omega arith
few_keys {X} (x ∷ xs) m once there =
    let first = some_of (get m x) (there x (listed_first x xs)) in
    let less = len-remove_at m x first.0 first.1 in
    let others : (b : ℕ) → is_listed xs b ≡ true → IsSome (get (remove m x) b) =
    λ b t. let apart = unlisted xs x b (once_first x xs once) t in let was = there b (listed_later x b xs t) in
    subst (λ (o : Option X). IsSome o) (sym (get-remove m x b ∙ grind (arith, nat_tests))) was in
    let rest = few_keys xs (remove m x) (once_later x xs once) others in
    omega (arith, rest, less)

module _ (first last : ℕ) (nodes : OwnHeap) (contents : NatMap (List ℕ)) (blocks : List ℕ) (stand : StandAt first last nodes contents blocks) where
  -- they are no more than the heap has payloads
  pub blocks_few : length blocks ≤ len nodes.payloads
  blocks_few = few_keys blocks nodes.payloads (once_later 0 blocks stand.line.once) (λ b t. (stand.each b t).there.there)

  -- the blocks are those of the value
  pub blocks_are : nodes_from first nodes ≡ blocks
  blocks_are = search (rules, along_line, once_first, blocks_few)

  -- none of them is at 0
  pub listed_nonzero : (b : ℕ) → is_listed blocks b ≡ true → b ≢ 0
  listed_nonzero b t = unlisted blocks 0 b (once_first 0 blocks stand.line.once) t

-- ---- a node stays

-- the front of what is the same, or of nothing
pub bytes_by : (n : ℕ) (o p : Option (List ℕ)) → (0 < n → o ≡ p) → take n (unwrap_or o []) ≡ take n (unwrap_or p [])
bytes_by zero o p same = refl
bytes_by (suc n) o p same = ap (λ x. take (suc n) (unwrap_or x [])) (same (omega arith))

-- a node that stays through one change and the next
pub stays_then : (nodes mid later : OwnHeap) (contents between after : NatMap (List ℕ)) (b : ℕ) → Stays nodes mid contents between b → Stays mid later between after b → Stays nodes later contents after b
stays_then nodes mid later contents between after b first second = record {
  name = second.name ∙ first.name;
  size = second.size ∙ first.size;
  content = second.content ∙ first.content;
  there = second.there;
  chunk = second.chunk ∙ first.chunk;
  offset = second.offset ∙ first.offset;
  user = second.user ∙ first.user;
  bytes = λ some. ap (get after) (sym first.content) ∙ second.bytes (subst (λ n. 0 < n) (sym first.size) some) ∙ ap (get between) first.content ∙ first.bytes some;
}

-- the chunks in which addresses lie stay
abbrev pub ChunksStay : OwnHeap → OwnHeap → Type 0
ChunksStay nodes later = (a : ℕ) → chunk_with later a ≡ chunk_with nodes a

-- the offsets of addresses in their chunks stay
abbrev pub OffsetsStay : OwnHeap → OwnHeap → Type 0
OffsetsStay nodes later = (a : ℕ) → offset_of later a ≡ offset_of nodes a

module _ (nodes later : OwnHeap) (contents after : NatMap (List ℕ)) (b : ℕ) (stays : Stays nodes later contents after b) where
  pub same_bytes : bytes_at after (node_at later b) ≡ bytes_at contents (node_at nodes b)
  same_bytes = search (rules, bytes_by)

  pub is_node : length nodes.shape.chunks ≤ length later.shape.chunks → HoldsNode nodes contents b → HoldsNode later after b
  is_node more is = record {
    there = stays.there;
    place = omega (arith, stays.chunk, more, is.place);
    content = λ some.
        let was : 0 < (node_at nodes b).size = subst (λ n. 0 < n) stays.size some in
        let has = is.content was in
        record {
          payload = has.payload;
          there = ap (get after) stays.content ∙ stays.bytes was ∙ has.there;
          long = has.long ∙ ap (λ n. sliced_size n - sliced_header) (sym stays.size);
        };
  }

-- ---- the last one

-- after one is appended
last_appended : (holder : ℕ) (xs : List ℕ) (a : ℕ) → last_of holder (xs ++ a ∷ []) ≡ a
last_appended holder [] a = refl
last_appended holder (x ∷ xs) a = last_appended x xs a

-- after one is removed
last_without : (holder : ℕ) (before behind : List ℕ) (x : ℕ) → has_no_repeat (before ++ x ∷ behind) ≡ true →
    cond (eqb (last_of holder (before ++ x ∷ behind)) x) (last_of holder before) (last_of holder (before ++ x ∷ behind)) ≡ last_of holder (before ++ behind)
last_without holder [] [] x once = let e : eqb x x ≡ true = grind (arith, nat_tests) in rw e refl
last_without holder [] (y ∷ behind) x once = grind (arith, nat_tests, last_listed, unlisted, once_first)
last_without holder (b ∷ before) behind x once = last_without b before behind x (once_later b (before ++ x ∷ behind) once)

-- ---- all nodes

module _ (first last : ℕ) (nodes later : OwnHeap) (contents after : NatMap (List ℕ)) (blocks : List ℕ) (stand : StandAt first last nodes contents blocks)
    (more : length nodes.shape.chunks ≤ length later.shape.chunks) where
  -- contents of nodes that stay are as far apart as they were
  apart_stays : (a b : ℕ) → Stays nodes later contents after a → Stays nodes later contents after b → is_listed blocks a ≡ true → is_listed blocks b ≡ true →
      0 < (node_at later a).size → 0 < (node_at later b).size → (node_at later a).content ≡ (node_at later b).content → a ≡ b
  apart_stays a b one other in_a in_b some_a some_b same = search rules

  -- all stay, and the links among them
  pub stand_kept : AllStay nodes later contents after blocks →
      ((b : ℕ) → is_listed blocks b ≡ true → (node_at later b).next ≡ (node_at nodes b).next) → StandAt first last later after blocks
  stand_kept stays links = search (rules, leads_kept, is_node, apart_stays)

  -- one block's node is another, with a content of its own, and the others and all links stay
  module _ (x : ℕ) (in_x : is_listed blocks x ≡ true) (stays : OthersStay nodes later contents after blocks x)
      (links : (b : ℕ) → is_listed blocks b ≡ true → (node_at later b).next ≡ (node_at nodes b).next) (file : HoldsNode later after x)
      (own : (b : ℕ) → is_listed blocks b ≡ true → b ≢ x → 0 < (node_at later x).size → 0 < (node_at nodes b).size → (node_at later x).content ≢ (node_at nodes b).content) where
    own_later : (b : ℕ) → is_listed blocks b ≡ true → b ≢ x → 0 < (node_at later x).size → 0 < (node_at later b).size → (node_at later x).content ≢ (node_at later b).content
    own_later b t other some_x some_b same = grind (arith, nat_tests)

    apart_set : (a b : ℕ) → is_listed blocks a ≡ true → is_listed blocks b ≡ true → 0 < (node_at later a).size → 0 < (node_at later b).size → (node_at later a).content ≡ (node_at later b).content → a ≡ b
    apart_set a b s t some_a some_b same = elim (cases_eq a x) [
      | inl at_a ↦ elim (cases_eq b x) [
        | inl at_b ↦ at_a ∙ sym at_b
        | inr other ↦ absurd (own_later b t other (subst (λ y. 0 < (node_at later y).size) at_a some_a) some_b (ap (λ y. (node_at later y).content) (sym at_a) ∙ same))
      ]
      | inr other ↦ elim (cases_eq b x) [
        | inl at_b ↦ absurd (own_later a s other (subst (λ y. 0 < (node_at later y).size) at_b some_b) some_a (ap (λ y. (node_at later y).content) (sym at_b) ∙ sym same))
        | inr apart ↦ apart_stays a b (stays a s other) (stays b t apart) s t some_a some_b same
      ]
    ]

    pub stand_set : StandAt first last later after blocks
    stand_set = search (rules, leads_kept, is_node, cases_eq, apart_set)

  -- a block more, of a node without bytes, after the last one
  module _ (first_later a : ℕ) (stays : AllStay nodes later contents after blocks)
      (links : (b : ℕ) → is_listed (0 ∷ blocks) b ≡ true → b ≢ last → link_in first_later later b ≡ link_in first nodes b)
      (linked : link_in first_later later last ≡ a) (end : link_in first_later later a ≡ 0) (fresh : is_listed (0 ∷ blocks) a ≡ false)
      (file : HoldsNode later after a) (empty : (node_at later a).size ≡ 0) where
    listed_in : (b : ℕ) → is_listed (blocks ++ a ∷ []) b ≡ true → b ≢ a → is_listed blocks b ≡ true
    listed_in b t other = let all = listed_append blocks (a ∷ []) b in grind (arith, nat_tests)

    pub stand_appended : StandAt first_later a later after (blocks ++ a ∷ [])
    stand_appended = search (rules, leads_appended, once_appended, last_appended, is_node, listed_in, cases_eq, apart_stays)

  -- a block less
  module _ (first_later last_later x : ℕ) (before behind : List ℕ) (is : blocks ≡ before ++ x ∷ behind)
      (stays : OthersStay nodes later contents after blocks x)
      (links : (b : ℕ) → is_listed (0 ∷ blocks) b ≡ true → b ≢ x → b ≢ last_of 0 before → link_in first_later later b ≡ link_in first nodes b)
      (linked : link_in first_later later (last_of 0 before) ≡ (node_at nodes x).next)
      (last_is : last_later ≡ cond (eqb last x) (last_of 0 before) last) where
    once_all : has_no_repeat (0 ∷ (before ++ x ∷ behind)) ≡ true
    once_all = subst (λ xs. has_no_repeat (0 ∷ xs) ≡ true) is stand.line.once

    in_all : (b : ℕ) → is_listed (before ++ behind) b ≡ true → (is_listed blocks b ≡ true) × (b ≢ x)
    in_all b t = grind (arith, nat_tests, listed_append, once_apart, once_later, once_all, unlisted)

    x_some : x ≢ 0
    x_some = listed_nonzero first last nodes contents blocks stand x (let l = listed_append before (x ∷ behind) x in ap (λ xs. is_listed xs x) is ∙ grind (arith, nat_tests))

    link_x : link_in first nodes x ≡ (node_at nodes x).next
    link_x = let e : eqb x 0 ≡ false = let s = x_some in grind (arith, nat_tests) in rw e refl

    in_holder : (b : ℕ) → is_listed (0 ∷ (before ++ behind)) b ≡ true → is_listed (0 ∷ blocks) b ≡ true
    in_holder b t = search (rules, listed_first, listed_later, in_all, cases_eq)

    not_x : (b : ℕ) → is_listed (0 ∷ (before ++ behind)) b ≡ true → b ≢ x
    not_x b t = search (rules, x_some, in_all, cases_eq)

    pub stand_without : StandAt first_later last_later later after (before ++ behind)
    stand_without = search (rules, leads_without, once_all, in_holder, not_x, link_x, once_without, last_without, once_later, in_all, is_node, apart_stays)
