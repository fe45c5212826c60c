-- Nodes stay where a new content is taken that no node has.
use Rattle.std.proofs.Common.{◌≡◌, ◌≢◌, ℕ, ◌+◌, ◌-◌, ◌<◌, ◌==◌, cond, true, false, true≢false, List, ◌∷◌, ◌++◌, refl, sym, ap, subst, ◌∙◌, arith}
use Rattle.std.proofs.lemmas.Bool.Decides.{nat_tests}
use Rattle.std.proofs.lemmas.Option.{none-some}
use Rattle.std.specs.Prelude.{None, Result, Ok, Err, MatchResult, IfOk, is_ok}
use Rattle.std.specs.FinMap.{get}
use Rattle.own_model.specs.Account.{Account, charged}
use Rattle.own_model.specs.OwnState.{zeros}
use Rattle.own_model.specs.Sliced.{sliced_header, sliced_size}
use Rattle.own_model.proofs.ByteLemmas.{length-zeros}
use Rattle.own_model.proofs.NatMapLemmas.{get-insert_same, get-insert_other}
use Rattle.session_nodes.specs.Frame.{is_listed}
use Rattle.session_nodes.specs.Calls.{content_taken}
use Rattle.session_nodes.specs.Index.{IsIndexed}
use Rattle.session_nodes.specs.Node.{StoredNode}
use Rattle.session_nodes.specs.NodeList.{HasNodes, IsFound, IsOwn}
use Rattle.session_nodes.specs.Order.{node_at, HasContent, HoldsNode, StandAt, Stays}
use Rattle.session_nodes.specs.SoundHeaps.{Stock}
use Rattle.session_nodes.specs.declared.node_list.NodeList.{NodeList}
use Rattle.session_nodes.proofs.KeptLemmas.{blocks_are, stand_kept}
use Rattle.object_service.specs.Calls.{TakesContent}

-- ---- what is taken

-- nothing is charged for no bytes
nothing_charged : (account : Account) → account ≡ charged account 0 0
nothing_charged account =
    let ram : account.ram_used ≡ account.ram_used + 0 = omega arith in
    let caps : account.caps_used ≡ account.caps_used + 0 = omega arith in
    λ i. record account { ram_used = ram i; caps_used = caps i }

-- no content
pub takes_none : (stock : Stock) (size : ℕ) → size ≡ 0 → TakesContent size 0 stock stock
takes_none stock size none =
    let zero : (size == 0) ≡ true = grind (arith, nat_tests) in
    record {
      account = nothing_charged stock.account ∙ sym (λ i. charged stock.account (cond (zero i) 0 (sliced_size size)) (cond (zero i) 0 1));
      nodes = refl;
      free = λ some. absurd (omega (arith, some, none));
      payload = zeros (sliced_size size - sliced_header);
      there = λ some. absurd (omega (arith, some, none));
      long = length-zeros (sliced_size size - sliced_header);
      others = λ a apart. refl;
    }

-- a content
pub takes_some : (size content : ℕ) (old new : Stock) → 0 < size → get old.contents content ≡ None → new ≡ content_taken size content old → TakesContent size content old new
takes_some size content old new some free is =
    let other : (size == 0) ≡ false = grind (arith, nat_tests) in
    record {
      account = ap (λ (s : Stock). s.account) is ∙ sym (λ i. charged old.account (cond (other i) 0 (sliced_size size)) (cond (other i) 0 1));
      nodes = ap (λ (s : Stock). s.nodes) is;
      free = λ _. free;
      payload = zeros (sliced_size size - sliced_header);
      there = λ _. ap (λ (s : Stock). get s.contents content) is ∙ get-insert_same old.contents content (zeros (sliced_size size - sliced_header)) content refl;
      long = length-zeros (sliced_size size - sliced_header);
      others = λ a apart. ap (λ (s : Stock). get s.contents a) is ∙ get-insert_other old.contents content (zeros (sliced_size size - sliced_header)) a (apart some);
    }

-- what holds of an accepted call holds after its error is mapped
pub if_ok_mapped : {T E D : Type 0} (self : Result T E) (mapped : Result T D) (Q : E → Type 0) {A B P : T → Type 0} → MatchResult self (λ y. mapped ≡ Ok y) Q → is_ok mapped ≡ is_ok self →
    IfOk self A → IfOk self B → ((y : T) → A y → B y → P y) → IfOk mapped P
if_ok_mapped (Ok y) mapped Q {A} {B} {P} cases variant a b f = subst (λ r. IfOk r P) (sym cases) (f y a b)
if_ok_mapped (Err e) (Ok x) Q cases variant a b f = absurd (true≢false variant)
if_ok_mapped (Err e) (Err d) Q cases variant a b f = a

-- ---- nodes

module _ (list : NodeList) (was taken : Stock) (size content : ℕ) (takes : TakesContent size content was taken) where
  -- no node has the new content
  not_new : (b : ℕ) → HoldsNode was.nodes was.contents b → 0 < size → 0 < (node_at was.nodes b).size → (node_at was.nodes b).content ≢ content
  not_new b holds some some_b e = let has = holds.content some_b in none-some has.payload (sym (takes.free some) ∙ ap (get was.contents) (sym e) ∙ has.there)

  stays : (b : ℕ) → HoldsNode was.nodes was.contents b → Stays was.nodes was.nodes was.contents taken.contents b
  stays b holds = record {
    name = refl;
    size = refl;
    content = refl;
    there = holds.there;
    chunk = refl;
    offset = refl;
    user = refl;
    bytes = λ some_b. takes.others (node_at was.nodes b).content (λ some. not_new b holds some some_b);
  }

  stand_taken : (blocks : List ℕ) → StandAt list.first list.last was.nodes was.contents blocks → StandAt list.first list.last taken.nodes taken.contents blocks
  stand_taken blocks stand =
      subst (λ n. StandAt list.first list.last n taken.contents blocks) (sym takes.nodes)
      (stand_kept list.first list.last was.nodes was.nodes was.contents taken.contents blocks stand (omega arith) (λ b t. stays b (stand.each b t)) (λ b t. refl))

  -- the nodes are listed as they were
  pub nodes_taken : HasNodes list was → HasNodes list taken
  nodes_taken has = record {
    blocks = has.blocks;
    stand = stand_taken has.blocks has.stand;
    indexed = subst (IsIndexed list.first list.root list.recent) (sym takes.nodes) has.indexed;
  }

  -- and found where they were
  pub found_taken : (name : List ℕ) (previous address : ℕ) (node : StoredNode) → IsFound list.first list.last was.nodes was.contents name previous address node →
      IsFound list.first list.last taken.nodes taken.contents name previous address node
  found_taken name previous address node found = record {
    before = found.before;
    behind = found.behind;
    stand = stand_taken (found.before ++ address ∷ found.behind) found.stand;
    previous_is = found.previous_is;
    others = λ b t. subst (λ n. (node_at n b).name ≢ name) (sym takes.nodes) (found.others b t);
    named = found.named;
    node_is = found.node_is ∙ ap (λ n. node_at n address) (sym takes.nodes);
  }

  -- the new content is no node's
  pub own_taken : HasNodes list was → 0 < size → IsOwn list.first taken.nodes content
  own_taken has some =
      subst (λ n. IsOwn list.first n content) (sym takes.nodes)
      (λ b t some_b. not_new b (has.stand.each b (ap (λ bs. is_listed bs b) (sym (blocks_are list.first list.last was.nodes was.contents has.blocks has.stand)) ∙ t)) some some_b)

  -- and has so many bytes
  pub has_taken : (node : StoredNode) → 0 < size → HasContent taken.contents (record node { content = content; size = size })
  has_taken node some = record { payload = takes.payload; there = takes.there some; long = takes.long }
