-- The objects after one has been created, has got other units, and has been removed.
use Rattle.std.proofs.Common.{◌≡◌, ◌≢◌, ℕ, ◌+◌, ◌*◌, ◌<◌, ◌≤◌, true, List, [], ◌∷◌, ◌++◌, length, map, sym, ap, subst, ◌∙◌, inl, inr, arith}
use Rattle.std.proofs.lemmas.Bool.{cases_eq}
use Rattle.std.proofs.lemmas.Bool.Decides.{nat_tests}
use Rattle.std.proofs.lemmas.Slice.Eq.{bytes_eq-Decides}
use Rattle.std.proofs.Math.Nat.{zero-mul}
use Rattle.std.specs.Prelude.{◌/◌, ◌%◌}
use Rattle.own_model.specs.Account.{charged, credited}
use Rattle.own_model.specs.Growth.{shape_given}
use Rattle.own_model.specs.Nodes.{with_first, without_first, content_ram, content_caps}
use Rattle.own_model.specs.ObjectKinds.{ObjectKind}
use Rattle.own_model.specs.ObjectService.{DeclaredObject, is_named, made_in, with_units, contents, contents_credited, resize_charged}
use Rattle.own_model.specs.OwnHeap.{OwnHeap}
use Rattle.session_nodes.specs.Frame.{is_listed, has_no_repeat}
use Rattle.session_nodes.specs.Node.{StoredNode}
use Rattle.session_nodes.specs.NodeList.{nodes_in, taken_in, Creates, HasNodes, IsFound, Removes, Replaces}
use Rattle.session_nodes.specs.Order.{node_at, nodes_from, user_at, Stays}
use Rattle.session_nodes.specs.SoundHeaps.{Stock}
use Rattle.session_nodes.specs.declared.node_list.NodeList.{NodeList}
use Rattle.session_nodes.proofs.KeptLemmas.{blocks_are, stays_then}
use Rattle.session_nodes.proofs.LinkLemmas.{listed_append, listed_front, map_kept, once_apart, once_later, unlisted}
use Rattle.session_nodes.proofs.SearchLemmas.{before_kept, behind_kept}
use Rattle.object_service.specs.Calls.{PutsWords, TakesContent}
use Rattle.object_service.specs.Kinds.{kind_at}
use Rattle.object_service.specs.Objects.{object_at, objects_of, number_at, numbers_of, unit_at, units_at, word_at, AreObjectNodes, IsObject}
use Rattle.object_service.proofs.FoundLemmas.{is_of_name, listed_found, none_before, none_named, objects_around}
use Rattle.object_service.proofs.KeptLemmas.{same_object, same_number, still_object}
use Rattle.object_service.proofs.ListLemmas.{append_map, with_behind, without_behind}
use Rattle.object_service.proofs.WordLemmas.{number_is, unit_is}

-- the two words of an object, by its number and the bytes of a unit
pub record HasKind (kinds : List ObjectKind) (kind : ObjectKind) (number word : ℕ) : Type 0 where
  pub is : kind_at kinds number ≡ kind
  pub word_is : word ≡ number * 65536 + kind.bytes
  pub low : kind.bytes < 65536

-- ---- an object more

module _ (list later : NodeList) (asked address : ℕ) (name : List ℕ) (old mid new : Stock) (word : ℕ)
    (creates : Creates list later asked address name old mid) (puts : PutsWords later address word 0 mid new) where
  listed_new : nodes_in later new ≡ nodes_in list old ++ address ∷ []
  listed_new = puts.listed ∙ creates.listed

  apart : (b : ℕ) → is_listed (nodes_in list old) b ≡ true → b ≢ address
  apart b t =
      let has : HasNodes later mid = creates.kept in
      let are = sym creates.listed ∙ blocks_are later.first later.last mid.nodes mid.contents has.blocks has.stand in
      let once = ap has_no_repeat are ∙ once_later 0 has.blocks has.stand.line.once in
      let fresh = once_apart (nodes_in list old) [] address once in
      let all = listed_append (nodes_in list old) [] address in
      unlisted (nodes_in list old) address b (grind (arith, nat_tests)) t

  stay : (b : ℕ) → is_listed (nodes_in list old) b ≡ true → Stays old.nodes new.nodes old.contents new.contents b
  stay b t =
      stays_then old.nodes mid.nodes new.nodes old.contents mid.contents new.contents b (creates.stay b t)
      (puts.others b (ap (λ bs. is_listed bs b) creates.listed ∙ listed_front (nodes_in list old) address b t) (apart b t))

  module _ (kinds : List ObjectKind) (kind : ObjectKind) (number : ℕ) (has : HasKind kinds kind number word) where
    number_new : number_at new.nodes address ≡ number
    number_new = ap (λ w. w / 65536) puts.word_is ∙ number_is number kind.bytes word has.low has.word_is

    unit_new : unit_at new.nodes address ≡ kind.bytes
    unit_new = ap (λ w. w % 65536) puts.word_is ∙ unit_is number kind.bytes word has.low has.word_is

    kind_new : record (kind_at kinds (number_at new.nodes address)) { bytes = unit_at new.nodes address } ≡ kind
    kind_new = λ i. record (kind_by i) { bytes = unit_new i } where
      kind_by : kind_at kinds (number_at new.nodes address) ≡ kind
      kind_by = ap (kind_at kinds) number_new ∙ has.is

    pub objects_created : objects_of kinds later.first new.nodes ≡ made_in kind name (taken_in asked old) (objects_of kinds list.first old.nodes)
    objects_created =
        let f : ℕ → DeclaredObject = object_at kinds old.nodes in
        let g : ℕ → DeclaredObject = object_at kinds new.nodes in
        let xs = nodes_in list old in
        let kept : map g xs ≡ map f xs = map_kept f g xs (λ b t. same_object old.nodes new.nodes old.contents new.contents b (stay b t) kinds) in
        let name_is : (node_at new.nodes address).name ≡ name = ap (λ (n : StoredNode). n.name) puts.node_is ∙ creates.name_is in
        let chunk = puts.chunk ∙ creates.chunk in
        let offset = puts.offset ∙ creates.offset in
        let its : g address ≡ record { name = name; kind = kind; units = 0; chunk = (taken_in asked old).spot.chunk; offset = (taken_in asked old).spot.offset } =
        λ i. record { name = name_is i; kind = kind_new i; units = puts.units_are i; chunk = chunk i; offset = offset i } in
        let value = ap (map g) listed_new ∙ append_map g xs (address ∷ []) ∙ ap (λ (ys : List DeclaredObject). ys ++ g address ∷ []) kept ∙ ap (λ (x : DeclaredObject). map f xs ++ x ∷ []) its in
        let shape = puts.shape ∙ creates.shape in
        λ i. record { objects = value i; shape = shape i }

    pub numbers_created : numbers_of later.first new.nodes ≡ numbers_of list.first old.nodes ++ number ∷ []
    numbers_created =
        let f : ℕ → ℕ = number_at old.nodes in
        let g : ℕ → ℕ = number_at new.nodes in
        let xs = nodes_in list old in
        let kept : map g xs ≡ map f xs = map_kept f g xs (λ b t. same_number old.nodes new.nodes old.contents new.contents b (stay b t)) in
        ap (map g) listed_new ∙ append_map g xs (address ∷ []) ∙ ap (λ ys. ys ++ g address ∷ []) kept ∙ ap (λ n. map f xs ++ n ∷ []) number_new

  pub nodes_created : AreObjectNodes list.first old.nodes → AreObjectNodes later.first new.nodes
  nodes_created are b t =
      let size : (node_at new.nodes address).size ≡ 0 = ap (λ (n : StoredNode). n.size) puts.node_is ∙ creates.empty in
      elim (cases_eq b address) [
        | inl at ↦ subst (IsObject new.nodes) (sym at) (record { room = puts.room; size = size ∙ sym (ap (λ u. u * unit_at new.nodes address) puts.units_are ∙ zero-mul (unit_at new.nodes address)) })
        | inr other ↦
            let all = listed_append (nodes_in list old) (address ∷ []) b in
            let listed : is_listed (nodes_in list old ++ address ∷ []) b ≡ true = ap (λ bs. is_listed bs b) (sym listed_new) ∙ t in
            let was : is_listed (nodes_in list old) b ≡ true = grind (arith, nat_tests) in
            still_object old.nodes new.nodes old.contents new.contents b (stay b was) (are b was)
      ]

-- ---- an object less

module _ (list later : NodeList) (old new : Stock) (name : List ℕ) (previous address : ℕ) (node : StoredNode) (found : IsFound list.first list.last old.nodes old.contents name previous address node)
    (removes : Removes list later address old new) where
  numbers_kept : map (number_at new.nodes) (removes.before ++ removes.behind) ≡ map (number_at old.nodes) (removes.before ++ removes.behind)
  numbers_kept = map_kept (number_at old.nodes) (number_at new.nodes) (removes.before ++ removes.behind) (λ b t. same_number old.nodes new.nodes old.contents new.contents b (removes.stay b t))

  pub numbers_were : numbers_of list.first old.nodes ≡ map (number_at old.nodes) removes.before ++ number_at old.nodes address ∷ map (number_at old.nodes) removes.behind
  numbers_were = ap (map (number_at old.nodes)) removes.was ∙ append_map (number_at old.nodes) removes.before (address ∷ removes.behind)

  pub numbers_removed : numbers_of later.first new.nodes ≡ map (number_at old.nodes) removes.before ++ map (number_at old.nodes) removes.behind
  numbers_removed = ap (map (number_at new.nodes)) removes.listed ∙ numbers_kept ∙ append_map (number_at old.nodes) removes.before removes.behind

  pub nodes_removed : AreObjectNodes list.first old.nodes → AreObjectNodes later.first new.nodes
  nodes_removed are b t =
      let l = listed_append removes.before (address ∷ removes.behind) b in
      let w = listed_append removes.before removes.behind b in
      let now : is_listed (removes.before ++ removes.behind) b ≡ true = ap (λ bs. is_listed bs b) (sym removes.listed) ∙ t in
      let was : is_listed (removes.before ++ address ∷ removes.behind) b ≡ true = grind (arith, nat_tests) in
      still_object old.nodes new.nodes old.contents new.contents b (removes.stay b now) (are b (ap (λ bs. is_listed bs b) removes.was ∙ was))

  module _ (kinds : List ObjectKind) where
    pub objects_removed : objects_of kinds later.first new.nodes ≡ record {
      objects = without_first (is_named name) (objects_of kinds list.first old.nodes).objects;
      shape = shape_given (object_at kinds old.nodes address).chunk (object_at kinds old.nodes address).offset old.nodes.shape;
    }
    objects_removed =
        let f : ℕ → DeclaredObject = object_at kinds old.nodes in
        let g : ℕ → DeclaredObject = object_at kinds new.nodes in
        let before = removes.before in
        let behind = removes.behind in
        let named : (node_at old.nodes address).name ≡ name = ap (λ (n : StoredNode). n.name) (sym found.node_is) ∙ found.named in
        let kept : map g (before ++ behind) ≡ map f (before ++ behind) = map_kept f g (before ++ behind) (λ b t. same_object old.nodes new.nodes old.contents new.contents b (removes.stay b t) kinds) in
        let none = none_named kinds old.nodes name before (λ b t is. removes.others b t (is ∙ sym named)) in
        let without_it = without_behind (is_named name) (map f before) (f address) (map f behind) none ((bytes_eq-Decides (node_at old.nodes address).name name).1 named) in
        let around = ap (without_first (is_named name)) (ap (map f) removes.was ∙ append_map f before (address ∷ behind)) in
        let value = ap (map g) removes.listed ∙ kept ∙ append_map f before behind ∙ sym without_it ∙ sym around in
        λ i. record { objects = value i; shape = removes.shape i }

    pub account_removed : IsObject old.nodes address → new.account ≡ contents_credited (object_at kinds old.nodes address) old.account
    account_removed is = removes.account ∙ ap (λ n. credited old.account (content_ram n) (content_caps n)) is.size

-- ---- an object with other units

-- it is listed after its content is replaced, and has its words
module _ (list later : NodeList) (was taken mid : Stock) (name : List ℕ) (previous address : ℕ) (node : StoredNode) (found : IsFound list.first list.last was.nodes was.contents name previous address node)
    (size content : ℕ) (takes : TakesContent size content was taken) (replaces : Replaces list later address content size taken mid) where
  pub listed_still : is_listed (nodes_in later mid) address ≡ true
  listed_still = ap (λ bs. is_listed bs address) (replaces.listed ∙ ap (nodes_from list.first) takes.nodes) ∙ listed_found list.first list.last was.nodes was.contents name previous address node found

  pub room_still : IsObject was.nodes address → 16 ≤ length (user_at mid.nodes address)
  room_still is = subst (λ user. 16 ≤ length user) (sym (replaces.user ∙ ap (λ (n : OwnHeap). user_at n address) takes.nodes)) is.room

module _ (list later : NodeList) (was taken mid new : Stock) (name : List ℕ) (previous address : ℕ) (node : StoredNode) (found : IsFound list.first list.last was.nodes was.contents name previous address node)
    (size content word units : ℕ) (takes : TakesContent size content was taken) (replaces : Replaces list later address content size taken mid) (puts : PutsWords later address word units mid new)
    (word_is : word ≡ word_at was.nodes address) where
  around : nodes_from list.first was.nodes ≡ found.before ++ address ∷ found.behind
  around = blocks_are list.first list.last was.nodes was.contents (found.before ++ address ∷ found.behind) found.stand

  listed_taken : nodes_in list taken ≡ nodes_in list was
  listed_taken = ap (nodes_from list.first) takes.nodes

  pub listed_changed : nodes_in later new ≡ nodes_in list was
  listed_changed = puts.listed ∙ replaces.listed ∙ listed_taken

  other_stays : (b : ℕ) → is_listed (nodes_in list was) b ≡ true → b ≢ address → Stays was.nodes new.nodes taken.contents new.contents b
  other_stays b t other =
      subst (λ n. Stays n new.nodes taken.contents new.contents b) takes.nodes
      (stays_then taken.nodes mid.nodes new.nodes taken.contents mid.contents new.contents b (replaces.sets.others b (ap (λ bs. is_listed bs b) listed_taken ∙ t) other)
      (puts.others b (ap (λ bs. is_listed bs b) (replaces.listed ∙ listed_taken) ∙ t) other))

  pub number_same : number_at new.nodes address ≡ number_at was.nodes address
  number_same = ap (λ w. w / 65536) (puts.word_is ∙ word_is)

  unit_same : unit_at new.nodes address ≡ unit_at was.nodes address
  unit_same = ap (λ w. w % 65536) (puts.word_is ∙ word_is)

  pub numbers_changed : numbers_of later.first new.nodes ≡ numbers_of list.first was.nodes
  numbers_changed =
      ap (map (number_at new.nodes)) listed_changed
      ∙ map_kept (number_at was.nodes) (number_at new.nodes) (nodes_in list was) (λ b t. elim (cases_eq b address) [
        | inl at ↦ subst (λ a. number_at new.nodes a ≡ number_at was.nodes a) (sym at) number_same
        | inr other ↦ same_number was.nodes new.nodes taken.contents new.contents b (other_stays b t other)
      ])

  node_new : node_at new.nodes address ≡ record (node_at was.nodes address) { content = content; size = size }
  node_new = puts.node_is ∙ replaces.sets.node_is ∙ ap (λ (n : OwnHeap). record (node_at n address) { content = content; size = size }) takes.nodes

  pub nodes_changed : AreObjectNodes list.first was.nodes → size ≡ units * unit_at was.nodes address → AreObjectNodes later.first new.nodes
  nodes_changed are size_is b t =
      let listed : is_listed (nodes_in list was) b ≡ true = ap (λ bs. is_listed bs b) (sym listed_changed) ∙ t in
      let units_new : units_at new.nodes address ≡ units = puts.units_are in
      elim (cases_eq b address) [
        | inl at ↦ subst (IsObject new.nodes) (sym at) (record {
          room = puts.room;
          size = ap (λ (n : StoredNode). n.size) node_new ∙ size_is ∙ sym (λ i. units_new i * unit_same i);
        })
        | inr other ↦ still_object was.nodes new.nodes taken.contents new.contents b (other_stays b listed other) (are b listed)
      ]

  module _ (kinds : List ObjectKind) where
    abbrev f : ℕ → DeclaredObject
    f = object_at kinds was.nodes

    abbrev g : ℕ → DeclaredObject
    g = object_at kinds new.nodes

    others_same : (b : ℕ) → is_listed (nodes_in list was) b ≡ true → b ≢ address → g b ≡ f b
    others_same b t other = same_object was.nodes new.nodes taken.contents new.contents b (other_stays b t other) kinds

    changed_object : g address ≡ with_units units (f address)
    changed_object =
        let name_is = ap (λ (n : StoredNode). n.name) node_new in
        let chunk = puts.chunk ∙ replaces.sets.chunk ∙ ap (λ (n : OwnHeap). (object_at kinds n address).chunk) takes.nodes in
        let offset = puts.offset ∙ replaces.sets.offset ∙ ap (λ (n : OwnHeap). (object_at kinds n address).offset) takes.nodes in
        λ i. record {
          name = name_is i;
          kind = record (kind_at kinds (number_same i)) { bytes = unit_same i };
          units = puts.units_are i;
          chunk = chunk i;
          offset = offset i;
        }

    pub objects_changed : objects_of kinds later.first new.nodes
        ≡ record (objects_of kinds list.first was.nodes) { objects = with_first (is_named name) (with_units units) (objects_of kinds list.first was.nodes).objects }
    objects_changed =
        let before = before_kept list.first list.last was.nodes was.contents name previous address node found f g others_same in
        let behind = behind_kept list.first list.last was.nodes was.contents name previous address node found f g others_same in
        let value = ap (map g) (listed_changed ∙ around) ∙ append_map g found.before (address ∷ found.behind) in
        let parts : map g found.before ++ g address ∷ map g found.behind ≡ map f found.before ++ with_units units (f address) ∷ map f found.behind =
        ap (λ (xs : List DeclaredObject). xs ++ g address ∷ map g found.behind) before
        ∙ ap (λ (x : DeclaredObject). map f found.before ++ x ∷ map g found.behind) changed_object
        ∙ ap (λ (xs : List DeclaredObject). map f found.before ++ with_units units (f address) ∷ xs) behind in
        let old = with_behind (is_named name) (with_units units) (map f found.before) (f address) (map f found.behind)
        (none_before kinds was.nodes name list.first list.last was.contents previous address node found) (is_of_name kinds was.nodes name list.first list.last was.contents previous address node found) in
        let all = value ∙ parts ∙ sym old ∙ sym (ap (with_first (is_named name) (with_units units)) (objects_around kinds was.nodes name list.first list.last was.contents previous address node found)) in
        let shape = puts.shape ∙ replaces.sets.shape ∙ ap (λ (n : OwnHeap). n.shape) takes.nodes in
        λ i. record { objects = all i; shape = shape i }

    pub account_changed : IsObject was.nodes address → size ≡ units * unit_at was.nodes address → new.account ≡ resize_charged units (f address) was.account
    account_changed is size_is =
        puts.account ∙ replaces.account
        ∙ ap (λ (n : OwnHeap). credited taken.account (content_ram (node_at n address).size) (content_caps (node_at n address).size)) takes.nodes
        ∙ ap (λ n. credited taken.account (content_ram n) (content_caps n)) is.size
        ∙ ap (λ a. credited a (content_ram (contents (f address))) (content_caps (contents (f address)))) (takes.account ∙ ap (λ n. charged was.account (content_ram n) (content_caps n)) size_is)
