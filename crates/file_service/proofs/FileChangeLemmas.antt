-- The files after a node has been created, has got another content, and has been removed.
use Rattle.std.proofs.Common.{◌≡◌, ◌≢◌, ℕ, true, List, [], ◌∷◌, ◌++◌, map, take, Option, Some, None, refl, sym, ap, ◌∙◌}
use Rattle.std.proofs.lemmas.Slice.Eq.{bytes_eq-Decides}
use Rattle.std.specs.FinMap.{get}
use Rattle.own_model.specs.Account.{Account, credited}
use Rattle.own_model.specs.BestFit.{Spot}
use Rattle.own_model.specs.FileService.{File, Files, node_size, content_credited, created, rewritten, told, without}
use Rattle.own_model.specs.FileText.FileReply.{Done}
use Rattle.own_model.specs.Growth.{shape_given}
use Rattle.own_model.specs.NatMap.{NatMap}
use Rattle.own_model.specs.Nodes.{block_taken, content_ram, content_caps}
use Rattle.own_model.specs.OwnHeap.{OwnHeap}
use Rattle.session_nodes.specs.Frame.{is_listed}
use Rattle.session_nodes.specs.Calls.{payload_in}
use Rattle.session_nodes.specs.Node.{StoredNode}
use Rattle.session_nodes.specs.NodeList.{nodes_in, taken_in, Creates, IsFound, Removes, Replaces, Sets}
use Rattle.session_nodes.specs.Order.{bytes_at, node_at, nodes_from}
use Rattle.session_nodes.specs.SoundHeaps.{Stock}
use Rattle.session_nodes.specs.declared.node_list.NodeList.{NodeList}
use Rattle.session_nodes.proofs.KeptLemmas.{blocks_are, bytes_by}
use Rattle.session_nodes.proofs.SearchLemmas.{before_kept, behind_kept, found_long}
use Rattle.session_nodes.proofs.LinkLemmas.{map_kept}
use Rattle.file_service.specs.Files.{file_at, files_of}
use Rattle.file_service.proofs.FileFoundLemmas.{file_name, none_named}
use Rattle.file_service.proofs.FileKeptLemmas.{same_file}
use Rattle.file_service.proofs.FileListLemmas.{append_map, rewritten_behind, without_behind}

-- ---- a file more

-- what the model makes of a block that is taken
pub created_is : (name : List ℕ) (o : Option Spot) (files : Files) (account : Account) →
    let taken = block_taken node_size o files.shape account in
    created name o files account
    ≡ told Done (record {
      files = files.files ++ record { name = name; bytes = []; chunk = taken.spot.chunk; offset = taken.spot.offset } ∷ [];
      shape = taken.shape;
    }) taken.account
created_is name None files account = refl
created_is name (Some hole) files account = refl

module _ (list later : NodeList) (address : ℕ) (name : List ℕ) (old new : Stock) (creates : Creates list later node_size address name old new) where
  no_bytes : bytes_at new.contents (node_at new.nodes address) ≡ []
  no_bytes = ap (λ n. take n (payload_in new.contents (node_at new.nodes address).content)) creates.empty

  pub files_created : files_of later.first new.nodes new.contents ≡ record {
    files = (files_of list.first old.nodes old.contents).files
        ++ record { name = name; bytes = []; chunk = (taken_in node_size old).spot.chunk; offset = (taken_in node_size old).spot.offset } ∷ [];
    shape = (taken_in node_size old).shape;
  }
  files_created =
      let f : ℕ → File = file_at old.nodes old.contents in
      let g : ℕ → File = file_at new.nodes new.contents in
      let xs = nodes_in list old in
      let kept : map g xs ≡ map f xs = map_kept f g xs (λ b t. same_file old.nodes new.nodes old.contents new.contents b (creates.stay b t)) in
      let its : g address ≡ record { name = name; bytes = []; chunk = (taken_in node_size old).spot.chunk; offset = (taken_in node_size old).spot.offset } =
      λ i. record { name = creates.name_is i; bytes = no_bytes i; chunk = creates.chunk i; offset = creates.offset i } in
      let value = ap (map g) creates.listed ∙ append_map g g xs (address ∷ []) ∙ ap (λ (ys : List File). ys ++ g address ∷ []) kept ∙ ap (λ (x : File). map f xs ++ x ∷ []) its in
      λ i. record { files = value i; shape = creates.shape i }

-- ---- a file with another content

module _ (first last later_first : ℕ) (nodes later : OwnHeap) (contents after : NatMap (List ℕ)) (name : List ℕ) (previous address : ℕ) (node : StoredNode)
    (found : IsFound first last nodes contents name previous address node) (content size : ℕ) (listed : nodes_from later_first later ≡ nodes_from first nodes)
    (sets : Sets nodes later contents after (nodes_from first nodes) address content size) where
  abbrev f : ℕ → File
  f = file_at nodes contents

  abbrev g : ℕ → File
  g = file_at later after

  abbrev all : List ℕ
  all = found.before ++ address ∷ found.behind

  blocks : nodes_from first nodes ≡ all
  blocks = blocks_are first last nodes contents all found.stand

  -- the others are as they were
  others_same : (b : ℕ) → is_listed (nodes_from first nodes) b ≡ true → b ≢ address → g b ≡ f b
  others_same b t other = same_file nodes later contents after b (sets.others b t other)

  file_set : g address ≡ record (f address) { bytes = take size (payload_in after content) }
  file_set = λ i. record {
    name = (sets.node_is i).name;
    bytes = take (sets.node_is i).size (payload_in after (sets.node_is i).content);
    chunk = sets.chunk i;
    offset = sets.offset i;
  }

  pub files_set : files_of later_first later after ≡ record (files_of first nodes contents) { files = rewritten name (take size (payload_in after content)) (files_of first nodes contents).files }
  files_set =
      let bytes = take size (payload_in after content) in
      let before = before_kept first last nodes contents name previous address node found f g others_same in
      let behind = behind_kept first last nodes contents name previous address node found f g others_same in
      let new = ap (map g) (listed ∙ blocks) ∙ append_map g g found.before (address ∷ found.behind) in
      let parts : map g found.before ++ g address ∷ map g found.behind ≡ map f found.before ++ record (f address) { bytes = bytes } ∷ map f found.behind =
      ap (λ (xs : List File). xs ++ g address ∷ map g found.behind) before
      ∙ ap (λ (x : File). map f found.before ++ x ∷ map g found.behind) file_set
      ∙ ap (λ (xs : List File). map f found.before ++ record (f address) { bytes = bytes } ∷ xs) behind in
      let named = (bytes_eq-Decides (node_at nodes address).name name).1 (file_name first last nodes contents name previous address node found) in
      let old = rewritten_behind name bytes (map f found.before) (f address) (map f found.behind) (none_named nodes contents name found.before found.others) named in
      let around = ap (rewritten name bytes) (ap (map f) blocks ∙ append_map f f found.before (address ∷ found.behind)) in
      let value = new ∙ parts ∙ sym old ∙ sym around in
      λ i. record { files = value i; shape = sets.shape i }

-- what is charged for a node's content is what is charged for the file's
credited_as : (account : Account) (first last : ℕ) (nodes : OwnHeap) (contents : NatMap (List ℕ)) (name : List ℕ) (previous address : ℕ) (node : StoredNode) → IsFound first last nodes contents name previous address node →
    credited account (content_ram (node_at nodes address).size) (content_caps (node_at nodes address).size) ≡ content_credited (file_at nodes contents address) account
credited_as account first last nodes contents name previous address node found =
    ap (λ n. credited account (content_ram n) (content_caps n))
    (ap (λ (n : StoredNode). n.size) (sym found.node_is) ∙ sym (found_long first last nodes contents name previous address node found))

module _ (list later : NodeList) (old new : Stock) (name : List ℕ) (previous address : ℕ) (node : StoredNode) (found : IsFound list.first list.last old.nodes old.contents name previous address node) where
  module _ (content size : ℕ) (replaces : Replaces list later address content size old new) where
    pub files_replaced : files_of later.first new.nodes new.contents
        ≡ record (files_of list.first old.nodes old.contents) { files = rewritten name (take size (payload_in old.contents content)) (files_of list.first old.nodes old.contents).files }
    files_replaced =
        files_set list.first list.last later.first old.nodes new.nodes old.contents new.contents name previous address node found content size replaces.listed replaces.sets
        ∙ ap (λ bytes. record (files_of list.first old.nodes old.contents) { files = rewritten name bytes (files_of list.first old.nodes old.contents).files })
        (bytes_by size (get new.contents content) (get old.contents content) replaces.bytes)

    pub account_replaced : new.account ≡ content_credited (file_at old.nodes old.contents address) old.account
    account_replaced = replaces.account ∙ credited_as old.account list.first list.last old.nodes old.contents name previous address node found

  -- ---- a file less

  module _ (removes : Removes list later address old new) where
    pub files_removed : files_of later.first new.nodes new.contents ≡ record {
      files = without name (files_of list.first old.nodes old.contents).files;
      shape = shape_given (file_at old.nodes old.contents address).chunk (file_at old.nodes old.contents address).offset old.nodes.shape;
    }
    files_removed =
        let f : ℕ → File = file_at old.nodes old.contents in
        let g : ℕ → File = file_at new.nodes new.contents in
        let before = removes.before in
        let behind = removes.behind in
        let named = file_name list.first list.last old.nodes old.contents name previous address node found in
        let kept : map g (before ++ behind) ≡ map f (before ++ behind) = map_kept f g (before ++ behind) (λ b t. same_file old.nodes new.nodes old.contents new.contents b (removes.stay b t)) in
        let none = none_named old.nodes old.contents name before (λ b t is. removes.others b t (is ∙ sym named)) in
        let without_it = without_behind name (map f before) (f address) (map f behind) none ((bytes_eq-Decides (node_at old.nodes address).name name).1 named) in
        let around = ap (without name) (ap (map f) removes.was ∙ append_map f f before (address ∷ behind)) in
        let value = ap (map g) removes.listed ∙ kept ∙ append_map f f before behind ∙ sym without_it ∙ sym around in
        λ i. record { files = value i; shape = removes.shape i }

    pub account_removed : new.account ≡ content_credited (file_at old.nodes old.contents address) old.account
    account_removed = removes.account ∙ credited_as old.account list.first list.last old.nodes old.contents name previous address node found
