-- WRITE: why it is refused, and what it does.
use Rattle.std.proofs.Common.{rules, ◌≡◌, ◌≢◌, ℕ, ◌+◌, ◌<◌, ◌≤◌, ◌^◌, true, false, cond, Bool, List, [], ◌∷◌, ◌++◌, length, take, Option, Some, None, refl, sym, ap, subst, ◌∙◌, arith}
use Rattle.std.proofs.lemmas.Bool.{cases_lt}
use Rattle.std.proofs.lemmas.Bool.Decides.{nat_tests}
use Rattle.std.proofs.lemmas.Option.{same_Some, none-some}
use Rattle.std.specs.Option.{option_map}
use Rattle.std.specs.FinMap.{get, insert}
use Rattle.trade_base.specs.Bytes.{with_bytes}
use Rattle.trade_base.specs.declared.refusal.Refusal.{Refusal}
use Rattle.trade_base.specs.declared.refusal.Refusal.TheVariants.{InvalidSize, OutOfRam}
use Rattle.trade_base.proofs.BytesLemmas.{with_bytes-nothing}
use Rattle.own_model.specs.Account.{Account, shortage, charged}
use Rattle.own_model.specs.FileService.{File, rewritten, told, error_of, file_named, content_credited}
use Rattle.own_model.specs.FileText as model
use Rattle.own_model.specs.FileText.FileRequest.{Write}
use Rattle.own_model.specs.FileText.FileReply.{Count, Refused}
use Rattle.own_model.specs.NatMap.{NatMap}
use Rattle.own_model.specs.OwnState.{with_part}
use Rattle.own_model.specs.Sliced.{sliced_size, sliced_refusal}
use Rattle.own_model.proofs.ByteLemmas.{length-with_part}
use Rattle.own_model.proofs.NatMapLemmas.{some_of, insert_back, get-insert_same, get-insert_other}
use Rattle.session_nodes.specs.Frame.{is_listed}
use Rattle.session_nodes.specs.Calls.{payload_in, content_written}
use Rattle.session_nodes.specs.Order.{node_at, nodes_from, HasContent, StandAt}
use Rattle.file_service.specs.Files.{file_at, files_of}
use Rattle.session_nodes.specs.SoundHeaps.{Stock}
use Rattle.session_nodes.specs.Index.{IsIndexed}
use Rattle.session_nodes.specs.Node.{StoredNode}
use Rattle.session_nodes.specs.NodeList.{IsFound, Sets}
use Rattle.file_service.specs.Session.{files_in, served_in, HasFiles, IsTold, KeepsOwn, Serves}
use Rattle.file_service.specs.declared.session.FileSession.{FileSession}
use Rattle.file_service.proofs.FileListLemmas.{rewritten_same}
use Rattle.session_nodes.proofs.FrontLemmas.{front_written}
use Rattle.session_nodes.proofs.KeptLemmas.{blocks_are}
use Rattle.file_service.proofs.FileFoundLemmas.{file_name, found_named}
use Rattle.session_nodes.proofs.SearchLemmas.{in_blocks, found_node, found_content, found_long, found_bytes, content_long}
use Rattle.file_service.proofs.ServeLemmas.{serves_done}
use Rattle.session_nodes.proofs.SetLemmas.{stand_rewritten, sets}
use Rattle.file_service.proofs.FileChangeLemmas.{files_set}

-- ---- why a longer content is refused

-- an account doesn't cover what is above its limit
pub above_limit : (account : Account) (ram : ℕ) → account.ram_limit < ram → shortage account ram 1 ≡ Some OutOfRam
above_limit account ram above = grind (arith, nat_tests)

-- nor a content whose size doesn't fit a word, where the limit does
pub past_limit : (account : Account) (n : ℕ) → account.ram_limit < n → shortage account (sliced_size n) 1 ≡ Some OutOfRam
past_limit account n past = above_limit account (sliced_size n) (omega (arith, content_long n, past))

-- a content is refused for want of what the account lacks for it
pub refused_short : (n : ℕ) (account : Account) (r : Refusal) → 0 < n → account.ram_limit < 2 ^ 64 → sliced_refusal n account ≡ Some r →
    option_map error_of (shortage account (sliced_size n) 1) ≡ Some (error_of r)
refused_short n account r some limit is = grind (arith, nat_tests, above_limit, same_Some, cases_lt)

covered_by : (b : Bool) (o : Option Refusal) → cond b o (Some InvalidSize) ≡ None → o ≡ None
covered_by true o none = none
covered_by false o none = absurd (none-some InvalidSize (sym none))

-- ---- what a file is served

module _ (name : List ℕ) (session : FileSession) (has : Stock) (offset : ℕ) (bytes : List ℕ) (file : File)
    (there : file_named name (files_in session has) ≡ Some file) (low : offset ≤ length file.bytes) where
  pub write_short : (e : model.FileError) → length file.bytes < offset + length bytes → option_map error_of (shortage has.account (sliced_size (offset + length bytes)) 1) ≡ Some e →
      IsTold (Write name offset bytes) (Refused e) session has
  write_short e longer short = grind (arith, nat_tests)

  pub write_longer : length file.bytes < offset + length bytes → shortage has.account (sliced_size (offset + length bytes)) 1 ≡ None → file.name ≡ name →
      served_in (Write name offset bytes) session has
      ≡ told (Count (length bytes)) (record (files_in session has) { files = rewritten name (with_bytes file.bytes offset bytes) (files_in session has).files })
      (content_credited file (charged has.account (sliced_size (offset + length bytes)) 1))
  write_longer longer covered is = grind (arith, nat_tests)

  pub write_within : offset + length bytes ≤ length file.bytes → file.name ≡ name →
      served_in (Write name offset bytes) session has
      ≡ told (Count (length bytes)) (record (files_in session has) { files = rewritten name (with_bytes file.bytes offset bytes) (files_in session has).files }) has.account
  write_within within is = grind (arith, nat_tests)

-- no bytes change nothing
no_bytes : (xs : List ℕ) (offset : ℕ) (part : List ℕ) → length part ≡ 0 → with_bytes xs offset part ≡ xs
no_bytes xs offset [] none = with_bytes-nothing xs offset
no_bytes xs offset (x ∷ part) none = absurd (omega (arith, none))

module _ (session : FileSession) (was : Stock) (name : List ℕ) (previous address : ℕ) (node : StoredNode)
    (found : IsFound session.nodes.first session.nodes.last was.nodes was.contents name previous address node) (offset : ℕ) (bytes : List ℕ) where
  abbrev pub file : File
  file = file_at was.nodes was.contents address

  there : file_named name (files_in session was) ≡ Some file
  there = found_named session.nodes.first session.nodes.last was.nodes was.contents name previous address node found

  long : length file.bytes ≡ node.size
  long = found_long session.nodes.first session.nodes.last was.nodes was.contents name previous address node found

  named : file.name ≡ name
  named = file_name session.nodes.first session.nodes.last was.nodes was.contents name previous address node found

  -- ---- the file gets no longer

  module _ (within : offset + length bytes ≤ node.size) where
    served : served_in (Write name offset bytes) session was
        ≡ told (Count (length bytes)) (record (files_in session was) { files = rewritten name (with_bytes file.bytes offset bytes) (files_in session was).files }) was.account
    served = write_within name session was offset bytes file there (omega (arith, long, within)) (omega (arith, long, within)) named

    -- nor is anything written
    pub nothing_told : length bytes ≡ 0 → IsTold (Write name offset bytes) (Count (length bytes)) session was
    nothing_told none =
        let same = ap (λ b. rewritten name b (files_in session was).files) (no_bytes file.bytes offset bytes none) ∙ rewritten_same name (files_in session was).files file there in
        served ∙ ap (λ fs. told (Count (length bytes)) (record (files_in session was) { files = fs }) was.account) same

    -- bytes are put over the content
    module _ (some : 0 < length bytes) where
      abbrev put : List ℕ
      put = with_part (payload_in was.contents node.content) offset bytes

      abbrev after : NatMap (List ℕ)
      after = insert was.contents node.content put

      has : HasContent was.contents node
      has = found_content session.nodes.first session.nodes.last was.nodes was.contents name previous address node found (omega (arith, some, within))

      has_put : HasContent after node
      has_put = search (rules, there, get-insert_same, long, length-with_part, has)

      -- the node isn't touched
      node_there : (payload : List ℕ) × (get was.nodes.payloads address ≡ Some payload)
      node_there = some_of (get was.nodes.payloads address) (found_node session.nodes.first session.nodes.last was.nodes was.contents name previous address node found).there.there

      node_same : was.nodes ≡ record was.nodes { payloads = insert was.nodes.payloads address node_there.0 }
      node_same = λ i. record was.nodes { payloads = sym (insert_back was.nodes.payloads address node_there.0 node_there.1) i }

      -- no other file has the content
      own : (b : ℕ) → is_listed (nodes_from session.nodes.first was.nodes) b ≡ true → b ≢ address → 0 < (node_at was.nodes b).size → (node_at was.nodes b).content ≢ node.content
      own b t other some_b e =
          let blocks = blocks_are session.nodes.first session.nodes.last was.nodes was.contents (found.before ++ address ∷ found.behind) found.stand in
          let some_node : 0 < node.size = omega (arith, some, within) in
          other (found.stand.apart b address (ap (λ xs. is_listed xs b) (sym blocks) ∙ t) (in_blocks session.nodes.first session.nodes.last was.nodes was.contents name previous address node found)
          some_b (subst (λ (n : StoredNode). 0 < n.size) found.node_is some_node) (e ∙ ap (λ (n : StoredNode). n.content) found.node_is))

      others : (a : ℕ) → (0 < node.size → a ≢ node.content) → get after a ≡ get was.contents a
      others a apart = get-insert_other was.contents node.content put a (apart (omega (arith, some, within)))

      stand : StandAt session.nodes.first session.nodes.last was.nodes after (found.before ++ address ∷ found.behind)
      stand = stand_rewritten session.nodes.first session.nodes.last was.nodes was.nodes was.contents after name previous address node found node_there.0 node_same node.content node.size (sym found.node_is)
          (found_node session.nodes.first session.nodes.last was.nodes was.contents name previous address node found).there (λ _. has_put) (λ _. own) others

      files : files_of session.nodes.first was.nodes after ≡ record (files_in session was) { files = rewritten name (take node.size (payload_in after node.content)) (files_in session was).files }
      files =
          let blocks = blocks_are session.nodes.first session.nodes.last was.nodes was.contents (found.before ++ address ∷ found.behind) found.stand in
          files_set session.nodes.first session.nodes.last session.nodes.first was.nodes was.nodes was.contents after name previous address node found node.content node.size refl
          (subst (λ bs. Sets was.nodes was.nodes was.contents after bs address node.content node.size) (sym blocks)
          (sets session.nodes.first session.nodes.last was.nodes was.nodes was.contents after name previous address node found node_there.0 node_same node.content node.size (sym found.node_is)
          (found_node session.nodes.first session.nodes.last was.nodes was.contents name previous address node found).there (λ _. has_put) (λ _. own) others))

      -- the file's bytes are those with these over them
      front : take node.size (payload_in after node.content) ≡ with_bytes file.bytes offset bytes
      front = grind (arith, nat_tests, has, there, long, content_long, get-insert_same, front_written, found_bytes)

      pub over_served : IsIndexed session.nodes.first session.nodes.root session.nodes.recent was.nodes → (now : Stock) → now ≡ content_written node.content offset bytes was →
          Serves (served_in (Write name offset bytes) session was) (Count (length bytes)) session session now
      over_served indexed now is =
          subst (Serves (served_in (Write name offset bytes) session was) (Count (length bytes)) session session) (sym is)
          (serves_done (served_in (Write name offset bytes) session was) (Count (length bytes)) _ _ session session (content_written node.content offset bytes was) served refl
          (files ∙ ap (λ b. record (files_in session was) { files = rewritten name b (files_in session was).files }) front)
          (record { blocks = found.before ++ address ∷ found.behind; stand = stand; indexed = indexed }) (record { label = refl; buffer = refl }))

  -- ---- the file gets longer

  module _ (low : offset ≤ node.size) (longer : node.size < offset + length bytes) where
    -- the account doesn't cover the new content
    pub longer_refused : (e : model.FileError) → option_map error_of (shortage was.account (sliced_size (offset + length bytes)) 1) ≡ Some e →
        IsTold (Write name offset bytes) (Refused e) session was
    longer_refused e short = write_short name session was offset bytes file there (omega (arith, long, low)) e (omega (arith, long, longer)) short

    -- the new content is the file's
    pub longer_served : (later : FileSession) (made now : Stock) (front : List ℕ) → shortage was.account (sliced_size (offset + length bytes)) 1 ≡ None →
        made.account ≡ charged was.account (sliced_size (offset + length bytes)) 1 → files_in session made ≡ files_in session was →
        file_at made.nodes made.contents address ≡ file → front ≡ with_bytes file.bytes offset bytes →
        files_in later now ≡ record (files_in session made) { files = rewritten name front (files_in session made).files } → HasFiles later now →
        now.account ≡ content_credited (file_at made.nodes made.contents address) made.account → KeepsOwn session later →
        Serves (served_in (Write name offset bytes) session was) (Count (length bytes)) session later now
    longer_served later made now front covered charge same file_is front_is files kept account own =
        serves_done (served_in (Write name offset bytes) session was) (Count (length bytes)) _ _ session later now
        (write_longer name session was offset bytes file there (omega (arith, long, low)) (omega (arith, long, longer)) covered named)
        (account ∙ (λ i. content_credited (file_is i) (charge i)))
        (files ∙ (λ i. record (same i) { files = rewritten name (front_is i) (same i).files })) kept own
