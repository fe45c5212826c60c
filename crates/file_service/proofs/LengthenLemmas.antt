-- A longer content is made of the old one's front and the bytes that are written.
use Rattle.std.proofs.Common.{rules, ◌≡◌, ◌≢◌, ℕ, ◌+◌, ◌-◌, ◌<◌, ◌≤◌, true, List, [], ◌++◌, ◌∷◌, length, take, Option, Some, None, is_some, refl, sym, ap, subst, ◌∙◌, arith}
use Rattle.std.proofs.lemmas.Bool.Decides.{nat_tests}
use Rattle.std.proofs.lemmas.List.{length-take}
use Rattle.std.proofs.lemmas.Option.{none-some}
use Rattle.std.specs.Prelude.{SomeIff, Result, Err}
use Rattle.std.specs.Result.{result_ok}
use Rattle.std.specs.Option.{unwrap_or}
use Rattle.std.specs.FinMap.{get}
use Rattle.trade_base.specs.Bytes.{with_bytes}
use Rattle.own_model.specs.Account.{shortage, charged}
use Rattle.own_model.specs.FileService.{rewritten, content_credited}
use Rattle.own_model.specs.FileText.FileRequest.{Write}
use Rattle.own_model.specs.FileText.FileReply.{Count}
use Rattle.own_model.specs.NatMap.{NatMap}
use Rattle.own_model.specs.OwnState.{zeros, with_part}
use Rattle.own_model.specs.Sliced.{sliced_size}
use Rattle.own_model.proofs.ByteLemmas.{length-zeros, length-with_part}
use Rattle.own_model.proofs.NatMapLemmas.{get-insert_same, get-insert_other}
use Rattle.session_nodes.specs.Frame.{is_listed}
use Rattle.session_nodes.specs.Calls.{payload_in, content_taken, content_copied, content_written, HasBytes}
use Rattle.session_nodes.specs.Order.{node_at, StandAt, HasContent}
use Rattle.file_service.specs.Files.{file_at, files_of}
use Rattle.session_nodes.specs.Index.{IsIndexed}
use Rattle.session_nodes.specs.SoundHeaps.{Stock}
use Rattle.session_nodes.specs.Node.{StoredNode}
use Rattle.session_nodes.specs.NodeList.{IsFound, IsOwn}
use Rattle.file_service.specs.Session.{files_in, served_in, HasFiles, KeepsOwn, Serves}
use Rattle.file_service.specs.declared.session.FileSession.{FileSession}
use Rattle.session_nodes.proofs.FrontLemmas.{front_longer}
use Rattle.file_service.proofs.FileKeptLemmas.{same_file, files_are}
use Rattle.session_nodes.specs.Order.{Stays}
use Rattle.session_nodes.proofs.KeptLemmas.{bytes_by, stand_kept, blocks_are}
use Rattle.session_nodes.proofs.LinkLemmas.{map_kept}
use Rattle.session_nodes.proofs.SearchLemmas.{in_blocks, found_content, found_has, found_long, found_bytes, content_long}
use Rattle.file_service.proofs.WriteLemmas.{longer_served}

-- a sum that isn't told doesn't fit
pub no_sum : {E : Type 0} (o : Option ℕ) (r : Result ℕ E) (P : Type 0) (e : E) (sum : ℕ) → SomeIff o P sum → o ≡ result_ok r → r ≡ Err e → ¬ P
no_sum o r P e sum iff ok is = subst (λ (x : Option ℕ). SomeIff x P sum) (ok ∙ ap result_ok is) iff

-- a content for these bytes from this offset on is taken
pub record TakesLonger (was taken : Stock) (size content offset : ℕ) (bytes : List ℕ) : Type 0 where
  pub size_is : size ≡ offset + length bytes
  pub covered : shortage was.account (sliced_size (offset + length bytes)) 1 ≡ None
  pub free : get was.contents content ≡ None
  pub is : taken ≡ content_taken size content was

-- what is found is not where nothing is
apart_from : (m : NatMap (List ℕ)) (a b : ℕ) (payload : List ℕ) → get m a ≡ Some payload → get m b ≡ None → a ≢ b
apart_from m a b payload some none e = none-some payload (sym none ∙ ap (get m) (sym e) ∙ some)

module _ (session : FileSession) (was taken : Stock) (name : List ℕ) (previous address : ℕ) (node : StoredNode)
    (found : IsFound session.nodes.first session.nodes.last was.nodes was.contents name previous address node)
    (size content offset : ℕ) (bytes : List ℕ) (low : offset ≤ node.size) (takes : TakesLonger was taken size content offset bytes) where
  -- the file's content is another one
  pub not_new : 0 < node.size → node.content ≢ content
  not_new some = grind (arith, nat_tests, found_content session.nodes.first session.nodes.last was.nodes was.contents name previous address node found some)

  taken_other : (a : ℕ) → a ≢ content → get taken.contents a ≡ get was.contents a
  taken_other a apart = ap (λ (s : Stock). get s.contents a) takes.is ∙ get-insert_other was.contents content (zeros (sliced_size size - 32)) a apart

  taken_new : get taken.contents content ≡ Some (zeros (sliced_size size - 32))
  taken_new = ap (λ (s : Stock). get s.contents content) takes.is ∙ get-insert_same was.contents content (zeros (sliced_size size - 32)) content refl

  pub source : 0 < offset → HasBytes taken.contents node.content 0 offset
  source some =
      let has = found_has session.nodes.first session.nodes.last was.nodes was.contents name previous address node found 0 offset some (omega (arith, low)) in
      let same = taken_other node.content (not_new (omega (arith, some, low))) in
      record {
        there = subst (λ (o : Option (List ℕ)). is_some o ≡ true) (sym same) has.there;
        within = subst (λ (o : Option (List ℕ)). 0 + offset ≤ length (unwrap_or o [])) (sym same) has.within;
      }

  pub target : HasBytes taken.contents content 0 offset
  target = search (rules, taken_new, length-zeros, content_long)

  module _ (copied : Stock) (copied_is : copied ≡ content_copied node.content content offset taken) where
    copied_payload : payload_in copied.contents content ≡ with_part (payload_in taken.contents content) 0 (take offset (payload_in taken.contents node.content))
    copied_payload = search (rules, get-insert_same)

    copied_length : length (payload_in copied.contents content) ≡ sliced_size size - 32
    copied_length = simp (copied_payload, length-with_part, taken_new, length-zeros)

    pub room : HasBytes copied.contents content offset (length bytes)
    room = search (rules, get-insert_same, copied_length, content_long)

    module _ (made : Stock) (made_is : made ≡ content_written content offset bytes copied) where
      made_nodes : made.nodes ≡ was.nodes
      made_nodes = ap (λ (s : Stock). s.nodes) made_is ∙ ap (λ (s : Stock). s.nodes) copied_is ∙ ap (λ (s : Stock). s.nodes) takes.is

      -- all others are as they were
      made_other : (a : ℕ) → a ≢ content → get made.contents a ≡ get was.contents a
      made_other a apart = search (rules, get-insert_other, taken_other)

      made_new : get made.contents content ≡ Some (with_part (payload_in copied.contents content) offset bytes)
      made_new = ap (λ (s : Stock). get s.contents content) made_is ∙ get-insert_same copied.contents content (with_part (payload_in copied.contents content) offset bytes) content refl

      pub made_has : HasContent made.contents (record node { content = content; size = size })
      made_has = search (rules, made_new, length-with_part, copied_length)

      -- no file has the new one
      other_content : (b : ℕ) → is_listed (found.before ++ address ∷ found.behind) b ≡ true → 0 < (node_at was.nodes b).size → (node_at was.nodes b).content ≢ content
      other_content b t some = let has = (found.stand.each b t).content some in apart_from was.contents (node_at was.nodes b).content content has.payload has.there takes.free

      pub made_own : IsOwn session.nodes.first made.nodes content
      made_own = subst (λ n. IsOwn session.nodes.first n content) (sym made_nodes)
          (λ b t some. other_content b (ap (λ xs. is_listed xs b) (sym (blocks_are session.nodes.first session.nodes.last was.nodes was.contents (found.before ++ address ∷ found.behind) found.stand)) ∙ t) some)

      made_stays : (b : ℕ) → is_listed (found.before ++ address ∷ found.behind) b ≡ true → Stays was.nodes was.nodes was.contents made.contents b
      made_stays b t = search (rules, made_other, other_content)

      made_stand : StandAt session.nodes.first session.nodes.last was.nodes made.contents (found.before ++ address ∷ found.behind)
      made_stand = stand_kept session.nodes.first session.nodes.last was.nodes was.nodes was.contents made.contents (found.before ++ address ∷ found.behind) found.stand (omega arith) made_stays (λ b t. refl)

      -- the files have the bytes that they had
      made_file : (b : ℕ) → is_listed (found.before ++ address ∷ found.behind) b ≡ true → file_at was.nodes made.contents b ≡ file_at was.nodes was.contents b
      made_file b t = same_file was.nodes was.nodes was.contents made.contents b (made_stays b t)

      -- so the file is found where it was
      pub made_found : IsFound session.nodes.first session.nodes.last made.nodes made.contents name previous address node
      made_found = subst (λ n. IsFound session.nodes.first session.nodes.last n made.contents name previous address node) (sym made_nodes) (record {
        before = found.before;
        behind = found.behind;
        stand = made_stand;
        previous_is = found.previous_is;
        others = found.others;
        named = found.named;
        node_is = found.node_is;
      })

      -- and the nodes are listed as they were
      pub made_listed : HasFiles session was → HasFiles session made
      made_listed files = record {
        blocks = found.before ++ address ∷ found.behind;
        stand = subst (λ n. StandAt session.nodes.first session.nodes.last n made.contents (found.before ++ address ∷ found.behind)) (sym made_nodes) made_stand;
        indexed = subst (IsIndexed session.nodes.first session.nodes.root session.nodes.recent) (sym made_nodes) files.indexed;
      }

      -- the files are those that were
      made_files : files_in session made ≡ files_in session was
      made_files =
          let all : List ℕ = found.before ++ address ∷ found.behind in
          let same = files_are session.nodes.first session.nodes.last was.nodes made.contents all made_stand
          ∙ map_kept (file_at was.nodes was.contents) (file_at was.nodes made.contents) all made_file
          ∙ sym (files_are session.nodes.first session.nodes.last was.nodes was.contents all found.stand) in
          ap (λ n. files_of session.nodes.first n made.contents) made_nodes ∙ (λ i. record { files = same i; shape = was.nodes.shape })

      made_address : file_at made.nodes made.contents address ≡ file_at was.nodes was.contents address
      made_address = ap (λ n. file_at n made.contents address) made_nodes ∙ made_file address (in_blocks session.nodes.first session.nodes.last was.nodes was.contents name previous address node found)

      -- only the new content is charged
      made_account : made.account ≡ charged was.account (sliced_size size) 1
      made_account = ap (λ (s : Stock). s.account) made_is ∙ ap (λ (s : Stock). s.account) copied_is ∙ ap (λ (s : Stock). s.account) takes.is

      -- the file's bytes are in its own content
      old_long : node.size ≤ length (payload_in was.contents node.content)
      old_long =
          let long = found_long session.nodes.first session.nodes.last was.nodes was.contents name previous address node found in
          let bytes_is = ap length (found_bytes session.nodes.first session.nodes.last was.nodes was.contents name previous address node found) in
          let front = length-take node.size (payload_in was.contents node.content) in
          omega (arith, long, bytes_is, front)

      -- of which the front was copied
      front_same : take offset (payload_in taken.contents node.content) ≡ take offset (payload_in was.contents node.content)
      front_same = bytes_by offset (get taken.contents node.content) (get was.contents node.content) (λ some. taken_other node.content (not_new (omega (arith, some, low))))

      -- the new content's front is the file's bytes with those that are written over them
      made_bytes : node.size < offset + length bytes → take size (payload_in made.contents content) ≡ with_bytes (file_at was.nodes was.contents address).bytes offset bytes
      made_bytes longer = grind (arith, nat_tests, room, taken_new, length-zeros, content_long, made_new, copied_payload, front_same, front_longer, old_long, found_bytes)

      -- given to the file it is what is served
      pub made_served : node.size < offset + length bytes → (later : FileSession) (now : Stock) →
          files_in later now ≡ record (files_in session made) { files = rewritten name (take size (payload_in made.contents content)) (files_in session made).files } → HasFiles later now →
          now.account ≡ content_credited (file_at made.nodes made.contents address) made.account → KeepsOwn session later →
          Serves (served_in (Write name offset bytes) session was) (Count (length bytes)) session later now
      made_served longer later now files kept account own =
          longer_served session was name previous address node found offset bytes low longer later made now (take size (payload_in made.contents content)) takes.covered
          (made_account ∙ ap (λ n. charged was.account (sliced_size n) 1) takes.size_is) made_files made_address (made_bytes longer) files kept account own
