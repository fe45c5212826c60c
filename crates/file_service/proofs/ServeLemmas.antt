-- How requests are served, by the tests that they pass.
use Rattle.std.proofs.Common.{rules, ◌≡◌, ℕ, ◌<◌, ◌≤◌, true, false, List, [], length, take, drop, Option, Some, None, is_some, refl, sym, ap, subst, arith}
use Rattle.std.proofs.lemmas.Bool.Decides.{nat_tests}
use Rattle.trade_base.specs.declared.refusal.Refusal.{Refusal}
use Rattle.own_model.specs.Account.{Account}
use Rattle.own_model.specs.FileService.{File, Files, FileServed, node_size, created, content_credited, rewritten, without, told, error_of, file_named, sized, cleared, dropped, read, written}
use Rattle.own_model.specs.FileText as model
use Rattle.own_model.specs.FileText.FileRequest.{Create, Write, Read, Size, Clear, Drop}
use Rattle.own_model.specs.FileText.FileReply.{Done, Count, Bytes, Refused}
use Rattle.own_model.specs.FileText.FileError.{BadName, Exists, NotFound, Gap, TooLong}
use Rattle.own_model.specs.Growth.{heap_refusal, hole_for, shape_given}
use Rattle.own_model.specs.Text.{is_name}
use Rattle.session_nodes.specs.Frame.{Regions, Store}
use Rattle.session_nodes.specs.SoundHeaps.{Stock}
use Rattle.session_nodes.specs.SessionHeaps.{stock_of}
use Rattle.session_nodes.specs.NodeList.{Finds}
use Rattle.file_service.specs.Session.{files_in, HasFiles, KeepsOwn, Serves, IsTold, served_in}
use Rattle.file_service.specs.declared.session.FileSession.{FileSession}
use Rattle.session_nodes.specs.declared.node_list.FoundNode.{FoundNode}

-- ---- after a search, which leaves the memory

pub files_after : (session : FileSession) (regions : Regions) {store mid : Store} → mid ≡ store → HasFiles session (stock_of session.nodes.heaps store regions) → HasFiles session (stock_of session.nodes.heaps mid regions)
files_after session regions same files = subst (λ m. HasFiles session (stock_of session.nodes.heaps m regions)) (sym same) files

-- ---- a reply that leaves all

-- a told reply is served so
pub serves_told : (served : FileServed) (reply : model.FileReply) (session : FileSession) (has : Stock) → HasFiles session has →
    served ≡ told reply (files_in session has) has.account → Serves served reply session session has
serves_told served reply session has files is = search rules

-- also where the memory is told to be the same
pub serves_same : (served : FileServed) (reply : model.FileReply) (session : FileSession) (old new : Store) (regions : Regions) →
    HasFiles session (stock_of session.nodes.heaps old regions) → new ≡ old →
    served ≡ told reply (files_in session (stock_of session.nodes.heaps old regions)) (stock_of session.nodes.heaps old regions).account →
    Serves served reply session session (stock_of session.nodes.heaps new regions)
serves_same served reply session old new regions files e is = search (rules, serves_told)

-- also where all is told to be the same
pub serves_refused : (served : FileServed) (reply : model.FileReply) (session later : FileSession) (old new : Store) (regions after : Regions) →
    HasFiles session (stock_of session.nodes.heaps old regions) → later ≡ session → new ≡ old → after ≡ regions →
    served ≡ told reply (files_in session (stock_of session.nodes.heaps old regions)) (stock_of session.nodes.heaps old regions).account →
    Serves served reply session later (stock_of later.nodes.heaps new after)
serves_refused served reply session later old new regions after files s e r is =
    subst (λ x. Serves served reply session x (stock_of x.nodes.heaps new after)) (sym s)
    (subst (λ m. Serves served reply session session (stock_of session.nodes.heaps new m)) (sym r) (serves_same served reply session old new regions files e is))

-- what is done is served so
pub serves_done : (served : FileServed) (reply : model.FileReply) (files : Files) (account : Account) (old later : FileSession) (new : Stock) →
    served ≡ told reply files account → new.account ≡ account → files_in later new ≡ files → HasFiles later new → KeepsOwn old later →
    Serves served reply old later new
serves_done served reply files account old later new is account_is files_are kept own = search rules

-- ---- names

-- a file that is found by a name is found by its own, in the memory after the search
pub found_after : (session : FileSession) (regions : Regions) {store mid : Store} (name : List ℕ) (found : FoundNode) → mid ≡ store → Finds session.nodes (stock_of session.nodes.heaps store regions) name found →
    Finds session.nodes (stock_of session.nodes.heaps mid regions) found.node.name.items found
found_after session regions {store} name found same finds =
    let has : Stock = stock_of session.nodes.heaps store regions in
    subst (λ m. Finds session.nodes (stock_of session.nodes.heaps m regions) found.node.name.items found) (sym same) (subst (λ n. Finds session.nodes has n found) (sym finds.named) finds)

-- ---- CREATE

module _ (name : List ℕ) (session : FileSession) (has : Stock) where
  pub create_bad : is_name name ≡ false → IsTold (Create name) (Refused BadName) session has
  create_bad bad = rw bad refl

  pub create_exists : is_name name ≡ true → is_some (file_named name (files_in session has)) ≡ true → IsTold (Create name) (Refused Exists) session has
  create_exists good there = rw (good, there) refl

  module _ (good : is_name name ≡ true) (none : file_named name (files_in session has) ≡ None) where
    pub create_refused : (r : Refusal) → heap_refusal node_size has.nodes.shape has.account ≡ Some r → IsTold (Create name) (Refused (error_of r)) session has
    create_refused r is = rw (good, none, is) refl

    pub create_done : heap_refusal node_size has.nodes.shape has.account ≡ None →
        served_in (Create name) session has ≡ created name (hole_for node_size has.nodes.shape) (files_in session has) has.account
    create_done is = rw (good, none, is) refl

-- ---- requests that find a file, or don't

module _ (name : List ℕ) (session : FileSession) (has : Stock) where
  abbrev pub found_in : Option File
  found_in = file_named name (files_in session has)

  pub size_none : found_in ≡ None → IsTold (Size name) (Refused NotFound) session has
  size_none none = ap (λ o. sized o (files_in session has) has.account) none

  pub size_found : (file : File) (n : ℕ) → found_in ≡ Some file → length file.bytes ≡ n → IsTold (Size name) (Count n) session has
  size_found file n there is = cc

  pub read_none : (offset count : ℕ) → found_in ≡ None → IsTold (Read name offset count) (Refused NotFound) session has
  read_none offset count none = ap (λ o. read offset count o (files_in session has) has.account) none

  pub read_gap : (offset count : ℕ) (file : File) → found_in ≡ Some file → length file.bytes < offset → IsTold (Read name offset count) (Refused Gap) session has
  read_gap offset count file there above = grind (arith, nat_tests)

  pub read_long : (offset count : ℕ) (file : File) → found_in ≡ Some file → offset ≤ length file.bytes → 1024 < count → IsTold (Read name offset count) (Refused TooLong) session has
  read_long offset count file there low above = grind (arith, nat_tests)

  pub read_found : (offset count : ℕ) (file : File) (bytes : List ℕ) → found_in ≡ Some file → offset ≤ length file.bytes → count ≤ 1024 →
      take count (drop offset file.bytes) ≡ bytes → IsTold (Read name offset count) (Bytes bytes) session has
  read_found offset count file bytes there low few is = grind (arith, nat_tests)

  pub clear_none : found_in ≡ None → IsTold (Clear name) (Refused NotFound) session has
  clear_none none = ap (λ o. cleared o (files_in session has) has.account) none

  pub clear_done : (file : File) → found_in ≡ Some file → file.name ≡ name →
      served_in (Clear name) session has
      ≡ told Done (record (files_in session has) { files = rewritten name [] (files_in session has).files }) (content_credited file has.account)
  clear_done file there is = cc

  pub drop_done : (file : File) → found_in ≡ Some file → file.name ≡ name →
      served_in (Drop name) session has
      ≡ told Done (record {
        files = without name (files_in session has).files;
        shape = shape_given file.chunk file.offset (files_in session has).shape;
      }) (content_credited file has.account)
  drop_done file there is = cc

  pub drop_none : found_in ≡ None → IsTold (Drop name) (Refused NotFound) session has
  drop_none none = ap (λ o. dropped o (files_in session has) has.account) none

  pub write_none : (offset : ℕ) (bytes : List ℕ) → found_in ≡ None → IsTold (Write name offset bytes) (Refused NotFound) session has
  write_none offset bytes none = ap (λ o. written offset bytes o (files_in session has) has.account) none

  pub write_gap : (offset : ℕ) (bytes : List ℕ) (file : File) → found_in ≡ Some file → length file.bytes < offset → IsTold (Write name offset bytes) (Refused Gap) session has
  write_gap offset bytes file there above = grind (arith, nat_tests)
