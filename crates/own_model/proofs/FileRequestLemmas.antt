-- What a request can do to files and their account, and what is known where it is accepted.
use Rattle.std.proofs.lemmas.Bool.Decides.{nat_tests}
use Rattle.std.proofs.Common.{arith, rules, ◌≡◌, ℕ, ◌+◌, ◌≤◌, Bool, true, false, cond, not, List, length, Some, refl, sym, subst, true≢false, slice_get, []}
use Rattle.std.proofs.lemmas.Bool.{ltb-false}
use Rattle.std.proofs.lemmas.Option.{none-some}
use Rattle.std.specs.Prelude.{Option, None}
use Rattle.std.specs.Option.{option_map, option_or}
use Rattle.own_model.proofs.NatMapLemmas.{none_of}
use Rattle.trade_base.specs.Bytes.{with_bytes}
use Rattle.trade_base.specs.declared.refusal.Refusal.{Refusal}
use Rattle.own_model.proofs.FileListLemmas.{named_is}
use Rattle.own_model.specs.Account.{Account, shortage, charged}
use Rattle.own_model.specs.BestFit.{Spot}
use Rattle.own_model.specs.FileService.{Files, File, FileServed, node_size, file_named, rewritten, without, content_credited, error_of, create_refusal, gap_refusal, is_longer, content_refusal, read_refusal, unless_refused, created_in, created, write_charged, written, read, sized, cleared, dropped, named, request_served, file_served}
use Rattle.own_model.specs.FileText.{FileRequest, FileError, file_request}
use Rattle.own_model.specs.FileText.FileRequest.{Create, Write, Read, Size, Clear, Drop, Name, Stat}
use Rattle.own_model.specs.Growth.{Growth, hole_for, growth_of, growth_refusal, new_hole, small_refusal, shape_given, shape_grown}
use Rattle.own_model.specs.Sliced.{sliced_size}
use Rattle.own_model.specs.Text.{is_name}

-- the files with a chunk more
abbrev pub grown : Growth → Files → Files
grown growth files = record files { shape = shape_grown growth files.shape }

-- the files with other bytes of one
abbrev pub with_content : File → List ℕ → Files → Files
with_content file bytes files = record files { files = rewritten file.name bytes files.files }

-- the files without one
abbrev pub without_file : File → Files → Files
without_file file files = record { files = without file.name files.files; shape = shape_given file.chunk file.offset files.shape }

-- P holds of files and their account after each thing that a request can do to them
pub record KeptByRequests (P : Files → Account → Type 0) (files : Files) (account : Account) : Type 0 where
  -- a new file, its node in the best hole
  pub takes : (name : List ℕ) (hole : Spot) → is_name name ≡ true → file_named name files ≡ None → hole_for node_size files.shape ≡ Some hole → P (created_in name hole files) account
  -- one with its node in a new chunk that is accepted
  pub grows : (name : List ℕ) → is_name name ≡ true → file_named name files ≡ None → growth_refusal node_size files.shape account ≡ None →
      P (created_in name (new_hole (growth_of node_size files.shape account) files.shape) (grown (growth_of node_size files.shape account) files))
      (charged account (growth_of node_size files.shape account).bytes 1)
  -- a longer content that is accepted
  pub lengthens : (file : File) (offset : ℕ) (bytes : List ℕ) → file_named file.name files ≡ Some file → offset ≤ length file.bytes → is_longer offset (length bytes) file ≡ true →
      shortage account (sliced_size (offset + length bytes)) 1 ≡ None →
      P (with_content file (with_bytes file.bytes offset bytes) files) (content_credited file (charged account (sliced_size (offset + length bytes)) 1))
  -- other bytes in place
  pub replaces : (file : File) (offset : ℕ) (bytes : List ℕ) → file_named file.name files ≡ Some file → is_longer offset (length bytes) file ≡ false →
      P (with_content file (with_bytes file.bytes offset bytes) files) account
  -- a file cleared
  pub clears : (file : File) → file_named file.name files ≡ Some file → P (with_content file [] files) (content_credited file account)
  -- a file dropped
  pub drops : (file : File) → file_named file.name files ≡ Some file → P (without_file file files) (content_credited file account)

-- what gives nothing by its own name was nothing
map_none : (o : Option Refusal) → option_map error_of o ≡ None → o ≡ None
map_none None none = refl
map_none (Some refusal) none = absurd (none-some (error_of refusal) (sym none))

-- a new file that is accepted has a name that no file has, and room
create_parts : (a b : Bool) (x y : FileError) (o : Option Refusal) → cond (not a) (Some x) (cond b (Some y) (option_map error_of o)) ≡ None → (a ≡ true) × (b ≡ false) × (o ≡ None)
create_parts false b x y o accepted = absurd (none-some x (sym accepted))
create_parts true true x y o accepted = absurd (none-some y (sym accepted))
create_parts true false x y o accepted = (refl, refl, map_none o accepted)

-- neither of two reasons is there
pub neither_of : (o p : Option FileError) → option_or o p ≡ None → (o ≡ None) × (p ≡ None)
neither_of None p accepted = (refl, accepted)
neither_of (Some e) p accepted = absurd (none-some e (sym accepted))

-- a test that gives no reason
pub untold : (b : Bool) (x : FileError) → cond b (Some x) None ≡ None → b ≡ false
untold true x accepted = absurd (none-some x (sym accepted))
untold false x accepted = refl

-- a content that is accepted is covered
content_covered : (b : Bool) (o : Option Refusal) → cond b (option_map error_of o) None ≡ None → b ≡ true → o ≡ None
content_covered true o accepted longer = map_none o accepted
content_covered false o accepted longer = absurd (true≢false (sym longer))

module _ (P : Files → Account → Type 0) (files : Files) (account : Account) (stays : P files account) (keeps : KeptByRequests P files account) where
  abbrev Kept : FileServed → Type 0
  Kept o = P o.files o.account

  unless_kept : (why : Option FileError) (o : FileServed) → (why ≡ None → Kept o) → Kept (unless_refused why files account o)
  unless_kept None o kept = kept refl
  unless_kept (Some e) o kept = stays

  -- a new file in the best hole, if there is one
  created_kept : (name : List ℕ) (found : Option Spot) → hole_for node_size files.shape ≡ found → is_name name ≡ true → file_named name files ≡ None →
      small_refusal node_size found files.shape account ≡ None → Kept (created name found files account)
  created_kept name (Some hole) best name_is free accepted = keeps.takes name hole name_is free best
  created_kept name None none name_is free accepted = keeps.grows name name_is free accepted

  create_kept : (name : List ℕ) → Kept (unless_refused (create_refusal name files account) files account (created name (hole_for node_size files.shape) files account))
  create_kept name = search (rules, unless_kept, create_parts, created_kept, none_of)

  -- the file of a name is that of its own
  itself : (name : List ℕ) (file : File) → file_named name files ≡ Some file → file_named file.name files ≡ Some file
  itself name file is = subst (λ own. file_named own files ≡ Some file) (sym (named_is name files.files file is)) is

  written_by : (file : File) (offset : ℕ) (bytes : List ℕ) → file_named file.name files ≡ Some file → gap_refusal offset file ≡ None → content_refusal offset (length bytes) file account ≡ None →
      P (with_content file (with_bytes file.bytes offset bytes) files) (write_charged offset (length bytes) file account)
  written_by file offset bytes there gap content = grind (arith, nat_tests, ltb-false, untold, content_covered)

  written_kept : (name : List ℕ) (offset : ℕ) (bytes : List ℕ) (found : Option File) → file_named name files ≡ found → Kept (written offset bytes found files account)
  written_kept name offset bytes None none = stays
  written_kept name offset bytes (Some file) is = grind (arith, nat_tests, unless_kept, neither_of, written_by, itself)

  read_kept : (offset count : ℕ) (found : Option File) → Kept (read offset count found files account)
  read_kept offset count None = stays
  read_kept offset count (Some file) = unless_kept (read_refusal offset count file) _ (λ accepted. stays)

  sized_kept : (found : Option File) → Kept (sized found files account)
  sized_kept None = stays
  sized_kept (Some file) = stays

  cleared_kept : (name : List ℕ) (found : Option File) → file_named name files ≡ found → Kept (cleared found files account)
  cleared_kept name None none = stays
  cleared_kept name (Some file) is = keeps.clears file (itself name file is)

  dropped_kept : (name : List ℕ) (found : Option File) → file_named name files ≡ found → Kept (dropped found files account)
  dropped_kept name None none = stays
  dropped_kept name (Some file) is = keeps.drops file (itself name file is)

  named_kept : (found : Option File) → Kept (named found files account)
  named_kept None = stays
  named_kept (Some file) = stays

  pub request_kept : (request : Option FileRequest) → Kept (request_served request files account)
  request_kept None = stays
  request_kept (Some (Create name)) = create_kept name
  request_kept (Some (Write name offset bytes)) = written_kept name offset bytes (file_named name files) refl
  request_kept (Some (Read name offset count)) = read_kept offset count (file_named name files)
  request_kept (Some (Size name)) = sized_kept (file_named name files)
  request_kept (Some (Clear name)) = cleared_kept name (file_named name files) refl
  request_kept (Some (Drop name)) = dropped_kept name (file_named name files) refl
  request_kept (Some (Name place)) = named_kept (slice_get files.files place)
  request_kept (Some Stat) = stays

  -- what holds before a request, and after each thing that it can do, holds after it
  pub requests_keep : (text : List ℕ) → P (file_served files account text).files (file_served files account text).account
  requests_keep text = request_kept (file_request text)
