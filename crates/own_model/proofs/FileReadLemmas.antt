-- What is written is read, and a request of one file leaves the others.
use Rattle.std.proofs.lemmas.Bool.Decides.{nat_tests}
use Rattle.std.proofs.Common.{rules, ◌≡◌, ℕ, ◌≤◌, ◌++◌, true, false, cond, List, [], ◌∷◌, length, take, drop, Some, refl, sym, ap, subst, ◌∙◌, arith, find, append_assoc, length-append, slice_get}
use Rattle.std.proofs.lemmas.Bool.{ltb-false, le-ltb}
use Rattle.std.proofs.lemmas.List.{drop_at, take_at, length-take-le}
use Rattle.std.proofs.lemmas.List.Folds.{find-append}
use Rattle.std.proofs.lemmas.Option.{none-some, same_Some}
use Rattle.std.proofs.lemmas.Slice.Eq.{bytes_eq-Decides}
use Rattle.std.specs.Prelude.{Option, None}
use Rattle.std.specs.Option.{option_or}
use Rattle.std.specs.Str.{bytes_eq}
use Rattle.trade_base.specs.Bytes.{with_bytes}
use Rattle.own_model.proofs.FileErrorLemmas.{IsGood, no_error_good}
use Rattle.own_model.proofs.FileListLemmas.{named_is}
use Rattle.own_model.proofs.FileRequestLemmas.{neither_of, untold}
use Rattle.own_model.specs.Account.{Account}
use Rattle.own_model.specs.BestFit.{Spot}
use Rattle.own_model.specs.FileTheorems.{WrittenIsRead, OtherFilesStay}
use Rattle.own_model.specs.FileService.{Files, File, FileServed, node_size, is_named, file_named, rewritten, without, most_read, create_refusal, write_refusal, read_refusal, unless_refused, told, write_charged, created, written, read, sized, cleared, dropped, named}
use Rattle.own_model.specs.FileText.{FileError, file_reply}
use Rattle.own_model.specs.FileText.FileRequest.{Create, Write, Read, Size, Clear, Drop, Name, Stat}
use Rattle.own_model.specs.FileText.FileError.{NotFound}
use Rattle.own_model.specs.FileText.FileReply.{Count, Bytes, Refused}
use Rattle.own_model.specs.Growth.{hole_for}

-- ---- bytes

-- a part that was put over bytes stands there
part_read : (bytes : List ℕ) (offset : ℕ) (part : List ℕ) → offset ≤ length bytes → take (length part) (drop offset (with_bytes bytes offset part)) ≡ part
unfolding with_bytes
part_read bytes offset part fits = grind (arith, nat_tests, append_assoc, drop_at, length-take-le, take_at)

-- and leaves them no shorter than its offset
still_long : (bytes : List ℕ) (offset : ℕ) (part : List ℕ) → offset ≤ length bytes → offset ≤ length (with_bytes bytes offset part)
unfolding with_bytes
still_long bytes offset part fits = search (rules, length-append, length-take-le)

-- ---- what is found after a change

-- the file of the name, with its new bytes
find_rewritten : (name bytes : List ℕ) (files : List File) (file : File) → find (is_named name) files ≡ Some file → find (is_named name) (rewritten name bytes files) ≡ Some (record file { bytes = bytes })
find_rewritten name bytes [] file is = absurd (none-some file is)
find_rewritten name bytes (x ∷ rest) file is =
    elim (is_named name x) as (λ b. is_named name x ≡ b → cond b (Some x) (find (is_named name) rest) ≡ Some file →
    find (is_named name) (cond b (record x { bytes = bytes } ∷ rest) (x ∷ rewritten name bytes rest)) ≡ Some (record file { bytes = bytes })) [
      | true ↦ λ e here. ap (λ t. cond t (Some (record x { bytes = bytes })) (find (is_named name) rest)) e ∙ ap (λ (y : File). Some (record y { bytes = bytes })) (same_Some x file here)
      | false ↦ λ e there. ap (λ t. cond t (Some x) (find (is_named name) (rewritten name bytes rest))) e ∙ find_rewritten name bytes rest file there
    ] refl is

module _ (name other : List ℕ) (apart : bytes_eq name other ≡ false) where
  -- a file of the one name hasn't the other
  not_other : (x : File) → is_named name x ≡ true → is_named other x ≡ false
  not_other x is = ap (λ own. bytes_eq own other) ((bytes_eq-Decides x.name name).0 is) ∙ apart

  -- a file of another name, as it was
  others_rewritten : (bytes : List ℕ) (files : List File) → find (is_named other) (rewritten name bytes files) ≡ find (is_named other) files
  others_rewritten bytes [] = refl
  others_rewritten bytes (x ∷ rest) = grind (arith, nat_tests, not_other, others_rewritten bytes rest)

  others_without : (files : List File) → find (is_named other) (without name files) ≡ find (is_named other) files
  others_without [] = refl
  others_without (x ∷ rest) = grind (arith, nat_tests, not_other, others_without rest)

-- ---- what was written is read

module _ (files : Files) (account : Account) (name : List ℕ) (offset : ℕ) (bytes : List ℕ) (few : length bytes ≤ most_read) where
  -- a file that is written and read
  abbrev IsRead : FileServed → Type 0
  IsRead o = o.reply ≡ file_reply (Count (length bytes)) → (read offset (length bytes) (file_named name o.files) o.files o.account).reply ≡ file_reply (Bytes bytes)

  -- no error is a count
  no_count : (e : FileError) → file_reply (Refused e) ≡ file_reply (Count (length bytes)) → ⊥
  no_count e same = no_error_good e (subst IsGood (sym same) refl)

  -- a read of bytes that are there is accepted
  accepted_read : (file : File) → offset ≤ length file.bytes → read_refusal offset (length bytes) file ≡ None
  accepted_read file fits = grind (arith, nat_tests, le-ltb)

  read_of : (found : Option File) (file : File) (after : Files) (later : Account) → found ≡ Some file → offset ≤ length file.bytes → take (length bytes) (drop offset file.bytes) ≡ bytes →
      (read offset (length bytes) found after later).reply ≡ file_reply (Bytes bytes)
  read_of found file after later is fits same = search (rules, accepted_read)

  written_by : (file : File) → file_named name files ≡ Some file → (why : Option FileError) → write_refusal offset (length bytes) file account ≡ why →
      IsRead (unless_refused why files account (told (Count (length bytes)) (record files { files = rewritten file.name (with_bytes file.bytes offset bytes) files.files }) (write_charged offset (length bytes) file account)))
  written_by file is (Some e) refused = λ count. absurd (no_count e count)
  written_by file is None accepted = grind (arith, nat_tests, neither_of, ltb-false, untold, named_is, find_rewritten, read_of, still_long, part_read)

  written_then : (found : Option File) → file_named name files ≡ found → IsRead (written offset bytes found files account)
  written_then None none = λ count. absurd (no_count NotFound count)
  written_then (Some file) is = written_by file is (write_refusal offset (length bytes) file account) refl

pub written_is_read : WrittenIsRead
written_is_read files account name offset bytes few count = written_then files account name offset bytes few (file_named name files) refl count

-- ---- others stay

module _ (files : Files) (account : Account) (other : List ℕ) where
  -- the file of the other name is as it was
  abbrev Stays : FileServed → Type 0
  Stays o = file_named other o.files ≡ file_named other files

  unless_stays : (why : Option FileError) (o : FileServed) → Stays o → Stays (unless_refused why files account o)
  unless_stays None o stays = stays
  unless_stays (Some e) o stays = refl

  -- where there is nothing more, there is what there is
  or_nothing : (o : Option File) → option_or o None ≡ o
  or_nothing None = refl
  or_nothing (Some x) = refl

  push_stays : (new : File) → is_named other new ≡ false → find (is_named other) (files.files ++ new ∷ []) ≡ find (is_named other) files.files
  push_stays new differs = search (rules, find-append, or_nothing)

  created_stays : (name : List ℕ) → bytes_eq name other ≡ false → (found : Option Spot) → Stays (created name found files account)
  created_stays name apart (Some hole) = push_stays _ apart
  created_stays name apart None = push_stays _ apart

  module _ (name : List ℕ) (apart : bytes_eq name other ≡ false) where
    -- the file's own name isn't the other
    own_apart : (file : File) → file_named name files ≡ Some file → bytes_eq file.name other ≡ false
    own_apart file is = ap (λ own. bytes_eq own other) (named_is name files.files file is) ∙ apart

    written_stays : (offset : ℕ) (bytes : List ℕ) (found : Option File) → file_named name files ≡ found → Stays (written offset bytes found files account)
    written_stays offset bytes None none = refl
    written_stays offset bytes (Some file) is = grind (arith, nat_tests, unless_stays, others_rewritten, own_apart)

    cleared_stays : (found : Option File) → file_named name files ≡ found → Stays (cleared found files account)
    cleared_stays None none = refl
    cleared_stays (Some file) is = others_rewritten file.name other (own_apart file is) [] files.files

    dropped_stays : (found : Option File) → file_named name files ≡ found → Stays (dropped found files account)
    dropped_stays None none = refl
    dropped_stays (Some file) is = others_without file.name other (own_apart file is) files.files

  read_stays : (offset count : ℕ) (found : Option File) → Stays (read offset count found files account)
  read_stays offset count None = refl
  read_stays offset count (Some file) = unless_stays (read_refusal offset count file) _ refl

  sized_stays : (found : Option File) → Stays (sized found files account)
  sized_stays None = refl
  sized_stays (Some file) = refl

  named_stays : (found : Option File) → Stays (named found files account)
  named_stays None = refl
  named_stays (Some file) = refl

pub others_stay : OtherFilesStay
others_stay files account other (Create name) apart = unless_stays files account other (create_refusal name files account) _ (created_stays files account other name apart (hole_for node_size files.shape))
others_stay files account other (Write name offset bytes) apart = written_stays files account other name apart offset bytes (file_named name files) refl
others_stay files account other (Read name offset count) apart = read_stays files account other offset count (file_named name files)
others_stay files account other (Size name) apart = sized_stays files account other (file_named name files)
others_stay files account other (Clear name) apart = cleared_stays files account other name apart (file_named name files) refl
others_stay files account other (Drop name) apart = dropped_stays files account other name apart (file_named name files) refl
others_stay files account other (Name place) apart = named_stays files account other (slice_get files.files place)
others_stay files account other Stat apart = refl
