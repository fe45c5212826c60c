-- A request tests what is told of it.
use Rattle.std.proofs.lemmas.Bool.Decides.{nat_tests}
use Rattle.std.proofs.Common.{arith, ◌≡◌, ℕ, ◌+◌, ◌<◌, ◌≤◌, ◌&&◌, ◌||◌, Bool, true, false, cond, List, [], ◌∷◌, ◌++◌, length, find, max, ◌^◌, decimal, codes, nat_lt, nat_le, refl, sym, ap, ◌∙◌, true≢false, subst, length-append, length-drop, take, drop, slice_get}
use Rattle.std.proofs.lemmas.List.{length-take-le}
use Rattle.std.proofs.lemmas.Option.{none-some, same_Some}
use Rattle.std.specs.Prelude.{if◌then◌else◌, not, Option, Some, None, is_none, is_some}
use Rattle.std.specs.Option.{option_map, option_or}
use Rattle.std.specs.Str.{bytes_eq}
use Rattle.trade_base.proofs.BytesLemmas.{length-slice_range}
use Rattle.trade_base.proofs.PageLemmas.{IsLeastPageSize-page_of}
use Rattle.trade_base.specs.Bytes.{with_bytes}
use Rattle.trade_base.specs.Page.{page_of, is_valid_size}
use Rattle.trade_base.specs.declared.refusal.Refusal.TheVariants as refusal
use Rattle.own_model.proofs.BufferMadeLemmas.{request_new}
use Rattle.own_model.proofs.FileListLemmas.{named_is}
use Rattle.own_model.specs.Account.{Account, shortage, charged}
use Rattle.own_model.specs.BestFit.{Spot}
use Rattle.own_model.specs.BufferService as shared
use Rattle.own_model.specs.BufferService.{BufferRequest, SessionRequest, BufferServed, beside, range_refusal, move_refusal, part_of, made, given_back, put, got, buffer_served, session_request, session_request_served, text_served}
use Rattle.own_model.specs.BufferService.BufferRequest.{Make, GiveBack, Put, Get}
use Rattle.own_model.specs.BufferService.SessionRequest.{OfFiles, OfBuffer}
use Rattle.own_model.specs.FileService.{Files, File, FileServed, file_named, is_named, node_size, no_files, create_refusal, write_charged, without, error_of, is_longer, write_refusal, read_refusal, told, unless_refused, created, created_in, written, read, sized, cleared, dropped, named, request_served, rewritten}
use Rattle.own_model.specs.FileText.{FileRequest, FileError, file_reply}
use Rattle.own_model.specs.FileText.FileRequest.{Create, Write, Read, Size, Clear, Drop, Name, Stat}
use Rattle.own_model.specs.FileText.FileError.{BadName, Exists, Gap, TooManyChunks, OutOfRam, OutOfCaps, InvalidSize, NoBuffer, BadRange}
use Rattle.own_model.specs.FileText.FileReply.{Done, Count, Refused}
use Rattle.own_model.specs.Growth.{Growth, most_chunks, hole_for, least_growth, larger_growth, new_hole, small_refusal, shape_grown}
use Rattle.own_model.specs.LogService.{log_served_bytes}
use Rattle.own_model.specs.LogText.{log_request}
use Rattle.own_model.specs.OwnState.{NamedBuffer, bytes_of_buffer}
use Rattle.own_model.specs.OwnStep.{completed}
use Rattle.own_model.specs.Session.{ServiceState, Session, Served, served_by}
use Rattle.own_model.specs.Services.ServiceState.{Filing, Holding, Logging}
use Rattle.own_model.specs.Sliced.{sliced_size}
use Rattle.own_model.specs.Text.{is_name}
use Rattle.budget_theorems.specs.Request.{create_tests, filing_tests, put_tests, write_tests, tests_where_none, tests_by, shows_session_short}
use Rattle.budget_theorems.specs.Test.{Test, test_of, tested_where, small_tests, growth_tests}
use Rattle.budget_meter.specs.KeptState.{HasNoObjects}
use Rattle.budget_meter.specs.RequestTests.{files_in, shows_charge, tests_by_reply, growth_by_reply, is_granted, IsCreated, IsWritten, IsDone, Changes}

pub none_more : (c : ℕ) → nat_lt c c ≡ false
none_more c = grind (arith, nat_tests)

pub one_more : (c : ℕ) → nat_lt c (c + 1) ≡ true
one_more c = grind (arith, nat_tests)

pub not_lt : (a b : ℕ) (v : Bool) → nat_lt b a ≡ v → nat_le a b ≡ cond v false true
not_lt a b true is = grind (arith, nat_tests)
not_lt a b false is = grind (arith, nat_tests)

-- ---- a new file

module _ (name : List ℕ) (files : Files) (a : Account) where
  abbrev charge : FileServed → Bool
  charge o = shows_charge o.reply a o.account

  abbrev number : FileServed → ℕ
  number o =
      if nat_lt a.caps_used o.account.caps_used && nat_le (a.ram_used + (larger_growth node_size files.shape).bytes) a.ram_limit
      then (larger_growth node_size files.shape).next else files.shape.growth

  -- it tests as a heap that grows where a charge is told, and else nothing
  record Tells (each : List Test) (o : FileServed) : Type 0 where
    quiet : charge o ≡ false → (each ≡ []) × (o.files.shape.growth ≡ files.shape.growth)
    grows : charge o ≡ true → (each ≡ growth_tests node_size files.shape a) × (o.files.shape.growth ≡ number o)

  abbrev refuses : FileError → FileServed
  refuses e = told (Refused e) files a

  -- refused for another reason, or done without a growth
  stays : (o : FileServed) → shows_session_short o.reply ≡ false → o.account ≡ a → o.files.shape.growth ≡ files.shape.growth → Tells [] o
  stays o short same growth =
      let quiet : charge o ≡ false = ap (λ b. b || nat_lt a.caps_used o.account.caps_used) short ∙ ap (λ x. nat_lt a.caps_used x.caps_used) same ∙ none_more a.caps_used in
      record { quiet = λ _. (refl, growth); grows = λ e. absurd (true≢false (sym e ∙ quiet)) }

  -- refused by the account
  still : (u : Bool) → files.shape.growth ≡ (if nat_lt a.caps_used a.caps_used && u then (larger_growth node_size files.shape).next else files.shape.growth)
  still u = rw (none_more a.caps_used) refl

  short_ram : Tells (growth_tests node_size files.shape a) (refuses OutOfRam)
  short_ram = record { quiet = λ e. absurd (true≢false e); grows = λ _. (refl, still _) }

  short_caps : Tells (growth_tests node_size files.shape a) (refuses OutOfCaps)
  short_caps = record { quiet = λ e. absurd (true≢false e); grows = λ _. (refl, still _) }

  abbrev grown : Growth → FileServed
  grown growth = told Done (created_in name (new_hole growth files.shape) (record files { shape = shape_grown growth files.shape })) (charged a growth.bytes 1)

  abbrev large : ℕ
  large = (larger_growth node_size files.shape).bytes

  -- grown, where the account covers a capability more
  grows_by : (v : Bool) → nat_lt a.ram_limit (a.ram_used + large) ≡ v →
      Tells (growth_tests node_size files.shape a)
      (grown (cond (is_none (cond v (Some refusal.OutOfRam) (cond false (Some refusal.OutOfCaps) None))) (larger_growth node_size files.shape) (least_growth node_size files.shape)))
  grows_by true is = record {
    quiet = λ e. absurd (true≢false (sym (one_more a.caps_used) ∙ e));
    grows = λ _. (refl, rw (one_more a.caps_used, not_lt (a.ram_used + large) a.ram_limit true is) refl);
  }
  grows_by false is = record {
    quiet = λ e. absurd (true≢false (sym (one_more a.caps_used) ∙ e));
    grows = λ _. (refl, rw (one_more a.caps_used, not_lt (a.ram_used + large) a.ram_limit false is) refl);
  }

  by_account : (u v w : Bool) → nat_lt a.ram_limit (a.ram_used + large) ≡ w →
      Tells (growth_tests node_size files.shape a)
      (unless_refused (option_map error_of (cond u (Some refusal.OutOfRam) (cond v (Some refusal.OutOfCaps) None))) files a
      (grown (cond (is_none (cond w (Some refusal.OutOfRam) (cond v (Some refusal.OutOfCaps) None))) (larger_growth node_size files.shape) (least_growth node_size files.shape))))
  by_account true v w is = short_ram
  by_account false true w is = short_caps
  by_account false false w is = grows_by w is

  by_chunks : (full : Bool) → Tells (cond full [] (growth_tests node_size files.shape a))
      (unless_refused (option_map error_of (cond full (Some refusal.TooManyChunks) (shortage a (least_growth node_size files.shape).bytes 1))) files a (created name None files a))
  by_chunks true = stays (refuses TooManyChunks) refl refl refl
  by_chunks false =
      by_account (nat_lt a.ram_limit (a.ram_used + (least_growth node_size files.shape).bytes)) (nat_lt a.caps_limit (a.caps_used + 1))
      (nat_lt a.ram_limit (a.ram_used + large)) refl

  by_hole : (hole : Option Spot) → Tells (small_tests node_size hole files.shape a)
      (unless_refused (option_map error_of (small_refusal node_size hole files.shape a)) files a (created name hole files a))
  by_hole (Some hole) = stays (told Done (created_in name hole files) a) refl refl refl
  by_hole None = by_chunks (nat_le most_chunks (length files.shape.chunks))

  by_name : (bad there : Bool) → Tells (cond bad [] (cond there [] (small_tests node_size (hole_for node_size files.shape) files.shape a)))
      (unless_refused (cond bad (Some BadName) (cond there (Some Exists) (option_map error_of (small_refusal node_size (hole_for node_size files.shape) files.shape a)))) files a
      (created name (hole_for node_size files.shape) files a))
  by_name true there = stays (refuses BadName) refl refl refl
  by_name false true = stays (refuses Exists) refl refl refl
  by_name false false = by_hole (hole_for node_size files.shape)

  node_tells : Tells (create_tests name files a) (request_served (Some (Create name)) files a)
  node_tells = by_name (not (is_name name)) (is_some (file_named name files))

  -- in the words of what is told
  by_charge : (each : List Test) (o : FileServed) (b : Bool) → charge o ≡ b → Tells each o →
      (cond b (growth_tests node_size files.shape a) [] ≡ each) × (cond b (number o) files.shape.growth ≡ o.files.shape.growth)
  by_charge each o true is tells = (sym (tells.grows is).0, sym (tells.grows is).1)
  by_charge each o false is tells = (sym (tells.quiet is).0, sym (tells.quiet is).1)

  pub create_told :
      let o = request_served (Some (Create name)) files a in
      (tests_by_reply (Some (OfFiles (Create name))) o.reply a o.account files ≡ create_tests name files a)
      × (growth_by_reply (Some (OfFiles (Create name))) o.reply a o.account files ≡ o.files.shape.growth)
  create_told = let o = request_served (Some (Create name)) files a in by_charge (create_tests name files a) o (charge o) refl node_tells

-- the last file is new where that is told
module _ (name reply : List ℕ) (files : Files) where
  untouched : (new : List File) → bytes_eq reply (codes "OK") ≡ false → new ≡ files.files → IsCreated name reply files.files new
  untouched new not_so same = record { made = λ so. absurd (true≢false (sym so ∙ not_so)); left = λ _. same }

module _ (name : List ℕ) (files : Files) (a : Account) where
  abbrev Creates : FileServed → Type 0
  Creates o = IsCreated name o.reply files.files o.files.files

  unless_creates : (why : Option FileError) (o : FileServed) → Creates o → Creates (unless_refused why files a o)
  unless_creates (Some e) o creates = untouched name (file_reply (Refused e)) files files.files refl refl
  unless_creates None o creates = creates

  creates_by : (hole : Option Spot) → Creates (created name hole files a)
  creates_by (Some hole) = record { made = λ _. (hole.chunk, (hole.offset, refl)); left = λ not_so. absurd (true≢false not_so) }
  creates_by None = record { made = λ _. (_, (_, refl)); left = λ not_so. absurd (true≢false not_so) }

  pub create_changes : Creates (request_served (Some (Create name)) files a)
  create_changes = unless_creates (create_refusal name files a) (created name (hole_for node_size files.shape) files a) (creates_by (hole_for node_size files.shape))

-- ---- a content

-- bytes that are put over others from within them on, and past their end
pub length_put_over : (bytes part : List ℕ) (offset : ℕ) → offset ≤ length bytes → length (with_bytes bytes offset part) ≡ max (length bytes) (offset + length part)
unfolding with_bytes
length_put_over bytes part offset within =
    omega (arith, length-append (take offset bytes ++ part) (drop (offset + length part) bytes), length-append (take offset bytes) part, length-take-le offset bytes within, length-drop (offset + length part) bytes)

up_to : (n : ℕ) → n ≤ page_of n
up_to n = (IsLeastPageSize-page_of n).covers

module _ (files : Files) (a : Account) (name : List ℕ) (offset count : ℕ) where
  -- with nothing of that name, or refused
  no_file : (reply : List ℕ) → find (is_named name) files.files ≡ None → IsWritten name offset count reply files.files files.files
  no_file reply none = record { left = λ _. refl; none = λ _. refl; some = λ file is. absurd (none-some file (sym none ∙ is)) }

  not_done : (reply : List ℕ) → is_granted reply ≡ false → IsWritten name offset count reply files.files files.files
  not_done reply not_so = record { left = λ _. refl; none = λ _. refl; some = λ file is so. absurd (true≢false (sym so ∙ not_so)) }

  module _ (file : File) (bytes : List ℕ) (found : file_named name files ≡ Some file) (long : length bytes ≡ count) where
    abbrev over : List File
    over = rewritten file.name (with_bytes file.bytes offset bytes) files.files

    done : (reply : List ℕ) → is_granted reply ≡ true → offset ≤ length file.bytes → (length file.bytes < offset + count → offset + count < 2 ^ 64) →
        IsWritten name offset count reply files.files over
    done reply so within fits = record {
      left = λ not_so. absurd (true≢false (sym so ∙ not_so));
      none = λ none. absurd (none-some file (sym none ∙ found));
      some = λ other is _.
          let same : file ≡ other = same_Some file other (sym found ∙ is) in (
            subst (λ (f : File). length f.bytes < offset + count → offset + count < 2 ^ 64) same fits,
            record {
              bytes = with_bytes file.bytes offset bytes;
              long = length_put_over file.bytes bytes offset within ∙ (λ i. max (length (same i).bytes) (offset + long i));
              is = ap (λ n. rewritten n (with_bytes file.bytes offset bytes) files.files) (named_is name files.files file found);
            },
          );
    }

    abbrev written_by : Bool → Bool → Bool → Bool → Account → FileServed
    written_by g l u v after =
        unless_refused (option_or (cond g (Some Gap) None) (cond l (option_map error_of (cond u (Some refusal.OutOfRam) (cond v (Some refusal.OutOfCaps) None))) None)) files a
        (told (Count (length bytes)) (record files { files = over }) after)

    write_changes : (g l u v : Bool) (after : Account) → a.ram_limit < 2 ^ 64 → nat_lt (length file.bytes) offset ≡ g → nat_lt (length file.bytes) (offset + count) ≡ l →
        nat_lt a.ram_limit (a.ram_used + sliced_size (offset + count)) ≡ u →
        IsWritten name offset count (written_by g l u v after).reply files.files (written_by g l u v after).files.files
    write_changes true l u v after few gap longer short = not_done _ refl
    write_changes false true true v after few gap longer short = not_done _ refl
    write_changes false true false true after few gap longer short = not_done _ refl
    write_changes false true false false after few gap longer short =
        let covers = up_to (32 + (offset + count)) in
        done _ refl (grind (arith, nat_tests, gap)) (λ _. grind (arith, nat_tests, short, covers, few))
    write_changes false false u v after few gap longer short = done _ refl (grind (arith, nat_tests, gap)) (λ less. absurd (grind (arith, nat_tests, longer, less)))

    -- whether it was to be charged is told wherever the offset is within the file
    write_tells : (l u v : Bool) (after : Account) → (is_granted (written_by false l u v after).reply || shows_session_short (written_by false l u v after).reply) ≡ true
    write_tells true true v after = refl
    write_tells true false true after = refl
    write_tells true false false after = refl
    write_tells false u v after = refl

module _ (files : Files) (a : Account) (few : a.ram_limit < 2 ^ 64) where
  written_changes : (name : List ℕ) (offset : ℕ) (bytes : List ℕ) (found : Option File) → file_named name files ≡ found →
      IsWritten name offset (length bytes) (written offset bytes found files a).reply files.files (written offset bytes found files a).files.files
  written_changes name offset bytes None is = no_file files a name offset (length bytes) _ is
  written_changes name offset bytes (Some file) is =
      write_changes files a name offset (length bytes) file bytes is refl (nat_lt (length file.bytes) offset) (is_longer offset (length bytes) file)
      (nat_lt a.ram_limit (a.ram_used + sliced_size (offset + length bytes))) (nat_lt a.caps_limit (a.caps_used + 1)) (write_charged offset (length bytes) file a) few refl refl refl

-- ---- all requests

-- what a request tests, how far its heap grows, and what it does to files is told by a reply
pub record AllTold (request : Option SessionRequest) (buffer : Option (List ℕ)) (files : Files) (a : Account) (reply : List ℕ) (o : BufferServed) : Type 0 where
  pub tests : tests_by_reply request reply a o.account files ≡ filing_tests request buffer files a
  pub growth : growth_by_reply request reply a o.account files ≡ o.files.shape.growth
  pub changes : Changes request reply files.files o.files.files

module _ (files : Files) (a : Account) (few : a.ram_limit < 2 ^ 64) (buffer : Option (List ℕ)) where
  abbrev Told : SessionRequest → BufferServed → Type 0
  Told request o = AllTold (Some request) buffer files a o.reply o

  -- what leaves the heap's shape
  abbrev Shaped : FileServed → Type 0
  Shaped o = files.shape.growth ≡ o.files.shape.growth

  unless_shaped : (why : Option FileError) (o : FileServed) → Shaped o → Shaped (unless_refused why files a o)
  unless_shaped (Some e) o shaped = refl
  unless_shaped None o shaped = shaped

  written_shaped : (offset : ℕ) (bytes : List ℕ) (found : Option File) → Shaped (written offset bytes found files a)
  written_shaped offset bytes None = refl
  written_shaped offset bytes (Some file) = unless_shaped (write_refusal offset (length bytes) file a) _ refl

  -- and what leaves files, too
  abbrev Left : FileServed → Type 0
  Left o = o.files ≡ files

  unless_left : (why : Option FileError) (o : FileServed) → Left o → Left (unless_refused why files a o)
  unless_left (Some e) o left = refl
  unless_left None o left = left

  read_left : (offset count : ℕ) (found : Option File) → Left (read offset count found files a)
  read_left offset count None = refl
  read_left offset count (Some file) = unless_left (read_refusal offset count file) _ refl

  sized_left : (found : Option File) → Left (sized found files a)
  sized_left None = refl
  sized_left (Some file) = refl

  named_left : (found : Option File) → Left (named found files a)
  named_left None = refl
  named_left (Some file) = refl

  -- a file cleared or dropped
  clears : (name : List ℕ) (found : Option File) → file_named name files ≡ found → IsDone (cleared found files a).reply (rewritten name [] files.files) files.files (cleared found files a).files.files
  clears name None is = record { done = λ so. absurd (true≢false (sym so)); left = λ _. refl }
  clears name (Some file) is = record { done = λ _. ap (λ n. rewritten n [] files.files) (named_is name files.files file is); left = λ not_so. absurd (true≢false not_so) }

  clears_shaped : (found : Option File) → Shaped (cleared found files a)
  clears_shaped None = refl
  clears_shaped (Some file) = refl

  drops : (name : List ℕ) (found : Option File) → file_named name files ≡ found → IsDone (dropped found files a).reply (without name files.files) files.files (dropped found files a).files.files
  drops name None is = record { done = λ so. absurd (true≢false (sym so)); left = λ _. refl }
  drops name (Some file) is = record { done = λ _. ap (λ n. without n files.files) (named_is name files.files file is); left = λ not_so. absurd (true≢false not_so) }

  drops_shaped : (found : Option File) → Shaped (dropped found files a)
  drops_shaped None = refl
  drops_shaped (Some file) = refl

  leaves : (request : FileRequest) (o : FileServed) → Left o → tests_by_reply (Some (OfFiles request)) o.reply a o.account files ≡ filing_tests (Some (OfFiles request)) buffer files a →
      growth_by_reply (Some (OfFiles request)) o.reply a o.account files ≡ files.shape.growth → (files.files ≡ files.files → Changes (Some (OfFiles request)) o.reply files.files files.files) →
      Told (OfFiles request) (beside buffer o)
  leaves request o left tests growth changes = record {
    tests = tests;
    growth = growth ∙ ap (λ (f : Files). f.shape.growth) (sym left);
    changes = subst (λ (f : Files). Changes (Some (OfFiles request)) o.reply files.files f.files) (sym left) (changes refl);
  }

  file_told : (request : FileRequest) → Told (OfFiles request) (beside buffer (request_served (Some request) files a))
  file_told (Create name) = record { tests = (create_told name files a).0; growth = (create_told name files a).1; changes = create_changes name files a }
  file_told (Write name offset bytes) = record {
    tests = refl;
    growth = written_shaped offset bytes (file_named name files);
    changes = written_changes files a few name offset bytes (file_named name files) refl;
  }
  file_told (Read name offset count) = leaves (Read name offset count) (read offset count (file_named name files) files a) (read_left offset count (file_named name files)) refl refl (λ same. same)
  file_told (Size name) = leaves (Size name) (sized (file_named name files) files a) (sized_left (file_named name files)) refl refl (λ same. same)
  file_told (Clear name) = record { tests = refl; growth = clears_shaped (file_named name files); changes = clears name (file_named name files) refl }
  file_told (Drop name) = record { tests = refl; growth = drops_shaped (file_named name files); changes = drops name (file_named name files) refl }
  file_told (Name place) = leaves (Name place) (named (slice_get files.files place) files a) (named_left (slice_get files.files place)) refl refl (λ same. same)
  file_told Stat = record { tests = refl; growth = refl; changes = refl }

  -- ---- of the buffer

  -- a put, by what its part of the buffer is
  module _ (name : List ℕ) (offset place count : ℕ) where
    abbrev Puts : Option File → Type 0
    Puts found =
        let o = put offset place count buffer found files a in
        (cond (is_granted o.reply || shows_session_short o.reply) (write_tests offset count found) [] ≡ put_tests offset place count buffer found)
        × (files.shape.growth ≡ o.files.shape.growth) × IsWritten name offset count o.reply files.files o.files.files

    put_none : file_named name files ≡ None → Puts None
    put_none is = (refl, refl, no_file files a name offset count _ is)

    module _ (file : File) (is : file_named name files ≡ Some file) where
      abbrev part : List ℕ
      part = part_of buffer place count

      abbrev putting : Option FileError → BufferServed
      putting why = shared.unless_refused why buffer files a (beside buffer (written offset part (Some file) files a))

      abbrev PutsBy : Option FileError → Type 0
      PutsBy why =
          (cond (is_granted (putting why).reply || shows_session_short (putting why).reply) (write_tests offset count (Some file)) [] ≡ tests_where_none why (write_tests offset (length part) (Some file)))
          × (files.shape.growth ≡ (putting why).files.shape.growth) × IsWritten name offset count (putting why).reply files.files (putting why).files.files

      put_accepted : nat_lt (length file.bytes) offset ≡ false → length part ≡ count → PutsBy None
      put_accepted within long =
          let told_so = write_tells files a name offset count file part is long in
          let longer = is_longer offset (length part) file in
          let u = nat_lt a.ram_limit (a.ram_used + sliced_size (offset + length part)) in
          let v = nat_lt a.caps_limit (a.caps_used + 1) in
          let after = write_charged offset (length part) file a in (
            ap (λ g. cond (is_granted (written_by files a name offset count file part is long g longer u v after).reply || shows_session_short (written_by files a name offset count file part is long g longer u v after).reply)
                (write_tests offset count (Some file)) []) within
                ∙ ap (λ b. cond b (write_tests offset count (Some file)) []) (told_so longer u v after)
                ∙ ap (λ n. write_tests offset n (Some file)) (sym long),
            written_shaped offset part (Some file),
            subst (λ n. IsWritten name offset n (written offset part (Some file) files a).reply files.files (written offset part (Some file) files a).files.files) long
                (subst (λ found. IsWritten name offset (length part) (written offset part found files a).reply files.files (written offset part found files a).files.files) is
                (written_changes files a few name offset part (file_named name files) refl)),
          )

      put_refused : (e : FileError) → shows_session_short (file_reply (Refused e)) ≡ false → PutsBy (Some e)
      put_refused e not_short = (
        ap (λ b. cond (false || b) (write_tests offset count (Some file)) []) not_short,
        refl,
        not_done files a name offset count _ refl,
      )

      put_by : (g : Bool) (from : Option (List ℕ)) → buffer ≡ from → nat_lt (length file.bytes) offset ≡ g → PutsBy (option_or (cond g (Some Gap) None) (range_refusal place count from))
      put_by true from has gap = put_refused Gap refl
      put_by false None has gap = put_refused NoBuffer refl
      put_by false (Some bytes) has gap =
          elim (nat_lt (length bytes) (place + count)) as (λ b. nat_lt (length bytes) (place + count) ≡ b → PutsBy (cond b (Some BadRange) None)) [
            | true ↦ λ _. put_refused BadRange refl
            | false ↦ λ within. put_accepted gap (ap (λ b. length (part_of b place count)) has ∙ length-slice_range bytes place count (grind (arith, nat_tests, within)))
          ] refl

      put_some : Puts (Some file)
      put_some = put_by (nat_lt (length file.bytes) offset) buffer refl refl

    put_all : (found : Option File) → file_named name files ≡ found → Puts found
    put_all None is = put_none is
    put_all (Some file) is = put_some file is

  got_left : (offset place count : ℕ) (found : Option File) → (got offset place count buffer found files a).files ≡ files
  got_left offset place count None = refl
  got_left offset place count (Some file) =
      elim (move_refusal offset place count buffer file) as
      (λ why. (shared.unless_refused why buffer files a (beside (option_map (λ bytes. with_bytes bytes place (take count (drop offset file.bytes))) buffer) (told (Count (length (take count (drop offset file.bytes)))) files a))).files ≡ files) [
        | None ↦ refl
        | Some e ↦ refl
      ]

  gives_left : (from : Option (List ℕ)) → (given_back from files a).files ≡ files
  gives_left None = refl
  gives_left (Some bytes) = refl

  -- a first buffer: a reply that waits for its selector tells as well
  module _ (n : ℕ) (reply : List ℕ) where
    abbrev making : Bool → Bool → Bool → Bool → BufferServed
    making bad has u v =
        shared.unless_refused (cond bad (Some InvalidSize) (cond has (Some Exists) (option_map error_of (cond u (Some refusal.OutOfRam) (cond v (Some refusal.OutOfCaps) None)))))
        buffer files a (made n files a)

    abbrev Makes : Bool → Bool → BufferServed → Type 0
    Makes bad has o =
        shows_session_short reply ≡ shows_session_short o.reply →
        (cond (shows_charge reply a o.account) (cond (not bad) (test_of (page_of n) 1 ∷ []) []) [] ≡ cond bad [] (cond has [] (test_of (page_of n) 1 ∷ []))) × (o.files ≡ files)

    make_by : (bad has u v : Bool) → Makes bad has (making bad has u v)
    make_by true has u v = λ short. (ap (λ b. cond (b || nat_lt a.caps_used a.caps_used) [] []) short ∙ ap (λ b. cond b [] []) (none_more a.caps_used), refl)
    make_by false true u v = λ short.
        (ap (λ b. cond (b || nat_lt a.caps_used a.caps_used) (test_of (page_of n) 1 ∷ []) []) short ∙ ap (λ b. cond b (test_of (page_of n) 1 ∷ []) []) (none_more a.caps_used), refl)
    make_by false false true v = λ short. (ap (λ b. cond (b || nat_lt a.caps_used a.caps_used) (test_of (page_of n) 1 ∷ []) []) short, refl)
    make_by false false false true = λ short. (ap (λ b. cond (b || nat_lt a.caps_used a.caps_used) (test_of (page_of n) 1 ∷ []) []) short, refl)
    make_by false false false false = λ short.
        (ap (λ b. cond (b || nat_lt a.caps_used (a.caps_used + 1)) (test_of (page_of n) 1 ∷ []) []) short ∙ ap (λ b. cond b (test_of (page_of n) 1 ∷ []) []) (one_more a.caps_used), refl)

    valid_by : (b : Bool) (test : Test) → cond b (test ∷ []) [] ≡ cond (not (not b)) (test ∷ []) []
    valid_by true test = refl
    valid_by false test = refl

    make_told : let o = buffer_served (Make n) buffer files a in shows_session_short reply ≡ shows_session_short o.reply → AllTold (Some (OfBuffer (Make n))) buffer files a reply o
    make_told short =
        let o = buffer_served (Make n) buffer files a in
        let made_so = make_by (not (is_valid_size n)) (is_some buffer) (nat_lt a.ram_limit (a.ram_used + page_of n)) (nat_lt a.caps_limit (a.caps_used + 1)) short in
        record {
          tests = ap (λ each. cond (shows_charge reply a o.account) each []) (valid_by (is_valid_size n) (test_of (page_of n) 1)) ∙ made_so.0;
          growth = ap (λ (f : Files). f.shape.growth) (sym made_so.1);
          changes = ap (λ (f : Files). f.files) made_so.1;
        }

  put_told : (name : List ℕ) (offset place count : ℕ) → Told (OfBuffer (Put name offset place count)) (buffer_served (Put name offset place count) buffer files a)
  put_told name offset place count =
      let puts = put_all name offset place count (file_named name files) refl in
      record { tests = puts.0; growth = puts.1; changes = puts.2 }

  get_told : (name : List ℕ) (offset place count : ℕ) → Told (OfBuffer (Get name offset place count)) (buffer_served (Get name offset place count) buffer files a)
  get_told name offset place count =
      let left = got_left offset place count (file_named name files) in
      record { tests = refl; growth = ap (λ (f : Files). f.shape.growth) (sym left); changes = ap (λ (f : Files). f.files) left }

  give_told : Told (OfBuffer GiveBack) (buffer_served GiveBack buffer files a)
  give_told =
      let left = gives_left buffer in
      record { tests = refl; growth = ap (λ (f : Files). f.shape.growth) (sym left); changes = ap (λ (f : Files). f.files) left }

-- ---- as its client is told

-- a request of the one with this buffer under a selector
module _ (files : Files) (a : Account) (few : a.ram_limit < 2 ^ 64) (selector : ℕ) where
  abbrev server : Option SessionRequest → Option NamedBuffer → BufferServed
  server request buffer = session_request_served request (bytes_of_buffer buffer) files a

  abbrev told_reply : Option SessionRequest → Option NamedBuffer → List ℕ
  told_reply request buffer = completed buffer (server request buffer).buffer selector (server request buffer).reply

  abbrev ToldAll : Option SessionRequest → Option NamedBuffer → Type 0
  ToldAll request buffer = AllTold request (bytes_of_buffer buffer) files a (told_reply request buffer) (server request buffer)

  -- without a buffer none comes but by its own request
  put_keeps : (offset place count : ℕ) (found : Option File) → (put offset place count None found files a).buffer ≡ None
  put_keeps offset place count None = refl
  put_keeps offset place count (Some file) =
      elim (move_refusal offset place count None file) as
      (λ why. (shared.unless_refused why None files a (beside None (written offset (part_of None place count) (Some file) files a))).buffer ≡ None) [
        | None ↦ refl
        | Some e ↦ refl
      ]

  get_keeps : (offset place count : ℕ) (found : Option File) → (got offset place count None found files a).buffer ≡ None
  get_keeps offset place count None = refl
  get_keeps offset place count (Some file) =
      elim (move_refusal offset place count None file) as
      (λ why. (shared.unless_refused why None files a (beside None (told (Count (length (take count (drop offset file.bytes)))) files a))).buffer ≡ None) [
        | None ↦ refl
        | Some e ↦ refl
      ]

  -- so the reply is the server's
  same_reply : (request : Option SessionRequest) (buffer : Option NamedBuffer) → ((server request None).buffer ≡ None) → told_reply request buffer ≡ (server request buffer).reply
  same_reply request (Some buffer) none = refl
  same_reply request None none = ap (λ b. completed None b selector (server request None).reply) none

  by_server : (request : Option SessionRequest) (buffer : Option NamedBuffer) → ((server request None).buffer ≡ None) →
      AllTold request (bytes_of_buffer buffer) files a (server request buffer).reply (server request buffer) → ToldAll request buffer
  by_server request buffer none all = subst (λ reply. AllTold request (bytes_of_buffer buffer) files a reply (server request buffer)) (sym (same_reply request buffer none)) all

  -- and where a buffer was made it is short no more than it was
  short_by : (made : Option (List ℕ)) (reply : List ℕ) → ((bytes : List ℕ) → made ≡ Some bytes → reply ≡ codes "OK cap ") → shows_session_short (completed None made selector reply) ≡ shows_session_short reply
  short_by None reply waits = refl
  short_by (Some bytes) reply waits = let is = waits bytes refl in ap (λ text. shows_session_short (text ++ decimal selector)) is ∙ ap shows_session_short (sym is)

  pub short_same : (request : Option SessionRequest) (buffer : Option NamedBuffer) → shows_session_short (told_reply request buffer) ≡ shows_session_short (server request buffer).reply
  short_same request (Some buffer) = refl
  short_same request None = short_by (server request None).buffer (server request None).reply (λ bytes is. (request_new files a request bytes is).1)

  pub request_told : (request : Option SessionRequest) (buffer : Option NamedBuffer) → ToldAll request buffer
  request_told None buffer = by_server None buffer refl (record { tests = refl; growth = refl; changes = refl })
  request_told (Some (OfFiles request)) buffer = by_server (Some (OfFiles request)) buffer refl (file_told files a few (bytes_of_buffer buffer) request)
  request_told (Some (OfBuffer (Make n))) buffer =
      make_told files a few (bytes_of_buffer buffer) n (told_reply (Some (OfBuffer (Make n))) buffer) (short_same (Some (OfBuffer (Make n))) buffer)
  request_told (Some (OfBuffer GiveBack)) buffer = by_server (Some (OfBuffer GiveBack)) buffer refl (give_told files a few (bytes_of_buffer buffer))
  request_told (Some (OfBuffer (Put name offset place count))) buffer =
      by_server (Some (OfBuffer (Put name offset place count))) buffer (put_keeps offset place count (file_named name files)) (put_told files a few (bytes_of_buffer buffer) name offset place count)
  request_told (Some (OfBuffer (Get name offset place count))) buffer =
      by_server (Some (OfBuffer (Get name offset place count))) buffer (get_keeps offset place count (file_named name files)) (get_told files a few (bytes_of_buffer buffer) name offset place count)

-- ---- of any session

-- of a buffer that stays a reply says nothing
pub buffer_stays : (selector : ℕ) (b : Option NamedBuffer) (reply : List ℕ) → completed b (bytes_of_buffer b) selector reply ≡ reply
buffer_stays selector None reply = refl
buffer_stays selector (Some b) reply = refl

-- what its client is told of a request tells what that tests, how far the heap of files grows, and what becomes of them
pub record TellsSession (request : List ℕ) (buffer : Option NamedBuffer) (session : Session) (state : ServiceState) (reply : List ℕ) (o : Served) : Type 0 where
  pub tests : tests_by_reply (session_request request) reply session.account o.session.account (files_in state) ≡ tests_by state (bytes_of_buffer buffer) session.account request
  pub growth : growth_by_reply (session_request request) reply session.account o.session.account (files_in state) ≡ (files_in o.session.state).shape.growth
  pub changes : Changes (session_request request) reply (files_in state).files (files_in o.session.state).files
  pub short : shows_session_short reply ≡ shows_session_short o.reply

module _ (request : List ℕ) (buffer : Option NamedBuffer) (session : Session) (few : session.account.ram_limit < 2 ^ 64) (selector : ℕ) where
  abbrev told_by : Served → List ℕ
  told_by o = completed buffer o.buffer selector o.reply

  -- a log tells no charge, and nothing that a file's making does
  record OfLog (reply : List ℕ) : Type 0 where
    short : shows_session_short reply ≡ false
    other : bytes_eq reply (codes "OK") ≡ false

  log_by : (partial : List ℕ) (bytes : Option (List ℕ)) → OfLog (log_served_bytes partial bytes).reply
  log_by partial None = record { short = refl; other = refl }
  log_by partial (Some bytes) = record { short = refl; other = refl }

  either : {X : Type 0} (b : Bool) (x : X) → cond b x x ≡ x
  either true x = refl
  either false x = refl

  abbrev account : Account
  account = session.account

  log_quiet : (reply : List ℕ) → OfLog reply → shows_charge reply account account ≡ false
  log_quiet reply log = ap (λ b. b || nat_lt account.caps_used account.caps_used) log.short ∙ none_more account.caps_used

  nothing_written : (name : List ℕ) (offset count : ℕ) (reply : List ℕ) → IsWritten name offset count reply [] []
  nothing_written name offset count reply = record { left = λ _. refl; none = λ _. refl; some = λ file is. absurd (none-some file is) }

  record LogTells (asked : Option SessionRequest) (reply : List ℕ) : Type 0 where
    tests : tests_by_reply asked reply account account no_files ≡ []
    growth : growth_by_reply asked reply account account no_files ≡ 4
    changes : Changes asked reply [] []

  log_tells : (asked : Option SessionRequest) (reply : List ℕ) → OfLog reply → LogTells asked reply
  log_tells (Some (OfFiles (Create name))) reply log = record {
    tests = ap (λ b. cond b (growth_tests node_size no_files.shape account) []) (log_quiet reply log);
    growth = ap (λ b. cond b (cond (nat_lt account.caps_used account.caps_used && nat_le (account.ram_used + (larger_growth node_size no_files.shape).bytes) account.ram_limit)
        (larger_growth node_size no_files.shape).next 4) 4) (log_quiet reply log);
    changes = untouched name reply no_files [] log.other refl;
  }
  log_tells (Some (OfFiles (Write name offset bytes))) reply log = record { tests = refl; growth = refl; changes = nothing_written name offset (length bytes) reply }
  log_tells (Some (OfFiles (Clear name))) reply log = record { tests = refl; growth = refl; changes = record { done = λ _. refl; left = λ _. refl } }
  log_tells (Some (OfFiles (Drop name))) reply log = record { tests = refl; growth = refl; changes = record { done = λ _. refl; left = λ _. refl } }
  log_tells (Some (OfBuffer (Make n))) reply log = record {
    tests = ap (λ b. cond b (tested_where (is_valid_size n) (test_of (page_of n) 1)) []) (log_quiet reply log);
    growth = refl;
    changes = refl;
  }
  log_tells (Some (OfBuffer (Put name offset place count))) reply log = record { tests = either (is_granted reply || shows_session_short reply) []; growth = refl; changes = nothing_written name offset count reply }
  log_tells (Some (OfBuffer GiveBack)) reply log = record { tests = refl; growth = refl; changes = refl }
  log_tells (Some (OfBuffer (Get name offset place count))) reply log = record { tests = refl; growth = refl; changes = refl }
  log_tells (Some (OfFiles (Read name offset count))) reply log = record { tests = refl; growth = refl; changes = refl }
  log_tells (Some (OfFiles (Size name))) reply log = record { tests = refl; growth = refl; changes = refl }
  log_tells (Some (OfFiles (Name place))) reply log = record { tests = refl; growth = refl; changes = refl }
  log_tells (Some (OfFiles Stat)) reply log = record { tests = refl; growth = refl; changes = refl }
  log_tells None reply log = record { tests = refl; growth = refl; changes = refl }

  log_told : (partial : List ℕ) → let o = served_by (Logging partial) (bytes_of_buffer buffer) session request in
      told_by o ≡ o.reply → TellsSession request buffer session (Logging partial) (told_by o) o
  log_told partial same =
      let log = log_by partial (log_request request) in
      let reply = (log_served_bytes partial (log_request request)).reply in
      let tells = log_tells (session_request request) reply log in
      let o = served_by (Logging partial) (bytes_of_buffer buffer) session request in
      subst (λ text. TellsSession request buffer session (Logging partial) text o) (sym same)
      (record { tests = tells.tests; growth = tells.growth; changes = tells.changes; short = refl })

  file_session_told : (files : Files) → let o = served_by (Filing files) (bytes_of_buffer buffer) session request in TellsSession request buffer session (Filing files) (told_by o) o
  file_session_told files =
      let all = request_told files account few selector (session_request request) buffer in
      record { tests = all.tests; growth = all.growth; changes = all.changes; short = short_same files account few selector (session_request request) buffer }

  pub told_in : (state : ServiceState) → HasNoObjects state → let o = served_by state (bytes_of_buffer buffer) session request in TellsSession request buffer session state (told_by o) o
  told_in (Logging partial) none = log_told partial (buffer_stays selector buffer (log_served_bytes partial (log_request request)).reply)
  told_in (Filing files) none = file_session_told files
  told_in (Holding kinds objects) none = absurd none
