-- What a request of files or of a buffer does in a session with another donation.
use Rattle.std.proofs.Common.{◌≡◌, ℕ, ◌+◌, ◌⊎◌, inl, inr, Bool, true, false, cond, List, [], ◌∷◌, length, refl, sym, ap, true≢false, subst}
use Rattle.std.specs.List.{AllByRecursion}
use Rattle.std.specs.Option.{option_map, option_or}
use Rattle.std.specs.Prelude.{Option, Some, None, is_some, not, nat_le, slice_get, drop, take}
use Rattle.trade_base.specs.Bytes.{with_bytes}
use Rattle.trade_base.specs.Page.{page_of, is_valid_size}
use Rattle.trade_base.specs.declared.refusal.Refusal.{Refusal}
use Rattle.trade_base.specs.declared.refusal.Refusal.TheVariants.{OutOfRam, OutOfCaps, TooManyChunks}
use Rattle.own_model.specs.Account.{Account, shortage, charged}
use Rattle.own_model.specs.Amounts.{Amounts}
use Rattle.own_model.specs.BestFit.{Spot}
use Rattle.own_model.specs.BufferService as shared
use Rattle.own_model.specs.BufferService.{SessionRequest, BufferServed, beside, move_refusal, part_of, made, given_back, put, got, session_request_served}
use Rattle.own_model.specs.BufferService.BufferRequest.{Make, GiveBack, Put, Get}
use Rattle.own_model.specs.BufferService.SessionRequest.{OfFiles, OfBuffer}
use Rattle.own_model.specs.FileService.{Files, File, FileServed, file_named, node_size, error_of, content_credited, gap_refusal, is_longer, read_refusal, told, unless_refused, created, created_in, written, read, sized, cleared, dropped, named, request_served, rewritten}
use Rattle.own_model.specs.FileText.{FileRequest, FileError, FileReply, file_reply}
use Rattle.own_model.specs.FileText.FileRequest.{Create, Write, Read, Size, Clear, Drop, Name, Stat}
use Rattle.own_model.specs.FileText.FileError.{BadRequest, BadName, Exists, NotFound, End, InvalidSize, NoBuffer}
use Rattle.own_model.specs.FileText.FileReply.{Done, Count, Bytes, Named, Refused}
use Rattle.own_model.specs.Growth.{Growth, most_chunks, hole_for, least_growth, growth_of, new_hole, small_refusal, shape_grown}
use Rattle.own_model.specs.Sliced.{sliced_size}
use Rattle.own_model.specs.Text.{is_name}
use Rattle.budget_theorems.proofs.TestLemmas.{IsAlike, IsLed, lacks, short_alike, least_alike, growth_alike, decided, growth_decided, alone}
use Rattle.budget_theorems.specs.Need.{limited}
use Rattle.budget_theorems.specs.Request.{tests_where_none, write_tests, put_tests, filing_tests, shows_session_short}
use Rattle.budget_theorems.specs.RequestTheorems.{AreTold}
use Rattle.budget_theorems.specs.RequestTheorems.AreTold.{Same, Limits}
use Rattle.budget_theorems.specs.Test.{Test, test_of, tested_where, small_tests, growth_tests}

module _ (x : Amounts) (a : Account) where
  -- the account under the other donation
  abbrev pub then_it : Account
  then_it = limited x a

  -- an answer of files is another but for limits, and leaves the limits
  record FilesAgree (o p : FileServed) : Type 0 where
    reply : AreTold o.reply p.reply
    account : p.account ≡ limited x o.account
    files : p.files ≡ o.files
    ram : o.account.ram_limit ≡ a.ram_limit
    caps : o.account.caps_limit ≡ a.caps_limit

  -- and so with a buffer, which was so before: where limits are told it stays
  pub record Agree (before : Option (List ℕ)) (o p : BufferServed) : Type 0 where
    pub reply : (p.reply ≡ o.reply) ⊎ ((o.buffer ≡ before) × AreTold o.reply p.reply)
    pub account : p.account ≡ limited x o.account
    pub files : p.files ≡ o.files
    pub buffer : p.buffer ≡ o.buffer
    pub ram : o.account.ram_limit ≡ a.ram_limit
    pub caps : o.account.caps_limit ≡ a.caps_limit

  abbrev pub Alike : List Test → Type 0
  Alike each = AllByRecursion (IsAlike x a) each

  abbrev pub Led : List Test → Type 0
  Led each = AllByRecursion (IsLed x a) each

  -- a reply that tells no limits, with an account that has them still
  tells : (reply : FileReply) (files : Files) (b : Account) → b.ram_limit ≡ a.ram_limit → b.caps_limit ≡ a.caps_limit →
      FilesAgree (told reply files b) (told reply files (limited x b))
  tells reply files b ram caps = record { reply = Same (file_reply reply); account = refl; files = refl; ram = ram; caps = caps }

  with_buffer : (buffer : Option (List ℕ)) (o p : FileServed) → FilesAgree o p → Agree buffer (beside buffer o) (beside buffer p)
  with_buffer buffer o p agree = record { reply = inr (refl, agree.reply); account = agree.account; files = agree.files; buffer = refl; ram = agree.ram; caps = agree.caps }

  -- refused for the same error, or accepted alike
  unless_by : (files : Files) (why : Option FileError) (o p : FileServed) → FilesAgree o p → FilesAgree (unless_refused why files a o) (unless_refused why files then_it p)
  unless_by files (Some e) o p agree = tells (Refused e) files a refl refl
  unless_by files None o p agree = agree

  unless_agrees : (files : Files) (why why_then : Option FileError) (o p : FileServed) → why_then ≡ why → FilesAgree o p →
      FilesAgree (unless_refused why files a o) (unless_refused why_then files then_it p)
  unless_agrees files why why_then o p same agree =
      subst (λ w. FilesAgree (unless_refused why files a o) (unless_refused w files then_it p)) (sym same) (unless_by files why o p agree)

  unless_shared : (buffer : Option (List ℕ)) (files : Files) (why : Option FileError) (o p : BufferServed) → Agree buffer o p →
      Agree buffer (shared.unless_refused why buffer files a o) (shared.unless_refused why buffer files then_it p)
  unless_shared buffer files (Some e) o p agree = with_buffer buffer (told (Refused e) files a) (told (Refused e) files then_it) (tells (Refused e) files a refl refl)
  unless_shared buffer files None o p agree = agree

  -- what an account lacks tells short
  short_told : (why : Option Refusal) (files : Files) (b : Account) (p : FileServed) → lacks why ≡ true → shows_session_short (unless_refused (option_map error_of why) files b p).reply ≡ true
  short_told (Some OutOfRam) files b p is = refl
  short_told (Some OutOfCaps) files b p is = refl
  short_told why files b p is = absurd (true≢false (sym is))

  -- ---- files

  module _ (files : Files) where
    abbrev grown : List ℕ → Growth → Account → FileServed
    grown name growth b = told Done (created_in name (new_hole growth files.shape) (record files { shape = shape_grown growth files.shape })) (charged b growth.bytes 1)

    grows : (name : List ℕ) (growth growth_then : Growth) → growth_then ≡ growth → FilesAgree (grown name growth a) (grown name growth_then then_it)
    grows name growth growth_then same =
        subst (λ g. FilesAgree (grown name growth a) (grown name g then_it)) (sym same)
        (tells Done (created_in name (new_hole growth files.shape) (record files { shape = shape_grown growth files.shape })) (charged a growth.bytes 1) refl refl)

    chunks : (name : List ℕ) (full : Bool) → Alike (cond full [] (growth_tests node_size files.shape a)) →
        FilesAgree
        (unless_refused (option_map error_of (cond full (Some TooManyChunks) (shortage a (least_growth node_size files.shape).bytes 1))) files a (grown name (growth_of node_size files.shape a) a))
        (unless_refused (option_map error_of (cond full (Some TooManyChunks) (shortage then_it (least_growth node_size files.shape).bytes 1))) files then_it (grown name (growth_of node_size files.shape then_it) then_it))
    chunks name true each = tells (Refused FileError.TooManyChunks) files a refl refl
    chunks name false each =
        unless_agrees files (option_map error_of (shortage a (least_growth node_size files.shape).bytes 1)) (option_map error_of (shortage then_it (least_growth node_size files.shape).bytes 1))
        (grown name (growth_of node_size files.shape a) a) (grown name (growth_of node_size files.shape then_it) then_it)
        (ap (option_map error_of) (least_alike x a node_size files.shape each))
        (grows name (growth_of node_size files.shape a) (growth_of node_size files.shape then_it) (growth_alike x a node_size files.shape each))

    smalls : (name : List ℕ) (hole : Option Spot) → Alike (small_tests node_size hole files.shape a) →
        FilesAgree (unless_refused (option_map error_of (small_refusal node_size hole files.shape a)) files a (created name hole files a))
        (unless_refused (option_map error_of (small_refusal node_size hole files.shape then_it)) files then_it (created name hole files then_it))
    smalls name (Some hole) each = tells Done (created_in name hole files) a refl refl
    smalls name None each = chunks name (nat_le most_chunks (length files.shape.chunks)) each

    creates : (name : List ℕ) (bad there : Bool) → Alike (cond bad [] (cond there [] (small_tests node_size (hole_for node_size files.shape) files.shape a))) →
        FilesAgree
        (unless_refused (cond bad (Some BadName) (cond there (Some Exists) (option_map error_of (small_refusal node_size (hole_for node_size files.shape) files.shape a)))) files a
        (created name (hole_for node_size files.shape) files a))
        (unless_refused (cond bad (Some BadName) (cond there (Some Exists) (option_map error_of (small_refusal node_size (hole_for node_size files.shape) files.shape then_it)))) files then_it
        (created name (hole_for node_size files.shape) files then_it))
    creates name true there each = tells (Refused BadName) files a refl refl
    creates name false true each = tells (Refused Exists) files a refl refl
    creates name false false each = smalls name (hole_for node_size files.shape) each

    module _ (file : File) (size : ℕ) (reply : FileReply) (after : Files) where
      writes_by : (gap : Option FileError) (longer : Bool) → Alike (tests_where_none gap (tested_where longer (test_of size 1))) →
          FilesAgree
          (unless_refused (option_or gap (cond longer (option_map error_of (shortage a size 1)) None)) files a (told reply after (cond longer (content_credited file (charged a size 1)) a)))
          (unless_refused (option_or gap (cond longer (option_map error_of (shortage then_it size 1)) None)) files then_it (told reply after (cond longer (content_credited file (charged then_it size 1)) then_it)))
      writes_by (Some e) longer each = tells (Refused e) files a refl refl
      writes_by None true each =
          unless_agrees files (option_map error_of (shortage a size 1)) (option_map error_of (shortage then_it size 1))
          (told reply after (content_credited file (charged a size 1))) (told reply after (content_credited file (charged then_it size 1)))
          (ap (option_map error_of) (short_alike x a (test_of size 1) each.0))
          (tells reply after (content_credited file (charged a size 1)) refl refl)
      writes_by None false each = tells reply after a refl refl

    writes : (offset : ℕ) (bytes : List ℕ) (file : Option File) → Alike (write_tests offset (length bytes) file) →
        FilesAgree (written offset bytes file files a) (written offset bytes file files then_it)
    writes offset bytes None each = tells (Refused NotFound) files a refl refl
    writes offset bytes (Some file) each =
        writes_by file (sliced_size (offset + length bytes)) (Count (length bytes)) (record files { files = rewritten file.name (with_bytes file.bytes offset bytes) files.files })
        (gap_refusal offset file) (is_longer offset (length bytes) file) each

    reads : (offset count : ℕ) (file : Option File) → FilesAgree (read offset count file files a) (read offset count file files then_it)
    reads offset count None = tells (Refused NotFound) files a refl refl
    reads offset count (Some file) =
        unless_by files (read_refusal offset count file) (told (Bytes (take count (drop offset file.bytes))) files a) (told (Bytes (take count (drop offset file.bytes))) files then_it)
        (tells (Bytes (take count (drop offset file.bytes))) files a refl refl)

    sizes : (file : Option File) → FilesAgree (sized file files a) (sized file files then_it)
    sizes None = tells (Refused NotFound) files a refl refl
    sizes (Some file) = tells (Count (length file.bytes)) files a refl refl

    clears : (file : Option File) → FilesAgree (cleared file files a) (cleared file files then_it)
    clears None = tells (Refused NotFound) files a refl refl
    clears (Some file) = record { reply = Same (file_reply Done); account = refl; files = refl; ram = refl; caps = refl }

    drops : (file : Option File) → FilesAgree (dropped file files a) (dropped file files then_it)
    drops None = tells (Refused NotFound) files a refl refl
    drops (Some file) = record { reply = Same (file_reply Done); account = refl; files = refl; ram = refl; caps = refl }

    names : (file : Option File) → FilesAgree (named file files a) (named file files then_it)
    names None = tells (Refused End) files a refl refl
    names (Some file) = tells (Named file.name) files a refl refl

    files_agree : (buffer : Option (List ℕ)) (request : FileRequest) → Alike (filing_tests (Some (OfFiles request)) buffer files a) →
        FilesAgree (request_served (Some request) files a) (request_served (Some request) files then_it)
    files_agree buffer (Create name) each = creates name (not (is_name name)) (is_some (file_named name files)) each
    files_agree buffer (Write name offset bytes) each = writes offset bytes (file_named name files) each
    files_agree buffer (Read name offset count) each = reads offset count (file_named name files)
    files_agree buffer (Size name) each = sizes (file_named name files)
    files_agree buffer (Clear name) each = clears (file_named name files)
    files_agree buffer (Drop name) each = drops (file_named name files)
    files_agree buffer (Name place) each = names (slice_get files.files place)
    files_agree buffer Stat each = record { reply = Limits a then_it refl; account = refl; files = refl; ram = refl; caps = refl }

    -- ---- the buffer

    makes : (n : ℕ) (buffer : Option (List ℕ)) (bad has : Bool) → Alike (cond bad [] (cond has [] (test_of (page_of n) 1 ∷ []))) →
        Agree buffer
        (shared.unless_refused (cond bad (Some InvalidSize) (cond has (Some Exists) (option_map error_of (shortage a (page_of n) 1)))) buffer files a (made n files a))
        (shared.unless_refused (cond bad (Some InvalidSize) (cond has (Some Exists) (option_map error_of (shortage then_it (page_of n) 1)))) buffer files then_it (made n files then_it))
    makes n buffer true has each = with_buffer buffer (told (Refused InvalidSize) files a) (told (Refused InvalidSize) files then_it) (tells (Refused InvalidSize) files a refl refl)
    makes n buffer false true each = with_buffer buffer (told (Refused Exists) files a) (told (Refused Exists) files then_it) (tells (Refused Exists) files a refl refl)
    makes n buffer false false each =
        subst (λ why. Agree buffer (shared.unless_refused (option_map error_of (shortage a (page_of n) 1)) buffer files a (made n files a)) (shared.unless_refused (option_map error_of why) buffer files then_it (made n files then_it)))
        (sym (short_alike x a (test_of (page_of n) 1) each.0))
        (unless_shared buffer files (option_map error_of (shortage a (page_of n) 1)) (made n files a) (made n files then_it)
        (record { reply = inl refl; account = refl; files = refl; buffer = refl; ram = refl; caps = refl }))

    gives_back : (buffer : Option (List ℕ)) → Agree buffer (given_back buffer files a) (given_back buffer files then_it)
    gives_back None = with_buffer None (told (Refused NoBuffer) files a) (told (Refused NoBuffer) files then_it) (tells (Refused NoBuffer) files a refl refl)
    gives_back (Some bytes) = record { reply = inl refl; account = refl; files = refl; buffer = refl; ram = refl; caps = refl }

    -- a request whose tests come after others
    after_refusal : (why : Option FileError) (buffer : Option (List ℕ)) (o p : FileServed) (each : List Test) → Alike (tests_where_none why each) → (Alike each → FilesAgree o p) →
        Agree buffer (shared.unless_refused why buffer files a (beside buffer o)) (shared.unless_refused why buffer files then_it (beside buffer p))
    after_refusal (Some e) buffer o p each alike go = with_buffer buffer (told (Refused e) files a) (told (Refused e) files then_it) (tells (Refused e) files a refl refl)
    after_refusal None buffer o p each alike go = with_buffer buffer o p (go alike)

    puts : (offset place count : ℕ) (buffer : Option (List ℕ)) (file : Option File) → Alike (put_tests offset place count buffer file) →
        Agree buffer (put offset place count buffer file files a) (put offset place count buffer file files then_it)
    puts offset place count buffer None each = with_buffer buffer (told (Refused NotFound) files a) (told (Refused NotFound) files then_it) (tells (Refused NotFound) files a refl refl)
    puts offset place count buffer (Some file) each =
        let part = part_of buffer place count in
        after_refusal (move_refusal offset place count buffer file) buffer (written offset part (Some file) files a) (written offset part (Some file) files then_it)
        (write_tests offset (length part) (Some file)) each (writes offset part (Some file))

    gets : (offset place count : ℕ) (buffer : Option (List ℕ)) (file : Option File) → Agree buffer (got offset place count buffer file files a) (got offset place count buffer file files then_it)
    gets offset place count buffer None = with_buffer buffer (told (Refused NotFound) files a) (told (Refused NotFound) files then_it) (tells (Refused NotFound) files a refl refl)
    gets offset place count buffer (Some file) =
        let part = take count (drop offset file.bytes) in
        let into = option_map (λ bytes. with_bytes bytes place part) buffer in
        unless_shared buffer files (move_refusal offset place count buffer file) (beside into (told (Count (length part)) files a)) (beside into (told (Count (length part)) files then_it))
        (record { reply = inl refl; account = refl; files = refl; buffer = refl; ram = refl; caps = refl })

    pub requests_agree : (request : Option SessionRequest) (buffer : Option (List ℕ)) → Alike (filing_tests request buffer files a) →
        Agree buffer (session_request_served request buffer files a) (session_request_served request buffer files then_it)
    requests_agree None buffer each = with_buffer buffer (told (Refused BadRequest) files a) (told (Refused BadRequest) files then_it) (tells (Refused BadRequest) files a refl refl)
    requests_agree (Some (OfFiles request)) buffer each =
        with_buffer buffer (request_served (Some request) files a) (request_served (Some request) files then_it) (files_agree buffer request each)
    requests_agree (Some (OfBuffer (Make n))) buffer each = makes n buffer (not (is_valid_size n)) (is_some buffer) each
    requests_agree (Some (OfBuffer GiveBack)) buffer each = gives_back buffer
    requests_agree (Some (OfBuffer (Put name offset place count))) buffer each = puts offset place count buffer (file_named name files) each
    requests_agree (Some (OfBuffer (Get name offset place count))) buffer each = gets offset place count buffer (file_named name files)

    -- ---- want

    abbrev pub Short : List ℕ → Type 0
    Short reply = shows_session_short reply ≡ true

    -- what an account lacks is told
    or_told : {A : Type 0} (why : Option Refusal) (p : FileServed) → A ⊎ (lacks why ≡ true) → A ⊎ Short (unless_refused (option_map error_of why) files then_it p).reply
    or_told why p (inl alike) = inl alike
    or_told why p (inr is) = inr (short_told why files then_it p is)

    chunks_decide : (full : Bool) (p : FileServed) → Led (cond full [] (growth_tests node_size files.shape a)) →
        Alike (cond full [] (growth_tests node_size files.shape a))
        ⊎ Short (unless_refused (option_map error_of (cond full (Some TooManyChunks) (shortage then_it (least_growth node_size files.shape).bytes 1))) files then_it p).reply
    chunks_decide true p each = inl tt
    chunks_decide false p each = or_told (shortage then_it (least_growth node_size files.shape).bytes 1) p (growth_decided x a node_size files.shape each)

    smalls_decide : (hole : Option Spot) (p : FileServed) → Led (small_tests node_size hole files.shape a) →
        Alike (small_tests node_size hole files.shape a) ⊎ Short (unless_refused (option_map error_of (small_refusal node_size hole files.shape then_it)) files then_it p).reply
    smalls_decide (Some hole) p each = inl tt
    smalls_decide None p each = chunks_decide (nat_le most_chunks (length files.shape.chunks)) p each

    creates_decide : (bad there : Bool) (p : FileServed) → Led (cond bad [] (cond there [] (small_tests node_size (hole_for node_size files.shape) files.shape a))) →
        Alike (cond bad [] (cond there [] (small_tests node_size (hole_for node_size files.shape) files.shape a)))
        ⊎ Short (unless_refused (cond bad (Some BadName) (cond there (Some Exists) (option_map error_of (small_refusal node_size (hole_for node_size files.shape) files.shape then_it)))) files then_it p).reply
    creates_decide true there p each = inl tt
    creates_decide false true p each = inl tt
    creates_decide false false p each = smalls_decide (hole_for node_size files.shape) p each

    writes_decide_by : (size : ℕ) (gap : Option FileError) (longer : Bool) (p : FileServed) → Led (tests_where_none gap (tested_where longer (test_of size 1))) →
        Alike (tests_where_none gap (tested_where longer (test_of size 1)))
        ⊎ Short (unless_refused (option_or gap (cond longer (option_map error_of (shortage then_it size 1)) None)) files then_it p).reply
    writes_decide_by size (Some e) longer p each = inl tt
    writes_decide_by size None true p each = or_told (shortage then_it size 1) p (alone (decided x a (test_of size 1) each.0))
    writes_decide_by size None false p each = inl tt

    writes_decide : (offset : ℕ) (bytes : List ℕ) (file : Option File) → Led (write_tests offset (length bytes) file) →
        Alike (write_tests offset (length bytes) file) ⊎ Short (written offset bytes file files then_it).reply
    writes_decide offset bytes None each = inl tt
    writes_decide offset bytes (Some file) each = writes_decide_by (sliced_size (offset + length bytes)) (gap_refusal offset file) (is_longer offset (length bytes) file) _ each

    short_shared : (why : Option Refusal) (buffer : Option (List ℕ)) (p : BufferServed) → lacks why ≡ true → Short (shared.unless_refused (option_map error_of why) buffer files then_it p).reply
    short_shared (Some OutOfRam) buffer p is = refl
    short_shared (Some OutOfCaps) buffer p is = refl
    short_shared why buffer p is = absurd (true≢false (sym is))

    makes_decide : (n : ℕ) (buffer : Option (List ℕ)) (bad has : Bool) → Led (cond bad [] (cond has [] (test_of (page_of n) 1 ∷ []))) →
        Alike (cond bad [] (cond has [] (test_of (page_of n) 1 ∷ [])))
        ⊎ Short (shared.unless_refused (cond bad (Some InvalidSize) (cond has (Some Exists) (option_map error_of (shortage then_it (page_of n) 1)))) buffer files then_it (made n files then_it)).reply
    makes_decide n buffer true has each = inl tt
    makes_decide n buffer false true each = inl tt
    makes_decide n buffer false false each =
        elim (decided x a (test_of (page_of n) 1) each.0) [
          | inl alike ↦ inl (alike, tt)
          | inr is ↦ inr (short_shared (shortage then_it (page_of n) 1) buffer (made n files then_it) is)
        ]

    puts_decide_by : (why : Option FileError) (buffer : Option (List ℕ)) (p : FileServed) (each : List Test) → Led (tests_where_none why each) → (Led each → Alike each ⊎ Short p.reply) →
        Alike (tests_where_none why each) ⊎ Short (shared.unless_refused why buffer files then_it (beside buffer p)).reply
    puts_decide_by (Some e) buffer p each led go = inl tt
    puts_decide_by None buffer p each led go = go led

    puts_decide : (offset place count : ℕ) (buffer : Option (List ℕ)) (file : Option File) → Led (put_tests offset place count buffer file) →
        Alike (put_tests offset place count buffer file) ⊎ Short (put offset place count buffer file files then_it).reply
    puts_decide offset place count buffer None each = inl tt
    puts_decide offset place count buffer (Some file) each =
        let part = part_of buffer place count in
        puts_decide_by (move_refusal offset place count buffer file) buffer (written offset part (Some file) files then_it) (write_tests offset (length part) (Some file)) each
        (writes_decide offset part (Some file))

    pub requests_decide : (request : Option SessionRequest) (buffer : Option (List ℕ)) → Led (filing_tests request buffer files a) →
        Alike (filing_tests request buffer files a) ⊎ Short (session_request_served request buffer files then_it).reply
    requests_decide (Some (OfFiles (Create name))) buffer each = creates_decide (not (is_name name)) (is_some (file_named name files)) _ each
    requests_decide (Some (OfFiles (Write name offset bytes))) buffer each = writes_decide offset bytes (file_named name files) each
    requests_decide (Some (OfBuffer (Make n))) buffer each = makes_decide n buffer (not (is_valid_size n)) (is_some buffer) each
    requests_decide (Some (OfBuffer (Put name offset place count))) buffer each = puts_decide offset place count buffer (file_named name files) each
    requests_decide request buffer each = inl tt
