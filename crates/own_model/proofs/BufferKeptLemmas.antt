-- What requests of a buffer can do, and what they keep.
use Rattle.std.proofs.Common.{◌≡◌, ℕ, ◌+◌, ◌≤◌, Bool, true, false, cond, not, List, length, nat_lt, Some, refl, sym, ap, arith, take, drop, subst, length-take}
use Rattle.std.proofs.lemmas.Bool.{ltb-false}
use Rattle.std.proofs.lemmas.Bool.Decides.{nat_tests}
use Rattle.std.proofs.lemmas.Option.{none-some}
use Rattle.std.specs.Prelude.{Option, None, is_some}
use Rattle.std.specs.Option.{option_map}
use Rattle.own_model.proofs.NatMapLemmas.{none_of}
use Rattle.trade_base.specs.Bytes.{with_bytes}
use Rattle.trade_base.specs.Page.{page_of, is_valid_size}
use Rattle.trade_base.specs.declared.refusal.Refusal.{Refusal}
use Rattle.trade_base.proofs.BytesLemmas.{length-with_bytes}
use Rattle.own_model.proofs.ByteLemmas.{length-zeros}
use Rattle.own_model.proofs.FileChargeLemmas.{charges_kept, limits_kept, within_kept, SameLimits}
use Rattle.own_model.proofs.FileRequestLemmas.{KeptByRequests, request_kept, neither_of, untold}
use Rattle.own_model.proofs.FileServiceLemmas.{files_kept}
use Rattle.own_model.proofs.StepLemmas.{covers}
use Rattle.own_model.specs.Account.{Account, WithinLimits, shortage, charged, credited}
use Rattle.own_model.specs.BufferTheorems.{AllKeepFiles, AllKeepCharges, AllKeepLimits, AllKeepWithinLimits, FitsBuffer, AllFitBuffers}
use Rattle.own_model.specs.BufferService.{BufferRequest, SessionRequest, BufferServed, make_refusal, range_refusal, move_refusal, unless_refused, made, given_back, part_of, put, got, buffer_served, session_request_served, buffer_ram, buffer_caps}
use Rattle.own_model.specs.BufferService.BufferRequest.{Make, GiveBack, Put, Get}
use Rattle.own_model.specs.BufferService.SessionRequest.{OfFiles, OfBuffer}
use Rattle.own_model.specs.FileService.{Files, File, AreFiles, IsCharged, error_of, file_named, gap_refusal, written}
use Rattle.own_model.specs.FileText.{FileError}
use Rattle.own_model.specs.FileText.FileRequest.{Write}
use Rattle.own_model.specs.FileText.FileError.{InvalidSize, Exists, BadRange}
use Rattle.own_model.specs.Zeros.{zeros}

-- P holds of files, their account and a buffer after each thing that a request can do to them
pub record KeptByAll (P : Files → Account → Option (List ℕ) → Type 0) (files : Files) (account : Account) (buffer : Option (List ℕ)) : Type 0 where
  -- a request of files
  pub of_files : KeptByRequests (λ f a. P f a buffer) files account
  -- a buffer that is accepted
  pub makes : (n : ℕ) → buffer ≡ None → is_valid_size n ≡ true → shortage account (page_of n) 1 ≡ None → P files (charged account (page_of n) 1) (Some (zeros (page_of n)))
  -- one given back
  pub gives_back : (bytes : List ℕ) → buffer ≡ Some bytes → P files (credited account (length bytes) 1) None
  -- bytes put over some of it
  pub fills : (bytes part : List ℕ) (place : ℕ) → buffer ≡ Some bytes → place + length part ≤ length bytes → P files account (Some (with_bytes bytes place part))

-- a buffer that is accepted is of a valid size, the first, and covered
make_parts : (valid some : Bool) (o : Option Refusal) → cond (not valid) (Some InvalidSize) (cond some (Some Exists) (option_map error_of o)) ≡ None → (valid ≡ true) × (some ≡ false) × (o ≡ None)
make_parts false some o accepted = absurd (none-some InvalidSize (sym accepted))
make_parts true true o accepted = absurd (none-some Exists (sym accepted))
make_parts true false None accepted = (refl, refl, refl)
make_parts true false (Some refusal) accepted = absurd (none-some (error_of refusal) (sym accepted))

-- what is taken from a list is no more than is asked
pub taken_le : (count : ℕ) (bytes : List ℕ) → length (take count bytes) ≤ count
taken_le count bytes = omega (arith, length-take count bytes)

module _ (P : Files → Account → Option (List ℕ) → Type 0) (files : Files) (account : Account) (buffer : Option (List ℕ)) (stays : P files account buffer) (keeps : KeptByAll P files account buffer) where
  abbrev Kept : BufferServed → Type 0
  Kept o = P o.files o.account o.buffer

  unless_kept : (why : Option FileError) (o : BufferServed) → (why ≡ None → Kept o) → Kept (unless_refused why buffer files account o)
  unless_kept None o kept = kept refl
  unless_kept (Some e) o kept = stays

  made_kept : (n : ℕ) → Kept (buffer_served (Make n) buffer files account)
  made_kept n = unless_kept (make_refusal n buffer account) (made n files account) (λ accepted.
      let parts = make_parts (is_valid_size n) (is_some buffer) (shortage account (page_of n) 1) accepted in
      keeps.makes n (none_of buffer parts.1) parts.0 parts.2)

  given_back_kept : (o : Option (List ℕ)) → buffer ≡ o → Kept (given_back o files account)
  given_back_kept None is = subst (P files account) is stays
  given_back_kept (Some bytes) is = keeps.gives_back bytes is

  put_kept : (name : List ℕ) (offset place count : ℕ) (found : Option File) → file_named name files ≡ found → Kept (put offset place count buffer found files account)
  put_kept name offset place count None is = stays
  put_kept name offset place count (Some file) is = unless_kept (move_refusal offset place count buffer file) _ (λ accepted.
      let write = request_kept (λ f a. P f a buffer) files account stays keeps.of_files (Some (Write name offset (part_of buffer place count))) in
      subst (λ o. P (written offset (part_of buffer place count) o files account).files (written offset (part_of buffer place count) o files account).account buffer) is write)

  got_by : (offset place count : ℕ) (file : File) (o : Option (List ℕ)) → buffer ≡ o → range_refusal place count o ≡ None →
      P files account (option_map (λ bytes. with_bytes bytes place (take count (drop offset file.bytes))) o)
  got_by offset place count file None is accepted = subst (P files account) is stays
  got_by offset place count file (Some bytes) is accepted =
      let part = take count (drop offset file.bytes) in
      keeps.fills bytes part place is (omega (arith, ltb-false (length bytes) (place + count) (untold (nat_lt (length bytes) (place + count)) BadRange accepted), taken_le count (drop offset file.bytes)))

  got_kept : (offset place count : ℕ) (found : Option File) → Kept (got offset place count buffer found files account)
  got_kept offset place count None = stays
  got_kept offset place count (Some file) = unless_kept (move_refusal offset place count buffer file) _ (λ accepted.
      got_by offset place count file buffer refl (neither_of (gap_refusal offset file) (range_refusal place count buffer) accepted).1)

  buffer_kept : (request : BufferRequest) → Kept (buffer_served request buffer files account)
  buffer_kept (Make n) = made_kept n
  buffer_kept GiveBack = given_back_kept buffer refl
  buffer_kept (Put name offset place count) = put_kept name offset place count (file_named name files) refl
  buffer_kept (Get name offset place count) = got_kept offset place count (file_named name files)

  -- what holds before a request, and after each thing that it can do, holds after it
  pub all_keep : (request : Option SessionRequest) → Kept (session_request_served request buffer files account)
  all_keep None = stays
  all_keep (Some (OfFiles request)) = request_kept (λ f a. P f a buffer) files account stays keeps.of_files (Some request)
  all_keep (Some (OfBuffer request)) = buffer_kept request

-- ---- files

pub all_keep_files : AllKeepFiles
all_keep_files request buffer files account h = all_keep (λ f a b. AreFiles f) files account buffer h (record {
  of_files = files_kept files account h;
  makes = λ n none valid enough. h;
  gives_back = λ bytes is. h;
  fills = λ bytes part place is fits. h;
}) request

-- ---- charges

pub all_keep_charges : AllKeepCharges
all_keep_charges ram caps request buffer files account h =
    all_keep (λ f a b. IsCharged (ram + buffer_ram b) (caps + buffer_caps b) f a) files account buffer h (record {
      of_files = charges_kept (ram + buffer_ram buffer) (caps + buffer_caps buffer) files account h;
      makes = λ n none valid enough. record {
        ram = omega (arith, h.ram, ap buffer_ram none, length-zeros (page_of n));
        caps = omega (arith, h.caps, ap buffer_caps none);
      };
      gives_back = λ bytes is. record { ram = omega (arith, h.ram, ap buffer_ram is); caps = omega (arith, h.caps, ap buffer_caps is) };
      fills = λ bytes part place is fits. record {
        ram = omega (arith, h.ram, ap buffer_ram is, length-with_bytes bytes place part fits);
        caps = omega (arith, h.caps, ap buffer_caps is);
      };
    }) request

-- ---- limits

pub all_keep_limits : AllKeepLimits
all_keep_limits request buffer files account = all_keep (λ f a b. SameLimits account f a) files account buffer (refl, refl) (record {
  of_files = limits_kept account files;
  makes = λ n none valid enough. (refl, refl);
  gives_back = λ bytes is. (refl, refl);
  fills = λ bytes part place is fits. (refl, refl);
}) request

pub all_keep_within : AllKeepWithinLimits
all_keep_within request buffer files account h = all_keep (λ f a b. WithinLimits a) files account buffer h (record {
  of_files = within_kept files account h;
  makes = λ n none valid enough. let fits = covers account (page_of n) 1 enough in record { ram = fits.ram_fits; caps = fits.caps_fit };
  gives_back = λ bytes is. record { ram = omega (arith, h.ram); caps = omega (arith, h.caps) };
  fills = λ bytes part place is fits. h;
}) request

-- ---- how long a buffer is

-- as before
pub same_fits : (buffer : Option (List ℕ)) → FitsBuffer buffer buffer
same_fits None = tt
same_fits (Some bytes) = refl

pub none_fits : (buffer : Option (List ℕ)) → FitsBuffer buffer None
none_fits None = tt
none_fits (Some bytes) = tt

-- a valid size is above 0, and rounds up to some bytes
pub some_bytes : (n : ℕ) → is_valid_size n ≡ true → 1 ≤ page_of n
some_bytes n valid = grind (arith, nat_tests)

pub all_fit : AllFitBuffers
all_fit request buffer files account = all_keep (λ f a b. FitsBuffer buffer b) files account buffer (same_fits buffer) (record {
  of_files = record {
    takes = λ name hole is free best. same_fits buffer;
    grows = λ name is free accepted. same_fits buffer;
    lengthens = λ file offset bytes there start longer accepted. same_fits buffer;
    replaces = λ file offset bytes there fits. same_fits buffer;
    clears = λ file there. same_fits buffer;
    drops = λ file there. same_fits buffer;
  };
  makes = λ n none valid enough.
      let long = length-zeros (page_of n) in
      subst (λ b. FitsBuffer b (Some (zeros (page_of n)))) (sym none) (omega (arith, long, some_bytes n valid), (n, long));
  gives_back = λ bytes is. none_fits buffer;
  fills = λ bytes part place is fits. subst (λ b. FitsBuffer b (Some (with_bytes bytes place part))) (sym is) (length-with_bytes bytes place part fits);
}) request
