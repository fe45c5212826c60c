-- What a request of objects does in a session with another donation.
use Rattle.std.proofs.Common.{◌≡◌, ℕ, ◌+◌, ◌==◌, ◌⊎◌, inl, inr, Bool, true, false, cond, List, [], length, refl, sym, ap, true≢false, subst}
use Rattle.std.specs.Option.{option_map}
use Rattle.std.specs.Prelude.{Option, Some, None, is_some, not, nat_le, slice_get, count_by}
use Rattle.trade_base.specs.Page.{is_valid_size}
use Rattle.trade_base.specs.declared.refusal.Refusal.{Refusal}
use Rattle.trade_base.specs.declared.refusal.Refusal.TheVariants.{OutOfRam, OutOfCaps, TooManyChunks}
use Rattle.own_model.specs.Account.{Account, shortage, charged}
use Rattle.own_model.specs.Amounts.{Amounts}
use Rattle.own_model.specs.BestFit.{Spot}
use Rattle.own_model.specs.BufferService.{BufferRequest, buffer_served}
use Rattle.own_model.specs.BufferService.SessionRequest.{OfBuffer as OfFilesBuffer}
use Rattle.own_model.specs.FileService.{error_of, no_files}
use Rattle.own_model.specs.FileText.FileError.{BadRequest, BadName, Exists, NotFound, End, InvalidSize}
use Rattle.own_model.specs.Growth.{Growth, most_chunks, hole_for, least_growth, growth_of, new_hole, small_refusal, shape_taken, shape_grown}
use Rattle.own_model.specs.Nodes.{BlockTaken, block_taken}
use Rattle.own_model.specs.ObjectKinds.{ObjectKind, kind_named}
use Rattle.own_model.specs.ObjectService.{Objects, DeclaredObject, ObjectServed, object_named, is_of_kind, contents, with_units, contents_refusal, told, unless_refused, made_by, made, changed, resized, dropped, counted, named, request_served}
use Rattle.own_model.specs.ObjectSession.{HoldingRequest, HoldingServed, beside, lent_beside, holding_request_served}
use Rattle.own_model.specs.ObjectSession.HoldingRequest.{OfObjects, OfBuffer}
use Rattle.own_model.specs.ObjectText.{ObjectRequest, ObjectError, ObjectReply, object_reply}
use Rattle.own_model.specs.ObjectText.ObjectRequest.{Make, Resize, Drop, Count, CountKind, Name, Stat}
use Rattle.own_model.specs.ObjectText.ObjectError.{BadKind, Shared}
use Rattle.own_model.specs.ObjectText.ObjectReply.{Done, Counted, Named, Refused}
use Rattle.own_model.specs.Sliced.{sliced_header, sliced_size}
use Rattle.own_model.specs.Text.{is_name}
use Rattle.budget_theorems.proofs.ServeLemmas.{Agree, then_it, Alike, Led, requests_agree, requests_decide}
use Rattle.budget_theorems.proofs.TestLemmas.{lacks, alone, short_alike, least_alike, growth_alike, decided, growth_decided}
use Rattle.budget_theorems.specs.Need.{limited}
use Rattle.budget_theorems.specs.Request.{make_object_tests, contents_tests, resize_tests, holding_tests, shows_session_short}
use Rattle.budget_theorems.specs.RequestTheorems.{AreTold}
use Rattle.budget_theorems.specs.RequestTheorems.AreTold.{Same, Limits}
use Rattle.budget_theorems.specs.Test.{Test, test_of, tested_where, small_tests, growth_tests}

-- a refusal by the heap or the account
abbrev as_error : Refusal → ObjectError
as_error refusal = Shared (error_of refusal)

module _ (x : Amounts) (a : Account) where
  abbrev other : Account
  other = then_it x a

  abbrev AreAlike : List Test → Type 0
  AreAlike each = Alike x a each

  abbrev AreLed : List Test → Type 0
  AreLed each = Led x a each

  -- an answer of objects is another but for limits, and leaves the limits
  record ObjectsAgree (o p : ObjectServed) : Type 0 where
    reply : AreTold o.reply p.reply
    account : p.account ≡ limited x o.account
    objects : p.objects ≡ o.objects
    ram : o.account.ram_limit ≡ a.ram_limit
    caps : o.account.caps_limit ≡ a.caps_limit

  -- and so with a buffer, which was so before: where limits are told it stays
  pub record HoldingAgree (before : Option (List ℕ)) (o p : HoldingServed) : Type 0 where
    pub reply : (p.reply ≡ o.reply) ⊎ ((o.buffer ≡ before) × AreTold o.reply p.reply)
    pub account : p.account ≡ limited x o.account
    pub objects : p.objects ≡ o.objects
    pub buffer : p.buffer ≡ o.buffer
    pub ram : o.account.ram_limit ≡ a.ram_limit
    pub caps : o.account.caps_limit ≡ a.caps_limit

  -- a reply that tells no limits, with an account that has them still
  tells : (reply : ObjectReply) (objects : Objects) (b : Account) → b.ram_limit ≡ a.ram_limit → b.caps_limit ≡ a.caps_limit →
      ObjectsAgree (told reply objects b) (told reply objects (limited x b))
  tells reply objects b ram caps = record { reply = Same (object_reply reply); account = refl; objects = refl; ram = ram; caps = caps }

  with_buffer : (buffer : Option (List ℕ)) (o p : ObjectServed) → ObjectsAgree o p → HoldingAgree buffer (beside buffer o) (beside buffer p)
  with_buffer buffer o p agree = record { reply = inr (refl, agree.reply); account = agree.account; objects = agree.objects; buffer = refl; ram = agree.ram; caps = agree.caps }

  -- what an account lacks tells short
  short_told : (why : Option Refusal) (objects : Objects) (b : Account) (p : ObjectServed) → lacks why ≡ true → shows_session_short (unless_refused (option_map as_error why) objects b p).reply ≡ true
  short_told (Some OutOfRam) objects b p is = refl
  short_told (Some OutOfCaps) objects b p is = refl
  short_told why objects b p is = absurd (true≢false (sym is))

  module _ (kinds : List ObjectKind) (objects : Objects) where
    -- refused for the same error, or accepted alike
    unless_by : (why : Option ObjectError) (o p : ObjectServed) → ObjectsAgree o p → ObjectsAgree (unless_refused why objects a o) (unless_refused why objects other p)
    unless_by (Some e) o p agree = tells (Refused e) objects a refl refl
    unless_by None o p agree = agree

    unless_agrees : (why why_then : Option ObjectError) (o p : ObjectServed) → why_then ≡ why → ObjectsAgree o p →
        ObjectsAgree (unless_refused why objects a o) (unless_refused why_then objects other p)
    unless_agrees why why_then o p same agree =
        subst (λ w. ObjectsAgree (unless_refused why objects a o) (unless_refused w objects other p)) (sym same) (unless_by why o p agree)

    -- ---- a new object

    module _ (kind : ObjectKind) (name : List ℕ) where
      -- in a new chunk
      abbrev in_chunk : Growth → Account → BlockTaken
      in_chunk growth b = record {
        spot = new_hole growth objects.shape;
        shape = shape_taken kind.block (new_hole growth objects.shape) (shape_grown growth objects.shape);
        account = charged b growth.bytes 1;
      }

      abbrev grown : Growth → Account → ObjectServed
      grown growth b = made_by kind name (in_chunk growth b) objects

      grows : (growth growth_then : Growth) → growth_then ≡ growth → ObjectsAgree (grown growth a) (grown growth_then other)
      grows growth growth_then same =
          subst (λ g. ObjectsAgree (grown growth a) (grown g other)) (sym same)
          (record { reply = Same (object_reply Done); account = refl; objects = refl; ram = refl; caps = refl })

      chunks : (full : Bool) → AreAlike (cond full [] (growth_tests kind.block objects.shape a)) →
          ObjectsAgree
          (unless_refused (option_map as_error (cond full (Some TooManyChunks) (shortage a (least_growth kind.block objects.shape).bytes 1))) objects a (grown (growth_of kind.block objects.shape a) a))
          (unless_refused (option_map as_error (cond full (Some TooManyChunks) (shortage other (least_growth kind.block objects.shape).bytes 1))) objects other (grown (growth_of kind.block objects.shape other) other))
      chunks true each = tells (Refused (as_error TooManyChunks)) objects a refl refl
      chunks false each =
          unless_agrees (option_map as_error (shortage a (least_growth kind.block objects.shape).bytes 1)) (option_map as_error (shortage other (least_growth kind.block objects.shape).bytes 1))
          (grown (growth_of kind.block objects.shape a) a) (grown (growth_of kind.block objects.shape other) other)
          (ap (option_map as_error) (least_alike x a kind.block objects.shape each))
          (grows (growth_of kind.block objects.shape a) (growth_of kind.block objects.shape other) (growth_alike x a kind.block objects.shape each))

      -- with the best hole, if there is one
      abbrev made_with : Option Spot → Account → ObjectServed
      made_with found b = made_by kind name (block_taken kind.block found objects.shape b) objects

      smalls : (found : Option Spot) → AreAlike (small_tests kind.block found objects.shape a) →
          ObjectsAgree (unless_refused (option_map as_error (small_refusal kind.block found objects.shape a)) objects a (made_with found a))
          (unless_refused (option_map as_error (small_refusal kind.block found objects.shape other)) objects other (made_with found other))
      smalls (Some hole) each = record { reply = Same (object_reply Done); account = refl; objects = refl; ram = refl; caps = refl }
      smalls None each = chunks (nat_le most_chunks (length objects.shape.chunks)) each

      makes_by : (bad there : Bool) → AreAlike (cond bad [] (cond there [] (small_tests kind.block (hole_for kind.block objects.shape) objects.shape a))) →
          ObjectsAgree
          (unless_refused (cond bad (Some (Shared BadName)) (cond there (Some (Shared Exists)) (option_map as_error (small_refusal kind.block (hole_for kind.block objects.shape) objects.shape a)))) objects a
          (made_with (hole_for kind.block objects.shape) a))
          (unless_refused (cond bad (Some (Shared BadName)) (cond there (Some (Shared Exists)) (option_map as_error (small_refusal kind.block (hole_for kind.block objects.shape) objects.shape other)))) objects other
          (made_with (hole_for kind.block objects.shape) other))
      makes_by true there each = tells (Refused (Shared BadName)) objects a refl refl
      makes_by false true each = tells (Refused (Shared Exists)) objects a refl refl
      makes_by false false each = smalls (hole_for kind.block objects.shape) each

    makes : (name : List ℕ) (found : Option ObjectKind) → AreAlike (make_object_tests found name objects a) → ObjectsAgree (made found name objects a) (made found name objects other)
    makes name None each = tells (Refused BadKind) objects a refl refl
    makes name (Some kind) each = makes_by kind name (not (is_name name)) (is_some (object_named name objects)) each

    -- ---- other units

    contents_agree : (size : ℕ) (empty valid : Bool) (o p : ObjectServed) → AreAlike (cond empty [] (tested_where valid (test_of (sliced_size size) 1))) → ObjectsAgree o p →
        ObjectsAgree
        (unless_refused (cond empty None (cond (not valid) (Some (Shared InvalidSize)) (option_map as_error (shortage a (sliced_size size) 1)))) objects a o)
        (unless_refused (cond empty None (cond (not valid) (Some (Shared InvalidSize)) (option_map as_error (shortage other (sliced_size size) 1)))) objects other p)
    contents_agree size true valid o p each agree = agree
    contents_agree size false false o p each agree = tells (Refused (Shared InvalidSize)) objects a refl refl
    contents_agree size false true o p each agree =
        unless_agrees (option_map as_error (shortage a (sliced_size size) 1)) (option_map as_error (shortage other (sliced_size size) 1)) o p
        (ap (option_map as_error) (short_alike x a (test_of (sliced_size size) 1) each.0)) agree

    resizes_by : (units : ℕ) (object : DeclaredObject) (same : Bool) → AreAlike (cond same [] (contents_tests (contents (with_units units object)))) →
        ObjectsAgree
        (cond same (told Done objects a) (unless_refused (contents_refusal (contents (with_units units object)) a) objects a (changed units object objects a)))
        (cond same (told Done objects other) (unless_refused (contents_refusal (contents (with_units units object)) other) objects other (changed units object objects other)))
    resizes_by units object true each = tells Done objects a refl refl
    resizes_by units object false each =
        let size = contents (with_units units object) in
        contents_agree size (size == 0) (is_valid_size (sliced_header + size)) (changed units object objects a) (changed units object objects other) each
        (record { reply = Same (object_reply Done); account = refl; objects = refl; ram = refl; caps = refl })

    resizes : (units : ℕ) (found : Option DeclaredObject) → AreAlike (resize_tests units found) → ObjectsAgree (resized units found objects a) (resized units found objects other)
    resizes units None each = tells (Refused (Shared NotFound)) objects a refl refl
    resizes units (Some object) each = resizes_by units object (units == object.units) each

    -- ---- requests that test nothing

    drops : (found : Option DeclaredObject) → ObjectsAgree (dropped found objects a) (dropped found objects other)
    drops None = tells (Refused (Shared NotFound)) objects a refl refl
    drops (Some object) = record { reply = Same (object_reply Done); account = refl; objects = refl; ram = refl; caps = refl }

    counts : (found : Option ObjectKind) → ObjectsAgree (counted found objects a) (counted found objects other)
    counts None = tells (Refused BadKind) objects a refl refl
    counts (Some kind) = tells (Counted (count_by (is_of_kind kind.name) objects.objects)) objects a refl refl

    names : (found : Option DeclaredObject) → ObjectsAgree (named found objects a) (named found objects other)
    names None = tells (Refused (Shared End)) objects a refl refl
    names (Some object) = tells (Named object.kind.name object.name object.units) objects a refl refl

    objects_agree : (buffer : Option (List ℕ)) (request : ObjectRequest) → AreAlike (holding_tests kinds (Some (OfObjects request)) buffer objects a) →
        ObjectsAgree (request_served kinds (Some request) objects a) (request_served kinds (Some request) objects other)
    objects_agree buffer (Make kind name) each = makes name (kind_named kind kinds) each
    objects_agree buffer (Resize name units) each = resizes units (object_named name objects) each
    objects_agree buffer (Drop name) each = drops (object_named name objects)
    objects_agree buffer Count each = tells (Counted (length objects.objects)) objects a refl refl
    objects_agree buffer (CountKind kind) each = counts (kind_named kind kinds)
    objects_agree buffer (Name place) each = names (slice_get objects.objects place)
    objects_agree buffer Stat each = record { reply = Limits a other refl; account = refl; objects = refl; ram = refl; caps = refl }

    -- a buffer beside objects is as one beside no files
    buffer_agrees : (buffer : Option (List ℕ)) (request : BufferRequest) → Agree x a buffer (buffer_served request buffer no_files a) (buffer_served request buffer no_files other) →
        HoldingAgree buffer (lent_beside objects (buffer_served request buffer no_files a)) (lent_beside objects (buffer_served request buffer no_files other))
    buffer_agrees buffer request agree = record { reply = agree.reply; account = agree.account; objects = refl; buffer = agree.buffer; ram = agree.ram; caps = agree.caps }

    pub holding_agrees : (buffer : Option (List ℕ)) (request : Option HoldingRequest) → AreAlike (holding_tests kinds request buffer objects a) →
        HoldingAgree buffer (holding_request_served kinds request buffer objects a) (holding_request_served kinds request buffer objects other)
    holding_agrees buffer None each = with_buffer buffer (told (Refused (Shared BadRequest)) objects a) (told (Refused (Shared BadRequest)) objects other) (tells (Refused (Shared BadRequest)) objects a refl refl)
    holding_agrees buffer (Some (OfObjects request)) each =
        with_buffer buffer (request_served kinds (Some request) objects a) (request_served kinds (Some request) objects other) (objects_agree buffer request each)
    holding_agrees buffer (Some (OfBuffer request)) each = buffer_agrees buffer request (requests_agree x a no_files (Some (OfFilesBuffer request)) buffer each)

    -- ---- want

    -- what an account lacks is told
    or_told : {A : Type 0} (why : Option Refusal) (p : ObjectServed) → A ⊎ (lacks why ≡ true) → A ⊎ (shows_session_short (unless_refused (option_map as_error why) objects other p).reply ≡ true)
    or_told why p (inl alike) = inl alike
    or_told why p (inr is) = inr (short_told why objects other p is)

    module _ (kind : ObjectKind) where
      chunks_decide : (full : Bool) (p : ObjectServed) → AreLed (cond full [] (growth_tests kind.block objects.shape a)) →
          AreAlike (cond full [] (growth_tests kind.block objects.shape a))
          ⊎ (shows_session_short (unless_refused (option_map as_error (cond full (Some TooManyChunks) (shortage other (least_growth kind.block objects.shape).bytes 1))) objects other p).reply ≡ true)
      chunks_decide true p each = inl tt
      chunks_decide false p each = or_told (shortage other (least_growth kind.block objects.shape).bytes 1) p (growth_decided x a kind.block objects.shape each)

      smalls_decide : (found : Option Spot) (p : ObjectServed) → AreLed (small_tests kind.block found objects.shape a) →
          AreAlike (small_tests kind.block found objects.shape a) ⊎ (shows_session_short (unless_refused (option_map as_error (small_refusal kind.block found objects.shape other)) objects other p).reply ≡ true)
      smalls_decide (Some hole) p each = inl tt
      smalls_decide None p each = chunks_decide (nat_le most_chunks (length objects.shape.chunks)) p each

      makes_decide_by : (bad there : Bool) (p : ObjectServed) → AreLed (cond bad [] (cond there [] (small_tests kind.block (hole_for kind.block objects.shape) objects.shape a))) →
          AreAlike (cond bad [] (cond there [] (small_tests kind.block (hole_for kind.block objects.shape) objects.shape a)))
          ⊎ (shows_session_short (unless_refused (cond bad (Some (Shared BadName)) (cond there (Some (Shared Exists)) (option_map as_error (small_refusal kind.block (hole_for kind.block objects.shape) objects.shape other)))) objects other p).reply ≡ true)
      makes_decide_by true there p each = inl tt
      makes_decide_by false true p each = inl tt
      makes_decide_by false false p each = smalls_decide (hole_for kind.block objects.shape) p each

    makes_decide : (name : List ℕ) (found : Option ObjectKind) → AreLed (make_object_tests found name objects a) →
        AreAlike (make_object_tests found name objects a) ⊎ (shows_session_short (made found name objects other).reply ≡ true)
    makes_decide name None each = inl tt
    makes_decide name (Some kind) each = makes_decide_by kind (not (is_name name)) (is_some (object_named name objects)) (made_by kind name (block_taken kind.block (hole_for kind.block objects.shape) objects.shape other) objects) each

    contents_decide : (size : ℕ) (empty valid : Bool) (p : ObjectServed) → AreLed (cond empty [] (tested_where valid (test_of (sliced_size size) 1))) →
        AreAlike (cond empty [] (tested_where valid (test_of (sliced_size size) 1)))
        ⊎ (shows_session_short (unless_refused (cond empty None (cond (not valid) (Some (Shared InvalidSize)) (option_map as_error (shortage other (sliced_size size) 1)))) objects other p).reply ≡ true)
    contents_decide size true valid p each = inl tt
    contents_decide size false false p each = inl tt
    contents_decide size false true p each = or_told (shortage other (sliced_size size) 1) p (alone (decided x a (test_of (sliced_size size) 1) each.0))

    resizes_decide_by : (units : ℕ) (object : DeclaredObject) (same : Bool) → AreLed (cond same [] (contents_tests (contents (with_units units object)))) →
        AreAlike (cond same [] (contents_tests (contents (with_units units object))))
        ⊎ (shows_session_short (cond same (told Done objects other) (unless_refused (contents_refusal (contents (with_units units object)) other) objects other (changed units object objects other))).reply ≡ true)
    resizes_decide_by units object true each = inl tt
    resizes_decide_by units object false each =
        let size = contents (with_units units object) in contents_decide size (size == 0) (is_valid_size (sliced_header + size)) (changed units object objects other) each

    resizes_decide : (units : ℕ) (found : Option DeclaredObject) → AreLed (resize_tests units found) →
        AreAlike (resize_tests units found) ⊎ (shows_session_short (resized units found objects other).reply ≡ true)
    resizes_decide units None each = inl tt
    resizes_decide units (Some object) each = resizes_decide_by units object (units == object.units) each

    pub holding_decides : (buffer : Option (List ℕ)) (request : Option HoldingRequest) → AreLed (holding_tests kinds request buffer objects a) →
        AreAlike (holding_tests kinds request buffer objects a) ⊎ (shows_session_short (holding_request_served kinds request buffer objects other).reply ≡ true)
    holding_decides buffer (Some (OfObjects (Make kind name))) each = makes_decide name (kind_named kind kinds) each
    holding_decides buffer (Some (OfObjects (Resize name units))) each = resizes_decide units (object_named name objects) each
    holding_decides buffer (Some (OfBuffer request)) each = requests_decide x a no_files (Some (OfFilesBuffer request)) buffer each
    holding_decides buffer request each = inl tt
