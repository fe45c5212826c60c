-- A request of objects tests what is told of it.
use Rattle.std.proofs.lemmas.Bool.Decides.{nat_tests}
use Rattle.std.proofs.Common.{arith, ◌≡◌, ℕ, ◌+◌, ◌<◌, ◌&&◌, ◌||◌, Bool, true, false, cond, List, [], ◌∷◌, ◌++◌, length, map, ◌^◌, nat_lt, nat_le, refl, sym, ap, ◌∙◌, true≢false, subst}
use Rattle.std.proofs.lemmas.List.{map-append}
use Rattle.std.proofs.lemmas.Option.{same_Some}
use Rattle.std.specs.Prelude.{if◌then◌else◌, ◌==◌, not, Option, Some, None, is_none, is_some, slice_get}
use Rattle.std.specs.Option.{option_map}
use Rattle.std.specs.Str.{bytes_eq}
use Rattle.trade_base.specs.declared.refusal.Refusal.{Refusal}
use Rattle.trade_base.specs.declared.refusal.Refusal.TheVariants as refusal
use Rattle.own_model.proofs.NodeListLemmas.{find_map, map_without}
use Rattle.own_model.proofs.ObjectRequestLemmas.{own_name}
use Rattle.own_model.specs.Account.{Account, shortage, charged}
use Rattle.own_model.specs.BestFit.{Spot}
use Rattle.own_model.specs.BufferService.BufferRequest.{Make as MakeBuffer, GiveBack, Put, Get}
use Rattle.own_model.specs.BufferService.SessionRequest.{OfBuffer as OfFilesBuffer}
use Rattle.own_model.specs.FileService.{error_of, no_files}
use Rattle.own_model.specs.FileText.FileError.{BadName, Exists, NotFound}
use Rattle.own_model.specs.Growth.{Growth, Shape, most_chunks, hole_for, least_growth, larger_growth, new_hole, small_refusal, shape_taken, shape_grown}
use Rattle.own_model.specs.Nodes.{with_first, without_first, block_taken}
use Rattle.own_model.specs.ObjectKinds.{ObjectKind, kind_named}
use Rattle.own_model.specs.ObjectService.{Objects, DeclaredObject, ObjectServed, is_named, object_named, contents, with_units, make_refusal, contents_refusal, told, unless_refused, made_by, made, changed, resized, dropped, counted, named, request_served}
use Rattle.own_model.specs.ObjectSession.{HoldingRequest, HoldingServed, holding_request_served}
use Rattle.own_model.specs.ObjectSession.HoldingRequest.{OfObjects, OfBuffer}
use Rattle.own_model.specs.ObjectText.{ObjectRequest, ObjectError}
use Rattle.own_model.specs.ObjectText.ObjectRequest.{Make, Resize, Drop, Count, CountKind, Name, Stat}
use Rattle.own_model.specs.ObjectText.ObjectError.{Shared}
use Rattle.own_model.specs.ObjectText.ObjectReply.{Done, Refused}
use Rattle.own_model.specs.OwnState.{NamedBuffer, bytes_of_buffer}
use Rattle.own_model.specs.OwnStep.{completed}
use Rattle.own_model.specs.Text.{is_name}
use Rattle.budget_theorems.specs.Request.{holding_tests, make_object_tests, resize_tests, shows_session_short}
use Rattle.budget_theorems.specs.Test.{Test, small_tests, growth_tests}
use Rattle.budget_meter.specs.ObjectSizes.{ObjectSize, has_name, known_of, new_size, size_named, size_of_object, with_size}
use Rattle.budget_meter.specs.ObjectTests.{kind_growth, kind_tests, object_growth, object_tests, sizes_after, units_tests}
use Rattle.budget_meter.specs.RequestTests.{is_granted, shows_charge}
use Rattle.budget_meter.proofs.ToldLemmas.{buffer_stays, none_more, one_more, not_lt, request_told, short_same}

-- ---- a new node

module _ (n : ℕ) (shape : Shape) (a : Account) where
  -- the account refuses, or is charged a capability
  abbrev charge : Bool → Account → Bool
  charge short after = short || nat_lt a.caps_used after.caps_used

  abbrev number : Account → ℕ
  number after =
      if nat_lt a.caps_used after.caps_used && nat_le (a.ram_used + (larger_growth n shape).bytes) a.ram_limit
      then (larger_growth n shape).next else shape.growth

  -- it tests as a heap that grows where a charge is told, and else nothing
  record NodeTells (each : List Test) (short : Bool) (after : Account) (growth : ℕ) : Type 0 where
    quiet : charge short after ≡ false → (each ≡ []) × (growth ≡ shape.growth)
    grows : charge short after ≡ true → (each ≡ growth_tests n shape a) × (growth ≡ number after)

  -- refused for another reason, or done without a growth
  stays : NodeTells [] false a shape.growth
  stays = record { quiet = λ _. (refl, refl); grows = λ e. absurd (true≢false (sym e ∙ none_more a.caps_used)) }

  -- refused by the account
  still : (u : Bool) → shape.growth ≡ (if nat_lt a.caps_used a.caps_used && u then (larger_growth n shape).next else shape.growth)
  still u = rw (none_more a.caps_used) refl

  lacks_some : NodeTells (growth_tests n shape a) true a shape.growth
  lacks_some = record { quiet = λ e. absurd (true≢false e); grows = λ _. (refl, still _) }

  abbrev large : ℕ
  large = (larger_growth n shape).bytes

  -- grown, where the account covers a capability more
  grows_by : (v : Bool) → nat_lt a.ram_limit (a.ram_used + large) ≡ v →
      let growth = cond (is_none (cond v (Some refusal.OutOfRam) (cond false (Some refusal.OutOfCaps) None))) (larger_growth n shape) (least_growth n shape) in
      NodeTells (growth_tests n shape a) false (charged a growth.bytes 1) growth.next
  grows_by true is = record {
    quiet = λ e. absurd (true≢false (sym (one_more a.caps_used) ∙ e));
    grows = λ _. (refl, rw (one_more a.caps_used, not_lt (a.ram_used + large) a.ram_limit true is) refl);
  }
  grows_by false is = record {
    quiet = λ e. absurd (true≢false (sym (one_more a.caps_used) ∙ e));
    grows = λ _. (refl, rw (one_more a.caps_used, not_lt (a.ram_used + large) a.ram_limit false is) refl);
  }

-- ---- a new object

module _ (kind : ObjectKind) (name : List ℕ) (objects : Objects) (a : Account) where
  abbrev Makes : List Test → ObjectServed → Type 0
  Makes each o = NodeTells kind.block objects.shape a each (shows_session_short o.reply) o.account o.objects.shape.growth

  abbrev refuses : ObjectError → ObjectServed
  refuses e = told (Refused e) objects a

  abbrev as_errors : Option Refusal → Option ObjectError
  as_errors why = option_map (λ r. Shared (error_of r)) why

  abbrev grown : Growth → ObjectServed
  grown growth =
      made_by kind name (record {
        spot = new_hole growth objects.shape;
        shape = shape_taken kind.block (new_hole growth objects.shape) (shape_grown growth objects.shape);
        account = charged a growth.bytes 1;
      }) objects

  by_account : (u v w : Bool) → nat_lt a.ram_limit (a.ram_used + (larger_growth kind.block objects.shape).bytes) ≡ w →
      Makes (growth_tests kind.block objects.shape a)
      (unless_refused (as_errors (cond u (Some refusal.OutOfRam) (cond v (Some refusal.OutOfCaps) None))) objects a
      (grown (cond (is_none (cond w (Some refusal.OutOfRam) (cond v (Some refusal.OutOfCaps) None))) (larger_growth kind.block objects.shape) (least_growth kind.block objects.shape))))
  by_account true v w is = lacks_some kind.block objects.shape a
  by_account false true w is = lacks_some kind.block objects.shape a
  by_account false false w is = grows_by kind.block objects.shape a w is

  abbrev made_in_hole : Option Spot → ObjectServed
  made_in_hole hole = made_by kind name (block_taken kind.block hole objects.shape a) objects

  by_chunks : (full : Bool) → Makes (cond full [] (growth_tests kind.block objects.shape a))
      (unless_refused (as_errors (cond full (Some refusal.TooManyChunks) (shortage a (least_growth kind.block objects.shape).bytes 1))) objects a (made_in_hole None))
  by_chunks true = stays kind.block objects.shape a
  by_chunks false =
      by_account (nat_lt a.ram_limit (a.ram_used + (least_growth kind.block objects.shape).bytes)) (nat_lt a.caps_limit (a.caps_used + 1))
      (nat_lt a.ram_limit (a.ram_used + (larger_growth kind.block objects.shape).bytes)) refl

  by_hole : (hole : Option Spot) → Makes (small_tests kind.block hole objects.shape a)
      (unless_refused (as_errors (small_refusal kind.block hole objects.shape a)) objects a (made_in_hole hole))
  by_hole (Some hole) = stays kind.block objects.shape a
  by_hole None = by_chunks (nat_le most_chunks (length objects.shape.chunks))

  abbrev hole : Option Spot
  hole = hole_for kind.block objects.shape

  by_name : (bad there : Bool) → Makes (cond bad [] (cond there [] (small_tests kind.block hole objects.shape a)))
      (unless_refused (cond bad (Some (Shared BadName)) (cond there (Some (Shared Exists)) (as_errors (small_refusal kind.block hole objects.shape a)))) objects a (made_in_hole hole))
  by_name true there = stays kind.block objects.shape a
  by_name false true = stays kind.block objects.shape a
  by_name false false = by_hole hole

  -- in the words of what is told
  by_charge : (each : List Test) (o : ObjectServed) (b : Bool) → charge kind.block objects.shape a (shows_session_short o.reply) o.account ≡ b → Makes each o →
      (cond b (growth_tests kind.block objects.shape a) [] ≡ each) × (cond b (number kind.block objects.shape a o.account) objects.shape.growth ≡ o.objects.shape.growth)
  by_charge each o true is tells = (sym (tells.grows is).0, sym (tells.grows is).1)
  by_charge each o false is tells = (sym (tells.quiet is).0, sym (tells.quiet is).1)

  abbrev made_so : ObjectServed
  made_so = made (Some kind) name objects a

  kind_told : let c = charge kind.block objects.shape a (shows_session_short made_so.reply) made_so.account in
      (cond c (growth_tests kind.block objects.shape a) [] ≡ make_object_tests (Some kind) name objects a)
      × (cond c (number kind.block objects.shape a made_so.account) objects.shape.growth ≡ made_so.objects.shape.growth)
  kind_told =
      by_charge (make_object_tests (Some kind) name objects a) made_so (charge kind.block objects.shape a (shows_session_short made_so.reply) made_so.account) refl
      (by_name (not (is_name name)) (is_some (object_named name objects)))

  -- the last object is new where that is told
  abbrev new_one : List ObjectSize
  new_one = record { name = name; bytes = kind.bytes; units = 0 } ∷ []

  abbrev Adds : ObjectServed → Type 0
  Adds o = map size_of_object o.objects.objects ≡ (if is_granted o.reply then map size_of_object objects.objects ++ new_one else map size_of_object objects.objects)

  unless_adds : (why : Option ObjectError) (o : ObjectServed) → Adds o → Adds (unless_refused why objects a o)
  unless_adds (Some e) o adds = refl
  unless_adds None o adds = adds

  made_taken : (hole : Option Spot) → Adds (made_in_hole hole)
  made_taken hole =
      let taken = block_taken kind.block hole objects.shape a in
      map-append size_of_object objects.objects (record { name = name; kind = kind; units = 0; chunk = taken.spot.chunk; offset = taken.spot.offset } ∷ [])

  made_adds : Adds made_so
  made_adds = unless_adds (make_refusal kind name objects a) (made_in_hole hole) (made_taken hole)

-- ---- lists

-- the first that passes, changed, is the changed one of its sizes
sizes_with : (name : List ℕ) (units : ℕ) (objects : List DeclaredObject) →
    map size_of_object (with_first (is_named name) (with_units units) objects) ≡ with_first (has_name name) (with_size units) (map size_of_object objects)
sizes_with name units [] = refl
sizes_with name units (object ∷ rest) =
    elim (bytes_eq object.name name) as
    (λ b. map size_of_object (cond b (with_units units object ∷ rest) (object ∷ with_first (is_named name) (with_units units) rest))
    ≡ cond b (with_size units (size_of_object object) ∷ map size_of_object rest) (size_of_object object ∷ with_first (has_name name) (with_size units) (map size_of_object rest))) [
      | true ↦ refl
      | false ↦ ap (λ more. size_of_object object ∷ more) (sizes_with name units rest)
    ]

-- and it is as it was, where it has the units already
same_with : (name : List ℕ) (units : ℕ) (sizes : List ObjectSize) (one : ObjectSize) → size_named name sizes ≡ Some one → units ≡ one.units →
    with_first (has_name name) (with_size units) sizes ≡ sizes
same_with name units [] one found same = refl
same_with name units (size ∷ rest) one found same =
    elim (bytes_eq size.name name) as
    (λ b. cond b (Some size) (size_named name rest) ≡ Some one → cond b (with_size units size ∷ rest) (size ∷ with_first (has_name name) (with_size units) rest) ≡ size ∷ rest) [
      | true ↦ λ is. ap (λ n. with_size n size ∷ rest) (same ∙ ap (λ (x : ObjectSize). x.units) (sym (same_Some size one is)))
      | false ↦ λ is. ap (λ more. size ∷ more) (same_with name units rest one is same)
    ] found

-- ---- other units, and the end of an object

tests_by_found : (units : ℕ) (found : Option DeclaredObject) → units_tests units (option_map size_of_object found) ≡ resize_tests units found
tests_by_found units None = refl
tests_by_found units (Some object) = refl

module _ (objects : Objects) (name : List ℕ) where
  -- what is found is found by its sizes
  found_sizes : (found : Option DeclaredObject) → object_named name objects ≡ found → size_named name (map size_of_object objects.objects) ≡ option_map size_of_object found
  found_sizes found is = find_map size_of_object (has_name name) objects.objects ∙ ap (option_map size_of_object) is

  pub resize_tested : (units : ℕ) → units_tests units (size_named name (map size_of_object objects.objects)) ≡ resize_tests units (object_named name objects)
  resize_tested units = ap (units_tests units) (found_sizes (object_named name objects) refl) ∙ tests_by_found units (object_named name objects)

module _ (objects : Objects) (a : Account) (name : List ℕ) where
  abbrev sizes : List ObjectSize
  sizes = map size_of_object objects.objects

  -- the sizes are these, if the reply tells that it is done, and the heap is as it was
  record Turns (after : List ObjectSize) (o : ObjectServed) : Type 0 where
    sizes_are : map size_of_object o.objects.objects ≡ (if is_granted o.reply then after else sizes)
    growth : objects.shape.growth ≡ o.objects.shape.growth

  refused_turns : (after : List ObjectSize) (e : ObjectError) → Turns after (told (Refused e) objects a)
  refused_turns after e = record { sizes_are = refl; growth = refl }

  unless_turns : (after : List ObjectSize) (why : Option ObjectError) (o : ObjectServed) → Turns after o → Turns after (unless_refused why objects a o)
  unless_turns after (Some e) o turns = refused_turns after e
  unless_turns after None o turns = turns

  module _ (units : ℕ) where
    abbrev resized_sizes : List ObjectSize
    resized_sizes = with_first (has_name name) (with_size units) sizes

    changed_turns : (object : DeclaredObject) → object_named name objects ≡ Some object → Turns resized_sizes (changed units object objects a)
    changed_turns object found = record {
      sizes_are =
          ap (λ own. map size_of_object (with_first (is_named own) (with_units units) objects.objects)) (own_name objects name object found)
          ∙ sizes_with name units objects.objects;
      growth = refl;
    }

    resize_by : (object : DeclaredObject) → object_named name objects ≡ Some object → (same : Bool) → (units == object.units) ≡ same →
        Turns resized_sizes
        (cond same (told Done objects a) (unless_refused (contents_refusal (contents (with_units units object)) a) objects a (changed units object objects a)))
    resize_by object found true is =
        let equal : units ≡ object.units = grind (arith, nat_tests, is) in
        record { sizes_are = sym (same_with name units sizes (size_of_object object) (found_sizes objects name (Some object) found) equal); growth = refl }
    resize_by object found false is = unless_turns resized_sizes (contents_refusal (contents (with_units units object)) a) (changed units object objects a) (changed_turns object found)

    resize_turns : (found : Option DeclaredObject) → object_named name objects ≡ found → Turns resized_sizes (resized units found objects a)
    resize_turns None found = refused_turns resized_sizes (Shared NotFound)
    resize_turns (Some object) found = resize_by object found (units == object.units) refl

  drop_turns : (found : Option DeclaredObject) → object_named name objects ≡ found → Turns (without_first (has_name name) sizes) (dropped found objects a)
  drop_turns None found = refused_turns (without_first (has_name name) sizes) (Shared NotFound)
  drop_turns (Some object) found = record {
    sizes_are =
        ap (λ own. map size_of_object (without_first (is_named own) objects.objects)) (own_name objects name object found)
        ∙ map_without size_of_object (has_name name) objects.objects;
    growth = refl;
  }

-- ---- each request

-- what is told of it tells what it tests, how far the heap of nodes grows, and what becomes of the objects
pub record TellsObjects (asked : Option HoldingRequest) (kinds : List ObjectKind) (buffer : Option (List ℕ)) (objects : Objects) (a : Account) (reply : List ℕ) (o : HoldingServed) : Type 0 where
  pub tests : object_tests asked reply a o.account (known_of kinds objects) objects.shape ≡ holding_tests kinds asked buffer objects a
  pub growth : object_growth asked reply a o.account (known_of kinds objects) objects.shape ≡ o.objects.shape.growth
  pub sizes : map size_of_object o.objects.objects ≡ sizes_after kinds asked reply (map size_of_object objects.objects)
  pub short : shows_session_short reply ≡ shows_session_short o.reply

module _ (kinds : List ObjectKind) (objects : Objects) (a : Account) (few : a.ram_limit < 2 ^ 64) (selector : ℕ) (buffer : Option NamedBuffer) where
  abbrev server : Option HoldingRequest → HoldingServed
  server asked = holding_request_served kinds asked (bytes_of_buffer buffer) objects a

  abbrev told_reply : Option HoldingRequest → List ℕ
  told_reply asked = completed buffer (server asked).buffer selector (server asked).reply

  abbrev ToldOf : Option HoldingRequest → List ℕ → Type 0
  ToldOf asked reply = TellsObjects asked kinds (bytes_of_buffer buffer) objects a reply (server asked)

  abbrev ToldObject : ObjectRequest → ObjectServed → Type 0
  ToldObject request o =
      (object_tests (Some (OfObjects request)) o.reply a o.account (known_of kinds objects) objects.shape ≡ holding_tests kinds (Some (OfObjects request)) (bytes_of_buffer buffer) objects a)
      × (object_growth (Some (OfObjects request)) o.reply a o.account (known_of kinds objects) objects.shape ≡ o.objects.shape.growth)
      × (map size_of_object o.objects.objects ≡ sizes_after kinds (Some (OfObjects request)) o.reply (map size_of_object objects.objects))

  -- a new one: a kind that isn't there tests nothing
  none_charged : {X : Type 0} (x : X) → cond (nat_lt a.caps_used a.caps_used) x x ≡ x
  none_charged x = ap (λ b. cond b x x) (none_more a.caps_used)

  make_told : (name : List ℕ) (found : Option ObjectKind) →
      let o = made found name objects a in
      (cond (shows_charge o.reply a o.account) (kind_tests found objects.shape a) [] ≡ make_object_tests found name objects a)
      × (cond (shows_charge o.reply a o.account) (kind_growth found a o.account objects.shape) objects.shape.growth ≡ o.objects.shape.growth)
      × (map size_of_object o.objects.objects ≡ (if is_granted o.reply then map size_of_object objects.objects ++ new_size found name else map size_of_object objects.objects))
  make_told name None = (none_charged [], none_charged objects.shape.growth, refl)
  make_told name (Some kind) = let tells = kind_told kind name objects a in (tells.0, tells.1, made_adds kind name objects a)

  -- one that only reads
  counts_left : (found : Option ObjectKind) → (counted found objects a).objects ≡ objects
  counts_left None = refl
  counts_left (Some kind) = refl

  names_left : (found : Option DeclaredObject) → (named found objects a).objects ≡ objects
  names_left None = refl
  names_left (Some object) = refl

  left_told : (request : ObjectRequest) (o : ObjectServed) → o.objects ≡ objects → (objects.shape.growth ≡ o.objects.shape.growth) × (map size_of_object o.objects.objects ≡ map size_of_object objects.objects)
  left_told request o left = (ap (λ (x : Objects). x.shape.growth) (sym left), ap (λ (x : Objects). map size_of_object x.objects) left)

  object_told : (request : ObjectRequest) → ToldObject request (request_served kinds (Some request) objects a)
  object_told (Make kind name) = make_told name (kind_named kind kinds)
  object_told (Resize name units) =
      let turns = resize_turns objects a name units (object_named name objects) refl in (resize_tested objects name units, turns.growth, turns.sizes_are)
  object_told (Drop name) = let turns = drop_turns objects a name (object_named name objects) refl in (refl, turns.growth, turns.sizes_are)
  object_told Count = (refl, refl, refl)
  object_told (CountKind kind) = let o = counted (kind_named kind kinds) objects a in let left = left_told (CountKind kind) o (counts_left (kind_named kind kinds)) in (refl, left.0, left.1)
  object_told (Name place) = let o = named (slice_get objects.objects place) objects a in let left = left_told (Name place) o (names_left (slice_get objects.objects place)) in (refl, left.0, left.1)
  object_told Stat = (refl, refl, refl)

  by_reply : (asked : Option HoldingRequest) → (server asked).buffer ≡ bytes_of_buffer buffer → ToldOf asked (server asked).reply → ToldOf asked (told_reply asked)
  by_reply asked kept told_so =
      subst (ToldOf asked) (sym (ap (λ b. completed buffer b selector (server asked).reply) kept ∙ buffer_stays selector buffer (server asked).reply)) told_so

  pub holding_told : (asked : Option HoldingRequest) → ToldOf asked (told_reply asked)
  holding_told None = by_reply None refl (record { tests = refl; growth = refl; sizes = refl; short = refl })
  holding_told (Some (OfObjects request)) =
      let all = object_told request in by_reply (Some (OfObjects request)) refl (record { tests = all.0; growth = all.1; sizes = all.2; short = refl })
  holding_told (Some (OfBuffer (MakeBuffer n))) =
      record {
        tests = (request_told no_files a few selector (Some (OfFilesBuffer (MakeBuffer n))) buffer).tests;
        growth = refl;
        sizes = refl;
        short = short_same no_files a few selector (Some (OfFilesBuffer (MakeBuffer n))) buffer;
      }
  holding_told (Some (OfBuffer GiveBack)) =
      record { tests = refl; growth = refl; sizes = refl; short = short_same no_files a few selector (Some (OfFilesBuffer GiveBack)) buffer }
  holding_told (Some (OfBuffer (Put name offset place count))) =
      record { tests = refl; growth = refl; sizes = refl; short = short_same no_files a few selector (Some (OfFilesBuffer (Put name offset place count))) buffer }
  holding_told (Some (OfBuffer (Get name offset place count))) =
      record { tests = refl; growth = refl; sizes = refl; short = short_same no_files a few selector (Some (OfFilesBuffer (Get name offset place count))) buffer }
