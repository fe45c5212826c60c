-- How requests of objects are served, by the tests that they pass.
use Rattle.std.proofs.Common.{◌≡◌, ◌≢◌, ℕ, ◌+◌, ◌^◌, ◌≤◌, ◌==◌, cond, Bool, true, false, List, Option, Some, None, is_some, refl, sym, ap, subst, ◌∙◌, arith}
use Rattle.std.proofs.lemmas.Bool.Decides.{nat_tests}
use Rattle.std.proofs.lemmas.Option.{none-some, same_Some}
use Rattle.std.specs.Prelude.{slice_get, Result, Err}
use Rattle.std.specs.Option.{option_map}
use Rattle.std.specs.Result.{result_ok}
use Rattle.trade_base.specs.Page.{is_valid_size}
use Rattle.trade_base.specs.declared.refusal.Refusal.{Refusal}
use Rattle.trade_base.specs.declared.refusal.Refusal.TheVariants as refusal
use Rattle.trade_base.proofs.PageLemmas.{IsLeastPageSize-page_of}
use Rattle.own_model.specs.Account.{Account}
use Rattle.own_model.specs.BestFit.{Spot}
use Rattle.own_model.specs.FileService.{error_of}
use Rattle.own_model.specs.FileText.FileError.{BadName, Exists, NotFound, End, InvalidSize}
use Rattle.own_model.specs.Growth.{Shape, heap_refusal, hole_for, small_refusal}
use Rattle.own_model.specs.Nodes.{block_taken}
use Rattle.own_model.specs.ObjectKinds.{ObjectKind, IsObjectKind, kind_named}
use Rattle.own_model.specs.ObjectService.{DeclaredObject, Objects, ObjectServed, told, object_named, contents, contents_refusal, with_units, changed, made, made_by, named, resized, dropped, counted}
use Rattle.own_model.specs.ObjectText as model
use Rattle.own_model.specs.ObjectText.ObjectError.{BadKind, Shared}
use Rattle.own_model.specs.ObjectText.ObjectReply.{Done, Refused}
use Rattle.own_model.specs.ObjectText.ObjectRequest.{Make, Resize, Drop, CountKind, Name}
use Rattle.own_model.specs.Text.{is_name}
use Rattle.own_model.proofs.ObjectErrorLemmas.{nodes_are_blocks}
use Rattle.session_nodes.specs.Frame.{Regions, Store}
use Rattle.session_nodes.specs.NodeList.{Finds}
use Rattle.session_nodes.specs.SessionHeaps.{stock_of}
use Rattle.session_nodes.specs.SoundHeaps.{Stock}
use Rattle.session_nodes.specs.declared.node_list.FoundNode.{FoundNode}
use Rattle.object_service.specs.Calls.{refusal_error}
use Rattle.object_service.specs.Session.{objects_in, created_in, named_reply, resized_in, HasObjects, KeepsOwn, Serves, IsTold, served_in}
use Rattle.object_service.specs.declared.session.ObjectSession.{ObjectSession}

-- ---- after a search, which leaves the memory

pub objects_after : (session : ObjectSession) (regions : Regions) {store mid : Store} → mid ≡ store → HasObjects session (stock_of session.nodes.heaps store regions) → HasObjects session (stock_of session.nodes.heaps mid regions)
objects_after session regions same has = subst (λ m. HasObjects session (stock_of session.nodes.heaps m regions)) (sym same) has

-- an object that is found by a name is found by its own, in the memory after the search
pub found_after : (session : ObjectSession) (regions : Regions) {store mid : Store} (name : List ℕ) (found : FoundNode) → mid ≡ store → Finds session.nodes (stock_of session.nodes.heaps store regions) name found →
    Finds session.nodes (stock_of session.nodes.heaps mid regions) found.node.name.items found
found_after session regions {store} name found same finds =
    let has : Stock = stock_of session.nodes.heaps store regions in
    subst (λ m. Finds session.nodes (stock_of session.nodes.heaps m regions) found.node.name.items found) (sym same) (subst (λ n. Finds session.nodes has n found) (sym finds.named) finds)

-- ---- a reply that leaves all

module _ (kinds : List ObjectKind) (served : ObjectServed) (reply : model.ObjectReply) where
  -- a told reply is served so
  pub serves_told : (session : ObjectSession) (has : Stock) → HasObjects session has → served ≡ told reply (objects_in kinds session has) has.account → Serves kinds served reply session session has
  serves_told session has objects is = record {
    reply_is = ap (λ (o : ObjectServed). o.reply) (sym is);
    leaves = record {
      account = ap (λ (o : ObjectServed). o.account) (sym is);
      objects = ap (λ (o : ObjectServed). o.objects) (sym is);
      kept = objects;
      own = record { label = refl; buffer = refl };
    };
  }

  -- also if the memory is the same
  pub serves_same : (session : ObjectSession) (old new : Store) (regions : Regions) → HasObjects session (stock_of session.nodes.heaps old regions) → new ≡ old →
      served ≡ told reply (objects_in kinds session (stock_of session.nodes.heaps old regions)) (stock_of session.nodes.heaps old regions).account →
      Serves kinds served reply session session (stock_of session.nodes.heaps new regions)
  serves_same session old new regions has e is = subst (λ m. Serves kinds served reply session session (stock_of session.nodes.heaps m regions)) (sym e) (serves_told session (stock_of session.nodes.heaps old regions) has is)

  -- also if all is the same
  pub serves_refused : (session later : ObjectSession) (old new : Store) (regions after : Regions) → HasObjects session (stock_of session.nodes.heaps old regions) → later ≡ session → new ≡ old → after ≡ regions →
      served ≡ told reply (objects_in kinds session (stock_of session.nodes.heaps old regions)) (stock_of session.nodes.heaps old regions).account →
      Serves kinds served reply session later (stock_of later.nodes.heaps new after)
  serves_refused session later old new regions after has s e r is =
      subst (λ x. Serves kinds served reply session x (stock_of x.nodes.heaps new after)) (sym s)
      (subst (λ m. Serves kinds served reply session session (stock_of session.nodes.heaps new m)) (sym r) (serves_same session old new regions has e is))

  -- what is done is served so
  pub serves_done : (objects : Objects) (account : Account) (old later : ObjectSession) (new : Stock) → served ≡ told reply objects account →
      new.account ≡ account → objects_in kinds later new ≡ objects → HasObjects later new → KeepsOwn old later → Serves kinds served reply old later new
  serves_done objects account old later new is account_is objects_are kept own = record {
    reply_is = ap (λ (o : ObjectServed). o.reply) (sym is);
    leaves = record {
      account = account_is ∙ ap (λ (o : ObjectServed). o.account) (sym is);
      objects = objects_are ∙ ap (λ (o : ObjectServed). o.objects) (sym is);
      kept = kept;
      own = own;
    };
  }

-- what is served is the same in the memory after a search
pub serves_after : (kinds : List ObjectKind) (served : Stock → ObjectServed) (reply : model.ObjectReply) (session later : ObjectSession) (new : Stock) (regions : Regions) {store mid : Store} → mid ≡ store →
    Serves kinds (served (stock_of session.nodes.heaps mid regions)) reply session later new → Serves kinds (served (stock_of session.nodes.heaps store regions)) reply session later new
serves_after kinds served reply session later new regions same serves = subst (λ m. Serves kinds (served (stock_of session.nodes.heaps m regions)) reply session later new) same serves

-- ---- why a block or a content is refused

by_tests : (full ram caps : Bool) (r : Refusal) → cond full (Some refusal.TooManyChunks) (cond ram (Some refusal.OutOfRam) (cond caps (Some refusal.OutOfCaps) None)) ≡ Some r → refusal_error r ≡ Shared (error_of r)
by_tests true ram caps r is = subst (λ x. refusal_error x ≡ Shared (error_of x)) (same_Some refusal.TooManyChunks r is) refl
by_tests false true caps r is = subst (λ x. refusal_error x ≡ Shared (error_of x)) (same_Some refusal.OutOfRam r is) refl
by_tests false false true r is = subst (λ x. refusal_error x ≡ Shared (error_of x)) (same_Some refusal.OutOfCaps r is) refl
by_tests false false false r is = absurd (none-some r is)

small_error : (n : ℕ) (o : Option Spot) (shape : Shape) (account : Account) (r : Refusal) → small_refusal n o shape account ≡ Some r → refusal_error r ≡ Shared (error_of r)
small_error n (Some hole) shape account r is = absurd (none-some r is)
small_error n None shape account r is = by_tests _ _ _ r is

module _ (kind : ObjectKind) (name : List ℕ) (objects : Objects) (account : Account) (is_kind : IsObjectKind kind) where
  -- a block that the heap refuses
  pub created_refused : (r : Refusal) → heap_refusal kind.block objects.shape account ≡ Some r → created_in kind name objects account ≡ told (Refused (refusal_error r)) objects account
  created_refused r short =
      let small = sym (nodes_are_blocks kind objects.shape account is_kind) ∙ short in
      let error = small_error kind.block (hole_for kind.block objects.shape) objects.shape account r small in
      rw small (ap (λ e. told (Refused e) objects account) (sym error))

  pub created_done : heap_refusal kind.block objects.shape account ≡ None →
      created_in kind name objects account ≡ made_by kind name (block_taken kind.block (hole_for kind.block objects.shape) objects.shape account) objects
  created_done short = let small = sym (nodes_are_blocks kind objects.shape account is_kind) ∙ short in rw small refl

module _ (units : ℕ) (object : DeclaredObject) (objects : Objects) (account : Account) where
  pub resized_refused : (e : model.ObjectError) → contents_refusal (contents (with_units units object)) account ≡ Some e → resized_in units object objects account ≡ told (Refused e) objects account
  resized_refused e short = rw short refl

  pub resized_done : contents_refusal (contents (with_units units object)) account ≡ None → resized_in units object objects account ≡ changed units object objects account
  resized_done short = rw short refl

-- contents past 64 bits are refused
pub contents_past : (size : ℕ) (account : Account) → 2 ^ 64 ≤ size → contents_refusal size account ≡ Some (Shared InvalidSize)
contents_past size account past =
    let covers = (IsLeastPageSize-page_of (32 + size)).covers in
    let some : (size == 0) ≡ false = grind (arith, nat_tests) in
    let bad : is_valid_size (32 + size) ≡ false = grind (arith, nat_tests) in
    rw (some, bad) refl

-- ---- requests

module _ (kinds : List ObjectKind) (session : ObjectSession) (has : Stock) where
  module _ (of name : List ℕ) where
    pub make_bad_kind : kind_named of kinds ≡ None → IsTold kinds (Make of name) (Refused BadKind) session has
    make_bad_kind none = ap (λ o. made o name (objects_in kinds session has) has.account) none

    module _ (kind : ObjectKind) (offered : kind_named of kinds ≡ Some kind) where
      pub make_bad_name : is_name name ≡ false → IsTold kinds (Make of name) (Refused (Shared BadName)) session has
      make_bad_name bad = rw (offered, bad) refl

      pub make_exists : is_name name ≡ true → is_some (object_named name (objects_in kinds session has)) ≡ true → IsTold kinds (Make of name) (Refused (Shared Exists)) session has
      make_exists good there = rw (offered, good, there) refl

      pub make_created : is_name name ≡ true → object_named name (objects_in kinds session has) ≡ None →
          served_in kinds (Make of name) session has ≡ created_in kind name (objects_in kinds session has) has.account
      make_created good none = rw (offered, good, none) refl

  module _ (name : List ℕ) where
    pub resize_none : (units : ℕ) → object_named name (objects_in kinds session has) ≡ None → IsTold kinds (Resize name units) (Refused (Shared NotFound)) session has
    resize_none units none = ap (λ o. resized units o (objects_in kinds session has) has.account) none

    pub resize_same : (units : ℕ) (object : DeclaredObject) → object_named name (objects_in kinds session has) ≡ Some object → units ≡ object.units → IsTold kinds (Resize name units) Done session has
    resize_same units object there same = let t : (units == object.units) ≡ true = grind (arith, nat_tests) in rw (there, t) refl

    pub resize_other : (units : ℕ) (object : DeclaredObject) → object_named name (objects_in kinds session has) ≡ Some object → units ≢ object.units →
        served_in kinds (Resize name units) session has ≡ resized_in units object (objects_in kinds session has) has.account
    resize_other units object there other = let t : (units == object.units) ≡ false = grind (arith, nat_tests) in rw (there, t) refl

    pub drop_none : object_named name (objects_in kinds session has) ≡ None → IsTold kinds (Drop name) (Refused (Shared NotFound)) session has
    drop_none none = ap (λ o. dropped o (objects_in kinds session has) has.account) none

    pub drop_done : (object : DeclaredObject) → object_named name (objects_in kinds session has) ≡ Some object → served_in kinds (Drop name) session has ≡ dropped (Some object) (objects_in kinds session has) has.account
    drop_done object there = ap (λ o. dropped o (objects_in kinds session has) has.account) there

    pub count_bad_kind : kind_named name kinds ≡ None → IsTold kinds (CountKind name) (Refused BadKind) session has
    count_bad_kind none = ap (λ o. counted o (objects_in kinds session has) has.account) none

    pub count_done : (kind : ObjectKind) → kind_named name kinds ≡ Some kind → served_in kinds (CountKind name) session has ≡ counted (Some kind) (objects_in kinds session has) has.account
    count_done kind there = ap (λ o. counted o (objects_in kinds session has) has.account) there

-- ---- NAME

-- the object at a place, or that there are no more
abbrev pub name_reply : Option model.ObjectReply → model.ObjectReply
name_reply (Some reply) = reply
name_reply None = Refused (Shared End)

named_by : (o : Option DeclaredObject) (objects : Objects) (account : Account) → named o objects account ≡ told (name_reply (option_map named_reply o)) objects account
named_by None objects account = refl
named_by (Some object) objects account = refl

-- the objects stay, and one is named, whatever node is remembered
pub named_served : (kinds : List ObjectKind) (place : ℕ) (reply : Option model.ObjectReply) (session later : ObjectSession) (old new : Store) (regions : Regions) →
    HasObjects later (stock_of later.nodes.heaps old regions) → later ≡ record session { nodes = record session.nodes { recent = later.nodes.recent } } → new ≡ old →
    reply ≡ option_map named_reply (slice_get (objects_in kinds session (stock_of session.nodes.heaps old regions)).objects place) →
    let has = stock_of session.nodes.heaps old regions in
    Serves kinds (served_in kinds (Name place) session has) (name_reply reply) session later (stock_of later.nodes.heaps new regions)
named_served kinds place reply session later old new regions kept is same reply_is =
    let has = stock_of session.nodes.heaps old regions in
    subst (λ m. Serves kinds (served_in kinds (Name place) session has) (name_reply reply) session later (stock_of later.nodes.heaps m regions)) (sym same)
    (serves_done kinds (served_in kinds (Name place) session has) (name_reply reply) (objects_in kinds session has) has.account session later (stock_of later.nodes.heaps old regions)
    (named_by (slice_get (objects_in kinds session has).objects place) (objects_in kinds session has) has.account
    ∙ ap (λ o. told (name_reply o) (objects_in kinds session has) has.account) (sym reply_is))
    (ap (λ (s : ObjectSession). (stock_of s.nodes.heaps old regions).account) is)
    (ap (λ (s : ObjectSession). objects_in kinds s (stock_of s.nodes.heaps old regions)) is)
    kept
    (record { label = ap (λ (s : ObjectSession). s.label) is; buffer = ap (λ (s : ObjectSession). s.buffer) is }))

-- what was none before it was an error
pub none_before : {T E : Type 0} (o : Option T) (r : Result T E) (e : E) → o ≡ result_ok r → r ≡ Err e → o ≡ None
none_before o r e ok is = ok ∙ ap result_ok is
