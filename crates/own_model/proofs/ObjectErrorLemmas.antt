-- Requests of objects are refused for the first reason on their line of the table, and for nothing else.
use Rattle.std.proofs.lemmas.Bool.Decides.{nat_tests}
use Rattle.std.proofs.Common.{◌≡◌, ℕ, ◌+◌, ◌==◌, ◌&&◌, Bool, true, false, cond, not, List, length, nat_le, Some, refl, subst, arith, slice_get}
use Rattle.std.proofs.lemmas.Bool.{le-leb, lt-leb}
use Rattle.std.proofs.lemmas.Option.{none-some, slice_get_within, slice_get_cases}
use Rattle.std.specs.Prelude.{Option, None, is_some}
use Rattle.std.specs.Option.{option_map}
use Rattle.trade_base.specs.Page.{page_of, is_valid_size}
use Rattle.trade_base.specs.declared.refusal.Refusal.TheVariants as refusal
use Rattle.own_model.proofs.FileErrorLemmas.{IsGood}
use Rattle.own_model.specs.Account.{Account}
use Rattle.own_model.specs.BestFit.{Spot, block_size}
use Rattle.own_model.specs.ErrorTests.{first_of}
use Rattle.own_model.specs.FileService.{error_of}
use Rattle.own_model.specs.FileText.FileError.{NotFound, End, TooManyChunks, OutOfRam, OutOfCaps, InvalidSize}
use Rattle.own_model.specs.Growth.{Shape, most_chunks, small_refusal}
use Rattle.own_model.specs.ObjectKinds.{ObjectKind, kind_named}
use Rattle.own_model.specs.ObjectService.{Objects, DeclaredObject, ObjectServed, object_named, contents, with_units, make_refusal, contents_refusal, unless_refused, told, made, resized, dropped, counted, named, request_served}
use Rattle.own_model.specs.ObjectText.{ObjectRequest, ObjectError, object_request, object_reply}
use Rattle.own_model.specs.ObjectText.ObjectRequest.{Make, Resize, Drop, Count, CountKind, Name, Stat}
use Rattle.own_model.specs.ObjectText.ObjectError.{BadKind, Shared}
use Rattle.own_model.specs.ObjectText.ObjectReply.{Refused}
use Rattle.own_model.specs.ObjectTheorems.{block_errors, make_errors, contents_errors, resize_errors, errors_of, ObjectErrorsComeInOrder, OtherObjectRequestsAreServed, NodesAreHeapBlocks}
use Rattle.own_model.specs.Sliced.{sliced_header, sliced_size}
use Rattle.own_model.specs.Table.{lacks_ram, lacks_caps}

-- ---- the same tests, in the words of the table

shortage_same : (r c : Bool) → option_map (λ e. Shared (error_of e)) (cond r (Some refusal.OutOfRam) (cond c (Some refusal.OutOfCaps) None)) ≡ cond r (Some (Shared OutOfRam)) (cond c (Some (Shared OutOfCaps)) None)
shortage_same true c = refl
shortage_same false true = refl
shortage_same false false = refl

growth_same : (full r c : Bool) →
    option_map (λ e. Shared (error_of e)) (cond full (Some refusal.TooManyChunks) (cond r (Some refusal.OutOfRam) (cond c (Some refusal.OutOfCaps) None)))
    ≡ cond full (Some (Shared TooManyChunks)) (cond r (Some (Shared OutOfRam)) (cond c (Some (Shared OutOfCaps)) None))
growth_same true r c = refl
growth_same false r c = shortage_same r c

block_same : (n : ℕ) (found : Option Spot) (shape : Shape) (account : Account) → option_map (λ e. Shared (error_of e)) (small_refusal n found shape account) ≡ first_of (block_errors n found shape account)
block_same n (Some hole) shape account = refl
block_same n None shape account = growth_same (nat_le most_chunks (length shape.chunks)) (lacks_ram account (page_of (block_size n))) (lacks_caps account 1)

make_same : (kind : ObjectKind) (name : List ℕ) (objects : Objects) (account : Account) → make_refusal kind name objects account ≡ first_of (make_errors (Some kind) name objects account)
make_same kind name objects account = simp (block_same)

contents_tests : (empty valid r c : Bool) →
    cond empty None (cond (not valid) (Some (Shared InvalidSize)) (option_map (λ e. Shared (error_of e)) (cond r (Some refusal.OutOfRam) (cond c (Some refusal.OutOfCaps) None))))
    ≡ cond (not empty && not valid) (Some (Shared InvalidSize)) (cond (not empty && r) (Some (Shared OutOfRam)) (cond (not empty && c) (Some (Shared OutOfCaps)) None))
contents_tests true valid r c = refl
contents_tests false false r c = refl
contents_tests false true r c = shortage_same r c

contents_same : (size : ℕ) (account : Account) → contents_refusal size account ≡ first_of (contents_errors true size account)
contents_same size account = contents_tests (size == 0) (is_valid_size (sliced_header + size)) (lacks_ram account (sliced_size size)) (lacks_caps account 1)

-- ---- what is answered

module _ (kinds : List ObjectKind) (objects : Objects) (account : Account) where
  -- with the first error of a line, if there is one
  abbrev Answers : Option ObjectError → ObjectServed → Type 0
  Answers (Some e) o = o ≡ told (Refused e) objects account
  Answers None o = IsGood o.reply

  by_itself : (why : Option ObjectError) (o : ObjectServed) → IsGood o.reply → Answers why (unless_refused why objects account o)
  by_itself (Some e) o good = refl
  by_itself None o good = good

  unless_answers : (why line : Option ObjectError) (o : ObjectServed) → why ≡ line → IsGood o.reply → Answers line (unless_refused why objects account o)
  unless_answers why line o same good = subst (λ l. Answers l (unless_refused why objects account o)) same (by_itself why o good)

  made_answers : (name : List ℕ) (found : Option ObjectKind) → Answers (first_of (make_errors found name objects account)) (made found name objects account)
  made_answers name None = refl
  made_answers name (Some kind) = unless_answers (make_refusal kind name objects account) (first_of (make_errors (Some kind) name objects account)) _ (make_same kind name objects account) refl

  -- other units, or just the object's own
  units_answer : (same : Bool) (size : ℕ) (kept changed : ObjectServed) → IsGood kept.reply → IsGood changed.reply →
      Answers (first_of (contents_errors (not same) size account)) (cond same kept (unless_refused (contents_refusal size account) objects account changed))
  units_answer true size kept changed good other = good
  units_answer false size kept changed good other = unless_answers (contents_refusal size account) (first_of (contents_errors true size account)) changed (contents_same size account) other

  resized_answers : (units : ℕ) (found : Option DeclaredObject) → Answers (first_of (resize_errors units found account)) (resized units found objects account)
  resized_answers units None = refl
  resized_answers units (Some object) = units_answer (units == object.units) (contents (with_units units object)) _ _ refl refl

  dropped_answers : (found : Option DeclaredObject) → Answers (cond (not (is_some found)) (Some (Shared NotFound)) None) (dropped found objects account)
  dropped_answers None = refl
  dropped_answers (Some object) = refl

  counted_answers : (found : Option ObjectKind) → Answers (cond (not (is_some found)) (Some BadKind) None) (counted found objects account)
  counted_answers None = refl
  counted_answers (Some kind) = refl

  named_answers : (place : ℕ) (found : Option DeclaredObject) → slice_get objects.objects place ≡ found → Answers (cond (nat_le (length objects.objects) place) (Some (Shared End)) None) (named found objects account)
  named_answers place (Some object) is = grind (arith, nat_tests, lt-leb, slice_get_within)
  named_answers place None none = grind (arith, nat_tests, slice_get_cases, none-some, le-leb)

  request_answers : (request : Option ObjectRequest) → Answers (first_of (errors_of kinds request objects account)) (request_served kinds request objects account)
  request_answers None = refl
  request_answers (Some (Make kind name)) = made_answers name (kind_named kind kinds)
  request_answers (Some (Resize name units)) = resized_answers units (object_named name objects)
  request_answers (Some (Drop name)) = dropped_answers (object_named name objects)
  request_answers (Some Count) = refl
  request_answers (Some (CountKind kind)) = counted_answers (kind_named kind kinds)
  request_answers (Some (Name place)) = named_answers place (slice_get objects.objects place) refl
  request_answers (Some Stat) = refl

-- ---- the laws

pub errors_in_order : ObjectErrorsComeInOrder
errors_in_order kinds objects account text e is = subst (λ l. Answers kinds objects account l (request_served kinds (object_request text) objects account)) is (request_answers kinds objects account (object_request text))

-- no error begins with an O
pub no_error_good : (e : ObjectError) → ¬ IsGood (object_reply (Refused e))
no_error_good e good = absurd (omega (arith, good))

pub others_served : OtherObjectRequestsAreServed
others_served kinds objects account text e none told_error =
    let good : IsGood (request_served kinds (object_request text) objects account).reply
    = subst (λ l. Answers kinds objects account l (request_served kinds (object_request text) objects account)) none (request_answers kinds objects account (object_request text)) in
    no_error_good e (subst IsGood told_error good)

-- a block of no more than 65,535 bytes is of a valid size, and not large
pub nodes_are_blocks : NodesAreHeapBlocks
nodes_are_blocks kind shape account is = grind (arith, nat_tests, is.block_least, is.block_most)
