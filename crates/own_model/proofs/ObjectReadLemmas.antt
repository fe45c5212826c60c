-- What an object is after requests, and that a request of one leaves the others.
use Rattle.std.proofs.lemmas.Bool.Decides.{nat_tests}
use Rattle.std.proofs.Common.{rules, arith, ◌≡◌, ℕ, ◌++◌, ◌==◌, true, false, cond, List, [], ◌∷◌, Some, refl, sym, ap, subst, ◌∙◌, find, slice_get, eqb-true}
use Rattle.std.proofs.lemmas.List.Folds.{find-append}
use Rattle.std.proofs.lemmas.Slice.Eq.{bytes_eq-Decides}
use Rattle.std.specs.Prelude.{Option, None, is_some}
use Rattle.std.specs.Option.{option_map, option_or}
use Rattle.std.specs.Str.{bytes_eq}
use Rattle.own_model.proofs.FileErrorLemmas.{IsGood}
use Rattle.own_model.proofs.NatMapLemmas.{none_of}
use Rattle.own_model.proofs.NodeListLemmas.{finds_with, others_with, others_without}
use Rattle.own_model.proofs.ObjectErrorLemmas.{no_error_good}
use Rattle.own_model.proofs.ObjectRequestLemmas.{own_name, block_of_kind, make_parts}
use Rattle.own_model.specs.Account.{Account}
use Rattle.own_model.specs.Growth.{hole_for, small_refusal}
use Rattle.own_model.specs.Nodes.{with_first}
use Rattle.own_model.specs.ObjectKinds.{ObjectKind, kind_named}
use Rattle.own_model.specs.ObjectService.{Objects, DeclaredObject, ObjectServed, is_named, object_named, contents, with_units, make_refusal, contents_refusal, unless_refused, told, made_by, made, changed, resized, dropped, counted, named}
use Rattle.own_model.specs.ObjectText.{ObjectError, object_reply}
use Rattle.own_model.specs.ObjectText.ObjectRequest.{Make, Resize, Drop, Count, CountKind, Name, Stat}
use Rattle.own_model.specs.ObjectText.ObjectError.{BadKind, Shared}
use Rattle.own_model.specs.ObjectText.ObjectReply.{Done, Refused}
use Rattle.own_model.specs.FileText.FileError.{NotFound}
use Rattle.own_model.specs.ObjectTheorems.{MadeAreThere, ResizedHaveTheirUnits, SameUnitsAreKept, OtherObjectsStay}
use Rattle.own_model.specs.Text.{is_name}

-- no error is done
not_done : (e : ObjectError) → object_reply (Refused e) ≡ object_reply Done → ⊥
not_done e same = no_error_good e (subst IsGood (sym same) refl)

-- a name is itself
named_itself : (name : List ℕ) → bytes_eq name name ≡ true
named_itself name = (bytes_eq-Decides name name).1 refl

-- ---- an object that was made

-- the last of a list of which no other has the name
found_last : (name : List ℕ) (objects : List DeclaredObject) (new : DeclaredObject) → new.name ≡ name → find (is_named name) objects ≡ None → find (is_named name) (objects ++ new ∷ []) ≡ Some new
found_last name objects new is none =
    find-append (is_named name) objects (new ∷ [])
    ∙ ap (λ o. option_or o (cond (is_named name new) (Some new) None)) none
    ∙ ap (λ b. cond b (Some new) None) (ap (λ own. bytes_eq own name) is ∙ named_itself name)

module _ (name : List ℕ) (objects : Objects) (account : Account) where
  -- what is there of a kind after a request that was done
  abbrev IsMade : Option ObjectKind → ObjectServed → Type 0
  IsMade found o = o.reply ≡ object_reply Done → (object : DeclaredObject) × ((object_named name o.objects ≡ Some object) × ((found ≡ Some object.kind) × (object.units ≡ 0)))

  made_by_is : (kind : ObjectKind) (why : Option ObjectError) → make_refusal kind name objects account ≡ why →
      IsMade (Some kind) (unless_refused why objects account (made_by kind name (block_of_kind kind objects account) objects))
  made_by_is kind (Some e) is = λ done. absurd (not_done e done)
  made_by_is kind None is = λ _.
      let parts = make_parts (is_name name) (is_some (object_named name objects)) _ _ (small_refusal kind.block (hole_for kind.block objects.shape) objects.shape account) is in
      let taken = block_of_kind kind objects account in
      let new : DeclaredObject = record { name = name; kind = kind; units = 0; chunk = taken.spot.chunk; offset = taken.spot.offset } in
      (new, (found_last name objects.objects new refl (none_of (object_named name objects) parts.1), (refl, refl)))

  made_is : (found : Option ObjectKind) → IsMade found (made found name objects account)
  made_is None = λ done. absurd (not_done BadKind done)
  made_is (Some kind) = made_by_is kind (make_refusal kind name objects account) refl

pub made_are_there : MadeAreThere
made_are_there kinds objects account kind name done = made_is name objects account (kind_named kind kinds) done

-- ---- an object that was resized

module _ (name : List ℕ) (units : ℕ) (objects : Objects) (account : Account) where
  abbrev HasUnits : Option DeclaredObject → ObjectServed → Type 0
  HasUnits found o = o.reply ≡ object_reply Done → object_named name o.objects ≡ option_map (with_units units) found

  -- an object of just these units is one with them
  own_units : (object : DeclaredObject) → units ≡ object.units → Some object ≡ option_map (with_units units) (Some object)
  own_units object is = ap (λ n. Some (with_units n object)) (sym is)

  changed_units : (object : DeclaredObject) → object_named name objects ≡ Some object → object.name ≡ name → (why : Option ObjectError) →
      HasUnits (Some object) (unless_refused why objects account (changed units object objects account))
  changed_units object is own (Some e) = λ done. absurd (not_done e done)
  changed_units object is own None = λ _.
      subst (λ n. find (is_named name) (with_first (is_named n) (with_units units) objects.objects) ≡ option_map (with_units units) (Some object)) (sym own)
      (finds_with (is_named name) (with_units units) (λ x passes. passes) objects.objects ∙ ap (option_map (with_units units)) is)

  resized_has : (found : Option DeclaredObject) → object_named name objects ≡ found → HasUnits found (resized units found objects account)
  resized_has None is = λ done. absurd (not_done (Shared NotFound) done)
  resized_has (Some object) is =
      let why = contents_refusal (contents (with_units units object)) account in
      elim (units == object.units) as (λ b. (units == object.units) ≡ b → HasUnits (Some object) (cond b (told Done objects account) (unless_refused why objects account (changed units object objects account)))) [
        | true ↦ λ same _. is ∙ own_units object (eqb-true units object.units same)
        | false ↦ λ _. changed_units object is (own_name objects name object is) why
      ] refl

pub resized_have_units : ResizedHaveTheirUnits
resized_have_units kinds objects account name units done = resized_has name units objects account (object_named name objects) refl done

pub same_units_kept : SameUnitsAreKept
same_units_kept kinds objects account name object is = grind (arith, nat_tests, is)

-- ---- others stay

module _ (objects : Objects) (account : Account) (other : List ℕ) where
  -- the object of the other name is as it was
  abbrev Stays : ObjectServed → Type 0
  Stays o = object_named other o.objects ≡ object_named other objects

  unless_stays : (why : Option ObjectError) (o : ObjectServed) → Stays o → Stays (unless_refused why objects account o)
  unless_stays None o stays = stays
  unless_stays (Some e) o stays = refl

  -- where there is nothing more, there is what there is
  or_nothing : (o : Option DeclaredObject) → option_or o None ≡ o
  or_nothing None = refl
  or_nothing (Some x) = refl

  push_stays : (new : DeclaredObject) → is_named other new ≡ false → find (is_named other) (objects.objects ++ new ∷ []) ≡ find (is_named other) objects.objects
  push_stays new differs = search (rules, find-append, or_nothing)

  module _ (name : List ℕ) (apart : bytes_eq name other ≡ false) where
    -- an object of the one name hasn't the other
    not_other : (own : List ℕ) → own ≡ name → (x : DeclaredObject) → is_named own x ≡ true → is_named other x ≡ false
    not_other own is x passes = ap (λ n. bytes_eq n other) ((bytes_eq-Decides x.name own).0 passes ∙ is) ∙ apart

    made_stays : (found : Option ObjectKind) → Stays (made found name objects account)
    made_stays None = refl
    made_stays (Some kind) = unless_stays (make_refusal kind name objects account) _ (push_stays _ apart)

    resized_stays : (units : ℕ) (found : Option DeclaredObject) → object_named name objects ≡ found → Stays (resized units found objects account)
    resized_stays units None is = refl
    resized_stays units (Some object) is =
        let why = contents_refusal (contents (with_units units object)) account in
        let differs = not_other object.name (own_name objects name object is) in
        elim (units == object.units) as (λ b. Stays (cond b (told Done objects account) (unless_refused why objects account (changed units object objects account)))) [
          | true ↦ refl
          | false ↦ unless_stays why (changed units object objects account) (others_with (is_named object.name) (with_units units) (is_named other) differs differs objects.objects)
        ]

    dropped_stays : (found : Option DeclaredObject) → object_named name objects ≡ found → Stays (dropped found objects account)
    dropped_stays None is = refl
    dropped_stays (Some object) is = others_without (is_named object.name) (is_named other) (not_other object.name (own_name objects name object is)) objects.objects

  counted_stays : (found : Option ObjectKind) → Stays (counted found objects account)
  counted_stays None = refl
  counted_stays (Some kind) = refl

  named_stays : (found : Option DeclaredObject) → Stays (named found objects account)
  named_stays None = refl
  named_stays (Some object) = refl

pub others_stay : OtherObjectsStay
others_stay kinds objects account other (Make kind name) apart = made_stays objects account other name apart (kind_named kind kinds)
others_stay kinds objects account other (Resize name units) apart = resized_stays objects account other name apart units (object_named name objects) refl
others_stay kinds objects account other (Drop name) apart = dropped_stays objects account other name apart (object_named name objects) refl
others_stay kinds objects account other Count apart = refl
others_stay kinds objects account other (CountKind kind) apart = counted_stays objects account other (kind_named kind kinds)
others_stay kinds objects account other (Name place) apart = named_stays objects account other (slice_get objects.objects place)
others_stay kinds objects account other Stat apart = refl
