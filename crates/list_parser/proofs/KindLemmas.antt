-- What a server declares.
use Rattle.std.proofs.Common.{◌≡◌, ℕ, suc, ◌+◌, ◌<◌, ◌≤◌, Bool, true, false, cond, ◌||◌, List, [], ◌∷◌, ◌++◌, length, length-append, map, drop, get_or, Option, Some, None, Ok, Err, refl, sym, ap, subst, ◌∙◌, add-one, drop-cons, arith}
use Rattle.std.specs.Prelude.{if◌then◌else◌, is_some}
use Rattle.std.specs.List.{AllByRecursion, list_any}
use Rattle.std.specs.Option.{option_and_then}
use Rattle.std.specs.Str.{bytes_eq}
use Rattle.serde_json.specs.Data.{Data}
use Rattle.serde_json.specs.Find.{as_str}
use Rattle.serde_json.specs.View.{view}
use Rattle.serde_json.specs.declared.value.Value.{Value}
use Rattle.own_model.proofs.NodeLemmas.{differ_back}
use Rattle.own_model.specs.ObjectKinds.{AreObjectKinds, IsObjectKind, KindsDiffer, ObjectKind, is_kind, kind_named}
use Rattle.own_model.specs.Text.{is_name}
use Rattle.list_parser.proofs.MemberLemmas.{next_passed}
use Rattle.list_parser.specs.DeclaredServers.{declared_in, kind_after, with_next}
use Rattle.list_parser.specs.FaultPlace.{◌>>=◌, all_after, bad_element, in_element}
use Rattle.list_parser.specs.declared.fault.ConfigField.TheVariants as field
use Rattle.list_parser.specs.declared.list_fault.FaultPart.TheVariants as part
use Rattle.list_parser.specs.declared.list_fault.Flaw.{Flaw}
use Rattle.list_parser.specs.Members.{name_in, name_of}

-- no two services are declared
pub declares_too_many : (services : List Value) → 1 < length services → declared_in (map view services) ≡ None
declares_too_many [] many = absurd (omega arith)
declares_too_many (service ∷ []) many = absurd (omega arith)
declares_too_many (service ∷ another ∷ more) many = refl

-- what is read as a name is one
pub name_read : (given : Option Data) (name : List ℕ) → option_and_then name_of given ≡ Some name → is_name name ≡ true
name_read None name is = cc
name_read (Some d) name is = by_text (as_str d) is where
  by_name : (b : Bool) (text : List ℕ) → is_name text ≡ b → let o : Option (List ℕ) = if b then Some text else None in o ≡ Some name → is_name name ≡ true
  by_name true text passes given = let same : text ≡ name = cc in subst (λ t. is_name t ≡ true) same passes
  by_name false text passes given = cc

  by_text : (o : Option (List ℕ)) → option_and_then name_in o ≡ Some name → is_name name ≡ true
  by_text None given = cc
  by_text (Some text) given = by_name (is_name text) text refl given

-- ---- kinds with different names

-- a name is found exactly if a kind has it
pub kind_found : (name : List ℕ) (kinds : List ObjectKind) → list_any (is_kind name) kinds ≡ is_some (kind_named name kinds)
kind_found name [] = refl
kind_found name (kind ∷ kinds) = by_first (is_kind name kind) (kind_found name kinds) where
  by_first : (b : Bool) → list_any (is_kind name) kinds ≡ is_some (kind_named name kinds) → (b || list_any (is_kind name) kinds) ≡ is_some (cond b (Some kind) (kind_named name kinds))
  by_first true rest = refl
  by_first false rest = rest

-- a name that no kind has is not the first one's, nor one of the others
none_first : (name : List ℕ) (kind : ObjectKind) (kinds : List ObjectKind) → kind_named name (kind ∷ kinds) ≡ None → (bytes_eq kind.name name ≡ false) × (kind_named name kinds ≡ None)
none_first name kind kinds none = by_first (bytes_eq kind.name name) none where
  by_first : (b : Bool) → cond b (Some kind) (kind_named name kinds) ≡ None → (b ≡ false) × (kind_named name kinds ≡ None)
  by_first true given = cc
  by_first false given = (refl, given)

-- a kind of another name, after the others, is not found
none_last : (name : List ℕ) (kinds : List ObjectKind) (kind : ObjectKind) → kind_named name kinds ≡ None → bytes_eq kind.name name ≡ false → kind_named name (kinds ++ kind ∷ []) ≡ None
none_last name [] kind none differs = rw differs refl
none_last name (first ∷ kinds) kind none differs =
    let apart = none_first name first kinds none in
    rw apart.0 (none_last name kinds kind apart.1 differs)

differ_last : (kinds : List ObjectKind) (kind : ObjectKind) → KindsDiffer kinds → kind_named kind.name kinds ≡ None → KindsDiffer (kinds ++ kind ∷ [])
differ_last [] kind differ none = (refl, tt)
differ_last (first ∷ kinds) kind differ none =
    let apart = none_first kind.name first kinds none in
    (none_last first.name kinds kind differ.0 (differ_back first.name kind.name apart.0), differ_last kinds kind differ.1 apart.1)

each_last : (kinds : List ObjectKind) (kind : ObjectKind) → AllByRecursion IsObjectKind kinds → IsObjectKind kind → AllByRecursion IsObjectKind (kinds ++ kind ∷ [])
each_last [] kind each its = (its, tt)
each_last (first ∷ kinds) kind each its = (each.0, each_last kinds kind each.1 its)

none_by_test : (o : Option ObjectKind) → is_some o ≡ false → o ≡ None
none_by_test None is = refl
none_by_test (Some kind) is = cc

-- ---- as they are read

-- these were read so far, and those are left: so many at most
pub record AreReadUpTo (kinds : List ObjectKind) (left all : List Data) : Type 0 where
  pub so_far : all_after with_next [] all ≡ all_after with_next kinds left
  pub are : AreObjectKinds kinds
  pub few : length kinds + length left ≤ 16

pub none_read : (all : List Data) → length all ≤ 16 → AreReadUpTo [] all all
none_read all few = record { so_far = refl; are = record { each = tt; differ = tt; few = omega arith }; few = omega (arith, few) }

-- a kind is read in its place
pub kind_passed : (kinds : List ObjectKind) (d : Data) (kind : ObjectKind) → Ok kind ≡ kind_after kinds d → with_next kinds d ≡ Ok (kinds ++ kind ∷ [])
kind_passed kinds d kind is = ap (λ r. in_element field.Kinds (part.Kind (length kinds)) r >>= (λ k. Ok (kinds ++ k ∷ []))) (sym is)

pub kind_refused : (kinds : List ObjectKind) (d : Data) (flaw : Flaw) → Err flaw ≡ kind_after kinds d → with_next kinds d ≡ Err (bad_element field.Kinds (part.Kind (length kinds)) flaw)
kind_refused kinds d flaw is = ap (λ r. in_element field.Kinds (part.Kind (length kinds)) r >>= (λ k. Ok (kinds ++ k ∷ []))) (sym is)

pub read_more : (kinds : List ObjectKind) (values : List Value) (place : ℕ) (value : Value) (kind : ObjectKind) → AreReadUpTo kinds (map view (drop place values)) (map view values) →
    place < length values → value ≡ get_or values place value → with_next kinds (view value) ≡ Ok (kinds ++ kind ∷ []) → IsObjectKind kind → is_some (kind_named kind.name kinds) ≡ false →
    AreReadUpTo (kinds ++ kind ∷ []) (map view (drop (place + 1) values)) (map view values)
read_more kinds values place value kind read inside is given its new =
    let longer : length (kinds ++ kind ∷ []) ≡ length kinds + 1 = length-append kinds (kind ∷ []) in
    let next : drop place values ≡ value ∷ drop (place + 1) values = drop-cons values place value inside ∙ rw (add-one, ← is) refl in
    let left : length (map view (drop place values)) ≡ length (map view (drop (place + 1) values)) + 1 = ap (λ l. length (map view l)) next ∙ add_one (length (map view (drop (place + 1) values))) in
    record {
      so_far = next_passed with_next [] kinds values place value read.so_far inside is (kinds ++ kind ∷ []) given;
      are = record {
        each = each_last kinds kind read.are.each its;
        differ = differ_last kinds kind read.are.differ (none_by_test (kind_named kind.name kinds) new);
        few = omega (arith, read.few, left, longer);
      };
      few = omega (arith, read.few, left, longer);
    }
  where
    add_one : (n : ℕ) → suc n ≡ n + 1
    add_one n = omega arith
