-- What is so of an entry that is read.
use Rattle.std.proofs.Common.{◌≡◌, ℕ, ◌+◌, ◌<◌, ◌≤◌, ◌&&◌, ◌⊎◌, inl, inr, nat_le, Bool, true, false, List, [], length, codes, Option, Some, None, Ok, Err, subst, refl, sym, ap, ◌∙◌, arith}
use Rattle.std.specs.Prelude.{if◌then◌else◌, Result, IfOk}
use Rattle.std.specs.List.{list_all}
use Rattle.std.specs.Option.{option_and_then, option_map}
use Rattle.std.proofs.lemmas.Bool.Decides.{nat_tests}
use Rattle.serde_json.specs.Data.{Data, Items}
use Rattle.serde_json.specs.Find.{get, as_array, as_str}
use Rattle.own_model.specs.Listed.{Binary, ListedEntry, ListedRule}
use Rattle.own_model.specs.Listed.Binary.{Script, Server, Init}
use Rattle.own_model.specs.Text.{is_name, is_name_byte}
use Rattle.own_model.specs.Offer.{Offer}
use Rattle.list_parser.specs.Depth.{runs_init}
use Rattle.list_parser.specs.Entries.{EntryHead, ListConfig, ListPlace, SoFar, behind, default_route, head_of, is_taken, list_of_entry, new_name, nothing_own, object_of, offer_with, own_of, own_route, provider_of, provides_expected, reserve_of_entry, starts_in, taken_name, with_kinds, word_of_entry}
use Rattle.list_parser.specs.HeadParts.{head_in_parts}
use Rattle.list_parser.specs.Members.{amount_at, at_most_32, elements, is_object, name_at, name_in, name_of, whole_at}
use Rattle.list_parser.specs.declared.list_fault.ExpectedValue.TheVariants as expect
use Rattle.list_parser.specs.declared.list_fault.ListFault.{ListFault}
use Rattle.list_parser.specs.FaultPlace.{◌>>=◌, bad, in_config, value_or}
use Rattle.list_parser.specs.declared.fault.ConfigField.TheVariants as field

-- ---- steps that may fail

-- P holds of what is given, if anything is
pub record Gives {A E : Type 0} (P : A → Type 0) (r : Result A E) : Type 0 where
  pub given : IfOk r P

pub gave : {A B E : Type 0} {P : B → Type 0} {f : A → Result B E} (r : Result A E) → ((x : A) → r ≡ Ok x → Gives P (f x)) → Gives P (r >>= f)
gave (Ok x) more = more x refl
gave (Err fault) more = record { given = tt }

pub value_ok : {A E : Type 0} (fault : E) (o : Option A) (x : A) → value_or fault o ≡ Ok x → o ≡ Some x
value_ok fault None x is = cc
value_ok fault (Some y) x is = let same : y ≡ x = cc in ap Some same

-- ---- a name

-- a name that is new is the one that is told, and isn't taken
pub new_is : (before : List ListedEntry) (init : ℕ) (told name : List ℕ) → new_name before init told ≡ Ok name → (told ≡ name) × (is_taken before init name ≡ false)
new_is before init told name is = by_taken (is_taken before init told) refl is where
  by_taken : (b : Bool) → is_taken before init told ≡ b → let r : Result (List ℕ) ListFault = if b then Err (taken_name told) else Ok told in r ≡ Ok name → (told ≡ name) × (is_taken before init name ≡ false)
  by_taken true taken given = cc
  by_taken false free given = let same : told ≡ name = cc in (same, subst (λ n. is_taken before init n ≡ false) same free)

-- a name has a byte at least
some_bytes : (a b c : Bool) (n : ℕ) → nat_le 1 n ≡ a → ((a && b) && c) ≡ true → 0 < n
some_bytes true b c n is passes = grind (arith, nat_tests)
some_bytes false b c n is passes = cc

some_name : (given : Option Data) (name : List ℕ) → option_and_then name_of given ≡ Some name → 0 < length name
some_name None name is = cc
some_name (Some d) name is = by_text (as_str d) is where
  by_name : (b : Bool) (text : List ℕ) → is_name text ≡ b → let o : Option (List ℕ) = if b then Some text else None in o ≡ Some name → 0 < length name
  by_name true text passes given =
      let same : text ≡ name = cc in
      subst (λ t. 0 < length t) same (some_bytes (nat_le 1 (length text)) (nat_le (length text) 32) (list_all is_name_byte text) (length text) refl passes)
  by_name false text passes given = cc

  by_text : (o : Option (List ℕ)) → option_and_then name_in o ≡ Some name → 0 < length name
  by_text None given = cc
  by_text (Some text) given = by_name (is_name text) text refl given

-- ---- what it starts

-- the lists that are met have at most 32 entries together
starts_few : (met : ℕ) (d : Option Data) (starts : List Data) → starts_in met d ≡ Some starts → met + length starts ≤ 32
starts_few met None starts is = cc
starts_few met (Some d) starts is = by_items (as_array d) is where
  by_met : (b : Bool) (xs : List Data) → nat_le (met + length xs) 32 ≡ b → let o : Option (List Data) = if b then Some xs else None in o ≡ Some starts → met + length starts ≤ 32
  by_met true xs few given = let same : xs ≡ starts = cc in subst (λ s. met + length s ≤ 32) same (grind (arith, nat_tests))
  by_met false xs few given = cc

  by_few : (b : Bool) (xs : List Data) → let few : Option (List Data) = if b then Some xs else None in option_and_then (λ s. let o : Option (List Data) = if nat_le (met + length s) 32 then Some s else None in o) few ≡ Some starts → met + length starts ≤ 32
  by_few true xs given = by_met (nat_le (met + length xs) 32) xs refl given
  by_few false xs given = cc

  by_items : (o : Option Items) → option_and_then (λ s. let r : Option (List Data) = if nat_le (met + length s) 32 then Some s else None in r) (option_and_then at_most_32 (option_map elements o)) ≡ Some starts
      → met + length starts ≤ 32
  by_items None given = cc
  by_items (Some items) given = by_few (nat_le (length (elements items)) 32) (elements items) given

pub own_few : (met : ℕ) (d : Data) (own : ListConfig) → own_of met d ≡ Ok own → met + length own.starts ≤ 32
own_few met d own is = by_both (default_route (get (codes "default-route") d)) (starts_in met (get (codes "start") d)) refl is where
  by_both : (route : Result (List ListedRule) ListFault) (starts : Option (List Data)) → starts_in met (get (codes "start") d) ≡ starts
      → (route >>= (λ r. value_or (bad field.Start expect.Entries) starts >>= (λ s. let o : Result ListConfig ListFault = Ok (record { route = r; starts = s }) in o))) ≡ Ok own
      → met + length own.starts ≤ 32
  by_both (Err fault) starts its given = cc
  by_both (Ok r) None its given = cc
  by_both (Ok r) (Some s) its given =
      let same : ◌≡◌ {A = ListConfig} (record { route = r; starts = s }) own = cc in
      subst (λ (o : ListConfig). met + length o.starts ≤ 32) same (starts_few met (get (codes "start") d) s its)

-- an init starts others where there may be a list so deep, and no more than there is room for
pub record StartsOthers (binary : Binary) (deeper : Bool) (met : ℕ) (starts : List Data) : Type 0 where
  pub deep : deeper ≡ true
  pub init : runs_init binary ≡ true
  pub few : met + length starts ≤ 32

told_starts : (binary : Binary) (deeper : Bool) (met : ℕ) (config : Option Data) (own : ListConfig) → list_of_entry binary deeper met config ≡ Ok own →
    (own.starts ≡ []) ⊎ StartsOthers binary deeper met own.starts
told_starts Script deeper met config own is = let same : nothing_own ≡ own = cc in inl (sym (ap (λ (o : ListConfig). o.starts) same))
told_starts (Server service offer) deeper met config own is = let same : nothing_own ≡ own = cc in inl (sym (ap (λ (o : ListConfig). o.starts) same))
told_starts Init deeper met None own is = cc
told_starts Init deeper met (Some d) own is = by_object (is_object d) deeper is where
  by_own : (r : Result ListConfig ListFault) → own_of met d ≡ r → in_config r ≡ Ok own → (own.starts ≡ []) ⊎ StartsOthers Init true met own.starts
  by_own (Ok other) its given = let same : other ≡ own = cc in inr (record { deep = refl; init = refl; few = own_few met d own (its ∙ ap Ok same) })
  by_own (Err fault) its given = cc

  by_object : (b deep : Bool) → let r : Result ListConfig ListFault = if b then (if deep then in_config (own_of met d) else Err (bad field.Config expect.NoInit)) else Err (bad field.Config expect.Object) in r ≡ Ok own → (own.starts ≡ []) ⊎ StartsOthers Init deep met own.starts
  by_object true true given = by_own (own_of met d) refl given
  by_object true false given = cc
  by_object false deep given = cc

-- a binary is an init exactly if it is one before its kinds are read
runs_as_before : (binary new : Binary) (member : Option Data) → with_kinds binary member ≡ Ok new → runs_init new ≡ runs_init binary
runs_as_before Script new member is = let same : Script ≡ new = cc in ap runs_init (sym same)
runs_as_before (Server service offer) new member is = by_offer (offer_with offer member) is where
  by_offer : (o : Result Offer ListFault) → (o >>= (λ offered. let r : Result Binary ListFault = Ok (Server service offered) in r)) ≡ Ok new → runs_init new ≡ false
  by_offer (Err fault) given = cc
  by_offer (Ok offered) given = let same : Server service offered ≡ new = cc in ap runs_init (sym same)
runs_as_before Init new member is = let same : Init ≡ new = cc in ap runs_init (sym same)

still_starts : (binary new : Binary) (deeper : Bool) (met : ℕ) (starts : List Data) → runs_init new ≡ runs_init binary →
    (starts ≡ []) ⊎ StartsOthers binary deeper met starts → (starts ≡ []) ⊎ StartsOthers new deeper met starts
still_starts binary new deeper met starts same (inl none) = inl none
still_starts binary new deeper met starts same (inr others) = inr (record { deep = others.deep; init = same ∙ others.init; few = others.few })

-- ---- the entry

-- it stands where its list does, under a name that is new there, and starts others or nobody
pub record IsHead (place : ListPlace) (deeper : Bool) (so_far : SoFar) (head : EntryHead) : Type 0 where
  pub home : head.entry.home ≡ place.init
  pub path : head.entry.path ≡ behind (codes "/") place.path head.entry.name
  pub label : head.entry.label ≡ behind (codes " -> ") place.label head.entry.name
  pub some : 0 < length head.entry.name
  pub new : is_taken so_far.entries place.init head.entry.name ≡ false
  pub starts : (head.starts ≡ []) ⊎ StartsOthers head.entry.binary deeper so_far.met head.starts

head_gives : (place : ListPlace) (deeper : Bool) (so_far : SoFar) (d : Data) → Gives (IsHead place deeper so_far) (head_of place deeper so_far d)
head_gives place deeper so_far d =
    gave (object_of d) (λ entry _.
    gave (value_or (bad field.Name expect.Name) (name_at (codes "name") entry)) (λ told_name told.
    gave (new_name so_far.entries place.init told_name) (λ name new.
    gave (word_of_entry name (get (codes "binary") entry)) (λ word _.
    gave (value_or (bad field.Quantum expect.Amount) (amount_at (codes "quantum") entry)) (λ ram _.
    gave (value_or (bad field.Caps expect.Caps) (whole_at (codes "caps") 0 4294967295 entry)) (λ caps _.
    gave (value_or (bad field.Provides (provides_expected word)) (provider_of word (get (codes "provides") entry))) (λ provider _.
    gave (own_route (get (codes "route") entry)) (λ route _.
    gave (reserve_of_entry provider.binary entry) (λ reserve _.
    gave (list_of_entry provider.binary deeper so_far.met (get (codes "config") entry)) (λ own own_is.
    gave (with_kinds provider.binary (get (codes "kinds") entry)) (λ binary kinds_are.
    let its = new_is so_far.entries place.init told_name name new in
    record {
      given = record {
        home = refl;
        path = refl;
        label = refl;
        some = subst (λ n. 0 < length n) its.0 (some_name (get (codes "name") entry) told_name (value_ok (bad field.Name expect.Name) (name_at (codes "name") entry) told_name told));
        new = its.1;
        starts =
            still_starts provider.binary binary deeper so_far.met own.starts
            (runs_as_before provider.binary binary (get (codes "kinds") entry) kinds_are)
            (told_starts provider.binary deeper so_far.met (get (codes "config") entry) own own_is);
      };
    })))))))))))

pub head_is : (place : ListPlace) (deeper : Bool) (so_far : SoFar) (d : Data) (head : EntryHead) → head_of place deeper so_far d ≡ Ok head → IsHead place deeper so_far head
head_is place deeper so_far d head is = subst (λ r. IfOk r (IsHead place deeper so_far)) is (head_gives place deeper so_far d).given

-- ---- in parts

-- steps within a step, and what comes after them
then_same : {A B C E : Type 0} (r : Result A E) (f : A → Result B E) (g : B → Result C E) (h : A → Result C E) → ((x : A) → (f x >>= g) ≡ h x) → ((r >>= f) >>= g) ≡ (r >>= h)
then_same (Ok x) f g h same = same x
then_same (Err fault) f g h same = refl

same_after : {A B E : Type 0} (r : Result A E) (f g : A → Result B E) → ((x : A) → f x ≡ g x) → (r >>= f) ≡ (r >>= g)
same_after (Ok x) f g same = same x
same_after (Err fault) f g same = refl

-- an entry that is read in parts is the entry
pub parts_are : (place : ListPlace) (deeper : Bool) (so_far : SoFar) (d : Data) → head_in_parts place deeper so_far d ≡ head_of place deeper so_far d
parts_are place deeper so_far d =
    same_after (object_of d) _ _ (λ entry.
    then_same (value_or (bad field.Name expect.Name) (name_at (codes "name") entry)) _ _ _ (λ told_name.
    then_same (new_name so_far.entries place.init told_name) _ _ _ (λ name.
    then_same (word_of_entry name (get (codes "binary") entry)) _ _ _ (λ word.
    then_same (value_or (bad field.Quantum expect.Amount) (amount_at (codes "quantum") entry)) _ _ _ (λ ram.
    then_same (value_or (bad field.Caps expect.Caps) (whole_at (codes "caps") 0 4294967295 entry)) _ _ _ (λ caps.
    then_same (value_or (bad field.Provides (provides_expected word)) (provider_of word (get (codes "provides") entry))) _ _ _ (λ provider. refl)))))))
