-- What selectors name where one session among them is replaced by another.
use Rattle.std.proofs.Common.{arith, ◌≡◌, ◌≢◌, ℕ, ◌==◌, Bool, true, false, cond, List, Some, map, refl, sym, ap, ◌∙◌, true≢false, find}
use Rattle.std.proofs.lemmas.Option.{none-some, same_Some}
use Rattle.std.specs.Prelude.{Option, None}
use Rattle.std.specs.Option.{option_map}
use Rattle.std.specs.FinMap.{get, insert, remove, entries}
use Rattle.own_model.proofs.EntryLemmas.{sized, sizes_alike, find-sized, found_in_map}
use Rattle.own_model.proofs.NatMapLemmas.{natmaps, same, get-insert_same, get-insert_other, alike_insert, apart_from_free, IsSome-at, IsSome-insert}
use Rattle.own_model.proofs.LentLemmas.{buffer_there}
use Rattle.own_model.proofs.NewSelector.{new_selector_is, new_selector_free, new_selector_positive, new_selector_least}
use Rattle.own_model.specs.NatMap.{NatMap}
use Rattle.own_model.specs.OwnState.{Object, NamedBuffer, is_buffer_of, named_buffer, buffer_of, new_selector}
use Rattle.own_model.specs.OwnState.Object.{OpenSession, Buffer}
use Rattle.own_model.specs.OwnStep.{selectors_lent}
use Rattle.own_model.specs.Session.{Session}

module _ (q : ℕ) (m : NatMap Object) (old new : Session) (there : get m q ≡ Some (OpenSession old)) where
  abbrev pub replaced : NatMap Object
  replaced = insert m q (OpenSession new)

  pub beside : (k : ℕ) → k ≢ q → get replaced k ≡ get m k
  beside k other = get-insert_other m q (OpenSession new) k other

  pub at_it : get replaced q ≡ Some (OpenSession new)
  at_it = get-insert_same m q (OpenSession new) q refl

  -- what tells no session from another tells the same of all
  pub alike : {Y : Type 0} (f : Option Object → Y) → f (Some (OpenSession new)) ≡ f (Some (OpenSession old)) → (k : ℕ) → f (get replaced k) ≡ f (get m k)
  alike f e k = alike_insert f m q (OpenSession new) (e ∙ ap f (sym there)) k

  -- ---- new selectors

  it_apart : q ≢ new_selector m
  it_apart = apart_from_free m (new_selector m) q (new_selector_free m) (IsSome-at m q (OpenSession old) there)

  pub new_apart : new_selector m ≢ q
  new_apart e = it_apart (sym e)

  pub new_same : new_selector replaced ≡ new_selector m
  new_same =
      new_selector_is replaced (new_selector m) (new_selector_positive m) (beside (new_selector m) new_apart ∙ new_selector_free m)
      (λ t positive below. IsSome-insert m q (OpenSession new) t (new_selector_least m t positive below))

  -- ---- what others become

  pub insert_beside : (k : ℕ) (object : Object) → k ≢ q → insert replaced k object ≡ insert (insert m k object) q (OpenSession new)
  insert_beside k object other = same _ _ (λ j. grind (arith, natmaps))

  pub remove_beside : (k : ℕ) → k ≢ q → remove replaced k ≡ insert (remove m k) q (OpenSession new)
  remove_beside k other = same _ _ (λ j. grind (arith, natmaps))

  pub remove_it : remove replaced q ≡ remove m q
  remove_it = same _ _ (λ j. grind (arith, natmaps))

  -- ---- buffers

  module _ (of : ℕ) where
    size : Object → ℕ
    size object = cond (is_buffer_of of (Some object)) 1 0

    is_one : (b : Bool) → (cond b 1 0 == 1) ≡ b
    is_one true = refl
    is_one false = refl

    abbrev is_its : ℕ × Object → Bool
    is_its e = is_buffer_of of (Some e.1)

    abbrev first : NatMap Object → Option (ℕ × Object)
    first x = find is_its (entries x)

    -- the first buffer stands under the same key
    keys_same : option_map (sized size) (first replaced) ≡ option_map (sized size) (first m)
    unfolding size
    keys_same =
        let tests : ◌≡◌ {A = ℕ × Object → Bool} (λ e. (sized size e).1 == 1) is_its = λ i e. is_one (is_its e) i in
        let through : (x : NatMap Object) → option_map (sized size) (find is_its (entries x)) ≡ find (λ (p : ℕ × ℕ). p.1 == 1) (map (sized size) (entries x)) =
        λ x. ap (λ test. option_map (sized size) (find test (entries x))) (sym tests) ∙ find-sized size (λ (p : ℕ × ℕ). p.1 == 1) (entries x) in
        through replaced ∙ ap (find (λ (p : ℕ × ℕ). p.1 == 1)) (sizes_alike size replaced m (alike (option_map size) refl)) ∙ sym (through m)

    -- with the same bytes
    named_same : (e f : ℕ × Object) → first replaced ≡ Some e → first m ≡ Some f → sized size e ≡ sized size f → named_buffer e ≡ named_buffer f
    named_same e f is was keys =
        let found = found_in_map is_its replaced e is in
        let before = found_in_map is_its m f was in
        let key : e.0 ≡ f.0 = ap (λ (p : ℕ × ℕ). p.0) keys in
        let other : e.0 ≢ q = λ at. true≢false (sym found.0 ∙ ap (is_buffer_of of) (sym found.1 ∙ ap (get replaced) at ∙ at_it)) in
        let object : e.1 ≡ f.1 = same_Some e.1 f.1 (sym found.1 ∙ beside e.0 other ∙ ap (get m) key ∙ before.1) in
        λ i. named_buffer (key i, object i)

    first_same : (a b : Option (ℕ × Object)) → first replaced ≡ a → first m ≡ b → option_map (sized size) a ≡ option_map (sized size) b → option_map named_buffer a ≡ option_map named_buffer b
    first_same None None is was keys = refl
    first_same None (Some f) is was keys = absurd (none-some (sized size f) keys)
    first_same (Some e) None is was keys = absurd (none-some (sized size e) (sym keys))
    first_same (Some e) (Some f) is was keys = ap (λ b. Some b) (named_same e f is was (same_Some (sized size e) (sized size f) keys))

    pub buffer_same : buffer_of of replaced ≡ buffer_of of m
    unfolding buffer_of
    buffer_same = first_same (first replaced) (first m) refl refl keys_same

  buffer_is_none : (of : ℕ) (bytes : List ℕ) → ¬ (Buffer of bytes ≡ OpenSession old)
  buffer_is_none of bytes e = cc

  -- no buffer is named by the session's selector
  pub apart_from_it : (of : ℕ) (b : NamedBuffer) → buffer_of of m ≡ Some b → b.selector ≢ q
  apart_from_it of b found at = buffer_is_none of b.bytes (same_Some (Buffer of b.bytes) (OpenSession old) (sym (buffer_there of m b found) ∙ ap (get m) at ∙ there))

  -- what a request makes of selectors beside the session
  pub lent_beside : (of : ℕ) (buffer : Option NamedBuffer) (bytes : Option (List ℕ)) → buffer_of of m ≡ buffer →
      selectors_lent of buffer bytes replaced ≡ insert (selectors_lent of buffer bytes m) q (OpenSession new)
  lent_beside of None None found = refl
  lent_beside of None (Some bytes) found = ap (λ k. insert replaced k (Buffer of bytes)) new_same ∙ insert_beside (new_selector m) (Buffer of bytes) new_apart
  lent_beside of (Some b) (Some bytes) found = insert_beside b.selector (Buffer of bytes) (apart_from_it of b found)
  lent_beside of (Some b) None found = remove_beside b.selector (apart_from_it of b found)

  -- a replacement once more
  pub insert_twice : (x : NatMap Object) (a b : Object) → insert (insert x q a) q b ≡ insert x q b
  insert_twice x a b = same _ _ (λ j. grind (arith, natmaps))
