-- Laws for callers: the shares of a memory and a heap window when a region is attached, or goes.
use Rattle.std.proofs.Common.{◌≡◌, ◌≢◌, ℕ, true, false, cond, eqb, ◌||◌, Bool, List, length, Some, IsSome, is_some, refl, sym, ap, ◌∙◌, ⊎_elim, arith, rules}
use Rattle.std.proofs.lemmas.Bool.{cases_eq}
use Rattle.std.proofs.lemmas.Bool.Decides.{nat_tests}
use Rattle.std.proofs.lemmas.Option.{none-some, same_Some}
use Rattle.std.specs.Prelude.{Option, None}
use Rattle.std.specs.Option.{option_map, option_and_then}
use Rattle.std.specs.FinMap.{get, insert, remove, get-retain_keys, nat_cmp-IsAntisymmetric}
use Rattle.own_model.specs.NatMap.{NatMap, picked}
use Rattle.own_model.specs.Region.{Region}
use Rattle.own_model.proofs.NatMapLemmas.{same, natmaps, get-picked, and_then_from, and_then_alike, get-remove_other, picked-insert_hidden, picked-insert_some, picked-remove, picked-remove_hidden}
use Rattle.dataspace_core.specs.Store.{Part}
use Rattle.dataspace_core.specs.Share.{Share, shown, share_in, tags_of, IsShownByNone}

-- the number that is kept with a region, if it is one of these
pub get-tags_of : (heap : NatMap Region) (tags : NatMap ℕ) (q : ℕ) → get (tags_of heap tags) q ≡ cond (is_some (get heap q)) (get tags q) None
unfolding tags_of
get-tags_of heap tags q = get-retain_keys tags (λ start. is_some (get heap start)) q (λ x e. ap (λ k. is_some (get heap k)) (sym (nat_cmp-IsAntisymmetric q x e)))

-- shares are equal where their fields are
same_share : (part : Part) (heap kept : NatMap Region) (tags numbers : NatMap ℕ) → heap ≡ kept → tags ≡ numbers → ◌≡◌ {A = Share} (record { part = part; heap = heap; tags = tags }) (record { part = part; heap = kept; tags = numbers })
same_share part heap kept tags numbers p q = λ i. record { part = part; heap = p i; tags = q i }

-- a part has the dataspaces of another one, and one more
abbrev pub HasOneMore : Part → Part → ℕ → Type 0
HasOneMore p q ds = (k : ℕ) → is_some (get q.spaces k) ≡ (eqb k ds || is_some (get p.spaces k))

-- what two maps of dataspaces show of a region that may be there is the same where both have its dataspace or neither
pub each_shown : (p q : NatMap (List ℕ)) (o : Option Region) → ((r : Region) → o ≡ Some r → is_some (get q r.of) ≡ is_some (get p r.of)) → option_and_then (shown q) o ≡ option_and_then (shown p) o
each_shown p q o alike = and_then_alike (shown q) (shown p) o (λ r there. ap (λ b. cond b (Some r) None) (alike r there))

-- options of the same length are both there or not
pub some_alike : (o p : Option (List ℕ)) → option_map length o ≡ option_map length p → is_some o ≡ is_some p
some_alike None None e = refl
some_alike None (Some x) e = absurd (none-some (length x) e)
some_alike (Some x) None e = absurd (none-some (length x) (sym e))
some_alike (Some x) (Some y) e = refl

-- the regions that parts with the same dataspaces show are the same
pub shown_alike : (p q : NatMap (List ℕ)) (heap : NatMap Region) → ((k : ℕ) → is_some (get q k) ≡ is_some (get p k)) → picked (shown q) heap ≡ picked (shown p) heap
shown_alike p q heap alike = same _ _ (λ s. get-picked (shown q) heap s ∙ each_shown p q (get heap s) (λ r there. alike r.of) ∙ sym (get-picked (shown p) heap s))

-- parts that both have the dataspace of each region, or neither, show the same of a map
pub share_alike : (p q : Part) (heap : NatMap Region) (tags : NatMap ℕ) → ((s : ℕ) (r : Region) → get heap s ≡ Some r → is_some (get q.spaces r.of) ≡ is_some (get p.spaces r.of)) → share_in q heap tags ≡ record { part = q; heap = (share_in p heap tags).heap; tags = (share_in p heap tags).tags }
unfolding share_in
share_alike p q heap tags alike =
    let regions : picked (shown q.spaces) heap ≡ picked (shown p.spaces) heap = same _ _ (λ s. get-picked (shown q.spaces) heap s ∙ each_shown p.spaces q.spaces (get heap s) (λ r there. alike s r there) ∙ sym (get-picked (shown p.spaces) heap s)) in
    same_share q _ _ _ _ regions (ap (λ m. tags_of m tags) regions)

-- what is shown at a place where nothing is
pub nothing_shown : (spaces : NatMap (List ℕ)) (heap : NatMap Region) (start : ℕ) → get heap start ≡ None → get (picked (shown spaces) heap) start ≡ None
nothing_shown spaces heap start free = get-picked (shown spaces) heap start ∙ ap (option_and_then (shown spaces)) free

-- what a test lets through was there
pub under_test : {X : Type 0} (b : Bool) (o : Option X) (x : X) → cond b o None ≡ Some x → (b ≡ true) × (o ≡ Some x)
under_test true o x h = (refl, h)
under_test false o x h = absurd (none-some x h)

-- a region that a part shows is one of the map, of a dataspace of the part
pub in_share : (part : Part) (heap : NatMap Region) (tags : NatMap ℕ) (start : ℕ) (r : Region) → get (share_in part heap tags).heap start ≡ Some r → (get heap start ≡ Some r) × IsSome (get part.spaces r.of)
unfolding share_in
in_share part heap tags start r h = search (rules, and_then_from, get-picked, under_test, same_Some)

-- the number that a share keeps with a region is the map's
pub in_tags : (part : Part) (heap : NatMap Region) (tags : NatMap ℕ) (start k : ℕ) → get (share_in part heap tags).tags start ≡ Some k → get tags start ≡ Some k
unfolding share_in
in_tags part heap tags start k h = (under_test _ (get tags start) k (sym (get-tags_of (picked (shown part.spaces) heap) tags start) ∙ h)).1

module _ (heap : NatMap Region) (tags : NatMap ℕ) (start : ℕ) (region : Region) (tag : ℕ) (free : get heap start ≡ None) where
  -- a part that hasn't the dataspace shows as much as before
  pub share_attached_other : (p : Part) → get p.spaces region.of ≡ None → share_in p (insert heap start region) (insert tags start tag) ≡ share_in p heap tags
  unfolding share_in
  share_attached_other p none =
      let hidden : shown p.spaces region ≡ None = ap (λ o. cond (is_some o) (Some region) None) none in
      let regions = picked-insert_hidden (shown p.spaces) heap start region hidden (nothing_shown p.spaces heap start free) in
      same_share p _ _ _ _ regions (rw regions (same _ _ (λ s.
      get-tags_of (picked (shown p.spaces) heap) (insert tags start tag) s
      ∙ grind (arith, natmaps, nothing_shown p.spaces heap start free)
      ∙ sym (get-tags_of (picked (shown p.spaces) heap) tags s))))

  -- the part that has it, and whose dataspace no other region shows, shows one region more
  pub share_attached : (p q : Part) → HasOneMore p q region.of → IsShownByNone heap region.of → share_in q (insert heap start region) (insert tags start tag) ≡ record { part = q; heap = insert (picked (shown p.spaces) heap) start region; tags = insert (tags_of (picked (shown p.spaces) heap) tags) start tag }
  unfolding share_in
  share_attached p q more apart =
      let h = more region.of in
      let has : is_some (get q.spaces region.of) ≡ true = grind (arith, nat_tests) in
      let seen : shown q.spaces region ≡ Some region = ap (λ b. cond b (Some region) None) has in
      let before : picked (shown q.spaces) heap ≡ picked (shown p.spaces) heap = same _ _ (λ s. get-picked (shown q.spaces) heap s ∙ each_shown p.spaces q.spaces (get heap s) (λ r there. let other = apart s r there in let e = more r.of in grind (arith, nat_tests)) ∙ sym (get-picked (shown p.spaces) heap s)) in
      let regions : picked (shown q.spaces) (insert heap start region) ≡ insert (picked (shown p.spaces) heap) start region = picked-insert_some (shown q.spaces) heap start region region seen ∙ ap (λ m. insert m start region) before in
      same_share q _ _ _ _ regions (rw regions (same _ _ (λ s.
      get-tags_of (insert (picked (shown p.spaces) heap) start region) (insert tags start tag) s
      ∙ grind (arith, natmaps, get-tags_of (picked (shown p.spaces) heap) tags s))))

module _ (heap : NatMap Region) (tags : NatMap ℕ) (start : ℕ) (region : Region) (there : get heap start ≡ Some region) where
  -- a part that hasn't the dataspace of the region that goes shows as much as before
  pub share_detached_other : (p : Part) → get p.spaces region.of ≡ None → share_in p (remove heap start) (remove tags start) ≡ share_in p heap tags
  unfolding share_in
  share_detached_other p none =
      let hidden : get (picked (shown p.spaces) heap) start ≡ None = get-picked (shown p.spaces) heap start ∙ ap (option_and_then (shown p.spaces)) there ∙ ap (λ o. cond (is_some o) (Some region) None) none in
      let regions = picked-remove_hidden (shown p.spaces) heap start hidden in
      same_share p _ _ _ _ regions (rw regions (same _ _ (λ s.
      get-tags_of (picked (shown p.spaces) heap) (remove tags start) s
      ∙ grind (arith, natmaps, hidden)
      ∙ sym (get-tags_of (picked (shown p.spaces) heap) tags s))))

  -- the part that loses it, and shows it at no other place, shows one region less
  pub share_detached : (p q : Part) → ((k : ℕ) → k ≢ region.of → is_some (get q.spaces k) ≡ is_some (get p.spaces k)) → ((s : ℕ) (r : Region) → get heap s ≡ Some r → r.of ≡ region.of → s ≡ start) → share_in q (remove heap start) (remove tags start) ≡ record { part = q; heap = remove (picked (shown p.spaces) heap) start; tags = remove (tags_of (picked (shown p.spaces) heap) tags) start }
  unfolding share_in
  share_detached p q less once =
      let regions : picked (shown q.spaces) (remove heap start) ≡ remove (picked (shown p.spaces) heap) start = picked-remove (shown q.spaces) heap start ∙ same _ _ (λ s. ⊎_elim
      (λ (same_place : s ≡ start). grind (arith, natmaps))
      (λ (other : s ≢ start).
      get-remove_other (picked (shown q.spaces) heap) start s other
      ∙ get-picked (shown q.spaces) heap s
      ∙ each_shown p.spaces q.spaces (get heap s) (λ r here. less r.of (λ e. other (once s r here e)))
      ∙ sym (get-picked (shown p.spaces) heap s)
      ∙ sym (get-remove_other (picked (shown p.spaces) heap) start s other))
      (cases_eq s start)) in
      same_share q _ _ _ _ regions (rw regions (same _ _ (λ s.
      get-tags_of (remove (picked (shown p.spaces) heap) start) (remove tags start) s
      ∙ grind (arith, natmaps, get-tags_of (picked (shown p.spaces) heap) tags s))))
