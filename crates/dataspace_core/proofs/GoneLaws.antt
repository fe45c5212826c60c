-- Laws for callers: a dataspace of an account is detached, and goes: what is left of its account's share, and that all others stay.
use Rattle.std.proofs.Common.{◌≡◌, ◌≢◌, ℕ, ◌+◌, ◌*◌, List, length, Some, is_some, refl, sym, ap, ◌∙◌, rules}
use Rattle.std.proofs.lemmas.Option.{none-some, same_Some}
use Rattle.std.specs.Option.{option_map}
use Rattle.std.specs.FinMap.{get, remove, len}
use Rattle.own_model.specs.Account.{Account, credited}
use Rattle.own_model.specs.HeapWindow.{heap_low, heap_high}
use Rattle.own_model.specs.NatMap.{NatMap}
use Rattle.own_model.specs.Region.{Region}
use Rattle.own_model.proofs.RegionApartLemmas.{LieApart-fewer}
use Rattle.own_model.proofs.NatMapLemmas.{before_remove, get-remove_same, get-remove_other, value_at}
use Rattle.own_model.proofs.Totals.{len-remove_at}
use Rattle.dataspace_core.specs.Store.{Store, Part, part, account_in, space_at, IsOpenIn, PartBecomes, part_without_space, ram_limits_in, OtherSpacesStay}
use Rattle.dataspace_core.specs.Share.{Share, share, share_in, IsWindowOf, KeepsShares}
use Rattle.dataspace_core.proofs.PartLaws.{IsPaidBy, paid_in_part, becomes_paid, account_of-part}
use Rattle.dataspace_core.proofs.ShareLaws.{share_detached, share_detached_other}
use Rattle.dataspace_core.proofs.WindowLaws.{in_memory, in_no_other, shown_after, account_after}
use Rattle.dataspace_core.proofs.ShareLaws.{in_share}

module _ (account start ds size : ℕ) (old new : Store) (pages most : ℕ) (heap : NatMap Region) (tags : NatMap ℕ) (opens : IsOpenIn old account) (window : IsWindowOf old pages most heap)
    (shown_there : get (share account old heap tags).heap start ≡ Some (record { of = ds; pages = size })) where
  abbrev pub region : Region
  region = record { of = ds; pages = size }

  abbrev S : Share
  S = share account old heap tags

  -- the map has the region
  pub in_map : get heap start ≡ Some region
  in_map = (in_share (part account old) heap tags start region shown_there).0

  -- it shows the whole of the dataspace
  pub whole : (bytes : List ℕ) × (get (part account old).spaces ds ≡ Some bytes) × (length bytes ≡ size * 4096)
  whole =
      let has = value_at (part account old).spaces ds (in_share (part account old) heap tags start region shown_there).1 in
      let shown = window.shown_whole start region in_map in
      let there = in_memory account ds has.0 old has.1 in
      let same = same_Some there.0 shown.space (sym there.1 ∙ shown.there) in
      (has.0, has.1, ap length (sym there.3) ∙ ap (λ s. length s.bytes) same ∙ shown.whole)

  pub gone_paid : IsPaidBy account ds whole.0 old
  gone_paid = paid_in_part account ds whole.0 old whole.1

  -- no other region shows it
  pub once_shown : (s : ℕ) (r : Region) → get heap s ≡ Some r → r.of ≡ ds → s ≡ start
  once_shown s r h e = window.once s start r region h in_map e

  module _ (freed : PartBecomes (space_at old ds).payer (part_without_space (part (space_at old ds).payer old) ds) old new) where
    pub gone_becomes : PartBecomes account (part_without_space (part account old) ds) old new
    gone_becomes = becomes_paid (λ p. part_without_space p ds) gone_paid freed

    -- the account's other dataspaces stay
    pub gone_others : OtherSpacesStay account ds old new
    gone_others k apart = ap (λ (p : Part). get p.spaces k) gone_becomes.own ∙ get-remove_other (part account old).spaces ds k apart

    -- they are one less
    pub gone_count : len (part account new).spaces + 1 ≡ len (part account old).spaces
    gone_count = ap (λ (p : Part). len p.spaces + 1) gone_becomes.own ∙ len-remove_at (part account old).spaces ds whole.0 whole.1

    -- it is credited
    pub gone_charge : (part account new).account ≡ Some (credited (account_in old account) (size * 4096) 1)
    gone_charge = search (rules, gone_becomes, whole, account_of-part)

    -- the share is without the region
    pub gone_share : share account new (remove heap start) (remove tags start) ≡ record { part = part account new; heap = remove S.heap start; tags = remove S.tags start }
    unfolding share_in
    gone_share = share_detached heap tags start region in_map (part account old) (part account new) (λ k apart. ap is_some (gone_others k apart)) once_shown

    pub gone_shares : KeepsShares account old new heap tags (remove heap start) (remove tags start)
    gone_shares = record {
      shares = λ other apart.
          ap (λ p. share_in p (remove heap start) (remove tags start)) (gone_becomes.others other apart)
          ∙ share_detached_other heap tags start region in_map (part other old) (in_no_other account other ds whole.0 old whole.1 apart);
      root = gone_becomes.root;
      parents = gone_becomes.parents;
      room = gone_becomes.room;
    }

    gone_limits : (IsOpenIn new account) × (ram_limits_in new ≡ ram_limits_in old)
    gone_limits = account_after account (part_without_space (part account old) ds) old new gone_becomes _ refl (ap (λ (a : Account). a.ram_limit) (account_of-part account old)) opens

    pub gone_open : IsOpenIn new account
    gone_open = gone_limits.0

    -- a region that is left is of another dataspace
    pub left_apart : (s : ℕ) (r : Region) → get (remove heap start) s ≡ Some r → r.of ≢ ds
    left_apart s r h e = none-some r (sym (get-remove_same heap start s (once_shown s r (before_remove heap start s r h) e)) ∙ h)

    -- the window is still one of the memory
    pub gone_window : IsWindowOf new pages most (remove heap start)
    gone_window = record {
      size = window.size ∙ sym gone_limits.1;
      few = window.few;
      lie = LieApart-fewer heap_low (heap_high pages) heap (remove heap start) (before_remove heap start) window.lie;
      most_is = window.most_is;
      shown_whole = λ s r h.
          shown_after account (part_without_space (part account old) ds) old new gone_becomes r
          (λ bytes there. ap (option_map length) (get-remove_other (part account old).spaces ds r.of (left_apart s r h)) ∙ ap (option_map length) there)
          (window.shown_whole s r (before_remove heap start s r h));
      once = λ s t r q h g. window.once s t r q (before_remove heap start s r h) (before_remove heap start t q g);
    }
