-- What sessions lend, in a script's own state: only the bytes of the buffers that its selectors name are seen of it.
use Rattle.std.proofs.Common.{◌≡◌, ℕ, false, List, Option, Some, None, refl, sym, ap, ◌∙◌, subst}
use Rattle.std.proofs.lemmas.Option.{none-some, same_Some}
use Rattle.std.specs.FinMap.{get}
use Rattle.trade_base.specs.declared.id.DsId.{DsId}
use Rattle.trade_base.specs.declared.id.Selector.{Selector}
use Rattle.own_model.specs.Reserve.{no_reserve}
use Rattle.own_model.specs.NatMap.{NatMap}
use Rattle.own_model.specs.OwnHeap.{OwnHeap}
use Rattle.own_model.specs.OwnState.Object.{Buffer as ABuffer}
use Rattle.own_model.specs.Region.{Region}
use Rattle.own_model.proofs.NatMapLemmas.{picked_alike}
use Rattle.cap_space.specs.Space.{Space}
use Rattle.cap_space.specs.declared.cap.Cap.{Cap}
use Rattle.cap_space.specs.declared.cap.Cap.TheVariants.{Dataspace, RpcObject, Session, Buffer}
use Rattle.region_map.specs.Regions.{Regions}
use Rattle.dataspace_core.specs.Store.{Store, Part, part, account_of, Exists, space_at}
use Rattle.dataspace_core.proofs.PartLaws.{IsPaidBy, paid_in_part, part_of_payer}
use Rattle.pd_core.specs.Own.{Sessions, Lent, lent_in, object_of, regions_of, own_of}
use Rattle.pd_core.specs.Sound.{buffer_at, IsLawful, IsScript, AreOthers}

-- ---- the buffers that selectors name

-- a capability of a buffer is one
pub buffer_is : (o : Option Cap) (q key : ℕ) → buffer_at o ≡ Some (q, key) → (of : DsId) × (session : Selector) × (o ≡ Some (Buffer of session)) × (◌≡◌ {A = ℕ × ℕ} (session.0, of.0) (q, key))
buffer_is None q key h = absurd (none-some (q, key) h)
buffer_is (Some (Dataspace ds)) q key h = absurd (none-some (q, key) h)
buffer_is (Some RpcObject) q key h = absurd (none-some (q, key) h)
buffer_is (Some (Session server session)) q key h = absurd (none-some (q, key) h)
buffer_is (Some (Buffer of session)) q key h = (of, session, refl, same_Some _ _ h)

-- they hold the same bytes
abbrev pub LendAlike : Lent → Lent → NatMap Cap → Type 0
LendAlike L L' caps = (selector q key : ℕ) → buffer_at (get caps selector) ≡ Some (q, key) → L' key ≡ L key

-- so a capability's object is the same
pub object_lent : (L L' : Lent) (sessions : Sessions) (p : Part) (cap : Cap) → ((q key : ℕ) → buffer_at (Some cap) ≡ Some (q, key) → L' key ≡ L key) → object_of L' sessions p cap ≡ object_of L sessions p cap
object_lent L L' sessions p (Dataspace ds) alike = refl
object_lent L L' sessions p RpcObject alike = refl
object_lent L L' sessions p (Session server session) alike = refl
object_lent L L' sessions p (Buffer of session) alike = ap (λ bytes. Some (ABuffer session.0 bytes)) (alike session.0 of.0 refl)

module _ (L L' : Lent) (p : Part) (caps : NatMap Cap) (alike : LendAlike L L' caps) (user : NatMap Region) (heap : OwnHeap) (sliced : NatMap (List ℕ)) where
  -- and so is the own state
  pub own_lent : (sessions : Sessions) → own_of L' sessions p caps user heap sliced ≡ own_of L sessions p caps user heap sliced
  unfolding own_of
  own_lent sessions i = record {
    account = account_of p;
    reserve = no_reserve;
    selectors = picked_alike (object_of L' sessions p) (object_of L sessions p) caps
        (λ q cap there. object_lent L L' sessions p cap (λ s key is. alike q s key (ap buffer_at there ∙ is))) i;
    regions = regions_of caps user;
    heap = heap;
    sliced = sliced;
    gone = false;
  }

-- and a script is one
pub script_lent : {L L' : Lent} {p : Part} {space : Space} {regions : Regions} {heap : OwnHeap} {sliced : NatMap (List ℕ)} → LendAlike L L' space.caps →
    IsScript L p space regions heap sliced → IsScript L' p space regions heap sliced
script_lent {L} {L'} {p} {space} {regions} {heap} {sliced} alike script = record {
  named = script.named;
  paid = script.paid;
  ram = script.ram;
  attached = script.attached;
  most = script.most;
  blocks = script.blocks;
  lawful = λ sessions ready. subst IsLawful (sym (own_lent L L' p space.caps alike regions.user heap sliced sessions)) (script.lawful sessions ready);
}

-- ---- who pays for it

-- a dataspace stays what it is where who pays for it keeps its part
pub paid_still : (store store' : Store) (key : ℕ) → Exists store key → part (space_at store key).payer store' ≡ part (space_at store key).payer store →
    IsPaidBy (space_at store key).payer key (space_at store key).bytes store'
paid_still store store' key there same =
    paid_in_part (space_at store key).payer key (space_at store key).bytes store' (ap (λ (p : Part). get p.spaces key) same ∙ part_of_payer store key there)

-- who pays for the buffers that selectors name keeps its part
abbrev pub LendersStay : Store → Store → NatMap Cap → Type 0
LendersStay store store' caps = (s q key : ℕ) → buffer_at (get caps s) ≡ Some (q, key) → part (space_at store key).payer store' ≡ part (space_at store key).payer store

module _ (account : ℕ) (store store' : Store) (caps : NatMap Cap) (lent : AreOthers account store caps) (stay : LendersStay store store' caps) where
  -- so another pays for them still
  pub others_still : AreOthers account store' caps
  others_still s q key names =
      let its = lent s q key names in
      let paid = paid_still store store' key its.there (stay s q key names) in
      record { there = paid.exists; apart = λ e. its.apart (sym paid.payer ∙ e) }

  -- and they hold the same bytes
  pub lent_still : LendAlike (lent_in store) (lent_in store') caps
  lent_still s q key names = (paid_still store store' key (lent s q key names).there (stay s q key names)).bytes_are
