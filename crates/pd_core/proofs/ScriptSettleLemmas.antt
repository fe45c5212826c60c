-- What a call makes of a script: the own state that the model tells, a sound script, and what it leaves.
use Rattle.std.proofs.Common.{◌≡◌, ℕ, List, [], Some, refl, sym, subst}
use Rattle.std.specs.FinMap.{get}
use Rattle.own_model.specs.NatMap.{NatMap, total}
use Rattle.own_model.specs.Call.{Call}
use Rattle.own_model.specs.OwnHeap.{OwnHeap}
use Rattle.own_model.specs.OwnStep.{Outcome, script_step}
use Rattle.own_model.specs.Region.{Region}
use Rattle.own_model.specs.Reply.{Reply}
use Rattle.cap_space.specs.Space.{Space}
use Rattle.region_map.specs.Regions.{Regions}
use Rattle.dataspace_core.specs.Store.{Part, account_of}
use Rattle.sliced_heap.specs.Theorems.{KeepsHeapWindow}
use Rattle.pd_core.specs.Own.{Sessions, HasSessions, own_of, Lent}
use Rattle.pd_core.specs.Sound.{session_weight, session_at, buffer_at, IsScript}

-- what a call leaves to the heaps: the heap window, and what their dataspaces hold
pub record Spares (p p' : Part) (regions regions' : Regions) : Type 0 where
  pub window : KeepsHeapWindow regions regions'
  pub bytes : (start : ℕ) (region : Region) → get regions.heap start ≡ Some region → get p'.spaces region.of ≡ get p.spaces region.of

-- what a call leaves of the limits, of the sessions and of their buffers
pub record Leaves (p p' : Part) (space space' : Space) : Type 0 where
  pub ram_limit : (account_of p').ram_limit ≡ (account_of p).ram_limit
  pub caps_limit : (account_of p').caps_limit ≡ (account_of p).caps_limit
  pub places : space'.places ≡ space.places
  pub sessions : (q : ℕ) → session_at (get space'.caps q) ≡ session_at (get space.caps q)
  pub buffers : (q : ℕ) → buffer_at (get space'.caps q) ≡ buffer_at (get space.caps q)
  pub session_count : total session_weight space'.caps ≡ total session_weight space.caps

-- a call answers this and makes the own state of this part and these tables of what it was, whatever the sessions are
abbrev pub DoesOwn : Lent → Call → Part → Space → Regions → OwnHeap → NatMap (List ℕ) → Reply → Part → Space → Regions → OwnHeap → NatMap (List ℕ) → Type 0
DoesOwn L call p space regions heap sliced reply p' space' regions' heap' sliced' =
    (sessions : Sessions) → HasSessions sessions space.caps →
    ◌≡◌ {A = Outcome} (record { reply = reply; lines = []; next = own_of L sessions p' space'.caps regions'.user heap' sliced' }) (script_step call (own_of L sessions p space.caps regions.user heap sliced))

-- what a call makes of a script's part, capabilities, regions and heaps: the model's outcome, and a sound script
pub record Makes (L : Lent) (call : Call) (p : Part) (space : Space) (regions : Regions) (heap : OwnHeap) (sliced : NatMap (List ℕ)) (reply : Reply) (p' : Part) (space' : Space) (regions' : Regions) (heap' : OwnHeap) (sliced' : NatMap (List ℕ)) : Type 0 where
  pub outcome : DoesOwn L call p space regions heap sliced reply p' space' regions' heap' sliced'
  pub script : IsScript L p' space' regions' heap' sliced'
  pub leaves : Leaves p p' space space'

-- the same of a call that leaves the heaps
pub record Settles (L : Lent) (call : Call) (p : Part) (space : Space) (regions : Regions) (heap : OwnHeap) (sliced : NatMap (List ℕ)) (reply : Reply) (p' : Part) (space' : Space) (regions' : Regions) : Type 0 where
  pub makes : Makes L call p space regions heap sliced reply p' space' regions' heap sliced
  pub spares : Spares p p' regions regions'

-- the same of what they are equal to
pub settled : {L : Lent} {call : Call} {p q p' : Part} {space t space' : Space} {regions r regions' : Regions} {heap : OwnHeap} {sliced : NatMap (List ℕ)} {reply : Reply} → q ≡ p' → t ≡ space' → r ≡ regions' →
    Settles L call p space regions heap sliced reply p' space' regions' → Settles L call p space regions heap sliced reply q t r
settled {L} {call} {p} {q} {p'} {space} {t} {space'} {regions} {r} {heap = heap} {sliced} {reply} part caps map done =
    subst (λ x. Settles L call p space regions heap sliced reply x t r) (sym part)
    (subst (λ x. Settles L call p space regions heap sliced reply p' x r) (sym caps) (subst (λ x. Settles L call p space regions heap sliced reply p' space' x) (sym map) done))

-- a map that stays
pub same_window : {regions : Regions} → KeepsHeapWindow regions regions
same_window = record { heap = refl; tags = refl; most = refl; pages = refl }
