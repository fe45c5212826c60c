-- What the walks share: the code that follows a part of a body, and the machine values of a block and of a lease.
use Rattle.std.proofs.Common.{◌≡◌, ℕ, zero, suc, ◌+◌, ◌-◌, ◌^◌, ◌<◌, ◌≤◌, List, [], ◌∷◌, ◌++◌, length, refl, sym, ◌∙◌, w64, arith}
use seplogic.Ra.Ura.{Ura}
use mir.Syntax.{Body, ty_int, w8}
use mir.Val.{Val, vint, vstruct, vcons, vnil, of_list}
use base.Logic.{ent, emp}
use base.Fml.{Fml, feq, froom, fsep}
use base.Fraction.{full_share}
use prog.Wp.{Env, Calls, Loops, Wp, after_seq, after_block}
use types.Logic.{Logic, sem}
use types.Kit.{Post, any_q, post, ‵, ◌$◌, ◌∵◌, !, qed, use1, use2, rewrite, fsplit, fjoin, feq_i, feq_l, done}
use denote.Steps.{nothing}
use denote.RattleType.{RattleType}
use denote.Array.{Array}
use denote.Builtin.{u8, unit, usize}
use denote.Memory.{part_at}
use denote.RawPtr.{Ptr, RawPtr, block_ptr, ptr_val}
use denote.RawPtr.Bytes.{bytes as row, bytes_apart, bytes_whole, bytes-room}
use denote.RawPtr.Room.{past_bytes, room_glue}
use denote.Shadow.{shadow, makes_shadow}
use denote.Signature.{Slot, plain}
use denote.Struct.Owning.{shape}
use denote.Struct.Struct.{Struct}
use Rattle.page_pool.specs.Ownership.{bytes_of, block_owns}
use Rattle.page_pool.specs.contracts.block.HostBlock as block

-- the k-th of a signature's parameters
abbrev pub slot_at : {n : ℕ} → ℕ → List (Slot n) → Slot n
slot_at k [] = plain (λ _. unit)
slot_at zero (s ∷ ss) = s
slot_at (suc k) (s ∷ ss) = slot_at k ss

module _ {M : Type 1} {𝓤 : Ura M} (𝓛 : Logic 𝓤) where
  open 𝓛 use {H}

  -- what holds after a statement where the body b follows it
  abbrev pub then_runs : Calls 𝓤 H → Loops 𝓤 H → Env 𝓤 H → Body → Post 𝓤 H → Post 𝓤 H
  then_runs C Λ E b q = any_q (after_seq 𝓤 H (Wp 𝓤 H C Λ E b (post 𝓤 H q)) (post 𝓤 H q))

  -- what holds at the end of a block
  abbrev pub out_of_block : Post 𝓤 H → Post 𝓤 H
  out_of_block q = any_q (after_block 𝓤 H (post 𝓤 H q))

-- a struct by its fields alone: what it owns doesn't read its name
abbrev plainly : List RattleType → RattleType
plainly Rs = Struct (record { name = []; args = []; types = []; fields = Rs })

-- the pointer, the length and the size of a block
abbrev pub Data : RattleType
Data = Struct (shape block.the_type)

-- a pointer, a length and a size, as `HostBlock` holds them
abbrev pub block_val : Ptr → ℕ → ℕ → Val
block_val p len size = vstruct (vcons (ptr_val p) (vcons (vint w64 len) (vcons (vint w64 size) vnil)))

abbrev pub block_own : Ptr → ℕ → ℕ → List Val → Fml
block_own p len size = (plainly (RawPtr ∷ usize ∷ usize ∷ [])).own_val (p, (len, (size, tt)))

-- what is owned of them tells their machine value, and is made of nothing
pub block_told : (p : Ptr) (len size : ℕ) (vs : List Val) → shadow (block_own p len size vs) → (vs ≡ block_val p len size ∷ []) × (len < 2 ^ 64) × (size < 2 ^ 64)
block_told p len size vs s = (s.1.0 ∙ (λ i. vstruct (of_list (s.1.1.0 i ++ (s.1.1.1.0.0 i ++ (s.1.1.1.1.0.0 i ++ [])))) ∷ []), s.1.1.1.0.1, s.1.1.1.1.0.1)

pub block_made : {M : Type 1} {𝓤 : Ura M} (𝓛 : Logic 𝓤) (p : Ptr) (len size : ℕ) → len < 2 ^ 64 → size < 2 ^ 64 → ent 𝓤 (emp 𝓤) (sem 𝓛 (block_own p len size (block_val p len size ∷ [])))
block_made 𝓛 p len size fits fits' = makes_shadow 𝓛 (block_own p len size (block_val p len size ∷ [])) (λ _. (tt, (tt, ((tt, tt), ((tt, tt), tt))))) ((ptr_val p ∷ [], (vint w64 len ∷ [], (vint w64 size ∷ [], tt))), (refl, (refl, ((refl, fits), ((refl, fits'), tt)))))

-- the same of a lease, which has no data
abbrev pub lease_val : Val
lease_val = vstruct (vcons (vstruct vnil) vnil)

abbrev pub lease_own : List Val → Fml
lease_own = (plainly (plainly [] ∷ [])).own_val (tt, tt)

pub lease_told : (vs : List Val) → shadow (lease_own vs) → vs ≡ lease_val ∷ []
lease_told vs s = s.1.0 ∙ (λ i. vstruct (of_list (s.1.1.0.1.0 i ++ [])) ∷ [])

pub lease_made : {M : Type 1} {𝓤 : Ura M} (𝓛 : Logic 𝓤) → ent 𝓤 (emp 𝓤) (sem 𝓛 (lease_own (lease_val ∷ [])))
lease_made 𝓛 = makes_shadow 𝓛 (lease_own (lease_val ∷ [])) (λ _. (tt, ((λ _. (tt, tt)), tt))) ((vstruct vnil ∷ [], tt), (refl, ((tt, (refl, tt)), tt)))

-- room for bytes is a block of which none is known
pub block_opened : {M : Type 1} {𝓤 : Ura M} (𝓛 : Logic 𝓤) (size b o : ℕ) → ent 𝓤 (sem 𝓛 (froom (bytes_of size) b o)) (sem 𝓛 (block_owns (block_ptr b o) 0 size []))
block_opened 𝓛 size b o =
    qed 𝓛 (‵ (froom (bytes_of size) b o) ∷ []) ∵
    rewrite ! 0 (λ (u : ℕ × ℕ). ‵ (froom (bytes_of u.0) b u.1)) (λ j. ((let e : size ≡ size - 0 = omega arith in e) j, (let e : o ≡ o + 0 = omega arith in e) j)) refl $
    nothing ! $ feq_i ! ℕ 0 0 refl $ fjoin ! $ use1 𝓛 (‵ (part_at (Array u8 0) full_share [] b o)) (bytes_whole 𝓛 full_share 0 [] b o) $ fjoin ! $ done !

-- the known bytes of a block and its room are room for all
pub block_room : {M : Type 1} {𝓤 : Ura M} (𝓛 : Logic 𝓤) (len size : ℕ) (bytes : List ℕ) (b o : ℕ) → len ≤ size
    → ent 𝓤 (sem 𝓛 (block_owns (block_ptr b o) len size bytes)) (sem 𝓛 (froom (bytes_of size) b o))
block_room 𝓛 len size bytes b o fits =
    qed 𝓛 (‵ (block_owns (block_ptr b o) len size bytes) ∷ []) ∵ fsplit ! $
    use1 𝓛 (‵ (fsep (feq ℕ (length bytes) len) (row full_share bytes b o))) (bytes_apart 𝓛 full_share len bytes b o) $
    fsplit ! $ feq_l ! (λ long. use1 𝓛 (‵ (froom (bytes_of (length bytes)) b o)) (bytes-room 𝓛 bytes b o) $
    rewrite ! 0 (λ (k : ℕ). ‵ (froom (bytes_of k) b o)) long refl $
    rewrite ! 1 (λ (k : ℕ). ‵ (froom (bytes_of (size - len)) b k)) (sym (past_bytes len o)) refl $
    use2 𝓛 (‵ (froom (bytes_of (len + (size - len))) b o)) (room_glue 𝓛 (ty_int w8) len (size - len) b o) $
    rewrite ! 0 (λ (k : ℕ). ‵ (froom (bytes_of k) b o)) (let e : len + (size - len) ≡ size = omega arith in e) refl $ done !)
