-- `bytes_mut` lends all that lies in the block, and the block has what is written.
use Rattle.std.proofs.Common.{◌≡◌, ℕ, ◌-◌, ◌*◌, ◌<◌, ◌^◌, List, [], ◌∷◌, length, MutBor, sym, refl, ap, ◌∙◌, arith}
use mir.Syntax.{Fn, named}
use mir.Val.{Val, vptr}
use base.Fraction.{full_share}
use base.Logic.{SProp, ent, sep, emp, never, id⊢}
use base.Fml.{Lft, GName, Fml, ftrue, feq, fsep, flft}
use types.Logic.{Logic, sem}
use types.Kit.{‵, raw, ◌⊛◌, some, later, at_ret, ◌$◌, ◌∵◌, !, qed, by, move, keep, use0, use1, split, split3, join, pick, await, group, rewrite, fsplit, fsplit3, fjoin, fpack, feq_i, feq_l, done}
use types.Run.{stop, fld, load, of_opd, no_more, and_then, first, blocks, exec, returns, enter}
use types.ByLocal.{alloc_all, pass_all, free_all, look_at, get, through, sets, sets_last, env}
use types.Part.{agg, sub, whole, look_in}
use types.SemTy.{cells}
use seplogic.Ra.Ura.{Ura}
use contract.Running.{tables}
use contract.Monad.{fact, fact_i}
use denote.Array.{Array}
use denote.Builtin.{u8}
use denote.Exit.{no}
use denote.Follow.{follows}
use denote.FollowSlice.{lends_Elements}
use denote.Index.{row, whole_in, whole_out}
use denote.Laws.{Is, shows}
use denote.Memory.{mem, cell_at, part_of, part_at}
use denote.RattleType.{RattleType, owns}
use denote.RawPtr.{Ptr, block_ptr, in_a_block, lies_at, room_for, ◌+ₚ◌}
use denote.RawPtr.Bytes.{bytes_apart, bytes_whole}
use denote.Ref.{mut_vals, mut_Tells}
use denote.Signature.{mut_ref_to, types_at, plain}
use denote.Slice.{MutSlice, slice_val}
use denote.Steps.{nothing, opens, peeks}
use denote.Triple.Walked.{Stays, stay_dropped, walk_of, Goes-spent_ref}
use Rattle.core.proofs.alloc.Shapes.{after}
use Rattle.std.proofs.raw_atomic.Walks.{proved, leaves}
use Rattle.page_pool.proofs.Walks.{Data, block_val, block_own, block_told}
use Rattle.page_pool.specs.Lends.{with_all}
use Rattle.page_pool.specs.Ownership.{bytes_of}
use Rattle.page_pool.specs.declared.block.HostBlock.{HostBlock}
use Rattle.page_pool.specs.contracts.block.HostBlock as block
use Rattle.page_pool.specs.contracts.block.HostBlock.bytes_mut.{ended, clauses}
use Rattle.page_pool.specs.contracts.block.HostBlock.bytes_mut.Key.{name as #self}
use Rattle.page_pool.proofs.block.HostBlock.bytes_mut.Statement.{statement}
use Rattle.page_pool.proofs.block.HostBlock.bytes_mut.Code as code

module _ {M : Type 1} {𝓤 : Ura M} (𝓛 : Logic 𝓤) (d : HostBlock) (rb ro b o : ℕ) where
  -- the struct itself and its room, while its bytes are lent
  abbrev Rest : Fml
  Rest = fsep (room_for (bytes_of (d.size - d.len)) (d.ptr +ₚ d.len))
      (fsep (block_own d.ptr d.len d.size (block_val d.ptr d.len d.size ∷ [])) (cell_at full_share block.the_row.mir (block_val d.ptr d.len d.size ∷ []) rb ro))

  back : d.ptr ≡ block_ptr b o → length d.bytes ≡ d.len → (ws : List ℕ) → length ws ≡ length d.bytes
      → ent 𝓤 (sep 𝓤 (sem 𝓛 (cells (mem u8) ws b o)) (sem 𝓛 Rest)) (sem 𝓛 ((mem block.the_row).own_at (with_all d ws) rb ro))
  unfolding part_of
  back place long ws same =
      qed 𝓛 (‵ (cells (mem u8) ws b o) ∷ ‵ Rest ∷ []) ∵ use1 𝓛 (‵ (row u8 full_share ws b o)) (whole_out 𝓛 u8 ws b o) $
      feq_i ! ℕ (length ws) d.len (same ∙ long) $ fjoin ! $ use1 𝓛 (‵ (part_at (Array u8 d.len) full_share ws b o)) (bytes_whole 𝓛 full_share d.len ws b o) $
      rewrite ! 0 (λ (p : Ptr). ‵ (lies_at (Array u8 d.len) full_share p ws)) (sym place) refl $
      move ! (1 ∷ []) $ fsplit ! $ move ! (1 ∷ []) $ fsplit ! $ move ! (3 ∷ 2 ∷ []) $ fjoin ! $ move ! (1 ∷ 0 ∷ []) $ fjoin ! $ move ! (1 ∷ 0 ∷ []) $ fjoin ! $
      fpack ! (List Val) (λ us. fsep (cell_at full_share block.the_row.mir us rb ro) (block.the_row.own_val (with_all d ws) us)) (block_val d.ptr d.len d.size ∷ []) $ done !

pub bytes_mut_spec : {M : Type 1} → statement M
bytes_mut_spec 𝓤 𝓛 𝓜 𝓡 wired =
    let H = 𝓛.H in
    let 𝓣 = tables 𝓤 H 𝓜 𝓡 𝓡.env in
    let T = ended in
    let c = clauses 𝓛 𝓜.mem 𝓡.returns in
    let fn : Fn = code.function in
    let R : RattleType = block.the_row in
    let stays : Stays T.signature.params T.kept = (stay_dropped (mut_ref_to (0 ∷ []) tt (plain (λ _. R))) no, tt) in
    proved 𝓛 T stays c 𝓜 𝓡 (Goes-spent_ref 𝓛 1 (0 ∷ []) tt (plain (λ _. R)), tt) #self fn (code.unfolded 𝓤 H 𝓜 𝓡 wired)
    (λ κs. (mut_vals, tt)) (λ κs. (mut_Tells (named 0) κs.0 R, tt)) (λ κs qs bounds a gh are.
    let rb = a.0.ref_ptr.0 in let ro = a.0.ref_ptr.1 in let γ : GName = a.0.ghost_name in let κ : Lft = κs.0 in let d : HostBlock = a.0.now in
    let p : Ptr = d.ptr in let n = d.len in let size = d.size in let bytes : List ℕ = d.bytes in
    let y : (walk_of 𝓛 T stays c).Ghost = ((κs, qs, bounds, a, (vptr rb ro ∷ [], tt)), gh) in
    let Post : Val → SProp 𝓤 = (walk_of 𝓛 T stays c).post y in
    qed 𝓛 (((‵ (flft κ qs.0) ⊛ ‵ ftrue) ⊛ ‵ (owns (types_at T.signature.params κs) a y.0.4)) ∷ raw ((c κs a).requires gh) ∷ []) ∵
    split ! $ split ! $ move ! (2 ∷ []) $ fsplit ! $ fsplit3 ! $ keep ! (1 ∷ 2 ∷ 4 ∷ []) $
    enter ! 𝓣.C 𝓣.Λ fn (vptr rb ro ∷ []) Post $ alloc_all ! (λ l. pass_all ! refl ((tt, tt), tt) $ let En = env fn.locals l in
    opens ! tt R {h = d} rb ro (λ vs. move ! (1 ∷ []) $ fsplit ! $ peeks ! Data (Is Data) (shows 𝓛 Data) (p, (n, (size, tt))) vs (λ so.
    let told = block_told p n size vs so in
    let fits = told.1 in
    move ! (1 ∷ []) $ fsplit ! $ move ! (0 ∷ 2 ∷ 3 ∷ 4 ∷ 5 ∷ 6 ∷ 1 ∷ []) $ in_a_block ! p (λ r. lies_at (Array u8 n) full_share r bytes) (id⊢ 𝓤 (never 𝓤)) (λ b o place.
    use1 𝓛 (‵ (fsep (feq ℕ (length bytes) n) (row u8 full_share bytes b o))) (bytes_apart 𝓛 full_share n bytes b o) $ fsplit ! $ feq_l ! (λ long.
    use1 𝓛 (‵ (cells (mem u8) bytes b o)) (whole_in 𝓛 u8 bytes b o) $
    -- [the bytes; the data; its cell; the open borrow, in three entries; the room]
    let is : vs ≡ block_val (block_ptr b o) n size ∷ [] = told.0 ∙ ap (λ (r : Ptr). block_val r n size ∷ []) place in
    rewrite ! 1 (λ (ws : List Val). ‵ (Data.own_val (p, (n, (size, tt))) ws)) told.0 refl $
    rewrite ! 2 (λ (ws : List Val). ‵ (cell_at full_share R.mir ws rb ro)) is refl $ first ! $ blocks ! $
    sets ! (of_opd ! (load ! (through ! refl (fld ! refl (stop !))) (look_in ! 2 (sub ! 0 refl (whole !))))) refl (tt, tt) $
    sets ! (of_opd ! (load ! (through ! refl (fld ! refl (stop !))) (look_in ! 2 (sub ! 1 refl (whole !))))) refl (tt, record { fits = fits }) $
    sets_last ! (agg ! (and_then ! (get ! refl) (and_then ! (get ! refl) (no_more !)))) refl (tt, (tt, (record { fits = fits }, tt))) $
    exec ! 𝓣.C 𝓣.Λ En (after 1 fn.body) (at_ret En Post) $ sets ! (of_opd ! (get ! refl)) refl (tt, (tt, (record { fits = fits }, tt))) $
    rewrite ! 2 (λ (ws : List Val). ‵ (cell_at full_share R.mir ws rb ro)) (λ i. block_val (sym place i) n size ∷ []) refl $
    move ! (1 ∷ 2 ∷ []) $ fjoin ! $ move ! (5 ∷ 0 ∷ []) $ fjoin ! $ move ! (2 ∷ 3 ∷ 4 ∷ 1 ∷ 0 ∷ []) $ group ! 5 $
    let roomy : (length bytes < 2 ^ 64) × (length bytes * 1 < 2 ^ 63) = let f = d.fits.0 in let g = d.fits.1 in (omega (arith, long), omega (arith, long)) in
    use1 𝓛 (later (some (λ (δ : GName). ‵ ((MutSlice (named 0) κ u8).own_val (record { ref_ptr = (b, o); ghost_name = δ; now = bytes }) (slice_val (b, o) (length bytes) ∷ []))
    ⊛ ‵ (flft κ qs.0) ⊛ ‵ (follows R (Array u8 0) γ δ (with_all d)))))
    (lends_Elements 𝓛 R u8 (with_all d) (named 0) κ qs.0 rb ro b o γ bytes roomy (sem 𝓛 (Rest 𝓛 d rb ro b o)) (back 𝓛 d rb ro b o place long) (R.coded.code d) (R.coded.code d)) $
    await ! tt $ pick ! (λ δ. split3 ! $
    let lent : MutBor (List ℕ) = record { ref_ptr = (b, o); ghost_name = δ; now = bytes } in
    rewrite ! 0 (λ (k : ℕ). ‵ ((MutSlice (named 0) κ u8).own_val lent (slice_val (b, o) k ∷ []))) long refl $
    use0 𝓛 (raw (fact 𝓤 (length bytes ≡ n))) (fact_i 𝓤 (length bytes ≡ n) (emp 𝓤) long) $
    use0 𝓛 (raw (fact 𝓤 (bytes ≡ bytes))) (fact_i 𝓤 (bytes ≡ bytes) (emp 𝓤) refl) $ join ! $ move ! (3 ∷ 0 ∷ []) $ join ! $
    nothing ! $ move ! (3 ∷ 0 ∷ []) $ join ! $ nothing ! $ nothing ! $ fjoin ! $
    returns ! (look_at ! 0 refl) $ free_all ! refl $ keep ! (1 ∷ 0 ∷ 3 ∷ 2 ∷ []) $
    by ! (leaves 𝓛 T stays c y (slice_val (b, o) n) lent (tt, tt) (tt, tt)))))))))
