-- `grow` writes a zero into one byte after another.
use Rattle.std.proofs.Common.{◌≡◌, ℕ, suc, ◌+◌, ◌-◌, ◌<◌, ◌≤◌, ◌^◌, List, [], ◌∷◌, ◌++◌, length, refl, sym, ap, ◌∙◌, lit<, nltb→le, w8, w64, arith}
use Rattle.std.specs.Prelude.{replicate}
use Rattle.std.proofs.lemmas.List.{length-append, length-replicate, replicate-append-replicate, append_assoc, append-nil}
use lib.Dec.{ltb→lt}
use lib.WfN.{lt-wf_rel}
use mathlib.Core.WellFounded.InvImage
use seplogic.Ra.Ura.{Ura}
use base.Fraction.{full_share}
use base.Logic.{SProp, ent, sep, never, id⊢}
use base.Fml.{Lft, GName, Share, Fml, ftrue, fsep, feq, fat, froom, flft, fobs, fauth, fobor}
use mir.Syntax.{Fn, Body, ty_int}
use mir.Val.{Val, vptr, vint, vunit}
use prog.Wp.{Env, Out, Wp, WpFn, at_return, after_seq, after_block, after_turn}
use types.Logic.{Logic, sem}
use contract.Monad.{fact}
use contract.Running.{tables, tables_of}
use types.Kit.{Item, any_q, ‵, raw, ◌⊛◌, prop, at_ret, ◌$◌, ◌∵◌, !, qed, move, keep, drop, use0, use1, use2, split, join, rewrite, regoal, fsplit, fsplit3, fjoin, fjoin3, feq_i, feq_l, suffices, frame, done}
use types.Part.{whole, sub, look_in, store_in}
use types.Run.{stop, fld, load, lit, unit_lit, bin, of_opd, init, assigns, assigns_last, first, blocks, skips, jumps, branches, exec, returns, enter, loops, again, Below}
use types.ByLocal.{alloc_all, pass_all, free_all, look_at, get, through, sets, sets_last, env, holding, forget_but}
use types.SemTy.{Body as Borrowed}
use denote.Array.{Array}
use denote.Builtin.{u8}
use denote.Laws.{Is, shows}
use denote.Memory.{mem, cell_at, part_at}
use denote.Plain.{uint_in}
use denote.RattleType.{RattleType, owns}
use denote.RawPtr.{Ptr, block_ptr, in_a_block, lies_at, room_for, ◌+ₚ◌}
use denote.RawPtr.Bytes.{bytes as row, bytes_apart, bytes_glue, bytes_whole}
use denote.Signature.{plain, types_at}
use denote.Steps.{nothing, heard, opens, closes, peeks}
use denote.Triple.Entry.{alive}
use denote.Triple.Walked.{says, Stays, stay_dropped, stay_ref, walk_of, ends_at, Goes-dropped, Goes-ref}
use Rattle.core.proofs.alloc.Shapes.{after, head}
use Rattle.std.proofs.raw_atomic.Walks.{proved_at}
use Rattle.page_pool.proofs.Walks.{slot_at, Data, block_val, block_own, block_told, block_made}
use Rattle.page_pool.specs.Ownership.{bytes_of, block_owns}
use Rattle.page_pool.specs.declared.block.HostBlock.{HostBlock}
use Rattle.page_pool.specs.contracts.block.HostBlock as block
use Rattle.page_pool.specs.contracts.block.HostBlock.grow.{ended, clauses}
use Rattle.page_pool.specs.contracts.block.HostBlock.grow.Key.{name as #self}
use Rattle.page_pool.proofs.block.HostBlock.grow.Statement.{statement}
use Rattle.page_pool.proofs.block.HostBlock.grow.Code as code

module _ (bytes : List ℕ) (len size b o : ℕ) where
  -- the known bytes, and zeros up to the i-th
  abbrev Known : ℕ → List ℕ
  Known i = bytes ++ replicate (i - len) 0

  -- zeros are written up to the i-th byte, and there is room for the others
  abbrev Part : ℕ → Fml
  Part i = fsep (row full_share (Known i) b o) (froom (bytes_of (size - i)) b (i + o))

  -- the same but for the room of the next byte
  abbrev Hole : ℕ → Fml
  Hole i = fsep (row full_share (Known i) b o) (froom (bytes_of (size - (i + 1))) b (i + 1 + o))

  module _ (long : length bytes ≡ len) where
    length-Known : (i : ℕ) → len ≤ i → length (Known i) ≡ i
    length-Known i past = length-append bytes (replicate (i - len) 0) ∙ omega (arith, long, length-replicate {A = ℕ} (i - len) 0)

    Known-next : (i : ℕ) → len ≤ i → Known i ++ 0 ∷ [] ≡ Known (i + 1)
    Known-next i past =
        append_assoc bytes (replicate (i - len) 0) (0 ∷ []) ∙ ap (λ (zs : List ℕ). bytes ++ zs) (replicate-append-replicate (i - len) 1 0)
        ∙ ap (λ (k : ℕ). bytes ++ replicate k 0) (let e : i - len + 1 ≡ i + 1 - len = omega arith in e)

    Known-first : bytes ≡ Known len
    Known-first = sym (append-nil bytes) ∙ ap (λ (k : ℕ). bytes ++ replicate k 0) (let e : 0 ≡ len - len = omega arith in e)

    module _ {M : Type 1} {𝓤 : Ura M} (𝓛 : Logic 𝓤) where
      starts : ent 𝓤 (sep 𝓤 (sem 𝓛 (row full_share bytes b o)) (sem 𝓛 (froom (bytes_of (size - len)) b (o + len)))) (sem 𝓛 (Part len))
      starts = qed 𝓛 (‵ (row full_share bytes b o) ∷ ‵ (froom (bytes_of (size - len)) b (o + len)) ∷ []) ∵
          rewrite ! 0 (λ (xs : List ℕ). ‵ (row full_share xs b o)) Known-first refl $
          rewrite ! 1 (λ (k : ℕ). ‵ (froom (bytes_of (size - len)) b k)) (let e : o + len ≡ len + o = omega arith in e) refl $ fjoin ! $ done !

      out : (i : ℕ) → i < size → ent 𝓤 (sem 𝓛 (Part i)) (sep 𝓤 (sem 𝓛 (froom (ty_int w8) b (i + o))) (sem 𝓛 (Hole i)))
      out i less =
          let e : size - i ≡ suc (size - (i + 1)) = omega arith in
          let f : i + o + 1 ≡ i + 1 + o = omega arith in
          qed 𝓛 (‵ (Part i) ∷ []) ∵ fsplit ! $ move ! (1 ∷ []) $
          rewrite ! 0 (λ (k : ℕ). ‵ (froom (bytes_of k) b (i + o))) e refl $
          use1 𝓛 (‵ (froom (ty_int w8) b (i + o)) ⊛ ‵ (froom (bytes_of (size - (i + 1))) b (i + o + 1))) (𝓛.laws.room_uncons (ty_int w8) (size - (i + 1)) b (i + o)) $ split ! $
          rewrite ! 1 (λ (k : ℕ). ‵ (froom (bytes_of (size - (i + 1))) b k)) f refl $ move ! (2 ∷ 1 ∷ []) $ fjoin ! $ move ! (1 ∷ []) $ done !

      back : (i : ℕ) → len ≤ i → ent 𝓤 (sep 𝓤 (sem 𝓛 (fat full_share (ty_int w8) b (i + o) (vint w8 0))) (sem 𝓛 (Hole i))) (sem 𝓛 (Part (i + 1)))
      back i past =
          let at : i + o ≡ o + length (Known i) = omega (arith, length-Known i past) in
          qed 𝓛 (‵ (fat full_share (ty_int w8) b (i + o) (vint w8 0)) ∷ ‵ (Hole i) ∷ []) ∵
          use1 𝓛 (‵ (part_at u8 full_share 0 b (i + o))) (uint_in 𝓛 full_share w8 0 b (i + o)) $ nothing ! $ move ! (1 ∷ 0 ∷ []) $ fjoin ! $
          rewrite ! 0 (λ (k : ℕ). ‵ (row full_share (0 ∷ []) b k)) at refl $ move ! (1 ∷ []) $ fsplit ! $ move ! (0 ∷ 2 ∷ []) $
          use2 𝓛 (‵ (row full_share (Known i ++ 0 ∷ []) b o)) (bytes_glue 𝓛 full_share (Known i) (0 ∷ []) b o) $
          rewrite ! 0 (λ (xs : List ℕ). ‵ (row full_share xs b o)) (Known-next i past) refl $ fjoin ! $ done !

      ends : (i : ℕ) → len ≤ i → ent 𝓤 (sem 𝓛 (Part i)) (sem 𝓛 (block_owns (block_ptr b o) i size (Known i)))
      ends i past = qed 𝓛 (‵ (Part i) ∷ []) ∵ fsplit ! $
          feq_i ! ℕ (length (Known i)) i (length-Known i past) $ fjoin ! $ use1 𝓛 (‵ (part_at (Array u8 i) full_share (Known i) b o)) (bytes_whole 𝓛 full_share i (Known i) b o) $
          rewrite ! 1 (λ (k : ℕ). ‵ (froom (bytes_of (size - i)) b k)) (let e : i + o ≡ o + i = omega arith in e) refl $ fjoin ! $ done !

-- up to which byte is written
abbrev Turn : ℕ → ℕ → Type 0
Turn len end = (i : ℕ) × ((len ≤ i) × (i ≤ end))

abbrev Nearer : (len end : ℕ) → Turn len end → Turn len end → Type 0
Nearer len end t u = end - t.0 < end - u.0

pub grow_spec : {M : Type 1} → statement M
unfolding after_turn tables_of
grow_spec 𝓤 𝓛 𝓜 𝓡 wired =
    let H = 𝓛.H in
    let T = ended in
    let c = clauses 𝓛 𝓜.mem 𝓡.returns in
    let fn : Fn = code.function in
    let R : RattleType = block.the_row in
    let stays : Stays T.signature.params T.kept = (stay_ref (0 ∷ []) tt (plain (λ _. R)), (stay_dropped (slot_at 1 T.signature.params) T.kept.1.0, tt)) in
    let 𝓣 = tables_of 𝓤 H 𝓜 (tables 𝓤 H 𝓜 𝓡 𝓡.env) in
    let C = 𝓣.C in
    let Λ = 𝓣.Λ in
    proved_at 𝓛 T stays c 𝓜 𝓡 (Goes-ref 𝓛 1 0 tt (plain (λ _. R)), (Goes-dropped 𝓛 1 (slot_at 1 T.signature.params) T.kept.1.0 (λ κs x f. refl), tt)) #self fn (code.unfolded 𝓤 H 𝓜 𝓡 wired) (λ z are.
    let Post : Val → SProp 𝓤 = (walk_of 𝓛 T stays c).post z in
    let a = z.0.3 in
    let rb = a.0.ref_ptr.0 in let ro = a.0.ref_ptr.1 in let γ : GName = a.0.ghost_name in let d : HostBlock = a.0.now in
    let e : ℕ = a.1.0 in
    let κ : Lft = z.0.0.0 in let q : Share = z.0.1.0 in
    let p : Ptr = d.ptr in let len = d.len in let size = d.size in let bytes : List ℕ = d.bytes in
    let Asked : Type 0 = (len ≤ e) × (e ≤ size) in
    qed 𝓛 ((raw (alive 𝓛 T.signature z.0.0 z.0.1) ⊛ ‵ (owns (types_at T.signature.params z.0.0) a z.0.4)) ∷ raw (fact 𝓤 Asked) ∷ []) ∵
    move ! (1 ∷ []) $ heard ! Asked (λ asked. split ! $ use1 𝓛 (‵ (flft κ q) ⊛ ‵ ftrue) (id⊢ 𝓤 _) $ split ! $
    move ! (2 ∷ []) $ fsplit ! $ fsplit3 ! $ keep ! (1 ∷ 2 ∷ 4 ∷ []) $
    regoal ! (λ (us : List Val). prop (WpFn 𝓤 H C Λ fn us Post)) (λ j. are.0.0 j ++ (are.1.0.0 j ++ [])) refl $
    enter ! C Λ fn (vptr rb ro ∷ vint w64 e ∷ []) Post $
    alloc_all ! (λ l. pass_all ! refl ((tt, tt), ((tt, record { fits = are.1.0.1 }), tt)) $ let En : Env 𝓤 H = env fn.locals l in
    opens ! tt R {h = d} rb ro (λ vs. move ! (1 ∷ []) $ fsplit ! $ peeks ! Data (Is Data) (shows 𝓛 Data) (p, (len, (size, tt))) vs (λ so.
    let told = block_told p len size vs so in
    drop ! $ fsplit ! $ in_a_block ! p (λ r. lies_at (Array u8 len) full_share r bytes) (id⊢ 𝓤 (never 𝓤)) (λ b o place.
    rewrite ! 1 (λ (r : Ptr). ‵ (room_for (bytes_of (size - len)) (r +ₚ len))) place refl $
    use1 𝓛 (‵ (fsep (feq ℕ (length bytes) len) (row full_share bytes b o))) (bytes_apart 𝓛 full_share len bytes b o) $ fsplit ! $ feq_l ! (λ long.
    let part : ℕ → Fml = Part bytes len size b o in
    use2 𝓛 (‵ (part len)) (starts bytes len size b o long 𝓛) $
    let is : vs ≡ block_val (block_ptr b o) len size ∷ [] = told.0 ∙ ap (λ (r : Ptr). block_val r len size ∷ []) place in
    rewrite ! 1 (λ (ws : List Val). ‵ (cell_at full_share R.mir ws rb ro)) is refl $
    -- [the bytes and the room; the struct's cell; the open borrow, in three entries]
    sets ! (of_opd ! (load ! (through ! refl (fld ! refl (stop !))) (look_in ! 1 (sub ! 0 refl (whole !))))) refl (tt, tt) $
    sets ! (of_opd ! (load ! (through ! refl (fld ! refl (stop !))) (look_in ! 1 (sub ! 1 refl (whole !))))) refl (tt, record { fits = told.1 }) $
    let turn : Body = head (head (head (after 2 fn.body))) in
    let Now : Turn len e → List (Item 𝓤) = λ t. ‵ (part t.0) ∷ ‵ (cell_at full_share R.mir (block_val (block_ptr b o) len size ∷ []) rb ro)
    ∷ ‵ (fobor κ q (Borrowed (mem R) rb ro γ)) ∷ ‵ (fobs γ (R.coded.code d)) ∷ ‵ (fauth γ (R.coded.code d))
    ∷ holding 𝓛 En ((1, vptr rb ro) ∷ (2, vint w64 e) ∷ (3, vptr b o) ∷ (4, vint w64 t.0) ∷ []) in
    let Turned : Turn len e → Out → SProp 𝓤 = λ t.
    after_turn 𝓤 H (Below 𝓛 (Nearer len e) Now t) (after_block 𝓤 H (after_seq 𝓤 H (Wp 𝓤 H C Λ En (after 3 fn.body) (at_return 𝓤 H En Post)) (at_return 𝓤 H En Post))) in
    first ! $ blocks ! $ loops ! 𝓣 (Nearer len e) (InvImage.wf (λ (t : Turn len e). e - t.0) lt-wf_rel.wf) Now (λ t.
    let i : ℕ = t.0 in let past : len ≤ i = t.1.0 in let within : i ≤ e = t.1.1 in
    let most : e ≤ size = asked.1 in let small : size < 2 ^ 63 = d.fits.1 in
    sets ! (bin ! (get ! refl) (get ! refl) tt) refl (tt, tt) $ first ! $ branches ! (get ! refl)
    (λ less. let here : i < e = ltb→lt i e less in let next : i + 1 < 2 ^ 64 = omega arith in
    skips ! $ exec ! C Λ En (after 2 turn) (any_q (Turned t)) $
    use1 𝓛 (‵ (froom (ty_int w8) b (i + o)) ⊛ ‵ (Hole bytes len size b o i)) (out bytes len size b o long 𝓛 i (omega arith)) $ split ! $
    first ! $ blocks ! $ sets ! (bin ! (get ! refl) (get ! refl) tt) refl (tt, tt) $
    assigns_last ! (of_opd ! (lit ! tt)) (through ! refl (stop !)) (init ! 0 refl (tt, record { fits = lit< tt })) $
    exec ! C Λ En (after 3 turn) (any_q (Turned t)) $ sets_last ! (bin ! (get ! refl) (lit ! tt) (record { fits = next })) refl (tt, record { fits = next }) $
    use2 𝓛 (‵ (part (i + 1))) (back bytes len size b o long 𝓛 i past) $
    forget_but ! En (1 ∷ 2 ∷ 3 ∷ 4 ∷ []) refl $ again ! (Nearer len e) Now t (i + 1, (omega arith, omega arith)) (omega arith))
    (λ over. let all : i ≡ e = omega (arith, nltb→le i e over) in
    let new : HostBlock = record { ptr = p; len = e; size = size; bytes = Known bytes len size b o e; fits = (most, small) } in
    jumps ! $ exec ! C Λ En (after 3 fn.body) (at_ret En Post) $
    assigns ! (of_opd ! (get ! refl)) (through ! refl (fld ! refl (stop !))) (store_in ! 1 (sub ! 1 refl (whole !)) (tt, record { fits = are.1.0.1 })) $
    sets ! (of_opd ! (unit_lit !)) refl (tt, tt) $
    rewrite ! 0 (λ (k : ℕ). ‵ (part k)) all refl $ use1 𝓛 (‵ (block_owns (block_ptr b o) e size new.bytes)) (ends bytes len size b o long 𝓛 e asked.0) $
    rewrite ! 0 (λ (r : Ptr). ‵ (block_owns r e size new.bytes)) (sym place) refl $
    rewrite ! 1 (λ (ws : List Val). ‵ (cell_at full_share R.mir ws rb ro)) (λ j. block_val (sym place j) e size ∷ []) refl $
    use0 𝓛 (‵ (block_own p e size (block_val p e size ∷ []))) (block_made 𝓛 p e size are.1.0.1 (omega arith)) $
    fjoin ! $ move ! (1 ∷ 0 ∷ []) $ closes ! tt R new (block_val p e size ∷ []) rb ro $
    returns ! (look_at ! 0 refl) $ free_all ! refl $ keep ! (0 ∷ 1 ∷ 2 ∷ []) $
    suffices ! _ (ends_at 𝓛 T stays c z vunit tt (new, (tt, tt)) (tt, (tt, tt))) $ says ! (refl, refl, refl, refl) $
    nothing ! $ move ! (3 ∷ 0 ∷ []) $ join ! $ frame ! $ feq_i ! (List Val) z.0.4.0 (vptr rb ro ∷ []) (are.0.0) $ fjoin3 ! $ nothing ! $ nothing ! $ fjoin ! $ move ! (1 ∷ 0 ∷ []) $ fjoin ! $
    feq_i ! (List Val) (vunit ∷ []) (vunit ∷ []) refl $ move ! (1 ∷ 0 ∷ []) $ done !)) (len, (omega arith, asked.0)))))))))
