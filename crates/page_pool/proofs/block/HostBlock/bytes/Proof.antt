-- `bytes` lends all that lies in the block.
use Rattle.std.proofs.Common.{◌≡◌, ℕ, ◌*◌, ◌<◌, ◌^◌, List, [], ◌∷◌, length, sym, refl, ap, ◌∙◌, arith}
use mir.Syntax.{Fn, named}
use mir.Val.{Val, vptr}
use base.Logic.{SProp, emp}
use base.Fml.{Lft, ftrue, fhide, flft}
use types.Kit.{‵, raw, ◌⊛◌, at_ret, ◌$◌, ◌∵◌, !, qed, by, move, keep, split, join, fsplit, fjoin, use0, use1, rewrite, feq_i, feq_l, flt_i}
use types.Run.{stop, fld, load, of_opd, no_more, and_then, first, blocks, exec, returns, enter}
use types.ByLocal.{alloc_all, pass_all, free_all, look_at, get, through, sets, sets_last, env}
use types.Part.{agg, sub, whole, look_in}
use contract.Running.{tables}
use contract.Monad.{fact, fact_i}
use denote.Array.{Array}
use denote.Builtin.{RefOf, u8}
use denote.Copied.{Struct-Copied}
use denote.Exit.{yes}
use denote.Laws.{Is, shows}
use denote.Memory.{cell_at, hidden_shr}
use denote.Opens.{Opens, unhide, hide}
use denote.RattleType.{owns}
use denote.RawPtr.{Ptr, InBlock, block_ptr, block_of, count_of, at_block}
use denote.Ref.{shr_vals, shr_Tells}
use denote.Signature.{types_at, plain}
use denote.Slice.{slice_val}
use denote.Steps.{nothing, peeks, heard, looks, shuts}
use denote.Struct.Laws.{RawPtr-copy, usize-copy}
use denote.Struct.Lending.{lent_at, lent_out, in_block_says}
use denote.Struct.Owning.{shape}
use denote.Triple.Walked.{Stays, stay_dropped, walk_of, Goes-dropped}
use Rattle.core.proofs.alloc.Shapes.{after}
use Rattle.std.proofs.raw_atomic.Walks.{proved, leaves}
use Rattle.page_pool.proofs.Walks.{Data, block_val, block_told}
use Rattle.page_pool.specs.contracts.block.HostBlock as block
use Rattle.page_pool.specs.contracts.block.HostBlock.bytes.{ended, clauses}
use Rattle.page_pool.specs.contracts.block.HostBlock.bytes.Key.{name as #self}
use Rattle.page_pool.proofs.block.HostBlock.bytes.Statement.{statement}
use Rattle.page_pool.proofs.block.HostBlock.bytes.Code as code

pub bytes_spec : {M : Type 1} → statement M
bytes_spec {M} 𝓤 𝓛 𝓜 𝓡 wired =
    let H = 𝓛.H in
    let 𝓣 = tables 𝓤 H 𝓜 𝓡 𝓡.env in
    let T = ended in
    let c = clauses 𝓛 𝓜.mem 𝓡.returns in
    let fn : Fn = code.function in
    let self = RefOf (0 ∷ []) tt (plain (λ _. block.the_row)) (λ _. tt) in
    let stays : Stays T.signature.params T.kept = (stay_dropped self yes, tt) in
    let opened : Opens 𝓛 Data = (Struct-Copied 𝓛 (shape block.the_type) (refl, (refl, (refl, tt))) (RawPtr-copy.copied M 𝓤 𝓛, (usize-copy.copied M 𝓤 𝓛, (usize-copy.copied M 𝓤 𝓛, tt)))).opens in
    proved 𝓛 T stays c 𝓜 𝓡 (Goes-dropped 𝓛 1 self yes (λ κs x f. refl), tt) #self fn (code.unfolded 𝓤 H 𝓜 𝓡 wired)
    (λ κs. (shr_vals, tt)) (λ κs. (shr_Tells (named 0) κs.0 block.the_row, tt)) (λ κs qs bounds a gh are.
    let b = a.0.ref_ptr.0 in let o = a.0.ref_ptr.1 in let κ : Lft = κs.0 in let d = a.0.now in
    let p : Ptr = d.ptr in let n = d.len in let size = d.size in let bytes : List ℕ = d.bytes in let at : ℕ × ℕ = (block_of p, count_of p) in
    let y : (walk_of 𝓛 T stays c).Ghost = ((κs, qs, bounds, a, (vptr b o ∷ [], tt)), gh) in
    let Post : Val → SProp 𝓤 = (walk_of 𝓛 T stays c).post y in
    qed 𝓛 (((‵ (flft κ qs.0) ⊛ ‵ ftrue) ⊛ ‵ (owns (types_at T.signature.params κs) a y.0.4)) ∷ raw ((c κs a).requires gh) ∷ []) ∵
    split ! $ split ! $ move ! (2 ∷ []) $ fsplit ! $ fsplit ! $ keep ! (1 ∷ 3 ∷ 4 ∷ []) $
    enter ! 𝓣.C 𝓣.Λ fn (vptr b o ∷ []) Post $ alloc_all ! (λ l. pass_all ! refl ((tt, tt), tt) $ let En = env fn.locals l in
    use1 𝓛 (‵ (hidden_shr Data κ (p, (n, (size, tt))) b o) ⊛ ‵ (fhide (lent_at (Array u8 n) p bytes κ))) (lent_out 𝓛 block.struct block.the_codes block.the_heap block.the_lent κ d b o) $
    split ! $ move ! (1 ∷ []) $ unhide ! $ fsplit ! $ use1 𝓛 (raw (fact 𝓤 (InBlock p))) (in_block_says 𝓛 p) $ heard ! (InBlock p) (λ inside.
    fsplit ! $ feq_l ! (λ long. hide ! $ move ! (1 ∷ 2 ∷ []) $
    -- [the data; its lifetime; the bytes; nothing]
    looks ! tt Data opened (p, (n, (size, tt))) b o (λ q vs. move ! (1 ∷ []) $ peeks ! Data (Is Data) (shows 𝓛 Data) (p, (n, (size, tt))) vs (λ so.
    let told = block_told p n size vs so in
    let fits = told.1 in
    let is : vs ≡ block_val (block_ptr at.0 at.1) n size ∷ [] = told.0 ∙ ap (λ (r : Ptr). block_val r n size ∷ []) (at_block p inside) in
    rewrite ! 1 (λ (ws : List Val). ‵ (cell_at q Data.mir ws b o)) is refl $ first ! $ blocks ! $
    sets ! (of_opd ! (load ! (through ! refl (fld ! refl (stop !))) (look_in ! 1 (sub ! 0 refl (whole !))))) refl (tt, tt) $
    sets ! (of_opd ! (load ! (through ! refl (fld ! refl (stop !))) (look_in ! 1 (sub ! 1 refl (whole !))))) refl (tt, record { fits = fits }) $
    sets_last ! (agg ! (and_then ! (get ! refl) (and_then ! (get ! refl) (no_more !)))) refl (tt, (tt, (record { fits = fits }, tt))) $
    exec ! 𝓣.C 𝓣.Λ En (after 1 fn.body) (at_ret En Post) $ sets ! (of_opd ! (get ! refl)) refl (tt, (tt, (record { fits = fits }, tt))) $
    rewrite ! 1 (λ (ws : List Val). ‵ (cell_at q Data.mir ws b o)) (sym is) refl $ move ! (1 ∷ 0 ∷ 2 ∷ []) $ shuts ! tt Data q (p, (n, (size, tt))) vs b o $
    move ! (0 ∷ 3 ∷ []) $ join ! $ move ! (2 ∷ []) $
    let small : length bytes * 1 < 2 ^ 63 = let f = d.fits in omega (arith, long) in
    flt_i ! (length bytes * 1) (2 ^ 63) small $ flt_i ! (length bytes) (2 ^ 64) (omega (arith, long)) $ fjoin ! $
    feq_i ! (List Val) (slice_val at n ∷ []) (slice_val at (length bytes) ∷ []) (ap (λ k. slice_val at k ∷ []) (sym long)) $ fjoin ! $ fjoin ! $
    use0 𝓛 (raw (fact 𝓤 (length bytes ≡ n))) (fact_i 𝓤 (length bytes ≡ n) (emp 𝓤) long) $
    use0 𝓛 (raw (fact 𝓤 (bytes ≡ bytes))) (fact_i 𝓤 (bytes ≡ bytes) (emp 𝓤) refl) $ join ! $ nothing ! $ nothing ! $ fjoin ! $
    returns ! (look_at ! 0 refl) $ free_all ! refl $ keep ! (3 ∷ 0 ∷ 2 ∷ 1 ∷ []) $
    by ! (leaves 𝓛 T stays c y (slice_val at n) (record { ref_ptr = at; now = bytes }) (tt, tt) (tt, tt))))))))
