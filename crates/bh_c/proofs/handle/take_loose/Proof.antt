-- `take_loose` reads the pointer, writes null in its place, and hands out what the handle owned.
use Rattle.std.proofs.Common.{◌≡◌, List, [], ◌∷◌, refl, sym, ap, ◌∙◌, lit<, Option, Some, None, IsSome}
use Rattle.std.proofs.raw_atomic.Walks.{proved}
use base.Fraction.{full_share}
use base.Logic.{never, fst∗}
use base.Fml.{ftrue, flft}
use mathlib.Core.Bool.{false≢true}
use mir.Syntax.{named}
use mir.Raw.{raw as bare}
use mir.Val.{Val, vptr, vnull, vstruct, vcons, vnil}
use types.Logic.{sem}
use contract.Monad.{fact}
use types.Kit.{‵, raw, ◌⊛◌, ◌$◌, ◌∵◌, !, qed, done, move, keep, drop, split, join, fsplit, fsplit3, fjoin, fpack, feq_i, rewrite, suffices, frame, group}
use types.Run.{enter, of_opd, load, lit, stop, fld, no_more, and_then, assigns, returns}
use types.Part.{agg, whole, sub, look_in, store_in}
use types.ByLocal.{alloc_all, pass_all, free_all, look_at, get, through, sets}
use denote.Exit.{yes}
use denote.Laws.{shows}
use denote.Memory.{cell_at, lone}
use denote.Param.{layout}
use denote.Builtin.{RawPtr}
use denote.RattleType.{Valss}
use denote.Struct.Struct.{within}
use denote.Struct.Owning.{shape}
use denote.RawPtr.{Ptr, block_ptr, null_ptr, in_a_block}
use denote.Ref.{MutRef, mut_vals, mut_Tells}
use denote.Signature.{plain}
use denote.Steps.{nothing, opens, closes, peeks, heard}
use denote.Triple.Walked.{Stays, walk_of, stay_ref, stay_dropped, Goes-ref, Goes-dropped, ends_at}
use Rattle.core.proofs.cell.Inside.{Good}
use Rattle.core.proofs.mem.Facts.{says_two}
use Rattle.std_heap.specs.contracts.Global.{the_row as Z}
use Rattle.std_heap.specs.contracts.GlobalAllocator.TheImpl.{ghosts}
use Rattle.std_heap.proofs.Global.TheLaws.{the_row_laws}
use Rattle.std_heap.proofs.Handle.{heap_val, heap_Tells}
use Rattle.bh_c.specs.declared.service.Service.{Service}
use Rattle.bh_c.specs.contracts.service.Service.{the_row as S}
use Rattle.bh_c.specs.contracts.handle.Handle.{the_row as R, the_type}
use Rattle.bh_c.specs.contracts.handle.take_loose as f
use Rattle.bh_c.specs.Held.{held_owns}
use Rattle.bh_c.proofs.handle.take_loose.Statement.{statement}
use Rattle.bh_c.proofs.handle.take_loose.Code as code
use Rattle.bh_c.proofs.handle.Handle.TheLaws.{lowers}
use Rattle.bh_c.proofs.LooseValues.{both, loose_good, loose_in}

abbrev stayed : Stays f.ended.signature.params f.ended.kept
stayed = (stay_ref (0 ∷ []) tt (plain (λ _. R)), (stay_dropped (plain (λ _. Z)) yes, tt))

-- what is there, where something is
some_of : (o : Option Service) → IsSome o → (s : Service) × (o ≡ Some s)
some_of None none = absurd (false≢true none)
some_of (Some s) some = (s, refl)

pub take_loose_spec : {M : Type 1} → statement M
take_loose_spec 𝓤 𝓛 𝓜 𝓡 wired =
    let c = f.clauses 𝓛 𝓜.mem 𝓡.returns in let W = walk_of 𝓛 f.ended stayed c in
    proved 𝓛 f.ended stayed c 𝓜 𝓡 (Goes-ref 𝓛 1 0 tt (plain (λ _. R)), (Goes-dropped 𝓛 1 (plain (λ _. Z)) yes (λ κs x w. refl), tt))
    f.Key.name code.function (code.unfolded 𝓤 𝓛.H 𝓜 𝓡 wired)
    (λ κs. (mut_vals, ((λ _. heap_val ∷ []), tt))) (λ κs. (mut_Tells (named 0) κs.0 R, (heap_Tells, tt))) (λ κs qs bounds a _ are.
    let b = a.0.ref_ptr.0 in let o = a.0.ref_ptr.1 in let h = a.0.now in let vs = mut_vals a.0 in let alloc = a.1.0 in
    let y : W.Ghost = ((κs, qs, bounds, a, (vs, (heap_val ∷ [], tt))), tt) in
    qed 𝓛 (((‵ (flft κs.0 qs.0) ⊛ ‵ ftrue) ⊛ (‵ ((MutRef (named 0) κs.0 R).own_val a.0 vs) ⊛ (‵ (Z.own_val alloc (heap_val ∷ [])) ⊛ ‵ ftrue))) ∷ raw (fact 𝓤 (IsSome h.held)) ∷ []) ∵
    move ! (1 ∷ []) $ heard ! (IsSome h.held) (λ is_open.
    let there = some_of h.held is_open in let heap_good : Good (layout Z) heap_val = (tt, ((tt, tt), tt)) in
    split ! $ split ! $ move ! (2 ∷ []) $ split ! $ move ! (1 ∷ []) $ split ! $ keep ! (2 ∷ 3 ∷ 0 ∷ []) $
    -- [self; the token; the allocator]
    enter ! _ _ _ _ _ $ alloc_all ! (λ l. pass_all ! refl ((tt, tt), (heap_good, tt)) $
    fsplit3 ! $ move ! (1 ∷ 2 ∷ 3 ∷ []) $ opens ! tt R b o (λ us.
    move ! (1 ∷ []) $ peeks ! R _ (shows 𝓛 R) h us (λ is. fsplit ! $ move ! (1 ∷ []) $
    rewrite ! 0 (λ (held : Option Service). ‵ (held_owns h.at held)) there.1 refl $
    in_a_block ! h.at (λ p. held_owns p (Some there.0)) (fst∗ 𝓤 (never 𝓤) (sem 𝓛 (ghosts.dealloc_token alloc (bare (lone S.mir)) null_ptr))) (λ b' o' e.
    let word = lowers.val_is h us is ∙ ap (λ (p : Ptr). lowers.lowered (record h { at = p }) ∷ []) e in
    let Cell = λ (ws : List Val). ‵ (cell_at full_share R.mir ws b o) in
    let made = loose_good S Z the_row_laws ghosts b' o' heap_val heap_good in let v = both (vptr b' o') heap_val in
    rewrite ! 2 Cell word refl $
    -- [the service; what the fields own; the handle's cell; the open borrow, in three entries; self's first part; the allocator]
    sets ! (of_opd ! (load ! (through ! refl (fld ! refl (stop !))) (look_in ! 2 (sub ! 0 refl (whole !))))) refl (tt, tt) $
    sets ! (of_opd ! (get ! refl)) refl (tt, tt) $
    assigns ! (of_opd ! (lit ! tt)) (through ! refl (fld ! refl (stop !))) (store_in ! 2 (sub ! 0 refl (whole !)) (tt, record { fits = lit< tt })) $
    sets ! (agg ! (and_then ! (get ! refl) (and_then ! (get ! refl) (no_more !)))) refl made $
    let empty = vstruct (vcons vnull vnil) in let gone : R.Denot = record { at = null_ptr; held = None } in
    move ! (1 ∷ []) $ drop ! $ feq_i ! Ptr null_ptr null_ptr refl $
    nothing ! $ feq_i ! (List Val) (vnull ∷ []) (vnull ∷ []) refl $ fjoin ! $ feq_i ! (List Val) (empty ∷ []) (empty ∷ []) refl $ fjoin ! $
    fpack ! (Valss (RawPtr ∷ [])) (within (shape the_type) (null_ptr, tt) (empty ∷ [])) (vnull ∷ [], tt) $ fjoin ! $
    -- [what the handle owns; the service; its cell; the open borrow, in three entries; self's first part; the allocator]
    move ! (2 ∷ 0 ∷ 3 ∷ 4 ∷ 5 ∷ []) $ closes ! tt R gone (empty ∷ []) b o $
    -- [two parts of self; the token; the service; self's first part; the allocator]
    returns ! (look_at ! 0 refl) $ free_all ! refl $ move ! (4 ∷ []) $
    suffices ! _ (ends_at 𝓛 f.ended stayed c y v (record { at = block_ptr b' o'; alloc = alloc; value = there.0 }) (gone, (tt, tt)) (tt, (tt, tt))) $
    says_two ! (there.1, refl) $ group ! 3 $ move ! (2 ∷ 3 ∷ []) $ loose_in S Z the_row_laws ghosts ! b' o' heap_val alloc there.0 $
    -- [the pointer with what it owns; self; the token]
    nothing ! $ nothing ! $ join ! $ move ! (2 ∷ 0 ∷ []) $ join ! $ nothing ! $ move ! (3 ∷ 0 ∷ []) $ join ! $ frame ! $ frame ! $ done !))))))
