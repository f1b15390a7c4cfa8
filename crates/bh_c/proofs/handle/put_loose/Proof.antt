-- `put_loose` writes the pointer, and the handle owns what was owned with it.
use Rattle.std.proofs.Common.{List, [], ◌∷◌, ◌++◌, refl, sym, subst, Some}
use Rattle.std.proofs.raw_atomic.Walks.{proved_at}
use base.Fraction.{full_share}
use base.Logic.{SProp, ent, id⊢}
use base.Fml.{ftrue, flft}
use mir.Syntax.{named}
use mir.Val.{Val, vunit, vptr, vstruct, vcons, vnil}
use prog.Wp.{WpFn}
use contract.Running.{tables}
use types.Kit.{‵, ◌⊛◌, ◌$◌, ◌∵◌, !, qed, done, move, keep, drop, split, join, fsplit, fsplit3, fjoin, fpack, feq_i, rewrite, suffices, frame, group}
use types.Run.{enter, of_opd, unit_lit, stop, fld, assigns, returns}
use types.Part.{whole, sub, store_in}
use types.ByLocal.{alloc_all, pass_all, free_all, look_at, get, get_in, through, sets}
use denote.Builtin.{RawPtr}
use denote.Exit.{yes}
use denote.Laws.{shows}
use denote.Memory.{cell_at}
use denote.RattleType.{RattleType, Valss}
use denote.RawPtr.{block_ptr}
use denote.Ref.{MutRef, mut_Tells}
use denote.Signature.{plain}
use denote.Steps.{nothing, opens, closes, peeks}
use denote.Struct.Struct.{within}
use denote.Struct.Owning.{shape}
use denote.Triple.Walked.{Stays, says, walk_of, stay_ref, stay_dropped, Goes-ref, Goes-dropped, ends_at}
use Rattle.std_heap.specs.contracts.Global.{the_row as Z}
use Rattle.std_heap.specs.contracts.GlobalAllocator.TheImpl.{ghosts}
use Rattle.std_heap.proofs.Global.TheLaws.{the_row_laws}
use Rattle.bh_c.specs.contracts.service.Service.{the_row as S}
use Rattle.bh_c.specs.contracts.handle.Handle.{the_row as R, the_type}
use Rattle.bh_c.specs.contracts.handle.put_loose as f
use Rattle.bh_c.proofs.handle.put_loose.Statement.{statement}
use Rattle.bh_c.proofs.handle.put_loose.Code as code
use Rattle.bh_c.proofs.handle.Handle.TheLaws.{lowers}
use Rattle.bh_c.proofs.LooseValues.{Loose, both, loose_good, loose_out}

abbrev L : RattleType
L = Loose S Z the_row_laws ghosts

abbrev stayed : Stays f.ended.signature.params f.ended.kept
stayed = (stay_ref (0 ∷ []) tt (plain (λ _. R)), (stay_dropped (plain (λ _. L)) yes, tt))

pub put_loose_spec : {M : Type 1} → statement M
put_loose_spec 𝓤 𝓛 𝓜 𝓡 wired =
    let c = f.clauses 𝓛 𝓜.mem 𝓡.returns in let 𝓣 = tables 𝓤 𝓛.H 𝓜 𝓡 𝓡.env in
    proved_at 𝓛 f.ended stayed c 𝓜 𝓡 (Goes-ref 𝓛 1 0 tt (plain (λ _. R)), (Goes-dropped 𝓛 1 (plain (λ _. L)) yes (λ κs x w. refl), tt))
    f.Key.name code.function (code.unfolded 𝓤 𝓛.H 𝓜 𝓡 wired) (λ z are.
    let κs = z.0.0 in let qs = z.0.1 in let self = z.0.3.0 in let d = z.0.3.1.0 in let us = z.0.4.0 in let ws = z.0.4.1.0 in
    let b = self.ref_ptr.0 in let o = self.ref_ptr.1 in let h = self.now in
    let Post : Val → SProp 𝓤 = (walk_of 𝓛 f.ended stayed c).post z in let Run : List Val → SProp 𝓤 = λ vs. WpFn 𝓤 𝓛.H 𝓣.C 𝓣.Λ code.function vs Post in
    let passed = mut_Tells (named 0) κs.0 R self us are.0 in
    qed 𝓛 (((‵ (flft κs.0 qs.0) ⊛ ‵ ftrue) ⊛ (‵ ((MutRef (named 0) κs.0 R).own_val self us) ⊛ (‵ (L.own_val d ws) ⊛ ‵ ftrue))) ∷ ‵ ftrue ∷ []) ∵
    split ! $ split ! $ move ! (2 ∷ []) $ split ! $ move ! (1 ∷ []) $ split ! $ keep ! (0 ∷ 2 ∷ 3 ∷ []) $
    loose_out S Z the_row_laws ghosts ! d ws (λ b' o' hv e is_both fits.
    -- [the service; the allocator; self; the token]
    let w = both (vptr b' o') hv in let typed = loose_good S Z the_row_laws ghosts b' o' hv fits in
    suffices ! (Run (vptr b o ∷ w ∷ [])) (subst (λ (vs : List Val). ent 𝓤 (Run (vptr b o ∷ w ∷ [])) (Run vs)) (sym (λ i. passed i ++ (is_both i ++ []))) (id⊢ 𝓤 (Run (vptr b o ∷ w ∷ [])))) $
    rewrite ! 2 (λ (vs : List Val). ‵ ((MutRef (named 0) κs.0 R).own_val self vs)) passed refl $
    enter ! 𝓣.C 𝓣.Λ code.function (vptr b o ∷ w ∷ []) Post $ alloc_all ! (λ l. pass_all ! refl ((tt, tt), (typed, tt)) $
    move ! (2 ∷ []) $ fsplit3 ! $ move ! (1 ∷ 2 ∷ 5 ∷ []) $ opens ! tt R b o (λ vs.
    move ! (1 ∷ []) $ peeks ! R _ (shows 𝓛 R) h vs (λ is. fsplit ! $ drop ! $ drop ! $
    -- [the handle's cell; the open borrow, in three entries; self's first part; the service; the allocator]
    let Cell = λ (vs : List Val). ‵ (cell_at full_share R.mir vs b o) in let v = vstruct (vcons (vptr b' o') vnil) in
    rewrite ! 0 Cell (lowers.val_is h vs is) refl $
    sets ! (of_opd ! (get_in ! (fld ! refl (stop !)) (sub ! 0 refl (whole !)))) refl (tt, tt) $
    sets ! (of_opd ! (get ! refl)) refl (tt, tt) $
    assigns ! (of_opd ! (get ! refl)) (through ! refl (fld ! refl (stop !))) (store_in ! 0 (sub ! 0 refl (whole !)) (tt, tt)) $
    sets ! (of_opd ! (unit_lit !)) refl (tt, tt) $
    move ! (5 ∷ []) $ nothing ! $ feq_i ! (List Val) (vptr b' o' ∷ []) (vptr b' o' ∷ []) refl $ fjoin ! $ feq_i ! (List Val) (v ∷ []) (v ∷ []) refl $ fjoin ! $
    fpack ! (Valss (RawPtr ∷ [])) (within (shape the_type) (block_ptr b' o', tt) (v ∷ [])) (vptr b' o' ∷ [], tt) $ fjoin ! $
    -- [what the handle owns; its cell; the open borrow, in three entries; self's first part; the allocator]
    let new : R.Denot = record { at = block_ptr b' o'; held = Some d.value } in
    move ! (1 ∷ []) $ closes ! tt R new (v ∷ []) b o $
    -- [two parts of self; the token; self's first part; the allocator]
    returns ! (look_at ! 0 refl) $ free_all ! refl $ keep ! (0 ∷ 1 ∷ 2 ∷ []) $ feq_i ! (List Val) us (vptr b o ∷ []) passed $
    suffices ! _ (ends_at 𝓛 f.ended stayed c z vunit tt (new, (tt, tt)) (tt, (tt, tt))) $ says ! refl $ group ! 3 $
    -- [self; the token]
    nothing ! $ nothing ! $ join ! $ move ! (1 ∷ 0 ∷ []) $ join ! $ nothing ! $ move ! (2 ∷ 0 ∷ []) $ join ! $ frame ! $ frame ! $
    feq_i ! _ (vunit ∷ []) _ refl $ done !)))))
