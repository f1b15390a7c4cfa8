-- `is_open` compares the pointer with null, which it is where the handle owns nothing.
use Rattle.std.proofs.Common.{◌≡◌, List, [], ◌∷◌, refl, sym, ap, ◌∙◌, lit<, Bool, true, false, Option, Some, None}
use Rattle.std.proofs.raw_atomic.Walks.{proved}
use Rattle.std.specs.Prelude.{is_some}
use base.Fraction.{full_share}
use base.Fml.{ftrue, flft}
use mir.Syntax.{named}
use mir.Val.{Val, vbool}
use types.Kit.{‵, ◌⊛◌, ◌$◌, ◌∵◌, !, qed, done, move, keep, split, join, fsplit, fsplit3, fjoin, rewrite, suffices, frame, group, feq_i}
use types.Run.{enter, of_opd, load, lit, bin, un, stop, fld, returns}
use types.Part.{whole, sub, look_in}
use types.ByLocal.{alloc_all, pass_all, free_all, look_at, get, through, sets}
use denote.Laws.{shows}
use denote.Memory.{cell_at}
use denote.RawPtr.{Ptr, block_ptr, null_ptr, tests_null}
use denote.Ref.{MutRef, mut_vals, mut_Tells}
use denote.Signature.{plain}
use denote.Steps.{nothing, opens, closes, peeks}
use denote.Triple.Walked.{Stays, says, walk_of, stay_ref, Goes-ref, ends_at}
use Rattle.core.proofs.mem.Facts.{says_two}
use Rattle.bh_c.specs.declared.service.Service.{Service}
use Rattle.bh_c.specs.contracts.handle.Handle.{the_row as R}
use Rattle.bh_c.specs.contracts.handle.is_open as f
use Rattle.bh_c.specs.Held.{held_owns}
use Rattle.bh_c.proofs.handle.is_open.Statement.{statement}
use Rattle.bh_c.proofs.handle.is_open.Code as code
use Rattle.bh_c.proofs.handle.Handle.TheLaws.{lowers}
use Rattle.bh_c.proofs.HeldCases.{by_held}

abbrev stayed : Stays f.ended.signature.params f.ended.kept
stayed = (stay_ref (0 ∷ []) tt (plain (λ _. R)), tt)

pub is_open_spec : {M : Type 1} → statement M
is_open_spec 𝓤 𝓛 𝓜 𝓡 wired =
    let c = f.clauses 𝓛 𝓜.mem 𝓡.returns in let W = walk_of 𝓛 f.ended stayed c in
    proved 𝓛 f.ended stayed c 𝓜 𝓡 (Goes-ref 𝓛 1 0 tt (plain (λ _. R)), tt)
    f.Key.name code.function (code.unfolded 𝓤 𝓛.H 𝓜 𝓡 wired)
    (λ κs. (mut_vals, tt)) (λ κs. (mut_Tells (named 0) κs.0 R, tt)) (λ κs qs bounds a _ are.
    let b = a.0.ref_ptr.0 in let o = a.0.ref_ptr.1 in let h = a.0.now in let vs = mut_vals a.0 in
    let y : W.Ghost = ((κs, qs, bounds, a, (vs, tt)), tt) in
    qed 𝓛 (((‵ (flft κs.0 qs.0) ⊛ ‵ ftrue) ⊛ (‵ ((MutRef (named 0) κs.0 R).own_val a.0 vs) ⊛ ‵ ftrue)) ∷ ‵ ftrue ∷ []) ∵
    -- [self; the token]
    split ! $ split ! $ move ! (2 ∷ []) $ split ! $ keep ! (0 ∷ 2 ∷ []) $
    enter ! _ _ _ _ _ $ alloc_all ! (λ l. pass_all ! refl ((tt, tt), tt) $
    fsplit3 ! $ move ! (1 ∷ 2 ∷ 3 ∷ []) $ opens ! tt R b o (λ us.
    move ! (1 ∷ []) $ peeks ! R _ (shows 𝓛 R) h us (λ is. fsplit ! $ move ! (1 ∷ []) $
    let Cell = λ (ws : List Val). ‵ (cell_at full_share R.mir ws b o) in
    let word = λ (p : Ptr) (e : h.at ≡ p). lowers.val_is h us is ∙ ap (λ (q : Ptr). lowers.lowered (record h { at = q }) ∷ []) e in
    -- [the service, if any; what the fields own; the handle's cell; the open borrow, in three entries; self's first part]
    by_held ! h.at h.held
    (λ e none. rewrite ! 2 Cell (word null_ptr e) refl $
    sets ! (of_opd ! (load ! (through ! refl (fld ! refl (stop !))) (look_in ! 2 (sub ! 0 refl (whole !))))) refl (tt, record { fits = lit< tt }) $
    sets ! (bin ! (get ! refl) (lit ! tt) tt) refl (tt, tt) $
    sets ! (un ! (get ! refl) tt) refl (tt, tt) $
    rewrite ! 2 Cell (sym (word null_ptr e)) refl $
    rewrite ! 0 (λ (held : Option Service). ‵ (held_owns h.at held)) (sym none) refl $
    move ! (1 ∷ 0 ∷ []) $ fjoin ! $ move ! (1 ∷ 0 ∷ []) $ closes ! tt R h us b o $
    returns ! (look_at ! 0 refl) $ free_all ! refl $ move ! (3 ∷ []) $
    suffices ! _ (ends_at 𝓛 f.ended stayed c y (vbool false) false (h, tt) (tt, tt)) $
    says_two ! (sym (ap is_some none), refl) $ group ! 3 $
    nothing ! $ move ! (1 ∷ 0 ∷ []) $ join ! $ nothing ! $ move ! (2 ∷ 0 ∷ []) $ join ! $ frame ! $ frame ! $
    feq_i ! _ (vbool false ∷ []) _ refl $ done !)
    (λ b' o' x e some t. let at : Ptr = block_ptr b' o' in rewrite ! 2 Cell (word at e) refl $
    sets ! (of_opd ! (load ! (through ! refl (fld ! refl (stop !))) (look_in ! 2 (sub ! 0 refl (whole !))))) refl (tt, tt) $
    sets ! (bin ! (get ! refl) (lit ! tt) (tests_null at t)) refl (tt, tt) $
    sets ! (un ! (get ! refl) tt) refl (tt, tt) $
    rewrite ! 2 Cell (sym (word at e)) refl $
    rewrite ! 0 (λ (p : Ptr). ‵ (held_owns p (Some x))) (sym e) refl $
    rewrite ! 0 (λ (held : Option Service). ‵ (held_owns h.at held)) (sym some) refl $
    move ! (1 ∷ 0 ∷ []) $ fjoin ! $ move ! (1 ∷ 0 ∷ []) $ closes ! tt R h us b o $
    returns ! (look_at ! 0 refl) $ free_all ! refl $ move ! (3 ∷ []) $
    suffices ! _ (ends_at 𝓛 f.ended stayed c y (vbool true) true (h, tt) (tt, tt)) $
    says_two ! (sym (ap is_some some), refl) $ group ! 3 $
    nothing ! $ move ! (1 ∷ 0 ∷ []) $ join ! $ nothing ! $ move ! (2 ∷ 0 ∷ []) $ join ! $ frame ! $ frame ! $
    feq_i ! _ (vbool true ∷ []) _ refl $ done !)))))
