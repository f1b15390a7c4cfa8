-- What a handle owns, by whether its address is null. Assumes `Logic`.
use Rattle.std.proofs.Common.{◌≡◌, ℕ, List, ◌∷◌, refl, Option, Some, None}
use seplogic.Ra.Ura.{Ura}
use mir.Raw.{raw as bare}
use base.Fraction.{full_share}
use base.Logic.{ent, guard, via, never, fst∗, snd∗, guard_i}
use types.Logic.{Logic, sem}
use types.Kit.{Item, Goal, Seq, ‵, given, ◌$◌, use1, learn, feq_i, feq_l}
use contract.Monad.{fact_use}
use denote.Memory.{lone}
use denote.RawPtr.{Ptr, block_ptr, null_ptr, lies_at, in_a_block, Testable}
use Rattle.std.specs.declared.alloc.Global.{Global}
use Rattle.std.specs.contracts.impls.GlobalAllocator.TheImpl.{ghosts}
use Rattle.std.proofs.GlobalToken.{dealloc_token-Testable}
use Rattle.bh_c.specs.declared.service.Service.{Service}
use Rattle.bh_c.specs.contracts.service.Service.{the_row as S}
use Rattle.bh_c.specs.Held.{held_owns}

abbrev heap : Global
heap = record { memory = record { seal = tt } }

module _ {M : Type 1} {𝓤 : Ura M} (𝓛 : Logic 𝓤) where
  pub tested : (p : Ptr) (x : Service) → ent 𝓤 (sem 𝓛 (held_owns p (Some x))) (guard 𝓤 (Testable p) (sem 𝓛 (held_owns p (Some x))))
  tested p x = fact_use 𝓤 (Testable p) (via 𝓤 _ (snd∗ 𝓤 (sem 𝓛 (lies_at S full_share p x)) (sem 𝓛 (ghosts.dealloc_token heap (bare (lone S.mir)) p))) (dealloc_token-Testable 𝓛 heap (bare (lone S.mir)) p)) (guard_i 𝓤 (Testable p) (sem 𝓛 (held_owns p (Some x))))

module _ {M : Type 1} {𝓤 : Ura M} {𝓛 : Logic 𝓤} {K : Type 0} {Γ : List (Item 𝓤)} {G : Goal 𝓤 𝓛.H} where
  -- where nothing is held the address is null, and else it is of a block and may be compared with null
  pub by_held : K → (p : Ptr) (held : Option Service)
      → (p ≡ null_ptr → held ≡ None → Seq K 𝓛 (‵ (held_owns p None) ∷ Γ) G)
      → ((b o : ℕ) (x : Service) → p ≡ block_ptr b o → held ≡ Some x → Testable (block_ptr b o) → Seq K 𝓛 (‵ (held_owns (block_ptr b o) (Some x)) ∷ Γ) G)
      → Seq K 𝓛 (‵ (held_owns p held) ∷ Γ) G
  by_held t p None empty full = feq_l t (λ e. feq_i t Ptr p null_ptr e $ empty e refl)
  by_held t p (Some x) empty full =
      in_a_block t p (λ q. held_owns q (Some x)) (fst∗ 𝓤 (never 𝓤) (sem 𝓛 (ghosts.dealloc_token heap (bare (lone S.mir)) null_ptr))) (λ b o e.
      use1 𝓛 (given (Testable (block_ptr b o)) (‵ (held_owns (block_ptr b o) (Some x)))) (tested 𝓛 (block_ptr b o) x) $ learn t (λ u. full b o x e refl u))
