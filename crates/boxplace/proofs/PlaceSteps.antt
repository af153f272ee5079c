-- One exchange of the pointer of a place, under its invariant. Assumes `Logic`.
use Rattle.std.proofs.Common.{ℕ, ◌+◌, [], ◌∷◌}
use seplogic.Ra.Ura.{Ura}
use base.Logic.{SProp, ent, sep, ex, upd_i}
use base.Fml.{Lft, Share, Fml, ftrue, fsep, fbor, flft}
use types.Logic.{Logic, sem}
use types.Kit.{‵, ◌$◌, ◌∵◌, !, qed, move, fsplit, fjoin, fpick, fpack, show, frame, assume, suffices, done}
use denote.RattleType.{RattleType}
use denote.RawPtr.{Ptr, block_ptr}
use denote.Steps.{nothing}
use Rattle.core.specs.Sync.RawAtomic.Pointer.{cell, asks_ptr}
use Rattle.core.proofs.raw_atomic.Asked.{borrowed_ptr, PtrLies}
use Rattle.boxplace.specs.Places.{rests, placed}

module _ {M : Type 1} {𝓤 : Ura M} (𝓛 : Logic 𝓤) (R : RattleType) (ok : R.Denot → Type 0) (κ : Lft) (q : Share) (b o : ℕ) where
  open 𝓛 use {A}

  abbrev I : Fml
  I = placed R ok b o

  abbrev Rests : Ptr → Fml
  Rests = rests R ok

  -- what rests there comes out, and what is laid there stays
  pub exchanges : (new : Ptr) → ent 𝓤 (sep 𝓤 (A.inv (fbor κ I)) (sep 𝓤 (A.lft κ q) (sem 𝓛 (Rests new)))) (asks_ptr 𝓛 (block_ptr b (o + 0)) (λ _. new) (λ p. fsep (flft κ q) (Rests p)))
  exchanges new = let F : Ptr → SProp 𝓤 = PtrLies 𝓛 κ q I b (o + 0) Ptr (λ p. p) (λ _. new) (λ _. ftrue) Rests in
      borrowed_ptr 𝓛 κ q I b (o + 0) Ptr (λ p. p) (λ _. new) (λ _. ftrue) Rests (sem 𝓛 (Rests new)) (qed 𝓛 (‵ I ∷ ‵ (Rests new) ∷ []) ∵ suffices ! _ (upd_i 𝓤 (ex 𝓤 F)) $ fpick ! (λ p. fsplit ! $ show ! F p $ frame ! $ nothing ! $ frame ! $
      assume ! (‵ (cell b (o + 0) new)) $ suffices ! _ (upd_i 𝓤 (sep 𝓤 (sem 𝓛 I) (sem 𝓛 (Rests p)))) $ move ! (0 ∷ 2 ∷ []) $ fjoin ! $ fpack ! Ptr (λ r. fsep (cell b (o + 0) r) (Rests r)) new $ done !))
