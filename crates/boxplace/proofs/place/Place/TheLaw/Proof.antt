-- A `&` to a place is an invariant over the borrow of its pointer, with the box that it points to. Assumes `Logic`.
use Rattle.std.proofs.Common.{ℕ, zero, ◌+◌, List, [], ◌∷◌}
use seplogic.Ra.Ura.{Ura}
use mir.Val.{Val}
use base.Fraction.{full_share}
use base.Logic.{SProp, ent, sep, wand, ex, id⊢, all_e, apply∗, upd_i}
use base.Fml.{Lft, Share, Fml, ftrue, fsep, fseps, fwand, fupd, fdead, fbor, flft, finv, Incl-refl}
use base.Before.{before}
use types.Logic.{Logic, sem}
use types.Kit.{‵, raw, ◌⊛◌, some, later, ◌$◌, ◌∵◌, !, qed, by, move, keep, drop, split, fsplit, fsplit3, fjoin, fpick, fpack, pick, show, assume, suffices, use0, use1, use2, updating, await, now, done}
use types.Tokens.{bor_open, obor_alter}
use types.Na.{before-Incl}
use denote.RattleType.{RattleType, Denots}
use denote.Builtin.{RawPtr}
use denote.Memory.{part_of, part_at, cell_at, lone}
use denote.RawPtr.{Ptr, block_ptr, rawptr_Lawful}
use denote.Steps.{nothing}
use denote.Sharing as lent
use denote.SharingLaws.{some_shr_laws, beside_shr_laws, ends_shr_laws, always_shr_laws}
use denote.Struct.Struct.{Struct}
use denote.Struct.Members.{Member, rows_of, parts_at}
use denote.Struct.Parts.{PartsBack, Struct-parts, shape_of}
use denote.Param.Laws.{Laws}
use Rattle.core.specs.Sync.RawAtomic.Pointer.{cell}
use Rattle.core.proofs.cell.Borrows.{by_one}
use Rattle.core.proofs.atomic.Pointer.{pointer}
use Rattle.std.specs.contracts.alloc.Global as heap
use Rattle.std.proofs.alloc.Global.TheLaws as heap_laws
use Rattle.boxplace.specs.Places.{heap_handle, rests, placed, place_shares}
use Rattle.boxplace.specs.declared.place.Fits.{Ghosts}
use Rattle.boxplace.specs.contracts.place.Place as C
use Rattle.boxplace.proofs.PlaceFields.{cell_out, cell_in}
use Rattle.boxplace.proofs.place.Place.TheLaw.Statement.{statement}

module _ (R G : RattleType) (g : Ghosts R.Denot G.Denot) {M : Type 1} {𝓤 : Ura M} (𝓛 : Logic 𝓤) (tag : G.Denot) (b o : ℕ) (κ : Lft) (q : Share) where
  open 𝓛 use {H, A}

  abbrev ⟦◌⟧ : Fml → SProp 𝓤
  ⟦ P ⟧ = sem 𝓛 P

  abbrev ms : List Member
  ms = pointer ∷ record { row = heap.the_row; ty = lone heap.the_row.mir } ∷ []

  abbrev Data : RattleType
  Data = Struct (shape_of [] ms)

  abbrev P : Fml
  P = part_at (C.the_written R G g) full_share tag b o

  abbrev Rests : Ptr → Fml
  Rests = rests R (g.fits tag)

  abbrev I : Fml
  I = placed R (g.fits tag) b o

  abbrev Fields : Ptr → Fml
  Fields p = part_at Data full_share (p, (heap_handle, tt)) b o

  abbrev at : Ptr → Fml
  at p = part_at RawPtr full_share p b (o + 0)

  abbrev Handle : Fml
  Handle = fsep (part_at heap.the_row full_share heap_handle b (o + 8)) ftrue

  out : ent 𝓤 ⟦ P ⟧ (ex 𝓤 (λ (p : Ptr). sep 𝓤 ⟦ Fields p ⟧ ⟦ Rests p ⟧))
  unfolding part_of
  out = qed 𝓛 (‵ P ∷ []) ∵ fpick ! (λ vs. fsplit ! $ move ! (1 ∷ []) $ fpick ! (λ p. fsplit ! $ move ! (2 ∷ 0 ∷ []) $ fjoin ! $
      fpack ! (List Val) (λ us. fsep (cell_at full_share Data.mir us b o) (Data.own_val (p, (heap_handle, tt)) us)) vs $ show ! (λ (r : Ptr). sep 𝓤 ⟦ Fields r ⟧ ⟦ Rests r ⟧) p $ done !))

  back : (p : Ptr) → ent 𝓤 (sep 𝓤 ⟦ Fields p ⟧ ⟦ Rests p ⟧) ⟦ P ⟧
  unfolding part_of
  back p = qed 𝓛 (‵ (Fields p) ∷ ‵ (Rests p) ∷ []) ∵ fpick ! (λ vs. fsplit ! $ move ! (1 ∷ 2 ∷ []) $ fjoin ! $ fpack ! Ptr (λ r. fsep (Data.own_val (r, (heap_handle, tt)) vs) (Rests r)) p $ move ! (1 ∷ 0 ∷ []) $ fjoin ! $
      fpack ! (List Val) (λ us. fsep (cell_at full_share Data.mir us b o) ((C.the_written R G g).own_val tag us)) vs $ done !)

  way_back : ent 𝓤 (sep 𝓤 ⟦ Handle ⟧ (PartsBack 𝓛 full_share [] ms b o)) ⟦ fwand (fsep (fdead κ) (fseps (I ∷ []))) (fupd P) ⟧
  unfolding fseps
  way_back = qed 𝓛 (‵ Handle ∷ raw (PartsBack 𝓛 full_share [] ms b o) ∷ []) ∵ assume ! (‵ (fsep (fdead κ) (fseps (I ∷ [])))) $ suffices ! ⟦ P ⟧ (upd_i 𝓤 ⟦ P ⟧) $
      fsplit3 ! $ drop ! $ fpick ! (λ p. let x : Denots (rows_of ms) = (p, (heap_handle, tt)) in fsplit ! $ use1 𝓛 (‵ (at p)) (cell_in 𝓛 b (o + 0) p) $ keep ! (0 ∷ 3 ∷ 4 ∷ 1 ∷ []) $ fjoin ! $ move ! (1 ∷ []) $
      use1 𝓛 (raw (wand 𝓤 ⟦ parts_at full_share ms zero x b o ⟧ ⟦ Fields p ⟧)) (all_e 𝓤 (λ (a : Denots (rows_of ms)). wand 𝓤 ⟦ parts_at full_share ms zero a b o ⟧ ⟦ part_at Data full_share a b o ⟧) x) $ move ! (1 ∷ 0 ∷ []) $
      use2 𝓛 (‵ (Fields p)) (apply∗ 𝓤 ⟦ parts_at full_share ms zero x b o ⟧ ⟦ Fields p ⟧) $ by ! (back p))

  shared : ent 𝓤 (sep 𝓤 (A.bor κ P) (A.lft κ q)) (H.⇛ (sep 𝓤 ⟦ place_shares R (g.fits tag) (block_ptr b o) κ ⟧ (A.lft κ q)))
  unfolding fseps
  shared = qed 𝓛 (‵ (fbor κ P) ∷ ‵ (flft κ q) ∷ []) ∵ updating ! $ bor_open ! tt $ move ! (1 ∷ []) $ use1 𝓛 (some (λ (p : Ptr). ‵ (Fields p) ⊛ ‵ (Rests p))) out $ pick ! (λ p. split ! $
      use1 𝓛 ((‵ (at p) ⊛ ‵ Handle) ⊛ raw (PartsBack 𝓛 full_share [] ms b o)) (Struct-parts 𝓛 full_share [] ms (rawptr_Lawful 𝓛, (heap_laws.the_row_laws.lawful 𝓛, tt)) (p, (heap_handle, tt)) b o) $ split ! $ split ! $
      use1 𝓛 (‵ (cell b (o + 0) p)) (cell_out 𝓛 b (o + 0) p) $ move ! (0 ∷ 3 ∷ []) $ fjoin ! $ fpack ! Ptr (λ r. fsep (cell b (o + 0) r) (Rests r)) p $ nothing ! $ move ! (1 ∷ 0 ∷ []) $ fjoin ! $ move ! (1 ∷ 2 ∷ []) $
      use2 𝓛 (‵ (fwand (fsep (fdead κ) (fseps (I ∷ []))) (fupd P))) way_back $ move ! (2 ∷ 1 ∷ 0 ∷ []) $ obor_alter ! tt (I ∷ []) $
      use1 𝓛 (‵ (fbor κ I) ⊛ ‵ ftrue) (id⊢ 𝓤 _) $ split ! $ use1 𝓛 (later (‵ (finv (fbor κ I)))) (𝓛.invs.inv_new (fbor κ I)) $ await ! tt $
      use0 𝓛 (‵ (before κ κ)) (before-Incl 𝓛 κ κ (Incl-refl κ)) $ fjoin ! $ fpack ! Lft (λ s. fsep (before κ s) (finv (fbor s I))) κ $ now ! $ keep ! (0 ∷ 2 ∷ []) $ done !)

pub shares : (T G : RattleType) (g : Ghosts T.Denot G.Denot) (L : Laws T) (K : Laws G) → statement T G g L K
shares T G g L K = record {
  shr_laws = λ d b o. let I : Fml = placed T (g.fits d) b o in some_shr_laws Lft (λ α. lent.beside (lent.ends α) (lent.always (fbor α I))) (λ α. beside_shr_laws (lent.ends α) (lent.always (fbor α I)) (ends_shr_laws α) (always_shr_laws (fbor α I)));
  shares = λ M 𝓤 𝓛 d κ ts b o inc sp. by_one 𝓛 κ ts sp (𝓛.A.bor κ (part_at (C.the_written T G g) full_share d b o)) (sem 𝓛 (place_shares T (g.fits d) (block_ptr b o) κ)) (shared T G g 𝓛 d b o κ);
}
