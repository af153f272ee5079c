-- A strip of values is a run of loose ones. Assumes `Logic`.
use native.Mathlib.Nat.{suc-mul, zero-mul}
use Rattle.std.proofs.Common.{◌≡◌, ℕ, suc, ◌+◌, ◌*◌, ◌^◌, ◌<◌, List, [], ◌∷◌, length, refl, sym, ap, ◌∙◌, subst, arith}
use seplogic.Ra.Ura.{Ura}
use mir.Val.{Val, vstruct, of_list}
use mathlib.Core.List.{◌++◌}
use base.Fraction.{full_share}
use base.Logic.{ent, emp, id⊢}
use base.Fml.{ftrue}
use base.Shift.{Keyless}
use types.Logic.{Logic, sem}
use types.SemTy.{cells}
use types.Kit.{‵, ◌$◌, ◌∵◌, !, qed, move, drop, use1, rewrite, fsplit, fjoin, fpick, fpack, flt_i, done}
use denote.RattleType.{RattleType}
use denote.Laws.{Is}
use denote.Memory.{mem, part_at}
use denote.RawPtr.{Ptr, InBlock, block_ptr, ptr_val}
use denote.Shadow.{makes_shadow}
use denote.Steps.{nothing}
use denote.Param.Send.{IsSend}
use denote.Struct.Struct.{Struct}
use denote.Struct.Owning.{shape}
use Rattle.std.specs.Mem.{type_size}
use Rattle.core.proofs.ptr.Rows.{times_below}
use Rattle.std_alloc.proofs.SendSync.{lies}
use Rattle.std.specs.Ptr.{ptr_add}
use Rattle.atomic_table.specs.Seated.{strip}
use Rattle.poolsteps.specs.Run.{run_owns, run_at}
use Rattle.poolsteps.specs.contracts.memory.Run as run
use Rattle.poolsteps.proofs.raw.Fields.{word}

module _ (R : RattleType) where
  abbrev pub RunData : RattleType
  RunData = Struct (shape (run.the_type R))

  pub run_is : (p : Ptr) (vs : List Val) → Is RunData (p, tt) vs → vs ≡ word p ∷ []
  run_is p vs is = is.1.0 ∙ ap (λ (ws : List Val). vstruct (of_list (ws ++ [])) ∷ []) is.1.1.0

  pub run_made : {M : Type 1} {𝓤 : Ura M} (𝓛 : Logic 𝓤) (p : Ptr) → ent 𝓤 (emp 𝓤) (sem 𝓛 (RunData.own_val (p, tt) (word p ∷ [])))
  run_made 𝓛 p = makes_shadow 𝓛 (RunData.own_val (p, tt) (word p ∷ [])) (λ vss. (tt, (tt, tt))) ((ptr_val p ∷ [], tt), (refl, (refl, tt)))

  pub run_keyless : IsSend R → (base : Ptr) (i : ℕ) (xs : List R.Denot) → Keyless (run_owns R base i xs)
  run_keyless s base i [] = tt
  run_keyless s base i (x ∷ xs) = ((tt, lies R s (ptr_add R i base) x), run_keyless s base (suc i) xs)

  module _ {M : Type 1} {𝓤 : Ura M} (𝓛 : Logic 𝓤) (b o : ℕ) where
    abbrev s : ℕ
    s = type_size R

    of_cells : (xs : List R.Denot) (i at : ℕ) → at ≡ i * s + o → (i + length xs) * s < 2 ^ 63 → ent 𝓤 (sem 𝓛 (cells (mem R) xs b at)) (sem 𝓛 (run_owns R (block_ptr b o) i xs))
    of_cells [] i at e fit = id⊢ 𝓤 (emp 𝓤)
    of_cells (x ∷ xs) i at e fit = let fit' : (i + suc (length xs)) * s < 2 ^ 63 = fit in qed 𝓛 (‵ (part_at R full_share x b at) ∷ ‵ (cells (mem R) xs b (at + s)) ∷ []) ∵ move ! (1 ∷ []) $
        use1 𝓛 (‵ (run_owns R (block_ptr b o) (suc i) xs)) (of_cells xs (suc i) (at + s) (omega (arith, suc-mul i s)) (subst (λ (k : ℕ). k * s < 2 ^ 63) (omega arith) fit')) $
        move ! (1 ∷ []) $ rewrite ! 0 (λ (k : ℕ). ‵ (part_at R full_share x b k)) e refl $
        flt_i ! (suc i * s) (2 ^ 63) (times_below (suc i) (i + suc (length xs)) s (2 ^ 63) (omega arith) fit') $ fjoin ! $ fjoin ! $ done !

    to_cells : (xs : List R.Denot) (i at : ℕ) → at ≡ i * s + o → ent 𝓤 (sem 𝓛 (run_owns R (block_ptr b o) i xs)) (sem 𝓛 (cells (mem R) xs b at))
    to_cells [] i at e = id⊢ 𝓤 (emp 𝓤)
    to_cells (x ∷ xs) i at e = qed 𝓛 (‵ (run_owns R (block_ptr b o) i (x ∷ xs)) ∷ []) ∵ fsplit ! $ fsplit ! $ drop ! $
        rewrite ! 0 (λ (k : ℕ). ‵ (part_at R full_share x b k)) (sym e) refl $ move ! (1 ∷ []) $
        use1 𝓛 (‵ (cells (mem R) xs b (at + s))) (to_cells xs (suc i) (at + s) (omega (arith, suc-mul i s))) $ move ! (1 ∷ 0 ∷ []) $ fjoin ! $ done !

    pub of_strip : (xs : List R.Denot) → ent 𝓤 (sem 𝓛 (strip R (block_ptr b o) xs)) (sem 𝓛 (run_at R (block_ptr b o) (length xs) 0 xs))
    of_strip xs = qed 𝓛 (‵ (strip R (block_ptr b o) xs) ∷ []) ∵ fsplit ! $ fpick ! (λ f. drop ! $
        use1 𝓛 (‵ (run_owns R (block_ptr b o) 0 xs)) (of_cells xs 0 o (omega (arith, zero-mul s)) (subst (λ (k : ℕ). k * s < 2 ^ 63) (let e : length xs ≡ 0 + length xs = omega arith in e) f.1)) $
        nothing ! $ fpack ! (InBlock (block_ptr b o) × (length xs * s < 2 ^ 63)) (λ _. ftrue) f $ fjoin ! $ done !)

    pub to_strip : (xs : List R.Denot) → ent 𝓤 (sem 𝓛 (run_at R (block_ptr b o) (length xs) 0 xs)) (sem 𝓛 (strip R (block_ptr b o) xs))
    to_strip xs = qed 𝓛 (‵ (run_at R (block_ptr b o) (length xs) 0 xs) ∷ []) ∵ fsplit ! $ fpick ! (λ f. drop ! $
        use1 𝓛 (‵ (cells (mem R) xs b o)) (to_cells xs 0 o (omega (arith, zero-mul s))) $
        nothing ! $ fpack ! (InBlock (block_ptr b o) × (length xs * (mem R).size < 2 ^ 63)) (λ _. ftrue) f $ fjoin ! $ done !)
