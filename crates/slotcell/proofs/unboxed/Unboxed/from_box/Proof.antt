-- `from_box` takes the box apart.
use Rattle.slotcell.proofs.Steps.{◌≡◌, List, [], ◌∷◌, ◌++◌, refl, sym, ap, ◌∙◌, subst, a_type, dcons, dnil, Val, vptr, vstruct, of_list, inst_fn, SProp, ent, emp, id⊢, ftrue, fsep, flft, WpFn, ‵, raw, ◌⊛◌, some, later, ◌$◌, ◌∵◌, !, qed, by, move, keep, drop, split, split3, join, fsplit, fjoin, fpick, pick, use0, use1, await, rewrite, suffices, feq_l, stop, fld, of_opd, no_more, and_then, returns, enter, alloc_all, pass_all, free_all, look_at, get, get_in, sets, lands_as, agg, sub, whole, tables, fact, fact_i, no, RattleType, owns, types_at, plain, RawPtr, Ptr, block_ptr, ptr_val, in_a_block, nothing, only, heard, param, bounded, param_laws, Tuple, triple_of, calls_at, Stays, stay_dropped, walk_of, fm, proved_at, leaves}
use Rattle.std.proofs.alloc.Calls.{Goes-blank, handle_tells}
use Rattle.std_alloc.specs.Box.Ownership.{box_owns}
use Rattle.std_alloc.proofs.BoxSteps.Form as box
use Rattle.std_alloc.proofs.BoxSteps.Steps.{box_out, box_in}
use Rattle.std_alloc.specs.contracts.boxed.Box.into_raw_with_allocator as callee
use Rattle.std_alloc.proofs.boxed.Box.into_raw_with_allocator.Met.{met}
use Rattle.slotcell.proofs.UnboxedFields.{pair, pair_good, never_null, unboxed_in}
use Rattle.slotcell.specs.contracts.unboxed.Unboxed.from_box.{ended, clauses}
use Rattle.slotcell.specs.contracts.unboxed.Unboxed.from_box.Key.{name as #self}
use Rattle.slotcell.proofs.unboxed.Unboxed.from_box.Statement.{statement}
use Rattle.slotcell.proofs.unboxed.Unboxed.from_box.Code as code

pub from_box_spec : {M : Type 1} → statement M
from_box_spec 𝓤 𝓛 𝓜 𝓡 wired T A L LA g d dx dd allocator glue glued =
    let H = 𝓛.H in let 𝓣 = tables 𝓤 H 𝓜 𝓡 𝓡.env in let R : RattleType = param 0 T in let Z : RattleType = param 1 A in let LZ = param_laws 1 A LA in
    let En = ended T A g d dx dd in let c = clauses T A g d dx dd 𝓛 𝓜.mem 𝓡.returns in let inst = bounded (a_type ∷ a_type ∷ []) (T, (A, tt)) (dcons d (dcons dx (dcons dd dnil))) in
    let fn = inst_fn inst code.function in let E : box.Bx = record { row = T; laws = L; al = record { row = A; laws = LA; g = g; d = d; drops = dd } } in
    let Apart = triple_of 𝓛 (callee.signature T A g d dd dx) (callee.spec T A g d dd dx 𝓛 𝓜.mem 𝓡.returns) in
    let known = met 𝓤 𝓛 𝓜 𝓡 (code.calls-std_alloc::boxed::Box::into_raw_with_allocator 𝓡.env wired) T A L LA g d dd dx allocator glued glue in
    let stays : Stays En.signature.params En.kept = (stay_dropped (plain (λ _. box.B E)) no, tt) in
    proved_at 𝓛 En stays c 𝓜 𝓡 (Goes-blank 𝓛 2 (plain (λ _. box.B E)) no (λ κs x f. tt), tt) (#self inst) fn (code.unfolded 𝓤 H 𝓜 𝓡 wired (T, (A, tt)) d dx dd) (λ z are.
    let κs = z.0.0 in let qs = z.0.1 in let v = z.0.3.0 in let a = v.alloc in let x = v.value in
    let Post : Val → SProp 𝓤 = (walk_of 𝓛 En stays c).post z in let Run : List Val → SProp 𝓤 = λ ws. WpFn 𝓤 H 𝓣.C 𝓣.Λ fn ws Post in
    let tokens = ‵ (flft κs.0 qs.0) ⊛ ‵ (flft κs.1.0 qs.1.0) ⊛ ‵ ftrue in let Both = Tuple (RawPtr ∷ Z ∷ []) in
    qed 𝓛 ((tokens ⊛ ‵ (owns (types_at En.signature.params κs) z.0.3 z.0.4)) ∷ raw ((c κs z.0.3).requires z.1) ∷ []) ∵ split ! $ move ! (1 ∷ []) $ fsplit ! $
    box_out E ! v z.0.4.0 (λ b o h e laid fits. box_in E ! v b o x e refl $
    -- [the box; nothing; the tokens; what is asked]
    let w : Val = box.word E h b o in let good = pair_good R Z LZ g b o h fits in let y : Apart.Ghost = ((κs, qs, tt, (v, tt), (w ∷ [], tt)), tt) in
    fjoin ! $ move ! (1 ∷ 0 ∷ []) $ join ! $ join ! $ use1 𝓛 (raw (Apart.pre y)) (id⊢ 𝓤 _) $
    suffices ! (Run (w ∷ [])) (subst (λ (us : List Val). ent 𝓤 (Run (w ∷ [])) (Run us)) (sym (λ i. laid i ++ [])) (id⊢ 𝓤 (Run (w ∷ [])))) $
    enter ! 𝓣.C 𝓣.Λ fn (w ∷ []) Post $ alloc_all ! (λ l. pass_all ! refl (good, tt) $ sets ! (of_opd ! (get ! refl)) refl good $
    calls_at ! (fm 𝓛 𝓜 𝓡) Apart known y (and_then ! (get ! refl) (no_more !)) (λ u.
    use1 𝓛 (later (some (λ (r : Ptr × A.Denot). (tokens ⊛ ‵ (Both.own_val r (u ∷ []))) ⊛ some (λ (_ : (Unit {0} × (Unit {0} × Unit {0})) × Unit {0}).
    ‵ (fsep (fsep ftrue (fsep ftrue ftrue)) ftrue) ⊛ (raw (fact 𝓤 (r.1 ≡ a)) ⊛ ‵ (box_owns (g.dealloc_token a) R r.0 x)))))) (id⊢ 𝓤 _) $
    await ! tt $ pick ! (λ r. split ! $ move ! (1 ∷ []) $ pick ! (λ _. split3 ! $ drop ! $ heard ! (r.1 ≡ a) (λ same.
    in_a_block ! r.0 (λ p. box_owns (g.dealloc_token a) R p x) (never_null R Z LZ g 𝓛 a x) (λ b' o' at.
    -- [the object; the tokens with the pair]
    move ! (1 ∷ []) $ split ! $ move ! (1 ∷ []) $ fpick ! (λ vss. fsplit ! $ feq_l ! (λ both. fsplit ! $ feq_l ! (λ pointer. fsplit ! $
    rewrite ! 0 (λ (s : A.Denot). ‵ (A.own_val s vss.1.0)) same refl $ handle_tells E.al ! a vss.1.0 (λ h' handle fits'.
    let good' = pair_good R Z LZ g b' o' h' fits' in
    lands_as ! (ap only (both ∙ (λ i. vstruct (of_list ((pointer ∙ ap (λ (p : Ptr). ptr_val p ∷ []) at) i ++ (handle i ++ []))) ∷ []))) refl good' $
    sets ! (of_opd ! (get_in ! (fld ! refl (stop !)) (sub ! 0 refl (whole !)))) refl (tt, tt) $ sets ! (of_opd ! (get_in ! (fld ! refl (stop !)) (sub ! 1 refl (whole !)))) refl fits' $
    sets ! (of_opd ! (get ! refl)) refl fits' $ sets ! (agg ! (and_then ! (get ! refl) (and_then ! (get ! refl) (no_more !)))) refl good' $
    -- [the handle; nothing; the tokens; the object]
    move ! (3 ∷ 0 ∷ []) $ unboxed_in R Z LZ g ! b' o' h' a x $ use0 𝓛 (raw (fact 𝓤 (x ≡ x))) (fact_i 𝓤 (x ≡ x) (emp 𝓤) refl) $ nothing ! $ nothing ! $ fjoin ! $
    returns ! (look_at ! 0 refl) $ free_all ! refl $ keep ! (4 ∷ 0 ∷ 2 ∷ 1 ∷ []) $
    by ! (leaves 𝓛 En stays c z (pair (vptr b' o') h') (record { at = block_ptr b' o'; alloc = a; object = x }) ((tt, (tt, tt)), tt) (tt, tt))))))))))))))
