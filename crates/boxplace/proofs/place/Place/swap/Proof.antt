-- The walk of `swap`: one exchange of the pointer.
use Rattle.boxplace.proofs.Steps.{ℕ, ◌+◌, [], ◌∷◌, refl, a_type, dcons, dnil, named, Val, vptr, inst_fn, SProp, emp, Lft, Fml, ftrue, fsep, flft, ‵, raw, ◌⊛◌, some, later, at_ret, ◌$◌, ◌∵◌, !, qed, by, move, keep, drop, split, join, fsplit, fjoin, fpick, pick, use0, use2, await, stop, fld, addr, of_opd, no_more, and_then, first, blocks, exec, returns, enter, alloc_all, pass_all, free_all, look_at, get, get_in, through, sets, lands_last, env, agg, sub, whole, tables, fact, fact_i, yes, no, RattleType, owns, types_at, plain, RefOf, Ptr, block_ptr, ptr_val, nothing, heard, unhide, param, bounded, shr_vals, shr_Tells, Stays, stay_dropped, walk_of, Goes-dropped, after, fm, proved, leaves}
use Rattle.std.proofs.Common.{Option, IfSome}
use base.Logic.{wand, apply∗, via}
use base.Fml.{Share}
use types.Kit.{fpack, mean, use3}
use types.Run.{lit, Calls-last}
use contract.Shared.{Lends-one}
use Rattle.core.proofs.atomic.Steps.{Ptr-Good}
use Rattle.std.proofs.raw_atomic.Calls.{seq_cst}
use Rattle.std.proofs.raw_atomic.PtrCalls.{seq_cst_good, found, finds, swaps}
use Rattle.boxplace.specs.Places.{fact as said, loose_owns, rests}
use Rattle.boxplace.specs.contracts.loose.Loose as loose
use Rattle.boxplace.specs.contracts.place.Place as place
use Rattle.boxplace.proofs.LooseFields.{word, word_good, Data, data_is, data_made}
use Rattle.boxplace.proofs.PlaceSteps.{exchanges}
use Rattle.boxplace.specs.contracts.place.Place.swap.{ended, clauses}
use Rattle.boxplace.specs.contracts.place.Place.swap.Key.{name as #self}
use Rattle.boxplace.proofs.place.Place.swap.Statement.{statement}
use Rattle.boxplace.proofs.place.Place.swap.Code as code

pub swap_spec : {M : Type 1} → statement M
swap_spec 𝓤 𝓛 𝓜 𝓡 wired X Y L _ g d _ =
    let H = 𝓛.H in let 𝓣 = tables 𝓤 H 𝓜 𝓡 𝓡.env in let R : RattleType = param 0 X in let G : RattleType = param 1 Y in let En = ended X Y g d in let c = clauses X Y g d 𝓛 𝓜.mem 𝓡.returns in
    let inst = bounded (a_type ∷ a_type ∷ []) (X, (Y, tt)) (dcons d dnil) in let fn = inst_fn inst code.function in let Row : RattleType = place.the_row R G g in let Off : RattleType = loose.the_row R in
    let self = RefOf (0 ∷ []) tt (plain (λ _. Row)) (λ _. tt) in let stays : Stays En.signature.params En.kept = (stay_dropped self yes, (stay_dropped (plain (λ _. Off)) no, tt)) in
    proved 𝓛 En stays c 𝓜 𝓡 (Goes-dropped 𝓛 3 self yes (λ κs x f. refl), (Goes-dropped 𝓛 3 (plain (λ _. Off)) no (λ κs x f. refl), tt)) (#self inst) fn (code.unfolded 𝓤 H 𝓜 𝓡 wired (X, (Y, tt)) d)
    (λ κs. (shr_vals, ((λ e. word e.at ∷ []), tt))) (λ κs. (shr_Tells (named 0) κs.0 Row, ((λ e vs is. data_is R e.at vs is.0), tt))) (λ κs qs bounds a gh are.
    let b : ℕ = a.0.ref_ptr.0 in let o : ℕ = a.0.ref_ptr.1 in let κ : Lft = κs.0 in let q : Share = qs.0 in let ok = g.fits a.0.now in let e : Off.Denot = a.1.0 in let new : Ptr = e.at in let others : Fml = fsep (flft κs.1.0 qs.1.0) (fsep (flft κs.1.1.0 qs.1.1.0) ftrue) in
    let y : (walk_of 𝓛 En stays c).Ghost = ((κs, qs, bounds, a, (vptr b o ∷ [], (word new ∷ [], tt))), gh) in let Post : Val → SProp 𝓤 = (walk_of 𝓛 En stays c).post y in let Asked : Type 0 = IfSome e.item ok in
    let Rests : Ptr → Fml = rests R ok in let Resting : Ptr → Option R.Denot → Fml = λ p i. fsep (loose_owns R p i) (said (IfSome i ok)) in
    qed 𝓛 (((‵ (flft κ q) ⊛ ‵ others) ⊛ ‵ (owns (types_at En.signature.params κs) a y.0.4)) ∷ raw (fact 𝓤 _) ∷ raw (fact 𝓤 _) ∷ raw (fact 𝓤 Asked) ∷ []) ∵
    keep ! (3 ∷ 0 ∷ []) $ heard ! Asked (λ asked. split ! $ split ! $ move ! (2 ∷ []) $ fsplit ! $ fsplit ! $ keep ! (2 ∷ 1 ∷ 3 ∷ 4 ∷ []) $ fsplit ! $ fsplit ! $ keep ! (1 ∷ 3 ∷ 4 ∷ 5 ∷ []) $
    -- [what the pointer owns; the `&`; the token of its lifetime; the other tokens]
    nothing ! $ fpack ! (IfSome e.item ok) (λ _. ftrue) asked $ move ! (1 ∷ 0 ∷ []) $ fjoin ! $ fpack ! (Option R.Denot) (Resting new) e.item $
    enter ! 𝓣.C 𝓣.Λ fn (vptr b o ∷ word new ∷ []) Post $ alloc_all ! (λ l. pass_all ! refl ((tt, tt), (word_good new, tt)) $ let Ev = env fn.locals l in
    move ! (1 ∷ []) $ unhide ! $ fpick ! (λ α. fsplit ! $ move ! (0 ∷ 3 ∷ []) $
    use2 𝓛 (later (some (λ (s : Share). ‵ (flft α s) ⊛ raw (wand 𝓤 (𝓛.A.lft α s) (H.⇛ (𝓛.A.lft κ q)))))) (Lends-one 𝓛 𝓜 𝓡 κ α q) $ await ! tt $ pick ! (λ s. split ! $
    -- [the token of α; the way back; the invariant; what is laid there; the other tokens]
    let out : Ptr → Fml = λ p. fsep (flft α s) (Rests p) in sets ! (of_opd ! (get_in ! (fld ! refl (stop !)) (sub ! 0 refl (whole !)))) refl (Ptr-Good new) $
    first ! $ blocks ! $ sets ! (addr ! (through ! refl (fld ! refl (stop !)))) refl (tt, tt) $ sets ! (agg ! (and_then ! (lit ! tt) (no_more !))) refl seq_cst_good $ move ! (2 ∷ 0 ∷ 3 ∷ []) $
    use3 𝓛 (raw (𝓣.C _ (vptr b (o + 0) ∷ ptr_val new ∷ seq_cst ∷ []) (λ u. mean 𝓛 (found 𝓛 out u))))
    (via 𝓤 _ (exchanges 𝓛 R ok α s b o new) (swaps 𝓛 𝓜 𝓡 (code.calls-core::raw_atomic::ptr::swap 𝓡.env wired) X L (block_ptr b (o + 0)) new out)) $
    Calls-last ! (fm 𝓛 𝓜 𝓡) (found 𝓛 out) (and_then ! (get ! refl) (and_then ! (get ! refl) (and_then ! (get ! refl) (no_more !)))) (λ u. finds ! out (λ p.
    lands_last ! refl (Ptr-Good p) $ exec ! 𝓣.C 𝓣.Λ Ev (after 2 fn.body) (at_ret Ev Post) $ sets ! (of_opd ! (get ! refl)) refl (Ptr-Good p) $ sets ! (agg ! (and_then ! (get ! refl) (no_more !))) refl (word_good p) $
    fsplit ! $ move ! (0 ∷ 2 ∷ []) $ use2 𝓛 (later (‵ (flft κ q))) (apply∗ 𝓤 (𝓛.A.lft α s) (H.⇛ (𝓛.A.lft κ q))) $ await ! tt $ move ! (0 ∷ 2 ∷ []) $ join ! $ move ! (1 ∷ []) $
    fpick ! (λ item. fsplit ! $ move ! (1 ∷ []) $ fpick ! (λ fit. drop ! $ let r : Off.Denot = record { at = p; item = item } in let Told : Type 0 = IfSome item ok in
    use0 𝓛 (‵ ((Data R).own_val (p, tt) (word p ∷ []))) (data_made R 𝓛 p) $ fjoin ! $ use0 𝓛 (raw (fact 𝓤 Told)) (fact_i 𝓤 Told (emp 𝓤) fit) $ nothing ! $ nothing ! $ fjoin ! $ nothing ! $ fjoin ! $
    -- [nothing; what is told; what lay there; the tokens]
    returns ! (look_at ! 0 refl) $ free_all ! refl $ keep ! (3 ∷ 0 ∷ 2 ∷ 1 ∷ []) $ by ! (leaves 𝓛 En stays c y (word p) r (tt, (tt, tt)) (tt, (tt, tt))))))))))))
