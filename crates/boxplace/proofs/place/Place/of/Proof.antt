-- The walk of `of`: the pointer goes into a place, and what it owns rests there.
use Rattle.boxplace.proofs.Steps.{◌≡◌, List, [], ◌∷◌, ◌++◌, refl, sym, subst, a_type, dcons, dnil, Val, vptr, inst_fn, SProp, ent, emp, id⊢, ftrue, fsep, WpFn, ‵, raw, ◌⊛◌, ◌$◌, ◌∵◌, !, qed, by, move, keep, drop, split, fsplit, fjoin, use0, rewrite, suffices, stop, fld, of_opd, no_more, and_then, returns, enter, alloc_all, pass_all, free_all, look_at, get, get_in, sets, agg, sub, whole, tables, fact, fact_i, yes, no, RattleType, owns, types_at, plain, RefOf, Ptr, nothing, heard, param, bounded, Stays, stay_dropped, walk_of, Goes-dropped, proved_at, leaves}
use Rattle.std.proofs.Common.{Option, IfSome}
use types.Kit.{fpack}
use denote.Laws.{Typed}
use denote.Triple.Entry.{alive}
use Rattle.core.proofs.atomic.Steps.{Ptr-Good}
use Rattle.std.specs.contracts.alloc.Global as global
use Rattle.std.proofs.Handle.{heap_val, heap_Tells}
use Rattle.boxplace.specs.Places.{heap_handle, fact as said, loose_owns, rests}
use Rattle.boxplace.specs.contracts.loose.Loose as loose
use Rattle.boxplace.proofs.LooseFields.{word, word_good, data_is}
use Rattle.boxplace.proofs.PlaceFields.{place_val, place_good, Fields, fields_in}
use Rattle.boxplace.specs.contracts.place.Place.of.{ended, clauses}
use Rattle.boxplace.specs.contracts.place.Place.of.Key.{name as #self}
use Rattle.boxplace.proofs.place.Place.of.Statement.{statement}
use Rattle.boxplace.proofs.place.Place.of.Code as code

pub of_spec : {M : Type 1} → statement M
of_spec 𝓤 𝓛 𝓜 𝓡 wired X Y L _ g d _ =
    let H = 𝓛.H in let 𝓣 = tables 𝓤 H 𝓜 𝓡 𝓡.env in let R : RattleType = param 0 X in let G : RattleType = param 1 Y in let En = ended X Y g d in let c = clauses X Y g d 𝓛 𝓜.mem 𝓡.returns in
    let inst = bounded (a_type ∷ a_type ∷ []) (X, (Y, tt)) (dcons d dnil) in let fn = inst_fn inst code.function in let Z : RattleType = global.the_row in let Off : RattleType = loose.the_row R in let F : RattleType = Fields R G g in
    let about = RefOf (0 ∷ []) tt (plain (λ _. G)) (λ _. tt) in let stays : Stays En.signature.params En.kept = (stay_dropped (plain (λ _. Off)) no, (stay_dropped (plain (λ _. Z)) yes, (stay_dropped about yes, tt))) in
    proved_at 𝓛 En stays c 𝓜 𝓡 (Goes-dropped 𝓛 3 (plain (λ _. Off)) no (λ κs x f. refl), (Goes-dropped 𝓛 3 (plain (λ _. Z)) yes (λ κs x f. refl), (Goes-dropped 𝓛 3 about yes (λ κs x f. refl), tt))) (#self inst) fn (code.unfolded 𝓤 H 𝓜 𝓡 wired (X, (Y, tt)) d) (λ z are.
    let e : Off.Denot = z.0.3.0 in let p : Ptr = e.at in let tag : Y.Denot = z.0.3.1.1.0.now in let at : Val = vptr z.0.3.1.1.0.ref_ptr.0 z.0.3.1.1.0.ref_ptr.1 in let ok = g.fits tag in
    let Post : Val → SProp 𝓤 = (walk_of 𝓛 En stays c).post z in let Run : List Val → SProp 𝓤 = λ ws. WpFn 𝓤 H 𝓣.C 𝓣.Λ fn ws Post in let Asked : Type 0 = IfSome e.item ok in let Told : Type 0 = tag ≡ tag in
    let pointer = data_is R p z.0.4.0 are.0.0 in let handle = heap_Tells heap_handle z.0.4.1.0 are.1.0 in let us : List Val = word p ∷ heap_val ∷ at ∷ [] in let v : Val = place_val p in
    qed 𝓛 ((raw (alive 𝓛 En.signature z.0.0 z.0.1) ⊛ ‵ (owns (types_at En.signature.params z.0.0) z.0.3 z.0.4)) ∷ raw (fact 𝓤 _) ∷ raw (fact 𝓤 _) ∷ raw (fact 𝓤 Asked) ∷ []) ∵
    keep ! (3 ∷ 0 ∷ []) $ heard ! Asked (λ asked. split ! $ move ! (1 ∷ []) $ fsplit ! $ fsplit ! $ drop ! $ move ! (1 ∷ []) $ fsplit ! $
    rewrite ! 0 (λ (vs : List Val). ‵ (Z.own_val heap_handle vs)) handle refl $ keep ! (2 ∷ 0 ∷ 3 ∷ []) $
    -- [what the pointer owns; the handle; the tokens]
    nothing ! $ fpack ! (IfSome e.item ok) (λ _. ftrue) asked $ move ! (1 ∷ 0 ∷ []) $ fjoin ! $ fpack ! (Option R.Denot) (λ i. fsep (loose_owns R p i) (said (IfSome i ok))) e.item $
    move ! (1 ∷ []) $ fields_in R G g ! p $ fjoin ! $ fpack ! Ptr (λ r. fsep (F.own_val (record { at = r; alloc = heap_handle }) (v ∷ [])) (rests R ok r)) p $
    nothing ! $ fpack ! (Typed F.mir (v ∷ [])) (λ _. ftrue) (place_good R G g p, tt) $ fjoin ! $
    -- [the place; the tokens]
    suffices ! (Run us) (subst (λ (vs : List Val). ent 𝓤 (Run us) (Run vs)) (sym (λ i. pointer i ++ (handle i ++ (are.1.1.0.0 i ++ [])))) (id⊢ 𝓤 (Run us))) $
    enter ! 𝓣.C 𝓣.Λ fn us Post $ alloc_all ! (λ l. pass_all ! refl (word_good p, ((tt, ((tt, tt), tt)), ((tt, tt), tt))) $
    sets ! (of_opd ! (get_in ! (fld ! refl (stop !)) (sub ! 0 refl (whole !)))) refl (Ptr-Good p) $ sets ! (agg ! (and_then ! (get ! refl) (and_then ! (get ! refl) (no_more !)))) refl (place_good R G g p) $
    use0 𝓛 (raw (fact 𝓤 Told)) (fact_i 𝓤 Told (emp 𝓤) refl) $ nothing ! $ nothing ! $ fjoin ! $ nothing ! $ fjoin ! $ nothing ! $ fjoin ! $
    returns ! (look_at ! 0 refl) $ free_all ! refl $ keep ! (3 ∷ 0 ∷ 2 ∷ 1 ∷ []) $ by ! (leaves 𝓛 En stays c z v tag (tt, (tt, (tt, tt))) (tt, (tt, (tt, tt)))))))
