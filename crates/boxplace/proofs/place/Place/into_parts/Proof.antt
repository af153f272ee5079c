-- The walk of `into_parts`: what rests in the place goes with its pointer.
use Rattle.boxplace.proofs.Steps.{List, [], ◌∷◌, ◌++◌, refl, sym, subst, a_type, dcons, dnil, Val, vstruct, of_list, inst_fn, SProp, ent, emp, id⊢, fsep, WpFn, ‵, raw, ◌⊛◌, ◌$◌, ◌∵◌, !, qed, by, move, keep, drop, split, fsplit, fjoin, fjoin3, fpick, use0, suffices, feq_i, stop, fld, of_opd, no_more, and_then, returns, enter, alloc_all, pass_all, free_all, look_at, get, get_in, sets, agg, sub, whole, tables, fact, fact_i, no, RattleType, owns, types_at, plain, nothing, param, bounded, Stays, stay_dropped, walk_of, Goes-dropped, proved_at, leaves}
use Rattle.std.proofs.Common.{IfSome, T}
use mir.Val.{has_ty, WT}
use types.Kit.{fpack}
use denote.Param.{layout}
use denote.RattleType.{Valss}
use denote.Signature.{type_at}
use denote.Triple.Entry.{alive}
use Rattle.core.proofs.atomic.Steps.{Ptr-Good}
use Rattle.std.specs.contracts.alloc.Global as global
use Rattle.std.proofs.Handle.{heap_val}
use Rattle.boxplace.specs.Places.{heap_handle}
use Rattle.boxplace.specs.contracts.loose.Loose as loose
use Rattle.boxplace.specs.contracts.place.Place as place
use Rattle.boxplace.proofs.UnboxedFields.{pair}
use Rattle.boxplace.proofs.LooseFields.{word, word_good, Data, data_made}
use Rattle.boxplace.proofs.PlaceFields.{parts_good, place_val, place_good, fields_out}
use Rattle.boxplace.specs.contracts.place.Place.into_parts.{ended, clauses}
use Rattle.boxplace.specs.contracts.place.Place.into_parts.Key.{name as #self}
use Rattle.boxplace.proofs.place.Place.into_parts.Statement.{statement}
use Rattle.boxplace.proofs.place.Place.into_parts.Code as code

pub into_parts_spec : {M : Type 1} → statement M
into_parts_spec 𝓤 𝓛 𝓜 𝓡 wired X Y L _ g d _ =
    let H = 𝓛.H in let 𝓣 = tables 𝓤 H 𝓜 𝓡 𝓡.env in let R : RattleType = param 0 X in let G : RattleType = param 1 Y in let En = ended X Y g d in let c = clauses X Y g d 𝓛 𝓜.mem 𝓡.returns in
    let inst = bounded (a_type ∷ a_type ∷ []) (X, (Y, tt)) (dcons d dnil) in let fn = inst_fn inst code.function in let Z : RattleType = global.the_row in let Row : RattleType = place.the_row R G g in let Off : RattleType = loose.the_row R in
    let stays : Stays En.signature.params En.kept = (stay_dropped (plain (λ _. Row)) no, tt) in
    proved_at 𝓛 En stays c 𝓜 𝓡 (Goes-dropped 𝓛 2 (plain (λ _. Row)) no (λ κs x f. refl), tt) (#self inst) fn (code.unfolded 𝓤 H 𝓜 𝓡 wired (X, (Y, tt)) d) (λ z are.
    let tag : Y.Denot = z.0.3.0 in let ok = g.fits tag in let Out : RattleType = type_at En.signature.result z.0.0 in
    let Post : Val → SProp 𝓤 = (walk_of 𝓛 En stays c).post z in let Run : List Val → SProp 𝓤 = λ ws. WpFn 𝓤 H 𝓣.C 𝓣.Λ fn ws Post in
    qed 𝓛 ((raw (alive 𝓛 En.signature z.0.0 z.0.1) ⊛ ‵ (owns (types_at En.signature.params z.0.0) z.0.3 z.0.4)) ∷ raw ((c z.0.0 z.0.3).requires z.1) ∷ []) ∵ split ! $ move ! (1 ∷ []) $ fsplit ! $ fsplit ! $
    fpick ! (λ laid. drop ! $ fpick ! (λ p. fsplit ! $ fields_out R G g ! p z.0.4.0 (λ told. move ! (1 ∷ []) $ fpick ! (λ item. fsplit ! $ move ! (1 ∷ []) $ fpick ! (λ fit. drop ! $
    -- [what the pointer owns; the handle; nothing; the tokens; what is asked]
    let w : Val = place_val p in let v : Val = pair (word p) heap_val in let e : Off.Denot = record { at = p; item = item } in let Told : Type 0 = IfSome item ok in
    let good : T (has_ty (layout Out) v) × WT v = parts_good p in
    keep ! (0 ∷ 1 ∷ 3 ∷ []) $ use0 𝓛 (‵ ((Data R).own_val (p, tt) (word p ∷ []))) (data_made R 𝓛 p) $ fjoin ! $
    suffices ! (Run (w ∷ [])) (subst (λ (vs : List Val). ent 𝓤 (Run (w ∷ [])) (Run vs)) (sym (λ i. told i ++ [])) (id⊢ 𝓤 (Run (w ∷ [])))) $
    enter ! 𝓣.C 𝓣.Λ fn (w ∷ []) Post $ alloc_all ! (λ l. pass_all ! refl (place_good R G g p, tt) $
    sets ! (of_opd ! (get_in ! (fld ! refl (stop !)) (sub ! 0 refl (whole !)))) refl (Ptr-Good p) $ sets ! (of_opd ! (get_in ! (fld ! refl (stop !)) (sub ! 1 refl (whole !)))) refl (tt, ((tt, tt), tt)) $
    sets ! (agg ! (and_then ! (get ! refl) (no_more !))) refl (word_good p) $ sets ! (agg ! (and_then ! (get ! refl) (and_then ! (get ! refl) (no_more !)))) refl good $
    nothing ! $ move ! (1 ∷ 2 ∷ 0 ∷ []) $ fjoin3 ! $ feq_i ! (List Val) (v ∷ []) (v ∷ []) refl $ fjoin ! $
    fpack ! (Valss (Off ∷ Z ∷ [])) (λ uss. fsep (base.Fml.feq (List Val) (v ∷ []) (vstruct (of_list (uss.0 ++ (uss.1.0 ++ []))) ∷ [])) (owns (Off ∷ Z ∷ []) (e, (heap_handle, tt)) uss)) (word p ∷ [], (heap_val ∷ [], tt)) $
    use0 𝓛 (raw (fact 𝓤 Told)) (fact_i 𝓤 Told (emp 𝓤) fit) $ nothing ! $ nothing ! $ fjoin ! $
    returns ! (look_at ! 0 refl) $ free_all ! refl $ keep ! (3 ∷ 0 ∷ 2 ∷ 1 ∷ []) $ by ! (leaves 𝓛 En stays c z v (e, heap_handle) (tt, tt) (tt, tt)))))))))
