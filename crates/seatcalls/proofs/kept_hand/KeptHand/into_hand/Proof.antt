-- The hand comes out of the struct.
use Rattle.atomic_table.proofs.Names.{◌≡◌, List, [], ◌∷◌, refl, a_type, Val, inst_fn, SProp, emp, ‵, raw, ◌⊛◌, ◌$◌, ◌∵◌, !, qed, by, move, keep, drop, split, fsplit, fsplit3, fjoin, fpick, use0, rewrite, stop, fld, of_opd, returns, enter, alloc_all, pass_all, free_all, look_at, get, get_in, sets, sub, whole, tables, no, RattleType, owns, types_at, plain, nothing, param, layouts, alive, Stays, stay_dropped, walk_of, fact, fact_i, Is, shows, peeks}
use Rattle.core.proofs.alloc.Calls.{Goes-blank}
use Rattle.atomic_table.proofs.Walks.{proved, leaves}
use Rattle.atomic_table.proofs.Fields.{token_val}
use Rattle.seatcalls.proofs.KeptHands.{Seated, kept_val, seat_told, kept_told}
use Rattle.seatcalls.specs.contracts.kept_hand.KeptHand as kept
use Rattle.seatcalls.specs.contracts.kept_hand.KeptHand.into_hand.{ended, clauses}
use Rattle.seatcalls.specs.contracts.kept_hand.KeptHand.into_hand.Key.{name as #self}
use Rattle.seatcalls.proofs.kept_hand.KeptHand.into_hand.Statement.{statement}
use Rattle.seatcalls.proofs.kept_hand.KeptHand.into_hand.Code as code

pub into_hand_spec : {M : Type 1} → statement M
into_hand_spec 𝓤 𝓛 𝓜 𝓡 wired T _ =
    let H = 𝓛.H in let 𝓣 = tables 𝓤 H 𝓜 𝓡 𝓡.env in let R : RattleType = param 0 T in let En = ended T in let c = clauses T 𝓛 𝓜.mem 𝓡.returns in
    let inst = layouts (a_type ∷ []) (T, tt) in let fn = inst_fn inst code.function in let Lr : RattleType = Seated R in let Rr : RattleType = kept.the_row R in
    let hs : Stays En.signature.params En.kept = (stay_dropped (plain (λ _. Rr)) no, tt) in
    proved 𝓛 En hs c 𝓜 𝓡 (Goes-blank 𝓛 1 (plain (λ _. Rr)) no (λ κs x f. tt), tt) (#self inst) fn (code.unfolded 𝓤 H 𝓜 𝓡 wired (T, tt))
    (λ κs. ((λ x. kept_val ∷ []), tt)) (λ κs. ((λ x vs so. kept_told R x vs so), tt)) (λ κs qs bounds a gh are.
    let x : Lr.Denot = a.0.hand in let v : Val = token_val in let u : Val = kept_val in
    let y : (walk_of 𝓛 En hs c).Ghost = ((κs, qs, bounds, a, (u ∷ [], tt)), gh) in let Post : Val → SProp 𝓤 = (walk_of 𝓛 En hs c).post y in
    qed 𝓛 ((raw (alive 𝓛 En.signature κs qs) ⊛ ‵ (owns (types_at En.signature.params κs) a y.0.4)) ∷ raw ((c κs a).requires gh) ∷ []) ∵
    split ! $ move ! (1 ∷ []) $ fsplit ! $ fsplit ! $ fpick ! (λ vss. fsplit3 ! $ drop ! $ peeks ! Lr (Is Lr) (shows 𝓛 Lr) x vss.0 (λ so.
    rewrite ! 0 (λ (ws : List Val). ‵ (Lr.own_val x ws)) (seat_told R x vss.0 so) refl $ keep ! (0 ∷ 4 ∷ []) $
    enter ! 𝓣.C 𝓣.Λ fn (u ∷ []) Post $ alloc_all ! (λ l. pass_all ! refl ((tt, ((tt, tt), tt)), tt) $
    sets ! (of_opd ! (get_in ! (fld ! refl (stop !)) (sub ! 0 refl (whole !)))) refl (tt, (tt, tt)) $ sets ! (of_opd ! (get ! refl)) refl (tt, (tt, tt)) $
    use0 𝓛 (raw (fact 𝓤 (x ≡ x))) (fact_i 𝓤 (x ≡ x) (emp 𝓤) refl) $ nothing ! $ nothing ! $ fjoin ! $
    returns ! (look_at ! 0 refl) $ free_all ! refl $ keep ! (3 ∷ 0 ∷ 2 ∷ 1 ∷ []) $ by ! (leaves 𝓛 En hs c y v x ((tt, tt), tt) (tt, tt))))))
