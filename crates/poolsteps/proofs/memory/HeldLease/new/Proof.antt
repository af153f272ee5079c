-- The lease goes into the struct.
use Rattle.atomic_table.proofs.Names.{◌≡◌, ℕ, ◌^◌, ◌<◌, List, [], ◌∷◌, ◌++◌, refl, a_type, dcons, dnil, Val, vstruct, inst_fn, SProp, emp, fsep, ‵, raw, ◌⊛◌, ◌$◌, ◌∵◌, !, qed, by, move, keep, split, fjoin, fpack, use0, feq_i, of_opd, no_more, and_then, returns, enter, alloc_all, pass_all, free_all, look_at, get, sets, agg, tables, no, RattleType, owns, Valss, types_at, plain, Ptr, nothing, param, bounded, alive, Stays, stay_dropped, walk_of, Goes-dropped, fact, fact_i, of_list}
use Rattle.atomic_table.proofs.Walks.{proved, leaves}
use Rattle.core.specs.Mem.Slots.{lease_ptr, lease_len}
use Rattle.core.specs.contracts.slots.Lease as lease
use Rattle.core.proofs.slots.Leases.{lease_val}
use Rattle.poolsteps.specs.contracts.memory.HeldLease as right
use Rattle.atomic_table.proofs.Rights.{right_val, lease_good, right_good, lease_told}
use Rattle.poolsteps.specs.contracts.memory.HeldLease.new.{ended, clauses}
use Rattle.poolsteps.specs.contracts.memory.HeldLease.new.Key.{name as #self}
use Rattle.poolsteps.proofs.memory.HeldLease.new.Statement.{statement}
use Rattle.poolsteps.proofs.memory.HeldLease.new.Code as code

pub new_spec : {M : Type 1} → statement M
new_spec 𝓤 𝓛 𝓜 𝓡 wired T A _ _ g d dd _ _ =
    let H = 𝓛.H in let 𝓣 = tables 𝓤 H 𝓜 𝓡 𝓡.env in let R : RattleType = param 0 T in let Z : RattleType = param 1 A in let En = ended T A g d dd in let c = clauses T A g d dd 𝓛 𝓜.mem 𝓡.returns in
    let inst = bounded (a_type ∷ a_type ∷ []) (T, (A, tt)) (dcons d (dcons dd dnil)) in let fn = inst_fn inst code.function in let Lr : RattleType = lease.the_row R Z g in let Rr : RattleType = right.the_row R Z g in
    let hs : Stays En.signature.params En.kept = (stay_dropped (plain (λ _. Lr)) no, tt) in
    proved 𝓛 En hs c 𝓜 𝓡 (Goes-dropped 𝓛 2 (plain (λ _. Lr)) no (λ κs x f. refl), tt) (#self inst) fn (code.unfolded 𝓤 H 𝓜 𝓡 wired (T, (A, tt)) d dd)
    (λ κs. ((λ x. lease_val (lease_ptr x) (lease_len x) ∷ []), tt)) (λ κs. ((λ x vs so. (lease_told R Z g x vs so).0), tt)) (λ κs qs bounds a gh are.
    let x : Lr.Denot = a.0 in let p : Ptr = lease_ptr x in let n : ℕ = lease_len x in let v : Val = lease_val p n in let u : Val = right_val p n in let fits : n < 2 ^ 64 = (lease_told R Z g x (v ∷ []) are.0).1 in
    let r : Rr.Denot = record { lease = x } in let y : (walk_of 𝓛 En hs c).Ghost = ((κs, qs, bounds, a, (v ∷ [], tt)), gh) in let Post : Val → SProp 𝓤 = (walk_of 𝓛 En hs c).post y in
    qed 𝓛 ((raw (alive 𝓛 En.signature κs qs) ⊛ ‵ (owns (types_at En.signature.params κs) a y.0.4)) ∷ raw ((c κs a).requires gh) ∷ []) ∵
    split ! $ keep ! (1 ∷ 0 ∷ []) $ feq_i ! (List Val) (u ∷ []) (u ∷ []) refl $ fjoin ! $
    fpack ! (Valss (Lr ∷ [])) (λ vss. fsep (base.Fml.feq (List Val) (u ∷ []) (vstruct (of_list (vss.0 ++ [])) ∷ [])) (owns (Lr ∷ []) (x, tt) vss)) (v ∷ [], tt) $ nothing ! $ move ! (1 ∷ 0 ∷ []) $ fjoin ! $
    enter ! 𝓣.C 𝓣.Λ fn (v ∷ []) Post $ alloc_all ! (λ l. pass_all ! refl (lease_good p n fits, tt) $
    sets ! (of_opd ! (get ! refl)) refl (lease_good p n fits) $ sets ! (agg ! (and_then ! (get ! refl) (no_more !))) refl (right_good p n fits) $
    use0 𝓛 (raw (fact 𝓤 (x ≡ x))) (fact_i 𝓤 (x ≡ x) (emp 𝓤) refl) $ nothing ! $ nothing ! $ fjoin ! $
    returns ! (look_at ! 0 refl) $ free_all ! refl $ keep ! (3 ∷ 0 ∷ 2 ∷ 1 ∷ []) $ by ! (leaves 𝓛 En hs c y u r (tt, tt) (tt, tt))))
