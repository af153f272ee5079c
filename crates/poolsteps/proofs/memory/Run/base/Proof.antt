-- `base` copies the pointer.
use Rattle.poolsteps.proofs.raw.Steps.{◌≡◌, Ptr, peeks, Is, shows, cell_at, stop, fld, load, of_opd, through, sub, whole, look_in, ℕ, List, [], ◌∷◌, refl, sym, full_share, a_type, named, Val, vptr, inst_fn, SProp, emp, Lft, Fml, ftrue, fsep, flft, ‵, raw, ◌⊛◌, ◌$◌, ◌∵◌, !, qed, by, move, keep, split, join, fsplit, fsplit3, fjoin, fjoin3, use0, rewrite, feq_i, no_more, and_then, returns, enter, alloc_all, pass_all, free_all, look_at, get, sets, agg, tables, fact, fact_i, RattleType, owns, types_at, plain, nothing, opens, closes, param, layouts, mut_vals, mut_Tells, Stays, stay_ref, walk_of, Goes-ref, proved, leaves}
use Rattle.poolsteps.specs.contracts.memory.Run as run
use Rattle.poolsteps.proofs.raw.Fields.{word, word_good, ptr_good, Base, base_made}
use Rattle.poolsteps.proofs.raw.Runs.{RunData, run_is}
use Rattle.poolsteps.specs.contracts.memory.Run.base.{ended, clauses}
use Rattle.poolsteps.specs.contracts.memory.Run.base.Key.{name as #self}
use Rattle.poolsteps.proofs.memory.Run.base.Statement.{statement}
use Rattle.poolsteps.proofs.memory.Run.base.Code as code

pub base_spec : {M : Type 1} → statement M
base_spec 𝓤 𝓛 𝓜 𝓡 wired X L =
    let H = 𝓛.H in let 𝓣 = tables 𝓤 H 𝓜 𝓡 𝓡.env in let R : RattleType = param 0 X in let En = ended X in
    let inst = layouts (a_type ∷ []) (X, tt) in let fn = inst_fn inst code.function in let c = clauses X 𝓛 𝓜.mem 𝓡.returns in
    let Row : RattleType = run.the_row R in let Off : RattleType = Base R in let D : RattleType = RunData R in
    let self = plain (λ _. Row) in let stays : Stays En.signature.params En.kept = (stay_ref (0 ∷ []) tt self, tt) in
    proved 𝓛 En stays c 𝓜 𝓡 (Goes-ref 𝓛 2 0 tt self, tt) (#self inst) fn (code.unfolded 𝓤 H 𝓜 𝓡 wired (X, tt))
    (λ κs. (mut_vals, tt)) (λ κs. (mut_Tells (named 0) κs.0 Row, tt)) (λ κs qs bounds args ghost are.
    let b : ℕ = args.0.ref_ptr.0 in let o : ℕ = args.0.ref_ptr.1 in let κ : Lft = κs.0 in let other : Fml = fsep (flft κs.1.0 qs.1.0) ftrue in
    let d : Row.Denot = args.0.now in let p : Ptr = d.ptr in let off : Off.Denot = record { ptr = p } in let Told : Type 0 = (p ≡ p) × (d ≡ d) in
    let y : (walk_of 𝓛 En stays c).Ghost = ((κs, qs, bounds, args, (vptr b o ∷ [], tt)), ghost) in let Post : Val → SProp 𝓤 = (walk_of 𝓛 En stays c).post y in
    qed 𝓛 (((‵ (flft κ qs.0) ⊛ ‵ other) ⊛ ‵ (owns (types_at En.signature.params κs) args y.0.4)) ∷ raw ((c κs args).requires ghost) ∷ []) ∵
    split ! $ split ! $ move ! (2 ∷ []) $ fsplit ! $ fsplit3 ! $ keep ! (1 ∷ 2 ∷ 4 ∷ 5 ∷ []) $
    enter ! 𝓣.C 𝓣.Λ fn (vptr b o ∷ []) Post $ alloc_all ! (λ l. pass_all ! refl ((tt, tt), tt) $
    opens ! tt Row b o (λ vs. move ! (1 ∷ []) $ fsplit ! $ peeks ! D (Is D) (shows 𝓛 D) (p, tt) vs (λ is. let laid : vs ≡ word p ∷ [] = run_is R p vs is in
    -- [the field; the values; the cell; the open borrow]
    rewrite ! 2 (λ (ws : List Val). ‵ (cell_at full_share Row.mir ws b o)) laid refl $
    sets ! (of_opd ! (load ! (through ! refl (fld ! refl (stop !))) (look_in ! 2 (sub ! 0 refl (whole !))))) refl (ptr_good p) $
    sets ! (agg ! (and_then ! (get ! refl) (no_more !))) refl (word_good p) $
    rewrite ! 2 (λ (ws : List Val). ‵ (cell_at full_share Row.mir ws b o)) (sym laid) refl $
    fjoin ! $ move ! (1 ∷ 0 ∷ []) $ closes ! tt Row d vs b o $
    feq_i ! (List Val) (vptr b o ∷ []) (vptr b o ∷ []) refl $ fjoin3 ! $ nothing ! $ move ! (1 ∷ 0 ∷ []) $ fjoin ! $ move ! (1 ∷ 2 ∷ []) $ join ! $
    use0 𝓛 (‵ (Off.own_val off (word p ∷ []))) (base_made R 𝓛 off) $ use0 𝓛 (raw (fact 𝓤 Told)) (fact_i 𝓤 Told (emp 𝓤) (refl, refl)) $
    -- [what is told; the result; the tokens; `self`]
    returns ! (look_at ! 0 refl) $ free_all ! refl $ keep ! (2 ∷ 3 ∷ 1 ∷ 0 ∷ []) $ by ! (leaves 𝓛 En stays c y (word p) off (d, tt) (tt, tt))))))
