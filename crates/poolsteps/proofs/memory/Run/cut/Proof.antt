-- `cut` takes the first value off.
use Rattle.poolsteps.proofs.raw.Steps.{◌≡◌, ap, ℕ, ◌+◌, ◌<◌, List, [], ◌∷◌, refl, a_type, named, Val, vptr, inst_fn, SProp, emp, Lft, Fml, ftrue, fsep, flft, ‵, raw, ◌⊛◌, ◌$◌, ◌∵◌, !, qed, by, move, keep, split, join, fsplit, fsplit3, fjoin, fjoin3, use0, rewrite, feq_i, no_more, and_then, returns, enter, alloc_all, pass_all, free_all, look_at, get, sets, agg, tables, fact, fact_i, RattleType, owns, types_at, plain, nothing, heard, opens, closes, param, layouts, mut_vals, mut_Tells, Stays, stay_ref, walk_of, Goes-ref, proved, leaves}
use Rattle.std.proofs.Common.{length, suc, arith}
use Rattle.poolsteps.specs.Run.{run_at, run_owns}
use Rattle.poolsteps.specs.contracts.memory.Run as run
use Rattle.poolsteps.specs.contracts.memory.Loose as loose
use Rattle.poolsteps.proofs.raw.Fields.{mark, LooseData, loose_made}
use Rattle.poolsteps.specs.contracts.memory.Run.cut.{ended, clauses}
use Rattle.poolsteps.specs.contracts.memory.Run.cut.Key.{name as #self}
use Rattle.poolsteps.proofs.memory.Run.cut.Statement.{statement}
use Rattle.poolsteps.proofs.memory.Run.cut.Code as code

parted : {X : Type 0} (xs : List X) → 0 < length xs → (x : X) × ((rest : List X) × (xs ≡ x ∷ rest))
parted [] some = absurd (let e : 0 < 0 = some in omega arith)
parted (x ∷ xs) some = (x, (xs, refl))

pub cut_spec : {M : Type 1} → statement M
cut_spec 𝓤 𝓛 𝓜 𝓡 wired X L =
    let H = 𝓛.H in let 𝓣 = tables 𝓤 H 𝓜 𝓡 𝓡.env in let R : RattleType = param 0 X in let En = ended X in
    let inst = layouts (a_type ∷ []) (X, tt) in let fn = inst_fn inst code.function in let c = clauses X 𝓛 𝓜.mem 𝓡.returns in
    let Row : RattleType = run.the_row R in let Off : RattleType = loose.the_row R in let D : RattleType = LooseData R in
    let self = plain (λ _. Row) in let stays : Stays En.signature.params En.kept = (stay_ref (0 ∷ []) tt self, tt) in
    proved 𝓛 En stays c 𝓜 𝓡 (Goes-ref 𝓛 2 0 tt self, tt) (#self inst) fn (code.unfolded 𝓤 H 𝓜 𝓡 wired (X, tt))
    (λ κs. (mut_vals, tt)) (λ κs. (mut_Tells (named 0) κs.0 Row, tt)) (λ κs qs bounds args ghost are.
    let b : ℕ = args.0.ref_ptr.0 in let o : ℕ = args.0.ref_ptr.1 in let κ : Lft = κs.0 in let other : Fml = fsep (flft κs.1.0 qs.1.0) ftrue in
    let d : Row.Denot = args.0.now in let Asked : Type 0 = 0 < length d.items in
    let y : (walk_of 𝓛 En stays c).Ghost = ((κs, qs, bounds, args, (vptr b o ∷ [], tt)), ghost) in let Post : Val → SProp 𝓤 = (walk_of 𝓛 En stays c).post y in
    qed 𝓛 (((‵ (flft κ qs.0) ⊛ ‵ other) ⊛ ‵ (owns (types_at En.signature.params κs) args y.0.4)) ∷ raw (fact 𝓤 _) ∷ raw (fact 𝓤 Asked) ∷ []) ∵
    keep ! (2 ∷ 0 ∷ []) $ heard ! Asked (λ asked. let p = parted d.items asked in let x : X.Denot = p.0 in let xs : List X.Denot = p.1.0 in let is : d.items ≡ x ∷ xs = p.1.1 in
    let left : Row.Denot = record d { first = d.first + 1; items = xs } in let off : Off.Denot = record { mark = record {}; base = d.ptr; index = d.first; object = x } in
    let Told : Type 0 = (d.ptr ≡ d.ptr) × (d.first ≡ d.first) × (d ≡ record left { first = d.first; items = x ∷ xs }) × (left.first ≡ d.first + 1) in
    split ! $ split ! $ move ! (2 ∷ []) $ fsplit ! $ fsplit3 ! $ keep ! (1 ∷ 2 ∷ 4 ∷ 5 ∷ []) $
    enter ! 𝓣.C 𝓣.Λ fn (vptr b o ∷ []) Post $ alloc_all ! (λ l. pass_all ! refl ((tt, tt), tt) $
    opens ! tt Row b o (λ vs. move ! (1 ∷ []) $ fsplit ! $ move ! (1 ∷ []) $
    rewrite ! 0 (λ (ys : List X.Denot). ‵ (run_at R d.ptr d.total d.first ys)) is refl $ fsplit ! $ move ! (1 ∷ []) $ fsplit ! $ move ! (1 ∷ []) $
    -- [what stays; what goes; the bound; the field; the cell; the open borrow]
    let up : suc d.first ≡ d.first + 1 = omega arith in rewrite ! 0 (λ (n : ℕ). ‵ (run_owns R d.ptr n xs)) up refl $ move ! (2 ∷ 0 ∷ []) $ fjoin ! $
    sets ! (agg ! (no_more !)) refl (tt, tt) $ sets ! (agg ! (and_then ! (get ! refl) (no_more !))) refl (tt, (tt, tt)) $
    move ! (2 ∷ 0 ∷ []) $ fjoin ! $ move ! (2 ∷ 0 ∷ 3 ∷ 4 ∷ 5 ∷ []) $ closes ! tt Row left vs b o $
    feq_i ! (List Val) (vptr b o ∷ []) (vptr b o ∷ []) refl $ fjoin3 ! $ nothing ! $ move ! (1 ∷ 0 ∷ []) $ fjoin ! $ move ! (1 ∷ 3 ∷ []) $ join ! $
    -- [the tokens; `self`; what is cut off]
    move ! (2 ∷ []) $ use0 𝓛 (‵ (D.own_val (tt, tt) (mark ∷ []))) (loose_made R 𝓛) $ fjoin ! $ use0 𝓛 (raw (fact 𝓤 Told)) (fact_i 𝓤 Told (emp 𝓤) (refl, refl, ap (λ (ys : List X.Denot). record d { items = ys }) is, refl)) $
    returns ! (look_at ! 0 refl) $ free_all ! refl $ keep ! (2 ∷ 3 ∷ 1 ∷ 0 ∷ []) $ by ! (leaves 𝓛 En stays c y mark off (left, tt) (tt, tt))))))
