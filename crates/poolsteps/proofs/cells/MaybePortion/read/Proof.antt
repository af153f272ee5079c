-- `read` follows the pointer to the object under the share of the parts that a `&` gives where there is a portion.
use Rattle.poolsteps.proofs.raw.Steps.{◌≡◌, subst, sym, ℕ, ◌+◌, ◌*◌, ◌^◌, ◌<◌, List, [], ◌∷◌, refl, full_share, a_type, w64, named, Val, vint, vptr, inst_fn, SProp, emp, Lft, Fml, ftrue, fsep, flft, ‵, raw, ◌⊛◌, at_ret, ◌$◌, ◌∵◌, !, qed, by, move, keep, drop, split, fsplit, fjoin, use0, use1, rewrite, feq_i, stop, fld, addr, of_opd, bin, size_lit, first, blocks, exec, returns, enter, alloc_all, pass_all, free_all, look_at, get, get_in, through, sets, join, sets_last, take_at, give_at, env, sub, whole, tables, fact, fact_i, yes, no, RattleType, owns, types_at, plain, RefOf, usize, Ptr, block_ptr, block_of, count_of, nothing, heard, unhide, hide, param, layout, layouts, shr_vals, shr_Tells, uint_vals, uint_Tells, lent_at, Stays, stay_dropped, walk_of, Goes-dropped, after, proved, leaves}
use base.Fml.{fat}
use Rattle.std.specs.Mem.{type_size}
use Rattle.std.specs.Ptr.{ptr_add}
use types.Kit.{flt_l}
use denote.Memory.{shared_of}
use denote.RawPtr.{InBlock}
use denote.Struct.Lending.{in_block_says}
use Rattle.poolsteps.proofs.raw.Fields as fields
use Rattle.std.specs.Prelude.{Option, Some, IfSome}
use Rattle.poolsteps.specs.Held.{Held, held_shares}
use Rattle.poolsteps.specs.contracts.cells.MaybePortion as maybe
use Rattle.poolsteps.proofs.raw.Fields.{word, word_good, Base, base_told}
use Rattle.poolsteps.proofs.raw.PortionSteps.{shares_see}
use Rattle.poolsteps.specs.contracts.cells.MaybePortion.read.{ended, clauses}
use Rattle.poolsteps.specs.contracts.cells.MaybePortion.read.Key.{name as #self}
use Rattle.poolsteps.proofs.cells.MaybePortion.read.Statement.{statement}
use Rattle.poolsteps.proofs.cells.MaybePortion.read.Code as code
use denote.Param.Laws.{param_laws}

shown : {A : Type 0} (o : Option (Held A)) (h : Held A) → o ≡ Some h → IfSome o (λ held. h.object ≡ held.object)
shown {A} o h is = subst (λ (held : Option (Held A)). IfSome held (λ k. h.object ≡ k.object)) (sym is) refl

pub read_spec : {M : Type 1} → statement M
read_spec 𝓤 𝓛 𝓜 𝓡 wired X L =
    let H = 𝓛.H in let 𝓣 = tables 𝓤 H 𝓜 𝓡 𝓡.env in let R : RattleType = param 0 X in let LR = param_laws 0 X L in let En = ended X in
    let inst = layouts (a_type ∷ []) (X, tt) in let fn = inst_fn inst code.function in let c = clauses X 𝓛 𝓜.mem 𝓡.returns in
    let Row : RattleType = maybe.the_row R in let Bs : RattleType = Base R in
    let self = RefOf (0 ∷ []) tt (plain (λ _. Row)) (λ _. tt) in let stays : Stays En.signature.params En.kept = (stay_dropped self yes, (stay_dropped (plain (λ _. Bs)) no, (stay_dropped (plain (λ _. usize)) yes, tt))) in
    proved 𝓛 En stays c 𝓜 𝓡 (Goes-dropped 𝓛 2 self yes (λ κs x f. refl), (Goes-dropped 𝓛 2 (plain (λ _. Bs)) no (λ κs x f. refl), (Goes-dropped 𝓛 2 (plain (λ _. usize)) yes (λ κs x f. refl), tt))) (#self inst) fn (code.unfolded 𝓤 H 𝓜 𝓡 wired (X, tt))
    (λ κs. (shr_vals, ((λ e. word e.ptr ∷ []), (uint_vals w64, tt)))) (λ κs. (shr_Tells (named 0) κs.0 Row, (base_told R, (uint_Tells w64, tt)))) (λ κs qs bounds args ghost are.
    let b : ℕ = args.0.ref_ptr.0 in let o : ℕ = args.0.ref_ptr.1 in let κ : Lft = κs.0 in let other : Fml = fsep (flft κs.1.0 qs.1.0) ftrue in
    let m : Row.Denot = args.0.now in let e : Bs.Denot = args.1.0 in let i : ℕ = args.1.1.0 in
    let there : ℕ = block_of e.ptr in let from : ℕ = count_of e.ptr in let s : ℕ = type_size R in let at : ℕ = i * s + from in
    let Asked : Type 0 = (held : Held X.Denot) × (m.held ≡ Some held) × (e.ptr ≡ held.base) × (i ≡ held.index) in
    let y : (walk_of 𝓛 En stays c).Ghost = ((κs, qs, bounds, args, (vptr b o ∷ [], (word e.ptr ∷ [], (vint w64 i ∷ [], tt)))), ghost) in let Post : Val → SProp 𝓤 = (walk_of 𝓛 En stays c).post y in
    qed 𝓛 (((‵ (flft κ qs.0) ⊛ ‵ other) ⊛ ‵ (owns (types_at En.signature.params κs) args y.0.4)) ∷ raw (fact 𝓤 _) ∷ raw (fact 𝓤 Asked) ∷ []) ∵
    keep ! (2 ∷ 0 ∷ []) $ heard ! Asked (λ given.
    let d : Held X.Denot = given.0 in let holds : m.held ≡ Some d = given.1 in let asked : (e.ptr ≡ d.base) × (i ≡ d.index) = (given.2, given.3) in
    let p : Ptr = ptr_add R d.index d.base in let x : X.Denot = d.object in let Told : Type 0 = IfSome m.held (λ held. x ≡ held.object) in
    split ! $ split ! $ move ! (2 ∷ []) $ fsplit ! $ fsplit ! $ keep ! (1 ∷ 3 ∷ 4 ∷ []) $
    -- [the `&`; the token of its lifetime; the other tokens]
    enter ! 𝓣.C 𝓣.Λ fn (vptr b o ∷ word e.ptr ∷ vint w64 i ∷ []) Post $ alloc_all ! (λ l. pass_all ! refl ((tt, tt), (word_good e.ptr, ((tt, record { fits = are.1.1.0.1 }), tt))) $ let Ev = env fn.locals l in
    unhide ! $ fsplit ! $ drop ! $ rewrite ! 0 (λ (o : Option (Held X.Denot)). ‵ (held_shares R o κ)) holds refl $ fsplit ! $ flt_l ! (λ small. let far : i * s < 2 ^ 64 = fields.far R e.ptr d.base i d.index asked small in let tiny : s < 2 ^ 64 = fields.tiny R e.ptr d.base i d.index asked small in
    use1 𝓛 (‵ (lent_at R p x κ)) (shares_see R LR p x d.lifetime 𝓛 d.cell κ) $
    fsplit ! $ use1 𝓛 (raw (fact 𝓤 (InBlock p))) (in_block_says 𝓛 p) $ heard ! (InBlock p) (λ inside. let here : e.ptr ≡ block_ptr there from = fields.here R e.ptr d.base i d.index asked inside in
    rewrite ! 0 (λ (r : Ptr). ‵ (shared_of R x (block_of r) (count_of r) κ)) (fields.stands R e.ptr d.base i d.index asked inside) refl $ hide ! $
    take_at ! 2 $ rewrite ! 0 (λ (r : Ptr). ‵ (fat full_share (layout Bs) (l 2) 0 (word r))) here refl $ give_at ! 2 $ first ! $ blocks ! $
    sets ! (bin ! (get ! refl) (size_lit ! (record { fits = tiny })) (record { fits = far })) refl (tt, record { fits = far }) $
    sets ! (bin ! (get_in ! (fld ! refl (stop !)) (sub ! 0 refl (whole !))) (get ! refl) tt) refl (tt, tt) $
    sets_last ! (addr ! (through ! refl (stop !))) refl (tt, tt) $ exec ! 𝓣.C 𝓣.Λ Ev (after 1 fn.body) (at_ret Ev Post) $ sets ! (of_opd ! (get ! refl)) refl (tt, tt) $
    feq_i ! (List Val) (vptr there at ∷ []) (vptr there at ∷ []) refl $ fjoin ! $
    use0 𝓛 (raw (fact 𝓤 Told)) (fact_i 𝓤 Told (emp 𝓤) (shown m.held d holds)) $ nothing ! $ nothing ! $ fjoin ! $ nothing ! $ fjoin ! $ nothing ! $ fjoin ! $
    returns ! (look_at ! 0 refl) $ free_all ! refl $ keep ! (3 ∷ 4 ∷ 0 ∷ 2 ∷ 1 ∷ []) $ join ! $
    by ! (leaves 𝓛 En stays c y (vptr there at) (record { ref_ptr = (there, at); now = x }) (tt, (tt, (tt, tt))) (tt, (tt, (tt, tt)))))))))
