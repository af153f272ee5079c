-- `get_mut` lends the value, and `self` follows it.
use Rattle.poolsteps.proofs.raw.Steps.{◌≡◌, ℕ, ◌+◌, ◌*◌, ◌^◌, ◌<◌, List, [], ◌∷◌, refl, sym, ◌∙◌, full_share, a_type, w64, named, Val, vint, vptr, inst_fn, SProp, ent, Lft, Fml, ftrue, fsep, flft, sem, ‵, raw, ◌⊛◌, some, later, at_ret, ◌$◌, ◌∵◌, !, qed, move, keep, split, split3, join, fsplit, fsplit3, fjoin, pick, use1, await, rewrite, suffices, stop, fld, addr, of_opd, bin, size_lit, first, blocks, exec, returns, enter, alloc_all, pass_all, free_all, look_at, get, get_in, through, sets, sets_last, take_at, give_at, env, sub, whole, tables, fact, yes, no, RattleType, owns, types_at, plain, usize, Ptr, block_ptr, block_of, count_of, nothing, heard, opens, param, layout, layouts, mut_vals, mut_Tells, uint_vals, uint_Tells, cell_at, Stays, stay_dropped, walk_of, Goes-dropped, after, proved}
use seplogic.Ra.Ura.{Ura}
use base.Logic.{sep}
use base.Fml.{fat, GName}
use types.Logic.{Logic}
use types.Kit.{group, frame, done, fpack}
use denote.Memory.{mem, part_at, part_of}
use denote.RawPtr.{lies_at}
use denote.Ref.{MutRef}
use denote.Signature.{mut_ref_to}
use denote.Follow.{follows, lends_Part}
use denote.Triple.Walked.{says, ends_at, Goes-spent_ref}
use Rattle.std.specs.Mem.{type_size}
use Rattle.std.specs.Ptr.{ptr_add}
use base.Logic.{id⊢}
use types.Kit.{flt_l, flt_i}
use denote.RawPtr.{InBlock, in_a_block}
use Rattle.std.proofs.Common.{suc, subst}
use Rattle.poolsteps.proofs.raw.Fields as fields
use Rattle.poolsteps.specs.Loose.{with_object}
use Rattle.poolsteps.specs.contracts.memory.Loose as loose
use Rattle.poolsteps.proofs.raw.Fields.{word, word_good, Base, base_told, LooseData}
use Rattle.poolsteps.specs.contracts.memory.Loose.get_mut.{ended, clauses}
use Rattle.poolsteps.specs.contracts.memory.Loose.get_mut.Key.{name as #self}
use Rattle.poolsteps.proofs.memory.Loose.get_mut.Statement.{statement}
use Rattle.poolsteps.proofs.memory.Loose.get_mut.Code as code

module _ (R : RattleType) {M : Type 1} {𝓤 : Ura M} (𝓛 : Logic 𝓤) (b o : ℕ) (d : (loose.the_row R).Denot) (vs : List Val) (there at : ℕ) where
  abbrev Row : RattleType
  Row = loose.the_row R

  -- all of `self` but its value
  abbrev Rest : Fml
  Rest = fsep ((LooseData R).own_val (tt, tt) vs) (cell_at full_share Row.mir vs b o)

  back : ptr_add R d.index d.base ≡ block_ptr there at → suc d.index * type_size R < 2 ^ 63 → (w : R.Denot) → ent 𝓤 (sep 𝓤 (sem 𝓛 ((mem R).own_at w there at)) (sem 𝓛 Rest)) (sem 𝓛 ((mem Row).own_at (with_object d w) b o))
  unfolding part_of
  back e small w = qed 𝓛 (‵ (part_at R full_share w there at) ∷ ‵ Rest ∷ []) ∵ rewrite ! 0 (λ (p : Ptr). ‵ (lies_at R full_share p w)) (sym e) refl $ flt_i ! (suc d.index * type_size R) (2 ^ 63) small $ fjoin ! $ move ! (1 ∷ []) $ fsplit ! $
      -- [the field; the cell; the value]
      move ! (0 ∷ 2 ∷ []) $ fjoin ! $ move ! (1 ∷ 0 ∷ []) $ fjoin ! $ fpack ! (List Val) (λ us. fsep (cell_at full_share Row.mir us b o) (Row.own_val (with_object d w) us)) vs $ done !

pub get_mut_spec : {M : Type 1} → statement M
get_mut_spec 𝓤 𝓛 𝓜 𝓡 wired X L =
    let H = 𝓛.H in let 𝓣 = tables 𝓤 H 𝓜 𝓡 𝓡.env in let R : RattleType = param 0 X in let En = ended X in
    let inst = layouts (a_type ∷ []) (X, tt) in let fn = inst_fn inst code.function in let c = clauses X 𝓛 𝓜.mem 𝓡.returns in
    let Row : RattleType = loose.the_row R in let Bs : RattleType = Base R in
    let self = mut_ref_to (0 ∷ []) tt (plain (λ _. Row)) in let stays : Stays En.signature.params En.kept = (stay_dropped self no, (stay_dropped (plain (λ _. Bs)) no, (stay_dropped (plain (λ _. usize)) yes, tt))) in
    proved 𝓛 En stays c 𝓜 𝓡 (Goes-spent_ref 𝓛 2 (0 ∷ []) tt (plain (λ _. Row)), (Goes-dropped 𝓛 2 (plain (λ _. Bs)) no (λ κs x f. refl), (Goes-dropped 𝓛 2 (plain (λ _. usize)) yes (λ κs x f. refl), tt))) (#self inst) fn (code.unfolded 𝓤 H 𝓜 𝓡 wired (X, tt))
    (λ κs. (mut_vals, ((λ e. word e.ptr ∷ []), (uint_vals w64, tt)))) (λ κs. (mut_Tells (named 0) κs.0 Row, (base_told R, (uint_Tells w64, tt)))) (λ κs qs bounds args ghost are.
    let b : ℕ = args.0.ref_ptr.0 in let o : ℕ = args.0.ref_ptr.1 in let γ : GName = args.0.ghost_name in let κ : Lft = κs.0 in let other : Fml = fsep (flft κs.1.0 qs.1.0) ftrue in
    let d : Row.Denot = args.0.now in let e : Bs.Denot = args.1.0 in let i : ℕ = args.1.1.0 in let p : Ptr = ptr_add R d.index d.base in let x : X.Denot = d.object in
    let there : ℕ = block_of e.ptr in let from : ℕ = count_of e.ptr in let s : ℕ = type_size R in let at : ℕ = i * s + from in
    let Asked : Type 0 = (e.ptr ≡ d.base) × (i ≡ d.index) in
    let y : (walk_of 𝓛 En stays c).Ghost = ((κs, qs, bounds, args, (vptr b o ∷ [], (word e.ptr ∷ [], (vint w64 i ∷ [], tt)))), ghost) in let Post : Val → SProp 𝓤 = (walk_of 𝓛 En stays c).post y in
    qed 𝓛 (((‵ (flft κ qs.0) ⊛ ‵ other) ⊛ ‵ (owns (types_at En.signature.params κs) args y.0.4)) ∷ raw (fact 𝓤 _) ∷ raw (fact 𝓤 Asked) ∷ []) ∵
    keep ! (2 ∷ 0 ∷ []) $ heard ! Asked (λ asked. split ! $ split ! $ move ! (2 ∷ []) $ fsplit ! $ fsplit3 ! $ keep ! (1 ∷ 2 ∷ 4 ∷ 5 ∷ []) $
    enter ! 𝓣.C 𝓣.Λ fn (vptr b o ∷ word e.ptr ∷ vint w64 i ∷ []) Post $ alloc_all ! (λ l. pass_all ! refl ((tt, tt), (word_good e.ptr, ((tt, record { fits = are.1.1.0.1 }), tt))) $ let Ev = env fn.locals l in
    opens ! tt Row b o (λ vs. move ! (1 ∷ []) $ fsplit ! $ move ! (1 ∷ []) $
    fsplit ! $ flt_l ! (λ small. let far : i * s < 2 ^ 64 = fields.far R e.ptr d.base i d.index asked small in let tiny : s < 2 ^ 64 = fields.tiny R e.ptr d.base i d.index asked small in
    in_a_block ! p (λ r. lies_at R full_share r x) (id⊢ 𝓤 _) (λ b' o' at_b. let inside : InBlock p = subst InBlock (sym at_b) tt in
    let here : e.ptr ≡ block_ptr there from = fields.here R e.ptr d.base i d.index asked inside in let lies : p ≡ block_ptr there at = fields.stands R e.ptr d.base i d.index asked inside in
    rewrite ! 0 (λ (r : Ptr). ‵ (lies_at R full_share r x)) (sym at_b ∙ lies) refl $
    take_at ! 2 $ rewrite ! 0 (λ (r : Ptr). ‵ (fat full_share (layout Bs) (l 2) 0 (word r))) here refl $ give_at ! 2 $ first ! $ blocks ! $
    sets ! (bin ! (get ! refl) (size_lit ! (record { fits = tiny })) (record { fits = far })) refl (tt, record { fits = far }) $
    sets ! (bin ! (get_in ! (fld ! refl (stop !)) (sub ! 0 refl (whole !))) (get ! refl) tt) refl (tt, tt) $
    sets_last ! (addr ! (through ! refl (stop !))) refl (tt, tt) $ exec ! 𝓣.C 𝓣.Λ Ev (after 1 fn.body) (at_ret Ev Post) $ sets ! (of_opd ! (get ! refl)) refl (tt, tt) $
    -- [the value; the field; the cell; the open borrow, in three]
    move ! (1 ∷ 2 ∷ []) $ fjoin ! $ move ! (2 ∷ 3 ∷ 4 ∷ 1 ∷ 0 ∷ []) $ group ! 5 $
    use1 𝓛 (later (some (λ (γ' : GName). ‵ ((MutRef (named 0) κ R).own_val (record { ref_ptr = (there, at); ghost_name = γ'; now = x }) (vptr there at ∷ [])) ⊛ ‵ (flft κ qs.0) ⊛ ‵ (follows Row R γ γ' (with_object d)))))
    (lends_Part 𝓛 Row R (with_object d) (named 0) κ qs.0 b o there at γ (sem 𝓛 (Rest R 𝓛 b o d vs there at)) (back R 𝓛 b o d vs there at lies small) (Row.coded.code d) (Row.coded.code d) x) $
    await ! tt $ pick ! (λ γ'. split3 ! $ returns ! (look_at ! 0 refl) $ free_all ! refl $
    suffices ! _ (ends_at 𝓛 En stays c y (vptr there at) (record { ref_ptr = (there, at); ghost_name = γ'; now = x }) (tt, (tt, (tt, tt))) (tt, (tt, (tt, tt)))) $
    -- [the `&mut`; the token; what follows; the other tokens]
    nothing ! $ nothing ! $ fjoin ! $ nothing ! $ fjoin ! $ nothing ! $ fjoin ! $ join ! $ move ! (1 ∷ 3 ∷ []) $ join ! $ join ! $ frame ! $ says ! refl $ keep ! (0 ∷ []) $ done !)))))))
