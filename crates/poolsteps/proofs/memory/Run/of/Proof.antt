-- A full row gives up its places.
use Rattle.atomic_table.proofs.Names.{◌≡◌, ℕ, ◌*◌, ◌^◌, ◌<◌, List, [], ◌∷◌, ◌++◌, length, sym, refl, ◌∙◌, subst, arith, a_type, Val, inst_fn, SProp, ent, emp, id⊢, Lft, Share, ftrue, flft, ‵, raw, ◌⊛◌, given, later, at_ret, ◌$◌, ◌∵◌, !, qed, by, move, keep, split, join, fsplit, fjoin, learn, use0, use1, use2, await, stop, fld, of_opd, no_more, and_then, first, blocks, exec, returns, enter, alloc_all, pass_all, free_all, look_at, get, get_in, sets, lands_last, is, env, agg, sub, whole, tables, no, RattleType, owns, types_at, plain, Ptr, block_ptr, nothing, param, layouts, Stays, stay_dropped, walk_of, Goes-dropped, fact, fact_i, heard, Bool, WT, WpFn, ◌⊑◌, mem, calls_at_last}
use Rattle.atomic_table.proofs.Walks.{leaves}
use Rattle.core.proofs.atomic.Steps.{tail}
use Rattle.atomic_table.proofs.Calls.{fm}
use Rattle.atomic_table.proofs.Walks.{proved_at}
use Rattle.core.specs.Mem.Slots.{slots_items, slots_filled, slots_ptr, slots_len, slots_counts, IsFull}
use Rattle.core.proofs.mem.Param.{El}
use Rattle.core.proofs.slots.Opens.{row_val}
use Rattle.core.proofs.slots.Slots.into_raw_parts.Met as callee
use Rattle.atomic_table.specs.Seated.{strip}
use Rattle.poolsteps.specs.contracts.memory.Run as strips
use Rattle.poolsteps.proofs.raw.Fields.{word}
use Rattle.poolsteps.proofs.raw.Runs.{RunData, run_made, of_strip}
use Rattle.poolsteps.specs.Run.{run_at}
use Rattle.atomic_table.proofs.Raw.{Row, all as places, parts_typed, Row-seen, Into, at_into, Into-goes, Into-gives, to_strip}
use Rattle.poolsteps.specs.contracts.memory.Run.of.{ended, clauses}
use Rattle.poolsteps.specs.contracts.memory.Run.of.Key.{name as #self}
use Rattle.poolsteps.proofs.memory.Run.of.Statement.{statement}
use Rattle.poolsteps.proofs.memory.Run.of.Code as code

pub of_spec : {M : Type 1} → statement M
of_spec 𝓤 𝓛 𝓜 𝓡 wired T L =
    let H = 𝓛.H in let 𝓣 = tables 𝓤 H 𝓜 𝓡 𝓡.env in let R : RattleType = param 0 T in let E : El = record { row = T; laws = L } in let En = ended T in
    let inst = layouts (a_type ∷ []) (T, tt) in let fn = inst_fn inst code.function in let c = clauses T 𝓛 𝓜.mem 𝓡.returns in let Ss : RattleType = strips.the_row R in
    let met = callee.met 𝓤 𝓛 𝓜 𝓡 (code.calls-core::slots::Slots::into_raw_parts 𝓡.env wired) T L in
    let hs : Stays En.signature.params En.kept = (stay_dropped (plain (λ _. Row E)) no, tt) in
    proved_at 𝓛 En hs c 𝓜 𝓡 (Goes-dropped 𝓛 1 (plain (λ _. Row E)) no (λ κs x f. refl), tt) (#self inst) fn (code.unfolded 𝓤 H 𝓜 𝓡 wired (T, tt)) (λ z are.
    let κ : Lft = z.0.0.0 in let q : Share = z.0.1.0 in let r : (Row E).Denot = z.0.3.0 in let vss = z.0.4 in let k : ℕ = slots_len r in let xs : List T.Denot = slots_items r in let fs : List Bool = slots_filled r in
    let Post : Val → SProp 𝓤 = (walk_of 𝓛 En hs c).post z in let Run : List Val → SProp 𝓤 = λ ws. WpFn 𝓤 H 𝓣.C 𝓣.Λ fn ws Post in
    qed 𝓛 (((‵ (flft κ q) ⊛ ‵ ftrue) ⊛ ‵ (owns (types_at En.signature.params z.0.0) z.0.3 vss)) ∷ raw (fact 𝓤 (κ ⊑ T.lives)) ∷ raw (fact 𝓤 (IsFull r)) ∷ []) ∵
    move ! (1 ∷ 2 ∷ []) $ heard ! (κ ⊑ T.lives) (λ le. heard ! (IsFull r) (λ full. split ! $ split ! $ move ! (2 ∷ []) $ fsplit ! $ Row-seen E ! r vss.0 (λ b o at e fk fit. keep ! (0 ∷ 2 ∷ []) $
    let us : List Val = row_val b o k ∷ [] in let lx : k ≡ length xs = (slots_counts r).0 in let lf : k ≡ length fs = (slots_counts r).1 in let p : Ptr = block_ptr b o in
    let words : WT (row_val b o k) = (tt, (record { fits = fk }, tt)) in let new : Ss.Denot = record { ptr = p; total = k; first = 0; items = xs } in let Told : Type 0 = (p ≡ slots_ptr r) × (k ≡ k) × (0 ≡ 0) × (xs ≡ xs) in
    types.Kit.suffices ! (Run us) (subst (λ (ws : List Val). ent 𝓤 (Run us) (Run ws)) (sym (λ i. e i ++ [])) (id⊢ 𝓤 (Run us))) $
    enter ! 𝓣.C 𝓣.Λ fn us Post $ alloc_all ! (λ l. pass_all ! refl ((tt, words), tt) $ let Ev = env fn.locals l in let y = at_into E 𝓛 𝓜.mem 𝓡.returns κ q r b o in
    first ! $ blocks ! $ sets ! (of_opd ! (get ! refl)) refl (tt, words) $
    use2 𝓛 (raw ((Into E 𝓛 𝓜.mem 𝓡.returns).pre y)) (Into-goes E 𝓛 𝓜.mem 𝓡.returns κ q r b o le) $
    calls_at_last ! (fm 𝓛 𝓜 𝓡) (Into E 𝓛 𝓜.mem 𝓡.returns) met y (and_then ! (get ! refl) (no_more !)) (λ v.
    use1 𝓛 (later (given (v ≡ row_val b o k) (‵ (places E b o xs fs) ⊛ ‵ (flft κ q)))) (Into-gives E 𝓛 𝓜.mem 𝓡.returns κ q r b o v at) $ await ! tt $ learn ! (λ ev. split ! $
    lands_last ! refl (parts_typed v b o k ev fk) $ exec ! 𝓣.C 𝓣.Λ Ev (tail fn.body) (at_ret Ev Post) $
    sets ! (is ! (of_opd ! (get ! refl)) ev) refl (tt, words) $ sets ! (agg ! (and_then ! (get_in ! (fld ! refl (stop !)) (sub ! 0 refl (whole !))) (no_more !))) refl (tt, (tt, tt)) $
    use1 𝓛 (‵ (strip R p xs)) (to_strip E 𝓛 b o xs fs (sym lf ∙ lx) (λ j h. full j (omega arith) (omega arith)) (subst (λ (n : ℕ). n * (mem R).size < 2 ^ 63) lx fit)) $
    use1 𝓛 (‵ (run_at R p (length xs) 0 xs)) (of_strip R 𝓛 b o xs) $ types.Kit.rewrite ! 0 (λ (n : ℕ). ‵ (run_at R p n 0 xs)) (sym lx) refl $
    use0 𝓛 (‵ ((RunData R).own_val (p, tt) (word p ∷ []))) (run_made R 𝓛 p) $ fjoin ! $ nothing ! $ move ! (2 ∷ 0 ∷ []) $ join ! $
    use0 𝓛 (raw (fact 𝓤 Told)) (fact_i 𝓤 Told (emp 𝓤) (sym at, refl, refl, refl)) $ nothing ! $ nothing ! $ fjoin ! $
    returns ! (look_at ! 0 refl) $ free_all ! refl $ keep ! (2 ∷ 0 ∷ 3 ∷ 1 ∷ []) $ by ! (leaves 𝓛 En hs c z (word p) new (tt, tt) (tt, tt)))))))))
