-- A strip is the places of a full row.
use Rattle.atomic_table.proofs.Names.{◌≡◌, ℕ, ◌*◌, ◌^◌, ◌<◌, List, [], ◌∷◌, length, sym, refl, ap, ◌∙◌, subst, w64, a_type, Val, vint, inst_fn, SProp, emp, Lft, Share, ftrue, flft, ‵, raw, ◌⊛◌, some, given, later, at_ret, ◌$◌, ◌∵◌, !, qed, by, move, keep, split, join, fsplit, fjoin, pick, learn, use0, use1, use2, await, rewrite, stop, fld, of_opd, no_more, and_then, first, blocks, exec, returns, enter, alloc_all, pass_all, free_all, look_at, get, get_in, sets, lands_last, is, env, sub, whole, tables, yes, no, RattleType, owns, types_at, plain, Ptr, block_ptr, ptr_val, nothing, param, layouts, Stays, stay_dropped, walk_of, Goes-dropped, fact, fact_i, heard, block_of, count_of, at_block, usize, uint_vals, uint_Tells, Bool, true, replicate, length-replicate, get_or-replicate, WT, ◌⊑◌, InBlock, mem, calls_at_last}
use Rattle.atomic_table.proofs.Walks.{proved, leaves}
use Rattle.core.proofs.atomic.Steps.{tail}
use Rattle.atomic_table.proofs.Calls.{fm}
use Rattle.core.specs.Mem.Slots.{slots_items, slots_ptr, slots_len, IsFull}
use Rattle.core.proofs.mem.Param.{El}
use Rattle.core.proofs.slots.Opens.{row_val}
use Rattle.core.proofs.slots.Slots.from_raw_parts.Met as callee
use Rattle.std.specs.Mem.{type_size}
use Rattle.atomic_table.specs.Seated.{strip}
use Rattle.poolsteps.specs.contracts.memory.Run as strips
use Rattle.poolsteps.proofs.raw.Fields.{word, word_good}
use Rattle.poolsteps.proofs.raw.Runs.{run_is, to_strip}
use Rattle.poolsteps.specs.Run.{run_at}
use Rattle.atomic_table.proofs.Raw.{Row, all as places, row_Typed, From, at_from, Made, from_goes, from_gives, of_strip}
use Rattle.poolsteps.specs.contracts.memory.Run.into_slots.{ended, clauses}
use Rattle.poolsteps.specs.contracts.memory.Run.into_slots.Key.{name as #self}
use Rattle.poolsteps.proofs.memory.Run.into_slots.Statement.{statement}
use Rattle.poolsteps.proofs.memory.Run.into_slots.Code as code

pub into_slots_spec : {M : Type 1} → statement M
into_slots_spec 𝓤 𝓛 𝓜 𝓡 wired T L =
    let H = 𝓛.H in let 𝓣 = tables 𝓤 H 𝓜 𝓡 𝓡.env in let R : RattleType = param 0 T in let E : El = record { row = T; laws = L } in let En = ended T in
    let inst = layouts (a_type ∷ []) (T, tt) in let fn = inst_fn inst code.function in let c = clauses T 𝓛 𝓜.mem 𝓡.returns in let Ss : RattleType = strips.the_row R in
    let met = callee.met 𝓤 𝓛 𝓜 𝓡 (code.calls-core::slots::Slots::from_raw_parts 𝓡.env wired) T L in
    let hs : Stays En.signature.params En.kept = (stay_dropped (plain (λ _. Ss)) no, (stay_dropped (plain (λ _. usize)) yes, tt)) in
    proved 𝓛 En hs c 𝓜 𝓡 (Goes-dropped 𝓛 1 (plain (λ _. Ss)) no (λ κs x f. refl), (Goes-dropped 𝓛 1 (plain (λ _. usize)) yes (λ κs x f. refl), tt)) (#self inst) fn (code.unfolded 𝓤 H 𝓜 𝓡 wired (T, tt))
    (λ κs. ((λ x. word x.ptr ∷ []), (uint_vals w64, tt))) (λ κs. ((λ x vs so. run_is R x.ptr vs so.0), (uint_Tells w64, tt))) (λ κs qs bounds a gh are.
    let κ : Lft = κs.0 in let q : Share = qs.0 in let p : Ptr = a.0.ptr in let xs : List T.Denot = a.0.items in let k : ℕ = a.1.0 in let fk : k < 2 ^ 64 = are.1.0.1 in let b : ℕ = block_of p in let o : ℕ = count_of p in
    let fs : List Bool = replicate (length xs) true in let z : (walk_of 𝓛 En hs c).Ghost = ((κs, qs, bounds, a, (word p ∷ [], (vint w64 k ∷ [], tt))), gh) in let Post : Val → SProp 𝓤 = (walk_of 𝓛 En hs c).post z in
    qed 𝓛 (((‵ (flft κ q) ⊛ ‵ ftrue) ⊛ ‵ (owns (types_at En.signature.params κs) a z.0.4)) ∷ raw (fact 𝓤 (κ ⊑ T.lives)) ∷ raw (fact 𝓤 ((a.0.first ≡ 0) × (k ≡ length xs) × (a.0.total ≡ k))) ∷ []) ∵
    move ! (1 ∷ 2 ∷ []) $ heard ! (κ ⊑ T.lives) (λ le. heard ! ((a.0.first ≡ 0) × (k ≡ length xs) × (a.0.total ≡ k)) (λ asked. let lx : k ≡ length xs = asked.1 in split ! $ split ! $ move ! (2 ∷ []) $ fsplit ! $ fsplit ! $ keep ! (1 ∷ 3 ∷ []) $
    rewrite ! 0 (λ (m : ℕ × ℕ). ‵ (run_at R p m.0 m.1 xs)) (λ j. ((asked.2 ∙ lx) j, asked.0 j)) refl $ fsplit ! $ types.Kit.fpick ! (λ fp. types.Kit.fpack ! (InBlock p × (length xs * type_size R < 2 ^ 63)) (λ _. ftrue) fp $ fjoin ! $ let at : p ≡ block_ptr b o = at_block p fp.0 in
    rewrite ! 0 (λ (π : Ptr). ‵ (run_at R π (length xs) 0 xs)) at refl $ use1 𝓛 (‵ (strip R (block_ptr b o) xs)) (to_strip R 𝓛 b o xs) $
    use1 𝓛 (‵ (places E b o xs fs)) (of_strip E 𝓛 b o xs) $
    let lf : k ≡ length fs = lx ∙ sym (length-replicate (length xs) true) in let words : WT (row_val b o k) = (tt, (record { fits = fk }, tt)) in
    enter ! 𝓣.C 𝓣.Λ fn (word p ∷ vint w64 k ∷ []) Post $ alloc_all ! (λ l. pass_all ! refl (word_good p, ((tt, record { fits = fk }), tt)) $ let Ev = env fn.locals l in
    let y = at_from E 𝓛 𝓜.mem 𝓡.returns κ q b o k xs fs in
    sets ! (is ! (of_opd ! (get_in ! (fld ! refl (stop !)) (sub ! 0 refl (whole !)))) (ap ptr_val at)) refl (tt, tt) $ first ! $ blocks ! $
    use2 𝓛 (raw ((From E 𝓛 𝓜.mem 𝓡.returns).pre y)) (from_goes E 𝓛 𝓜.mem 𝓡.returns κ q b o k xs fs le lx lf fk (subst (λ (n : ℕ). n * (mem R).size < 2 ^ 63) (sym lx) fp.1)) $
    calls_at_last ! (fm 𝓛 𝓜 𝓡) (From E 𝓛 𝓜.mem 𝓡.returns) met y (and_then ! (get ! refl) (and_then ! (get ! refl) (no_more !))) (λ v.
    use1 𝓛 (later (some (λ (r : (Row E).Denot). given ((v ≡ row_val b o k) × Made E 𝓛 𝓜.mem 𝓡.returns κ q b o k xs fs r) (‵ ((Row E).own_val r (row_val b o k ∷ [])) ⊛ ‵ (flft κ q)))))
    (from_gives E 𝓛 𝓜.mem 𝓡.returns κ q b o k xs fs v) $ await ! tt $ pick ! (λ r. learn ! (λ got. split ! $ let made = got.1 in
    let full : IsFull r = λ j low high. let near : j < length xs = subst (λ (n : ℕ). j < n) (made.1 ∙ lx) high in ap (λ (gs : List Bool). lib.ListN.get_or gs j mathlib.Core.Bool.false) made.3 ∙ get_or-replicate (length xs) j true mathlib.Core.Bool.false near in
    let Told : Type 0 = (slots_ptr r ≡ p) × (slots_len r ≡ k) × (slots_items r ≡ xs) × IsFull r in
    lands_last ! refl (row_Typed E v b o k got.0 fk) $ exec ! 𝓣.C 𝓣.Λ Ev (tail (tail fn.body)) (at_ret Ev Post) $ sets ! (is ! (of_opd ! (get ! refl)) got.0) refl (tt, words) $
    nothing ! $ move ! (2 ∷ 0 ∷ []) $ join ! $ use0 𝓛 (raw (fact 𝓤 Told)) (fact_i 𝓤 Told (emp 𝓤) (made.0 ∙ sym at, made.1, made.2, full)) $ nothing ! $ nothing ! $ fjoin ! $ nothing ! $ fjoin ! $
    returns ! (look_at ! 0 refl) $ free_all ! refl $ keep ! (2 ∷ 0 ∷ 3 ∷ 1 ∷ []) $ by ! (leaves 𝓛 En hs c z (row_val b o k) r (tt, (tt, tt)) (tt, (tt, tt)))))))))))
