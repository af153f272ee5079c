-- What a word's count tells of the references to its place, and a stack of who returned its places.
use Rattle.std.proofs.Common.{◌≡◌, ⊎_elim, ℕ, ◌<◌, ◌≤◌, Bool, true, false, cond, List, [], ◌∷◌, refl, ap, sym, ◌∙◌, subst, arith}
use Rattle.std.proofs.lemmas.Bool.{cases_lt}
use mathlib.Core.Logic.{dite}
use native.Mathlib.Decide.{ℕ_discrete}
use Rattle.keybits.specs.declared.shape.Shape.{Shape}
use Rattle.keybits.specs.Shapes.{callers}
use Rattle.keybits.specs.Keys.{place_of, generation_of, key_number}
use Rattle.keybits.specs.Counts.{sum_below}
use Rattle.keybits.specs.Words.{word_with, state_in, count_in, generation_in, claimable}
use Rattle.keybits.proofs.ShapeLemmas.{is_place-parts}
use Rattle.keybits.proofs.WordLemmas.{word_with-parts}
use Rattle.keybits.proofs.CountLemmas.{sum-part, sum-same, sum-none, sum-some}
use Rattle.seqpool.specs.declared.act.Act.{Act}
use Rattle.seqpool.specs.Pool.{Pool, references_in, is_current, references, after, fresh, pool_from, LegalFrom, pool_after}
use Rattle.seqpool.proofs.Tallies.{references-stay}
use Rattle.seqpool.proofs.Ranks.{current-from}
use Rattle.steplaws.specs.declared.pending.Pending.TheVariants.{Nothing, Owes}
use Rattle.steplaws.specs.Facts.{to_undo, returner}
use Rattle.steplaws.specs.MomentLaws.{QuietLaw, CountLaw, ReturnerLaw}
use Rattle.steplaws.proofs.HomePlaces.{home-parts, lane-from, returners-below}
use Rattle.steplaws.proofs.Stacks.{stacked}
use Rattle.steplaws.proofs.Marks.{marked-three}
use Rattle.steplaws.proofs.Generations.{key_now}

-- a lane outside the shape has no references
none-beyond : (z : Shape) (lane key : ℕ) → (callers z) ≤ lane → (P : Pool) (h : List Act) → LegalFrom z P h → references z P lane key ≡ 0 → references z (pool_from z P h) lane key ≡ 0
none-beyond z lane key past P [] legal none = none
none-beyond z lane key past P (a ∷ more) legal none =
    let inside = legal.0 in
    none-beyond z lane key past (after z a P) more legal.2 (references-stay z key lane P a legal.1 (λ e. absurd (omega arith)) ∙ none)

fresh-none : (b : Bool) → (let n : ℕ = cond b 0 0 in n) ≡ 0
fresh-none true = refl
fresh-none false = refl

pub count-law : CountLaw
count-law z m s place inside none lane = ⊎_elim
    (λ (below : lane < (callers z)).
    let c = s.count place inside in
    let part = sum-part (callers z) lane (λ x. references_in (pool_after z m.history place).phase x) below in
    omega arith)
    (λ (past : (callers z) ≤ lane).
    let k = key_now z s.limits s.wide m.history place inside in
    let key : ℕ = key_number z.tag place (pool_after z m.history place).generation in
    let here : (pool_after z m.history (place_of (key_number z.tag place (pool_after z m.history place).generation))).generation ≡ generation_of (key_number z.tag place (pool_after z m.history place).generation)
    = ap (λ (p : ℕ). (pool_after z m.history p).generation) k.1 ∙ sym k.2 in
    let cur = current-from z (pool_after z m.history) (key_number z.tag place (pool_after z m.history place).generation) k.0 here in
    let zero_now = none-beyond z lane (key_number z.tag place (pool_after z m.history place).generation) past fresh m.history s.legal (fresh-none (is_current z fresh (key_number z.tag place (pool_after z m.history place).generation))) in
    ap (λ (p : ℕ). references_in (pool_after z m.history p).phase lane) (sym k.1)
    ∙ (sym (ap (λ (b : Bool). cond b (references_in (pool_after z m.history (place_of (key_number z.tag place (pool_after z m.history place).generation))).phase lane) 0) cur) ∙ zero_now))
    (cases_lt lane (callers z))

pub quiet-law : QuietLaw
quiet-law z m s quiet place inside is = dite (ℕ_discrete (sum_below (callers z) (λ lane. references_in (pool_after z m.history place).phase lane)) 0)
    (λ none.
    let st = s.state place inside in
    let c = s.count place inside in
    let undone = sum-same (callers z) (λ lane. to_undo place (m.lanes.under lane)) (λ lane. 0) (λ lane below. ap (to_undo place) (quiet lane below)) in
    let zeros = sum-none (callers z) in
    let zero_count : count_in (m.words.life place) ≡ 0 = omega arith in
    let three : state_in (m.words.life place) ≡ 3 = st.0 ∙ marked-three (pool_after z m.history place).phase is in
    let word : m.words.life place ≡ claimable (generation_in (m.words.life place)) =
    sym (word_with-parts (m.words.life place)) ∙ (ap (λ (n : ℕ). word_with n (count_in (m.words.life place)) (generation_in (m.words.life place))) three
    ∙ ap (λ (n : ℕ). word_with 3 n (generation_in (m.words.life place))) zero_count) in
    let o = s.owed place (generation_in (m.words.life place)) inside word in
    let bad : Owes place (generation_in (m.words.life place)) ≡ Nothing = sym o.2 ∙ quiet o.0 o.1 in
    absurd (cc bad))
    (λ some. sum-some (callers z) (λ lane. references_in (pool_after z m.history place).phase lane) (omega arith))

pub returner-law : ReturnerLaw
returner-law z m s shard place is =
    let p = home-parts z m.history shard place is in
    let inside : shard < z.lanes = subst (λ (n : ℕ). n < z.lanes) p.own (is_place-parts z place p.inside).0 in
    let some = s.limits.lanes.0 in (
      returners-below z fresh m.history (λ _. 0) (λ q. omega arith) s.legal place,
      ⊎_elim
          (λ (low : returner m.history place < z.lanes).
          let t = stacked z m.words m.history m.lanes s.home shard place (lane-from z m.history shard place is low) in
          let who = s.home.returned shard t.lane inside t.below t.apart t.thread t.leads place t.among in
          λ (same : returner m.history place ≡ shard). t.apart (sym who ∙ same))
          (λ (high : z.lanes ≤ returner m.history place). λ (same : returner m.history place ≡ shard). let bad : returner m.history place < z.lanes = omega arith in absurd (omega arith))
          (cases_lt (returner m.history place) z.lanes),
    )
