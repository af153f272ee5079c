-- What a hand's own step leaves: its seat is still that of one lane, with this under way and so many references.
use Rattle.std.proofs.Common.{◌≡◌, inl, ⊎_elim, ℕ, ◌+◌, ◌<◌, Bool, true, false, List, [], ◌∷◌, Option, Some, None, cond, refl, sym, ap, ◌∙◌, subst, eq-eqb}
use Rattle.std.proofs.lemmas.Bool.{cases_Bool}
use Rattle.atomic_table.specs.Table.{Me}
use Rattle.keybits.specs.declared.shape.Shape.{Shape}
use Rattle.keybits.specs.declared.step.Kind.{Kind}
use Rattle.seqpool.specs.declared.act.Act.{Act}
use Rattle.keybits.specs.Places.{shard_of}
use Rattle.keybits.specs.Keys.{place_of}
use Rattle.keybits.specs.Words.{generation_in}
use Rattle.seqpool.specs.Pool.{references, lane_of, fresh, pool_after}
use Rattle.seqpool.specs.Histories.{acts_of}
use Rattle.poolsteps.specs.declared.view.Status.TheVariants.{Untouched}
use Rattle.steplaws.specs.declared.pending.Pending.{Pending}
use Rattle.steplaws.specs.declared.pending.Pending.TheVariants.{Nothing, Undo, Owes}
use Rattle.steplaws.specs.Calls.{is_hit, owes_claim}
use Rattle.steplaws.specs.StepLaws.{owed_after}
use Rattle.poolsteps.specs.declared.view.LaneRecord.{LaneRecord}
use Rattle.poolsteps.specs.declared.view.View.{View}
use Rattle.poolsteps.specs.Views.{head_record, the_lane, IsOne, status_of, acts_in, rooms_in}
use Rattle.poolsteps.specs.Told.{GoesOn, LifeSteps, Steps, EntersGet, EntersClear, Leaves, IsIdle, references_seen, MayLeave}
use Rattle.poolsteps.specs.ViewLaws.{references_made, ReferencesLaw}
use Rattle.poolsteps.proofs.SeatLemmas.{IsBy}
use Rattle.poolsteps.proofs.Holding.{none-with}

-- a step's act, if there is one, is all the lane's
all-by : (lane : ℕ) (act : Option Act) → IsBy lane act → acts_of lane (acts_in act) ≡ acts_in act
all-by lane None by = refl
all-by lane (Some act) by = ap (λ (b : Bool). cond b (act ∷ []) []) (eq-eqb (lane_of act) lane by)

-- a step after which the lane has this record
module _ {S : Type 0} {z : Shape} {kind : Kind} {found left : ℕ} {before after : Me S View} {act : Option Act} {r : LaneRecord}
    (steps : Steps z kind found left before after act r) where
  pub one-after : IsOne after.0
  one-after = steps.goes.lanes ∙ ap (λ (lanes : List LaneRecord). head_record lanes ∷ []) (sym steps.goes.lanes)

  pub references-made : ReferencesLaw → r.lane ≡ (the_lane before.0).lane → IsBy r.lane act
      → (key : ℕ) → references_seen z after.0 key ≡ references_made (acts_in act) key (references_seen z before.0 key)
  references-made law same by key = law z before.0 after.0 (acts_in act) (rooms_in r act) r steps.goes same (all-by r.lane act by) key

module _ {S : Type 0} {z : Shape} {kind : Kind} {found left : ℕ} {before after : Me S View} {act : Option Act} {under : Pending}
    (steps : LifeSteps z kind found left before after act under) where
  pub under-after : (the_lane after.0).under ≡ under
  under-after = ap (λ (lanes : List LaneRecord). (head_record lanes).under) steps.goes.lanes

  pub lane-after : (the_lane after.0).lane ≡ (the_lane before.0).lane
  lane-after = ap (λ (lanes : List LaneRecord). (head_record lanes).lane) steps.goes.lanes

  pub references-after : ReferencesLaw → IsBy (the_lane before.0).lane act
      → (key : ℕ) → references_seen z after.0 key ≡ references_made (acts_in act) key (references_seen z before.0 key)
  references-after law by key = references-made steps law refl by key

-- a lane that saw no act yet has no reference
pub none-at-first : (z : Shape) (v : View) (key : ℕ) → v.seen ≡ [] → references_seen z v key ≡ 0
none-at-first z v key fresh_yet =
    ap (λ (seen : List Act). references z (pool_after z seen) (the_lane v).lane key) fresh_yet
    ∙ none-with z key (the_lane v).lane fresh (shard_of (place_of key)) refl

-- and where it had none, one after a get that hits
pub one-after-get : {S : Type 0} → ReferencesLaw → (z : Shape) (key found : ℕ) (before after : Me S View) → EntersGet z key before found after → is_hit key found ≡ true
    → references_seen z before.0 key ≡ 0 → references_seen z after.0 key ≡ 1
one-after-get law z key found before after enters hit none =
    let n : ℕ = references_seen z before.0 key in
    references-after (enters.0 hit).2 law refl key ∙ (ap (λ (b : Bool). cond b (n + 1) n) (eq-eqb key key refl) ∙ ap (λ (n : ℕ). n + 1) none)

-- a lane with a reference may give it back after a look of its own that leaves its slot alone
pub may-leave : ReferencesLaw → (z : Shape) (before after : View) (r : LaneRecord) (key : ℕ) → GoesOn z before after [] [] r → r.lane ≡ (the_lane before).lane
    → r.under ≡ Nothing → 0 < references_seen z before key → status_of (the_lane after) (place_of key) (the_lane after).lane ≡ Untouched → MayLeave z after key
may-leave law z before after r key goes same idle held left = inl (
  ap (λ (lanes : List LaneRecord). (head_record lanes).under) goes.lanes ∙ idle,
  subst (λ (n : ℕ). 0 < n) (sym (law z before after [] [] r goes same refl key)) held,
  λ touched. absurd (touched left),
)

-- after a LEAVE that leaves no claim to be made nothing is under way
owes-nothing : (place word : ℕ) → owes_claim word ≡ false → owed_after place word ≡ Nothing
owes-nothing place word none = ap (λ b. cond b (Owes place (generation_in word)) Nothing) none

-- after the ENTER of a clear and the LEAVE that undoes it, which leaves no claim to be made, the seat has one lane, with nothing under way
pub clear-undone : {S : Type 0} (z : Shape) (key found last : ℕ) (before entered after : Me S View) → EntersClear z key before found entered
    → Leaves z key entered last after → owes_claim last ≡ false → IsOne after.0 × IsIdle after.0
clear-undone z key found last before entered after enters leaves none =
    let back : (hit : Bool) → (the_lane entered.0).under ≡ Undo key hit → IsOne after.0 × IsIdle after.0
    = λ hit under. let undone = leaves.1 hit under in (one-after undone, under-after undone ∙ owes-nothing (place_of key) last none) in
    ⊎_elim
    (λ hit. back true (under-after (enters.0 hit)))
    (λ miss. back false (under-after (enters.1 miss)))
    (cases_Bool (is_hit key found))
