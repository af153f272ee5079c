-- The lanes of two seats come to one.
use Rattle.poolsteps.specs.Spot.{Spot as CellSpot}
use Rattle.std.proofs.Common.{◌≡◌, ⊎_elim, ℕ, Bool, true, false, cond, ltb, List, ◌∷◌, ◌++◌, length, sym, ◌∙◌, subst, arith}
use Rattle.std.proofs.lemmas.List.Elements.{All-cons, All-append}
use mathlib.Core.List.{IsPrefix}
use Rattle.atomic_table.specs.Table.{Joins}
use Rattle.keybits.specs.declared.shape.Shape.{Shape}
use Rattle.seqpool.specs.declared.act.Act.{Act}
use Rattle.seqpool.specs.Histories.{acts_of}
use Rattle.poolsteps.specs.declared.view.LaneRecord.{LaneRecord}
use Rattle.poolsteps.specs.declared.view.View.{View}
use Rattle.poolsteps.specs.Views.{In}
use Rattle.poolsteps.specs.Rule.{World, IsBeginning, HasSeen, Kept}
use Rattle.poolsteps.specs.Seats.{heard_of, both_of, longer, spent}
use Rattle.poolsteps.proofs.ViewLemmas.{in-either, times-joined, acts-between, longer-begins}
use Rattle.poolsteps.proofs.Joints.{IsSound, join}

-- of lists as long as two others the longer is as long as the longer of the others
chosen-length : {A B : Type 0} (less : Bool) (xs ys : List A) (ms ns : List B) → length xs ≡ length ms → length ys ≡ length ns
    → length (cond less ys xs) ≡ length (cond less ns ms)
chosen-length true xs ys ms ns x y = y
chosen-length false xs ys ms ns x y = x

longer-length : {A B : Type 0} (xs ys : List A) (ms ns : List B) → length xs ≡ length ms → length ys ≡ length ns → length (longer xs ys) ≡ length (longer ms ns)
longer-length xs ys ms ns x y = subst (λ (less : Bool). length (longer xs ys) ≡ length (cond less ns ms)) (λ i. ltb (x i) (y i))
    (chosen-length (ltb (length xs) (length ys)) xs ys ms ns x y)

both-seen : (v u : View) (w : World) → HasSeen w v → HasSeen w u → HasSeen w (both_of v u)
both-seen v u w one two = record {
  acts = (longer-begins v.seen u.seen w.history one.acts two.acts).0;
  rooms = (longer-begins v.rooms u.rooms w.kept one.rooms two.rooms).0;
  paired = longer-length v.rooms u.rooms v.seen u.seen one.paired two.paired;
}

-- of the acts of the lanes of each seat there are no more behind what it saw, so none behind the longer of what both saw
both-sound : (z : Shape) (v u : View) (w : World) → IsSound z w v → IsSound z w u → IsSound z w (both_of v u)
both-sound z v u w one two =
    let most : List Act = longer v.seen u.seen in
    let begins = longer-begins v.seen u.seen w.history one.seen.acts two.seen.acts in record {
      records = λ r among. ⊎_elim (λ (here : In r v.lanes). one.records r here) (λ (there : In r u.lanes). two.records r there) (in-either r v.lanes u.lanes among);
      seen = both-seen v u w one.seen two.seen;
      told = All-cons (IsBeginning w) (heard_of v) (heard_of u ∷ v.told ++ u.told) one.seen
          (All-cons (IsBeginning w) (heard_of u) (v.told ++ u.told) two.seen (All-append (IsBeginning w) v.told u.told one.told two.told));
      own = λ r among. ⊎_elim
          (λ (here : In r v.lanes). own-of v one most begins.1 begins.0 r here)
          (λ (there : In r u.lanes). own-of u two most begins.2 begins.0 r there)
          (in-either r v.lanes u.lanes among);
    }
  where
    own-of : (y : View) → IsSound z w y → (most : List Act) → IsPrefix y.seen most → IsPrefix most w.history → (r : LaneRecord) → In r y.lanes
        → r.mine ≡ acts_of r.lane most
    own-of y sound most p q r among =
        let own = sound.own r among in own ∙ acts-between r.lane y.seen most w.history p q (sym own ∙ (sound.records r among).mine)

-- which is told what both saw
pub gathers : {T : Type 0} (content : T → List ℕ) (room : T → ℕ) (spots : ℕ → CellSpot) (z : Shape) (id other : ℕ) (v u : View)
    → Joins (Kept content room spots z) id v other u (both_of v u) spent
gathers content room spots z id other v u = join content room spots z id other v u (both_of v u) (both-sound z v u)
    (λ lane. omega (arith, times-joined lane v.lanes u.lanes))
