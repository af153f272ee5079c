-- The return of a place by a guest: one step.
use Rattle.std.proofs.Common.{◌≡◌, ◌≤◌, ℕ, Bool, true, false, cond, List, [], ◌∷◌, ◌++◌, Some, None, refl, ap, ◌∙◌, subst, arith, eq-eqb, ne_eqb}
use Rattle.atomic_table.specs.Table.{Me}
use Rattle.keybits.specs.declared.shape.Shape.{Shape}
use Rattle.keybits.specs.Places.{shard_of}
use Rattle.keybits.specs.Shapes.{is_place}
use Rattle.seqpool.specs.declared.act.Act.{Act}
use Rattle.seqpool.specs.declared.act.Act.TheVariants as acts
use Rattle.seqpool.specs.Pool.{home, Spot, Pool, fresh, pool_after}
use Rattle.seqpool.proofs.Growth.{pool-snoc, after-here}
use Rattle.steplaws.specs.Facts.{guest_home, returner}
use Rattle.steplaws.proofs.Updates.{at-here}
use Rattle.steplaws.proofs.HomePlaces.{home-from, returners-snoc, guest-from}
use Rattle.steplaws.specs.declared.pending.Pending.{Pending}
use Rattle.steplaws.specs.declared.pending.Pending.TheVariants.{Returns}
use Rattle.poolsteps.specs.declared.view.Status.TheVariants.{Untouched}
use Rattle.poolsteps.specs.declared.view.LaneRecord.{LaneRecord}
use Rattle.poolsteps.specs.declared.view.View.{View}
use Rattle.poolsteps.specs.Views.{head_record, the_lane, status_of}
use Rattle.poolsteps.specs.Told.{RowSteps, IsIdle}
use Rattle.poolsteps.specs.Returned.{given_record, place_under, GivesBit}
use Rattle.seatcalls.specs.Called.{Did}
use Rattle.seatcalls.proofs.parts.Going.{even-in}
use Rattle.seatcalls.proofs.parts.Doing.{IsNext, did-goes}

given-next : (r : LaneRecord) (place : ℕ) → IsNext place (acts.Home r.lane place ∷ []) r (given_record r place)
given-next r place = record {
  lane = refl;
  mine = refl;
  chain = refl;
  deeds = λ p number other. ap (λ (b : Bool). cond b Untouched (status_of r p number)) (ne_eqb p place other);
  cells = λ p other. refl;
}

module _ {S : Type 0} {z : Shape} {place : ℕ} {a b : Me S View} (under : (the_lane a.0).under ≡ Returns place None false) where
  given-row : (found : ℕ) → GivesBit z a found b → RowSteps z a b (Some (acts.Home (the_lane a.0).lane place)) (given_record (the_lane a.0) place)
  given-row found gives = subst (λ (p : Pending). RowSteps z a b (Some (acts.Home (the_lane a.0).lane (place_under p))) (given_record (the_lane a.0) (place_under p))) under gives

  pub given-did : (found : ℕ) → GivesBit z a found b → Did z place (acts.Home (the_lane a.0).lane place ∷ []) 1 0 a b
  given-did found gives =
      let row = given-row found gives in
      did-goes row.goes (even-in (given_record (the_lane a.0) place) (Some (acts.Home (the_lane a.0).lane place))) (given-next (the_lane a.0) place)
      row.held row.steps (let same = row.looks in omega arith)

  pub given-idle : (found : ℕ) → GivesBit z a found b → IsIdle b.0
  given-idle found gives = let row = given-row found gives in ap (λ (lanes : List LaneRecord). (head_record lanes).under) row.goes.lanes

  -- it is then home, and a guest returned it
  pub given-home : (found : ℕ) → GivesBit z a found b → is_place z place ≡ true → z.lanes ≤ (the_lane a.0).lane → guest_home z b.0.seen (shard_of place) place ≡ true
  given-home found gives inside guest =
      let goes = (given-row found gives).goes in
      let act : Act = acts.Home (the_lane a.0).lane place in
      let earlier : List Act = a.0.seen ++ goes.between in
      let home_is : (pool_after z (earlier ++ act ∷ []) place).phase ≡ home
      = ap (λ (P : Pool). (P place).phase) (pool-snoc z fresh earlier act) ∙ ap (λ (x : Spot). x.phase) (after-here z (pool_after z earlier) act place (eq-eqb place place refl)) in
      let who : returner (earlier ++ act ∷ []) place ≡ (the_lane a.0).lane
      = ap (λ (f : ℕ → ℕ). f place) (returners-snoc (λ _. 0) earlier act) ∙ at-here (returner earlier) place (the_lane a.0).lane place refl in
      ap (λ (h : List Act). guest_home z h (shard_of place) place) goes.seen
      ∙ guest-from z (earlier ++ act ∷ []) (shard_of place) place (home-from z (earlier ++ act ∷ []) (shard_of place) place inside refl home_is)
      (omega (arith, who, guest))
