-- What a lane may have of a place's shares, by its view, stays while others act.
use Rattle.std.proofs.Common.{◌≡◌, ◌&&◌, eqb, ℕ, ◌<◌, Bool, true, false, cond, List, [], ◌++◌, length, refl, ap, sym, ◌∙◌, subst, arith, length-append, append_assoc, append-nil}
use Rattle.keybits.specs.declared.shape.Shape.{Shape}
use Rattle.keybits.specs.Keys.{place_of, generation_of, is_key}
use Rattle.seqpool.specs.declared.act.Act.{Act}
use Rattle.seqpool.specs.Pool.{Phase, with, published, home, retired, is_current, references_in, pool_after, IsLegal}
use Rattle.seqpool.specs.Histories.{acts_of}
use Rattle.seqpool.proofs.Growth.{acts-append}
use Rattle.poolsteps.specs.declared.view.Stored.{Stored}
use Rattle.poolsteps.specs.Shares.{reclaimer, room_of, MayHave, HasAll, IsKept}
use Rattle.poolsteps.proofs.shares.Rights.{rights-law}
use Rattle.keybits.specs.Counts.{times}
use Rattle.poolsteps.proofs.Staying.{place-stays}
use Rattle.poolsteps.specs.declared.view.LaneRecord.{LaneRecord}
use Rattle.poolsteps.specs.declared.view.View.{View}
use Rattle.poolsteps.specs.Views.{the_lane, head_record}
use Rattle.poolsteps.specs.Told.{GoesOn, MayTouch, HasPlace}
use Rattle.poolsteps.specs.ViewLaws.{SharesLaw, HeldLaw, FillingLaw}

-- what the view's lane may have by what was seen, it may have after this history, with these rooms kept beside it
pub record StillHas (z : Shape) (v : View) (history : List Act) (kept : List ℕ) (place number : ℕ) : Type 0 where
  pub may : MayHave (reclaimer history place) (the_lane v).lane number (pool_after z history place).phase
  pub all : HasPlace z v place → HasAll (reclaimer history place) (the_lane v).lane (pool_after z history place).phase
  pub room_is : room_of history kept place ≡ room_of v.seen v.rooms place
  pub known : (c : Stored) → IsKept c (room_of v.seen v.rooms place) (pool_after z v.seen place).phase → IsKept c (room_of history kept place) (pool_after z history place).phase

-- so it is where other lanes alone acted
pub still-has : (z : Shape) (v : View) (history between : List Act) (kept rooms_between : List ℕ) → history ≡ v.seen ++ between → kept ≡ v.rooms ++ rooms_between
    → (length v.rooms ≡ length v.seen) × (length rooms_between ≡ length between) → acts_of (the_lane v).lane between ≡ [] → IsLegal z history
    → (place number : ℕ) → MayTouch z v place number → StillHas z v history kept place number
still-has z v history between kept rooms_between seen rooms paired others legal place number may =
    let rights = rights-law z v.seen between v.rooms rooms_between (the_lane v).lane place number paired.0 paired.1 (subst (IsLegal z) seen legal) others may in
    rw (seen, rooms) (record { may = rights.0; all = rights.1; room_is = rights.3; known = rights.4 })

-- and so of a seat that went on with no act of its lane
pub goes-has : (z : Shape) (before after : View) (r : LaneRecord) → GoesOn z before after [] [] r → r.lane ≡ (the_lane before).lane
    → (place number : ℕ) → MayTouch z before place number → StillHas z before after.seen after.rooms place number
goes-has z before after r goes same place number may =
    still-has z before after.seen goes.between after.rooms goes.rooms_between (goes.seen ∙ append-nil (before.seen ++ goes.between))
    (goes.rooms ∙ append-nil (before.rooms ++ goes.rooms_between)) goes.paired (ap (λ (lane : ℕ). acts_of lane goes.between) (sym same) ∙ goes.others) goes.legal
    place number may

pub shares-law : SharesLaw
shares-law z before after r goes same place number may =
    let still = goes-has z before after r goes same place number may in
    let lane_is : (the_lane after).lane ≡ (the_lane before).lane = ap (λ (lanes : List LaneRecord). (head_record lanes).lane) goes.lanes ∙ same in
    rw lane_is (still.may, still.all, still.room_is)

-- a lane with a reference may have the share of its own number
held-may : (last lane : ℕ) (current : Bool) (f : Phase) → 0 < cond current (references_in f lane) 0 → MayHave last lane lane f
held-may last lane false f some = absurd (omega arith)
held-may last lane true (with owner) some = absurd (omega arith)
held-may last lane true (published content references mark) some = (refl, some)
held-may last lane true home some = absurd (omega arith)
held-may last lane true retired some = absurd (omega arith)

pub held-law : HeldLaw
held-law z v key some =
    held-may (reclaimer v.seen (place_of key)) (the_lane v).lane (is_current z (pool_after z v.seen) key) (pool_after z v.seen (place_of key)).phase some

-- what was seen, with what others added twice
joined : {A : Type 0} (seen first second : List A) → (((seen ++ first) ++ []) ++ second) ++ [] ≡ (seen ++ (first ++ second)) ++ []
joined {A} seen first second =
    ap (λ (xs : List A). xs ++ []) (ap (λ (xs : List A). xs ++ second) (append-nil (seen ++ first)) ∙ append_assoc seen first second)

-- a lane that goes on twice without an act of its own goes on
pub goes-two : (z : Shape) (a b c : View) (r s : LaneRecord) → s.lane ≡ r.lane → GoesOn z a b [] [] r → GoesOn z b c [] [] s → GoesOn z a c [] [] s
goes-two z a b c r s same first second = record {
  lanes = second.lanes;
  between = first.between ++ second.between;
  seen = second.seen ∙ (ap (λ (seen : List Act). (seen ++ second.between) ++ []) first.seen ∙ joined a.seen first.between second.between);
  rooms_between = first.rooms_between ++ second.rooms_between;
  rooms = second.rooms ∙ (ap (λ (rooms : List ℕ). (rooms ++ second.rooms_between) ++ []) first.rooms ∙ joined a.rooms first.rooms_between second.rooms_between);
  paired = (
    first.paired.0,
    rw (length-append first.rooms_between second.rooms_between, length-append first.between second.between, first.paired.1, second.paired.1) refl,
  );
  others = rw (acts-append s.lane first.between second.between, second.others, same, first.others) refl;
  legal = second.legal;
  owners = second.owners;
  mine = second.mine;
  quiet = second.quiet;
}

-- a key that the lane may publish it still may after a look that leaves what it has under way and its chain
pub filling-law : FillingLaw
filling-law z before after r key goes same under chain may =
    let now : the_lane after ≡ r = ap head_record goes.lanes in
    let place : ℕ = place_of key in
    let seen : after.seen ≡ before.seen ++ goes.between = goes.seen ∙ append-nil (before.seen ++ goes.between) in
    let stays = place-stays z (the_lane before).lane place before.seen goes.between (subst (IsLegal z) seen goes.legal)
    (ap (λ (l : ℕ). acts_of l goes.between) (sym same) ∙ goes.others) may.with_lane in record {
      idle = ap (λ (x : LaneRecord). x.under) now ∙ (under ∙ may.idle);
      own = may.own ∙ (sym same ∙ sym (ap (λ (x : LaneRecord). x.lane) now));
      current = ap (λ (g : ℕ). is_key z key && eqb g (generation_of key)) (ap (λ (acts : List Act). (pool_after z acts place).generation) seen ∙ stays.1) ∙ may.current;
      with_lane = ap (λ (acts : List Act). (pool_after z acts place).phase) seen ∙ (stays.0 ∙ ap with (sym same ∙ sym (ap (λ (x : LaneRecord). x.lane) now)));
      unchained = ap (λ (x : LaneRecord). times place x.chain) now ∙ (ap (times place) chain ∙ may.unchained);
    }
