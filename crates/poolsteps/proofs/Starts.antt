-- What holds of the table at its start.
use Rattle.poolsteps.specs.Spot.{Spot as CellSpot}
use Rattle.std.proofs.Common.{◌≡◌, ⊎_elim, ℕ, zero, suc, ◌+◌, ◌^◌, ◌<◌, ◌≤◌, Bool, cond, List, [], ◌∷◌, map, length, Option, refl, ap, sym, ◌∙◌, subst, arith, eq-eqb, ne_eqb}
use Rattle.std.proofs.lemmas.List.Elements.{All-nil}
use mathlib.Core.Logic.{dite}
use mathlib.Core.Option.{some, some-injective, some-ne-none}
use native.Mathlib.Decide.{ℕ_discrete}
use lib.ListN.{get_elem?}
use Rattle.atomic_table.specs.Table.{opening}
use Rattle.keybits.specs.declared.shape.Shape.{Shape}
use Rattle.keybits.specs.Shapes.{callers, IsShape}
use Rattle.poolsteps.specs.Share.{Share}
use Rattle.poolsteps.specs.Shares.{first_stock}
use Rattle.poolsteps.proofs.shares.Starting.{first-share-law}
use Rattle.steplaws.specs.MomentLaws.{AreFirst, first_lanes}
use Rattle.steplaws.proofs.Starts.{start-law}
use Rattle.poolsteps.specs.declared.view.LaneRecord.{LaneRecord}
use Rattle.poolsteps.specs.declared.view.View.{View}
use Rattle.poolsteps.specs.Layout.{word_count, words_in, slot_count, slots_in}
use Rattle.poolsteps.specs.Views.{first_record, In, times_in}
use Rattle.poolsteps.specs.Rule.{World, IsRecord, IsBeginning, AreSeats, Kept, first_records, first_view}
use Rattle.poolsteps.proofs.FirstSlots.{AreNone, slots-empty}
use Rattle.poolsteps.proofs.Owning.{owners-none}
use Rattle.poolsteps.proofs.Joints.{IsSound, all-sound}

-- ---- the first records

-- each is that of one of these lanes
in-first-records : (r : LaneRecord) (from count : ℕ) → In r (first_records from count)
    → (lane : ℕ) × (from ≤ lane) × (lane < from + count) × (r ≡ first_record lane)
in-first-records r from zero among = absurd among
in-first-records r from (suc count) among = ⊎_elim (λ (same : r ≡ first_record from). (from, omega arith, omega arith, same))
    (λ (further : In r (first_records (from + 1) count)). let found = in-first-records r (from + 1) count further in (found.0, omega arith, omega arith, found.3)) among

abbrev counted : Bool → ℕ
counted is = cond is 1 0

no-earlier : (lane from count : ℕ) → lane < from → times_in lane (first_records from count) ≡ 0
no-earlier lane from zero less = refl
no-earlier lane from (suc count) less =
    let apart = ap counted (ne_eqb from lane (λ same. absurd (omega arith))) in
    let rest = no-earlier lane (from + 1) count (omega arith) in omega arith

each-once : (lane from count : ℕ) → times_in lane (first_records from count) ≤ 1
each-once lane from zero = omega arith
each-once lane from (suc count) = dite (ℕ_discrete from lane)
    (λ same. let here = ap counted (eq-eqb from lane same) in let rest = no-earlier lane (from + 1) count (omega arith) in omega arith)
    (λ other. let apart = ap counted (ne_eqb from lane other) in let rest = each-once lane (from + 1) count in omega arith)

-- before the first step
abbrev first_world : World
first_world = record { history = []; kept = []; lanes = first_lanes; stock = first_stock }

first-is-record : (z : Shape) (lane : ℕ) → lane < (callers z) → IsRecord z first_world (first_record lane)
first-is-record z lane inside = record {
  inside = inside;
  mine = refl;
  under = refl;
  pushed = λ shard. refl;
  chain = refl;
  deeds = λ place number. refl;
  cells = λ place. refl;
}

-- ---- the first seat

-- there is one view alone
alone : (v u : View) (seat : ℕ) → get_elem? (v ∷ []) seat ≡ some u → v ≡ u
alone v u zero is = some-injective v u is
alone v u (suc seat) is = absurd (some-ne-none u (sym is))

-- its lanes did nothing
first-sound : (z : Shape) → IsSound z first_world (first_view z)
first-sound z = record {
  records = λ r among. let found = in-first-records r 0 (callers z) among in
      subst (IsRecord z first_world) (sym found.3) (first-is-record z found.0 (omega arith));
  seen = record { acts = ([], refl); rooms = ([], refl); paired = refl };
  told = All-nil (IsBeginning first_world);
  own = λ r among. ap (λ (x : LaneRecord). x.mine) (in-first-records r 0 (callers z) among).3;
}

first-seats : (z : Shape) → AreSeats z first_world (first_view z ∷ [])
first-seats z = all-sound z first_world (first_view z ∷ [])
    (λ seat v is. subst (IsSound z first_world) (alone (first_view z) v seat is) (first-sound z)) (λ lane. omega (arith, each-once lane 0 (callers z)))

-- ---- the table

length-homes : {A : Type 0} (slots : List A) → length (map some slots) ≡ length slots
length-homes [] = refl
length-homes (slot ∷ more) = ap suc (length-homes more)

pub starts : {T : Type 0} (content : T → List ℕ) (room : T → ℕ) (spots : ℕ → CellSpot) (z : Shape) (words : List ℕ) (slots : List (Option (Share T)))
    → IsShape z → z.last_generation < 2 ^ 32 → length words ≡ word_count z → AreFirst z (words_in z words) → length slots ≡ slot_count z → AreNone slots
    → Kept content room spots z (opening words slots (first_view z))
starts content room spots z words slots limits wide count first deep none = (
  first_world,
  record {
    count = count;
    deep = length-homes slots ∙ deep;
    paired = refl;
    rule = start-law z (words_in z words) limits wide first;
    owners = owners-none;
    shared = first-share-law content room spots z (slots_in z (map some slots)) limits (slots-empty content room spots z slots deep none);
    seats = first-seats z;
  },
)
