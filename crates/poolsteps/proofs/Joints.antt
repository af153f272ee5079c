-- A seat is cut in two, and two seats come to one: the world, the words and the slots stay, so it is enough that each seat is sound.
use Rattle.poolsteps.specs.Spot.{Spot as CellSpot}
use Rattle.std.proofs.Common.{◌≡◌, ◌≢◌, ◌⊎◌, ⊎_elim, ℕ, ◌+◌, ◌≤◌, List, [], ◌∷◌, ◌++◌, length, slice_set, Option, refl, sym, ap, ◌∙◌, subst, arith}
use Rattle.std.specs.List.{All}
use Rattle.std.proofs.lemmas.List.Elements.{All-nil, All-same}
use mathlib.Core.Option.{some}
use mathlib.Core.List.{IsPrefix}
use lib.ListN.{get_elem?}
use Rattle.atomic_table.proofs.Lists.{at_set, set_else, at_snoc}
use Rattle.atomic_table.specs.Table.{State, Splits, Joins}
use Rattle.keybits.specs.declared.shape.Shape.{Shape}
use Rattle.seqpool.specs.declared.act.Act.{Act}
use Rattle.seqpool.specs.Histories.{acts_of}
use Rattle.poolsteps.specs.Share.{Share}
use Rattle.poolsteps.specs.declared.view.LaneRecord.{LaneRecord}
use Rattle.poolsteps.specs.declared.view.View.{View}
use Rattle.poolsteps.specs.Views.{In, times_in, times_among}
use Rattle.poolsteps.specs.Rule.{World, IsRecord, IsBeginning, HasSeen, AreSeats, Kept}
use Rattle.poolsteps.specs.Seats.{spent}
use Rattle.poolsteps.proofs.ViewLemmas.{among-set, among-append}

-- ---- each seat by itself

-- what a seat has and what it knows is so
pub record IsSound (z : Shape) (w : World) (v : View) : Type 0 where
  pub records : (r : LaneRecord) → In r v.lanes → IsRecord z w r
  pub seen : HasSeen w v
  pub told : All (IsBeginning w) v.told
  pub own : (r : LaneRecord) → In r v.lanes → r.mine ≡ acts_of r.lane v.seen

-- this holds of the view of each seat
abbrev pub Each : (View → Type 0) → List View → Type 0
Each P views = (seat : ℕ) (v : View) → get_elem? views seat ≡ some v → P v

module _ (z : Shape) (w : World) (views : List View) where
  pub each-sound : AreSeats z w views → Each (IsSound z w) views
  each-sound seats seat v at = record {
    records = λ r among. seats.records r (seat, v, at, among);
    seen = seats.seen seat v at;
    told = seats.told seat v at;
    own = λ r among. seats.own seat v r at among;
  }

  pub all-sound : Each (IsSound z w) views → ((lane : ℕ) → times_among lane views ≤ 1) → AreSeats z w views
  all-sound sound once = record {
    records = λ r has. (sound has.0 has.1 has.2).records r has.3;
    seen = λ seat v at. (sound seat v at).seen;
    told = λ seat v at. (sound seat v at).told;
    own = λ seat v r at among. (sound seat v at).own r among;
    once = once;
  }

-- the rule goes on where the views alone change, each is still sound, and no lane stands among them more often
reseated : {T : Type 0} (content : T → List ℕ) (room : T → ℕ) (spots : ℕ → CellSpot) (z : Shape) (s : State (Option (Share T)) View) (after : List View) → Kept content room spots z s
    → ((w : World) → Each (IsSound z w) s.views → Each (IsSound z w) after)
    → ((lane : ℕ) → times_among lane after ≤ times_among lane s.views) → Kept content room spots z record { words = s.words; homes = s.homes; views = after }
reseated content room spots z s after kept sound times = let stands = kept.1 in (
  kept.0,
  record {
    count = stands.count;
    deep = stands.deep;
    paired = stands.paired;
    rule = stands.rule;
    owners = stands.owners;
    shared = stands.shared;
    seats = all-sound z kept.0 after (sound kept.0 (each-sound z kept.0 s.views stands.seats))
        (λ lane. omega (arith, times lane, stands.seats.once lane));
  },
)

-- ---- a seat is cut in two

-- a seat that saw what this one saw, has none but its lanes, and was told what it was told or nothing
pub record IsPart (v part : View) : Type 0 where
  pub inside : (r : LaneRecord) → In r part.lanes → In r v.lanes
  pub seen : part.seen ≡ v.seen
  pub rooms : part.rooms ≡ v.rooms
  pub told : (part.told ≡ v.told) ⊎ (part.told ≡ [])

part-seen : (w : World) (v part : View) → IsPart v part → HasSeen w v → HasSeen w part
part-seen w v part is has = record {
  acts = subst (λ (seen : List Act). IsPrefix seen w.history) (sym is.seen) has.acts;
  rooms = subst (λ (rooms : List ℕ). IsPrefix rooms w.kept) (sym is.rooms) has.rooms;
  paired = ap length is.rooms ∙ (has.paired ∙ ap length (sym is.seen));
}

part-sound : (z : Shape) (w : World) (v part : View) → IsPart v part → IsSound z w v → IsSound z w part
part-sound z w v part is sound = record {
  records = λ r among. sound.records r (is.inside r among);
  seen = part-seen w v part is sound.seen;
  told = ⊎_elim (λ (same : part.told ≡ v.told). All-same (IsBeginning w) part.told v.told same sound.told)
      (λ (none : part.told ≡ []). All-same (IsBeginning w) part.told [] none (All-nil (IsBeginning w))) is.told;
  own = λ r among. sound.own r (is.inside r among) ∙ ap (acts_of r.lane) (sym is.seen);
}

-- what holds of each view, and of the two, holds of each view after a cut
each-cut : (P : View → Type 0) (views : List View) (id : ℕ) (left right : View) → P left → P right → Each P views
    → Each P (slice_set views id left ++ right ∷ [])
each-cut P views id left right of_left of_right before seat u is = ⊎_elim
    (λ (there : get_elem? (slice_set views id left) seat ≡ some u). ⊎_elim
    (λ (cut : (seat ≡ id) × (left ≡ u)). subst P cut.1 of_left)
    (λ (other : (seat ≢ id) × (get_elem? views seat ≡ some u)). before seat u other.1) (at_set views id seat left u there))
    (λ (new : right ≡ u). subst P new of_right) (at_snoc (slice_set views id left) right u seat is)

-- a seat is cut into two parts that have its lanes
pub cut : {T : Type 0} (content : T → List ℕ) (room : T → ℕ) (spots : ℕ → CellSpot) (z : Shape) (id : ℕ) (v left right : View) → IsPart v left → IsPart v right
    → ((lane : ℕ) → times_in lane left.lanes + times_in lane right.lanes ≡ times_in lane v.lanes)
    → Splits (Kept content room spots z) id v left right
cut content room spots z id v left right is_left is_right times s kept at = reseated content room spots z s (slice_set s.views id left ++ right ∷ []) kept
    (λ w before. let whole = before id v at in
    each-cut (IsSound z w) s.views id left right (part-sound z w v left is_left whole) (part-sound z w v right is_right whole) before)
    (λ lane. omega (arith, times lane, among-set lane s.views id v left at, among-append lane (slice_set s.views id left) (right ∷ [])))

-- ---- two seats come to one

-- a seat that has and knows nothing
spent-sound : (z : Shape) (w : World) → IsSound z w spent
spent-sound z w = record {
  records = λ r among. absurd among;
  seen = record { acts = (w.history, refl); rooms = (w.kept, refl); paired = refl };
  told = All-nil (IsBeginning w);
  own = λ r among. absurd among;
}

-- what holds of each view, and of the two, holds of each view after a joint
each-joined : (P : View → Type 0) (views : List View) (id other : ℕ) (both rest : View) → P both → P rest → Each P views
    → Each P (slice_set (slice_set views id both) other rest)
each-joined P views id other both rest of_both of_rest before seat u is = ⊎_elim
    (λ (gone : (seat ≡ other) × (rest ≡ u)). subst P gone.1 of_rest)
    (λ (still : (seat ≢ other) × (get_elem? (slice_set views id both) seat ≡ some u)). ⊎_elim
    (λ (here : (seat ≡ id) × (both ≡ u)). subst P here.1 of_both)
    (λ (there : (seat ≢ id) × (get_elem? views seat ≡ some u)). before seat u there.1) (at_set views id seat both u still.1))
    (at_set (slice_set views id both) other seat rest u is)

-- two seats come to one that is sound where they are, and has no more lanes than they
pub join : {T : Type 0} (content : T → List ℕ) (room : T → ℕ) (spots : ℕ → CellSpot) (z : Shape) (id other : ℕ) (v u both : View)
    → ((w : World) → IsSound z w v → IsSound z w u → IsSound z w both)
    → ((lane : ℕ) → times_in lane both.lanes ≤ times_in lane v.lanes + times_in lane u.lanes) → Joins (Kept content room spots z) id v other u both spent
join content room spots z id other v u both sound times s kept at apart at_other =
    let there : get_elem? s.views other ≡ some u = sym (set_else s.views id other both apart) ∙ at_other in
    reseated content room spots z s (slice_set (slice_set s.views id both) other spent) kept
    (λ w before. each-joined (IsSound z w) s.views id other both spent (sound w (before id v at) (before other u there)) (spent-sound z w) before)
    (λ lane. omega (arith, times lane, among-set lane s.views id v both at, among-set lane (slice_set s.views id both) other u spent at_other))
