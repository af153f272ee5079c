-- What lines keep of a lane and its registers.
use Rattle.std.proofs.Common.{◌≡◌, ◌≢◌, ℕ, zero, suc, ◌+◌, ◌<◌, ◌≤◌, Bool, true, false, cond, ◌==◌, List, length, set, sum_by, Some, None, refl, sym, ap, ◌∙◌, subst, arith, length-set, replicate, eq-eqb}
use Rattle.std.proofs.lemmas.List.{length-replicate}
use Rattle.std.proofs.lemmas.List.Sums.{sum_by-cons}
use mathlib.Core.Logic.{dite}
use native.Mathlib.Decide.{ℕ_discrete}
use Rattle.slotcell.specs.ByteBuf.{ByteBuf}
use Rattle.shardpool.specs.Tokens.{PoolOf, LaneOf, FillingOf, RefOf}
use Rattle.shardpool.specs.Lanes.{Owns, Made, holds, refs}
use Rattle.workers.specs.declared.registers.Register.{Register}
use Rattle.workers.specs.declared.registers.Held.{Held}
use Rattle.workers.specs.declared.registers.Held.TheVariants.{Empty, Filling, Reference}
use Rattle.workers.specs.Held.{is_empty, filling_in, reference_in}
use Rattle.workers.specs.Lines.{empty_register, first_desk, register_at}
use Rattle.workers.specs.Tidy.{desk, weight, key_weight, Tidy}
use Rattle.workers.proofs.Setting.{at-same, at-other, sum-set, sum-part, sum-less}

-- ---- what is held

pub small-weight : (r : Register) → weight r.held ≤ 1
small-weight r = go r.held
  where
    go : (h : Held) → weight h ≤ 1
    go Empty = omega arith
    go (Filling filling) = omega arith
    go (Reference reference) = omega arith

-- nothing and a filling weigh nothing
pub empty-light : (h : Held) → is_empty h ≡ true → (weight h ≡ 0) × ((key : ℕ) → key_weight key h ≡ 0)
empty-light Empty is = (refl, λ key. refl)
empty-light (Filling filling) is = absurd (cc is)
empty-light (Reference reference) is = absurd (cc is)

pub filling-light : (h : Held) (filling : FillingOf ByteBuf) → filling_in h ≡ Some filling → (weight h ≡ 0) × ((key : ℕ) → key_weight key h ≡ 0)
filling-light Empty filling is = absurd (cc is)
filling-light (Filling has) filling is = (refl, λ key. refl)
filling-light (Reference reference) filling is = absurd (cc is)

pub reference-heavy : (h : Held) (reference : RefOf) → reference_in h ≡ Some reference → (weight h ≡ 1) × ((key : ℕ) → key_weight key h ≡ cond (reference.key == key) 1 0)
reference-heavy Empty reference is = absurd (cc is)
reference-heavy (Filling has) reference is = absurd (cc is)
reference-heavy (Reference has) reference is =
    let same : has ≡ reference = cc is in (refl, λ key. ap (λ (r : RefOf). cond (r.key == key) 1 0) same)

-- ---- before the first line

all-empty : (n i : ℕ) → register_at (replicate n empty_register) i ≡ empty_register
all-empty zero i = refl
all-empty (suc n) zero = refl
all-empty (suc n) (suc i) = all-empty n i

none-filling : (i : ℕ) (filling : FillingOf ByteBuf) → filling_in (register_at (replicate 16 empty_register) i).held ≡ Some filling → ⊥
none-filling i filling is =
    let none : None ≡ Some filling = ap (λ (r : Register). filling_in r.held) (sym (all-empty 16 i)) ∙ is in absurd (cc none)

all-light : (f : Register → ℕ) → f empty_register ≡ 0 → (n : ℕ) → sum_by f (replicate n empty_register) ≡ 0
all-light f light zero = refl
all-light f light (suc n) =
    let more = all-light f light n in
    let sum = sum_by-cons f empty_register (replicate n empty_register) in omega (arith, more, light, sum)

pub tidy-first : (pool : PoolOf) (lane : LaneOf) → Owns pool lane → refs lane ≤ 1048559 → Tidy pool (first_desk lane)
tidy-first pool lane owns few = record {
  owns = owns;
  count = length-replicate 16 empty_register;
  made = λ i filling is. absurd (none-filling i filling is);
  apart = λ i j filling other is also same. absurd (none-filling i filling is);
  held = λ key. let none = all-light (λ r. key_weight key r.held) refl 16 in omega (arith, none);
  room = omega (arith, few);
}

-- ---- between lines

module _ {pool : PoolOf} {old new : LaneOf} {rs : List Register} (tidy : Tidy pool (desk old rs)) (owns : Owns pool new) where
  -- the registers are as before, and so is what the lane has
  pub tidy-lane : ((filling : FillingOf ByteBuf) → Made old filling → Made new filling) → ((key : ℕ) → holds new key ≡ holds old key) → refs new ≡ refs old → Tidy pool (desk new rs)
  tidy-lane fillings held_same refs_same = record {
    owns = owns;
    count = tidy.count;
    made = λ i filling is. fillings filling (tidy.made i filling is);
    apart = tidy.apart;
    held = λ key. let h = tidy.held key in let s = held_same key in omega (arith, h, s);
    room = let h = tidy.room in omega (arith, h, refs_same);
  }

  module _ (n : ℕ) (r : Register) (low : n < 16)
      (others : (i : ℕ) (filling : FillingOf ByteBuf) → i ≢ n → filling_in (register_at rs i).held ≡ Some filling → Made new filling)
      (made : (filling : FillingOf ByteBuf) → filling_in r.held ≡ Some filling → Made new filling)
      (apart : (i : ℕ) (filling other : FillingOf ByteBuf) → filling_in r.held ≡ Some filling → i ≢ n → filling_in (register_at rs i).held ≡ Some other → other.key ≢ filling.key)
      (held : (key : ℕ) → holds old key + key_weight key r.held ≤ holds new key + key_weight key (register_at rs n).held)
      (room : refs new + weight (register_at rs n).held ≤ refs old + weight r.held) where
    inside : n < length rs
    inside = omega (arith, tidy.count)

    here-is : (i : ℕ) → i ≡ n → register_at (set rs n r) i ≡ r
    here-is i here = subst (λ (k : ℕ). register_at (set rs n r) k ≡ r) (sym here) (at-same rs n r inside)

    held-here : (i : ℕ) (filling : FillingOf ByteBuf) → i ≡ n → filling_in (register_at (set rs n r) i).held ≡ Some filling → filling_in r.held ≡ Some filling
    held-here i filling here is = ap (λ (x : Register). filling_in x.held) (sym (here-is i here)) ∙ is

    held-there : (i : ℕ) (filling : FillingOf ByteBuf) → i ≢ n → filling_in (register_at (set rs n r) i).held ≡ Some filling → filling_in (register_at rs i).held ≡ Some filling
    held-there i filling there is = ap (λ (x : Register). filling_in x.held) (sym (at-other rs n i r there)) ∙ is

    two-apart : (i j : ℕ) (filling other : FillingOf ByteBuf) → filling_in (register_at (set rs n r) i).held ≡ Some filling
        → filling_in (register_at (set rs n r) j).held ≡ Some other → filling.key ≡ other.key → i ≡ j
    two-apart i j filling other first second same =
        dite (ℕ_discrete i n)
        (λ (here : i ≡ n). dite (ℕ_discrete j n)
        (λ (also : j ≡ n). here ∙ sym also)
        (λ (there : j ≢ n). absurd (apart j filling other (held-here i filling here first) there (held-there j other there second) (sym same))))
        (λ (there : i ≢ n). dite (ℕ_discrete j n)
        (λ (here : j ≡ n). absurd (apart i other filling (held-here j other here second) there (held-there i filling there first) same))
        (λ (also : j ≢ n). tidy.apart i j filling other (held-there i filling there first) (held-there j other also second) same))

    -- one register is set
    pub tidy-set : Tidy pool (desk new (set rs n r))
    tidy-set = record {
      owns = owns;
      count = length-set rs n r ∙ tidy.count;
      made = λ i filling is. dite (ℕ_discrete i n) (λ (here : i ≡ n). made filling (held-here i filling here is))
          (λ (there : i ≢ n). others i filling there (held-there i filling there is));
      apart = two-apart;
      held = λ key.
          let sum = sum-set (λ x. key_weight key x.held) rs n r inside in
          let most = tidy.held key in
          let change = held key in omega (arith, sum, most, change);
      room =
          let sum = sum-set (λ x. weight x.held) rs n r inside in
          let most = tidy.room in omega (arith, sum, most, room);
    }

-- where a register weighs nothing the lane may have one more reference
pub tidy-room : {pool : PoolOf} {lane : LaneOf} {rs : List Register} → Tidy pool (desk lane rs) → (n : ℕ) → n < 16 → weight (register_at rs n).held ≡ 0 → refs lane < 1048575
tidy-room {rs = rs} tidy n low light =
    let less = sum-less (λ x. weight x.held) small-weight rs n (omega (arith, tidy.count)) light in
    omega (arith, less, tidy.count, tidy.room)

hit-weight : (b : Bool) (m : ℕ) → b ≡ true → m ≡ cond b 1 0 → m ≡ 1
hit-weight true m hit is = is
hit-weight false m hit is = absurd (cc hit)

-- where the lane has the references of the registers it has that of each
pub least-held : (lane : LaneOf) (rs : List Register) → ((key : ℕ) → sum_by (λ x. key_weight key x.held) rs ≤ holds lane key) → (n : ℕ) → n < length rs
    → (reference : RefOf) → reference_in (register_at rs n).held ≡ Some reference → 1 ≤ holds lane reference.key
least-held lane rs held n low reference is =
    let heavy = (reference-heavy (register_at rs n).held reference is).1 reference.key in
    let one = hit-weight (reference.key == reference.key) _ (eq-eqb reference.key reference.key refl) heavy in
    let part = sum-part (λ x. key_weight reference.key x.held) rs n low in
    omega (arith, one, part, held reference.key)

-- the reference of a register is one of the lane
pub tidy-held : {pool : PoolOf} {lane : LaneOf} {rs : List Register} → Tidy pool (desk lane rs) → (n : ℕ) → n < 16 → (reference : RefOf)
    → reference_in (register_at rs n).held ≡ Some reference → 1 ≤ holds lane reference.key
tidy-held {lane = lane} {rs = rs} tidy n low reference is = least-held lane rs tidy.held n (omega (arith, low, tidy.count)) reference is
