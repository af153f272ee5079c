-- A portion, or nothing, without bytes.
use Rattle.std.specs.Prelude.{ℕ, Bool, true, false, Option, Some, None, refl}
use Rattle.std.specs.Coded.{Coded, code_by, coded×, coded_ℕ, coded_bool}
use base.Fml.{Lft, Fml, ftrue}
use denote.RattleType.{RattleType}
use denote.RawPtr.{Ptr, coded_ptr}
use Rattle.poolsteps.specs.declared.memory.Portion.{Portion}
use Rattle.poolsteps.specs.Portion.{cell_owns, cell_shares}

pub record Held (T : Type 0) : Type 0 where
  pub base : Ptr
  pub index : ℕ
  pub object : T
  pub cell : ℕ
  pub lifetime : ℕ
  pub parts : ℕ
  pub owner : Bool
  pub number : ℕ
  pub of : ℕ

abbrev pub held_code : {T : Type 0} → Coded T → Coded (Held T)
held_code {T} code = code_by (((Ptr × ℕ) × (T × ℕ))
    × ((ℕ × ℕ) × (Bool × (ℕ × ℕ))))
    (coded× (coded× (coded× coded_ptr coded_ℕ) (coded× code coded_ℕ))
    (coded× (coded× coded_ℕ coded_ℕ) (coded× coded_bool (coded× coded_ℕ coded_ℕ))))
    (λ h. (((h.base, h.index), (h.object, h.cell)), ((h.lifetime, h.parts), (h.owner, (h.number, h.of)))))
    (λ p. record {
      base = p.0.0.0;
      index = p.0.0.1;
      object = p.0.1.0;
      cell = p.0.1.1;
      lifetime = p.1.0.0;
      parts = p.1.0.1;
      owner =
          p.1.1.0;
      number = p.1.1.1.0;
      of = p.1.1.1.1;
    }) (λ _. refl)

module _ {T : Type 0} where
  abbrev pub held_of : Portion T → Held T
  held_of p = record {
    base = p.base;
    index = p.index;
    object = p.object;
    cell = p.cell;
    lifetime = p.lifetime;
    parts = p.parts;
    owner =
        p.owner;
    number = p.number;
    of = p.of;
  }

  abbrev pub portion_of : Held T → Portion T
  portion_of h = record {
    mark = record {};
    base = h.base;
    index = h.index;
    object = h.object;
    cell = h.cell;
    lifetime = h.lifetime;
    parts
        = h.parts;
    owner = h.owner;
    number = h.number;
    of = h.of;
  }

abbrev pub held_owns : (R : RattleType) → Option (Held R.Denot) → Fml
held_owns R None = ftrue
held_owns R (Some h) = cell_owns R h.base h.index h.object h.lifetime h.cell h.parts h.owner

-- what a `&` to that gives: what one to the portion gives, or nothing
abbrev pub held_shares : (R : RattleType) → Option (Held R.Denot) → Lft → Fml
held_shares R None κ = ftrue
held_shares R (Some h) κ = cell_shares R h.base h.index h.object h.lifetime h.cell κ

-- ---- what proofs alone decide

-- the first of two that has something
abbrev pub first_of : {A : Type 0} → Option A → Option A → Option A
first_of (Some x) other = Some x
first_of None other = other

-- what goes to the one who is chosen
abbrev pub if_chosen : {A : Type 0} → Bool → Option A → Option A
if_chosen true o = o
if_chosen false o = None

-- and what to the other
abbrev pub unless_chosen : {A : Type 0} → Bool → Option A → Option A
unless_chosen true o = None
unless_chosen false o = o
