-- Which fault of a shape comes first.
use Rattle.std.proofs.Common.{◌≤◌, ◌≡◌, ℕ, ◌<◌, ◌↔◌, IsOk, IsErrOf, Ok, Err, refl, subst, arith, ⊎_elim}
use Rattle.std.proofs.lemmas.Bool.{cases_order}
use Rattle.keybits.specs.declared.shape.Shape.{Shape}
use Rattle.keybits.specs.declared.shape.ShapeFault.{ShapeFault}
use Rattle.keybits.specs.declared.shape.ShapeFault.TheVariants.{Lanes, FirstPage, Pages, Generation, Tag}
use Rattle.keybits.specs.Shapes.{IsShape, IsNarrow}
use Rattle.keybits.specs.ShapeFaults.{shape_fault_number, IsWithin, IsFirstOutside}

-- two faults with one number are one
pub same_fault : (f g : ShapeFault) → shape_fault_number f ≡ shape_fault_number g → f ≡ g
same_fault Lanes Lanes e = refl
same_fault FirstPage FirstPage e = refl
same_fault Pages Pages e = refl
same_fault Generation Generation e = refl
same_fault Tag Tag e = refl
same_fault Lanes g e = absurd (omega arith)
same_fault FirstPage g e = absurd (omega arith)
same_fault Pages g e = absurd (omega arith)
same_fault Generation g e = absurd (omega arith)
same_fault Tag g e = absurd (omega arith)

module _ (lanes pages : ℕ) where
  -- a shape has one first fault at most
  pub same_first_fault : (z : Shape) (f g : ShapeFault) → IsFirstOutside lanes pages z f → IsFirstOutside lanes pages z g → f ≡ g
  same_first_fault z f g first other =
      ⊎_elim
      (λ e. same_fault f g e)
      (λ order. ⊎_elim
      (λ (lt : shape_fault_number f < shape_fault_number g). absurd (first.0 (other.1 f lt)))
      (λ (lt : shape_fault_number g < shape_fault_number f). absurd (other.0 (first.1 g lt)))
      order)
      (cases_order (shape_fault_number f) (shape_fault_number g))

  -- where the first fault is answered, just it is
  pub only_first : (z : Shape) (f : ShapeFault) → IsFirstOutside lanes pages z f → (g : ShapeFault) → IsErrOf {T = Unit {0}} {E = ShapeFault} (Err f) g ↔ IsFirstOutside lanes pages z g
  only_first z f first g = (
    λ (e : IsErrOf {T = Unit {0}} {E = ShapeFault} (Err f) g). let same : f ≡ g = cc in subst (λ h. IsFirstOutside lanes pages z h) same first,
    λ (other : IsFirstOutside lanes pages z g). let same : f ≡ g = same_first_fault z f g first other in cc,
  )

  -- a shape with a fault is not within its limits
  pub not_within : (z : Shape) (f : ShapeFault) → ¬ IsWithin lanes pages z f
      → IsOk {T = Unit {0}} {E = ShapeFault} (Err f) ↔ ((fault : ShapeFault) → IsWithin lanes pages z fault)
  not_within z f wrong = (
    λ (e : IsOk {T = Unit {0}} {E = ShapeFault} (Err f)). absurd (cc e),
    λ (each : (fault : ShapeFault) → IsWithin lanes pages z fault). absurd (wrong (each f)),
  )

  -- a shape within its limits has no fault
  pub no_fault : (z : Shape) → ((fault : ShapeFault) → IsWithin lanes pages z fault) → (g : ShapeFault)
      → IsErrOf {T = Unit {0}} {E = ShapeFault} (Ok tt) g ↔ IsFirstOutside lanes pages z g
  no_fault z each g = (
    λ (e : IsErrOf {T = Unit {0}} {E = ShapeFault} (Ok tt) g). absurd (cc e),
    λ (other : IsFirstOutside lanes pages z g). absurd (other.0 (each g)),
  )

  -- each field is within its limits
  pub each_within : (z : Shape) → IsWithin lanes pages z Lanes → IsWithin lanes pages z FirstPage → IsWithin lanes pages z Pages
      → IsWithin lanes pages z Generation → IsWithin lanes pages z Tag → (f : ShapeFault) → IsWithin lanes pages z f
  each_within z a b c d e Lanes = a
  each_within z a b c d e FirstPage = b
  each_within z a b c d e Pages = c
  each_within z a b c d e Generation = d
  each_within z a b c d e Tag = e

  pub lanes_first : (z : Shape) → ¬ IsWithin lanes pages z Lanes → IsFirstOutside lanes pages z Lanes
  lanes_first z wrong = (wrong, go)
    where
      go : (earlier : ShapeFault) → shape_fault_number earlier < 1 → IsWithin lanes pages z earlier
      go Lanes h = absurd (omega arith)
      go FirstPage h = absurd (omega arith)
      go Pages h = absurd (omega arith)
      go Generation h = absurd (omega arith)
      go Tag h = absurd (omega arith)

  pub first_page_first : (z : Shape) → IsWithin lanes pages z Lanes → ¬ IsWithin lanes pages z FirstPage → IsFirstOutside lanes pages z FirstPage
  first_page_first z a wrong = (wrong, go)
    where
      go : (earlier : ShapeFault) → shape_fault_number earlier < 2 → IsWithin lanes pages z earlier
      go Lanes h = a
      go g h = absurd (omega arith)

  pub pages_first : (z : Shape) → IsWithin lanes pages z Lanes → IsWithin lanes pages z FirstPage → ¬ IsWithin lanes pages z Pages → IsFirstOutside lanes pages z Pages
  pages_first z a b wrong = (wrong, go)
    where
      go : (earlier : ShapeFault) → shape_fault_number earlier < 3 → IsWithin lanes pages z earlier
      go Lanes h = a
      go FirstPage h = b
      go g h = absurd (omega arith)

  pub generation_first : (z : Shape) → IsWithin lanes pages z Lanes → IsWithin lanes pages z FirstPage → IsWithin lanes pages z Pages → ¬ IsWithin lanes pages z Generation → IsFirstOutside lanes pages z Generation
  generation_first z a b c wrong = (wrong, go)
    where
      go : (earlier : ShapeFault) → shape_fault_number earlier < 4 → IsWithin lanes pages z earlier
      go Lanes h = a
      go FirstPage h = b
      go Pages h = c
      go g h = absurd (omega arith)

  pub tag_first : (z : Shape) → IsWithin lanes pages z Lanes → IsWithin lanes pages z FirstPage → IsWithin lanes pages z Pages → IsWithin lanes pages z Generation → ¬ IsWithin lanes pages z Tag → IsFirstOutside lanes pages z Tag
  tag_first z a b c d wrong = (wrong, go)
    where
      go : (earlier : ShapeFault) → shape_fault_number earlier < 6 → IsWithin lanes pages z earlier
      go Lanes h = a
      go FirstPage h = b
      go Pages h = c
      go Generation h = d
      go g h = absurd (omega arith)

-- a shape is one of those of the wide limits where each field is within them
pub wide_each : (z : Shape) → z.guests ≤ 268435456 → ((fault : ShapeFault) → IsWithin 64 16 z fault) ↔ IsShape z
wide_each z guests = (
  λ each. record { lanes = each Lanes; first_page = each FirstPage; pages = each Pages; generations = each Generation; tag = each Tag; guests = guests },
  λ ok. each_within 64 16 z ok.lanes ok.first_page ok.pages ok.generations ok.tag,
)

-- and of the narrow ones
pub narrow_each : (z : Shape) → z.guests ≡ 0 → ((fault : ShapeFault) → IsWithin 16 6 z fault) ↔ IsNarrow z
narrow_each z guests = (
  λ each. (
    record {
      lanes = ((each Lanes).0, omega (arith, (each Lanes).1));
      first_page = each FirstPage;
      pages = ((each Pages).0, omega (arith, (each Pages).1));
      generations = each Generation;
      tag = each Tag;
      guests = omega (arith, guests);
    },
    (each Lanes).1,
    (each Pages).1,
    guests,
  ),
  λ ok. each_within 16 6 z (ok.0.lanes.0, ok.1) ok.0.first_page (ok.0.pages.0, ok.2) ok.0.generations ok.0.tag,
)
