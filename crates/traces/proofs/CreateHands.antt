-- What a create hands out, and which places it leaves.
use Rattle.std.proofs.Common.{◌≡◌, ◌≢◌, ◌⊎◌, ⊎_elim, ℕ, zero, suc, ◌+◌, ◌<◌, ◌≤◌, Bool, true, false, cond, eqb, ltb, not, ◌&&◌, List, [], ◌∷◌, drop, refl, ap, sym, ◌∙◌, subst, arith, eq-eqb, ne_eqb, Option, Some, None}
use mathlib.Core.Logic.{dite}
use native.Mathlib.Decide.{ℕ_discrete}
use borrow.Author.Tests.{ltb-true, lt-ltb}
use Rattle.keybits.specs.declared.shape.Shape.{Shape}
use Rattle.keybits.specs.Places.{shard_of, page_of, slot_of, place_at}
use Rattle.keybits.specs.Shapes.{IsShape, page_size, is_place}
use Rattle.keybits.specs.Counts.{times}
use Rattle.keybits.proofs.CountLemmas.{no_times}
use Rattle.keybits.proofs.ShapeLemmas.{is_place-parts, is_place-place_at, page_size-le, shape_bounds}
use Rattle.traces.specs.Books.{Book, taken, slots_from, page_places, handed_first, handed_out, Free, free_with, after_own, free_after_create}
use Rattle.traces.specs.Parts.{count_if}
use Rattle.traces.specs.Owning.{unopened_of}
use Rattle.traces.proofs.SlotLemmas.{slots_only, slots_inside, page_size-positive, whole, not_below, same_test}

unopened_here : (q lane opened : ℕ) → shard_of q ≡ lane → unopened_of q lane opened ≡ count_if (not (ltb (page_of q) opened))
unopened_here q lane opened own = ap (λ (b : Bool). count_if (b && not (ltb (page_of q) opened))) (eq-eqb (shard_of q) lane own)

unopened_else : (q lane opened : ℕ) → shard_of q ≢ lane → unopened_of q lane opened ≡ 0
unopened_else q lane opened other = ap (λ (b : Bool). count_if (b && not (ltb (page_of q) opened))) (ne_eqb (shard_of q) lane other)

module _ (z : Shape) (shape : IsShape z) (lane : ℕ) (inside : lane < z.lanes) (opened : ℕ) (unopened : opened < z.pages) where
  -- the page is one of the shape
  fits : (opened < 16) × (0 + page_size z opened ≤ 4096)
  fits = let top = (shape_bounds z shape).pages in let size = page_size-le z opened in (omega arith, omega arith)

  -- a place of the page is once among its places, and was unopened; any other stays what it was
  page_opens : (q : ℕ) → is_place z q ≡ true → unopened_of q lane (opened + 1) + times q (page_places z lane opened) ≡ unopened_of q lane opened
  page_opens q is = dite (ℕ_discrete (shard_of q) lane)
      (λ own. let before = unopened_here q lane opened own in let after = unopened_here q lane (opened + 1) own in
      dite (ℕ_discrete (page_of q) opened)
      (λ same.
      let was : count_if (not (ltb (page_of q) opened)) ≡ 1 = ap (λ (b : Bool). count_if (not b)) (not_below (page_of q) opened (omega arith)) in
      let now : count_if (not (ltb (page_of q) (opened + 1))) ≡ 0 = ap (λ (b : Bool). count_if (not b)) (lt-ltb (page_of q) (opened + 1) (omega arith)) in
      let e : page_size z (page_of q) ≡ page_size z opened = ap (page_size z) same in
      let high = (is_place-parts z q is).2 in
      let one : times q (page_places z lane opened) ≡ 1 =
      slots_inside lane opened 0 (page_size z opened) q fits.0 fits.1 own same (omega arith) (omega arith) in omega arith)
      (λ other.
      let still : count_if (not (ltb (page_of q) (opened + 1))) ≡ count_if (not (ltb (page_of q) opened)) =
      ap (λ (b : Bool). count_if (not b)) (same_test (page_of q) opened other) in
      let none : times q (page_places z lane opened) ≡ 0 =
      no_times _ (λ some. absurd (other (slots_only lane opened 0 (page_size z opened) q fits.0 fits.1 some).1)) in omega arith))
      (λ other. let before = unopened_else q lane opened other in let after = unopened_else q lane (opened + 1) other in
      let none : times q (page_places z lane opened) ≡ 0 =
      no_times _ (λ some. absurd (other (slots_only lane opened 0 (page_size z opened) q fits.0 fits.1 some).0)) in omega arith)

  -- what is among them is a place of the shape
  page_inside : (q : ℕ) → 0 < times q (page_places z lane opened) → is_place z q ≡ true
  page_inside q some = let w = slots_only lane opened 0 (page_size z opened) q fits.0 fits.1 some in let high = w.3 in
      subst (λ (k : ℕ). is_place z k ≡ true) (whole q lane opened w.0 w.1)
      (is_place-place_at z shape lane opened (slot_of q) inside unopened (omega arith))

  -- slot 0 and the others
  page_rest : (q : ℕ) → times q (page_places z lane opened) ≡ count_if (eqb (place_at lane opened 0) q) + times q (drop 1 (page_places z lane opened))
  page_rest q = by_size (page_size z opened) (page_size-positive z shape opened)
    where
      by_size : (size : ℕ) → 0 < size
          → times q (slots_from lane opened 0 size) ≡ count_if (eqb (place_at lane opened 0) q) + times q (drop 1 (slots_from lane opened 0 size))
      by_size zero some = absurd (omega arith)
      by_size (suc n) some = refl

-- the place that is handed out, and what is free then
pub record Hands (z : Shape) (lane : ℕ) (b : Book) (place : ℕ) (free : Free) : Type 0 where
  pub out : handed_out z lane b ≡ Some place
  pub left : free_after_create z lane (free_with b.own b.chain b.opened) b.acts ≡ free
  pub is : is_place z place ≡ true
  pub counts : (q : ℕ) → is_place z q ≡ true → unopened_of q lane free.opened + times q free.own + times q free.chain + count_if (eqb place q)
      ≡ unopened_of q lane b.opened + times q b.own + times q b.chain + times q (taken b.acts)
  pub inside : (q : ℕ) → 0 < times q free.own + times q free.chain → is_place z q ≡ true

-- a place, or nothing, where nothing was found either
pub data Handing (z : Shape) (lane : ℕ) (b : Book) : Type 0 where
  hands : (place : ℕ) (free : Free) → Hands z lane b place free → Handing z lane b
  has_none : handed_out z lane b ≡ None → taken b.acts ≡ [] → Handing z lane b

-- a list with this head
head_times : (q place : ℕ) (xs rest : List ℕ) → xs ≡ place ∷ rest → times q xs ≡ count_if (eqb place q) + times q rest
head_times q place xs rest e = ap (times q) e

no_head : (place : ℕ) (rest : List ℕ) → place ∷ rest ≡ [] → ⊥
no_head place rest e = cc e

pub handing : (z : Shape) → IsShape z → (lane : ℕ) → lane < z.lanes → (b : Book)
    → ((q : ℕ) → 0 < times q b.own + times q b.chain + times q (taken b.acts) → is_place z q ≡ true)
    → (taken b.acts ≡ []) ⊎ ((b.own ≡ []) × (b.chain ≡ [])) → Handing z lane b
handing z shape lane inside b listed alone = by_own b.own refl
  where
    last : Option ℕ
    last = cond (ltb b.opened z.pages) (Some (place_at lane b.opened 0)) None

    here : (place : ℕ) → count_if (eqb place place) ≡ 1
    here place = ap count_if (eq-eqb place place refl)

    by_page : b.own ≡ [] → b.chain ≡ [] → taken b.acts ≡ [] → (t : Bool) → ltb b.opened z.pages ≡ t → Handing z lane b
    by_page e f g false h = has_none
        (λ i. handed_first (e i) (handed_first (f i) (handed_first (g i) (cond (h i) (Some (place_at lane b.opened 0)) None)))) g
    by_page e f g true h =
        let unopened = ltb-true b.opened z.pages h in
        hands (place_at lane b.opened 0) (free_with (drop 1 (page_places z lane b.opened)) [] (b.opened + 1)) record {
          out = λ i. handed_first (e i) (handed_first (f i) (handed_first (g i) (cond (h i) (Some (place_at lane b.opened 0)) None)));
          left = (λ i. after_own z lane b.opened (g i) (f i) (e i))
              ∙ ap (λ (t : Bool). cond t (free_with (drop 1 (page_places z lane b.opened)) [] (b.opened + 1)) (free_with [] [] b.opened)) h;
          is = is_place-place_at z shape lane b.opened 0 inside unopened (page_size-positive z shape b.opened);
          counts = λ q is. let p = page_opens z shape lane inside b.opened unopened q is in let r = page_rest z shape lane inside b.opened unopened q in
              let own : times q b.own ≡ 0 = ap (times q) e in let chain : times q b.chain ≡ 0 = ap (times q) f in
              let found : times q (taken b.acts) ≡ 0 = ap (times q) g in omega arith;
          inside = λ q some. let r = page_rest z shape lane inside b.opened unopened q in
              page_inside z shape lane inside b.opened unopened q (omega arith);
        }

    by_taken : b.own ≡ [] → b.chain ≡ [] → (found : List ℕ) → taken b.acts ≡ found → Handing z lane b
    by_taken e f [] g = by_page e f g (ltb b.opened z.pages) refl
    by_taken e f (place ∷ rest) g = hands place (free_with [] rest b.opened) record {
      out = λ i. handed_first (e i) (handed_first (f i) (handed_first (g i) (cond (ltb b.opened z.pages) (Some (place_at lane b.opened 0)) None)));
      left = λ i. after_own z lane b.opened (g i) (f i) (e i);
      is = let h = head_times place place (taken b.acts) rest g in let one = here place in listed place (omega arith);
      counts = λ q is. let h = head_times q place (taken b.acts) rest g in
          let own : times q b.own ≡ 0 = ap (times q) e in let chain : times q b.chain ≡ 0 = ap (times q) f in omega arith;
      inside = λ q some. let h = head_times q place (taken b.acts) rest g in listed q (omega arith);
    }

    by_chain : b.own ≡ [] → (chain : List ℕ) → b.chain ≡ chain → Handing z lane b
    by_chain e [] f = by_taken e f (taken b.acts) refl
    by_chain e (place ∷ rest) f =
        let g : taken b.acts ≡ [] = ⊎_elim (λ (t : taken b.acts ≡ []). t) (λ t. absurd (no_head place rest (sym f ∙ t.1))) alone in
        hands place (free_with [] rest b.opened) record {
          out = λ i. handed_first (e i)
              (handed_first (f i) (handed_first (taken b.acts) (cond (ltb b.opened z.pages) (Some (place_at lane b.opened 0)) None)));
          left = λ i. after_own z lane b.opened (taken b.acts) (f i) (e i);
          is = let h = head_times place place b.chain rest f in let one = here place in listed place (omega arith);
          counts = λ q is. let h = head_times q place b.chain rest f in
              let own : times q b.own ≡ 0 = ap (times q) e in let found : times q (taken b.acts) ≡ 0 = ap (times q) g in omega arith;
          inside = λ q some. let h = head_times q place b.chain rest f in listed q (omega arith);
        }

    by_own : (own : List ℕ) → b.own ≡ own → Handing z lane b
    by_own [] e = by_chain e b.chain refl
    by_own (place ∷ rest) e =
        let g : taken b.acts ≡ [] = ⊎_elim (λ (t : taken b.acts ≡ []). t) (λ t. absurd (no_head place rest (sym e ∙ t.0))) alone in
        hands place (free_with rest b.chain b.opened) record {
          out = λ i. handed_first (e i)
              (handed_first b.chain (handed_first (taken b.acts) (cond (ltb b.opened z.pages) (Some (place_at lane b.opened 0)) None)));
          left = λ i. after_own z lane b.opened (taken b.acts) b.chain (e i);
          is = let h = head_times place place b.own rest e in let one = here place in listed place (omega arith);
          counts = λ q is. let h = head_times q place b.own rest e in let found : times q (taken b.acts) ≡ 0 = ap (times q) g in omega arith;
          inside = λ q some. let h = head_times q place b.own rest e in listed q (omega arith);
        }
