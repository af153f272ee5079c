-- What is written of a text, piece by piece.
use Rattle.std.proofs.Common.{◌≡◌, ◌||◌, ℕ, length, Bool, true, false, nat_eq, List, [], ◌∷◌, ◌++◌, take, drop, Option, Some, None, refl, sym, ap, ◌∙◌, append_assoc, eqb-true, arith}
use Rattle.std.proofs.lemmas.List.{append-nil, take-append-drop}
use Rattle.std.specs.Io.KnownBytes.{Appends}

-- known bytes have grown by the text but for the rest
pub record WritesFront (old new : Option (List ℕ)) (text rest : List ℕ) : Type 0 where
  pub done : List ℕ
  pub appended : Appends old new done
  pub is : done ++ rest ≡ text

appends-none : (known : Option (List ℕ)) → Appends known known []
appends-none None = tt
appends-none (Some xs) = sym (append-nil xs)

appends-more : (old mid new : Option (List ℕ)) (done more : List ℕ) → Appends old mid done → Appends mid new more → Appends old new (done ++ more)
appends-more None mid new done more h k = tt
appends-more (Some xs) None new done more h k = absurd h
appends-more (Some xs) (Some ys) None done more h k = absurd k
appends-more (Some xs) (Some ys) (Some zs) done more h k = k ∙ ap (λ (l : List ℕ). l ++ more) h ∙ append_assoc xs done more

pub writes_front-none : (known : Option (List ℕ)) (text : List ℕ) → WritesFront known known text text
writes_front-none known text = record { done = []; appended = appends-none known; is = refl }

pub writes_front-more : (old mid new : Option (List ℕ)) (text rest left : List ℕ) (n : ℕ)
    → WritesFront old mid text rest → Appends mid new (take n rest) → left ≡ drop n rest → WritesFront old new text left
writes_front-more old mid new text rest left n front more is = record {
  done = front.done ++ take n rest;
  appended = appends-more old mid new front.done (take n rest) front.appended more;
  is = ap (λ (l : List ℕ). (front.done ++ take n rest) ++ l) is ∙ append_assoc front.done (take n rest) (drop n rest) ∙ ap (λ (l : List ℕ). front.done ++ l) (take-append-drop n rest) ∙ front.is;
}

writes_front-all : (old new : Option (List ℕ)) (text rest : List ℕ) → WritesFront old new text rest → rest ≡ [] → Appends old new text
writes_front-all old new text rest front none =
    let all : front.done ≡ text = sym (append-nil front.done) ∙ ap (λ (l : List ℕ). front.done ++ l) (sym none) ∙ front.is in
    rw (← all) front.appended

empty-list : (xs : List ℕ) → length xs ≡ 0 → xs ≡ []
empty-list [] e = refl
empty-list (x ∷ xs) e = absurd (omega arith)

-- the rest is empty
pub writes_front-end : (old new : Option (List ℕ)) (text rest : List ℕ) (b : Bool) → WritesFront old new text rest
    → b ≡ nat_eq (length rest) 0 → b ≡ true → Appends old new text
writes_front-end old new text rest b front e t = writes_front-all old new text rest front (empty-list rest (eqb-true (length rest) 0 (sym e ∙ t)))

-- a writer that has not failed had not before
pub unfailed_before : (old new now : Bool) → new ≡ (old || now) → new ≡ false → old ≡ false
unfailed_before false new now e good = refl
unfailed_before true new now e good = let bad : true ≡ false = sym e ∙ good in cc bad
