use Rattle.std.proofs.Common.{Option, Some, None, Bool, cond, refl, ◌≡◌, ◌++◌, ◌∷◌, ◌+◌, ◌<◌, ◌≤◌, ℕ, List, [], drop, subst, ap, sym, ◌∙◌, arith}
use Rattle.std.specs.Prelude.{nat_lt, if◌then◌else◌}
use borrow.Author.Tests.{lt-ltb}
use Rattle.keybits.specs.declared.shape.Shape.{Shape}
use Rattle.traces.specs.Books.{Free, free_with, handed_first, after_own, after_chain, after_opening}
use Rattle.traces.proofs.SlotLemmas.{not_below}
use Rattle.coresteps.specs.declared.own.OwnList.{OwnList}
use Rattle.coresteps.specs.OwnLists.{own_places, IsOwnList}
use Rattle.coresteps.specs.Kept.{made_acts}
use Rattle.std.specs.Prelude.{option_copied, MatchOption}
use Rattle.keybits.specs.Places.{place_at}
use Rattle.traces.specs.Books.{page_places}
use Rattle.coresteps.specs.Lanes.{IsChained}
use Rattle.coresteps.proofs.CreateLemmas.{followed_free}
use Rattle.coresteps.proofs.shared.Shared.hand_out.Goals as goal

-- ---- what is handed out, and what is left: of the own list, of the chain, and of a page that is opened

handed_own : (own : List ℕ) (place : ℕ) (more : List ℕ) (other : Option ℕ) → own ≡ place ∷ more → Some place ≡ handed_first own other
handed_own own place more other e = sym (ap (λ (xs : List ℕ). handed_first xs other) e)

handed_chained : (own places : List ℕ) (place : ℕ) (more : List ℕ) (other : Option ℕ) → own ≡ [] → places ≡ place ∷ more
    → Some place ≡ handed_first own (handed_first places other)
handed_chained own places place more other none e =
    sym (ap (λ (xs : List ℕ). handed_first xs (handed_first places other)) none ∙ ap (λ (xs : List ℕ). handed_first xs other) e)

handed_opened : (own places : List ℕ) (opened now pages number : ℕ) (out : Option ℕ) (P Q R : Type 0) → own ≡ [] → places ≡ [] → now ≡ opened
    → MatchOption out ((pages ≤ now) × P) (λ place. (now < pages) × (place ≡ place_at number now 0) × Q × R)
    → out ≡ handed_first own (handed_first places (if nat_lt opened pages then Some (place_at number opened 0) else None))
handed_opened own places opened now pages number None P Q R none empty same h =
    let last = if nat_lt opened pages then Some (place_at number opened 0) else None in
    sym (ap (λ (xs : List ℕ). handed_first xs (handed_first places last)) none ∙ (ap (λ (xs : List ℕ). handed_first xs last) empty
    ∙ ap (λ (t : Bool). cond t (Some (place_at number opened 0)) None) (not_below opened pages (subst (λ (n : ℕ). pages ≤ n) same h.0))))
handed_opened own places opened now pages number (Some place) P Q R none empty same h =
    let last = if nat_lt opened pages then Some (place_at number opened 0) else None in
    ap Some (h.1 ∙ ap (λ (n : ℕ). place_at number n 0) same)
    ∙ sym (ap (λ (xs : List ℕ). handed_first xs (handed_first places last)) none ∙ (ap (λ (xs : List ℕ). handed_first xs last) empty
    ∙ ap (λ (t : Bool). cond t (Some (place_at number opened 0)) None) (lt-ltb opened pages (subst (λ (n : ℕ). n < pages) same h.0))))

own_free : (z : Shape) (number opened now : ℕ) (places own : List ℕ) (place : ℕ) (more : List ℕ) (Chained : List ℕ → Type 0) → own ≡ place ∷ more → now ≡ opened → Chained places
    → (more ≡ (after_own z number opened [] places own).own) × Chained (after_own z number opened [] places own).chain
    × (now ≡ (after_own z number opened [] places own).opened)
own_free z number opened now places own place more Chained e same chained =
    subst (λ (xs : List ℕ). (more ≡ (after_own z number opened [] places xs).own) × Chained (after_own z number opened [] places xs).chain
    × (now ≡ (after_own z number opened [] places xs).opened)) (sym e) (refl, chained, same)

opened_free : (z : Shape) (number : ℕ) (ring : List ℕ) (old now new : OwnList) (places : List ℕ) (out : Option ℕ) (Chained : List ℕ → Type 0)
    → own_places z number ring old ≡ [] → now ≡ old → places ≡ []
    → MatchOption out ((z.pages ≤ now.opened) × (new ≡ now))
    (λ place. (now.opened < z.pages) × (place ≡ place_at number now.opened 0) × (new.opened ≡ now.opened + 1)
    × (own_places z number ring new ≡ drop 1 (page_places z number now.opened)))
    → Chained places
    → (own_places z number ring new ≡ (after_own z number old.opened [] places (own_places z number ring old)).own)
    × Chained (after_own z number old.opened [] places (own_places z number ring old)).chain
    × (new.opened ≡ (after_own z number old.opened [] places (own_places z number ring old)).opened)
opened_free z number ring old now new places out Chained none same empty told chained =
    subst (λ (f : Free). (own_places z number ring new ≡ f.own) × Chained f.chain × (new.opened ≡ f.opened)) (sym left) (go out told)
  where
    left : after_own z number old.opened [] places (own_places z number ring old) ≡ after_opening z number old.opened
    left = ap (after_own z number old.opened [] places) none ∙ ap (after_chain z number old.opened []) empty

    as_before : now.opened ≡ old.opened
    as_before = ap (λ (o : OwnList). o.opened) same

    by_page : Bool → Free
    by_page t = cond t (free_with (drop 1 (page_places z number old.opened)) [] (old.opened + 1)) (free_with [] [] old.opened)

    go : (out : Option ℕ) → MatchOption out ((z.pages ≤ now.opened) × (new ≡ now))
        (λ place. (now.opened < z.pages) × (place ≡ place_at number now.opened 0) × (new.opened ≡ now.opened + 1)
        × (own_places z number ring new ≡ drop 1 (page_places z number now.opened)))
        → (own_places z number ring new ≡ (after_opening z number old.opened).own) × Chained (after_opening z number old.opened).chain
        × (new.opened ≡ (after_opening z number old.opened).opened)
    go None h =
        let over = not_below old.opened z.pages (subst (λ (n : ℕ). z.pages ≤ n) as_before h.0) in
        let is = h.1 ∙ same in
        subst (λ (f : Free). (own_places z number ring new ≡ f.own) × Chained f.chain × (new.opened ≡ f.opened)) (sym (ap by_page over))
        (ap (own_places z number ring) is ∙ none, subst Chained empty chained, ap (λ (o : OwnList). o.opened) is)
    go (Some place) h =
        let room = lt-ltb old.opened z.pages (subst (λ (n : ℕ). n < z.pages) as_before h.0) in
        subst (λ (f : Free). (own_places z number ring new ≡ f.own) × Chained f.chain × (new.opened ≡ f.opened)) (sym (ap by_page room))
        (h.3 ∙ ap (λ (n : ℕ). drop 1 (page_places z number n)) as_before, subst Chained empty chained, h.2 ∙ ap (λ (n : ℕ). n + 1) as_before)

pub overflow_add-progress : goal.overflow_add-progress
overflow_add-progress c = let room = (c.in-Some-chained.ensures c.requires.chain.0 c.requires.chain.1).2 in omega arith

pub returns-in-Some-chained-clause-free : goal.returns-in-Some-chained-clause-free
returns-in-Some-chained-clause-free c = λ places chained.
    let shared = c.args.self.now in
    let old = c.args.progress.now in
    let ring = c.args.lane.now.ring.items in
    let next = c.in-Some-chained.ensures places chained in
    let own = c.in_default.ensures in
    let none : own_places shared.shape c.args.number ring old.own ≡ [] =
    ap (λ (r : List ℕ). own_places shared.shape c.args.number r old.own) (sym c.as_slice.ensures.value) ∙ own.place.0 in
    followed_free shared.shape c.args.number (shared.acts.items ++ made_acts (option_copied c.args.made)) old.chain.collect old.chain.followed
    c.in-Some-chained.place
    (own_places shared.shape c.args.number ring old.own) (own_places shared.shape c.args.number ring c.take.new.self) places next.0
    old.own.opened c.take.new.self.opened
    none (ap (own_places shared.shape c.args.number ring) own.place.1 ∙ none) own.opened next.1 chained

pub returns-in-Some-clause-place : goal.returns-in-Some-clause-place
returns-in-Some-clause-place c = λ places chained.
    let own = own_places c.args.self.now.shape c.args.number in
    let first = subst (λ (ring : List ℕ). own ring c.args.progress.now.own ≡ c.in-Some.place ∷ own ring c.take.new.self)
    c.as_slice.ensures.value c.in-Some.ensures.place in
    handed_own (own c.args.lane.now.ring.items c.args.progress.now.own) c.in-Some.place _ _ first

pub returns-in-Some-clause-free : goal.returns-in-Some-clause-free
returns-in-Some-clause-free c = λ places chained.
    let shared = c.args.self.now in
    let old = c.args.progress.now in
    let own = own_places shared.shape c.args.number in
    let first = subst (λ (ring : List ℕ). own ring old.own ≡ c.in-Some.place ∷ own ring c.take.new.self)
    c.as_slice.ensures.value c.in-Some.ensures.place in
    own_free shared.shape c.args.number old.own.opened c.take.new.self.opened places
    (own c.args.lane.now.ring.items old.own) c.in-Some.place (own c.args.lane.now.ring.items c.take.new.self)
    (λ chain. IsChained (shared.acts.items ++ made_acts (option_copied c.args.made)) old.chain chain) first c.in-Some.ensures.opened chained

pub returns-in-Some-chained-clause-place : goal.returns-in-Some-chained-clause-place
returns-in-Some-chained-clause-place c = λ places chained.
    let old = c.args.progress.now.own in
    let next = c.in-Some-chained.ensures places chained in
    let none = subst (λ (ring : List ℕ). own_places c.args.self.now.shape c.args.number ring old ≡ []) c.as_slice.ensures.value c.in_default.ensures.place.0 in
    handed_chained (own_places c.args.self.now.shape c.args.number c.args.lane.now.ring.items old) places c.in-Some-chained.place next.0 _ none next.1

pub open_page-requires-clause-empty : goal.open_page-requires-clause-empty
open_page-requires-clause-empty c =
    let z = c.args.self.now.shape in
    let own = c.in_default.ensures.place in
    let ring = c.as_slice.ensures.value ∙ sym c.as_slice-2.ensures.value in
    subst (λ (r : List ℕ). own_places z c.args.number r c.take.new.self ≡ []) ring (ap (own_places z c.args.number c.as_slice.result.now) own.1 ∙ own.0)

pub returns-clause-place : goal.returns-clause-place
returns-clause-place c = λ places chained.
    let z = c.args.self.now.shape in
    let old = c.args.progress.now.own in
    let none = subst (λ (ring : List ℕ). own_places z c.args.number ring old ≡ []) c.as_slice.ensures.value c.in_default.ensures.place.0 in
    handed_opened (own_places z c.args.number c.args.lane.now.ring.items old) places old.opened c.take.new.self.opened z.pages c.args.number
    c.open_page.result _ _ _ none (c.in_default-chained.ensures places chained) c.in_default.ensures.opened c.open_page.ensures.place

pub returns-clause-free : goal.returns-clause-free
returns-clause-free c = λ places chained.
    let shared = c.args.self.now in
    let z = shared.shape in
    let old = c.args.progress.now in
    let ring = c.args.lane.now.ring.items in
    let own = c.in_default.ensures.place in
    let none = subst (λ (r : List ℕ). own_places z c.args.number r old.own ≡ []) c.as_slice.ensures.value own.0 in
    let empty = c.in_default-chained.ensures places chained in
    let same = c.as_slice-2.ensures.value in
    opened_free z c.args.number ring old.own c.take.new.self c.open_page.new.self places c.open_page.result
    (λ chain. IsChained (shared.acts.items ++ made_acts (option_copied c.args.made)) old.chain chain)
    none own.1 empty
    (subst (λ (r : List ℕ). MatchOption c.open_page.result
    ((z.pages ≤ c.take.new.self.opened) × (c.open_page.new.self ≡ c.take.new.self))
    (λ place. (c.take.new.self.opened < z.pages) × (place ≡ place_at c.args.number c.take.new.self.opened 0) × (c.open_page.new.self.opened ≡ c.take.new.self.opened + 1)
    × (own_places z c.args.number r c.open_page.new.self ≡ drop 1 (page_places z c.args.number c.take.new.self.opened)))) same c.open_page.ensures.place)
    chained

-- ---- what of the rest is as before

pub take-requires-clause-list : goal.take-requires-clause-list
take-requires-clause-list c =
    subst (λ (ring : List ℕ). IsOwnList c.args.self.now.shape ring c.args.progress.now.own) (sym c.as_slice.ensures.value) c.requires.list

pub open_page-requires-clause-list : goal.open_page-requires-clause-list
open_page-requires-clause-list c =
    subst (λ (ring : List ℕ). IsOwnList c.args.self.now.shape ring c.take.new.self) (c.as_slice.ensures.value ∙ sym c.as_slice-2.ensures.value) c.in_default.ensures.list

pub returns-in-Some-clause-list : goal.returns-in-Some-clause-list
returns-in-Some-clause-list c =
    subst (λ (ring : List ℕ). IsOwnList c.args.self.now.shape ring c.take.new.self) c.as_slice.ensures.value c.in-Some.ensures.list

pub returns-in-Some-clause-rest : goal.returns-in-Some-clause-rest
returns-in-Some-clause-rest c = refl

pub returns-in-Some-clause-settled : goal.returns-in-Some-clause-settled
returns-in-Some-clause-settled c = c.in-Some.ensures.settled

pub returns-in-Some-chained-clause-list : goal.returns-in-Some-chained-clause-list
returns-in-Some-chained-clause-list c =
    subst (λ (ring : List ℕ). IsOwnList c.args.self.now.shape ring c.take.new.self) c.as_slice.ensures.value c.in_default.ensures.list

pub returns-in-Some-chained-clause-rest : goal.returns-in-Some-chained-clause-rest
returns-in-Some-chained-clause-rest c = refl

pub returns-in-Some-chained-clause-settled : goal.returns-in-Some-chained-clause-settled
returns-in-Some-chained-clause-settled c = c.in_default.ensures.settled

pub returns-clause-list : goal.returns-clause-list
returns-clause-list c =
    subst (λ (ring : List ℕ). IsOwnList c.args.self.now.shape ring c.open_page.new.self) c.as_slice-2.ensures.value c.open_page.ensures.list

pub returns-clause-rest : goal.returns-clause-rest
returns-clause-rest c = refl

pub returns-clause-settled : goal.returns-clause-settled
returns-clause-settled c = λ none. c.open_page.ensures.settled (c.in_default.ensures.settled none)
