use Rattle.std.proofs.Common.{rules, ◌≡◌, ◌∙◌, ◌∷◌, [], ℕ, List, None, sym, subst}
use Rattle.std.proofs.lemmas.Option.{MatchOption-at_none}
use Rattle.seqpool.specs.ReadTexts.{ArePlaces}
use Rattle.seqpool.proofs.Parts.{read-next, read-stop, cut-shorter}
use Rattle.seqpool.proofs.PlaceTexts.{places-first, places-never, places-last, places-never-last}
use Rattle.seqpool.proofs.acts_fields.read_places.Goals as goal

pub returns-in_default-read_place : goal.returns-in_default-read_place
returns-in_default-read_place c =
    let s = c.loop-front.rest.now in
    let none : c.read_place.result ≡ None = search rules in
    read-stop ArePlaces c.loop-front.places.items s c.args.text.now c.loop-front.invariant
    (places-never s c.in-Some.front.now c.in-Some.after.now c.in-Some.ensures (MatchOption-at_none _ _ none c.read_place.ensures))

pub loop-front-smaller : goal.loop-front-smaller
loop-front-smaller c = cut-shorter 44 c.loop-front.rest.now c.in-Some.front.now c.in-Some.after.now c.in-Some.ensures.0

pub loop-front-preserved : goal.loop-front-preserved
loop-front-preserved c =
    let s = c.loop-front.rest.now in
    read-next ArePlaces c.loop-front.places.items _ c.in-Some-read_place.place s c.in-Some.after.now c.args.text.now c.loop-front.invariant
    (places-first c.in-Some-read_place.place s c.in-Some.front.now c.in-Some.after.now c.in-Some.ensures c.in-Some-read_place.ensures)
    c.in_ok-push.ensures.items

pub returns-in_default-read_place-2 : goal.returns-in_default-read_place-2
returns-in_default-read_place-2 c =
    let s = c.loop-front.rest.now in
    let last : c.cut.result ≡ None = search rules in
    let none : c.read_place-2.result ≡ None = search rules in
    read-stop ArePlaces c.loop-front.places.items s c.args.text.now c.loop-front.invariant
    (places-never-last s (MatchOption-at_none _ _ last c.cut.ensures) (MatchOption-at_none _ _ none c.read_place-2.ensures))

pub returns : goal.returns
returns c =
    let s = c.loop-front.rest.now in
    subst (λ (xs : List ℕ). ArePlaces xs c.args.text.now) (sym (c.from_vec.ensures ∙ c.in_ok-push-2.ensures.items))
    (c.loop-front.invariant.on (c.in-Some-read_place-2.place ∷ []) (places-last c.in-Some-read_place-2.place s c.in-Some-read_place-2.ensures))
