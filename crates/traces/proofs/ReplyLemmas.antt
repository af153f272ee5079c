-- A reply keeps what a lane's book and the pool tell of each other.
use Rattle.std.proofs.Common.{◌≡◌, ◌≢◌, inl, inr, ⊎_elim, ℕ, ◌+◌, ◌^◌, ◌<◌, ◌≤◌, Bool, true, false, cond, eqb, List, [], ◌∷◌, ◌++◌, length, set, refl, ap, sym, ◌∙◌, subst, arith, eq-eqb, ne_eqb, length-set, Option, Some, None}
use mathlib.Core.Logic.{dite}
use native.Mathlib.Decide.{ℕ_discrete}
use Rattle.std.proofs.lemmas.Bool.{and_from}
use Rattle.keybits.specs.declared.shape.Shape.{Shape}
use Rattle.keybits.specs.declared.step.Step.{Step}
use Rattle.keybits.specs.Places.{shard_of}
use Rattle.keybits.specs.Shapes.{IsShape, is_place}
use Rattle.keybits.specs.Keys.{key_number, place_of, generation_of, is_key}
use Rattle.keybits.specs.Counts.{times}
use Rattle.keybits.proofs.CountLemmas.{times-append, one_at, none_at}
use Rattle.keybits.proofs.KeyLemmas.{key_parts, place_of-lt, place_of-key_number, generation_of-key_number, is_key-key_number}
use Rattle.keybits.proofs.ShapeLemmas.{place_bounds}
use Rattle.seqpool.specs.declared.act.Act.{Act}
use Rattle.seqpool.specs.declared.act.Act.TheVariants as acts
use Rattle.seqpool.specs.Pool.{Pool}
use Rattle.steplaws.specs.Calls.{Call, Publishing, Getting, Releasing, Clearing, Creating, Caller, Aim}
use Rattle.traces.specs.declared.script.Register.{Register}
use Rattle.traces.specs.declared.script.Operand.{Operand}
use Rattle.traces.specs.declared.script.Command.{Command}
use Rattle.traces.specs.declared.script.Command.TheVariants as commands
use Rattle.traces.specs.declared.reply.Reply.{Reply}
use Rattle.traces.specs.declared.reply.Reply.TheVariants as replies
use Rattle.traces.specs.declared.registers.RegisterState.{RegisterState}
use Rattle.traces.specs.declared.registers.Holding.{Holding}
use Rattle.traces.specs.declared.registers.Holding.TheVariants.{Empty, Filling, Reference}
use Rattle.traces.specs.Registers.{register_with, register_at, operand_key, fills, refers, fillings, held_references}
use Rattle.traces.specs.Books.{Book, caller, call_of_first, call_under_way, publishing, releasing, creating, getting, clearing, holding_at, next_in, next_aim, taken, shown, reclaimed, returned, of_shard, Free, handed_out, written, kept, got, pushed_after, answered_first, answered}
use Rattle.traces.specs.Following.{HasContent, CreateReply, get_reply, WhereEmpty, WhereFilling, WhereReference, WhereKey, FirstReplies, IsReply}
use Rattle.traces.specs.Parts.{count_if}
use Rattle.traces.specs.Making.{HasMade}
use Rattle.traces.specs.Owning.{is_with, publishes, collected, gains, releases, IsHolding, AreHolding, IsOwned}
use Rattle.traces.specs.Keeping.{AreKeyed, IsSound}
use Rattle.traces.proofs.CallActs.{Tail, unclaimed, reclaims, returns, IsOver, publish_acts, release_acts, GetActs, unasked, shows, misses, get_acts, clear_acts, create_acts}
use Rattle.traces.proofs.CreateHands.{Hands, Handing, hands, has_none, handing}
use Rattle.traces.proofs.HoldingLemmas.{fillings-set, held_references-set, holding-set, holding-at, holding-idle, holding-published, fills-written, refers-written, holding-written}

-- ---- what the acts behind a LEAVE tell

-- nothing was published or collected, and no reference came or went
record IsUnmoved (made : List Act) : Type 0 where
  publishes : publishes made ≡ []
  collected : collected made ≡ []
  taken : taken made ≡ []
  gains : gains made ≡ []
  releases : releases made ≡ []

tail_unmoved : {z : Shape} {lane place : ℕ} {Over : Type 0} (rest : List Act) → Tail z lane place Over rest → IsUnmoved rest
tail_unmoved rest (unclaimed e) =
    record { publishes = ap publishes e; collected = ap collected e; taken = ap taken e; gains = ap gains e; releases = ap releases e }
tail_unmoved rest (reclaims generation e only) =
    record { publishes = ap publishes e; collected = ap collected e; taken = ap taken e; gains = ap gains e; releases = ap releases e }
tail_unmoved rest (returns generation e below other) =
    record { publishes = ap publishes e; collected = ap collected e; taken = ap taken e; gains = ap gains e; releases = ap releases e }

-- what was reclaimed was returned, or is of the lane's own shard
abbrev IsSettled : ℕ → List ℕ → List ℕ → Type 0
IsSettled lane xs ys = (q : ℕ) → times q xs ≡ times q ys + times q (of_shard lane xs)

settled_own : (lane place : ℕ) → shard_of place ≡ lane → IsSettled lane (place ∷ []) []
settled_own lane place own q =
    let e : of_shard lane (place ∷ []) ≡ place ∷ [] = ap (λ (b : Bool). cond b (place ∷ []) []) (eq-eqb (shard_of place) lane own) in
    let t : times q (of_shard lane (place ∷ [])) ≡ times q (place ∷ []) = ap (times q) e in omega arith

settled_other : (lane place : ℕ) → shard_of place ≢ lane → IsSettled lane (place ∷ []) (place ∷ [])
settled_other lane place other q =
    let e : of_shard lane (place ∷ []) ≡ [] = ap (λ (b : Bool). cond b (place ∷ []) []) (ne_eqb (shard_of place) lane other) in
    let t : times q (of_shard lane (place ∷ [])) ≡ 0 = ap (times q) e in omega arith

module _ (z : Shape) (lane place : ℕ) (small : place < 16777216) (generation : ℕ) where
  abbrev the_key : ℕ
  the_key = key_number z.tag place generation

  -- a claim below the last generation
  reclaimed_below : (more : List Act) → generation_of the_key ≢ z.last_generation
      → reclaimed z.last_generation (acts.Reclaim lane the_key ∷ more) ≡ place ∷ reclaimed z.last_generation more
  reclaimed_below more below = ap (λ (b : Bool). cond b (reclaimed z.last_generation more) (place_of the_key ∷ reclaimed z.last_generation more))
      (ne_eqb (generation_of the_key) z.last_generation below)
      ∙ ap (λ (p : ℕ). p ∷ reclaimed z.last_generation more) (place_of-key_number z.tag place generation small)

  -- a claim of the last
  reclaimed_last : (more : List Act) → generation_of the_key ≡ z.last_generation
      → reclaimed z.last_generation (acts.Reclaim lane the_key ∷ more) ≡ reclaimed z.last_generation more
  reclaimed_last more last = ap (λ (b : Bool). cond b (reclaimed z.last_generation more) (place_of the_key ∷ reclaimed z.last_generation more))
      (eq-eqb (generation_of the_key) z.last_generation last)

  -- the generation of a key of the shape
  keyed_generation : is_key z the_key ≡ true → generation_of the_key ≡ generation
  keyed_generation is = let tag = (key_parts z the_key is).tag in generation_of-key_number z.tag place generation small (omega arith)

module _ {z : Shape} {lane place : ℕ} {Over : Type 0} (small : place < 16777216) where
  tail_returned : (rest : List Act) → AreKeyed z rest → Tail z lane place Over rest → (q : ℕ)
      → times q (returned rest) ≤ times q (reclaimed z.last_generation rest)
  tail_returned rest keyed (unclaimed e) q = let t : times q (returned rest) ≡ 0 = ap (λ (r : List Act). times q (returned r)) e in omega arith
  tail_returned rest keyed (reclaims generation e only) q = let t : times q (returned rest) ≡ 0 = ap (λ (r : List Act). times q (returned r)) e in
      omega arith
  tail_returned rest keyed (returns generation e below other) q =
      let g = keyed_generation z lane place small generation (subst (AreKeyed z) e keyed).0 in
      let r : reclaimed z.last_generation rest ≡ place ∷ [] = ap (reclaimed z.last_generation) e
      ∙ reclaimed_below z lane place small generation (acts.Home lane place ∷ []) (λ same. below (sym g ∙ same)) in
      let s : times q (returned rest) ≡ times q (reclaimed z.last_generation rest) = ap (times q) (ap returned e ∙ sym r) in omega arith

  tail_settled : (rest : List Act) → z.last_generation < 4294967296 → AreKeyed z rest → Over → Tail z lane place Over rest
      → IsSettled lane (reclaimed z.last_generation rest) (returned rest)
  tail_settled rest wide keyed over (unclaimed e) =
      subst (λ (r : List Act). IsSettled lane (reclaimed z.last_generation r) (returned r)) (sym e) (λ q. omega arith)
  tail_settled rest wide keyed over (reclaims generation e only) =
      subst (λ (r : List Act). IsSettled lane (reclaimed z.last_generation r) (returned r)) (sym e)
      (dite (ℕ_discrete (generation_of (key_number z.tag place generation)) z.last_generation)
      (λ last. subst (λ (xs : List ℕ). IsSettled lane xs []) (sym (reclaimed_last z lane place small generation [] last)) (λ q. omega arith))
      (λ below. subst (λ (xs : List ℕ). IsSettled lane xs []) (sym (reclaimed_below z lane place small generation [] below))
      (settled_own lane place (⊎_elim
      (λ (last : generation ≡ z.last_generation). absurd (below (generation_of-key_number z.tag place generation small (omega arith) ∙ last)))
      (λ (own : shard_of place ≡ lane). own) (only over)))))
  tail_settled rest wide keyed over (returns generation e below other) =
      let g = keyed_generation z lane place small generation (subst (AreKeyed z) e keyed).0 in
      subst (λ (r : List Act). IsSettled lane (reclaimed z.last_generation r) (returned r)) (sym e)
      (subst (λ (xs : List ℕ). IsSettled lane xs (place ∷ []))
      (sym (reclaimed_below z lane place small generation (acts.Home lane place ∷ []) (λ same. below (sym g ∙ same))))
      (settled_other lane place other))

-- ---- what any call has made

module _ (c : Caller) where
  -- nothing was returned
  le_none : (made : List Act) (q : ℕ) → returned made ≡ [] → times q (returned made) ≤ times q (reclaimed c.shape.last_generation made)
  le_none made q e = let t : times q (returned made) ≡ 0 = ap (times q) e in omega arith

  -- the first act returned nothing, and the rest is of an END
  le_tail : (key : ℕ) (Over : Type 0) (first : Act) (made rest : List Act) (q : ℕ) → made ≡ first ∷ rest → returned (first ∷ rest) ≡ returned rest
      → reclaimed c.shape.last_generation (first ∷ rest) ≡ reclaimed c.shape.last_generation rest → AreKeyed c.shape rest
      → Tail c.shape c.lane (place_of key) Over rest → times q (returned made) ≤ times q (reclaimed c.shape.last_generation made)
  le_tail key Over first made rest q e f g keyed tail =
      let le = tail_returned (place_of-lt key) rest keyed tail q in
      let a : times q (returned made) ≡ times q (returned rest) = ap (times q) (ap returned e ∙ f) in
      let b : times q (reclaimed c.shape.last_generation made) ≡ times q (reclaimed c.shape.last_generation rest) =
      ap (times q) (ap (reclaimed c.shape.last_generation) e ∙ g) in
      omega arith

  get_le : (key : ℕ) (Over : Type 0) (made : List Act) → AreKeyed c.shape made → GetActs c key Over made
      → (q : ℕ) → times q (returned made) ≤ times q (reclaimed c.shape.last_generation made)
  get_le key Over made keyed (unasked e) q = le_none made q (ap returned e)
  get_le key Over made keyed (shows content e is) q = le_none made q (ap returned e)
  get_le key Over made keyed (misses rest e tail) q = le_tail key Over _ made rest q e refl refl (subst (AreKeyed c.shape) e keyed) tail

  call_le : (o : Option Call) (steps : List Step) (made : List Act) → HasMade c o steps made → AreKeyed c.shape made
      → (q : ℕ) → times q (returned made) ≤ times q (reclaimed c.shape.last_generation made)
  call_le None steps made has keyed q = le_none made q (ap returned has.1)
  call_le (Some (Publishing key content with_ref)) steps made has keyed q =
      ⊎_elim (λ t. le_none made q (ap returned t.0)) (λ t. le_none made q (ap returned t.0)) (publish_acts c key content with_ref steps made has.0 has.1)
  call_le (Some (Getting key)) steps made has keyed q = get_le key _ made keyed (get_acts c key steps made has.0 has.1) q
  call_le (Some (Releasing key)) steps made has keyed q =
      ⊎_elim (λ t. le_none made q (ap returned t.0)) (λ t. le_tail key _ _ made t.0 q t.1 refl refl (subst (AreKeyed c.shape) t.1 keyed) t.2)
      (release_acts c key steps made has.0 has.1)
  call_le (Some (Clearing key)) steps made has keyed q =
      ⊎_elim (λ (e : made ≡ []). le_none made q (ap returned e))
      (λ t. le_tail key _ _ made t.1 q t.2 refl refl (subst (AreKeyed c.shape) t.2 keyed) t.3) (clear_acts c key steps made has.0 has.1)
  call_le (Some (Creating own chain opened)) steps made has keyed q =
      ⊎_elim (λ (e : made ≡ []). le_none made q (ap returned e)) (λ t. le_none made q (ap returned t.1))
      (create_acts c own chain opened steps made has.0 has.1)

  -- what was collected was found by TAKEs: nothing, or all at once
  taken_none : (made : List Act) (q : ℕ) → taken made ≡ [] → collected made ≡ [] → times q (taken made) ≡ times q (collected made)
  taken_none made q e f = ap (times q) (e ∙ sym f)

  taken_tail : (key : ℕ) (Over : Type 0) (first : Act) (made rest : List Act) (q : ℕ) → made ≡ first ∷ rest → taken (first ∷ rest) ≡ taken rest
      → collected (first ∷ rest) ≡ collected rest → Tail c.shape c.lane (place_of key) Over rest → times q (taken made) ≡ times q (collected made)
  taken_tail key Over first made rest q e f g tail = let u = tail_unmoved rest tail in
      taken_none made q (ap taken e ∙ f ∙ u.taken) (ap collected e ∙ g ∙ u.collected)

  get_taken : (key : ℕ) (Over : Type 0) (made : List Act) → GetActs c key Over made → (q : ℕ) → times q (taken made) ≡ times q (collected made)
  get_taken key Over made (unasked e) q = taken_none made q (ap taken e) (ap collected e)
  get_taken key Over made (shows content e is) q = taken_none made q (ap taken e) (ap collected e)
  get_taken key Over made (misses rest e tail) q = taken_tail key Over _ made rest q e refl refl tail

  call_taken : (o : Option Call) (steps : List Step) (made : List Act) → HasMade c o steps made → (q : ℕ)
      → times q (taken made) ≡ times q (collected made)
  call_taken None steps made has q = taken_none made q (ap taken has.1) (ap collected has.1)
  call_taken (Some (Publishing key content with_ref)) steps made has q =
      ⊎_elim (λ t. taken_none made q (ap taken t.0) (ap collected t.0)) (λ t. taken_none made q (ap taken t.0) (ap collected t.0))
      (publish_acts c key content with_ref steps made has.0 has.1)
  call_taken (Some (Getting key)) steps made has q = get_taken key _ made (get_acts c key steps made has.0 has.1) q
  call_taken (Some (Releasing key)) steps made has q =
      ⊎_elim (λ t. taken_none made q (ap taken t.0) (ap collected t.0)) (λ t. taken_tail key _ _ made t.0 q t.1 refl refl t.2)
      (release_acts c key steps made has.0 has.1)
  call_taken (Some (Clearing key)) steps made has q =
      ⊎_elim (λ (e : made ≡ []). taken_none made q (ap taken e) (ap collected e)) (λ t. taken_tail key _ _ made t.1 q t.2 refl refl t.3)
      (clear_acts c key steps made has.0 has.1)
  call_taken (Some (Creating own chain opened)) steps made has q =
      ⊎_elim (λ (e : made ≡ []). taken_none made q (ap taken e) (ap collected e))
      (λ t. let a : times q (taken made) ≡ times q t.0 = ap (λ (r : List Act). times q (taken r)) t.1 in
      let b : times q (collected made) ≡ times q (t.0 ++ []) = ap (λ (r : List Act). times q (collected r)) t.1 in
      let d = times-append q t.0 [] in omega arith)
      (create_acts c own chain opened steps made has.0 has.1)

  get_unpublished : (key : ℕ) (Over : Type 0) (made : List Act) → GetActs c key Over made → publishes made ≡ []
  get_unpublished key Over made (unasked e) = ap publishes e
  get_unpublished key Over made (shows content e is) = ap publishes e
  get_unpublished key Over made (misses rest e tail) = ap publishes e ∙ (tail_unmoved rest tail).publishes

  call_unpublished : (o : Option Call) (steps : List Step) (made : List Act) (next : Aim) → HasMade c o steps made → next_in c steps o ≡ Some next
      → publishes made ≡ []
  call_unpublished None steps made next has is = ap publishes has.1
  call_unpublished (Some (Publishing key content with_ref)) steps made next has is =
      ⊎_elim (λ t. ap publishes t.0) (λ t. let bad : None ≡ Some next = sym t.1 ∙ is in absurd (cc bad))
      (publish_acts c key content with_ref steps made has.0 has.1)
  call_unpublished (Some (Getting key)) steps made next has is = get_unpublished key _ made (get_acts c key steps made has.0 has.1)
  call_unpublished (Some (Releasing key)) steps made next has is =
      ⊎_elim (λ t. ap publishes t.0) (λ t. ap publishes t.1 ∙ (tail_unmoved t.0 t.2).publishes) (release_acts c key steps made has.0 has.1)
  call_unpublished (Some (Clearing key)) steps made next has is =
      ⊎_elim (λ (e : made ≡ []). ap publishes e) (λ t. ap publishes t.2 ∙ (tail_unmoved t.1 t.3).publishes) (clear_acts c key steps made has.0 has.1)
  call_unpublished (Some (Creating own chain opened)) steps made next has is =
      ⊎_elim (λ (e : made ≡ []). ap publishes e) (λ t. ap publishes t.1) (create_acts c own chain opened steps made has.0 has.1)

-- what a call has returned it had reclaimed
pub returned_le : (z : Shape) (lane : ℕ) (b : Book) → HasMade (caller z lane b) (call_under_way b) b.steps b.acts → AreKeyed z b.acts
    → (place : ℕ) → times place (returned b.acts) ≤ times place (reclaimed z.last_generation b.acts)
returned_le z lane b has keyed place = call_le (caller z lane b) (call_under_way b) b.steps b.acts has keyed place

-- a call collects once at most
pub one_collect : (z : Shape) (lane : ℕ) (b : Book) → HasMade (caller z lane b) (call_under_way b) b.steps b.acts
    → (place : ℕ) → times place (taken b.acts) ≡ times place (collected b.acts)
one_collect z lane b has place = call_taken (caller z lane b) (call_under_way b) b.steps b.acts has place

-- a call that is still to make a step has published nothing
pub unpublished : (z : Shape) (lane : ℕ) (b : Book) → HasMade (caller z lane b) (call_under_way b) b.steps b.acts
    → (next : Aim) → next_aim z lane b ≡ Some next → publishes b.acts ≡ []
unpublished z lane b has next is = call_unpublished (caller z lane b) (call_under_way b) b.steps b.acts next has is

-- ---- the book after a reply

-- a book that has no call under way yet
abbrev book_with : List Command → List RegisterState → List ℕ → List ℕ → ℕ → (ℕ → ℕ) → Book
book_with left registers own chain opened pushed =
    record { left = left; registers = registers; own = own; chain = chain; opened = opened; pushed = pushed; steps = []; acts = [] }

-- the call that comes next has made nothing
none_made : (c : Caller) (o : Option Call) → HasMade c o [] []
none_made c None = (refl, refl)
none_made c (Some call) = (tt, refl)

-- what is settled is among what was reclaimed
settled_le : (lane : ℕ) (xs ys : List ℕ) → IsSettled lane xs ys → (q : ℕ) → times q (of_shard lane xs) ≤ times q xs
settled_le lane xs ys settled q = let s = settled q in omega arith

-- what the acts of a finished call tell where it took no reference and published nothing
record IsCalm (z : Shape) (lane : ℕ) (made : List Act) : Type 0 where
  settled : IsSettled lane (reclaimed z.last_generation made) (returned made)
  collected : (q : ℕ) → times q (collected made) ≡ 0
  publishes : publishes made ≡ []
  gains : gains made ≡ []
  releases : releases made ≡ []

calm_none : (z : Shape) (lane : ℕ) (made : List Act) → made ≡ [] → IsCalm z lane made
calm_none z lane made e = record {
  settled = subst (λ (r : List Act). IsSettled lane (reclaimed z.last_generation r) (returned r)) (sym e) (λ q. omega arith);
  collected = λ q. ap (λ (r : List Act). times q (collected r)) e;
  publishes = ap publishes e;
  gains = ap gains e;
  releases = ap releases e;
}

calm_tail : (z : Shape) (lane key : ℕ) (Over : Type 0) (first : Act) (made rest : List Act) → made ≡ first ∷ rest
    → ((r : List Act) → (returned (first ∷ r) ≡ returned r) × (reclaimed z.last_generation (first ∷ r) ≡ reclaimed z.last_generation r) ×
    (collected (first ∷ r) ≡ collected r)
    × (publishes (first ∷ r) ≡ publishes r) × (gains (first ∷ r) ≡ gains r) × (releases (first ∷ r) ≡ releases r))
    → z.last_generation < 4294967296 → AreKeyed z rest → Over → Tail z lane (place_of key) Over rest → IsCalm z lane made
calm_tail z lane key Over first made rest e f wide keyed over tail =
    let u = tail_unmoved rest tail in
    let settled = tail_settled (place_of-lt key) rest wide keyed over tail in
    let back : reclaimed z.last_generation made ≡ reclaimed z.last_generation rest = ap (reclaimed z.last_generation) e ∙ (f rest).1 in
    let home : returned made ≡ returned rest = ap returned e ∙ (f rest).0 in
    record {
      settled = subst (λ (t : List ℕ × List ℕ). IsSettled lane t.0 t.1) (λ i. (sym back i, sym home i)) settled;
      collected = λ q. ap (times q) (ap collected e ∙ (f rest).2 ∙ u.collected);
      publishes = ap publishes e ∙ (f rest).3 ∙ u.publishes;
      gains = ap gains e ∙ (f rest).4 ∙ u.gains;
      releases = ap releases e ∙ (f rest).5 ∙ u.releases;
    }

module _ (z : Shape) (lane : ℕ) (pool : Pool) (b : Book) (owned : IsOwned z pool lane b) where
  -- where list, chain and pages stay: what was reclaimed of the own shard is added to the list
  kept_free : (more : List Command) (registers : List RegisterState) (pushed : ℕ → ℕ)
      → IsSettled lane (reclaimed z.last_generation b.acts) (returned b.acts) → ((q : ℕ) → times q (collected b.acts) ≡ 0)
      → ((q : ℕ) → is_place z q ≡ true → fillings q registers + times q (publishes b.acts) ≡ fillings q b.registers)
      → ((key : ℕ) → held_references key registers + times key (releases b.acts) ≡ held_references key b.registers + times key (gains b.acts))
      → length registers ≡ 16 → AreHolding z pool [] registers
      → IsOwned z pool lane (book_with more registers (b.own ++ of_shard lane (reclaimed z.last_generation b.acts)) b.chain b.opened pushed)
  kept_free more registers pushed settled uncollected filled held sixteen holding =
      let after = book_with more registers (b.own ++ of_shard lane (reclaimed z.last_generation b.acts)) b.chain b.opened pushed in
      record {
        call = none_made (caller z lane after) (call_under_way after);
        places = λ q is. let p = owned.places q is in let s = settled q in let n = uncollected q in let f = filled q is in
            let t = times-append q b.own (of_shard lane (reclaimed z.last_generation b.acts)) in omega arith;
        references = λ key. let r = owned.references key in let h = held key in omega arith;
        inside = λ q some. let le = settled_le lane _ _ settled q in
            let t = times-append q b.own (of_shard lane (reclaimed z.last_generation b.acts)) in owned.inside q (omega arith);
        sixteen = sixteen;
        holding = holding;
      }

  -- where the registers stay too
  unchanged : (more : List Command) (pushed : ℕ → ℕ) → IsCalm z lane b.acts
      → IsOwned z pool lane (book_with more b.registers (b.own ++ of_shard lane (reclaimed z.last_generation b.acts)) b.chain b.opened pushed)
  unchanged more pushed calm = kept_free more b.registers pushed calm.settled calm.collected
      (λ q is. let p : times q (publishes b.acts) ≡ 0 = ap (times q) calm.publishes in omega arith)
      (λ key. let g : times key (gains b.acts) ≡ 0 = ap (times key) calm.gains in let r : times key (releases b.acts) ≡ 0 =
      ap (times key) calm.releases in omega arith)
      owned.sixteen (holding-idle z pool b.acts b.registers calm.publishes owned.holding)

  -- a filling is written
  written_book : (more : List Command) (pushed : ℕ → ℕ) (i : ℕ) (bytes : List ℕ) → i < 16 → b.acts ≡ []
      → IsOwned z pool lane (book_with more
      (set b.registers i (register_with (written bytes (register_at b.registers i).holding) (register_at b.registers i).last_key))
      (b.own ++ of_shard lane (reclaimed z.last_generation b.acts)) b.chain b.opened pushed)
  written_book more pushed i bytes small idle =
      let calm = calm_none z lane b.acts idle in
      let old = register_at b.registers i in
      let y = register_with (written bytes old.holding) old.last_key in
      let n = owned.sixteen in
      kept_free more (set b.registers i y) pushed calm.settled calm.collected
      (λ q is. let p : times q (publishes b.acts) ≡ 0 = ap (times q) calm.publishes in
      let t = fillings-set q b.registers i y (omega arith) in let f = fills-written q bytes old.holding in omega arith)
      (λ key. let g : times key (gains b.acts) ≡ 0 = ap (times key) calm.gains in let r : times key (releases b.acts) ≡ 0 =
      ap (times key) calm.releases in
      let t = held_references-set key b.registers i y (omega arith) in let f = refers-written key bytes old.holding in omega arith)
      (length-set b.registers i y ∙ n)
      (holding-idle z pool b.acts (set b.registers i y) calm.publishes
      (holding-set z pool b.acts b.registers i y owned.holding
      (holding-written z pool b.acts bytes old.holding (holding-at z pool b.acts b.registers i owned.holding))))

  -- a filling was published, and the register has nothing or a reference now
  published_book : (more : List Command) (pushed : ℕ → ℕ) (i key : ℕ) (content : List ℕ) (with_ref : Bool) (y : RegisterState)
      → i < 16 → (register_at b.registers i).holding ≡ Filling key content → b.acts ≡ acts.Publish lane key content with_ref ∷ []
      → ((q : ℕ) → 0 < times q (publishes b.acts) → is_with lane (pool q).phase ≡ false)
      → ((q : ℕ) → fills q y.holding ≡ 0) → ((k : ℕ) → refers k y.holding ≡ times k (gains b.acts)) → IsHolding z pool b.acts y.holding
      → IsOwned z pool lane (book_with more (set b.registers i y) (b.own ++ of_shard lane (reclaimed z.last_generation b.acts)) b.chain b.opened pushed)
  published_book more pushed i key content with_ref y small holds made apart empty refers_to held =
      let n = owned.sixteen in
      let fits : i < length b.registers = omega arith in
      let back : reclaimed z.last_generation b.acts ≡ [] = ap (reclaimed z.last_generation) made in
      let home : returned b.acts ≡ [] = ap returned made in
      kept_free more (set b.registers i y) pushed
      (subst (λ (r : List Act). IsSettled lane (reclaimed z.last_generation r) (returned r)) (sym made) (λ q. omega arith))
      (λ q. ap (λ (r : List Act). times q (collected r)) made)
      (λ q is. let t = fillings-set q b.registers i y fits in let e = empty q in
      let p : times q (publishes b.acts) ≡ times q (place_of key ∷ []) = ap (λ (r : List Act). times q (publishes r)) made in
      let f : fills q (register_at b.registers i).holding ≡ count_if (eqb (place_of key) q) = ap (fills q) holds in omega arith)
      (λ k. let t = held_references-set k b.registers i y fits in let e = refers_to k in
      let r : times k (releases b.acts) ≡ 0 = ap (λ (r : List Act). times k (releases r)) made in
      let f : refers k (register_at b.registers i).holding ≡ 0 = ap (refers k) holds in omega arith)
      (length-set b.registers i y ∙ n)
      (holding-published z pool b.acts (place_of key) (set b.registers i y)
      (λ q other. let p : times q (publishes b.acts) ≡ times q (place_of key ∷ []) = ap (λ (r : List Act). times q (publishes r)) made in
      let f = none_at (place_of key) q (λ e. other (sym e)) in omega arith)
      (let t = fillings-set (place_of key) b.registers i y fits in let e = empty (place_of key) in
      let is_one : is_place z (place_of key) ≡ true =
      (key_parts z key (subst (IsHolding z pool b.acts) holds (holding-at z pool b.acts b.registers i owned.holding)).0).place in
      let one = one_at (place_of key) (place_of key) refl in
      let p : times (place_of key) (publishes b.acts) ≡ times (place_of key) (place_of key ∷ []) =
      ap (λ (r : List Act). times (place_of key) (publishes r)) made in
      let f : fills (place_of key) (register_at b.registers i).holding ≡ count_if (eqb (place_of key) (place_of key)) = ap (fills (place_of key)) holds in
      let gone : count_if (is_with lane (pool (place_of key)).phase) ≡ 0 = ap count_if (apart (place_of key) (omega arith)) in
      let w = owned.places (place_of key) is_one in
      let r : times (place_of key) (returned b.acts) ≡ 0 = ap (times (place_of key)) home in omega arith)
      (holding-set z pool b.acts b.registers i y owned.holding held))

  -- a reference was got into an empty register
  got_book : (more : List Command) (pushed : ℕ → ℕ) (i key : ℕ) (content : List ℕ) → i < 16 → (register_at b.registers i).holding ≡ Empty
      → b.acts ≡ acts.Get lane key (Some content) ∷ [] → is_key z key ≡ true
      → IsOwned z pool lane (book_with more (set b.registers i (register_with (Reference key content) (Some key)))
      (b.own ++ of_shard lane (reclaimed z.last_generation b.acts)) b.chain b.opened pushed)
  got_book more pushed i key content small holds made is_one =
      let y = register_with (Reference key content) (Some key) in
      let n = owned.sixteen in
      let fits : i < length b.registers = omega arith in
      let none : publishes b.acts ≡ [] = ap publishes made in
      kept_free more (set b.registers i y) pushed
      (subst (λ (r : List Act). IsSettled lane (reclaimed z.last_generation r) (returned r)) (sym made) (λ q. omega arith))
      (λ q. ap (λ (r : List Act). times q (collected r)) made)
      (λ q is. let t = fillings-set q b.registers i y fits in let p : times q (publishes b.acts) ≡ 0 = ap (times q) none in
      let f : fills q (register_at b.registers i).holding ≡ 0 = ap (fills q) holds in omega arith)
      (λ k. let t = held_references-set k b.registers i y fits in
      let r : times k (releases b.acts) ≡ 0 = ap (λ (r : List Act). times k (releases r)) made in
      let g : times k (gains b.acts) ≡ times k (key ∷ []) = ap (λ (r : List Act). times k (gains r)) made in
      let f : refers k (register_at b.registers i).holding ≡ 0 = ap (refers k) holds in omega arith)
      (length-set b.registers i y ∙ n)
      (holding-idle z pool b.acts (set b.registers i y) none (holding-set z pool b.acts b.registers i y owned.holding is_one))

  -- a reference was released
  released_book : (more : List Command) (pushed : ℕ → ℕ) (i key : ℕ) (content : List ℕ) (Over : Type 0) (rest : List Act) → i < 16
      → (register_at b.registers i).holding ≡ Reference key content → b.acts ≡ acts.Release lane key ∷ rest
      → z.last_generation < 4294967296 → AreKeyed z b.acts → Over → Tail z lane (place_of key) Over rest
      → IsOwned z pool lane (book_with more (set b.registers i (register_with Empty (register_at b.registers i).last_key))
      (b.own ++ of_shard lane (reclaimed z.last_generation b.acts)) b.chain b.opened pushed)
  released_book more pushed i key content Over rest small holds made wide keyed over tail =
      let y = register_with Empty (register_at b.registers i).last_key in
      let n = owned.sixteen in
      let fits : i < length b.registers = omega arith in
      let u = tail_unmoved rest tail in
      let none : publishes b.acts ≡ [] = ap publishes made ∙ u.publishes in
      kept_free more (set b.registers i y) pushed
      (subst (λ (r : List Act). IsSettled lane (reclaimed z.last_generation r) (returned r)) (sym made)
      (tail_settled (place_of-lt key) rest wide (subst (AreKeyed z) made keyed) over tail))
      (λ q. ap (times q) (ap collected made ∙ u.collected))
      (λ q is. let t = fillings-set q b.registers i y fits in let p : times q (publishes b.acts) ≡ 0 = ap (times q) none in
      let f : fills q (register_at b.registers i).holding ≡ 0 = ap (fills q) holds in omega arith)
      (λ k. let t = held_references-set k b.registers i y fits in
      let r : times k (releases b.acts) ≡ times k (key ∷ []) = ap (times k) (ap releases made ∙ ap (λ (ks : List ℕ). key ∷ ks) u.releases) in
      let g : times k (gains b.acts) ≡ 0 = ap (times k) (ap gains made ∙ u.gains) in
      let f : refers k (register_at b.registers i).holding ≡ count_if (eqb key k) = ap (refers k) holds in omega arith)
      (length-set b.registers i y ∙ n)
      (holding-idle z pool b.acts (set b.registers i y) none (holding-set z pool b.acts b.registers i y owned.holding tt))

  -- a place was handed out into an empty register
  created_book : IsShape z → z.last_generation < 4294967296
      → ((place : ℕ) → is_place z place ≡ true → (1 ≤ (pool place).generation) × ((pool place).generation ≤ z.last_generation))
      → (more : List Command) (pushed : ℕ → ℕ) (i place : ℕ) (free : Free) → i < 16 → (register_at b.registers i).holding ≡ Empty
      → reclaimed z.last_generation b.acts ≡ [] → returned b.acts ≡ [] → publishes b.acts ≡ [] → gains b.acts ≡ [] → releases b.acts ≡ []
      → ((q : ℕ) → times q (taken b.acts) ≡ times q (collected b.acts)) → Hands z lane b place free
      → let key : ℕ = key_number z.tag place (pool place).generation in
      IsOwned z pool lane (book_with more (set b.registers i (register_with (Filling key []) (Some key)))
      (free.own ++ of_shard lane (reclaimed z.last_generation b.acts)) free.chain free.opened pushed)
  created_book shape wide generations more pushed i place free small holds unreclaimed unreturned none gained lost found handed =
      let key : ℕ = key_number z.tag place (pool place).generation in
      let y = register_with (Filling key []) (Some key) in
      let after = book_with more (set b.registers i y) (free.own ++ of_shard lane (reclaimed z.last_generation b.acts)) free.chain free.opened pushed in
      let n = owned.sixteen in
      let fits : i < length b.registers = omega arith in
      let low = (place_bounds z shape place handed.is).number in
      let at : place_of key ≡ place = place_of-key_number z.tag place (pool place).generation low in
      let last = (generations place handed.is).1 in
      let is_one : is_key z key ≡ true = is_key-key_number z shape wide place (pool place).generation handed.is (generations place handed.is).0 last in
      let same : (pool (place_of key)).generation ≡ generation_of key = ap (λ (p : ℕ). (pool p).generation) at
      ∙ sym (generation_of-key_number z.tag place (pool place).generation low (omega arith)) in
      let own_is : (q : ℕ) → times q (free.own ++ of_shard lane (reclaimed z.last_generation b.acts)) ≡ times q free.own
      = λ q. times-append q free.own (of_shard lane (reclaimed z.last_generation b.acts))
      ∙ (let e : times q (of_shard lane (reclaimed z.last_generation b.acts)) ≡ 0 = ap (λ (xs : List ℕ). times q (of_shard lane xs)) unreclaimed in
      omega arith) in
      record {
        call = none_made (caller z lane after) (call_under_way after);
        places = λ q is. let p = owned.places q is in let c = handed.counts q is in let t = fillings-set q b.registers i y fits in let o = own_is q in
            let f = found q in
            let r : times q (reclaimed z.last_generation b.acts) ≡ 0 = ap (times q) unreclaimed in
            let d : times q (returned b.acts) ≡ 0 = ap (times q) unreturned in
            let u : times q (publishes b.acts) ≡ 0 = ap (times q) none in
            let old : fills q (register_at b.registers i).holding ≡ 0 = ap (fills q) holds in
            let new : fills q y.holding ≡ count_if (eqb place q) = ap (λ (p : ℕ). count_if (eqb p q)) at in omega arith;
        references = λ k. let r = owned.references k in let t = held_references-set k b.registers i y fits in
            let old : refers k (register_at b.registers i).holding ≡ 0 = ap (refers k) holds in
            let g : times k (gains b.acts) ≡ 0 = ap (times k) gained in let l : times k (releases b.acts) ≡ 0 = ap (times k) lost in omega arith;
        inside = λ q some. let o = own_is q in handed.inside q (omega arith);
        sixteen = length-set b.registers i y ∙ n;
        holding = holding-set z pool [] b.registers i y (holding-idle z pool b.acts b.registers none owned.holding) (
          is_one,
          λ e. and_from (is_key z key) (eqb (pool (place_of key)).generation (generation_of key)) is_one
              (eq-eqb (pool (place_of key)).generation (generation_of key) same),
        );
      }

-- ---- the replies

module _ (z : Shape) (lane : ℕ) (pool : Pool) (b : Book) (reply : Reply) (shape : IsShape z) (wide : z.last_generation < 4294967296)
    (inside : lane < z.lanes)
    (generations : (place : ℕ) → is_place z place ≡ true → (1 ≤ (pool place).generation) × ((pool place).generation ≤ z.last_generation))
    (owned : IsOwned z pool lane b) (sound : IsSound z pool lane b) (more : List Command) where
  abbrev IsKept : Command → Reply → Type 0
  IsKept command y = IsOwned z pool lane (answered_first z lane b (command ∷ more) y)

  abbrev IsDone : Option Call → Type 0
  IsDone o = HasMade (caller z lane b) o b.steps b.acts × (next_in (caller z lane b) b.steps o ≡ None)

  -- a reply that changes no register
  calm : IsCalm z lane b.acts → IsOwned z pool lane
      (book_with more b.registers (b.own ++ of_shard lane (reclaimed z.last_generation b.acts)) b.chain b.opened (pushed_after b.steps b.pushed))
  calm is = unchanged z lane pool b owned more (pushed_after b.steps b.pushed) is

  -- a create
  create_reply : (r : Register) (own chain : List ℕ) (opened : ℕ) → IsDone (Some (Creating own chain opened)) → b.own ≡ own → b.chain ≡ chain
      → holding_at b r.number ≡ Empty → CreateReply z pool lane (handed_out z lane b) reply → IsKept (commands.Create r) reply
  create_reply r own chain opened done e f holds says = ⊎_elim
      (λ (idle : b.acts ≡ []). go (handing z shape lane inside b listed (inl (ap taken idle))) (ap (reclaimed z.last_generation) idle)
      (ap returned idle) (ap publishes idle) (ap gains idle) (ap releases idle))
      (λ t. go (handing z shape lane inside b listed (inr (e ∙ t.2, f ∙ t.3))) (ap (reclaimed z.last_generation) t.1) (ap returned t.1)
      (ap publishes t.1) (ap gains t.1) (ap releases t.1))
      (create_acts (caller z lane b) own chain opened b.steps b.acts done.0.0 done.0.1)
    where
      found : (q : ℕ) → times q (taken b.acts) ≡ times q (collected b.acts)
      found q = call_taken (caller z lane b) (Some (Creating own chain opened)) b.steps b.acts done.0 q

      listed : (q : ℕ) → 0 < times q b.own + times q b.chain + times q (taken b.acts) → is_place z q ≡ true
      listed q some = let t = found q in owned.inside q (omega arith)

      go : Handing z lane b → reclaimed z.last_generation b.acts ≡ [] → returned b.acts ≡ [] → publishes b.acts ≡ [] → gains b.acts ≡ []
          → releases b.acts ≡ []
          → IsKept (commands.Create r) reply
      go (hands place free handed) unreclaimed unreturned none gained lost =
          let s = subst (λ (o : Option ℕ). CreateReply z pool lane o reply) handed.out says in
          subst (IsKept (commands.Create r)) (sym s.0)
          (subst (λ (g : Free). IsOwned z pool lane (book_with more
          (set b.registers r.number (register_with (Filling (key_number z.tag place (pool place).generation) [])
          (Some (key_number z.tag place (pool place).generation))))
          (g.own ++ of_shard lane (reclaimed z.last_generation b.acts)) g.chain g.opened (pushed_after b.steps b.pushed))) (sym handed.left)
          (created_book z lane pool b owned shape wide generations more
          (pushed_after b.steps b.pushed) r.number place free r.small holds unreclaimed unreturned none gained lost found handed))
      go (has_none out untaken) unreclaimed unreturned none gained lost =
          subst (IsKept (commands.Create r)) (sym (subst (λ (o : Option ℕ). CreateReply z pool lane o reply) out says))
          (calm (record {
            settled = subst (λ (t : List ℕ × List ℕ). IsSettled lane t.0 t.1) (λ i. (sym unreclaimed i, sym unreturned i)) (λ q. omega arith);
            collected = λ q. sym (found q) ∙ ap (times q) untaken;
            publishes = none;
            gains = gained;
            releases = lost;
          }))

  create_case : (r : Register) (h : Holding) → holding_at b r.number ≡ h → IsDone (creating b h)
      → WhereEmpty h reply (CreateReply z pool lane (handed_out z lane b) reply) → IsKept (commands.Create r) reply
  create_case r Empty holds done says = create_reply r b.own b.chain b.opened done refl refl holds says
  create_case r (Filling key content) holds done says = subst (IsKept (commands.Create r)) (sym says) (calm (calm_none z lane b.acts done.0.1))
  create_case r (Reference key content) holds done says = subst (IsKept (commands.Create r)) (sym says) (calm (calm_none z lane b.acts done.0.1))

  write_case : (r : Register) (bytes : List ℕ) (h : Holding) → b.acts ≡ [] → WhereFilling h reply (λ key. reply ≡ replies.Done)
      → IsKept (commands.Write r bytes) reply
  write_case r bytes Empty idle says = subst (IsKept (commands.Write r bytes)) (sym says) (calm (calm_none z lane b.acts idle))
  write_case r bytes (Filling key content) idle says = subst (IsKept (commands.Write r bytes)) (sym says)
      (written_book z lane pool b owned more (pushed_after b.steps b.pushed) r.number bytes r.small idle)
  write_case r bytes (Reference key content) idle says = subst (IsKept (commands.Write r bytes)) (sym says) (calm (calm_none z lane b.acts idle))

  -- the one act of a publish or a downgrade
  publish_made : (key : ℕ) (content : List ℕ) (with_ref : Bool) → IsDone (Some (Publishing key content with_ref))
      → b.acts ≡ acts.Publish lane key content with_ref ∷ []
  publish_made key content with_ref done =
      ⊎_elim (λ t. absurd (t.1 done.1)) (λ t. t.0) (publish_acts (caller z lane b) key content with_ref b.steps b.acts done.0.0 done.0.1)

  publish_case : (r : Register) (h : Holding) → holding_at b r.number ≡ h → IsDone (publishing false h)
      → WhereFilling h reply (λ key. reply ≡ replies.Key key) → IsKept (commands.Publish r) reply
  publish_case r Empty holds done says = subst (IsKept (commands.Publish r)) (sym says) (calm (calm_none z lane b.acts done.0.1))
  publish_case r (Filling key content) holds done says =
      let made = publish_made key content false done in
      subst (IsKept (commands.Publish r)) (sym says)
      (published_book z lane pool b owned more (pushed_after b.steps b.pushed) r.number key content false
      (register_with Empty (register_at b.registers r.number).last_key)
      r.small holds made sound.apart (λ q. refl) (λ k. ap (λ (m : List Act). times k (gains m)) (sym made)) tt)
  publish_case r (Reference key content) holds done says = subst (IsKept (commands.Publish r)) (sym says) (calm (calm_none z lane b.acts done.0.1))

  downgrade_case : (r : Register) (h : Holding) → holding_at b r.number ≡ h → IsDone (publishing true h)
      → WhereFilling h reply (λ key. reply ≡ replies.Key key) → IsKept (commands.Downgrade r) reply
  downgrade_case r Empty holds done says = subst (IsKept (commands.Downgrade r)) (sym says) (calm (calm_none z lane b.acts done.0.1))
  downgrade_case r (Filling key content) holds done says =
      let made = publish_made key content true done in
      let becomes : kept (register_at b.registers r.number).holding ≡ Reference key content = ap kept holds in
      subst (IsKept (commands.Downgrade r)) (sym says)
      (published_book z lane pool b owned more (pushed_after b.steps b.pushed) r.number key content true
      (register_with (kept (register_at b.registers r.number).holding) (register_at b.registers r.number).last_key) r.small holds made sound.apart
      (λ q. ap (fills q) becomes) (λ k. ap (refers k) becomes ∙ (omega arith) ∙ ap (λ (m : List Act). times k (gains m)) (sym made))
      (subst (IsHolding z pool b.acts) (sym becomes)
      (subst (IsHolding z pool b.acts) holds (holding-at z pool b.acts b.registers r.number owned.holding)).0))
  downgrade_case r (Reference key content) holds done says = subst (IsKept (commands.Downgrade r)) (sym says) (calm (calm_none z lane b.acts done.0.1))

  get_case : (r : Register) (operand : Operand) (k : Option ℕ) (h : Holding) → operand_key b.registers operand ≡ k → holding_at b r.number ≡ h
      → IsDone (getting k h)
      → WhereEmpty h reply (WhereKey k reply (λ at. reply ≡ get_reply (shown b.acts))) → IsKept (commands.Get r operand) reply
  get_case r operand None Empty named holds done says = subst (IsKept (commands.Get r operand)) (sym says) (calm (calm_none z lane b.acts done.0.1))
  get_case r operand None (Filling at content) named holds done says =
      subst (IsKept (commands.Get r operand)) (sym says) (calm (calm_none z lane b.acts done.0.1))
  get_case r operand None (Reference at content) named holds done says =
      subst (IsKept (commands.Get r operand)) (sym says) (calm (calm_none z lane b.acts done.0.1))
  get_case r operand (Some key) (Filling at content) named holds done says =
      subst (IsKept (commands.Get r operand)) (sym says) (calm (calm_none z lane b.acts done.0.1))
  get_case r operand (Some key) (Reference at content) named holds done says =
      subst (IsKept (commands.Get r operand)) (sym says) (calm (calm_none z lane b.acts done.0.1))
  get_case r operand (Some key) Empty named holds done says = go (get_acts (caller z lane b) key b.steps b.acts done.0.0 done.0.1)
    where
      go : GetActs (caller z lane b) key (IsOver (caller z lane b) (Getting key) b.steps) b.acts → IsKept (commands.Get r operand) reply
      go (unasked e) = subst (IsKept (commands.Get r operand)) (sym (says ∙ ap (λ (m : List Act). get_reply (shown m)) e))
          (calm (calm_none z lane b.acts e))
      go (shows content e is) = subst (IsKept (commands.Get r operand)) (sym (says ∙ ap (λ (m : List Act). get_reply (shown m)) e))
          (subst (λ (o : Option ℕ). IsOwned z pool lane (book_with more (set b.registers r.number (got o content (register_at b.registers r.number)))
          (b.own ++ of_shard lane (reclaimed z.last_generation b.acts)) b.chain b.opened (pushed_after b.steps b.pushed))) (sym named)
          (got_book z lane pool b owned more (pushed_after b.steps b.pushed) r.number key content r.small holds e is))
      go (misses rest e tail) = subst (IsKept (commands.Get r operand)) (sym (says ∙ ap (λ (m : List Act). get_reply (shown m)) e))
          (calm (calm_tail z lane key _ (acts.Get lane key None) b.acts rest e (λ t. (refl, refl, refl, refl, refl, refl)) wide
          (subst (AreKeyed z) e sound.keyed) (sound.found, done.1) tail))

  read_case : (r : Register) (h : Holding) → b.acts ≡ []
      → WhereReference h reply (λ key. (content : List ℕ) × HasContent z pool key content × (reply ≡ replies.Content content))
      → IsKept (commands.Read r) reply
  read_case r Empty idle says = subst (IsKept (commands.Read r)) (sym says) (calm (calm_none z lane b.acts idle))
  read_case r (Filling key content) idle says = subst (IsKept (commands.Read r)) (sym says) (calm (calm_none z lane b.acts idle))
  read_case r (Reference key content) idle says = subst (IsKept (commands.Read r)) (sym says.2) (calm (calm_none z lane b.acts idle))

  release_case : (r : Register) (h : Holding) → holding_at b r.number ≡ h → IsDone (releasing h)
      → WhereReference h reply (λ key. reply ≡ replies.Done) → IsKept (commands.Release r) reply
  release_case r Empty holds done says = subst (IsKept (commands.Release r)) (sym says) (calm (calm_none z lane b.acts done.0.1))
  release_case r (Filling key content) holds done says = subst (IsKept (commands.Release r)) (sym says) (calm (calm_none z lane b.acts done.0.1))
  release_case r (Reference key content) holds done says = ⊎_elim
      (λ t. absurd (t.1 done.1))
      (λ t. subst (IsKept (commands.Release r)) (sym says)
      (released_book z lane pool b owned more (pushed_after b.steps b.pushed) r.number key content _ t.0 r.small holds t.1 wide sound.keyed
      (sound.found, done.1) t.2))
      (release_acts (caller z lane b) key b.steps b.acts done.0.0 done.0.1)

  clear_case : (operand : Operand) (k : Option ℕ) → IsDone (clearing k) → IsKept (commands.Clear operand) reply
  clear_case operand None done = calm (calm_none z lane b.acts done.0.1)
  clear_case operand (Some key) done = calm (⊎_elim
      (λ (e : b.acts ≡ []). calm_none z lane b.acts e)
      (λ t. calm_tail z lane key _ (acts.Clear lane key t.0) b.acts t.1 t.2 (λ r. (refl, refl, refl, refl, refl, refl)) wide
      (subst (AreKeyed z) t.2 sound.keyed) (sound.found, done.1) t.3)
      (clear_acts (caller z lane b) key b.steps b.acts done.0.0 done.0.1))

  first_reply : (command : Command) → IsDone (call_of_first b (command ∷ more)) → FirstReplies z pool lane b (command ∷ more) reply → IsKept command reply
  first_reply (commands.Create r) done says = create_case r (holding_at b r.number) refl done says
  first_reply (commands.Write r bytes) done says = write_case r bytes (holding_at b r.number) done.0.1 says
  first_reply (commands.Publish r) done says = publish_case r (holding_at b r.number) refl done says
  first_reply (commands.Downgrade r) done says = downgrade_case r (holding_at b r.number) refl done says
  first_reply (commands.Get r operand) done says = get_case r operand (operand_key b.registers operand) (holding_at b r.number) refl refl done says
  first_reply (commands.Read r) done says = read_case r (holding_at b r.number) done.0.1 says
  first_reply (commands.Release r) done says = release_case r (holding_at b r.number) refl done says
  first_reply (commands.Clear operand) done says = clear_case operand (operand_key b.registers operand) done

-- a reply keeps it
pub owned_reply : (z : Shape) (lane : ℕ) (pool : Pool) (b : Book) (reply : Reply) → IsShape z → z.last_generation < 2 ^ 32 → lane < z.lanes
    → ((place : ℕ) → is_place z place ≡ true → (1 ≤ (pool place).generation) × ((pool place).generation ≤ z.last_generation))
    → IsOwned z pool lane b → IsSound z pool lane b → IsReply z pool lane b reply → IsOwned z pool lane (answered z lane b reply)
owned_reply z lane pool b reply shape wide inside generations owned sound says = by_left b.left (owned.call, says.0) says.1
  where
    by_left : (left : List Command)
        → HasMade (caller z lane b) (call_of_first b left) b.steps b.acts × (next_in (caller z lane b) b.steps (call_of_first b left) ≡ None)
        → FirstReplies z pool lane b left reply → IsOwned z pool lane (answered_first z lane b left reply)
    by_left [] done said = absurd said
    by_left (command ∷ more) done said = first_reply z lane pool b reply shape wide inside generations owned sound more command done said
