-- The place that a create hands out, and all replies of a turn.
use Rattle.std.proofs.Common.{◌≡◌, ◌⊎◌, inl, inr, ⊎_elim, ℕ, zero, suc, ◌+◌, ◌-◌, ◌<◌, ◌≤◌, Bool, true, false, cond, ltb, List, [], ◌∷◌, ◌++◌, drop, take, length, set, append-nil, refl, ap, sym, ◌∙◌, subst, arith, Option, Some, None}
use Rattle.std.specs.Prelude.{flat_map, slice_index, is_some, get_or, MatchOption}
use Rattle.std.proofs.Math.Seq.{drop-cons}
use borrow.Author.Tests.{ltb-true}
use Rattle.keybits.specs.declared.shape.Shape.{Shape}
use Rattle.keybits.specs.Places.{shard_of, place_at}
use Rattle.keybits.specs.Shapes.{IsShape, is_place, page_size}
use Rattle.keybits.specs.Keys.{key_number}
use Rattle.keybits.specs.Words.{generation_in}
use Rattle.keybits.specs.Counts.{times}
use Rattle.keybits.proofs.CountLemmas.{one_at, times-append}
use Rattle.keybits.proofs.ShapeLemmas.{page_size-le, shape_bounds}
use Rattle.seqpool.specs.declared.act.Act.{Act}
use Rattle.seqpool.specs.Pool.{Pool, with, pool_after}
use Rattle.steplaws.specs.Calls.{Creating}
use Rattle.steplaws.specs.Calls as steps
use Rattle.traces.specs.declared.script.Register.{Register}
use Rattle.traces.specs.declared.script.Command.{Command}
use Rattle.traces.specs.declared.script.Command.TheVariants as commands
use Rattle.traces.specs.declared.reply.Reply.{Reply}
use Rattle.traces.specs.declared.reply.Reply.TheVariants as replies
use Rattle.traces.specs.declared.registers.Holding.{Holding}
use Rattle.traces.specs.declared.registers.Holding.TheVariants as holdings
use Rattle.traces.specs.Registers.{register_with}
use Rattle.traces.specs.Books.{Book, caller, creating, call_of_first, holding_at, next_aim, taken, reclaimed, returned, of_shard, page_places, handed_first, handed_out, Free, free_with, after_own, free_after_create, free_after, registers_after, answered_first, answered, all_answered}
use Rattle.traces.specs.Following.{CreateReply, WhereEmpty, CommandReplies, FirstReplies, IsReply, AreReplies}
use Rattle.traces.specs.Lawful.{World, with_book, IsAtRest}
use Rattle.traces.specs.Making.{HasMade}
use Rattle.traces.specs.Owning.{publishes, IsOwned}
use Rattle.traces.specs.Keeping.{IsKept}
use Rattle.traces.proofs.CallActs.{create_acts}
use Rattle.traces.proofs.CreateHands.{Hands, Handing, hands, has_none, handing}
use Rattle.traces.proofs.Idles.{create_takes}
use Rattle.traces.proofs.Moves.{with-of}
use Rattle.traces.proofs.ReplyLemmas.{one_collect}
use Rattle.traces.proofs.SlotLemmas.{slots_only}
use Rattle.traces.proofs.StepCalls.{same_some}
use Rattle.traces.proofs.Throughout.{own_book, book_here, rebooked, keep_reply, generation_within}
use Rattle.traces.proofs.Worlds.{after_reply}
use Rattle.coresteps.specs.declared.aims.Aim.{Aim}
use Rattle.coresteps.specs.declared.lane.Lane.{Lane}
use Rattle.coresteps.specs.declared.progress.Held.{Held}
use Rattle.coresteps.specs.declared.progress.Held.TheVariants.{Empty, Filling, Reference}
use Rattle.coresteps.specs.declared.progress.KeptRegister.{KeptRegister}
use Rattle.coresteps.specs.declared.progress.Progress.{Progress}
use Rattle.coresteps.specs.declared.shared.Made.{Made}
use Rattle.coresteps.specs.declared.shared.Shared.{Shared}
use Rattle.coresteps.specs.OwnLists.{IsOwnList, own_places}
use Rattle.coresteps.specs.Lanes.{written_by, written_since, slot_at, IsHeld, IsSlot, AreSlots, AreChained, IsChained, IsAim}
use Rattle.coresteps.specs.Kept.{made_acts, IsDraft, IsLaneAt, IsReplied, IsWorked}
use Rattle.coresteps.proofs.RegisterLemmas.{slots_stay, slots_set}
use Rattle.coresteps.proofs.OwnLemmas.{of_shard-only}

-- ---- lists

-- where something is left from a position on, the position is within the list
pub drop_within : {A : Type 0} → (xs : List A) (n : ℕ) (x : A) (more : List A) → drop n xs ≡ x ∷ more → n < length xs
drop_within [] zero x more e = absurd (cc e)
drop_within [] (suc n) x more e = absurd (cc e)
drop_within (y ∷ ys) zero x more e = omega arith
drop_within (y ∷ ys) (suc n) x more e = let rest = drop_within ys n x more e in omega arith

one_more : (n : ℕ) → suc n + 1 ≡ suc (n + 1)
one_more n = omega arith

drop_tail : {A : Type 0} → (xs : List A) (n : ℕ) (x : A) (more : List A) → drop n xs ≡ x ∷ more → drop (n + 1) xs ≡ more
drop_tail [] zero x more e = absurd (cc e)
drop_tail [] (suc n) x more e = absurd (cc e)
drop_tail (y ∷ ys) zero x more e = cc
drop_tail (y ∷ ys) (suc n) x more e = ap (λ (m : ℕ). drop m (y ∷ ys)) (one_more n) ∙ drop_tail ys n x more e

-- a list of two parts that is empty is its first
front : (xs ys : List ℕ) → xs ++ ys ≡ [] → xs ++ ys ≡ xs
front [] ys e = e
front (x ∷ xs) ys e = absurd (cc e)

-- ---- the chain

-- the first place is followed
follow_chain : (history : List Act) (index : Option ℕ) (followed place : ℕ) (more : List ℕ) → AreChained history index followed (place ∷ more)
    → AreChained history index (followed + 1) more
follow_chain history None followed place more e = absurd (cc e)
follow_chain history (Some index) followed place more (lane, found, at, within, is) =
    let inside : followed < length found = drop_within found followed place more (sym is) in
    (lane, found, at, omega arith, sym (drop_tail found followed place more (sym is)))

-- ---- what is handed out

module _ (z : Shape) (number : ℕ) where
  -- slot 0 of the next page, where there is one
  abbrev pub last_place : ℕ → Option ℕ
  last_place opened = cond (ltb opened z.pages) (Some (place_at number opened 0)) None

  -- where nothing is handed out, nothing is taken
  none_free : (own places : List ℕ) (opened : ℕ) → None ≡ handed_first own (handed_first places (last_place opened))
      → (places ≡ []) × (after_own z number opened [] places own ≡ free_with own places opened)
  none_free (p ∷ own) places opened e = absurd (cc e)
  none_free [] (p ∷ places) opened e = absurd (cc e)
  none_free [] [] opened e = (refl, by_page (ltb opened z.pages) e)
    where
      by_page : (t : Bool) → None ≡ cond t (Some (place_at number opened 0)) None
          → cond t (free_with (drop 1 (page_places z number opened)) [] (opened + 1)) (free_with [] [] opened) ≡ free_with [] [] opened
      by_page true e = absurd (cc e)
      by_page false e = refl

  -- without a place of its own, a lane follows its chain
  pub followed_free : (history : List Act) (index : Option ℕ) (followed place : ℕ) (own new_own places more : List ℕ) (opened new_opened : ℕ)
      → own ≡ [] → new_own ≡ [] → new_opened ≡ opened → places ≡ place ∷ more → AreChained history index followed places
      → (new_own ≡ (after_own z number opened [] places own).own)
      × AreChained history index (followed + 1) (after_own z number opened [] places own).chain
      × (new_opened ≡ (after_own z number opened [] places own).opened)
  followed_free history index followed place (p ∷ own) new_own places more opened new_opened e f g h is = absurd (cc e)
  followed_free history index followed place [] new_own [] more opened new_opened e f g h is = absurd (cc h)
  followed_free history index followed place [] new_own (q ∷ rest) more opened new_opened e f g h is =
      (f, follow_chain history index followed q rest is, g)

  -- the chain and what a TAKE found are one chain: a TAKE is made only without a place of the own list or the chain
  joined : (opened : ℕ) (own chain found : List ℕ) → ((own ++ chain ≡ [] → ⊥) → found ≡ [])
      → after_own z number opened [] (chain ++ found) own ≡ after_own z number opened found chain own
  joined opened (p ∷ own) chain found none =
      ap (λ (xs : List ℕ). free_with own xs opened) (ap (λ (f : List ℕ). chain ++ f) (none (λ e. cc e)) ∙ append-nil chain)
  joined opened [] (p ∷ chain) found none =
      ap (λ (xs : List ℕ). free_with [] xs opened) (ap (λ (f : List ℕ). chain ++ f) (none (λ e. cc e)) ∙ append-nil chain)
  joined opened [] [] (p ∷ found) none = refl
  joined opened [] [] [] none = refl

handed_joined : (own chain found : List ℕ) (other : Option ℕ)
    → handed_first own (handed_first (chain ++ found) other) ≡ handed_first own (handed_first chain (handed_first found other))
handed_joined (p ∷ own) chain found other = refl
handed_joined [] (p ∷ chain) found other = refl
handed_joined [] [] found other = refl

-- ---- the place that is handed out

module _ (z : Shape) (shape : IsShape z) (lane : ℕ) (inside : lane < z.lanes) (pool : Pool) (b : Book) (owned : IsOwned z pool lane b)
    (made : HasMade (caller z lane b) (Some (Creating b.own b.chain b.opened)) b.steps b.acts) where
  -- a create reclaims nothing
  unreclaimed : reclaimed z.last_generation b.acts ≡ []
  unreclaimed = ⊎_elim (λ (e : b.acts ≡ []). ap (reclaimed z.last_generation) e) (λ t. ap (reclaimed z.last_generation) t.1)
      (create_acts (caller z lane b) b.own b.chain b.opened b.steps b.acts made.0 made.1)

  unreturned : returned b.acts ≡ []
  unreturned = ⊎_elim (λ (e : b.acts ≡ []). ap returned e) (λ t. ap returned t.1)
      (create_acts (caller z lane b) b.own b.chain b.opened b.steps b.acts made.0 made.1)

  unpublished : publishes b.acts ≡ []
  unpublished = ⊎_elim (λ (e : b.acts ≡ []). ap publishes e) (λ t. ap publishes t.1)
      (create_acts (caller z lane b) b.own b.chain b.opened b.steps b.acts made.0 made.1)

  alone : (taken b.acts ≡ []) ⊎ ((b.own ≡ []) × (b.chain ≡ []))
  alone = ⊎_elim (λ (e : b.acts ≡ []). inl (ap taken e)) (λ t. inr (t.2, t.3))
      (create_acts (caller z lane b) b.own b.chain b.opened b.steps b.acts made.0 made.1)

  listed : (q : ℕ) → 0 < times q b.own + times q b.chain + times q (taken b.acts) → is_place z q ≡ true
  listed q some = let t = one_collect z lane b owned.call q in owned.inside q (omega arith)

  hands_with : (place : ℕ) (free : Free) → Hands z lane b place free → (pool place).phase ≡ with lane
  hands_with place free h =
      let count = h.counts place h.is in let one = one_at place place refl in let is = owned.places place h.is in
      let t = one_collect z lane b owned.call place in
      let r : times place (returned b.acts) ≡ 0 = ap (times place) unreturned in
      let p : times place (publishes b.acts) ≡ 0 = ap (times place) unpublished in
      with-of lane (pool place).phase (omega arith)

  -- the place that a create hands out is of the shape, and with the lane
  created_place : (place : ℕ) → handed_out z lane b ≡ Some place → (is_place z place ≡ true) × ((pool place).phase ≡ with lane)
  created_place place is = by (handing z shape lane inside b listed alone)
    where
      by : Handing z lane b → (is_place z place ≡ true) × ((pool place).phase ≡ with lane)
      by (has_none out untaken) = let bad : None ≡ Some place = sym out ∙ is in absurd (cc bad)
      by (hands p free h) =
          subst (λ (q : ℕ). (is_place z q ≡ true) × ((pool q).phase ≡ with lane)) (same_some p place (sym h.out ∙ is))
          (h.is, hands_with p free h)

-- the generation in the lifecycle word of a place is that of the place
pub life_generation : (shared : Shared) (w : World) (made : Option Made) → IsDraft shared w made → (place word generation : ℕ)
    → is_place shared.shape place ≡ true → word ≡ w.words.life place → generation ≡ generation_in word
    → generation ≡ (pool_after shared.shape w.history place).generation
life_generation shared w made draft place word generation is same e =
    e ∙ (ap generation_in same ∙ (draft.kept.holds.rule.state place is).1)

-- ---- a create

-- what handing out gives
pub record IsHandedOut (shared : Shared) (made : Option Made) (number : ℕ) (ring : List ℕ) (old new : Progress) (out : Option ℕ) : Type 0 where
  pub place : (places : List ℕ) → IsChained (shared.acts.items ++ made_acts made) old.chain places
      → out ≡ handed_first (own_places shared.shape number ring old.own) (handed_first places (last_place shared.shape number old.own.opened))
  pub free : (places : List ℕ) → IsChained (shared.acts.items ++ made_acts made) old.chain places
      → (own_places shared.shape number ring new.own
      ≡ (after_own shared.shape number old.own.opened [] places (own_places shared.shape number ring old.own)).own)
      × IsChained (shared.acts.items ++ made_acts made) new.chain
      (after_own shared.shape number old.own.opened [] places (own_places shared.shape number ring old.own)).chain
      × (new.own.opened ≡ (after_own shared.shape number old.own.opened [] places (own_places shared.shape number ring old.own)).opened)
  pub list : IsOwnList shared.shape ring new.own
  pub rest : new ≡ record old { own = new.own; chain = new.chain }
  pub settled : old.own.added ≡ None → new.own.added ≡ None

module _ (shared : Shared) (w : World) (made : Option Made) (number : ℕ) (lane : Lane) (old : Progress) (r : Register) (more : List Command)
    (draft : IsDraft shared w made) (below : number < shared.shape.lanes)
    (at : IsLaneAt shared.shape w.history number lane old (w.books number))
    (left : (w.books number).left ≡ commands.Create r ∷ more) where
  abbrev the_book : Book
  the_book = w.books number

  abbrev the_shape : Shape
  the_shape = shared.shape

  abbrev the_pool : Pool
  the_pool = pool_after the_shape w.history

  abbrev own_now : List ℕ
  own_now = own_places the_shape number lane.ring.items old.own

  abbrev places : List ℕ
  places = the_book.chain ++ taken the_book.acts

  shape : IsShape the_shape
  shape = draft.kept.holds.rule.limits

  owned : IsOwned the_shape the_pool number the_book
  owned = draft.kept.holds.owned number below

  call : HasMade (caller the_shape number the_book) (creating the_book (holding_at the_book r.number)) the_book.steps the_book.acts
  call = subst (λ (xs : List Command). HasMade (caller the_shape number the_book) (call_of_first the_book xs) the_book.steps the_book.acts) left owned.call

  script_left : drop old.done lane.script ≡ commands.Create r ∷ more
  script_left = at.left ∙ left

  held_at : IsHeld lane.script old.done r.number (slot_at old.slots r.number).held (holding_at the_book r.number)
  held_at = (at.slots.each r.number r.small).1

  -- the places of the chain, as the core has them
  pub places_chained : IsChained (shared.acts.items ++ made_acts made) old.chain places
  places_chained = subst (λ (h : List Act). IsChained h old.chain places) draft.history at.chain

  slots_more : AreSlots lane.script (old.done + 1) old.slots the_book.registers
  slots_more = slots_stay lane.script old.done (commands.Create r) more script_left old.slots the_book.registers at.slots (λ n. refl)

  -- ---- where the register isn't empty

  skips : (held : Held) (holding : Holding) → IsHeld lane.script old.done r.number held holding → (held ≡ Empty → ⊥)
      → HasMade (caller the_shape number the_book) (creating the_book holding) the_book.steps the_book.acts → (Says : Type 0)
      → (the_book.acts ≡ []) × WhereEmpty holding replies.Skip Says
  skips Empty holding is other has Says = absurd (other refl)
  skips (Filling key created) holding is other has Says =
      let content : List ℕ = written_since lane.script created old.done r.number in
      let idle = subst (λ (h : Holding). HasMade (caller the_shape number the_book) (creating the_book h) the_book.steps the_book.acts) is.1 has in
      (idle.1, subst (λ (h : Holding). WhereEmpty h replies.Skip Says) (sym is.1) refl)
  skips (Reference key) holding is other has Says =
      let idle = subst (λ (h : Holding). HasMade (caller the_shape number the_book) (creating the_book h) the_book.steps the_book.acts) is.1 has in
      (idle.1, subst (λ (h : Holding). WhereEmpty h replies.Skip Says) (sym is.1) refl)

  pub create_skips : ((slot_at old.slots r.number).held ≡ Empty → ⊥)
      → CommandReplies the_shape the_pool number the_book (commands.Create r) replies.Skip
      × IsReplied the_shape w.history number lane the_book (commands.Create r) replies.Skip old old
  create_skips other =
      let s = skips (slot_at old.slots r.number).held (holding_at the_book r.number) held_at other call
      (CreateReply the_shape the_pool number (handed_out the_shape number the_book) replies.Skip) in (
        s.1,
        record {
          done = refl;
          slots = slots_more;
          list = at.list;
          own = at.own;
          chain = subst (IsChained w.history old.chain) (ap (λ (made_so_far : List Act). the_book.chain ++ taken made_so_far) s.0 ∙ append-nil the_book.chain) at.chain;
          opened = at.opened;
          pushed = refl;
          most = refl;
          settled = λ e. e;
        },
      )

  -- ---- where it is empty

  module _ (held : (slot_at old.slots r.number).held ≡ Empty) where
    holds : holding_at the_book r.number ≡ holdings.Empty
    holds = subst (λ (h : Held). IsHeld lane.script old.done r.number h (holding_at the_book r.number)) held held_at

    has : HasMade (caller the_shape number the_book) (Some (Creating the_book.own the_book.chain the_book.opened)) the_book.steps the_book.acts
    has = subst (λ (h : Holding). HasMade (caller the_shape number the_book) (creating the_book h) the_book.steps the_book.acts) holds call

    nothing_back : of_shard number (reclaimed the_shape.last_generation the_book.acts) ≡ []
    nothing_back = ap (of_shard number) (unreclaimed the_shape shape number below the_pool the_book owned has)

    own_is : own_now ≡ the_book.own
    own_is = at.own ∙ (ap (λ (xs : List ℕ). the_book.own ++ xs) nothing_back ∙ append-nil the_book.own)

    module _ (out : Option ℕ) (new : Progress) (given : IsHandedOut shared made number lane.ring.items old new out) where
      out_is : out ≡ handed_out the_shape number the_book
      out_is = given.place places places_chained
          ∙ ((λ i. handed_first (own_is i) (handed_first places (last_place the_shape number (at.opened i))))
          ∙ handed_joined the_book.own the_book.chain (taken the_book.acts) (last_place the_shape number the_book.opened))

      left_is : after_own the_shape number old.own.opened [] places own_now ≡ free_after_create the_shape number (free_with the_book.own the_book.chain the_book.opened) the_book.acts
      left_is = (λ i. after_own the_shape number (at.opened i) [] places (own_is i))
          ∙ joined the_shape number the_book.opened the_book.own the_book.chain (taken the_book.acts) (create_takes (caller the_shape number the_book) the_book.own the_book.chain the_book.opened the_book.steps the_book.acts has)

      -- the place is of the shape, and with the lane
      pub out_place : (place : ℕ) → out ≡ Some place → (is_place the_shape place ≡ true) × ((the_pool place).phase ≡ with number)
      out_place place is = created_place the_shape shape number below the_pool the_book owned has place (sym out_is ∙ is)

      pub out_generation : (place : ℕ) → out ≡ Some place → 1 ≤ (the_pool place).generation
      out_generation place is = (generation_within the_shape w draft.kept.holds place (out_place place is).0).0

      old_slots : AreSlots lane.script old.done new.slots the_book.registers
      old_slots = subst (λ (s : List KeptRegister). AreSlots lane.script old.done s the_book.registers) (sym (ap (λ (p : Progress). p.slots) given.rest)) at.slots

      new_slots : AreSlots lane.script (old.done + 1) new.slots the_book.registers
      new_slots = slots_stay lane.script old.done (commands.Create r) more script_left new.slots the_book.registers old_slots (λ n. refl)

      pub create_fills : out ≡ None → CommandReplies the_shape the_pool number the_book (commands.Create r) replies.Full
          × IsReplied the_shape w.history number lane the_book (commands.Create r) replies.Full old new
      create_fills none =
          let free = given.free places places_chained in
          let untaken = none_free the_shape number own_now places old.own.opened (sym none ∙ given.place places places_chained) in (
            subst (λ (h : Holding). WhereEmpty h replies.Full (CreateReply the_shape the_pool number (handed_out the_shape number the_book) replies.Full)) (sym holds)
                (subst (λ (o : Option ℕ). CreateReply the_shape the_pool number o replies.Full) (sym none ∙ out_is) refl),
            record {
              done = ap (λ (p : Progress). p.done) given.rest;
              slots = new_slots;
              list = given.list;
              own = free.0 ∙ (ap (λ (f : Free). f.own) untaken.1 ∙ at.own);
              chain = subst (λ (t : List Act × List ℕ). IsChained t.0 new.chain t.1)
                  (λ i. (sym draft.history i, (ap (λ (f : Free). f.chain) untaken.1 ∙ front the_book.chain (taken the_book.acts) untaken.0) i)) free.1;
              opened = free.2 ∙ (ap (λ (f : Free). f.opened) untaken.1 ∙ at.opened);
              pushed = ap (λ (p : Progress). p.pushed) given.rest;
              most = ap (λ (p : Progress). p.most) given.rest;
              settled = given.settled;
            },
          )

      -- the slot of the new filling
      abbrev new_slot : ℕ → KeptRegister
      new_slot key = record { held = Filling key new.done; last_key = Some key }

      fresh_slot : (key : ℕ) → IsSlot lane.script (old.done + 1) r.number (new_slot key) (register_with (holdings.Filling key []) (Some key))
      fresh_slot key =
          let same : new.done ≡ old.done = ap (λ (p : Progress). p.done) given.rest in
          let one : old.done + 1 - old.done ≡ 1 = omega arith in
          let nothing : written_since lane.script old.done (old.done + 1) r.number ≡ [] =
          ap (λ (n : ℕ). flat_map (written_by r.number) (take n (drop old.done lane.script))) one
          ∙ ap (λ (xs : List Command). flat_map (written_by r.number) (take 1 xs)) script_left in (
            refl,
            (
              omega arith,
              ap (holdings.Filling key)
                  (sym (ap (λ (n : ℕ). written_since lane.script n (old.done + 1) r.number) same ∙ nothing)),
            ),
          )

      pub create_hands : (place key : ℕ) → out ≡ Some place → key ≡ key_number the_shape.tag place (the_pool place).generation
          → CommandReplies the_shape the_pool number the_book (commands.Create r) (replies.Filling key)
          × IsReplied the_shape w.history number lane the_book (commands.Create r) (replies.Filling key) old
          (record new { slots = set new.slots r.number (new_slot key) })
      create_hands place key is same =
          let free = given.free places places_chained in (
            subst (λ (h : Holding). WhereEmpty h (replies.Filling key) (CreateReply the_shape the_pool number (handed_out the_shape number the_book) (replies.Filling key))) (sym holds)
                (subst (λ (o : Option ℕ). CreateReply the_shape the_pool number o (replies.Filling key)) (sym is ∙ out_is)
                (ap replies.Filling same, (out_place place is).1)),
            record {
              done = ap (λ (p : Progress). p.done) given.rest;
              slots = slots_set lane.script old.done (commands.Create r) more script_left new.slots the_book.registers old_slots (λ n. refl) r.number r.small
                  (new_slot key) (register_with (holdings.Filling key []) (Some key)) (fresh_slot key);
              list = given.list;
              own = free.0 ∙ (ap (λ (f : Free). f.own) left_is
                  ∙ sym (ap (λ (xs : List ℕ). (free_after_create the_shape number (free_with the_book.own the_book.chain the_book.opened) the_book.acts).own ++ xs) nothing_back ∙ append-nil (free_after_create the_shape number (free_with the_book.own the_book.chain the_book.opened) the_book.acts).own));
              chain = subst (λ (t : List Act × List ℕ). IsChained t.0 new.chain t.1)
                  (λ i. (sym draft.history i, ap (λ (f : Free). f.chain) left_is i)) free.1;
              opened = free.2 ∙ ap (λ (f : Free). f.opened) left_is;
              pushed = ap (λ (p : Progress). p.pushed) given.rest;
              most = ap (λ (p : Progress). p.most) given.rest;
              settled = given.settled;
            },
          )

-- ---- a reply more

-- what stands without its first
drop_times : (p : ℕ) (xs : List ℕ) → times p (drop 1 xs) ≤ times p xs
drop_times p [] = omega arith
drop_times p (x ∷ xs) = omega arith

module _ (z : Shape) (shape : IsShape z) (lane : ℕ) where
  -- the places of a page are of the lane's shard
  page_shard : (opened p : ℕ) → opened < z.pages → 0 < times p (drop 1 (page_places z lane opened)) → shard_of p ≡ lane
  page_shard opened p unopened some =
      let top = (shape_bounds z shape).pages in let size = page_size-le z opened in
      let le = drop_times p (page_places z lane opened) in
      (slots_only lane opened 0 (page_size z opened) p (omega arith) (omega arith) (omega arith)).0

  -- the own list after a create is of the lane's shard
  created_shard : (opened : ℕ) (found chain own : List ℕ) → ((p : ℕ) → 0 < times p own → shard_of p ≡ lane)
      → (p : ℕ) → 0 < times p (after_own z lane opened found chain own).own → shard_of p ≡ lane
  created_shard opened found chain (q ∷ own) of p some = of p (omega arith)
  created_shard opened found (q ∷ chain) [] of p some = absurd (omega arith)
  created_shard opened (q ∷ found) [] [] of p some = absurd (omega arith)
  created_shard opened [] [] [] of p some = by_page (ltb opened z.pages) refl some
    where
      by_page : (t : Bool) → ltb opened z.pages ≡ t
          → 0 < times p (cond t (free_with (drop 1 (page_places z lane opened)) [] (opened + 1)) (free_with [] [] opened)).own → shard_of p ≡ lane
      by_page true e some = page_shard opened p (ltb-true opened z.pages e) some
      by_page false e some = absurd (omega arith)

  -- the own list after a reply is the one before, or that after a create
  free_own : (b : Book) (command : Command) (reply : Reply)
      → ((free_after z lane b command reply).own ≡ b.own) ⊎ ((free_after z lane b command reply).own ≡ (free_after_create z lane (free_with b.own b.chain b.opened) b.acts).own)
  free_own b (commands.Create r) (replies.Filling key) = inr refl
  free_own b command reply = inl refl

  free_shard : (b : Book) (command : Command) (reply : Reply) → ((p : ℕ) → 0 < times p b.own → shard_of p ≡ lane)
      → (p : ℕ) → 0 < times p (free_after z lane b command reply).own → shard_of p ≡ lane
  free_shard b command reply of p some = ⊎_elim
      (λ (e : (free_after z lane b command reply).own ≡ b.own). of p (subst (λ (xs : List ℕ). 0 < times p xs) e some))
      (λ (e : (free_after z lane b command reply).own ≡ (free_after_create z lane (free_with b.own b.chain b.opened) b.acts).own).
      created_shard b.opened (taken b.acts) b.chain b.own of p (subst (λ (xs : List ℕ). 0 < times p xs) e some))
      (free_own b command reply)

  answered_shard : (b : Book) (command : Command) (reply : Reply) (back : List ℕ) → ((p : ℕ) → 0 < times p b.own → shard_of p ≡ lane)
      → (p : ℕ) → 0 < times p ((free_after z lane b command reply).own ++ of_shard lane back) → shard_of p ≡ lane
  answered_shard b command reply back of p some =
      let t = times-append p (free_after z lane b command reply).own (of_shard lane back) in
      by_count (times p (free_after z lane b command reply).own) refl
    where
      by_count : (n : ℕ) → times p (free_after z lane b command reply).own ≡ n → shard_of p ≡ lane
      by_count zero e = let t = times-append p (free_after z lane b command reply).own (of_shard lane back) in of_shard-only lane back p (omega arith)
      by_count (suc n) e = free_shard b command reply of p (omega arith)

-- the next command is the first that is left
pub next_left : (script slice : List Command) (done : ℕ) (command : Command) (left : List Command) → slice ≡ script → done < length slice
    → ((other : Command) → command ≡ get_or slice done other) → drop done script ≡ left → left ≡ command ∷ drop (suc done) slice
next_left script slice done command left same inside at e =
    sym e ∙ (ap (drop done) (sym same) ∙ (drop-cons slice done command inside ∙ ap (λ (x : Command). x ∷ drop (suc done) slice) (sym (at command))))

-- the core has no step to make, and so has the book
pub no_aim : (a : Option Aim) (next : Option steps.Aim) → false ≡ is_some a → IsAim a next → next ≡ None
no_aim None next none is = is
no_aim (Some a) next none is = absurd (cc none)

-- a command that is done
abbrev pub finished : Progress → Progress
finished p = record p { done = p.done + 1; last = None; made = 0; cleared = false }

module _ (z : Shape) (shape : IsShape z) (history : List Act) (number : ℕ) (lane : Lane) (old new : Progress) (b : Book)
    (command : Command) (more : List Command) (reply : Reply) where
  answered_lane : IsLaneAt z history number lane old b → b.left ≡ command ∷ more → IsReplied z history number lane b command reply old new
      → IsLaneAt z history number lane (finished new) (answered_first z number b (command ∷ more) reply)
  answered_lane at left is =
      let rest : drop old.done lane.script ≡ command ∷ more = at.left ∙ left in
      let inside : old.done < length lane.script = drop_within lane.script old.done command more rest in
      let same = is.done in
      record {
        left = ap (λ (n : ℕ). drop (n + 1) lane.script) is.done ∙ drop_tail lane.script old.done command more rest;
        within = omega arith;
        slots = subst (λ (n : ℕ). AreSlots lane.script (n + 1) new.slots (registers_after b command reply)) (sym is.done) is.slots;
        list = is.list;
        own = is.own ∙ sym (append-nil ((free_after z number b command reply).own ++ of_shard number (reclaimed z.last_generation b.acts)));
        chain = subst (IsChained history new.chain) (sym (append-nil (free_after z number b command reply).chain)) is.chain;
        opened = is.opened;
        pushed_count = ap length is.pushed ∙ at.pushed_count;
        pushed = λ shard small. ap (λ (p : List ℕ). slice_index p shard) is.pushed ∙ at.pushed shard small;
        last = refl;
        made = refl;
        cleared = refl;
        own_shard = answered_shard z shape number b command reply (reclaimed z.last_generation b.acts) at.own_shard;
        shows = λ key content getting e. absurd (cc e);
      }

  pub answered_at : IsLaneAt z history number lane old b → b.left ≡ command ∷ more → IsReplied z history number lane b command reply old new
      → IsLaneAt z history number lane (finished new) (answered z number b reply)
  answered_at at left is =
      subst (λ (xs : List Command). IsLaneAt z history number lane (finished new) (answered_first z number b xs reply)) (sym left) (answered_lane at left is)

  pub answered_reply : (pool : Pool) → next_aim z number b ≡ None → b.left ≡ command ∷ more → CommandReplies z pool number b command reply
      → IsReply z pool number b reply
  answered_reply pool over left says = (over, subst (λ (xs : List Command). FirstReplies z pool number b xs reply) (sym left) says)

-- ---- all replies of a turn

replied_one : (z : Shape) (pool : Pool) (lane : ℕ) (b : Book) (rs : List Reply) (r : Reply) → AreReplies z pool lane b rs
    → IsReply z pool lane (all_answered z lane b rs) r → AreReplies z pool lane b (rs ++ r ∷ [])
replied_one z pool lane b [] r are is = (is, tt)
replied_one z pool lane b (x ∷ rs) r are is = (are.0, replied_one z pool lane (answered z lane b x) rs r are.1 is)

all_answered-one : (z : Shape) (lane : ℕ) (b : Book) (rs : List Reply) (r : Reply)
    → all_answered z lane b (rs ++ r ∷ []) ≡ answered z lane (all_answered z lane b rs) r
all_answered-one z lane b [] r = refl
all_answered-one z lane b (x ∷ rs) r = all_answered-one z lane (answered z lane b x) rs r

-- the world in which the lane has given these replies
abbrev pub replied_world : Shape → World → ℕ → List Reply → World
replied_world z w number rs =
    record { history = w.history; words = w.words; books = with_book w.books number (all_answered z number (w.books number) rs) }

-- the lane was at rest, or gave this reply
abbrev pub Answered : Shared → World → ℕ → Lane → Progress → Progress → Option Reply → Type 0
Answered shared w number lane old new response = MatchOption response
    (IsAtRest shared.shape number (w.books number) × (new ≡ old))
    (λ (reply : Reply). IsReply shared.shape (pool_after shared.shape w.history) number (w.books number) reply
    × IsLaneAt shared.shape w.history number lane new (answered shared.shape number (w.books number) reply)
    × (new.most ≡ old.most) × (new.done ≡ old.done + 1) × (old.own.added ≡ None → new.own.added ≡ None))

-- what a lane has done after these replies
pub record HasReplied (shared : Shared) (w : World) (made : Option Made) (number : ℕ) (lane : Lane) (old : Progress) (rs : List Reply) (new : Progress) : Type 0 where
  pub replied : AreReplies shared.shape (pool_after shared.shape w.history) number (w.books number) rs
  pub draft : IsDraft shared (replied_world shared.shape w number rs) made
  pub lane_at : IsLaneAt shared.shape w.history number lane new ((replied_world shared.shape w number rs).books number)
  pub most : new.most ≡ old.most
  pub settled : old.own.added ≡ None → new.own.added ≡ None

-- the same draft by other books that are kept
draft_with : (shared : Shared) (w : World) (made : Option Made) (books : ℕ → Book) → IsDraft shared w made
    → IsKept shared.shape (record { history = w.history; words = w.words; books = books })
    → IsDraft shared (record { history = w.history; words = w.words; books = books }) made
draft_with shared w made books d kept = record {
  kept = kept;
  history = d.history;
  before = d.before;
  table = d.table;
  words = d.words;
  places = d.places;
  published = d.published;
}

-- a reply keeps the draft
draft_reply : (shared : Shared) (w : World) (made : Option Made) (number : ℕ) (reply : Reply) → number < shared.shape.lanes → IsDraft shared w made
    → IsReply shared.shape (pool_after shared.shape w.history) number (w.books number) reply
    → IsDraft shared (after_reply shared.shape w number reply) made
draft_reply shared w made number reply below d is =
    draft_with shared w made (with_book w.books number (answered shared.shape number (w.books number) reply)) d
    (keep_reply shared.shape w number reply d.kept below is)

module _ (shared : Shared) (w : World) (made : Option Made) (number : ℕ) (lane : Lane) (old : Progress) (below : number < shared.shape.lanes) where
  abbrev world_of : List Reply → World
  world_of rs = replied_world shared.shape w number rs

  book_is : (rs : List Reply) → (world_of rs).books number ≡ all_answered shared.shape number (w.books number) rs
  book_is rs = book_here w.books number (all_answered shared.shape number (w.books number) rs)

  -- before the first reply
  pub replied_none : IsDraft shared w made → IsLaneAt shared.shape w.history number lane old (w.books number)
      → HasReplied shared w made number lane old [] old
  replied_none d at = record {
    replied = tt;
    draft = subst (λ (books : ℕ → Book). IsDraft shared (record { history = w.history; words = w.words; books = books }) made)
        (sym (own_book w.books number)) d;
    lane_at = subst (λ (x : Book). IsLaneAt shared.shape w.history number lane old x) (sym (book_is [])) at;
    most = refl;
    settled = λ e. e;
  }

  -- one reply more
  pub replied_more : (rs : List Reply) (r : Reply) (now new : Progress) → HasReplied shared w made number lane old rs now
      → IsReply shared.shape (pool_after shared.shape w.history) number ((world_of rs).books number) r
      → IsLaneAt shared.shape w.history number lane new (answered shared.shape number ((world_of rs).books number) r)
      → new.most ≡ now.most → (now.own.added ≡ None → new.own.added ≡ None)
      → HasReplied shared w made number lane old (rs ++ r ∷ []) new
  replied_more rs r now new h is at most settled =
      let z : Shape = shared.shape in
      let whole : with_book (with_book w.books number (all_answered z number (w.books number) rs)) number
      (answered z number (with_book w.books number (all_answered z number (w.books number) rs) number) r)
      ≡ (world_of (rs ++ r ∷ [])).books =
      rebooked w.books number (all_answered z number (w.books number) rs) (λ x. answered z number x r)
      ∙ ap (with_book w.books number) (sym (all_answered-one z number (w.books number) rs r)) in
      let next : answered z number ((world_of rs).books number) r ≡ (world_of (rs ++ r ∷ [])).books number =
      ap (λ (x : Book). answered z number x r) (book_is rs)
      ∙ (sym (all_answered-one z number (w.books number) rs r) ∙ sym (book_is (rs ++ r ∷ []))) in
      record {
        replied = replied_one z (pool_after z w.history) number (w.books number) rs r h.replied
            (subst (λ (x : Book). IsReply z (pool_after z w.history) number x r) (book_is rs) is);
        draft = subst (λ (books : ℕ → Book). IsDraft shared (record { history = w.history; words = w.words; books = books }) made) whole
            (draft_reply shared (world_of rs) made number r below h.draft is);
        lane_at = subst (λ (x : Book). IsLaneAt z w.history number lane new x) next at;
        most = most ∙ h.most;
        settled = λ e. settled (h.settled e);
      }

  -- the lane is at rest
  pub replied_all : (rs : List Reply) (new : Progress) → HasReplied shared w made number lane old rs new
      → IsAtRest shared.shape number ((world_of rs).books number) → IsWorked shared w made number lane old rs new
  replied_all rs new h rest = record {
    replied = h.replied;
    draft = h.draft;
    lane_at = subst (λ (x : Book). IsLaneAt shared.shape w.history number lane new x) (book_is rs) h.lane_at;
    rest = subst (λ (x : Book). IsAtRest shared.shape number x) (book_is rs) rest;
    most = h.most;
    settled = h.settled;
  }
