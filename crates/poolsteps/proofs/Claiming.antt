-- CLAIM, through the table.
use Rattle.poolsteps.specs.Spot.{Spot as CellSpot}
use Rattle.std.proofs.Common.{◌≡◌, ◌≢◌, ℕ, ◌+◌, ◌<◌, ◌≤◌, Bool, true, false, cond, eqb, List, [], ◌∷◌, ◌++◌, Some, None, refl, ap, sym, ◌∙◌, subst, arith, eq-eqb, ne_eqb, if◌then◌else◌}
use mathlib.Core.Logic.{dite}
use native.Mathlib.Decide.{ℕ_discrete}
use prog.Atomic.{either}
use Rattle.atomic_table.specs.Table.{Me}
use Rattle.keybits.specs.declared.shape.Shape.{Shape}
use Rattle.keybits.specs.declared.step.Kind.TheVariants as kinds
use Rattle.keybits.specs.declared.step.Word.TheVariants.{Life}
use Rattle.keybits.specs.Places.{shard_of}
use Rattle.keybits.specs.Shapes.{callers, is_place}
use Rattle.keybits.specs.Keys.{place_of, key_number}
use Rattle.keybits.specs.Words.{word_with, generation_in, claimable}
use Rattle.keybits.specs.Steps.{claim_gives}
use Rattle.keybits.proofs.KeyLemmas.{key_parts}
use Rattle.seqpool.specs.declared.act.Act.{Act}
use Rattle.seqpool.specs.declared.act.Act.TheVariants as acts
use Rattle.seqpool.specs.Pool.{with, retired, Spot, spot, Pool, Allowed, changed, fresh, pool_after}
use Rattle.seqpool.proofs.Growth.{pool-snoc, after-here}
use Rattle.seqpool.proofs.Misses.{later-law}
use Rattle.seqpool.proofs.Ranks.{current-key}
use Rattle.poolsteps.specs.declared.view.Stored.{Stored}
use Rattle.poolsteps.specs.declared.view.Status.TheVariants.{Untouched}
use Rattle.poolsteps.specs.Shares.{reclaimer, room_of, HasAll, Slots, Shared, restocked}
use Rattle.poolsteps.proofs.shares.Rooms.{reclaimers-behind, rooms-behind}
use Rattle.poolsteps.proofs.shares.HeldContents.{kept_in, was-published}
use Rattle.poolsteps.proofs.shares.Reclaiming.{reclaim-share-law, marked-content}
use Rattle.steplaws.specs.declared.pending.Pending.{Pending}
use Rattle.steplaws.specs.declared.pending.Pending.TheVariants.{Nothing, Owes, Returns}
use Rattle.steplaws.specs.Facts.{Words, Rule, with_under}
use Rattle.steplaws.specs.StepLaws.{HasUnderWay, Keeps, reclaim}
use Rattle.steplaws.proofs.Generations.{key_now}
use Rattle.steplaws.proofs.Claims.{claim-own-law, claim-other-law, claim-last-law, claim-fails-law}
use Rattle.steplaws.proofs.Updates.{at-here}
use Rattle.poolsteps.specs.declared.view.LaneRecord.{LaneRecord}
use Rattle.poolsteps.specs.declared.view.View.{View}
use Rattle.poolsteps.specs.Rule.{World}
use Rattle.poolsteps.specs.Views.{the_lane, head_record}
use Rattle.poolsteps.specs.Told.{claimed_under, HasPlace, WasPublished, Claims}
use Rattle.poolsteps.proofs.SeatLemmas.{IsAt, IsPoint}
use Rattle.poolsteps.proofs.Making.{moment_of, Makes, quietly}
use Rattle.poolsteps.proofs.Publishing.{knows-more, others-know}

-- what a claim that succeeded leaves under way: nothing at the last generation or at a place of the lane's own shard
abbrev under_by : ℕ → Bool → Bool → Pending
under_by place last own = if last then Nothing else (if own then Nothing else Returns place None false)

module _ (z : Shape) (words : Words) (w : World) (s : Rule z (moment_of words w)) (place generation : ℕ) (inside : is_place z place ≡ true) where
  -- a place whose word can be claimed at a generation has that generation, and a key of it
  its-generation : words.life place ≡ claimable generation → (pool_after z w.history place).generation ≡ generation
  its-generation hit = sym (s.state place inside).1 ∙ (ap generation_in hit ∙ omega arith)

  claimed-place : words.life place ≡ claimable generation → place_of (key_number z.tag place generation) ≡ place
  claimed-place hit = subst (λ (g : ℕ). place_of (key_number z.tag place g) ≡ place) (its-generation hit) (key_now z s.limits s.wide w.history place inside).1

  -- so it is one of the shape's
  generation-within : words.life place ≡ claimable generation → generation ≤ z.last_generation
  generation-within hit =
      let now : ℕ = (pool_after z w.history place).generation in
      let key = key_now z s.limits s.wide w.history place inside in
      let last = (key_parts z (key_number z.tag place now) key.0).last in
      subst (λ (n : ℕ). n ≤ z.last_generation) (key.2 ∙ its-generation hit) last

  module _ (lane : ℕ) where
    -- a claim that left this word keeps the rule, where the lane then has this under way
    abbrev Claimed : ℕ → Pending → Type 0
    Claimed left under = Keeps z (moment_of words w) (kinds.Claim generation) (Life place) left (Some (reclaim z lane place generation)) (with_under w.lanes lane under)

    -- a claim that succeeds keeps the rule
    abbrev ClaimKeeps : Type 0
    ClaimKeeps = Claimed (claim_gives z.last_generation generation (words.life place)) (claimed_under z lane place generation)

    -- what is under way is told by the two tests
    as-told : (left : ℕ) (last own : Bool) → eqb generation z.last_generation ≡ last → eqb (shard_of place) lane ≡ own
        → Claimed left (under_by place last own) → ClaimKeeps
    as-told left last own is_last is_own keeps =
        let under : claimed_under z lane place generation ≡ under_by place last own =
        ap (λ (b : Bool). under_by place b (eqb (shard_of place) lane)) is_last ∙ ap (under_by place last) is_own in
        subst (λ (n : ℕ). Claimed n (claimed_under z lane place generation)) keeps.changes (subst (Claimed left) (sym under) keeps)

    -- at the last generation, and below it at a place of the lane's own shard and of another
    claim-keeps : HasUnderWay z (moment_of words w) lane (Owes place generation) → words.life place ≡ claimable generation → ClaimKeeps
    claim-keeps owes hit = dite (ℕ_discrete generation z.last_generation)
        (λ same. as-told (word_with 2 0 generation) true (eqb (shard_of place) lane) (eq-eqb generation z.last_generation same) refl
        (claim-last-law z (moment_of words w) lane place generation s owes inside same hit))
        (λ less. let below = ne_eqb generation z.last_generation less in dite (ℕ_discrete (shard_of place) lane)
        (λ own. as-told (word_with 0 0 (generation + 1)) false true below (eq-eqb (shard_of place) lane own)
        (claim-own-law z (moment_of words w) lane place generation s owes inside less own hit))
        (λ apart. as-told (word_with 0 0 (generation + 1)) false false below (ne_eqb (shard_of place) lane apart)
        (claim-other-law z (moment_of words w) lane place generation s owes inside less apart hit)))

-- what a claim of this generation leaves, told by the word that it is made from
pub claim-given : (last generation word new : ℕ) → word ≡ claimable generation → (generation_in word ≤ last → new ≡ claim_gives last (generation_in word) word)
    → generation ≤ last → new ≡ claim_gives last generation (claimable generation)
claim-given last generation word new is gives within =
    let of : generation_in word ≡ generation = ap generation_in is ∙ omega arith in
    gives (subst (λ (n : ℕ). n ≤ last) (sym of) within) ∙ (ap (λ (n : ℕ). claim_gives last n word) of ∙ ap (claim_gives last generation) is)

-- all shares of a place that a lane reclaimed last are with it: the place is with the lane, or retired
reclaimed-all : (ends : Bool) (s : Spot) (last lane : ℕ) → last ≡ lane → HasAll last lane (cond ends (spot s.generation retired) (spot (s.generation + 1) (with lane))).phase
reclaimed-all true s last lane is = is
reclaimed-all false s last lane is = refl

module _ {S T : Type 0} (content : T → List ℕ) (room : T → ℕ) (spots : ℕ → CellSpot) (z : Shape) (words : Words) (w : World) (slots : Slots T)
    (point : IsPoint content room spots z words w slots) (me : Me S View) (place generation new : ℕ) (at : IsAt z w me.0) (inside : is_place z place ≡ true) where
  abbrev r : LaneRecord
  r = the_lane me.0

  abbrev word : ℕ
  word = words.life place

  -- the seat's CLAIM
  abbrev MakesClaim : ℕ → Type 0
  MakesClaim left = Makes content room spots z words w slots place me left (Claims z place generation me)

  -- a key of the place
  module _ (key : ℕ) (here : place_of key ≡ place) where
    abbrev history : List Act
    history = w.history ++ acts.Reclaim r.lane key ∷ []

    -- what the lane has after it reclaimed the key, as its seat saw it
    has-place : (v : View) → v.seen ≡ history → (the_lane v).lane ≡ r.lane → HasPlace z v place
    has-place v saw mine =
        let act : Act = acts.Reclaim r.lane key in
        let before : Spot = pool_after z w.history place in
        let last : reclaimer history place ≡ r.lane =
        ap (λ (f : ℕ → ℕ). f place) (reclaimers-behind (λ _. 0) w.history act) ∙ at-here (reclaimer w.history) (place_of key) r.lane place (sym here) in
        let now : pool_after z history place ≡ changed z.last_generation act before =
        ap (λ (P : Pool). P place) (pool-snoc z fresh w.history act) ∙ after-here z (pool_after z w.history) act place (eq-eqb place (place_of key) (sym here)) in
        subst (λ (h : List Act). HasAll (reclaimer h place) (the_lane v).lane (pool_after z h place).phase) (sym saw)
        (subst (λ (lane : ℕ). HasAll (reclaimer history place) lane (pool_after z history place).phase) (sym mine)
        (subst (λ (s : Spot). HasAll (reclaimer history place) r.lane s.phase) (sym now)
        (reclaimed-all (eqb before.generation z.last_generation) before (reclaimer history place) r.lane last)))

    -- a reclaim changes no room
    room-stays : (v : View) → v.seen ≡ history → v.rooms ≡ w.kept ++ 0 ∷ [] → room_of v.seen v.rooms place ≡ room_of w.history w.kept place
    room-stays v saw rooms = ap (λ (h : List Act). room_of h v.rooms place) saw
        ∙ (ap (λ (k : List ℕ). room_of history k place) rooms
        ∙ ap (λ (f : ℕ → ℕ). f place) (rooms-behind (λ _. 0) w.history w.kept (acts.Reclaim r.lane key) 0 point.paired))

    -- the cell of a place whose key may be reclaimed has the content with which it was published
    published-so : Allowed z (pool_after z w.history) (acts.Reclaim r.lane key) → (v : View) → v.seen ≡ history → WasPublished v.seen key (w.stock.stored place).content
    published-so ok v saw =
        let kept = subst (λ (p : ℕ). kept_in (pool_after z w.history (place_of key)).phase ≡ Some (w.stock.stored p).content) here
        (marked-content (w.stock.stored (place_of key)) (room_of w.history w.kept (place_of key)) (pool_after z w.history (place_of key)).phase ok.1 (point.shared.contents (place_of key))) in
        let now = current-key z (pool_after z w.history) key ok.0 in
        let was = was-published z key now.0 (w.stock.stored place).content w.history point.rule.legal (kept, now.1) in
        (was.0, (later-law w.history v.seen (acts.Reclaim r.lane key ∷ [], sym saw)).0 was.0 key (w.stock.stored place).content was.1)

  hits : HasUnderWay z (moment_of words w) r.lane (Owes place generation) → word ≡ claimable generation → MakesClaim (claim_gives z.last_generation generation word)
  hits owes hit =
      let key : ℕ = key_number z.tag place generation in
      let c : Stored = w.stock.stored place in
      let keeps = claim-keeps z words w point.rule place generation inside r.lane owes hit in
      let here : place_of key ≡ place = claimed-place z words w point.rule place generation inside hit in
      let law = subst (λ (p : ℕ). ((w.stock.stored p).room ≡ room_of w.history w.kept p)
      × ((number : ℕ) → number < (callers z) → (l : ℕ) → l < (callers z) → w.stock.status l p number ≡ Untouched)
      × Shared content room spots z (w.history ++ acts.Reclaim r.lane key ∷ []) (w.kept ++ 0 ∷ []) slots (restocked w.stock r.lane p (w.stock.stored p))) here
      (reclaim-share-law content room spots z w.history w.kept slots w.stock r.lane key point.paired point.rule.legal point.shared at.record_is.inside keeps.allowed.1) in
      record {
        kind = kinds.Claim generation;
        act = Some (reclaim z r.lane place generation);
        under = claimed_under z r.lane place generation;
        stock = restocked w.stock r.lane place c;
        cells = (place, c) ∷ r.cells;
        keeps = keeps;
        shared = law.2;
        by = refl;
        owned = tt;
        deeds_are = at.record_is.deeds;
        cells_are = knows-more r.cells w.stock.knows r.lane place c at.record_is.cells;
        statuses = λ l other p k. refl;
        knows = λ l other p. others-know w.stock.knows r.lane place c l other p;
        told = λ v saw steps. (
          λ found. (
            c,
            has-place key here v.0 saw.0 (ap (λ (lanes : List LaneRecord). (head_record lanes).lane) steps.goes.lanes),
            law.0 ∙ sym (room-stays key here v.0 saw.0 saw.1),
            λ number below. at.record_is.deeds place number ∙ law.1 number below r.lane at.record_is.inside,
            steps,
            published-so key here keeps.allowed.1 v.0 saw.0,
          ),
          λ other. absurd (other hit),
        );
      }

  misses : HasUnderWay z (moment_of words w) r.lane (Owes place generation) → word ≢ claimable generation → MakesClaim word
  misses owes miss = quietly content room spots z words w slots point at record {
    kind = kinds.Claim generation;
    act = None;
    under = Nothing;
    keeps = claim-fails-law z (moment_of words w) r.lane place generation point.rule owes inside miss;
    by = tt;
    quiet = tt;
    told = λ v steps. (λ found. absurd (miss found), λ other. steps);
  }

  pub claim-makes : r.under ≡ Owes place generation → (generation ≤ z.last_generation → new ≡ claim_gives z.last_generation generation (claimable generation))
      → MakesClaim (either (eqb word (claimable generation)) new word)
  claim-makes under gives =
      let owes : HasUnderWay z (moment_of words w) r.lane (Owes place generation) = (at.record_is.inside, sym at.record_is.under ∙ under) in
      dite (ℕ_discrete word (claimable generation))
      (λ hit.
      let left : either (eqb word (claimable generation)) new word ≡ claim_gives z.last_generation generation word =
      ap (λ (b : Bool). either b new word) (eq-eqb word (claimable generation) hit)
      ∙ (gives (generation-within z words w point.rule place generation inside hit) ∙ ap (claim_gives z.last_generation generation) (sym hit)) in
      subst MakesClaim (sym left) (hits owes hit))
      (λ miss. subst (λ (b : Bool). MakesClaim (either b new word)) (sym (ne_eqb word (claimable generation) miss)) (misses owes miss))
