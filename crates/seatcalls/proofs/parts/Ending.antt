-- What follows the LEAVE of a call, up to its last step.
use Rattle.std.proofs.Common.{◌≡◌, ◌≢◌, ◌==◌, ◌&&◌, not, ℕ, Bool, true, false, cond, List, [], ◌∷◌, ◌++◌, append_assoc, Option, Some, None, refl, sym, ap, ◌∙◌, arith, append-nil, eq-eqb, ne_eqb}
use Rattle.atomic_table.specs.Table.{Me}
use Rattle.keybits.specs.declared.shape.Shape.{Shape}
use Rattle.keybits.specs.declared.step.Kind.TheVariants.{Claim, Link}
use Rattle.keybits.specs.declared.step.Step.{Step}
use Rattle.keybits.specs.declared.step.Word.TheVariants as words
use Rattle.keybits.specs.Places.{shard_of}
use Rattle.keybits.specs.Links.{link_to}
use Rattle.keybits.specs.Words.{generation_in, claimable}
use Rattle.keybits.specs.Steps.{claim_gives}
use Rattle.seqpool.specs.declared.act.Act.{Act}
use Rattle.seqpool.specs.declared.act.Act.TheVariants as acts
use Rattle.poolsteps.specs.Shares.{room_of}
use Rattle.steplaws.specs.declared.pending.Pending.TheVariants.{Nothing, Owes, Returns}
use Rattle.steplaws.specs.Calls.{Caller, Aim, aim, owes_claim, is_claimed, end_next}
use Rattle.steplaws.specs.StepLaws.{owed_after, reclaim}
use Rattle.poolsteps.specs.declared.view.LaneRecord.{LaneRecord}
use Rattle.poolsteps.specs.declared.view.View.{View}
use Rattle.poolsteps.specs.Views.{head_record, the_lane, IsOne}
use Rattle.poolsteps.specs.Told.{LeftAlone, HasPlace, claimed_under, Claims}
use Rattle.poolsteps.specs.ViewLaws.{SharesLaw}
use Rattle.poolsteps.proofs.OwnShares.{may-touch}
use Rattle.poolsteps.proofs.HandSteps.{under-after}
use Rattle.seatcalls.specs.Carried.{Carries}
use Rattle.seatcalls.specs.Called.{caller_of, IsUnmoved, Did, IsLawful, Tails, Ends, TailActs, EndsWithActs}
use Rattle.seatcalls.specs.declared.at.Reclaimed.{Reclaimed}
use Rattle.seatcalls.specs.declared.at.Reclaimed.TheVariants.{Own, Returned, Retired}
use Rattle.seatcalls.proofs.parts.Going.{none-acted}
use Rattle.seatcalls.proofs.parts.Doing.{unmoved-now, life-next, cell-next, did-step, same-caller, goes-first, goes-last, goes-none, goes-most}

-- moves of a place's shares leave the caller, and the room of a place that is with the lane
module _ {S : Type 0} {z : Shape} {place n : ℕ} {before after : Me S View} (carries : Carries z place n before after) where
  pub caller-still : caller_of z after.0 ≡ caller_of z before.0
  caller-still = same-caller z before.0 after.0 carries.elsewhere.lane carries.elsewhere.pushed

  pub room-still : SharesLaw → (p : ℕ) → HasPlace z before.0 p → room_of after.0.seen after.0.rooms p ≡ room_of before.0.seen before.0.rooms p
  room-still law p has = (law z before.0 after.0 (the_lane after.0) carries.goes carries.elsewhere.lane p 0 (may-touch z before.0 p 0 has)).2

-- ---- the next step

no-middle : (a b : Bool) → a && not true && b ≡ false
no-middle true b = refl
no-middle false b = refl

no-last : (a b : Bool) → a && b && not true ≡ false
no-last true true = refl
no-last true false = refl
no-last false b = refl

module _ (c : Caller) (place : ℕ) (leave : Step) where
  -- after the LEAVE: a CLAIM where it owes one
  abbrev next_claim : Bool → ℕ → Option Aim
  next_claim owes found = cond owes (Some (aim (Claim (generation_in found)) (words.Life place))) None

  module _ {found : ℕ} (is : leave.before ≡ found) where
    claims-next : owes_claim found ≡ true → end_next c place (leave ∷ []) ≡ Some (aim (Claim (generation_in found)) (words.Life place))
    claims-next owes = ap (λ (w : ℕ). next_claim (owes_claim w) w) is ∙ ap (λ (b : Bool). next_claim b found) owes

    pub ends-at-leave : owes_claim found ≡ false → end_next c place (leave ∷ []) ≡ None
    ends-at-leave none = ap (λ (w : ℕ). next_claim (owes_claim w) w) is ∙ ap (λ (b : Bool). next_claim b found) none

  module _ (claim : Step) where
    -- after the CLAIM: a LINK where it succeeded, below the last generation, at a place of another shard
    abbrev next_link : Bool → Option Aim
    next_link returns = cond returns (Some (aim (Link (c.pushed (shard_of place))) (words.Link place))) None

    abbrev claimed : Bool
    claimed = is_claimed (generation_in leave.before) claim.before

    abbrev at_last : Bool
    at_last = generation_in leave.before == c.shape.last_generation

    abbrev at_own : Bool
    at_own = shard_of place == c.lane

    pub ends-at-claim : claimed ≡ false → end_next c place (leave ∷ claim ∷ []) ≡ None
    ends-at-claim failed = ap (λ (b : Bool). next_link (b && not at_last && not at_own)) failed

    pub ends-at-last : generation_in leave.before ≡ c.shape.last_generation → end_next c place (leave ∷ claim ∷ []) ≡ None
    ends-at-last last = ap (λ (b : Bool). next_link (claimed && not b && not at_own)) (eq-eqb _ _ last) ∙ ap next_link (no-middle claimed (not at_own))

    pub ends-at-own : shard_of place ≡ c.lane → end_next c place (leave ∷ claim ∷ []) ≡ None
    ends-at-own own = ap (λ (b : Bool). next_link (claimed && not at_last && not b)) (eq-eqb _ _ own) ∙ ap next_link (no-last claimed (not at_last))

-- whether a claim is owed, by the generation whose claim is
cond-none : (b : Bool) (n : ℕ) → cond b (Some n) None ≡ None → b ≡ false
cond-none true n is = absurd (cc is)
cond-none false n is = refl

cond-some : (b : Bool) (n m : ℕ) → cond b (Some n) None ≡ Some m → (b ≡ true) × (m ≡ n)
cond-some true n m is = (refl, cc is)
cond-some false n m is = absurd (cc is)

module _ (found : ℕ) {owed : Option ℕ} (is : owed ≡ cond (owes_claim found) (Some (generation_in found)) None) where
  pub owes-none : owed ≡ None → owes_claim found ≡ false
  owes-none none = cond-none (owes_claim found) (generation_in found) (sym is ∙ none)

  pub owes-some : (generation : ℕ) → owed ≡ Some generation → (owes_claim found ≡ true) × (generation ≡ generation_in found)
  owes-some generation some = cond-some (owes_claim found) (generation_in found) generation (sym is ∙ some)

-- ---- what is under way: nothing after a LEAVE that owes no claim, nor after a CLAIM that succeeded at the last generation or at a place of the lane's own shard

none-owed : (place found : ℕ) → owes_claim found ≡ false → owed_after place found ≡ Nothing
none-owed place found none = ap (λ (b : Bool). cond b (Owes place (generation_in found)) Nothing) none

either-nothing : (b : Bool) → cond b Nothing Nothing ≡ Nothing
either-nothing true = refl
either-nothing false = refl

module _ (z : Shape) (lane place generation : ℕ) where
  pub none-at-last : generation ≡ z.last_generation → claimed_under z lane place generation ≡ Nothing
  none-at-last last = ap (λ (b : Bool). cond b Nothing (cond (shard_of place == lane) Nothing (Returns place None false))) (eq-eqb _ _ last)

  pub none-at-own : shard_of place ≡ lane → claimed_under z lane place generation ≡ Nothing
  none-at-own own =
      ap (λ (b : Bool). cond (generation == z.last_generation) Nothing (cond b Nothing (Returns place None false))) (eq-eqb _ _ own)
      ∙ either-nothing (generation == z.last_generation)

-- ---- what follows the LEAVE

-- the act of a CLAIM
abbrev pub made_at : Shape → ℕ → ℕ → ℕ → Bool → Option Act
made_at z lane place generation succeeds = cond succeeds (Some (reclaim z lane place generation)) None

pub did-nothing : {S : Type 0} {z : Shape} {place : ℕ} {a : Me S View} → IsOne a.0 → IsLawful z a.0 → Did z place [] 0 0 a a
did-nothing one seen = record {
  acted = none-acted one seen;
  held = refl;
  stepped = omega arith;
  looked = omega arith;
  chain = refl;
  deeds = λ p number other. refl;
  cells = λ p other. refl;
}

module _ {S : Type 0} {z : Shape} {place found : ℕ} {a : Me S View} where
  -- nothing, where no claim is owed
  pub ends-none : IsOne a.0 → IsLawful z a.0 → (the_lane a.0).under ≡ owed_after place found → owes_claim found ≡ false → Ends z place found a a
  ends-none one seen under none leave is = goes-most
      (goes-none (leave ∷ []) (did-nothing one seen) (ends-at-leave (caller_of z a.0) place leave is none) (under ∙ none-owed place found none)) (omega arith) (omega arith)

  module _ {generation word : ℕ} {b : Me S View} (owes : owes_claim found ≡ true) (of : generation ≡ generation_in found) (claims : Claims z place generation a word b) where
    pub claims-so : (leave : Step) → leave.before ≡ found → end_next (caller_of z a.0) place (leave ∷ []) ≡ Some (aim (Claim generation) (words.Life place))
    claims-so leave is = claims-next (caller_of z a.0) place leave is owes ∙ ap (λ (g : ℕ). Some (aim (Claim g) (words.Life place))) (sym of)

    -- the CLAIM alone, where it fails
    pub ends-lost : word ≢ claimable generation → Ends z place found a b
    ends-lost other leave is =
        let steps = claims.1 other in
        let claim : Step = record { kind = Claim generation; word = words.Life place; before = word; after = word } in
        let fails : is_claimed generation word ≡ false = ne_eqb word (claimable generation) other in
        goes-most
        (goes-last (leave ∷ []) claim None (did-step steps (life-next (the_lane a.0) place None Nothing)) (claims-so leave is) steps.changes
        (λ call at. ((λ n. n), sym (ap (made_at z (the_lane a.0).lane place generation) fails)))
        (ends-at-claim (caller_of z a.0) place leave claim (ap (λ (g : ℕ). is_claimed g word) (ap generation_in is ∙ sym of) ∙ fails))
        (under-after steps))
        (omega arith) (omega arith)

    -- the CLAIM, where it succeeds, and what follows it
    pub ends-won : {c : Me S View} → word ≡ claimable generation → Tails z place generation b c → Ends z place found a c
    ends-won same tails leave is =
        let told = claims.0 same in
        let steps = told.4 in
        let claim : Step = record { kind = Claim generation; word = words.Life place; before = word; after = claim_gives z.last_generation generation word } in
        let succeeds : is_claimed generation word ≡ true = eq-eqb word (claimable generation) same in
        let now = ap head_record steps.goes.lanes in
        let act : Option Act = Some (reclaim z (the_lane a.0).lane place generation) in
        goes-first (leave ∷ []) (same-caller z a.0 b.0 (ap (λ (r : LaneRecord). r.lane) now) (ap (λ (r : LaneRecord). r.pushed) now)) claim act
        (did-step steps (cell-next (the_lane a.0) place act (claimed_under z (the_lane a.0).lane place generation) told.0)) (claims-so leave is) steps.changes
        (λ call at. ((λ n. n), sym (ap (made_at z (the_lane a.0).lane place generation) succeeds)))
        (tails leave claim (ap generation_in is ∙ sym of) succeeds)

-- no act, where the lane moved and pushed nothing
none-acts : (T : Type 0) (z : Shape) (place : ℕ) (a b : View) → (the_lane b).mine ≡ (the_lane a).mine ++ [] → (the_lane b).pushed ≡ (the_lane a).pushed
    → IsUnmoved place (the_lane a) (the_lane b) → EndsWithActs {T = T} z place [] a b None
none-acts T z place a b mine pushed unmoved = ((0, mine, tt), pushed, unmoved)

-- none where no claim is owed
pub still-acts : (T : Type 0) (z : Shape) (place : ℕ) (a : View) → EndsWithActs {T = T} z place [] a a None
still-acts T z place a = none-acts T z place a a (sym (append-nil (the_lane a).mine)) refl (record { deeds = λ number. refl; cell = refl })

-- and none by a claim that failed
pub lost-acts : (T : Type 0) {S : Type 0} {z : Shape} {place generation word : ℕ} {a b : Me S View} → Claims z place generation a word b → word ≢ claimable generation
    → EndsWithActs {T = T} z place [] a.0 b.0 None
lost-acts T {z = z} {place = place} {a = a} {b = b} claims other =
    let now = ap head_record (claims.1 other).goes.lanes in
    none-acts T z place a.0 b.0 (ap (λ (r : LaneRecord). r.mine) now) (ap (λ (r : LaneRecord). r.pushed) now) (unmoved-now place (the_lane a.0) (the_lane b.0) None Nothing now)

-- the acts of a claim that succeeded, and those behind it
pub won-acts : {T : Type 0} (z : Shape) (place generation : ℕ) (a b c : View) (r : LaneRecord) (reclaimed : Reclaimed T) → b.lanes ≡ r ∷ []
    → r.lane ≡ (the_lane a).lane → r.mine ≡ (the_lane a).mine ++ reclaim z (the_lane a).lane place generation ∷ [] → r.pushed ≡ (the_lane a).pushed
    → TailActs z place generation b c reclaimed → LeftAlone z (the_lane a) place → EndsWithActs z place [] a c (Some reclaimed)
won-acts z place generation a b c r (Own whole) now lane mine pushed tail alone = (
  (generation, tail.1 ∙ (ap (λ (lanes : List LaneRecord). (head_record lanes).mine) now ∙ mine), tail.0),
  tail.2 ∙ (ap (λ (lanes : List LaneRecord). (head_record lanes).pushed) now ∙ pushed),
  alone,
)
won-acts z place generation a b c r Retired now lane mine pushed tail alone = (
  (generation, tail.1 ∙ (ap (λ (lanes : List LaneRecord). (head_record lanes).mine) now ∙ mine), tail.0),
  tail.2 ∙ (ap (λ (lanes : List LaneRecord). (head_record lanes).pushed) now ∙ pushed),
  alone,
)
won-acts z place generation a b c r Returned now lane mine pushed tail alone =
    let of : (the_lane b).lane ≡ (the_lane a).lane = ap (λ (lanes : List LaneRecord). (head_record lanes).lane) now ∙ lane in
    let first : (the_lane b).mine ≡ (the_lane a).mine ++ reclaim z (the_lane a).lane place generation ∷ [] = ap (λ (lanes : List LaneRecord). (head_record lanes).mine) now ∙ mine in (
      (
        generation,
        tail.1.0 ∙ (ap (λ (acts_so : List Act). acts_so ++ acts.Home (the_lane b).lane place ∷ []) first
            ∙ (append_assoc (the_lane a).mine (reclaim z (the_lane a).lane place generation ∷ []) (acts.Home (the_lane b).lane place ∷ [])
            ∙ ap (λ (l : ℕ). (the_lane a).mine ++ reclaim z (the_lane a).lane place generation ∷ acts.Home l place ∷ []) of)),
        tail.0,
      ),
      tail.1.1 ∙ ap (λ (pushes : List (ℕ × ℕ)). (shard_of place, link_to place) ∷ pushes) (ap (λ (lanes : List LaneRecord). (head_record lanes).pushed) now ∙ pushed),
      alone,
    )
