-- The steps of a call, and the acts that they make.
use Rattle.std.specs.Prelude.{◌≡◌, ◌==◌, ◌&&◌, ℕ, ◌+◌, Bool, false, not, nat_lt, List, [], ◌∷◌, ◌++◌, Option, Some, None, is_some, if◌then◌else◌}
use Rattle.keybits.specs.declared.shape.Shape.{Shape}
use Rattle.keybits.specs.declared.step.Kind.{Kind}
use Rattle.keybits.specs.declared.step.Kind.TheVariants as kinds
use Rattle.keybits.specs.declared.step.Word.{Word}
use Rattle.keybits.specs.declared.step.Word.TheVariants.{Life, Link, Stack}
use Rattle.keybits.specs.declared.step.Step.{Step}
use Rattle.keybits.specs.Places.{shard_of}
use Rattle.keybits.specs.Keys.{key_number, place_of, is_key}
use Rattle.keybits.specs.Words.{state_in, generation_in, claimable}
pub use Rattle.keybits.specs.Words.{is_hit, owes_claim}
use Rattle.keybits.specs.Links.{link_to, linked_place, Leads}
use Rattle.seqpool.specs.declared.act.Act.{Act}
use Rattle.seqpool.specs.declared.act.Act.TheVariants as acts

-- what a lane calls: publish with this content, and a reference where it is a downgrade; get; release; clear;
-- or create, with this list of free places of its own, this taken chain and this many opened pages
pub data Call : Type 0 where
  Publishing : (key : ℕ) (content : List ℕ) (with_ref : Bool) → Call
  Getting : (key : ℕ) → Call
  Releasing : (key : ℕ) → Call
  Clearing : (key : ℕ) → Call
  Creating : (own : List ℕ) (chain : List ℕ) (opened : ℕ) → Call

-- the caller: the shape of its pool, its lane, and for each shard the word that it last pushed on its stack there
pub record Caller : Type 0 where
  pub shape : Shape
  pub lane : ℕ
  pub pushed : ℕ → ℕ

-- what a step is to do to which word
pub record Aim : Type 0 where
  pub kind : Kind
  pub word : Word

-- a kind of step on a word
abbrev pub aim : Kind → Word → Aim
aim kind word = record { kind = kind; word = word }

-- a claim that finds this word succeeds
abbrev pub is_claimed : ℕ → ℕ → Bool
is_claimed generation word = word == claimable generation

-- END: one LEAVE; where it owes one, a CLAIM; where that succeeded below the last generation at a place of another shard,
-- LINK and PUSH, and where that PUSH failed LINK and PUSH once more. The step that comes next after these
abbrev pub end_next : Caller → ℕ → List Step → Option Aim
end_next c place [] = Some (aim kinds.Leave (Life place))
end_next c place (leave ∷ []) =
    if owes_claim leave.before then Some (aim (kinds.Claim (generation_in leave.before)) (Life place)) else None
end_next c place (leave ∷ claim ∷ []) =
    if is_claimed (generation_in leave.before) claim.before && not (generation_in leave.before == c.shape.last_generation)
    && not (shard_of place == c.lane)
    then Some (aim (kinds.Link (c.pushed (shard_of place))) (Link place)) else None
end_next c place (leave ∷ claim ∷ link ∷ []) =
    Some (aim (kinds.Push (c.pushed (shard_of place)) (link_to place)) (Stack (shard_of place) c.lane))
end_next c place (leave ∷ claim ∷ link ∷ push ∷ []) =
    if push.before == c.pushed (shard_of place) then None else Some (aim (kinds.Link 0) (Link place))
end_next c place (leave ∷ claim ∷ link ∷ push ∷ again ∷ []) =
    Some (aim (kinds.Push 0 (link_to place)) (Stack (shard_of place) c.lane))
end_next c place (leave ∷ claim ∷ link ∷ push ∷ again ∷ last ∷ more) = None

-- a clear that hit, after its ENTER: MARK END
abbrev pub mark_next : Caller → ℕ → List Step → Option Aim
mark_next c place [] = Some (aim kinds.Mark (Life place))
mark_next c place (mark ∷ more) = end_next c place more

-- after a TAKE that found this word: FOLLOW of the first place of the chain
abbrev pub follow_next : ℕ → ℕ → List Step → Option Aim
follow_next shard word [] = Some (aim kinds.Follow (Link (linked_place shard word)))
follow_next shard word (follow ∷ more) = None

-- the lane after this one, past the caller's own
abbrev pub next_lane : ℕ → ℕ → ℕ
next_lane own lane = if lane + 1 == own then lane + 2 else lane + 1

-- the lane with the lowest number, but for the caller's own
abbrev pub first_lane : ℕ → ℕ
first_lane own = if own == 0 then 1 else 0

-- one TAKE of each stack of the lane's shard, by rising lane from this one on, up to the first that isn't 0
abbrev pub take_next : Caller → ℕ → List Step → Option Aim
take_next c lane [] = if nat_lt lane c.shape.lanes then Some (aim kinds.Take (Stack c.lane lane)) else None
take_next c lane (take ∷ more) =
    if take.before == 0 then take_next c (next_lane c.lane lane) more else follow_next c.lane take.before more

-- the step that a call makes next, after these; none where it has made its last
abbrev pub next_step : Caller → Call → List Step → Option Aim
next_step c (Publishing key content with_ref) [] = Some (aim (kinds.Publish with_ref) (Life (place_of key)))
next_step c (Publishing key content with_ref) (publish ∷ more) = None
next_step c (Getting key) [] = if is_key c.shape key then Some (aim kinds.Enter (Life (place_of key))) else None
next_step c (Getting key) (enter ∷ more) = if is_hit key enter.before then None else end_next c (place_of key) more
next_step c (Releasing key) steps = end_next c (place_of key) steps
next_step c (Clearing key) [] = if is_key c.shape key then Some (aim kinds.Enter (Life (place_of key))) else None
next_step c (Clearing key) (enter ∷ more) =
    if is_hit key enter.before then mark_next c (place_of key) more else end_next c (place_of key) more
next_step c (Creating (place ∷ own) chain opened) steps = None
next_step c (Creating [] (place ∷ chain) opened) [] = Some (aim kinds.Follow (Link place))
next_step c (Creating [] (place ∷ chain) opened) (follow ∷ more) = None
next_step c (Creating [] [] opened) steps = if opened == 0 then None else take_next c (first_lane c.lane) steps

-- these steps, one after another, are those that the call makes after the ones made so far
abbrev pub AreSteps : Caller → Call → List Step → List Step → Type 0
AreSteps c call made [] = Unit {0}
AreSteps c call made (step ∷ more) =
    (next_step c call made ≡ Some (aim step.kind step.word)) × AreSteps c call (made ++ step ∷ []) more

-- the key of a call, or 0
abbrev pub key_in : Call → ℕ
key_in (Publishing key content with_ref) = key
key_in (Getting key) = key
key_in (Releasing key) = key
key_in (Clearing key) = key
key_in (Creating own chain opened) = 0

-- the place that a lifecycle or link word is for; 0 for a stack word
abbrev pub place_in : Word → ℕ
place_in (Life place) = place
place_in (Link place) = place
place_in (Stack shard lane) = 0

-- the act of an ENTER that found this word: Get with the content or None; Clear with false where it missed
abbrev pub EnterMakes : Caller → Call → ℕ → Option Act → Type 0
EnterMakes c (Getting key) word act =
    (reply : Option (List ℕ)) × (is_some reply ≡ is_hit key word) × (act ≡ Some (acts.Get c.lane key reply))
EnterMakes c (Clearing key) word act = act ≡ (if is_hit key word then None else Some (acts.Clear c.lane key false))
EnterMakes c (Publishing key content with_ref) word act = ⊥
EnterMakes c (Releasing key) word act = ⊥
EnterMakes c (Creating own chain opened) word act = ⊥

-- the act of a LEAVE: Release in a release, and none in another call
abbrev pub LeaveMakes : Caller → Call → Option Act → Type 0
LeaveMakes c (Releasing key) act = act ≡ Some (acts.Release c.lane key)
LeaveMakes c (Getting key) act = act ≡ None
LeaveMakes c (Clearing key) act = act ≡ None
LeaveMakes c (Publishing key content with_ref) act = ⊥
LeaveMakes c (Creating own chain opened) act = ⊥

-- the act of a PUBLISH: Publish with the content of the call
abbrev pub PublishMakes : Caller → Call → Option Act → Type 0
PublishMakes c (Publishing key content with_ref) act = act ≡ Some (acts.Publish c.lane key content with_ref)
PublishMakes c (Getting key) act = ⊥
PublishMakes c (Releasing key) act = ⊥
PublishMakes c (Clearing key) act = ⊥
PublishMakes c (Creating own chain opened) act = ⊥

-- the act of a TAKE that found this word: Collect of all places of the chain, as the link words lead; none at 0
abbrev pub TakeMakes : Caller → (ℕ → ℕ) → ℕ → Option Act → Type 0
TakeMakes c links word act =
    ((word ≡ 0) → act ≡ None)
    × ((word ≡ 0 → ⊥) → (places : List ℕ) × Leads links c.lane word places × (act ≡ Some (acts.Collect c.lane places)))

-- the act of a MARK: Clear, with true where the mark is new
abbrev pub MarkMakes : Caller → Call → ℕ → Option Act → Type 0
MarkMakes c (Clearing key) word act = act ≡ Some (acts.Clear c.lane key (state_in word == 1))
MarkMakes c (Getting key) word act = ⊥
MarkMakes c (Releasing key) word act = ⊥
MarkMakes c (Publishing key content with_ref) word act = ⊥
MarkMakes c (Creating own chain opened) word act = ⊥

-- the act that a step of a call makes, where the link words are these
abbrev pub KindMakes : Kind → Caller → Call → (ℕ → ℕ) → Word → ℕ → Option Act → Type 0
KindMakes kinds.Enter c call links word before act = EnterMakes c call before act
KindMakes kinds.Leave c call links word before act = LeaveMakes c call act
KindMakes (kinds.Publish with_ref) c call links word before act = PublishMakes c call act
KindMakes kinds.Mark c call links word before act = MarkMakes c call before act
-- a claim that succeeded makes Reclaim, of the generation that it was for
KindMakes (kinds.Claim generation) c call links word before act =
    act ≡ (if is_claimed generation before then Some (acts.Reclaim c.lane (key_number c.shape.tag (place_in word) generation)) else None)
KindMakes (kinds.Link expected) c call links word before act = act ≡ None
-- a PUSH that succeeded makes Home, of the place that the call returns
KindMakes (kinds.Push expected link) c call links word before act =
    act ≡ (if before == expected then Some (acts.Home c.lane (place_of (key_in call))) else None)
KindMakes kinds.Take c call links word before act = TakeMakes c links before act
KindMakes kinds.Follow c call links word before act = act ≡ None

-- this step of a call makes this act, or none
abbrev pub Makes : Caller → Call → (ℕ → ℕ) → Step → Option Act → Type 0
Makes c call links step act = KindMakes step.kind c call links step.word step.before act
