-- The rooms behind a history in which no key of the place is published.
use Rattle.std.proofs.Common.{◌≡◌, ◌≢◌, ℕ, suc, cond, List, [], ◌∷◌, length, refl, ap, ◌∙◌, sym, arith, ne_eqb}
use Rattle.keybits.specs.Keys.{place_of}
use Rattle.seqpool.specs.declared.act.Act.{Act}
use Rattle.seqpool.specs.declared.act.Act.TheVariants as acts
use Rattle.seqpool.specs.Histories.{PublishedAt}
use Rattle.poolsteps.specs.Shares.{room_after, rooms_after}
use Rattle.poolsteps.proofs.shares.Rooms.{rooms-append}
use Rattle.shardpool.proofs.laws.room_law.Goals as goal

-- no key of the place is published in the history
abbrev NonePublished : List Act → ℕ → Type 0
NonePublished history place = (i key : ℕ) (content : List ℕ) → PublishedAt history i key content → place_of key ≢ place

room-same : (act : Act) (more : List Act) (room place : ℕ) (rooms : ℕ → ℕ) → NonePublished (act ∷ more) place → room_after act room rooms place ≡ rooms place
room-same (acts.Publish lane key content with_ref) more room place rooms none =
    ap (λ b. cond b room (rooms place)) (ne_eqb place (place_of key) (λ same. none 0 key content (lane, with_ref, refl) (sym same)))
room-same (acts.Get lane key reply) more room place rooms none = refl
room-same (acts.Release lane key) more room place rooms none = refl
room-same (acts.Clear lane key reply) more room place rooms none = refl
room-same (acts.Reclaim lane key) more room place rooms none = refl
room-same (acts.Home lane at) more room place rooms none = refl
room-same (acts.Collect lane places) more room place rooms none = refl

rooms-same : (more : List Act) (kept : List ℕ) (place : ℕ) (rooms : ℕ → ℕ) → length kept ≡ length more → NonePublished more place → rooms_after rooms more kept place ≡ rooms place
rooms-same [] kept place rooms same none = refl
rooms-same (act ∷ more) [] place rooms same none = refl
rooms-same (act ∷ more) (room ∷ kept) place rooms same none =
    rooms-same more kept place (room_after act room rooms) (omega (arith, same)) (λ i key content at. none (suc i) key content at) ∙ room-same act more room place rooms none

pub returns : goal.returns
returns c history more rooms kept place paired beside none =
    ap (λ (r : ℕ → ℕ). r place) (rooms-append (λ _. 0) history more rooms kept paired) ∙ rooms-same more kept place (rooms_after (λ _. 0) history rooms) beside none
