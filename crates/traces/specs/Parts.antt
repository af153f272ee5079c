-- Where each place is, and what holds between any two turns.
use Rattle.std.specs.Prelude.{◌≡◌, ◌==◌, ◌&&◌, ℕ, ◌+◌, ◌-◌, ◌<◌, Bool, true, false, not, nat_lt, List, [], ◌∷◌, ◌++◌, Option, Some, None, if◌then◌else◌}
use Rattle.keybits.specs.declared.shape.Shape.{Shape}
use Rattle.keybits.specs.declared.step.Step.{Step}
use Rattle.keybits.specs.Places.{shard_of, page_of}
use Rattle.keybits.specs.Shapes.{is_place}
use Rattle.keybits.specs.Keys.{place_of}
use Rattle.keybits.specs.Words.{generation_in}
use Rattle.seqpool.specs.Pool.{Phase, with, published, home, retired, is_published, is_marked, pool_after, references_in}
use Rattle.steplaws.specs.Calls.{Call, Publishing, Getting, Releasing, Clearing, Creating, is_hit, owes_claim, is_claimed}
use Rattle.keybits.specs.Counts.{sum_below, times}
use Rattle.steplaws.specs.declared.pending.Pending.{Pending}
use Rattle.steplaws.specs.declared.pending.Pending.TheVariants.{Nothing, Undo, Owes, Returns}
use Rattle.steplaws.specs.Facts.{Lanes, Moment, moment, is_home, Rule}
use Rattle.traces.specs.declared.trace.Turn.{Turn}
use Rattle.traces.specs.Registers.{fillings}
use Rattle.traces.specs.Books.{Book, taken, reclaimed, returned, call_under_way}
use Rattle.traces.specs.Lawful.{World, world_after, is_finished}

-- 1 where a test holds, else 0
abbrev pub count_if : Bool → ℕ
count_if b = if b then 1 else 0

-- 1 where the place is of a page that isn't opened, else 0
abbrev pub unopened : World → ℕ → ℕ
unopened w place = count_if (not (nat_lt (page_of place) (w.books (shard_of place)).opened))

-- how often the place is on a lane's list: its own places, then the chain, then what the TAKEs under way found
abbrev pub listed : ℕ → Book → ℕ
listed place b = times place b.own + times place b.chain + times place (taken b.acts)

-- how often the place is being cleared: from a claim that succeeded below the last generation until the list or the return
abbrev pub under_clear : Shape → ℕ → Book → ℕ
under_clear z place b = times place (reclaimed z.last_generation b.acts) - times place (returned b.acts)

-- the place is retired
abbrev pub is_retired : Phase → Bool
is_retired (with lane) = false
is_retired (published content references mark) = false
is_retired home = false
is_retired retired = true

-- how many parts a place is in: an unopened page, one lane's list, home, filling, being cleared, the map, retired
abbrev pub parts : Shape → World → ℕ → ℕ
parts z w place =
    let phase = (pool_after z w.history place).phase in
    unopened w place + sum_below z.lanes (λ lane. listed place (w.books lane)) + count_if (is_home phase)
    + sum_below z.lanes (λ lane. fillings place (w.books lane).registers) + sum_below z.lanes (λ lane. under_clear z place (w.books lane))
    + count_if (is_published phase) + count_if (is_retired phase)

-- what is under way in an END at a place, after these of its steps
abbrev pub under_end : Shape → ℕ → ℕ → List Step → Pending
under_end z lane place [] = Nothing
under_end z lane place (leave ∷ []) = if owes_claim leave.before then Owes place (generation_in leave.before) else Nothing
under_end z lane place (leave ∷ claim ∷ []) =
    if is_claimed (generation_in leave.before) claim.before && not (generation_in leave.before == z.last_generation)
    && not (shard_of place == lane)
    then Returns place None false else Nothing
under_end z lane place (leave ∷ claim ∷ link ∷ []) = Returns place (Some link.after) false
under_end z lane place (leave ∷ claim ∷ link ∷ push ∷ []) = if push.before == link.after then Nothing else Returns place None true
under_end z lane place (leave ∷ claim ∷ link ∷ push ∷ again ∷ []) = Returns place (Some again.after) true
under_end z lane place (leave ∷ claim ∷ link ∷ push ∷ again ∷ last ∷ more) = Nothing

-- what is under way in a clear that hit, after its ENTER
abbrev pub under_mark : Shape → ℕ → ℕ → List Step → Pending
under_mark z lane key [] = Undo key true
under_mark z lane key (mark ∷ []) = Undo key true
under_mark z lane key (mark ∷ leave ∷ more) = under_end z lane (place_of key) (leave ∷ more)

-- what is under way in a get or clear that missed, after its ENTER
abbrev pub under_miss : Shape → ℕ → ℕ → List Step → Pending
under_miss z lane key [] = Undo key false
under_miss z lane key (leave ∷ more) = under_end z lane (place_of key) (leave ∷ more)

-- what a call has under way after these of its steps
abbrev pub under_call : Shape → ℕ → Call → List Step → Pending
under_call z lane (Publishing key content with_ref) steps = Nothing
under_call z lane (Getting key) [] = Nothing
under_call z lane (Getting key) (enter ∷ more) = if is_hit key enter.before then Nothing else under_miss z lane key more
under_call z lane (Releasing key) steps = under_end z lane (place_of key) steps
under_call z lane (Clearing key) [] = Nothing
under_call z lane (Clearing key) (enter ∷ more) = if is_hit key enter.before then under_mark z lane key more else under_miss z lane key more
under_call z lane (Creating own chain opened) steps = Nothing

-- what a lane has under way after these steps of its call, if it makes one
abbrev pub under_first : Shape → ℕ → Option Call → List Step → Pending
under_first z lane (Some call) steps = under_call z lane call steps
under_first z lane None steps = Nothing

-- what a lane has under way
abbrev pub under_way : Shape → World → ℕ → Pending
under_way z w lane = under_first z lane (call_under_way (w.books lane)) (w.books lane).steps

-- the places of a lane's taken chain that are still to be followed
abbrev pub chain_of : World → ℕ → List ℕ
chain_of w lane = (w.books lane).chain ++ taken (w.books lane).acts

-- the lanes: what each has under way, has last pushed, and has still to follow
abbrev pub lanes_in : Shape → World → Lanes
lanes_in z w = record { under = under_way z w; pushed = λ shard lane. (w.books lane).pushed shard; chain = chain_of w }

-- the moment between two turns
abbrev pub moment_of : Shape → World → Moment
moment_of z w = moment w.words w.history (lanes_in z w)

-- what holds of the words, the history and the books after each turn
pub record Stands (z : Shape) (w : World) : Type 0 where
  -- each place is in exactly one part
  pub one_part : (place : ℕ) → is_place z place ≡ true → parts z w place ≡ 1
  -- the rule of the steps: Count, State, Owed claim and Home
  pub rule : Rule z (moment_of z w)
  -- where all lanes are finished, every marked key has a reference
  pub referred : ((lane : ℕ) → is_finished z w lane ≡ true) → (place : ℕ) → is_place z place ≡ true
      → is_marked (pool_after z w.history place).phase ≡ true
      → (lane : ℕ) × (lane < z.lanes) × (0 < references_in (pool_after z w.history place).phase lane)

-- after each of these turns, and before the first
abbrev pub StandsThroughout : Shape → World → List Turn → Type 0
StandsThroughout z w [] = Stands z w
StandsThroughout z w (t ∷ more) = Stands z w × StandsThroughout z (world_after z w t) more
