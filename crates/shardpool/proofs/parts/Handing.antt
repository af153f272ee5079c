-- What the emptier of a call took, by the parts of the call.
use Rattle.std.proofs.Common.{◌≡◌, ℕ, List, [], ◌∷◌, ◌++◌, append_assoc, append-nil, Bool, true, refl, sym, ap, ◌∙◌, arith, eq-eqb}
use mathlib.Core.List.{IsPrefix}
use Rattle.atomic_table.specs.Table.{Me}
use Rattle.keybits.specs.declared.shape.Shape.{Shape}
use Rattle.keybits.specs.declared.step.Kind.TheVariants.{Claim, Leave}
use Rattle.keybits.specs.declared.step.Step.{Step}
use Rattle.keybits.specs.declared.step.Word.TheVariants as words
use Rattle.keybits.specs.Keys.{place_of, generation_of, key_number, is_key}
use Rattle.keybits.specs.Words.{generation_in, claimable}
use Rattle.keybits.proofs.KeyLemmas.{generation_of-lt}
use Rattle.seqpool.specs.declared.act.Act.{Act}
use Rattle.seqpool.specs.declared.act.Act.TheVariants as acts
use Rattle.steplaws.specs.declared.pending.Pending.TheVariants.{Undo}
use Rattle.steplaws.specs.StepLaws.{reclaim}
use Rattle.poolsteps.specs.declared.view.LaneRecord.{LaneRecord}
use Rattle.poolsteps.specs.declared.view.View.{View}
use Rattle.poolsteps.specs.Views.{head_record, the_lane, known_of}
use Rattle.poolsteps.specs.Told.{Leaves, Sees, WasPublished, IsIdle}
use Rattle.poolsteps.specs.AtOnce.{unreferred, MakesSweep}
use Rattle.seatcalls.specs.Called.{Tails, TailActs}
use Rattle.shardpool.specs.Handed.{TookBy, HandsOut}
use Rattle.seatcalls.specs.declared.at.Reclaimed.{Reclaimed}
use Rattle.seatcalls.specs.declared.at.Reclaimed.TheVariants.{Own, Returned, Retired}
use Rattle.shardpool.proofs.frame.Standing.{published-later}
use Rattle.shardpool.proofs.parts.AtOnce.{swept, swept-mine, swept-reclaims}

-- a LEAVE that undoes an ENTER makes no act, and that of a release its own
pub undone-mine : {S : Type 0} {z : Shape} {key found : ℕ} {hit : Bool} {a b : Me S View} → (the_lane a.0).under ≡ Undo key hit → Leaves z key a found b
    → (the_lane b.0).mine ≡ (the_lane a.0).mine
undone-mine {hit = hit} {a = a} under leaves = ap (λ (lanes : List LaneRecord). (head_record lanes).mine) (leaves.1 hit under).goes.lanes ∙ append-nil (the_lane a.0).mine

pub released-mine : {S : Type 0} {z : Shape} {key found : ℕ} {a b : Me S View} → IsIdle a.0 → Leaves z key a found b
    → (the_lane b.0).mine ≡ (the_lane a.0).mine ++ acts.Release (the_lane a.0).lane key ∷ []
released-mine idle leaves = ap (λ (lanes : List LaneRecord). (head_record lanes).mine) (leaves.0 idle).goes.lanes

-- nor does a look
pub sees-mine : {S : Type 0} {z : Shape} {a b : Me S View} → Sees z a b → (the_lane b.0).mine ≡ (the_lane a.0).mine
sees-mine sees = ap (λ (lanes : List LaneRecord). (head_record lanes).mine) sees.goes.lanes

-- what follows a CLAIM sees no less
tails-see : {S : Type 0} {z : Shape} {place generation : ℕ} {b c : Me S View} (found : ℕ) → generation_in found ≡ generation → Tails z place generation b c
    → IsPrefix b.0.seen c.0.seen
tails-see {place = place} {generation = generation} found of tails =
    let leave : Step = record { kind = Leave; word = words.Life place; before = found; after = found } in
    let claim : Step = record { kind = Claim generation; word = words.Life place; before = claimable generation; after = found } in
    (tails leave claim of (eq-eqb (claimable generation) (claimable generation) refl)).did.acted.seen

module _ {E : Type 0} (takes : E → List ℕ → E → Type 0) where
  -- no act, and nothing was taken
  pub hands-none : (v : View) (e : E) → HandsOut takes v v e e
  hands-none v e = ([], sym (append-nil (the_lane v).mine), refl)

  pub hands-still : (a b : View) (e : E) → (the_lane b).mine ≡ (the_lane a).mine ++ [] → HandsOut takes a b e e
  hands-still a b e same = ([], same, refl)

  -- behind a part that made no act, or this act, by which nothing is taken
  pub hands-behind : (a b c : View) {e f : E} → (the_lane b).mine ≡ (the_lane a).mine → HandsOut takes b c e f → HandsOut takes a c e f
  hands-behind a b c same hands = (hands.0, hands.1 ∙ ap (λ (xs : List Act). xs ++ hands.0) same, hands.2)

  pub hands-after : (a b c : View) {e f : E} (act : Act) → (the_lane b).mine ≡ (the_lane a).mine ++ act ∷ []
      → ((made : List Act) → TookBy takes c.seen made e f → TookBy takes c.seen (act ∷ made) e f) → HandsOut takes b c e f → HandsOut takes a c e f
  hands-after a b c act is nothing hands = (
    act ∷ hands.0,
    hands.1 ∙ (ap (λ (xs : List Act). xs ++ hands.0) is ∙ append_assoc (the_lane a).mine (act ∷ []) hands.0),
    nothing hands.0 hands.2,
  )

  -- the reclaim of a place, whose object had this content, and what follows it
  module _ (z : Shape) (place generation : ℕ) (a b c : View) {content : List ℕ} {e f : E}
      (claimed : (the_lane b).mine ≡ (the_lane a).mine ++ reclaim z (the_lane a).lane place generation ∷ [])
      (published : WasPublished c.seen (key_number z.tag place generation) content) (took : takes e content f) where
    hands-reclaimed : {T : Type 0} (reclaimed : Reclaimed T) → TailActs z place generation b c reclaimed → HandsOut takes a c e f
    hands-reclaimed (Own whole) tail = (reclaim z (the_lane a).lane place generation ∷ [], tail.1 ∙ claimed, (content, published, (f, took, refl)))
    hands-reclaimed Retired tail = (reclaim z (the_lane a).lane place generation ∷ [], tail.1 ∙ claimed, (content, published, (f, took, refl)))
    hands-reclaimed Returned tail =
        let home : List Act = acts.Home (the_lane b).lane place ∷ [] in (
          reclaim z (the_lane a).lane place generation ∷ home,
          tail.1.0 ∙ (ap (λ (xs : List Act). xs ++ home) claimed ∙ append_assoc (the_lane a).mine (reclaim z (the_lane a).lane place generation ∷ []) home),
          (content, published, (f, took, refl)),
        )

  -- behind a CLAIM that succeeded
  pub hands-won : {S T : Type 0} (z : Shape) (place generation : ℕ) (a b c : Me S View) {content : List ℕ} {e f : E} (reclaimed : Reclaimed T) (found : ℕ)
      → generation_in found ≡ generation → (the_lane b.0).mine ≡ (the_lane a.0).mine ++ reclaim z (the_lane a.0).lane place generation ∷ []
      → WasPublished b.0.seen (key_number z.tag place generation) content → takes e content f → Tails z place generation b c
      → TailActs z place generation b.0 c.0 reclaimed → HandsOut takes a.0 c.0 e f
  hands-won z place generation a b c {content = content} reclaimed found of claimed was took tails tail =
      hands-reclaimed z place generation a.0 b.0 c.0 claimed (was.0, published-later b.0.seen c.0.seen was.0 (key_number z.tag place generation) content (tails-see found of tails) was.1) took reclaimed tail

  -- a clear that swept, and what follows it
  pub hands-swept : {S T : Type 0} (z : Shape) (key : ℕ) (a b c : Me S View) {e f : E} (reclaimed : Reclaimed T) (inside : is_key z key ≡ true) (sweeps : MakesSweep z key a b)
      → takes e (known_of (the_lane b.0) (place_of key)).content f → Tails z (place_of key) (generation_of key) b c
      → TailActs z (place_of key) (generation_of key) b.0 c.0 reclaimed → HandsOut takes a.0 c.0 e f
  hands-swept z key a b c reclaimed inside sweeps took tails tail =
      let left : Me _ View = sweeps.2.2.0 in
      let below = generation_of-lt key in
      hands-after a.0 left.0 c.0 (acts.Clear (the_lane a.0).lane key true) (swept-mine inside sweeps) (λ made taken. taken)
      (hands-won z (place_of key) (generation_of key) left b c reclaimed (unreferred (generation_of key)) (omega arith) (swept-reclaims inside sweeps) (swept inside sweeps).published took tails tail)
