-- The step of a call after this one is what the last step tells.
use Rattle.std.proofs.Common.{◌≡◌, ◌≢◌, ℕ, ◌∙◌, ap, sym, subst, refl, List, [], Some, None, true, ◌<◌}
use Rattle.keybits.specs.declared.step.Kind.TheVariants as kinds
use Rattle.keybits.specs.declared.step.Word.TheVariants as words
use Rattle.keybits.specs.Places.{shard_of}
use Rattle.keybits.specs.Keys.{place_of}
use Rattle.steplaws.specs.Calls.{Call, Getting, Releasing, Clearing, Creating, Caller, AreSteps, key_in, is_hit, aim, next_step}
use Rattle.traces.specs.Books.{caller}
use Rattle.traces.proofs.StepCalls.{same_some}
use Rattle.coresteps.specs.declared.progress.Call.{Call as OwnCall}
use Rattle.coresteps.specs.declared.aims.Aim.{Aim as OwnAim}
use Rattle.coresteps.specs.Lanes.{IsCall, IsAim}
use Rattle.coresteps.proofs.AimLemmas.{get_hit, clear_hit, aim_where, release_enters}
use Rattle.coresteps.proofs.aims.next_step.Goals as goal

-- a get's ENTER hit: it was its last step
pub returns-then-has_hit : goal.returns-then-has_hit
returns-then-has_hit c = λ script done b is called are found e pushed.
    let key = c.in-Get.key in
    let who : Caller = caller c.args.shape.now c.args.lane b in
    let same : is ≡ Getting key = same_some is (Getting key) (subst (λ (k : OwnCall). IsCall script done b (Some k) (Some is)) c.in-Get.is called) in
    let hit : (c.args.step.kind ≡ kinds.Enter) × (is_hit key c.args.step.before ≡ true) = c.if-has_hit.ensures in
    subst (λ (k : Call). next_step who k b.steps ≡ None) (sym same)
    (get_hit who key c.args.step hit.0 hit.1 b.steps e (subst (λ (k : Call). AreSteps who k [] b.steps) same are))

-- a clear's ENTER hit: it marks
pub returns-then-has_hit-2 : goal.returns-then-has_hit-2
returns-then-has_hit-2 c = λ script done b is called are found e pushed.
    let key = c.in-Clear.key in
    let who : Caller = caller c.args.shape.now c.args.lane b in
    let same : is ≡ Clearing key
    = same_some is (Clearing key) (subst (λ (k : OwnCall). IsCall script done b (Some k) (Some is)) c.in-Clear.is called) in
    let hit : (c.args.step.kind ≡ kinds.Enter) × (is_hit key c.args.step.before ≡ true) = c.if-has_hit-2.ensures in
    let own : OwnAim = record { kind = kinds.Mark; word = words.Life c.place_of-then-has_hit-2.result } in
    let told : next_step who is b.steps ≡ Some (aim kinds.Mark (words.Life (place_of key)))
    = ap (λ (k : Call). next_step who k b.steps) same
    ∙ clear_hit who key c.args.step hit.0 hit.1 b.steps e (subst (λ (k : Call). AreSteps who k [] b.steps) same are) in
    subst (IsAim c.on_life.result) (sym told)
    (aim_where true c.on_life.result own (aim kinds.Mark (words.Life (place_of key))) refl c.on_life.ensures
    (ap (λ (p : ℕ). aim kinds.Mark (words.Life p)) c.place_of-then-has_hit-2.ensures.place))

-- else what is owed of its END
pub returns-else-has_hit : goal.returns-else-has_hit
returns-else-has_hit c = λ script done b is called are found e pushed.
    let key = c.in-Get.key in
    let place : ℕ = c.place_of-else-has_hit.result in
    let same : is ≡ Getting key = same_some is (Getting key) (subst (λ (k : OwnCall). IsCall script done b (Some k) (Some is)) c.in-Get.is called) in
    let r = c.requires.place in
    let other : r.3 ≡ Getting key
    = same_some r.3 (Getting key) (subst (λ (k : OwnCall). IsCall r.0 r.1 r.2 (Some k) (Some r.3)) c.in-Get.is r.4) in
    let small : shard_of place < 64
    = subst (λ (p : ℕ). shard_of p < 64) (ap (λ (k : Call). place_of (key_in k)) other ∙ sym c.place_of-else-has_hit.ensures.place) r.5 in
    c.end_step-else-has_hit.ensures b is are found e (pushed (shard_of place) small)
    (ap (λ (k : Call). place_of (key_in k)) same ∙ sym c.place_of-else-has_hit.ensures.place)
    (λ own chain opened creates. no_creating key own chain opened (sym same ∙ creates))
    (λ enters. ap (λ (k : Call). is_hit (key_in k) c.args.step.before) same ∙ c.if-has_hit.ensures enters)
  where
    no_creating : (key : ℕ) (own chain : List ℕ) (opened : ℕ) → Getting key ≢ Creating own chain opened
    no_creating key own chain opened e = cc e

pub returns-else-has_hit-2 : goal.returns-else-has_hit-2
returns-else-has_hit-2 c = λ script done b is called are found e pushed.
    let key = c.in-Clear.key in
    let place : ℕ = c.place_of-else-has_hit-2.result in
    let same : is ≡ Clearing key
    = same_some is (Clearing key) (subst (λ (k : OwnCall). IsCall script done b (Some k) (Some is)) c.in-Clear.is called) in
    let r = c.requires.place in
    let other : r.3 ≡ Clearing key
    = same_some r.3 (Clearing key) (subst (λ (k : OwnCall). IsCall r.0 r.1 r.2 (Some k) (Some r.3)) c.in-Clear.is r.4) in
    let small : shard_of place < 64
    = subst (λ (p : ℕ). shard_of p < 64) (ap (λ (k : Call). place_of (key_in k)) other ∙ sym c.place_of-else-has_hit-2.ensures.place) r.5 in
    c.end_step-else-has_hit-2.ensures b is are found e (pushed (shard_of place) small)
    (ap (λ (k : Call). place_of (key_in k)) same ∙ sym c.place_of-else-has_hit-2.ensures.place)
    (λ own chain opened creates. no_creating key own chain opened (sym same ∙ creates))
    (λ enters. ap (λ (k : Call). is_hit (key_in k) c.args.step.before) same ∙ c.if-has_hit-2.ensures enters)
  where
    no_creating : (key : ℕ) (own chain : List ℕ) (opened : ℕ) → Clearing key ≢ Creating own chain opened
    no_creating key own chain opened e = cc e

-- a release makes no ENTER
pub returns-in-Release : goal.returns-in-Release
returns-in-Release c = λ script done b is called are found e pushed.
    let key = c.in-Release.key in
    let who : Caller = caller c.args.shape.now c.args.lane b in
    let place : ℕ = c.place_of.result in
    let same : is ≡ Releasing key
    = same_some is (Releasing key) (subst (λ (k : OwnCall). IsCall script done b (Some k) (Some is)) c.in-Release.is called) in
    let r = c.requires.place in
    let other : r.3 ≡ Releasing key
    = same_some r.3 (Releasing key) (subst (λ (k : OwnCall). IsCall r.0 r.1 r.2 (Some k) (Some r.3)) c.in-Release.is r.4) in
    let small : shard_of place < 64
    = subst (λ (p : ℕ). shard_of p < 64) (ap (λ (k : Call). place_of (key_in k)) other ∙ sym c.place_of.ensures.place) r.5 in
    c.end_step.ensures b is are found e (pushed (shard_of place) small)
    (ap (λ (k : Call). place_of (key_in k)) same ∙ sym c.place_of.ensures.place)
    (λ own chain opened creates. no_creating key own chain opened (sym same ∙ creates))
    (λ enters. release_enters who key b.steps c.args.step (subst (λ (k : Call). AreSteps who k [] b.steps) same are) e enters)
  where
    no_creating : (key : ℕ) (own chain : List ℕ) (opened : ℕ) → Releasing key ≢ Creating own chain opened
    no_creating key own chain opened e = cc e
