-- The step of an END after this one is what the last step tells.
use Rattle.std.proofs.Common.{◌≡◌, ℕ, ◌∙◌, ap, sym, refl, Bool, true, false, eqb, not, ◌&&◌, eq-eqb, ne_eqb, Some, None, ◌⊎◌, ⊎_elim, slice_index}
use Rattle.keybits.specs.declared.step.Kind.TheVariants as kinds
use Rattle.keybits.specs.declared.step.Word.TheVariants as words
use Rattle.keybits.specs.Places.{shard_of}
use Rattle.keybits.specs.Words.{generation_in, claimable}
use Rattle.keybits.specs.Links.{link_to}
use Rattle.steplaws.specs.Calls.{aim, owes_claim, is_claimed}
use Rattle.coresteps.specs.declared.aims.Aim.{Aim}
use Rattle.coresteps.proofs.AimLemmas.{ended, of_kind, aim_where, aim_unless, none_where, none_unless, is_returned, is_lost, is_last, is_own}
use Rattle.coresteps.proofs.aims.end_step.Goals as goal
use Rattle.coresteps.proofs.aims.end_step.Goals.{else-claimed-via-then-claimed+then-generation-shape+else-shard_of-lane, else-claimed-via-then-claimed+else-generation-shape, else-claimed-via-else-claimed}

pub returns-in-Enter : goal.returns-in-Enter
returns-in-Enter c =
    let z = c.args.shape.now in let place = c.args.place in let step = c.args.step in
    let top : ℕ = slice_index c.args.pushed.now (shard_of place) in
    let own = c.on_life.result in
    let a : Aim = record { kind = kinds.Leave; word = words.Life place } in
    ended z c.args.lane place top step own
    (⊎_elim
    (λ (is : step.kind ≡ kinds.Enter). of_kind z c.args.lane place top step.before own step.kind kinds.Enter is
    (aim_where true own a (aim kinds.Leave (words.Life place)) refl c.on_life.ensures refl))
    (λ (is : step.kind ≡ kinds.Mark). of_kind z c.args.lane place top step.before own step.kind kinds.Mark is
    (aim_where true own a (aim kinds.Leave (words.Life place)) refl c.on_life.ensures refl)) c.in-Enter.is)

pub returns-then-owes_claim : goal.returns-then-owes_claim
returns-then-owes_claim c =
    let z = c.args.shape.now in let place = c.args.place in let step = c.args.step in
    let top : ℕ = slice_index c.args.pushed.now (shard_of place) in
    let own = c.on_life-then-owes_claim.result in
    let g = c.of_word-generation.result.generation in
    ended z c.args.lane place top step own
    (of_kind z c.args.lane place top step.before own step.kind kinds.Leave c.in-Leave.is
    (aim_where (owes_claim step.before) own (record { kind = kinds.Claim g; word = words.Life place })
    (aim (kinds.Claim (generation_in step.before)) (words.Life place)) (sym c.owes_claim.ensures ∙ c.if-owes_claim.true)
    c.on_life-then-owes_claim.ensures (ap (λ (n : ℕ). aim (kinds.Claim n) (words.Life place)) c.of_word-generation.ensures.generation)))

pub returns-else-owes_claim : goal.returns-else-owes_claim
returns-else-owes_claim c =
    let z = c.args.shape.now in let place = c.args.place in let step = c.args.step in
    let top : ℕ = slice_index c.args.pushed.now (shard_of place) in
    ended z c.args.lane place top step None
    (of_kind z c.args.lane place top step.before None step.kind kinds.Leave c.in-Leave.is
    (none_where (owes_claim step.before) (aim (kinds.Claim (generation_in step.before)) (words.Life place))
    (sym c.owes_claim.ensures ∙ c.if-owes_claim.false)))

pub returns-then-shard_of-lane : goal.returns-then-shard_of-lane
returns-then-shard_of-lane c =
    let z = c.args.shape.now in let place = c.args.place in let step = c.args.step in let g = c.in-Claim.generation in
    let top : ℕ = slice_index c.args.pushed.now (shard_of place) in
    let own = c.link.result in
    let hit : step.before ≡ claimable g = c.if-claimed.true ∙ c.claimable.ensures in
    ended z c.args.lane place top step own
    (of_kind z c.args.lane place top step.before own step.kind (kinds.Claim g) c.in-Claim.is
    (aim_where (is_claimed g step.before && not (eqb g z.last_generation) && not (eqb (shard_of place) c.args.lane)) own
    (record { kind = kinds.Link (slice_index c.args.pushed.now c.shard_of-then-shard_of-lane.result); word = words.Link place })
    (aim (kinds.Link top) (words.Link place))
    (is_returned (is_claimed g step.before) (eqb g z.last_generation) (eqb (shard_of place) c.args.lane)
    (eq-eqb step.before (claimable g) hit) (ne_eqb g z.last_generation c.if-generation-shape.true)
    (ne_eqb (shard_of place) c.args.lane (λ e. c.if-shard_of-lane.true (c.shard_of.ensures ∙ e))))
    c.link.ensures
    (ap (λ (n : ℕ). aim (kinds.Link (slice_index c.args.pushed.now n)) (words.Link place)) c.shard_of-then-shard_of-lane.ensures)))

pub returns-else-claimed : goal.returns-else-claimed
returns-else-claimed c =
    let z = c.args.shape.now in let place = c.args.place in let step = c.args.step in let g = c.in-Claim.generation in
    let top : ℕ = slice_index c.args.pushed.now (shard_of place) in
    let hit : Bool = is_claimed g step.before in let last : Bool = eqb g z.last_generation in let own : Bool = eqb (shard_of place) c.args.lane in
    let none : hit && not last && not own ≡ false = elim c.else-claimed.branch [
      | else-claimed-via-then-claimed+then-generation-shape+else-shard_of-lane w ↦ is_own hit last own
          (eq-eqb (shard_of place) c.args.lane (sym w.shard_of.ensures ∙ w.if-shard_of-lane.false))
      | else-claimed-via-then-claimed+else-generation-shape w ↦ is_last hit last own (eq-eqb g z.last_generation w.if-generation-shape.false)
      | else-claimed-via-else-claimed w ↦ is_lost hit last own
          (ne_eqb step.before (claimable g) (λ e. w.if-claimed.false (e ∙ sym c.claimable.ensures)))
    ] in
    ended z c.args.lane place top step None
    (of_kind z c.args.lane place top step.before None step.kind (kinds.Claim g) c.in-Claim.is
    (none_where (hit && not last && not own) (aim (kinds.Link top) (words.Link place)) none))

pub returns-in-Link : goal.returns-in-Link
returns-in-Link c =
    let z = c.args.shape.now in let place = c.args.place in let step = c.args.step in
    let top : ℕ = slice_index c.args.pushed.now (shard_of place) in
    let a : Aim = record { kind = kinds.Push c.in-Link.expected c.link_to.result; word = words.Stack c.shard_of-in-Link.result c.args.lane } in
    ended z c.args.lane place top step (Some a)
    (of_kind z c.args.lane place top step.before (Some a) step.kind (kinds.Link c.in-Link.expected) c.in-Link.is
    (aim_where true (Some a) a (aim (kinds.Push c.in-Link.expected (link_to place)) (words.Stack (shard_of place) c.args.lane)) refl refl
    (λ i. aim (kinds.Push c.in-Link.expected (c.link_to.ensures.word i)) (words.Stack (c.shard_of-in-Link.ensures i) c.args.lane))))

pub returns-then-step-expected : goal.returns-then-step-expected
returns-then-step-expected c =
    let z = c.args.shape.now in let place = c.args.place in let step = c.args.step in let expected = c.in-Push.expected in
    let top : ℕ = slice_index c.args.pushed.now (shard_of place) in
    ended z c.args.lane place top step None
    (of_kind z c.args.lane place top step.before None step.kind (kinds.Push expected c.in-Push.link) c.in-Push.is
    (none_unless (eqb step.before expected) (aim (kinds.Link 0) (words.Link place)) (eq-eqb step.before expected c.if-step-expected.true)))

pub returns-else-step-expected : goal.returns-else-step-expected
returns-else-step-expected c =
    let z = c.args.shape.now in let place = c.args.place in let step = c.args.step in let expected = c.in-Push.expected in
    let top : ℕ = slice_index c.args.pushed.now (shard_of place) in
    let own = c.link-else-step-expected.result in
    ended z c.args.lane place top step own
    (of_kind z c.args.lane place top step.before own step.kind (kinds.Push expected c.in-Push.link) c.in-Push.is
    (aim_unless (eqb step.before expected) own (record { kind = kinds.Link 0; word = words.Link place }) (aim (kinds.Link 0) (words.Link place))
    (ne_eqb step.before expected c.if-step-expected.false) c.link-else-step-expected.ensures refl))

pub returns-in-Publish : goal.returns-in-Publish
returns-in-Publish c =
    let z = c.args.shape.now in let place = c.args.place in let step = c.args.step in
    let top : ℕ = slice_index c.args.pushed.now (shard_of place) in
    ended z c.args.lane place top step None
    (⊎_elim
    (λ (is : (with_ref : Bool) × (step.kind ≡ kinds.Publish with_ref)).
    of_kind z c.args.lane place top step.before None step.kind (kinds.Publish is.0) is.1 refl)
    (λ (more : (step.kind ≡ kinds.Take) ⊎ (step.kind ≡ kinds.Follow)). ⊎_elim
    (λ (is : step.kind ≡ kinds.Take). of_kind z c.args.lane place top step.before None step.kind kinds.Take is refl)
    (λ (is : step.kind ≡ kinds.Follow). of_kind z c.args.lane place top step.before None step.kind kinds.Follow is refl) more) c.in-Publish.is)
