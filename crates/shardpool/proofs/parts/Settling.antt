-- The first so many of what follows the LEAVE of a call.
use Rattle.std.proofs.Common.{◌≡◌, ◌≢◌, ℕ, ◌+◌, ◌<◌, true, false, [], ◌∷◌, Option, Some, None, sym, ap, ◌∙◌, subst, eq-eqb, ne_eqb}
use Rattle.atomic_table.specs.Table.{Me}
use Rattle.keybits.specs.declared.shape.Shape.{Shape}
use Rattle.keybits.specs.declared.step.Kind.TheVariants.{Claim}
use Rattle.keybits.specs.declared.step.Step.{Step}
use Rattle.keybits.specs.declared.step.Word.TheVariants as words
use Rattle.keybits.specs.Words.{generation_in, claimable}
use Rattle.keybits.specs.Steps.{claim_gives}
use Rattle.seqpool.specs.declared.act.Act.{Act}
use Rattle.steplaws.specs.declared.pending.Pending.TheVariants.{Nothing}
use Rattle.steplaws.specs.Calls.{owes_claim, is_claimed}
use Rattle.steplaws.specs.StepLaws.{reclaim}
use Rattle.poolsteps.specs.declared.view.LaneRecord.{LaneRecord}
use Rattle.poolsteps.specs.declared.view.View.{View}
use Rattle.poolsteps.specs.Views.{head_record, the_lane, IsOne}
use Rattle.poolsteps.specs.Told.{claimed_under, Claims}
use Rattle.seatcalls.specs.Called.{caller_of, IsLawful}
use Rattle.seatcalls.proofs.parts.Doing.{life-next, cell-next, did-step, same-caller}
use Rattle.seatcalls.proofs.parts.Ending.{ends-at-leave, ends-at-claim, made_at, claims-so}
use Rattle.shardpool.specs.Halted.{GoesWithin, EndsWithin, TailsWithin}
use Rattle.shardpool.proofs.parts.Within.{within-stop, within-none, within-after, within-first, within-last}

-- a CLAIM that succeeds, as a step
abbrev claim-step : Shape → ℕ → ℕ → ℕ → Step
claim-step z place generation word =
    record { kind = Claim generation; word = words.Life place; before = word; after = claim_gives z.last_generation generation word }

module _ {S : Type 0} {z : Shape} {place found : ℕ} {a : Me S View} (limit : ℕ) where
  -- nothing, where the limit is 0
  pub settles-not : IsOne a.0 → IsLawful z a.0 → limit ≡ 0 → EndsWithin z place found limit a a
  settles-not one seen none leave is = subst (λ (n : ℕ). GoesWithin z place (leave ∷ []) n a a) (sym none) (within-stop (leave ∷ []) one seen)

  -- or where no claim is owed
  pub settles-none : IsOne a.0 → IsLawful z a.0 → owes_claim found ≡ false → EndsWithin z place found limit a a
  settles-none one seen none leave is = within-none (leave ∷ []) limit one seen (ends-at-leave (caller_of z a.0) place leave is none)

  module _ {generation word : ℕ} {b : Me S View} (owes : owes_claim found ≡ true) (of : generation ≡ generation_in found) (claims : Claims z place generation a word b) where
    -- the CLAIM, where it fails
    pub settles-lost : word ≢ claimable generation → 0 < limit → EndsWithin z place found limit a b
    settles-lost other some leave is =
        let steps = claims.1 other in
        let claim : Step = record { kind = Claim generation; word = words.Life place; before = word; after = word } in
        let fails : is_claimed generation word ≡ false = ne_eqb word (claimable generation) other in
        within-last (leave ∷ []) claim None (did-step steps (life-next (the_lane a.0) place None Nothing)) (claims-so owes of claims leave is) steps.changes
        (λ call at. ((λ n. n), sym (ap (made_at z (the_lane a.0).lane place generation) fails)))
        (ends-at-claim (caller_of z a.0) place leave claim (ap (λ (g : ℕ). is_claimed g word) (ap generation_in is ∙ sym of) ∙ fails)) limit some

    module _ (same : word ≡ claimable generation) where
      -- where it succeeds, and what follows it
      won : {more : ℕ} {c : Me S View} (leave : Step) → leave.before ≡ found → GoesWithin z place (leave ∷ claim-step z place generation word ∷ []) more b c → 1 + more ≡ limit
          → GoesWithin z place (leave ∷ []) limit a c
      won leave is rest sum =
          let told = claims.0 same in
          let steps = told.4 in
          let succeeds : is_claimed generation word ≡ true = eq-eqb word (claimable generation) same in
          let now = ap head_record steps.goes.lanes in
          let act : Option Act = Some (reclaim z (the_lane a.0).lane place generation) in
          within-first (leave ∷ []) (claim-step z place generation word) act (same-caller z a.0 b.0 (ap (λ (r : LaneRecord). r.lane) now) (ap (λ (r : LaneRecord). r.pushed) now))
          (did-step steps (cell-next (the_lane a.0) place act (claimed_under z (the_lane a.0).lane place generation) told.0)) (claims-so owes of claims leave is)
          steps.changes (λ call at. ((λ n. n), sym (ap (made_at z (the_lane a.0).lane place generation) succeeds))) rest limit sum

      -- nothing, where the limit is reached
      pub settles-claim : limit ≡ 1 → EndsWithin z place found limit a b
      settles-claim one leave is =
          let told = claims.0 same in
          let act : Option Act = Some (reclaim z (the_lane a.0).lane place generation) in
          won leave is
          (within-after (leave ∷ claim-step z place generation word ∷ [])
          (did-step told.4 (cell-next (the_lane a.0) place act (claimed_under z (the_lane a.0).lane place generation) told.0))) (sym one)

      pub settles-won : {more : ℕ} {c : Me S View} → TailsWithin z place generation more b c → 1 + more ≡ limit → EndsWithin z place found limit a c
      settles-won tails sum leave is = won leave is (tails leave (claim-step z place generation word) (ap generation_in is ∙ sym of) (eq-eqb word (claimable generation) same)) sum
