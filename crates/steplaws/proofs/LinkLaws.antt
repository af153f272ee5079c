-- LINK and PUSH keep the rule.
use Rattle.std.proofs.Common.{◌≡◌, inl, inr, ⊎_elim, ℕ, ◌<◌, Bool, true, cond, List, [], ◌∷◌, ◌++◌, Option, Some, None, refl, ap, sym, ◌∙◌, subst, eq-eqb, ne_eqb}
use mathlib.Core.Logic.{dite}
use native.Mathlib.Decide.{ℕ_discrete}
use Rattle.keybits.specs.declared.shape.Shape.{Shape}
use Rattle.keybits.specs.declared.step.Word.TheVariants.{Link, Stack}
use Rattle.keybits.specs.Places.{shard_of}
use Rattle.keybits.specs.Shapes.{callers}
use Rattle.keybits.specs.Links.{link_to}
use Rattle.seqpool.specs.declared.act.Act.{Act}
use Rattle.seqpool.specs.declared.act.Act.TheVariants as acts
use Rattle.seqpool.specs.Pool.{Spot, found, fresh, pool_after}
use Rattle.seqpool.proofs.Growth.{legal-snoc}
use Rattle.steplaws.specs.declared.pending.Pending.TheVariants.{Nothing, Returns}
use Rattle.steplaws.specs.Facts.{put_at, put_two, Words, with_value, Lanes, with_under, with_pushed, moment, Rule}
use Rattle.steplaws.proofs.Returns.{now, link_keeps, push_fails, push_keeps, push_allowed, pool-at, pool-off}
use Rattle.steplaws.proofs.Quiets.{IsQuiet, quiet-returns, quiet-nothing, alike-put, idle-with, idle-home, quiet_keeps}
use Rattle.keybits.specs.declared.step.Kind.TheVariants as kinds
use Rattle.steplaws.proofs.Keeping.{keeps, rule-same}
use Rattle.keybits.proofs.ShapeLemmas.{is_place-parts}
use Rattle.steplaws.specs.StepLaws.{LinkLaw, PushSucceedsLaw, PushFailsLaw, PushAgainLaw}

module _ (z : Shape) (w : Words) (h : List Act) (r : Lanes) (s : Rule z (moment w h r)) (lane place : ℕ) (linked : Option ℕ) (failed : Bool) (below : lane < callers z)
    (is : r.under lane ≡ Returns place linked failed) where
  quiet : IsQuiet (r.under lane)
  quiet = subst IsQuiet (sym is) (quiet-returns place linked failed)

  -- LINK
  pub link_rule : (top : ℕ) → Rule z (moment (with_value w (Link place) top) h (with_under r lane (Returns place (Some top) failed)))
  link_rule top = quiet_keeps z w (put_at w.link place top) w.stack w.bits h h r (with_under r lane (Returns place (Some top) failed)) s s.legal
      (alike-put r.under lane (Returns place (Some top) failed) quiet (quiet-returns place (Some top) failed)) (λ q. inl refl)
      (link_keeps z w h r s.home lane place linked failed below is top)

  -- a PUSH that fails
  pub fails_rule : w.stack (shard_of place) lane ≡ 0 → Rule z (moment w h (with_under r lane (Returns place None true)))
  fails_rule none = quiet_keeps z w w.link w.stack w.bits h h r (with_under r lane (Returns place None true)) s s.legal
      (alike-put r.under lane (Returns place None true) quiet (quiet-returns place None true)) (λ q. inl refl)
      (push_fails z w h r s.home lane place linked failed below is none)

  -- a PUSH that succeeds
  pub push_rule : (top : ℕ) → linked ≡ Some top → w.stack (shard_of place) lane ≡ top → lane < z.lanes
      → Rule z (moment (with_value w (Stack (shard_of place) lane) (link_to place)) (h ++ acts.Home lane place ∷ []) (with_pushed r (shard_of place) lane (link_to place)))
  push_rule top linked_is found mine = quiet_keeps z w w.link (put_two w.stack (shard_of place) lane (link_to place)) w.bits h (h ++ acts.Home lane place ∷ []) r (with_pushed r (shard_of place) lane (link_to place)) s
      (legal-snoc z fresh h (acts.Home lane place) s.legal below (push_allowed z w h r s.home lane place linked failed below is))
      (alike-put r.under lane Nothing quiet quiet-nothing)
      (λ q. dite (ℕ_discrete q place)
      (λ e. let at = pool-at z w h r s.home lane place linked failed below is top linked_is found mine q e in inr (
        ap (λ (x : Spot). x.generation) at,
        idle-with lane (pool_after z h q).phase (ap (λ (p : ℕ). (pool_after z h p).phase) e ∙ (now z w h r s.home lane place linked failed below is).with_lane),
        idle-home (pool_after z (h ++ acts.Home lane place ∷ []) q).phase (ap (λ (x : Spot). x.phase) at),
      ))
      (λ n. inl (pool-off z w h r s.home lane place linked failed below is top linked_is found mine q n)))
      (push_keeps z w h r s.home lane place linked failed below is top linked_is found mine)

-- ---- the laws

pub link-law : LinkLaw
link-law z m lane place top linked failed s u =
    keeps z m (kinds.Link top) (Link place) top None (with_under m.lanes lane (Returns place (Some top) failed)) refl tt
    (link_rule z m.words m.history m.lanes s lane place linked failed u.0 u.1 top)

pub push-succeeds-law : PushSucceedsLaw
push-succeeds-law z m lane place top failed s mine u found =
    let word : ℕ = m.words.stack (shard_of place) lane in
    keeps z m (kinds.Push top (link_to place)) (Stack (shard_of place) lane) (link_to place) (Some (acts.Home lane place)) (with_pushed m.lanes (shard_of place) lane (link_to place))
    (sym (ap (λ (b : Bool). cond b (link_to place) word) (eq-eqb word top found))) tt
    (push_rule z m.words m.history m.lanes s lane place (Some top) failed u.0 u.1 top refl found mine)

pub push-fails-law : PushFailsLaw
push-fails-law z m lane place failed s mine u miss =
    let shard : ℕ = shard_of place in
    let word : ℕ = m.words.stack shard lane in
    let top : ℕ = m.lanes.pushed shard lane in
    let is = now z m.words m.history m.lanes s.home lane place (Some top) failed u.0 u.1 in
    let zero_now : word ≡ 0 = ⊎_elim (λ (e : word ≡ 0). e) (λ (e : word ≡ top). absurd (miss e))
    (s.home.last_pushed shard lane (is_place-parts z place is.inside).0 mine (λ e. is.apart (sym e))) in (
      zero_now,
      keeps z m (kinds.Push top (link_to place)) (Stack shard lane) 0 None (with_under m.lanes lane (Returns place None true))
          (sym (ap (λ (b : Bool). cond b (link_to place) word) (ne_eqb word top miss) ∙ zero_now)) tt
          (rule-same z m.words m.history (with_under m.lanes lane (Returns place None true)) (Stack shard lane) 0 (sym zero_now)
          (fails_rule z m.words m.history m.lanes s lane place (Some top) failed u.0 u.1 zero_now)),
    )

pub push-again-law : PushAgainLaw
push-again-law z m lane place s mine u =
    let zero_now = (now z m.words m.history m.lanes s.home lane place (Some 0) true u.0 u.1).emptied refl in
    (zero_now, push-succeeds-law z m lane place 0 true s mine u zero_now)
