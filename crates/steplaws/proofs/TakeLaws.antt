-- TAKE and FOLLOW keep the rule.
use Rattle.std.proofs.Common.{◌≡◌, ◌≢◌, inl, inr, ℕ, ◌<◌, List, [], ◌∷◌, ◌++◌, Some, None, refl, ap, sym, ◌∙◌, subst, arith}
use mathlib.Core.Logic.{dite}
use native.Mathlib.Decide.{ℕ_discrete}
use Rattle.keybits.specs.declared.shape.Shape.{Shape}
use Rattle.keybits.specs.declared.step.Word.TheVariants.{Link, Stack}
use Rattle.keybits.specs.Counts.{times}
use Rattle.keybits.specs.Links.{Leads}
use Rattle.keybits.proofs.LeadLemmas.{leads-zero, leads-word}
use Rattle.seqpool.specs.declared.act.Act.{Act}
use Rattle.seqpool.specs.declared.act.Act.TheVariants as acts
use Rattle.seqpool.specs.Pool.{Spot, fresh, pool_after}
use Rattle.seqpool.proofs.Growth.{legal-snoc}
use Rattle.steplaws.specs.Facts.{put_at, put_two, Words, with_value, Lanes, with_chain, moment, Rule}
use Rattle.steplaws.proofs.Updates.{at-here}
use Rattle.steplaws.proofs.HomePlaces.{home-parts, has-some, has-none, lane-from}
use Rattle.steplaws.proofs.Takes.{follow_keeps, thread, take_keeps, take_allowed, pool-on, pool-stays, taken-home}
use Rattle.steplaws.proofs.Quiets.{alike-self, idle-with, idle-home, quiet_keeps}
use Rattle.keybits.specs.declared.step.Kind.TheVariants as kinds
use Rattle.steplaws.proofs.Keeping.{keeps, rule-same}
use Rattle.steplaws.proofs.Stacks.{stacked}
use Rattle.steplaws.specs.StepLaws.{TakeNoneLaw, TakeChainLaw, FollowLaw}

pub follow_rule : (z : Shape) (w : Words) (h : List Act) (r : Lanes) → Rule z (moment w h r) → (lane p : ℕ) (more : List ℕ) → lane < z.lanes → r.chain lane ≡ p ∷ more
    → Rule z (moment w h (with_chain r lane more)) × Leads w.link lane (w.link p) more
follow_rule z w h r s lane p more below is = let t = follow_keeps z w h r lane p more below is s.home in (
  quiet_keeps z w w.link w.stack w.bits h h r (with_chain r lane more) s s.legal (alike-self r.under) (λ q. inl refl) t.0,
  t.1,
)

pub record Taken (z : Shape) (w : Words) (h : List Act) (r : Lanes) (lane from : ℕ) : Type 0 where
  pub places : List ℕ
  pub leads : Leads w.link lane (w.stack lane from) places
  pub stand : Rule z (moment (with_value w (Stack lane from) 0) (h ++ acts.Collect lane places ∷ []) (with_chain r lane places))

pub take_rule : (z : Shape) (w : Words) (h : List Act) (r : Lanes) → Rule z (moment w h r) → (lane from : ℕ) → lane < z.lanes → from < z.lanes → from ≢ lane → w.stack lane from ≢ 0
    → Taken z w h r lane from
take_rule z w h r s lane from below from_below apart some =
    let t = thread z w h r s.home lane from below from_below apart in record {
      places = t.taken;
      leads = t.leads;
      stand = quiet_keeps z w w.link (put_two w.stack lane from 0) w.bits h (h ++ acts.Collect lane t.taken ∷ []) r (with_chain r lane t.taken) s
          (legal-snoc z fresh h (acts.Collect lane t.taken) s.legal (omega (arith, below)) (take_allowed z w h r s.home lane from below from_below apart t.taken t.leads t.once t.after some))
          (alike-self r.under)
          (λ q. dite (ℕ_discrete (times q t.taken) 0)
          (λ none. inl (pool-stays z w h r s.home lane from below from_below apart t.taken t.leads t.once t.after q (has-none q t.taken none)))
          (λ more. let in_it = has-some q t.taken (omega arith) in
          let at = pool-on z w h r s.home lane from below from_below apart t.taken t.leads t.once t.after q in_it in inr (
            ap (λ (x : Spot). x.generation) at,
            idle-home (pool_after z h q).phase (home-parts z h lane q (taken-home z w h r s.home lane from below from_below apart t.taken t.leads t.once t.after q (omega arith))).home,
            idle-with lane (pool_after z (h ++ acts.Collect lane t.taken ∷ []) q).phase (ap (λ (x : Spot). x.phase) at),
          )))
          (take_keeps z w h r s.home lane from below from_below apart t.taken t.leads t.once t.after);
    }

-- ---- the laws

pub take-none-law : TakeNoneLaw
take-none-law z m lane from s below from_below apart none = (
  keeps z m kinds.Take (Stack lane from) 0 None m.lanes refl tt (rule-same z m.words m.history m.lanes (Stack lane from) 0 (sym none) s),
  λ place is same.
      let t = stacked z m.words m.history m.lanes s.home lane place (lane-from z m.history lane place is (subst (λ (l : ℕ). l < z.lanes) (sym same) from_below)) in
      let at_from : t.lane ≡ from = sym (s.home.returned lane t.lane below t.below t.apart t.thread t.leads place t.among) ∙ same in
      let empty : t.thread ≡ [] = leads-zero m.words.link lane (m.words.stack lane t.lane) t.thread (ap (m.words.stack lane) at_from ∙ none) t.leads in
      let bad : 0 < times place [] = subst (λ (xs : List ℕ). 0 < times place xs) empty t.among in
      absurd (omega arith),
)

pub take-chain-law : TakeChainLaw
take-chain-law z m lane from s below from_below apart some =
    let t = take_rule z m.words m.history m.lanes s lane from below from_below apart some in
    let chain = t.stand.home.chained lane below in
    let same : put_at m.lanes.chain lane t.places lane ≡ t.places = at-here m.lanes.chain lane t.places lane refl in (
      t.places,
      t.leads,
      leads-word m.words.link lane (m.words.stack lane from) t.places
          (λ q more. (chain.each q (subst (λ (xs : List ℕ). 0 < times q xs) (sym same) more)).own) t.leads,
      keeps z m kinds.Take (Stack lane from) 0 (Some (acts.Collect lane t.places)) (with_chain m.lanes lane t.places) refl tt t.stand,
    )

pub follow-law : FollowLaw
follow-law z m lane place more s below is =
    let f = follow_rule z m.words m.history m.lanes s lane place more below is in
    let chain = s.home.chained lane below in (
      f.1,
      leads-word m.words.link lane (m.words.link place) more
          (λ q some. (chain.each q (subst (λ (xs : List ℕ). 0 < times q xs) (sym is) (omega arith))).own) f.1,
      keeps z m kinds.Follow (Link place) (m.words.link place) None (with_chain m.lanes lane more) refl tt
          (rule-same z m.words m.history (with_chain m.lanes lane more) (Link place) (m.words.link place) refl f.0),
    )
