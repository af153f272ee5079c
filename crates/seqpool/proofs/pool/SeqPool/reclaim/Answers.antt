use Rattle.std.proofs.Common.{◌≡◌, ◌+◌, ◌∙◌, ℕ, true, cond, sym, ap, eq-eqb, ne_eqb, ◌<◌, refl, subst, inl, inr}
use Rattle.seqpool.specs.Pool.{Spot, spot, with, retired, references_in, is_marked, Phase}
use Rattle.seqpool.specs.Rows.{pool_in, phase_of}
use Rattle.seqpool.proofs.Acts.{reclaims}
use Rattle.keybits.specs.Keys.{place_of}
use Rattle.seqpool.proofs.pool.SeqPool.reclaim.Goals as goal

pub returns-then-generation-self : goal.returns-then-generation-self
returns-then-generation-self c =
    let is = c.in-Some.ensures {u = tt} in
    let marks : is_marked (pool_in c.args.self.now c.in-Some.place).phase ≡ true =
    ap (λ (s : Spot). is_marked s.phase) (sym c.row-row.ensures) ∙ (sym c.is_marked.ensures ∙ c.if-not-is_marked.false) in
    let held : (other : ℕ) → references_in (phase_of c.row-row.result.now.standing) other ≡ 0 = c.if-is_held.ensures {u = tt} in
    let none : (other : ℕ) → references_in (pool_in c.args.self.now c.in-Some.place).phase other ≡ 0 =
    λ other. ap (λ (s : Spot). references_in s.phase other) (sym c.row-row.ensures) ∙ held other in
    let g : ℕ = c.row-row.result.now.generation in
    let made = reclaims c.args.self.now.shape (pool_in c.args.self.now) (pool_in c.put.new.self) c.args.lane c.args.key c.in-Some.place g (spot g retired) is.0 is.2 marks none
    (ap (λ (s : Spot). s.generation) (sym c.row-row.ensures))
    (sym (ap (λ b. cond b (spot g retired) (spot (g + 1) (with c.args.lane))) (eq-eqb g c.args.self.now.shape.last_generation c.if-generation-self.true))) c.put.ensures.pool in
    (made.0, made.1, c.put.ensures.shape)

pub returns-else-generation-self : goal.returns-else-generation-self
returns-else-generation-self c =
    let is = c.in-Some.ensures {u = tt} in
    let marks : is_marked (pool_in c.args.self.now c.in-Some.place).phase ≡ true =
    ap (λ (s : Spot). is_marked s.phase) (sym c.row-row.ensures) ∙ (sym c.is_marked.ensures ∙ c.if-not-is_marked.false) in
    let held : (other : ℕ) → references_in (phase_of c.row-row.result.now.standing) other ≡ 0 = c.if-is_held.ensures {u = tt} in
    let none : (other : ℕ) → references_in (pool_in c.args.self.now c.in-Some.place).phase other ≡ 0 =
    λ other. ap (λ (s : Spot). references_in s.phase other) (sym c.row-row.ensures) ∙ held other in
    let g : ℕ = c.row-row.result.now.generation in
    let made = reclaims c.args.self.now.shape (pool_in c.args.self.now) (pool_in c.put-else-generation-self.new.self) c.args.lane c.args.key c.in-Some.place g (spot (g + 1) (with c.args.lane)) is.0 is.2 marks none
    (ap (λ (s : Spot). s.generation) (sym c.row-row.ensures))
    (sym (ap (λ b. cond b (spot g retired) (spot (g + 1) (with c.args.lane))) (ne_eqb g c.args.self.now.shape.last_generation c.if-generation-self.false))) c.put-else-generation-self.ensures.pool in
    (made.0, made.1, c.put-else-generation-self.ensures.shape)

pub row-row-requires : goal.row-row-requires
row-row-requires c = (c.in-Some.ensures {u = tt}).1

pub put-requires : goal.put-requires
put-requires c = (c.in-Some.ensures {u = tt}).1

pub put-requires-else-generation-self : goal.put-requires-else-generation-self
put-requires-else-generation-self c = (c.in-Some.ensures {u = tt}).1

pub returns-in-None : goal.returns-in-None
returns-in-None c = (refl, inl (c.in-None.ensures {u = tt}))

pub returns-then-not-is_marked : goal.returns-then-not-is_marked
returns-then-not-is_marked c =
    let is = c.in-Some.ensures {u = tt} in (
      refl,
      inr (ap (λ (p : ℕ). is_marked (pool_in c.args.self.now p).phase) (sym is.2)
          ∙ (ap (λ (s : Spot). is_marked s.phase) (sym c.row-row.ensures) ∙ (sym c.is_marked.ensures ∙ c.if-not-is_marked.true))),
    )

pub returns-then-is_held : goal.returns-then-is_held
returns-then-is_held c =
    let is = c.in-Some.ensures {u = tt} in
    let held = c.if-is_held.ensures {u = tt} in
    let there : phase_of c.row-row.result.now.standing ≡ (pool_in c.args.self.now (place_of c.args.key)).phase =
    ap (λ (s : Spot). s.phase) c.row-row.ensures ∙ ap (λ (p : ℕ). (pool_in c.args.self.now p).phase) is.2 in (
      refl,
      (
        is.0,
        ap is_marked (sym there) ∙ (sym c.is_marked.ensures ∙ c.if-not-is_marked.false),
        (held.0, subst (λ (f : Phase). 0 < references_in f held.0) there held.1),
      ),
    )
