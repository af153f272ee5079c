use Rattle.std.proofs.Common.{◌≢◌, ◌≡◌, ◌∙◌, ℕ, true, refl, sym, ap, inl, inr}
use Rattle.keybits.specs.declared.shape.Shape.{Shape}
use Rattle.seqpool.specs.declared.fault.ApplyFault.TheVariants.{NotWithLane, WrongGeneration, Memory}
use Rattle.keybits.specs.Keys.{generation_of, is_key, place_of}
use Rattle.seqpool.specs.Pool.{Spot, with}
use Rattle.seqpool.specs.Rows.{pool_in, phase_of, spot_of}
use Rattle.seqpool.proofs.Ranks.{current-from}
use Rattle.std.proofs.lemmas.Bool.{false≢true, and_parts}
use Rattle.keybits.specs.Shapes.{is_place}
use Rattle.seqpool.proofs.pool.SeqPool.place_to_fill.Goals as goal

not-memory : NotWithLane ≢ Memory
not-memory same = absurd (cc)

not-memory-2 : WrongGeneration ≢ Memory
not-memory-2 same = absurd (cc)

-- the place of a key of the shape
place-is : (z : Shape) (key place : ℕ) → is_key z key ≡ true → place ≡ place_of key → is_place z place ≡ true
place-is z key place inside at = ap (is_place z) at ∙ (and_parts _ _ (and_parts _ _ (and_parts _ _ inside).0).0).1

pub returns-clause-ok : goal.returns-clause-ok
returns-clause-ok c =
    let at = c.place_of-place.ensures.place in
    let inside : is_key c.args.self.now.shape c.args.key ≡ true = sym c.fits.ensures ∙ c.if-not-fits.false in
    let here : phase_of c.row-row.result.now.standing ≡ with c.args.lane = (c.if-not-is_with.ensures {u = tt}).0 refl in
    let generation : (pool_in c.args.self.now c.place_of-place.result).generation ≡ generation_of c.args.key =
    ap (λ (s : Spot). s.generation) (sym c.row-row.ensures) ∙ (c.if-row-generation_of.false ∙ c.generation_of.ensures) in (
      (
        current-from c.args.self.now.shape (pool_in c.args.self.now) c.args.key inside (ap (λ (p : ℕ). (pool_in c.args.self.now p).generation) (sym at) ∙ generation),
        place-is c.args.self.now.shape c.args.key c.place_of-place.result inside at,
        at,
      ),
      ap (λ (s : Spot). s.phase) (sym c.row-row.ensures) ∙ here,
    )

pub returns-then-not-fits-clause-ok : goal.returns-then-not-fits-clause-ok
returns-then-not-fits-clause-ok c = tt

pub returns-then-not-fits-clause-err : goal.returns-then-not-fits-clause-err
returns-then-not-fits-clause-err c = λ content with_ref. (not-memory, inl (sym c.fits.ensures ∙ c.if-not-fits.true))

pub row-row-requires : goal.row-row-requires
row-row-requires c =
    let inside : is_key c.args.self.now.shape c.args.key ≡ true = sym c.fits.ensures ∙ c.if-not-fits.false in
    place-is c.args.self.now.shape c.args.key c.place_of-place.result inside c.place_of-place.ensures.place

pub returns-then-not-is_with-clause-ok : goal.returns-then-not-is_with-clause-ok
returns-then-not-is_with-clause-ok c = tt

pub returns-then-not-is_with-clause-err : goal.returns-then-not-is_with-clause-err
returns-then-not-is_with-clause-err c = λ content with_ref.
    let there : phase_of c.row-row.result.now.standing ≡ (pool_in c.args.self.now (place_of c.args.key)).phase =
    ap (λ (s : Spot). s.phase) c.row-row.ensures ∙ ap (λ (p : ℕ). (pool_in c.args.self.now p).phase) c.place_of-place.ensures.place in
    (not-memory, inr (λ is. false≢true (sym c.if-not-is_with.true ∙ c.is_with.ensures.1 (there ∙ is))))

pub returns-then-row-generation_of-clause-ok : goal.returns-then-row-generation_of-clause-ok
returns-then-row-generation_of-clause-ok c = tt

pub returns-then-row-generation_of-clause-err : goal.returns-then-row-generation_of-clause-err
returns-then-row-generation_of-clause-err c = λ content with_ref.
    let there : spot_of c.row-row.result.now ≡ pool_in c.args.self.now (place_of c.args.key) =
    c.row-row.ensures ∙ ap (pool_in c.args.self.now) c.place_of-place.ensures.place in (
      not-memory-2,
      (
        sym c.fits.ensures ∙ c.if-not-fits.false,
        ap (λ (s : Spot). s.phase) (sym there) ∙ c.is_with.ensures.0 c.if-not-is_with.false,
        λ is. c.if-row-generation_of.true (ap (λ (s : Spot). s.generation) there ∙ (is ∙ sym c.generation_of.ensures)),
      ),
    )

pub returns-clause-err : goal.returns-clause-err
returns-clause-err c = λ content with_ref. tt
