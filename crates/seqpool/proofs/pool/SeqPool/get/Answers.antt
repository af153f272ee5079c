use Rattle.std.proofs.Common.{rules, ◌≡◌, ◌∙◌, ℕ, Option, List, Some, None, true, false, cond, refl, sym, ap}
use Rattle.std.proofs.lemmas.Bool.{false≢true}
use Rattle.std.proofs.lemmas.Option.{MatchOption-at_none}
use Rattle.keybits.specs.Keys.{place_of}
use Rattle.seqpool.specs.declared.act.Act.TheVariants.{Get}
use Rattle.seqpool.specs.Pool.{Phase, with, published, home, retired, after, Spot, content_in, is_unmarked, is_current}
use Rattle.seqpool.specs.Rows.{pool_in, phase_of}
use Rattle.seqpool.proofs.Acts.{gets, found-here}
use Rattle.seqpool.proofs.pool.SeqPool.get.Goals as goal

pub returns-in_ok-gain-in-Some-Some : goal.returns-in_ok-gain-in-Some-Some
returns-in_ok-gain-in-Some-Some c =
    let here : content_in (phase_of c.row-in-Some-Some.result.now.standing) ≡ Some c.in-Some-Some.content = search rules in
    let shows : content_in (pool_in c.args.self.now c.in-Some-Some.place).phase ≡ Some c.in-Some-Some.content =
    ap (λ (s : Spot). content_in s.phase) (sym c.row-in-Some-Some.ensures) ∙ here in
    let is = c.in-Some-Some.ensures {u = tt} in
    let made = gets c.args.self.now.shape (pool_in c.args.self.now) (pool_in c.gain.new.self) c.args.lane c.args.key c.in-Some-Some.place c.in-Some-Some.content is.0 is.2 shows (c.in_ok-gain-in-Some-Some.ensures {u = tt}).pool in
    let reply_is : c.args.reply.now ≡ Some c.in-Some-Some.content = search rules in
    (reply_is ∙ made.0, made.1 ∙ ap (λ (o : Option (List ℕ)). after c.args.self.now.shape (Get c.args.lane c.args.key o) (pool_in c.args.self.now)) (sym reply_is), c.gain.ensures.shape)

unmarked-shows : (f : Phase) → is_unmarked f ≡ true → None ≡ content_in f → ⊥
unmarked-shows (with k) is none = false≢true is
unmarked-shows (published content references true) is none = false≢true is
unmarked-shows (published content references false) is none = absurd (cc none)
unmarked-shows home is none = false≢true is
unmarked-shows retired is none = false≢true is

something : (content : List ℕ) → Some content ≡ None → ⊥
something content is = absurd (cc is)

pub row-requires : goal.row-requires
row-requires c = (c.in-Some-None.ensures {u = tt}).1

pub row-requires-in-Some-Some : goal.row-requires-in-Some-Some
row-requires-in-Some-Some c = (c.in-Some-Some.ensures {u = tt}).1

pub gain-requires-clause-place : goal.gain-requires-clause-place
gain-requires-clause-place c = (c.in-Some-Some.ensures {u = tt}).1

pub gain-requires-clause-lane : goal.gain-requires-clause-lane
gain-requires-clause-lane c = c.requires

pub returns-then-is_unmarked : goal.returns-then-is_unmarked
returns-then-is_unmarked c =
    let is = c.in-Some-None.ensures {u = tt} in
    let shown = found-here c.args.self.now.shape (pool_in c.args.self.now) (pool_in c.args.self.now) c.args.key is.0 in (
      refl,
      λ same. unmarked-shows (phase_of c.row.result.now.standing) (sym c.is_unmarked.ensures ∙ c.if-is_unmarked.true)
          (sym c.in-Some-None.is-1 ∙ (same ∙ (shown ∙ (ap (λ (p : ℕ). content_in (pool_in c.args.self.now p).phase) (sym is.2)
          ∙ ap (λ (s : Spot). content_in s.phase) (sym c.row.ensures))))),
    )

pub returns-then-not-shows : goal.returns-then-not-shows
returns-then-not-shows c =
    let is = c.in-Some-Some.ensures {u = tt} in
    let shown = found-here c.args.self.now.shape (pool_in c.args.self.now) (pool_in c.args.self.now) c.args.key is.0 in (
      refl,
      λ same. false≢true (sym c.if-not-shows.true ∙ c.shows.ensures.1 (ap (λ (s : Spot). content_in s.phase) c.row-in-Some-Some.ensures
          ∙ (ap (λ (p : ℕ). content_in (pool_in c.args.self.now p).phase) is.2 ∙ (sym shown ∙ (sym same ∙ c.in-Some-Some.is-1))))),
    )

pub returns-in-None-Some : goal.returns-in-None-Some
returns-in-None-Some c =
    let gone : is_current c.args.self.now.shape (pool_in c.args.self.now) c.args.key ≡ false =
    MatchOption-at_none _ _ c.in-None-Some.is-0 c.current.ensures in (
      refl,
      λ same. something c.in-None-Some.field-0-1 (sym c.in-None-Some.is-1 ∙ (same
          ∙ ap (λ b. cond b (content_in (pool_in c.args.self.now (place_of c.args.key)).phase) None) gone)),
    )
