use Rattle.std.proofs.Common.{◌≡◌, ◌+◌, ◌∙◌, ℕ, Bool, sym, ap, subst, arith}
use Rattle.keybits.specs.Shapes.{all_places}
use Rattle.seqpool.specs.Pool.{Spot}
use Rattle.seqpool.specs.Rows.{pool_in}
use Rattle.seqpool.specs.Checker.{AreMany, is_in}
use Rattle.seqpool.proofs.GroupCounts.{before, many-none, many-yes, many-no, many-all}
use Rattle.seqpool.proofs.pool.SeqPool.count.Goals as goal
use Rattle.seqpool.proofs.pool.SeqPool.count.Goals.{then-is_in, else-is_in}

pub loop-position-init : goal.loop-position-init
loop-position-init c = record { few = omega arith; many = many-none c.args.self.now.shape (λ place. is_in c.args.group (pool_in c.args.self.now place).phase) }

pub loop-position-preserved : goal.loop-position-preserved
loop-position-preserved c =
    let test : ℕ → Bool = λ place. is_in c.args.group (pool_in c.args.self.now place).phase in
    let at = c.place_at-place.ensures in
    let is : c.is_in.result ≡ test c.place_at-place.result = c.is_in.ensures ∙ ap (λ (s : Spot). is_in c.args.group s.phase) c.row.ensures in
    record {
      few = elim c.if-is_in.branch [ then-is_in w ↦ omega arith | else-is_in w ↦ omega arith ];
      many = elim c.if-is_in.branch [
        | then-is_in w ↦ subst (AreMany (before c.args.self.now.shape test (c.loop-position.position + 1))) (sym w.count-is)
            (many-yes c.args.self.now.shape test c.loop-position.position c.loop-position.count c.place_at-place.result c.args.self.now.checked at.place at.position (sym is ∙ w.if-is_in.true) c.loop-position.invariant.many)
        | else-is_in w ↦ subst (AreMany (before c.args.self.now.shape test (c.loop-position.position + 1))) (sym w.count-is)
            (many-no c.args.self.now.shape test c.loop-position.position c.loop-position.count c.place_at-place.result c.args.self.now.checked at.place at.position (sym is ∙ w.if-is_in.false) c.loop-position.invariant.many)
      ];
    }

pub returns : goal.returns
returns c =
    let test : ℕ → Bool = λ place. is_in c.args.group (pool_in c.args.self.now place).phase in
    let end : c.loop-position.position ≡ all_places c.args.self.now.shape = omega arith in
    many-all c.args.self.now.shape test c.loop-position.count
    (subst (λ (n : ℕ). AreMany (before c.args.self.now.shape test n) c.loop-position.count) end c.loop-position.invariant.many)
