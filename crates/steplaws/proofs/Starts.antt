-- The rule holds at the start.
use Rattle.keybits.specs.Shapes.{callers}
use Rattle.std.proofs.Common.{inl, ℕ, ◌<◌, Bool, List, [], refl, sym, ◌∙◌, subst, arith}
use mathlib.Core.Path.{fun_ext}
use Rattle.keybits.specs.Places.{shard_of}
use Rattle.keybits.specs.Counts.{times}
use Rattle.keybits.specs.Homes.{AreHome}
use Rattle.keybits.proofs.CountLemmas.{sum-none}
use Rattle.keybits.proofs.LeadLemmas.{leads-zero}
use Rattle.keybits.proofs.HomeLemmas.{empty-law}
use Rattle.keybits.specs.Rows.{row_place}
use Rattle.keybits.proofs.RowLemmas.{bits-none}
use Rattle.steplaws.specs.Facts.{guest_home}
use Rattle.steplaws.proofs.HomePlaces.{not-home, lane-off, guest-off}
use Rattle.steplaws.specs.MomentLaws.{StartLaw}

pub start-law : StartLaw
start-law z words limits wide first = record {
  limits = limits;
  wide = wide;
  legal = tt;
  count = λ place inside. let w = first.life place inside in let a = sum-none (callers z) in omega arith;
  pinned = λ lane key below e. absurd (cc e);
  state = λ place inside. let w = first.life place inside in (omega arith, omega arith);
  owed = λ place generation inside e. let w = first.life place inside in absurd (omega arith);
  home = record {
    stacks = λ shard inside. subst (λ (f : ℕ → Bool). AreHome z shard words.link (words.stack shard) f) (fun_ext (λ q. sym (lane-off z [] shard q (not-home z [] shard q (shard_of q) refl))))
        (empty-law z shard words.link (words.stack shard) (λ lane below apart. first.stack shard lane));
    returned = λ shard lane inside below apart thread leads place some.
        let empty = leads-zero words.link shard (words.stack shard lane) thread (first.stack shard lane) leads in
        let bad : 0 < times place [] = subst (λ (ys : List ℕ). 0 < times place ys) empty some in absurd (omega arith);
    last_pushed = λ shard lane inside below apart. inl (first.stack shard lane);
    bits = λ shard row inside. first.bits shard row ∙ sym (bits-none 64 (λ bit. guest_home z [] shard (row_place shard row bit))
        (λ bit low. guest-off z [] shard (row_place shard row bit) (not-home z [] shard (row_place shard row bit) (shard_of (row_place shard row bit)) refl)));
    returning = λ lane below. tt;
    chained = λ lane below. record { first = 0; leads = refl; each = λ place some. let bad : 0 < 0 = some in absurd (omega arith) };
  };
  few = λ place lane. omega (arith);
}
