use Rattle.std.proofs.Common.{◌≡◌, ◌+◌, ◌<◌, ◌≤◌, ◌++◌, Bool, true, false, List, ℕ, length, sym, ap, ap₂, ◌∙◌, subst}
use Rattle.std.proofs.Math.Nat.{lt_of_not-le}
use Rattle.slotcell.specs.ByteBuf.{ByteBuf}
use Rattle.workers.proofs.Running.{on-ok, on-err, runs-write, runs-refused}
use Rattle.workers.proofs.lines.write.Goals as goal

-- what fails, and can't where something is small enough, finds it too large
too-small : (ok : Bool) (wanted room : ℕ) → false ≡ ok → (wanted ≤ room → ok ≡ true) → room < wanted
too-small ok wanted room fails fits = lt_of_not-le (λ (within : wanted ≤ room). let both : false ≡ true = fails ∙ fits within in absurd (cc both))

pub returns-then-appended : goal.returns-then-appended
returns-then-appended c pool lane tidy =
    let now = on-ok c.append.result _ c.if-appended.ensures.value c.append.ensures.ok in
    let before = ap (λ (b : ByteBuf). b.bytes) c.value_mut.ensures.object in
    runs-write c.args.register tidy c.args.bytes.now c.in-Some.filling (sym c.in-Some.ensures.filling) c.append.new.self c.take_filling.new.registers c.hold.new.registers
    c.in-Some.ensures.registers c.hold.ensures (now ∙ ap₂ (λ (xs ys : List ℕ). xs ++ ys) before c.as_slice.ensures)
    (subst (λ (b : ByteBuf). b.room ≤ c.append.new.self.room) c.value_mut.ensures.object c.append.ensures.room_kept)

pub returns-else-appended : goal.returns-else-appended
returns-else-appended c pool lane tidy =
    let now = on-err c.append.result _ c.if-appended.ensures.value c.append.ensures.err in
    let small = too-small _ _ _ c.if-appended.ensures.value c.append.ensures.within_room in
    runs-refused c.args.register tidy c.args.bytes.now c.in-Some.filling (sym c.in-Some.ensures.filling) c.append.new.self c.take_filling.new.registers c.hold.new.registers
    c.in-Some.ensures.registers c.hold.ensures (now ∙ c.value_mut.ensures.object)
    (subst (λ (b : ByteBuf). b.room < length b.bytes + length c.args.bytes.now) c.value_mut.ensures.object
    (subst (λ (xs : List ℕ). c.value_mut.result.now.room < length c.value_mut.result.now.bytes + length xs) c.as_slice.ensures small))
