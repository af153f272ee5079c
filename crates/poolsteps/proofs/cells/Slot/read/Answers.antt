use Rattle.std.proofs.Common.{◌≡◌, ℕ, Some, None, Option, refl, ap, sym, ◌∙◌}
use Rattle.poolsteps.specs.Held.{Held, portion_of}
use Rattle.poolsteps.specs.Parts.{shown_by}
use Rattle.poolsteps.specs.Share.{Share}
use Rattle.poolsteps.specs.SlotFields.{slot_shown_by}
use denote.RawPtr.{Ptr}
use Rattle.poolsteps.specs.Spot.{Spot, IsAt}
use Rattle.poolsteps.proofs.cells.Slot.read.Goals as goal

held-at : {T : Type 0} (held : Option (Held T)) (share : Share T) (p : Ptr) (i : ℕ) → slot_shown_by held ≡ Some share → IsAt share.spot p i
    → (x : Held T) × (held ≡ Some x) × (p ≡ x.base) × (i ≡ x.index)
held-at {T} (Some x) share p i is at =
    let same : shown_by (portion_of x) ≡ share = cc is in let spot = ap (λ (s : Share T). s.spot) same in
    (x, refl, sym (ap (λ (s : Spot). s.directory) spot ∙ at.0), sym (ap (λ (s : Spot). s.index) spot ∙ at.1))
held-at {T} None share p i is at = absurd (cc is)

pub read-requires : goal.read-requires
read-requires g c = held-at c.self.inside.portion.held c.requires.0 c.args.directory.ptr c.args.index (c.self.view_is ∙ c.requires.1) c.requires.2
