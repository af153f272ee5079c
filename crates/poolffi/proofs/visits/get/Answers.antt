-- The lane missed the key; or it keeps the reference, and so many bytes are told as the object has.
use Rattle.std.proofs.Common.{length, refl, ap, ◌∙◌, inl}
use Rattle.poolffi.proofs.visits.get.Goals as goal

pub returns-in_default-clause-gets : goal.returns-in_default-clause-gets
returns-in_default-clause-gets c = inl (refl, c.in_default.ensures.lends.gets)

pub returns-clause-gets : goal.returns-clause-gets
returns-clause-gets c =
    let lent = c.in-Some.ensures.lends.lent in let read = c.in-Some-read.ensures.some in (
      rw lent.0 at c.in-Some.ensures.lends.gets,
      c.lane-lane.ensures ∙ lent.1,
      (c.in-Some-read.object.now.bytes, read.0, read.1, c.place_of-at.ensures ∙ ap length c.as_slice.ensures),
    )
