-- The guest's return comes behind all that the lane did, and the lane hears of it: so the row that it gathers has the place.
use Rattle.std.proofs.Common.{◌≡◌, ◌≢◌, ◌+◌, ℕ, true, List, [], ◌++◌, refl, sym, ap, ◌∙◌, subst, arith, append-nil}
use mathlib.Core.List.{IsPrefix}
use Rattle.keybits.specs.declared.shape.Shape.{Shape}
use Rattle.keybits.specs.Places.{shard_of}
use Rattle.keybits.specs.Rows.{set_places}
use Rattle.seqpool.specs.declared.act.Act.{Act}
use Rattle.seqpool.specs.Pool.{has}
use Rattle.seqpool.specs.Histories.{acts_of}
use Rattle.seqpool.proofs.Growth.{acts-append}
use Rattle.steplaws.specs.Facts.{guest_home}
use Rattle.steplaws.specs.StepLaws.{row_of}
use Rattle.poolsteps.specs.declared.view.View.{View}
use Rattle.poolsteps.specs.Seats.{looked_once}
use Rattle.poolsteps.specs.Views.{the_lane}
use Rattle.poolsteps.proofs.ViewLemmas.{prefix-trans}
use Rattle.seatcalls.specs.Guests.{given_acts}
use Rattle.seatcalls.specs.Visitors.{GuestOf, Visits}
use Rattle.seatcalls.proofs.parts.Visiting.{visits-more}
use Rattle.shardpool.specs.Tokens.{LaneOf, NoteOf}
use Rattle.shardpool.specs.Lanes.{Did}
use Rattle.shardpool.specs.Gathers.{AfterGather, AfterTakeBack}
use Rattle.shardpool.proofs.frame.Tellings.{then-told}
use Rattle.shardpool.proofs.free.EmptiedRows.{given-heard}
use Rattle.shardpool.proofs.pool.Pool.take_back.Given.{Over}
use Rattle.shardpool.proofs.pool.Pool.take_back.Goals as goal
use Rattle.shardpool.proofs.pool.Pool.take_back.Goals.{After-gather}

-- a lane that did nothing has the same acts in what it then saw
same-acts : {x y : LaneOf} (l : ℕ) → Did [] x y → (the_lane x.book).lane ≡ l → acts_of l x.book.seen ≡ acts_of l y.book.seen
same-acts {x} {y} l did lane =
    let goes = did.goes in
    sym (ap (acts_of l) goes.seen ∙ (acts-append l x.book.seen goes.more
    ∙ (ap (λ (more : List Act). acts_of l x.book.seen ++ more) (ap (λ (n : ℕ). acts_of n goes.more) (sym lane) ∙ goes.own) ∙ append-nil (acts_of l x.book.seen))))

-- a guest that told made one look more
told-once : {made : List Act} {steps looks : ℕ} {old new : GuestOf} → Visits made steps looks old new → Visits made steps (looks + 1) old (record new { book = looked_once new.book })
told-once visits =
    let acted = visits.acted in record {
      same = visits.same;
      acted = record {
        one = acted.one;
        lane = acted.lane;
        mine = acted.mine;
        seen = acted.seen;
        rooms = acted.rooms;
        legal = acted.legal;
        owners = acted.owners;
        quiet = acted.quiet;
        own = acted.own;
      };
      stepped = visits.stepped;
      looked = let few = visits.looked in omega (arith, few);
    }

-- the lane took the place back, where the row that it gathered has it
takes-back : {place generation row count : ℕ} {old between new : LaneOf} → row ≡ row_of place → Did [] old between → between.book.steps ≡ old.book.steps
    → between.book.looks ≡ old.book.looks + 2 → (gathers : AfterGather row between new count)
    → (generation ≢ old.shape.last_generation → has (set_places old.number row gathers.word) place ≡ true) → AfterTakeBack place generation old new
takes-back {place} {generation} {row} {count} {old} {between} {new} is did steps looks gathers listed =
    let at : (g : AfterGather (row_of place) between new count) × (generation ≢ old.shape.last_generation → has (set_places old.number (row_of place) g.word) place ≡ true)
    = subst (λ (r : ℕ). (g : AfterGather r between new count) × (generation ≢ old.shape.last_generation → has (set_places old.number r g.word) place ≡ true)) is (gathers, listed) in record {
      between = between;
      hears = did;
      steps = steps;
      looks = looks;
      count = count;
      gathers = at.0;
      listed = at.1;
    }

-- it hears of the guests's return, by the words of the lane
home-heard : (old between : LaneOf) (seen heard : List Act) (place : ℕ) (z : Shape) → Did [] old between → (the_lane old.book).lane ≡ old.number → IsPrefix old.book.seen seen
    → IsPrefix seen heard → IsPrefix heard between.book.seen → z ≡ old.shape → shard_of place ≡ old.number → guest_home z heard (shard_of place) place ≡ true
    → guest_home between.shape between.book.seen between.number place ≡ true
home-heard old between seen heard place z did lane first second third shape own home =
    let now : guest_home between.shape heard between.number place ≡ true
    = (λ i. guest_home ((did.same.1 ∙ sym shape) i) heard ((did.same.2 ∙ sym own) i) place) ∙ home in
    given-heard between.shape old.book.seen heard between.book.seen between.number place (prefix-trans old.book.seen seen heard first second) third
    (same-acts between.number did (lane ∙ sym did.same.2)) did.goes.legal now

-- what the lane did up to the gather
hears : (g : Over) (c : After-gather g) → Did [] c.args.lane.now c.hear-2.new.lane
hears g c = then-told (subst (λ (lane : LaneOf). Did [] lane c.hear-2.new.lane) c.tell-note.ensures.lane c.hear-2.ensures.goes)

-- it is the claimed place that is given back
same-place : (g : Over) (c : After-gather g) → c.hear.new.self.place ≡ c.args.claimed.place
same-place g c = λ i. (c.hear.ensures.claimed i).place

same-generation : (g : Over) (c : After-gather g) → c.hear.new.self.generation ≡ c.args.claimed.generation
same-generation g c = λ i. (c.hear.ensures.claimed i).generation

pub returns-clause-gives : goal.returns-clause-gives
returns-clause-gives g c =
    let after = (goal.at.returns-clause-gives g c).After-gather in
    let same = c.hear.ensures.goes.same in
    let made : given_acts c.hear.new.self.guest.shape c.hear.new.self.guest.number c.hear.new.self.place c.hear.new.self.generation
    ≡ given_acts c.args.claimed.guest.shape c.args.claimed.guest.number c.args.claimed.place c.args.claimed.generation
    = λ i. given_acts (same.1 i) (same.2 i) (same-place g after i) (same-generation g after i) in
    subst (λ (guest : GuestOf). Visits (given_acts c.args.claimed.guest.shape c.args.claimed.guest.number c.args.claimed.place c.args.claimed.generation) 1 4 c.args.claimed.guest guest)
    (sym c.tell-hand.ensures.guest)
    (subst (λ (acts : List Act). Visits acts 1 4 c.args.claimed.guest (record c.give_back-guest.result { book = looked_once c.give_back-guest.result.book })) made
    (visits-more c.hear.ensures.goes (told-once c.give_back-guest.ensures.gives) (omega arith) (omega arith)))

pub returns-clause-takes : goal.returns-clause-takes
returns-clause-takes g c =
    let after = (goal.at.returns-clause-takes g c).After-gather in
    let did = hears g after in
    let told = ap (λ (lane : LaneOf). lane.book.looks) c.tell-note.ensures.lane in
    let heard = c.hear-2.ensures.looks in
    let old : LaneOf = c.args.lane.now in
    let between : LaneOf = c.hear-2.new.lane in
    let place : ℕ = c.args.claimed.place in
    let shape : c.hear.new.self.guest.shape ≡ old.shape = c.hear.ensures.goes.same.1 ∙ (c.requires.owns.1.1 ∙ sym c.requires.owns.0.1) in
    let row : c.row_of-row.result ≡ row_of place = c.row_of-row.ensures ∙ ap row_of c.place.ensures.place in
    takes-back row did (c.hear-2.ensures.steps ∙ ap (λ (lane : LaneOf). lane.book.steps) c.tell-note.ensures.lane) (omega (arith, told, heard)) c.gather.ensures.gathers
    (λ below.
    let back = c.give_back-guest.ensures in
    let home = back.home (λ last. below (sym (same-generation g after) ∙ (last ∙ ap (λ (z : Shape). z.last_generation) shape))) in
    let given : guest_home between.shape between.book.seen between.number place ≡ true
    = home-heard old between c.hear.new.self.guest.book.seen c.give_back-guest.result.book.seen place c.hear.new.self.guest.shape did c.seen_law.ensures.number.0
    (subst (λ (seen : List Act). IsPrefix seen c.hear.new.self.guest.book.seen) (ap (λ (note : NoteOf). note.book.seen) c.note.view_is ∙ c.tell-note.ensures.note.1) c.hear.ensures.heard.acts)
    back.gives.acted.seen
    (subst (λ (seen : List Act). IsPrefix seen between.book.seen) (ap (λ (me : _). me.0.seen) c.tell-hand.ensures.note.1) c.hear-2.ensures.heard.0)
    shape c.requires.own (subst (λ (p : ℕ). guest_home c.hear.new.self.guest.shape c.give_back-guest.result.book.seen (shard_of p) p ≡ true) (same-place g after) home) in
    ap (λ (n : ℕ). has (set_places n c.row_of-row.result c.gather.ensures.gathers.word) place) (sym did.same.2) ∙ c.gather.ensures.gathers.given place given (sym row))

pub returns-clause-fillings : goal.returns-clause-fillings
returns-clause-fillings g c = λ filling made. c.gather.ensures.fillings filling (c.hear-2.ensures.fillings filling (c.tell-note.ensures.fillings filling made))
