-- A look at the generation of a place that nobody has makes a filling of it.
use Rattle.std.proofs.Common.{◌≡◌, ℕ, false, List, [], refl, sym, ap, ◌∙◌, subst, arith}
use Rattle.std.specs.List.{Contains}
use Rattle.std.proofs.lemmas.List.Elements.{All-nil}
use Rattle.atomic_table.specs.Table.{Me}
use Rattle.keybits.specs.declared.shape.Shape.{Shape}
use Rattle.keybits.specs.Shapes.{is_place}
use Rattle.keybits.specs.Keys.{place_of}
use Rattle.freelists.specs.Queues.{FreePlaces}
use Rattle.freelists.specs.Shards.{ShardPages}
use Rattle.seqpool.specs.Pool.{with, has, pool_after}
use Rattle.poolsteps.specs.PlaceLaws.{gives_away}
use Rattle.poolsteps.specs.declared.view.View.{View}
use Rattle.poolsteps.specs.Layout.{slot_start}
use Rattle.poolsteps.specs.Views.{the_lane}
use Rattle.poolsteps.specs.Told.{Sees, MayPublish}
use Rattle.seatcalls.specs.Carried.{AreEmptied}
use Rattle.shardpool.specs.Tokens.{LaneOf, FillingOf}
use Rattle.shardpool.specs.Lanes.{IsFilling, SameLane}
use Rattle.shardpool.specs.LaneStates.{FitsSeat}
use Rattle.shardpool.specs.Creates.{IsLoose, Fills}
use Rattle.shardpool.proofs.frame.LaneFrames.{passes-sees}
use Rattle.shardpool.proofs.frame.KeptPlaces.{spot-passes, blank-passes}
use Rattle.shardpool.proofs.frame.SeenHistories.{same-chain}

-- a look, whatever the hand holds
pub bare-sees : {S : Type 0} {z : Shape} {a b : Me S View} → Sees z a b → Sees {S = Unit {0}} z (a.0, []) (b.0, [])
bare-sees sees = record { goes = sees.goes; held = refl; steps = sees.steps; looks = sees.looks }

pub filled : {T : Type 0} (content : T → List ℕ) (room : T → ℕ) (was new : LaneOf) (place : ℕ) (object : T) (filling : FillingOf T) → FitsSeat was.shape was.book was.number
    → IsLoose content room was place object → Sees {S = Unit {0}} was.shape (was.book, []) (new.book, []) → SameLane was new → new.free ≡ was.free → new.pages ≡ was.pages
    → filling.table ≡ was.table → filling.directory ≡ was.directory → filling.start ≡ slot_start was.shape place → place_of filling.key ≡ place → filling.object ≡ object → MayPublish was.shape new.book filling.key → Fills was new place object filling
filled content room was new place object filling seat loose sees same free pages table directory start at object_is may =
    let passes = passes-sees sees in
    let chain = same-chain sees in
    let none = All-nil (λ act. gives_away act place ≡ false) in
    let blank = blank-passes passes seat.paired seat.own loose.blank refl none in
    let number : (the_lane new.book).lane ≡ new.number = passes.acted.lane ∙ (sym seat.number_is ∙ sym same.2) in
    let fills : IsFilling new place = record {
      inside = ap (λ (z : Shape). is_place z place) same.1 ∙ loose.filling.inside;
      own = loose.filling.own ∙ sym same.2;
      opened = let below = loose.filling.opened in let opened = ap (λ (p : ShardPages). p.opened) pages in omega (arith, below, opened);
      with_lane = ap (λ (z : Shape). (pool_after z new.book.seen place).phase) same.1 ∙ (blank.with_lane ∙ ap with number);
      unlisted = λ one listed is. loose.filling.unlisted one (subst (λ (f : FreePlaces). Contains f.own one) free listed) is;
      unchained = ap (λ (xs : List ℕ). has xs place) chain ∙ loose.filling.unchained;
    } in record {
      made = record {
        table = table ∙ sym same.0;
        directory = directory ∙ sym same.3;
        place = subst (IsFilling new) (sym at) fills;
        start = start ∙ (λ i. slot_start (sym same.1 i) (sym at i));
        may = subst (λ (z : Shape). MayPublish z new.book filling.key) (sym same.1) may;
        emptied = subst (λ (z : Shape). AreEmptied z (the_lane new.book) (place_of filling.key)) (sym same.1)
            (subst (AreEmptied was.shape (the_lane new.book)) (sym at) blank.emptied);
      };
      place_is = at;
      object_is = object_is;
      sees = sees;
      same = same;
      free_same = (free, chain, pages);
      room = (spot-passes passes.acted seat.paired seat.own place loose.blank.with_lane none).1;
    }
