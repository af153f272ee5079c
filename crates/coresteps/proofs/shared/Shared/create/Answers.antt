use Rattle.std.proofs.Common.{◌≡◌, ◌≤◌, ℕ, ap, sym, ◌∙◌, subst}
use Rattle.std.specs.Prelude.{option_copied}
use Rattle.keybits.specs.Keys.{key_number}
use Rattle.seqpool.specs.Pool.{pool_after}
use Rattle.traces.specs.declared.script.Command.TheVariants as commands
use Rattle.traces.specs.declared.reply.Reply.TheVariants as replies
use Rattle.traces.specs.Following.{CommandReplies}
use Rattle.coresteps.specs.declared.progress.Held.TheVariants.{Empty}
use Rattle.coresteps.specs.declared.progress.KeptRegister.{KeptRegister}
use Rattle.coresteps.specs.declared.progress.Progress.{Progress}
use Rattle.coresteps.specs.Lanes.{slot_at}
use Rattle.coresteps.specs.Kept.{IsReplied}
use Rattle.coresteps.proofs.CreateLemmas.{IsHandedOut, places_chained, create_skips, create_fills, create_hands, out_place, out_generation, life_generation}
use Rattle.coresteps.proofs.shared.Shared.create.Goals as goal

pub returns-in_default : goal.returns-in_default
returns-in_default c = λ w more draft at over left.
    create_skips c.args.self.now w (option_copied c.args.made) c.args.number c.args.lane.now c.args.progress.now c.args.register more draft
    c.requires.lane at left (λ e. c.in_default.not-Empty (ap (λ (s : KeptRegister). s.held) c.slot.ensures ∙ e))

pub hand_out-requires-clause-chain : goal.hand_out-requires-clause-chain
hand_out-requires-clause-chain c =
    let d = c.requires.draft in (
      _,
      places_chained c.args.self.now d.0 (option_copied c.args.made) c.args.number c.args.lane.now c.args.progress.now c.args.register d.1 d.2
          c.requires.lane d.3 d.5,
    )

pub returns-in_default-hand_out : goal.returns-in_default-hand_out
returns-in_default-hand_out c = λ w more draft at over left.
    let given : IsHandedOut c.args.self.now (option_copied c.args.made) c.args.number c.args.lane.now.ring.items c.args.progress.now
    c.hand_out.new.progress c.hand_out.result = record {
      place = c.hand_out.ensures.place;
      free = c.hand_out.ensures.free;
      list = c.hand_out.ensures.list;
      rest = c.hand_out.ensures.rest;
      settled = c.hand_out.ensures.settled;
    } in
    create_fills c.args.self.now w (option_copied c.args.made) c.args.number c.args.lane.now c.args.progress.now c.args.register more draft
    c.requires.lane at left (ap (λ (s : KeptRegister). s.held) (sym c.slot.ensures) ∙ c.in-Empty.is) c.hand_out.result c.hand_out.new.progress given
    c.in_default-hand_out.is

pub life-requires-clause-place : goal.life-requires-clause-place
life-requires-clause-place c =
    let d = c.requires.draft in
    let given : IsHandedOut c.args.self.now (option_copied c.args.made) c.args.number c.args.lane.now.ring.items c.args.progress.now
    c.hand_out.new.progress c.hand_out.result = record {
      place = c.hand_out.ensures.place;
      free = c.hand_out.ensures.free;
      list = c.hand_out.ensures.list;
      rest = c.hand_out.ensures.rest;
      settled = c.hand_out.ensures.settled;
    } in
    (out_place c.args.self.now d.0 (option_copied c.args.made) c.args.number c.args.lane.now c.args.progress.now c.args.register d.1 d.2
    c.requires.lane d.3 d.5 (ap (λ (s : KeptRegister). s.held) (sym c.slot.ensures) ∙ c.in-Empty.is) c.hand_out.result c.hand_out.new.progress given
    c.in-Some.place c.in-Some.is).0

pub key_of-key-requires-clause-place : goal.key_of-key-requires-clause-place
key_of-key-requires-clause-place c =
    let d = c.requires.draft in
    let given : IsHandedOut c.args.self.now (option_copied c.args.made) c.args.number c.args.lane.now.ring.items c.args.progress.now
    c.hand_out.new.progress c.hand_out.result = record {
      place = c.hand_out.ensures.place;
      free = c.hand_out.ensures.free;
      list = c.hand_out.ensures.list;
      rest = c.hand_out.ensures.rest;
      settled = c.hand_out.ensures.settled;
    } in
    (out_place c.args.self.now d.0 (option_copied c.args.made) c.args.number c.args.lane.now c.args.progress.now c.args.register d.1 d.2
    c.requires.lane d.3 d.5 (ap (λ (s : KeptRegister). s.held) (sym c.slot.ensures) ∙ c.in-Empty.is) c.hand_out.result c.hand_out.new.progress given
    c.in-Some.place c.in-Some.is).0

pub key_of-key-requires-clause-generation : goal.key_of-key-requires-clause-generation
key_of-key-requires-clause-generation c =
    let d = c.requires.draft in
    let given : IsHandedOut c.args.self.now (option_copied c.args.made) c.args.number c.args.lane.now.ring.items c.args.progress.now
    c.hand_out.new.progress c.hand_out.result = record {
      place = c.hand_out.ensures.place;
      free = c.hand_out.ensures.free;
      list = c.hand_out.ensures.list;
      rest = c.hand_out.ensures.rest;
      settled = c.hand_out.ensures.settled;
    } in
    let held : (slot_at c.args.progress.now.slots c.args.register.number).held ≡ Empty =
    ap (λ (s : KeptRegister). s.held) (sym c.slot.ensures) ∙ c.in-Empty.is in
    let is = (out_place c.args.self.now d.0 (option_copied c.args.made) c.args.number c.args.lane.now c.args.progress.now c.args.register d.1 d.2
    c.requires.lane d.3 d.5 held c.hand_out.result c.hand_out.new.progress given c.in-Some.place c.in-Some.is).0 in
    subst (λ (n : ℕ). 1 ≤ n)
    (sym (life_generation c.args.self.now d.0 (option_copied c.args.made) d.2 c.in-Some.place c.life.result c.of_word-generation.result.generation is
    (c.life.ensures d.0 d.2) c.of_word-generation.ensures.generation))
    (out_generation c.args.self.now d.0 (option_copied c.args.made) c.args.number c.args.lane.now c.args.progress.now c.args.register d.1 d.2
    c.requires.lane d.3 d.5 held c.hand_out.result c.hand_out.new.progress given c.in-Some.place c.in-Some.is)

pub returns : goal.returns
returns c = λ w more draft at over left.
    let shared = c.args.self.now in
    let made = option_copied c.args.made in
    let lane = c.args.lane.now in
    let old = c.args.progress.now in
    let new = c.hand_out.new.progress in
    let place = c.in-Some.place in
    let key = c.key_of-key.result in
    let given : IsHandedOut shared made c.args.number lane.ring.items old new c.hand_out.result = record {
      place = c.hand_out.ensures.place;
      free = c.hand_out.ensures.free;
      list = c.hand_out.ensures.list;
      rest = c.hand_out.ensures.rest;
      settled = c.hand_out.ensures.settled;
    } in
    let held : (slot_at old.slots c.args.register.number).held ≡ Empty =
    ap (λ (s : KeptRegister). s.held) (sym c.slot.ensures) ∙ c.in-Empty.is in
    let is = (out_place shared w made c.args.number lane old c.args.register more draft c.requires.lane at left held c.hand_out.result new given
    place c.in-Some.is).0 in
    let generation = life_generation shared w made draft place c.life.result c.of_word-generation.result.generation is
    (c.life.ensures w draft) c.of_word-generation.ensures.generation in
    subst (λ (p : Progress). CommandReplies shared.shape (pool_after shared.shape w.history) c.args.number (w.books c.args.number)
    (commands.Create c.args.register) (replies.Filling key)
    × IsReplied shared.shape w.history c.args.number lane (w.books c.args.number) (commands.Create c.args.register) (replies.Filling key) old p)
    (sym c.set_slot.ensures)
    (create_hands shared w made c.args.number lane old c.args.register more draft c.requires.lane at left held c.hand_out.result new given
    place key c.in-Some.is (c.key_of-key.ensures ∙ ap (key_number shared.shape.tag place) generation))
