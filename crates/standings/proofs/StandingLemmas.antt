-- Traces whose words, contents and lanes are the same leave the same behind.
use Rattle.std.proofs.Common.{◌≡◌, ◌⊎◌, inl, inr, ℕ, ◌<◌, ◌≤◌, ◌^◌, Bool, true, false, cond, eqb, List, [], ◌∷◌, ◌++◌, length, map, length-append, append_assoc, append-nil, Option, Some, None, refl, ap, sym, ◌∙◌, subst, arith, eq-eqb, ne_eqb, eqb-true}
use Rattle.std.proofs.lemmas.Bool.{cases_Bool, cases_lt}
use Rattle.std.proofs.lemmas.List.{length-map}
use mathlib.Core.Path.{fun_ext}
use mathlib.Core.Logic.{dite}
use native.Mathlib.Decide.{ℕ_discrete}
use Rattle.keybits.specs.declared.shape.Shape.{Shape}
use Rattle.keybits.specs.Keys.{key_number, place_of, generation_of}
use Rattle.keybits.specs.Places.{shard_of}
use Rattle.keybits.specs.Shapes.{IsShape, is_place, callers}
use Rattle.keybits.specs.Words.{state_in, generation_in}
use Rattle.keybits.proofs.ShapeLemmas.{is_place-parts}
use Rattle.seqpool.specs.declared.act.Act.{Act}
use Rattle.seqpool.specs.declared.act.Act.TheVariants.{Publish, Get, Release, Clear, Reclaim, Home, Collect}
use Rattle.seqpool.specs.Pool.{Phase, with, published, home, retired, Pool, fresh, is_current, references_in, references, pool_after, IsLegal}
use Rattle.seqpool.proofs.Ranks.{current-from}
use Rattle.steplaws.specs.Facts.{Words, bits_of}
use Rattle.steplaws.proofs.Generations.{key_now}
use Rattle.steplaws.proofs.Updates.{at-here, at-else}
use Rattle.traces.specs.declared.script.Command.{Command}
use Rattle.traces.specs.declared.trace.Turn.{Turn}
use Rattle.traces.specs.Books.{Book, first_book, act_list}
use Rattle.traces.specs.Following.{row_content}
use Rattle.traces.specs.Lawful.{World, first_words, first_world, script_or_none, book_after, world_after, world_from, world_of, AreTurns, IsLawful}
use Rattle.traces.specs.Parts.{count_if}
use Rattle.traces.specs.Owning.{is_with, IsOwned, Holds}
use Rattle.traces.specs.TurnLaws.{DoneCommand, turns_of, all_acts, all_replies}
use Rattle.traces.proofs.StepCalls.{same_some}
use Rattle.traces.proofs.Throughout.{turn_below, holds-law}
use Rattle.traces.proofs.TurnLawsScripts.{script-law}
use Rattle.standings.specs.Alike.{book_behind, AreSameLanes}
use Rattle.standings.specs.Behind.{words_behind, content_after, content_behind, ShareAt, Share, AreSameBehind}
use Rattle.standings.proofs.Going.{turn_book}
use Rattle.standings.proofs.PoolLemmas.{outside_stays, none_beyond, with_below, latest_behind}
use Rattle.std.specs.Prelude.{slice_get}

-- ---- phases

count_one : (a b : Bool) → count_if a ≡ count_if b → a ≡ b
count_one true true e = refl
count_one true false e = absurd (omega arith)
count_one false true e = absurd (omega arith)
count_one false false e = refl

-- what tells two phases to be the same
record AreOne (most : ℕ) (f g : Phase) : Type 0 where
  bits : bits_of f ≡ bits_of g
  lanes : (k : ℕ) → k < most → is_with k f ≡ is_with k g
  ours : (k : ℕ) → f ≡ with k → k < most
  theirs : (k : ℕ) → g ≡ with k → k < most
  contents : (c d : List ℕ) → row_content f ≡ Some c → row_content g ≡ Some d → c ≡ d
  referred : (lane : ℕ) → references_in f lane ≡ references_in g lane

one_lane : (j k : ℕ) → eqb j j ≡ eqb k j → with j ≡ with k
one_lane j k e = ap (λ (n : ℕ). with n) (sym (eqb-true k j (sym e ∙ eq-eqb j j refl)))

no_lane : (k : ℕ) → eqb k k ≡ false → ⊥
no_lane k e = let bad : true ≡ false = sym (eq-eqb k k refl) ∙ e in cc bad

one_phase : (most : ℕ) (f g : Phase) → AreOne most f g → f ≡ g
one_phase most (with j) (with k) o = one_lane j k (o.lanes j (o.ours j refl))
one_phase most (with j) (published d s true) o = let bits = o.bits in absurd (omega arith)
one_phase most (with j) (published d s false) o = let bits = o.bits in absurd (omega arith)
one_phase most (with j) home o = absurd (no_lane j (o.lanes j (o.ours j refl)))
one_phase most (with j) retired o = let bits = o.bits in absurd (omega arith)
one_phase most (published c r true) (with k) o = let bits = o.bits in absurd (omega arith)
one_phase most (published c r false) (with k) o = let bits = o.bits in absurd (omega arith)
one_phase most (published c r true) (published d s true) o =
    let e = o.contents c d refl refl in
    let f = fun_ext o.referred in
    λ i. published (e i) (f i) true
one_phase most (published c r true) (published d s false) o = let bits = o.bits in absurd (omega arith)
one_phase most (published c r false) (published d s true) o = let bits = o.bits in absurd (omega arith)
one_phase most (published c r false) (published d s false) o =
    let e = o.contents c d refl refl in
    let f = fun_ext o.referred in
    λ i. published (e i) (f i) false
one_phase most (published c r true) home o = let bits = o.bits in absurd (omega arith)
one_phase most (published c r false) home o = let bits = o.bits in absurd (omega arith)
one_phase most (published c r true) retired o = let bits = o.bits in absurd (omega arith)
one_phase most (published c r false) retired o = let bits = o.bits in absurd (omega arith)
one_phase most home (with k) o = absurd (no_lane k (sym (o.lanes k (o.theirs k refl))))
one_phase most home (published d s true) o = let bits = o.bits in absurd (omega arith)
one_phase most home (published d s false) o = let bits = o.bits in absurd (omega arith)
one_phase most home home o = refl
one_phase most home retired o = let bits = o.bits in absurd (omega arith)
one_phase most retired (with k) o = let bits = o.bits in absurd (omega arith)
one_phase most retired (published d s true) o = let bits = o.bits in absurd (omega arith)
one_phase most retired (published d s false) o = let bits = o.bits in absurd (omega arith)
one_phase most retired home o = let bits = o.bits in absurd (omega arith)
one_phase most retired retired o = refl

-- ---- the pool of two worlds with the same words and books

fresh_none : (b : Bool) → (let n : ℕ = cond b 0 0 in n) ≡ 0
fresh_none true = refl
fresh_none false = refl

module _ (z : Shape) (shape : IsShape z) (wide : z.last_generation < 2 ^ 32) (alone : z.guests ≡ 0) where
  -- a lane's references to the key that a place has now
  references_now : (h : List Act) (place lane : ℕ) → is_place z place ≡ true
      → references z (pool_after z h) lane (key_number z.tag place (pool_after z h place).generation)
      ≡ references_in (pool_after z h place).phase lane
  references_now h place lane inside =
      let P : Pool = pool_after z h in
      let key : ℕ = key_number z.tag place (pool_after z h place).generation in
      let k = key_now z shape wide h place inside in
      let here : (pool_after z h (place_of (key_number z.tag place (pool_after z h place).generation))).generation ≡ generation_of (key_number z.tag place (pool_after z h place).generation)
      = ap (λ (p : ℕ). (pool_after z h p).generation) k.1 ∙ sym k.2 in
      let now = current-from z (pool_after z h) (key_number z.tag place (pool_after z h place).generation) k.0 here in
      ap (λ (b : Bool). cond b (references_in (pool_after z h (place_of (key_number z.tag place (pool_after z h place).generation))).phase lane) 0) now
      ∙ ap (λ (p : ℕ). references_in (pool_after z h p).phase lane) k.1

  module _ (w v : World) (ours : Holds z w) (theirs : Holds z v) (words : w.words ≡ v.words) (books : w.books ≡ v.books) (place : ℕ)
      (inside : is_place z place ≡ true) where
    generations : (pool_after z w.history place).generation ≡ (pool_after z v.history place).generation
    generations =
        sym (ours.rule.state place inside).1 ∙ ap (λ (ws : Words). generation_in (ws.life place)) words ∙ (theirs.rule.state place inside).1

    bits : bits_of (pool_after z w.history place).phase ≡ bits_of (pool_after z v.history place).phase
    bits = sym (ours.rule.state place inside).0 ∙ ap (λ (ws : Words). state_in (ws.life place)) words ∙ (theirs.rule.state place inside).0

    -- the other pool, by the one's book
    owned : (lane : ℕ) → lane < z.lanes → IsOwned z (pool_after z v.history) lane (w.books lane)
    owned lane below = subst (λ (bs : ℕ → Book). IsOwned z (pool_after z v.history) lane (bs lane)) (sym books) (theirs.owned lane below)

    lanes : (k : ℕ) → k < callers z → is_with k (pool_after z w.history place).phase ≡ is_with k (pool_after z v.history place).phase
    lanes k below =
        let less : k < z.lanes = omega arith in
        let p = (ours.owned k less).places place inside in
        let q = (owned k less).places place inside in
        count_one (is_with k (pool_after z w.history place).phase) (is_with k (pool_after z v.history place).phase) (omega arith)

    key_same : (lane : ℕ) → references z (pool_after z v.history) lane (key_number z.tag place (pool_after z w.history place).generation)
        ≡ references_in (pool_after z v.history place).phase lane
    key_same lane =
        ap (λ (n : ℕ). references z (pool_after z v.history) lane (key_number z.tag place n)) generations ∙ references_now v.history place lane inside

    referred : (lane : ℕ) → references_in (pool_after z w.history place).phase lane ≡ references_in (pool_after z v.history place).phase lane
    referred lane =
        let middle : references z (pool_after z w.history) lane (key_number z.tag place (pool_after z w.history place).generation)
        ≡ references z (pool_after z v.history) lane (key_number z.tag place (pool_after z w.history place).generation)
        = elim (cases_lt lane z.lanes) [
          | inl less ↦
              let p = (ours.owned lane less).references (key_number z.tag place (pool_after z w.history place).generation) in
              let q = (owned lane less).references (key_number z.tag place (pool_after z w.history place).generation) in
              omega arith
          | inr past ↦
              let most : callers z ≤ lane = omega arith in
              none_beyond z lane (key_number z.tag place (pool_after z w.history place).generation) most w.history fresh ours.rule.legal
              (fresh_none (is_current z fresh (key_number z.tag place (pool_after z w.history place).generation)))
              ∙ sym (none_beyond z lane (key_number z.tag place (pool_after z w.history place).generation) most v.history fresh theirs.rule.legal
              (fresh_none (is_current z fresh (key_number z.tag place (pool_after z w.history place).generation))))
        ] in
        sym (references_now w.history place lane inside) ∙ middle ∙ key_same lane

    below : (h : List Act) → IsLegal z h → (k : ℕ) → (pool_after z h place).phase ≡ with k → k < callers z
    below h legal = with_below z h fresh place legal
        (λ k e. let same : shard_of place ≡ k = cc e in let less = (is_place-parts z place inside).0 in omega arith)

    one_spot : ((c d : List ℕ) → row_content (pool_after z w.history place).phase ≡ Some c → row_content (pool_after z v.history place).phase ≡ Some d → c ≡ d)
        → pool_after z w.history place ≡ pool_after z v.history place
    one_spot contents =
        let phase = one_phase (callers z) (pool_after z w.history place).phase (pool_after z v.history place).phase record {
          bits = bits;
          lanes = lanes;
          ours = below w.history ours.rule.legal;
          theirs = below v.history theirs.rule.legal;
          contents = contents;
          referred = referred;
        } in
        λ i. record { generation = generations i; phase = phase i }

  one_pool : (w v : World) → Holds z w → Holds z v → w.words ≡ v.words → w.books ≡ v.books
      → ((place : ℕ) (c d : List ℕ) → row_content (pool_after z w.history place).phase ≡ Some c
      → row_content (pool_after z v.history place).phase ≡ Some d → c ≡ d)
      → pool_after z w.history ≡ pool_after z v.history
  one_pool w v ours theirs words books contents = fun_ext (λ place. elim (cases_Bool (is_place z place)) [
    | inl inside ↦ one_spot w v ours theirs words books place inside (contents place)
    | inr outside ↦ outside_stays z w.history fresh place outside ours.rule.legal ∙ sym (outside_stays z v.history fresh place outside theirs.rule.legal)
  ])

-- ---- what traces tell

-- where something was published last at a place, a publish of the one trace says that both share it
module _ (ts us : List Turn) (place : ℕ) (content : List ℕ) where
  abbrev Same : Type 0
  Same = content_behind place None ts ≡ content_behind place None us

  shared : (of : List Turn) (latest : Option (List ℕ)) → content_behind place latest of ≡ Some content → Share ts us of
      → (latest ≡ Some content) ⊎ Same
  shared [] latest e share = inl e
  shared (t ∷ of) latest e share = past t.act (shared of (content_after place t.act latest) e share.1) share.0
    where
      at : (key : ℕ) (more : List ℕ) (b : Bool) → eqb place (place_of key) ≡ b → cond b (Some more) latest ≡ Some content
          → content_behind (place_of key) None ts ≡ content_behind (place_of key) None us → (latest ≡ Some content) ⊎ Same
      at key more true is e same =
          inr (subst (λ (p : ℕ). content_behind p None ts ≡ content_behind p None us) (sym (eqb-true place (place_of key) is)) same)
      at key more false is e same = inl e

      past : (act : Option Act) → (content_after place act latest ≡ Some content) ⊎ Same → ShareAt ts us act → (latest ≡ Some content) ⊎ Same
      past act (inr same) share = inr same
      past None (inl e) share = inl e
      past (Some (Publish lane key more with_ref)) (inl e) share = at key more (eqb place (place_of key)) refl e share
      past (Some (Get lane key reply)) (inl e) share = inl e
      past (Some (Release lane key)) (inl e) share = inl e
      past (Some (Clear lane key reply)) (inl e) share = inl e
      past (Some (Reclaim lane key)) (inl e) share = inl e
      past (Some (Home lane at)) (inl e) share = inl e
      past (Some (Collect lane places)) (inl e) share = inl e

  both_share : Share ts us ts → content_behind place None ts ≡ Some content → Same
  both_share share e = only (shared ts None e share)
    where
      only : (None ≡ Some content) ⊎ Same → Same
      only (inl bad) = cc bad
      only (inr same) = same

module _ (z : Shape) where
  history_behind : (ts : List Turn) (w : World) → (world_from z w ts).history ≡ w.history ++ all_acts ts
  history_behind [] w = sym (append-nil w.history)
  history_behind (t ∷ ts) w = history_behind ts (world_after z w t) ∙ append_assoc w.history (act_list t.act) (all_acts ts)

  words_from : (ts : List Turn) (w : World) → (world_from z w ts).words ≡ words_behind w.words ts
  words_from [] w = refl
  words_from (t ∷ ts) w = words_from ts (world_after z w t)

  books_from : (lane : ℕ) (ts : List Turn) (w : World) → (world_from z w ts).books lane ≡ book_behind z lane (w.books lane) (turns_of lane ts)
  books_from lane [] w = refl
  books_from lane (t ∷ ts) w =
      let more = books_from lane ts (world_after z w t) in
      dite (ℕ_discrete t.lane lane)
      (λ mine.
      more ∙ ap (λ (b : Book). book_behind z lane b (turns_of lane ts)) (at-here w.books t.lane (book_after z w t) lane (sym mine)
      ∙ ap (λ (n : ℕ). turn_book z n (w.books n) t) mine)
      ∙ sym (ap (λ (b : Bool). book_behind z lane (w.books lane) (cond b (t ∷ turns_of lane ts) (turns_of lane ts))) (eq-eqb t.lane lane mine)))
      (λ other.
      more ∙ ap (λ (b : Book). book_behind z lane b (turns_of lane ts)) (at-else w.books t.lane (book_after z w t) lane (λ e. other (sym e)))
      ∙ sym (ap (λ (b : Bool). book_behind z lane (w.books lane) (cond b (t ∷ turns_of lane ts) (turns_of lane ts))) (ne_eqb t.lane lane other)))

  no_turns : (lane : ℕ) → z.lanes ≤ lane → (schedule : List ℕ) (w : World) (ts : List Turn) → AreTurns z w schedule ts → turns_of lane ts ≡ []
  no_turns lane past [] w [] are = refl
  no_turns lane past [] w (t ∷ ts) are = absurd are
  no_turns lane past (x ∷ xs) w [] are = refl
  no_turns lane past (x ∷ xs) w (t ∷ ts) (inl are) = no_turns lane past xs w (t ∷ ts) are.1
  no_turns lane past (x ∷ xs) w (t ∷ ts) (inr are) =
      let less = turn_below z w t.lane are.1.unfinished in
      ap (λ (b : Bool). cond b (t ∷ turns_of lane ts) (turns_of lane ts)) (ne_eqb t.lane lane (λ e. absurd (omega arith)))
      ∙ no_turns lane past xs (world_after z w t) ts are.2

  -- a lane has a command for each reply
  commands_suffice : (scripts : List (List Command)) (schedule : List ℕ) (ts : List Turn) → IsLawful z scripts schedule ts → (lane : ℕ)
      → length (all_replies (turns_of lane ts)) ≤ length (script_or_none (slice_get scripts lane))
  commands_suffice scripts schedule ts lawful lane =
      let f = script-law z scripts schedule ts lawful lane in
      let a = ap length f.replies_are in
      let b = length-map f.dones (λ (d : DoneCommand). d.reply) in
      let c = ap length f.script_is in
      let d = length-append (map (λ (d : DoneCommand). d.command) f.dones) f.left in
      let e = length-map f.dones (λ (d : DoneCommand). d.command) in
      omega arith

  same_books : (scripts : List (List Command)) (schedule other : List ℕ) (ts us : List Turn) → IsLawful z scripts schedule ts → IsLawful z scripts other us
      → ((lane : ℕ) → lane < z.lanes → AreSameLanes lane ts us) → (lane : ℕ)
      → (world_of z scripts ts).books lane ≡ (world_of z scripts us).books lane
  same_books scripts schedule other ts us x y lanes lane =
      let middle : book_behind z lane (first_book (script_or_none (slice_get scripts lane))) (turns_of lane ts)
      ≡ book_behind z lane (first_book (script_or_none (slice_get scripts lane))) (turns_of lane us) = elim (cases_lt lane z.lanes) [
        | inl less ↦ (lanes lane less).books z (first_book (script_or_none (slice_get scripts lane))) (commands_suffice scripts schedule ts x lane)
        | inr past ↦
            ap (book_behind z lane (first_book (script_or_none (slice_get scripts lane))))
            (no_turns lane past schedule (first_world scripts) ts x.turns ∙ sym (no_turns lane past other (first_world scripts) us y.turns))
      ] in
      books_from lane ts (first_world scripts) ∙ middle ∙ sym (books_from lane us (first_world scripts))

fresh_latest : (place : ℕ) (content : List ℕ) → row_content (fresh place).phase ≡ Some content → None ≡ Some content
fresh_latest place content e = e

pub same_behind : (z : Shape) (ts us : List Turn) → IsShape z → z.last_generation < 2 ^ 32 → z.guests ≡ 0
    → words_behind first_words ts ≡ words_behind first_words us → Share ts us ts
    → ((lane : ℕ) → lane < z.lanes → AreSameLanes lane ts us) → AreSameBehind z ts us
same_behind z ts us shape wide alone words share lanes = record {
  standing = λ scripts schedule other x y.
      let w : World = world_of z scripts ts in
      let v : World = world_of z scripts us in
      let books : w.books ≡ v.books = fun_ext (same_books z scripts schedule other ts us x y lanes) in
      let same : w.words ≡ v.words = words_from z ts (first_world scripts) ∙ words ∙ sym (words_from z us (first_world scripts)) in
      let first = history_behind z ts (first_world scripts) in
      let second = history_behind z us (first_world scripts) in
      let contents : (place : ℕ) (c d : List ℕ) → row_content (pool_after z w.history place).phase ≡ Some c
      → row_content (pool_after z v.history place).phase ≡ Some d → c ≡ d =
      λ place c d e f.
      let ours = latest_behind z ts fresh place None (fresh_latest place) c (ap (λ (h : List Act). row_content (pool_after z h place).phase) (sym first) ∙ e) in
      let theirs = latest_behind z us fresh place None (fresh_latest place) d (ap (λ (h : List Act). row_content (pool_after z h place).phase) (sym second) ∙ f) in
      same_some c d (sym ours ∙ both_share ts us place c share ours ∙ theirs) in
      record {
        pool = one_pool z shape wide alone w v (holds-law z scripts schedule ts shape alone wide x) (holds-law z scripts other us shape alone wide y) same books contents;
        words = same;
        books = books;
      };
  replies = λ lane less. (lanes lane less).replies;
}
