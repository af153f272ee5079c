-- Several steps of a clear, or of a filling that is dropped, in one operation, through the table: each step where it may be made, one after another, and the exchange that is all of them.
use Rattle.poolsteps.specs.Spot.{Spot as CellSpot}
use mathlib.Core.Logic.{dite}
use native.Mathlib.Decide.{ℕ_discrete}
use prog.Atomic.{either}
use Rattle.std.proofs.Common.{◌≡◌, ◌≢◌, ◌==◌, inl, inr, ⊎_elim, ℕ, ◌+◌, ◌-◌, ◌%◌, ◌^◌, ◌<◌, ◌≤◌, Bool, true, false, cond, eqb, ◌&&◌, List, [], ◌∷◌, length, Option, refl, ap, sym, ◌∙◌, subst, arith, bit_or, eq-eqb, ne_eqb, slice_index}
use Rattle.std.proofs.lemmas.Bool.{and_parts, cases_Bool, eqb-true}
use Rattle.atomic_table.specs.Table.{Me, State, Allows, carried_after, stepped}
use Rattle.poolsteps.specs.Share.{Share}
use Rattle.keybits.specs.declared.shape.Shape.{Shape}
use Rattle.keybits.specs.declared.step.Word.TheVariants.{Life}
use Rattle.keybits.specs.Shapes.{is_place}
use Rattle.keybits.specs.Keys.{place_of, generation_of, is_key}
use Rattle.keybits.specs.Words.{state_in, count_in, generation_in, claimable, is_hit, owes_claim}
use Rattle.keybits.specs.Steps.{claim_gives}
use Rattle.keybits.proofs.WordLemmas.{or_two}
use Rattle.keybits.proofs.KeyLemmas.{key_parts, generation_of-lt}
use Rattle.seqpool.specs.declared.act.Act.{Act}
use Rattle.steplaws.specs.declared.pending.Pending.TheVariants.{Nothing, Undo, Owes}
use Rattle.steplaws.specs.StepLaws.{owed_after}
use Rattle.steplaws.proofs.Enters.{clear-hits-law, clear-misses-law}
use Rattle.poolsteps.specs.declared.steps.Purpose.TheVariants.{ToClear}
use Rattle.poolsteps.specs.declared.view.LaneRecord.{LaneRecord}
use Rattle.poolsteps.specs.declared.view.View.{View}
use Rattle.poolsteps.specs.Layout.{index_in, words_in}
use Rattle.poolsteps.specs.Rule.{Kept}
use Rattle.poolsteps.specs.declared.view.Stored.{Stored}
use Rattle.poolsteps.specs.Views.{the_lane, head_record, known_of, IsOne}
use Rattle.poolsteps.specs.Told.{GoesOn, EntersClear, Publishes, Marks, Leaves, Claims, Sees, IsIdle, MayPublish, IsShared}
use Rattle.poolsteps.specs.AtOnce.{unreferred, unpublished, MakesSweep, MakesStrike, MakesMiss, MakesWithdraw, Sweeps, Strikes, Withdraws}
use Rattle.poolsteps.proofs.LayoutLemmas.{index-below, value-is}
use Rattle.poolsteps.proofs.Making.{moment_of, life-allows}
use Rattle.poolsteps.proofs.SeatLemmas.{is-at}
use Rattle.poolsteps.proofs.Entering.{enter-makes}
use Rattle.poolsteps.proofs.Publishing.{publish-makes}
use Rattle.poolsteps.proofs.Marking.{mark-makes}
use Rattle.poolsteps.proofs.Leaving.{leave-makes}
use Rattle.poolsteps.proofs.Claiming.{claim-makes}
use Rattle.poolsteps.proofs.Seeing.{see-allows}
use Rattle.poolsteps.proofs.Composing.{Comes, Stood, comes-of, comes-next}

-- ---- booleans

both-true : (a b : Bool) → a ≡ true → b ≡ true → (a && b) ≡ true
both-true a b e f = ap (λ (x : Bool). x && b) e ∙ f

not-both : {A : Type 0} (b : Bool) → b ≡ true → b ≡ false → A
not-both b is isnt = let bad : true ≡ false = sym is ∙ isnt in absurd (cc bad)

-- ---- the words between the steps

-- the word of a key to which nobody refers is a hit
pub hit-first : (key : ℕ) → is_hit key (unreferred (generation_of key)) ≡ true
hit-first key =
    let word : ℕ = unreferred (generation_of key) in
    let below = generation_of-lt key in
    both-true (eqb (generation_in word) (generation_of key)) (eqb (state_in word) 1) (eq-eqb (generation_in word) (generation_of key) (omega arith)) (eq-eqb (state_in word) 1 (omega arith))

-- of what its MARK leaves, the claim is owed
owed-third : (place generation : ℕ) → generation < 4294967296 → owed_after place (unreferred generation + 6) ≡ Owes place generation
owed-third place generation below =
    let word : ℕ = unreferred generation + 6 in
    let owes : owes_claim word ≡ true = both-true (eqb (state_in word) 3) (eqb (count_in word) 1) (eq-eqb (state_in word) 3 (omega arith)) (eq-eqb (count_in word) 1 (omega arith)) in
    let of : generation_in word ≡ generation = omega arith in
    ap (λ (b : Bool). cond b (Owes place (generation_in word)) Nothing) owes ∙ ap (Owes place) of

claimed-word : (generation new : ℕ) → either (eqb (unreferred generation + 2) (claimable generation)) new (unreferred generation + 2) ≡ new
claimed-word generation new = ap (λ (b : Bool). either b new (unreferred generation + 2)) (eq-eqb (unreferred generation + 2) (claimable generation) (omega arith))

-- what a hit's word has
present : (key word : ℕ) → is_hit key word ≡ true → state_in word ≡ 1
present key word hit = eqb-true (state_in word) 1 (and_parts (eqb (generation_in word) (generation_of key)) (eqb (state_in word) 1) hit).1

-- a hit's word takes the mark's bit without a carry
marked-word : (word : ℕ) → state_in word ≡ 1 → bit_or (word + 4) 2 ≡ word + 6
marked-word word is =
    let still : state_in (word + 4) ≡ 1 = omega arith in
    or_two (word + 4) (inl still) ∙ omega arith

pub struck : (key word : ℕ) → is_hit key word ≡ true → word < 2 ^ 64 → (word + 2) % 2 ^ 64 ≡ word + 2
struck key word hit small = let is = present key word hit in omega arith

-- ---- the seat after a step

-- a seat that went on with this record is that of one lane, and has this under way
lone : {z : Shape} {before after : View} {made : List Act} {rooms : List ℕ} {r : LaneRecord} → GoesOn z before after made rooms r → IsOne after
lone goes = goes.lanes ∙ ap (λ (lanes : List LaneRecord). head_record lanes ∷ []) (sym goes.lanes)

under-now : {z : Shape} {before after : View} {made : List Act} {rooms : List ℕ} {r : LaneRecord} → GoesOn z before after made rooms r → (the_lane after).under ≡ r.under
under-now goes = ap (λ (lanes : List LaneRecord). (head_record lanes).under) goes.lanes

module _ {T : Type 0} (content : T → List ℕ) (room : T → ℕ) (spots : ℕ → CellSpot) (z : Shape) (slots id : ℕ) (me : Me (Option (Share T)) View) (one : IsOne me.0)
    (key : ℕ) (good : is_key z key ≡ true) (idle : IsIdle me.0) where
  abbrev Mine : Type 0
  Mine = Me (Option (Share T)) View

  abbrev Table : Type 0
  Table = State (Option (Share T)) View

  abbrev place : ℕ
  place = place_of key

  abbrev index : ℕ
  index = index_in z (Life place)

  abbrev Holds : Table → Type 0
  Holds = Kept content room spots z

  -- at this table the seat has this view, and the key's word is this
  abbrev At : Table → Mine → ℕ → Type 0
  At = Stood Holds id index slots

  -- there the word may become this number, and the seat is then told this
  abbrev Goes : Table → Mine → ℕ → (Mine → Type 0) → Type 0
  Goes = Comes Holds id index

  inside : is_place z place ≡ true
  inside = (key_parts z key good).place

  -- ---- each step, where it may be made

  enters : (s : Table) (word : ℕ) → At s me word → word < 18446744073709551616 → (word + 4) % 2 ^ 64 ≡ word + 4 → Goes s me (word + 4) (EntersClear z key me word)
  enters s word at small leaves =
      comes-of Holds id index at (λ n. (n + 4) % 2 ^ 64) (EntersClear z key me)
      (life-allows content room spots z slots id me one place inside (λ n. (n + 4) % 2 ^ 64) (EntersClear z key me)
      (λ words w homes point here low. enter-makes content room spots z words w homes point me key here low good idle ToClear (λ get. absurd (cc get))))
      small (word + 4) leaves

  marks : (s : Table) (entered : Mine) (word left : ℕ) → At s entered word → IsOne entered.0 → (the_lane entered.0).under ≡ Undo key true
      → word < 18446744073709551616 → bit_or word 2 ≡ left → Goes s entered left (Marks z key entered word)
  marks s entered word left at lone_entered under small leaves =
      comes-of Holds id index at (λ n. bit_or n 2) (Marks z key entered)
      (life-allows content room spots z slots id entered lone_entered place inside (λ n. bit_or n 2) (Marks z key entered)
      (λ words w homes point here low. mark-makes content room spots z words w homes point entered key here under))
      small left leaves

  undoes : (s : Table) (before : Mine) (word left : ℕ) (hit : Bool) → At s before word → IsOne before.0 → (the_lane before.0).under ≡ Undo key hit
      → word < 18446744073709551616 → (word + (2 ^ 64 - 4)) % 2 ^ 64 ≡ left → Goes s before left (Leaves z key before word)
  undoes s before word left hit at lone_before under small leaves =
      comes-of Holds id index at (λ n. (n + (2 ^ 64 - 4)) % 2 ^ 64) (Leaves z key before)
      (life-allows content room spots z slots id before lone_before place inside (λ n. (n + (2 ^ 64 - 4)) % 2 ^ 64) (Leaves z key before)
      (λ words w homes point here low. leave-makes content room spots z words w homes point before key here low inside (inr (hit, under))))
      small left leaves

  -- the ENTER and MARK of a hit, and what comes of the word that they leave
  enters-and-marks : (s : Table) (word left : ℕ) (then : Mine → Mine → Type 0) → At s me word → is_hit key word ≡ true → word < 18446744073709551616 → (word + 4) % 2 ^ 64 ≡ word + 4
      → ((next : Table) (marked : Mine) → At next marked (word + 6) → IsOne marked.0 → (the_lane marked.0).under ≡ Undo key true → Goes next marked left (then marked))
      → Goes s me left (λ after. (entered : Mine) × EntersClear z key me word entered × ((marked : Mine) × Marks z key entered (word + 4) marked × then marked after))
  enters-and-marks s word left then at hit small leaves more =
      let is = present key word hit in
      let low : word + 4 < 18446744073709551616 = omega arith in
      comes-next Holds id index at (word + 4) left (EntersClear z key me word) (λ entered after. (marked : Mine) × Marks z key entered (word + 4) marked × then marked after)
      (enters s word at small leaves)
      (λ next entered there told. let steps = told.0 hit in
      comes-next Holds id index there (word + 6) left (Marks z key entered (word + 4)) then
      (marks next entered (word + 4) (word + 6) there (lone steps.goes) (under-now steps.goes) low (marked-word word is))
      (λ last marked here marks_told. more last marked here (lone marks_told.goes) (under-now marks_told.goes)))

  -- ---- an exchange from a word that is expected, which is this where it finds that word, and that where it finds another

  exchanges : (expected new : ℕ) (then : ℕ → Mine → Type 0)
      → ((s : Table) → At s me expected → expected < 18446744073709551616 → Goes s me new (then expected))
      → ((s : Table) (word : ℕ) → At s me word → word < 18446744073709551616 → word ≢ expected → Goes s me word (then word))
      → Allows Holds slots id me index (λ word. either (word == expected) new word) then
  exchanges expected new then hits others s kept homes at small =
      let word : ℕ = slice_index s.words index in
      let low : index < length s.words = subst (λ (n : ℕ). index < n) (sym kept.1.count) (index-below z kept.1.rule.limits (Life place) inside) in
      dite (ℕ_discrete word expected)
      (λ same.
      let made = hits s record { kept = kept; homes = homes; inside = low; at = at; word = same } (subst (λ (n : ℕ). n < 18446744073709551616) same small) in
      let left : new ≡ either (eqb word expected) new word = sym (ap (λ (b : Bool). either b new word) (eq-eqb word expected same)) in (
        made.0,
        made.1,
        made.2,
        subst (λ (n : ℕ). Holds (stepped s index n id me.1 made.0 made.1)) left made.3,
        subst (λ (n : ℕ). then n (made.0, carried_after me.1 made.1)) (sym same) made.4,
      ))
      (λ other.
      let made = others s word record { kept = kept; homes = homes; inside = low; at = at; word = refl } small other in
      let left : word ≡ either (eqb word expected) new word = sym (ap (λ (b : Bool). either b new word) (ne_eqb word expected other)) in (
        made.0,
        made.1,
        made.2,
        subst (λ (n : ℕ). Holds (stepped s index n id me.1 made.0 made.1)) left made.3,
        made.4,
      ))

  -- told more of the same step
  told-more : (s : Table) (left : ℕ) (less more : Mine → Type 0) → ((after : Mine) → less after → more after) → Goes s me left less → Goes s me left more
  told-more s left less more gives made = (made.0, made.1, made.2, made.3, gives (made.0, carried_after me.1 made.1) made.4)

  looks : (s : Table) (word : ℕ) → At s me word → word < 18446744073709551616 → Goes s me word (Sees z me)
  looks s word at small =
      comes-of Holds id index at (λ n. n) (λ found after. Sees z me after) (see-allows content room spots z slots id me one index) small word refl

  -- ---- STRIKE

  -- the count has room where the rule holds, also at a miss
  fits : (s : Table) (word : ℕ) → At s me word → count_in word < 1073741823
  fits s word at =
      let w = at.kept.0 in
      let st = at.kept.1 in
      let here = is-at content room spots z id me one w s.homes s.words s.views st at.at in
      let found : (words_in z s.words).life place ≡ word = value-is z s.words (Life place) inside ∙ at.word in
      let moment = moment_of (words_in z s.words) w in
      let under = sym here.record_is.under ∙ idle in
      ⊎_elim
      (λ hit. let law = clear-hits-law z moment (the_lane me.0).lane key st.rule (here.record_is.inside, under) good (ap (is_hit key) found ∙ hit) in
      subst (λ (n : ℕ). count_in n < 1073741823) found law.room)
      (λ miss. let law = clear-misses-law z moment (the_lane me.0).lane key st.rule (here.record_is.inside, under) good (ap (is_hit key) found ∙ miss) in
      subst (λ (n : ℕ). count_in n < 1073741823) found law.room)
      (cases_Bool (is_hit key word))

  pub strike-allows : (first : ℕ) → is_hit key first ≡ true → Allows Holds slots id me index (λ word. either (word == first) (first + 2) word) (Strikes z key first me)
  strike-allows first hit =
      exchanges first (first + 2) (Strikes z key first me)
      (λ s at small.
      let is = present key first hit in
      let room = fits s first at in
      let low : first + 6 < 18446744073709551616 = omega arith in
      let enters_to : (first + 4) % 2 ^ 64 ≡ first + 4 = omega arith in
      let leaves_to : (first + 6 + (2 ^ 64 - 4)) % 2 ^ 64 ≡ first + 2 = omega arith in
      told-more s (first + 2) (MakesStrike z key first me) (Strikes z key first me first) (λ after strike. (λ found. strike, λ other. absurd (other refl)))
      (enters-and-marks s first (first + 2) (λ marked after. Leaves z key marked (first + 6) after) at hit small enters_to
      (λ next marked there lone_marked under. undoes next marked (first + 6) (first + 2) true there lone_marked under low leaves_to)))
      (λ s word at small other. told-more s word (Sees z me) (Strikes z key first me word) (λ after sees. (λ found. absurd (other found), λ unequal. sees)) (looks s word at small))

  -- ---- SWEEP, and a miss

  sweeps : (new : ℕ) → (generation_of key ≤ z.last_generation → new ≡ claim_gives z.last_generation (generation_of key) (claimable (generation_of key)))
      → (s : Table) → At s me (unreferred (generation_of key)) → Goes s me new (MakesSweep z key me)
  sweeps new gives s at =
      let first : ℕ = unreferred (generation_of key) in
      let below = generation_of-lt key in
      let small : first < 18446744073709551616 = omega arith in
      let low : first + 6 < 18446744073709551616 = omega arith in
      let lower : first + 2 < 18446744073709551616 = omega arith in
      let enters_to : (first + 4) % 2 ^ 64 ≡ first + 4 = omega arith in
      let leaves_to : (first + 6 + (2 ^ 64 - 4)) % 2 ^ 64 ≡ first + 2 = omega arith in
      let Claimed : Mine → Mine → Type 0 = λ left. Claims z place (generation_of key) left (first + 2) in
      enters-and-marks s first new (λ marked after. (left : Mine) × Leaves z key marked (first + 6) left × Claimed left after) at (hit-first key) small enters_to
      (λ next marked there lone_marked under.
      comes-next Holds id index there (first + 2) new (Leaves z key marked (first + 6)) Claimed
      (undoes next marked (first + 6) (first + 2) true there lone_marked under low leaves_to)
      (λ last left here told. let steps = told.1 true under in
      comes-of Holds id index here (λ word. either (word == claimable (generation_of key)) new word) (Claims z place (generation_of key) left)
      (life-allows content room spots z slots id left (lone steps.goes) place inside (λ word. either (word == claimable (generation_of key)) new word) (Claims z place (generation_of key) left)
      (λ words w homes point spot under_it. claim-makes content room spots z words w homes point left place (generation_of key) new spot inside
      (under-now steps.goes ∙ owed-third place (generation_of key) below) gives))
      lower new (claimed-word (generation_of key) new)))

  misses : (s : Table) (word : ℕ) → At s me word → word < 18446744073709551616 → is_hit key word ≡ false → Goes s me word (MakesMiss z key word me)
  misses s word at small miss =
      let room = fits s word at in
      let low : word + 4 < 18446744073709551616 = omega arith in
      let enters_to : (word + 4) % 2 ^ 64 ≡ word + 4 = omega arith in
      let leaves_to : (word + 4 + (2 ^ 64 - 4)) % 2 ^ 64 ≡ word = omega arith in
      comes-next Holds id index at (word + 4) word (EntersClear z key me word) (λ entered. Leaves z key entered (word + 4))
      (enters s word at small enters_to)
      (λ next entered there told. let steps = told.1 miss in
      undoes next entered (word + 4) word false there (lone steps.goes) (under-now steps.goes) low leaves_to)

  pub sweep-allows : (new : ℕ) → (generation_of key ≤ z.last_generation → new ≡ claim_gives z.last_generation (generation_of key) (claimable (generation_of key)))
      → Allows Holds slots id me index (λ word. either (word == unreferred (generation_of key)) new word) (Sweeps z key me)
  sweep-allows new gives =
      exchanges (unreferred (generation_of key)) new (Sweeps z key me)
      (λ s at small. told-more s new (MakesSweep z key me) (Sweeps z key me (unreferred (generation_of key)))
      (λ after sweep. (λ found. sweep, λ miss none. not-both (is_hit key (unreferred (generation_of key))) (hit-first key) miss, λ other. absurd (other refl)))
      (sweeps new gives s at))
      (λ s word at small other. ⊎_elim
      (λ hit. told-more s word (Sees z me) (Sweeps z key me word)
      (λ after sees. (λ same. absurd (other same), λ miss. not-both (is_hit key word) hit miss, λ _ _. sees))
      (looks s word at small))
      (λ miss. ⊎_elim
      (λ owes. told-more s word (Sees z me) (Sweeps z key me word)
      (λ after sees. (λ same. absurd (other same), λ _ none. not-both (owes_claim (word + 4)) owes none, λ _ _. sees))
      (looks s word at small))
      (λ none. told-more s word (MakesMiss z key word me) (Sweeps z key me word)
      (λ after made. (
        λ same. absurd (other same),
        λ _ _. made,
        λ _ why. ⊎_elim (λ hit. not-both (is_hit key word) hit miss) (λ owes. not-both (owes_claim (word + 4)) owes none) why,
      ))
      (misses s word at small miss))
      (cases_Bool (owes_claim (word + 4))))
      (cases_Bool (is_hit key word)))

-- ---- WITHDRAW

module _ {T : Type 0} (content : T → List ℕ) (room : T → ℕ) (spots : ℕ → CellSpot) (z : Shape) (slots id : ℕ) (me : Me (Option (Share T)) View) (one : IsOne me.0)
    (key : ℕ) (may : MayPublish z me.0 key) (shares : IsShared z me.0 (place_of key) false) where
  abbrev Seat : Type 0
  Seat = Me (Option (Share T)) View

  abbrev Board : Type 0
  Board = State (Option (Share T)) View

  abbrev word_index : ℕ
  word_index = index_in z (Life (place_of key))

  abbrev Rules : Board → Type 0
  Rules = Kept content room spots z

  -- the cell that the lane knows there
  abbrev known : Stored
  known = known_of (the_lane me.0) (place_of key)

  -- what may be published is a key
  is-good : is_key z key ≡ true
  is-good = (and_parts (is_key z key) _ may.current).0

  publishes : (s : Board) → Stood Rules id word_index slots s me (unpublished (generation_of key))
      → Comes Rules id word_index s me (unreferred (generation_of key)) (Publishes z key known false me (unpublished (generation_of key)))
  publishes s at =
      let first : ℕ = unpublished (generation_of key) in
      let below = generation_of-lt key in
      let small : first < 18446744073709551616 = omega arith in
      let leaves : (first + 1) % 2 ^ 64 ≡ unreferred (generation_of key) = omega arith in
      let inside = (key_parts z key is-good).place in
      comes-of Rules id word_index at (λ n. (n + 1) % 2 ^ 64) (Publishes z key known false me)
      (life-allows content room spots z slots id me one (place_of key) inside (λ n. (n + 1) % 2 ^ 64) (Publishes z key known false me)
      (λ words w homes point here low. publish-makes content room spots z words w homes point me key known false here inside may shares (inl refl) low))
      small (unreferred (generation_of key)) leaves

  withdraws : (new : ℕ) → (generation_of key ≤ z.last_generation → new ≡ claim_gives z.last_generation (generation_of key) (claimable (generation_of key)))
      → (s : Board) → Stood Rules id word_index slots s me (unpublished (generation_of key)) → Comes Rules id word_index s me new (MakesWithdraw z key me)
  withdraws new gives s at =
      comes-next Rules id word_index at (unreferred (generation_of key)) new (Publishes z key known false me (unpublished (generation_of key))) (MakesSweep z key)
      (publishes s at)
      (λ next published there told.
      sweeps content room spots z slots id published (lone told.goes) key is-good (under-now told.goes) new gives next there)

  pub withdraw-allows : (new : ℕ) → (generation_of key ≤ z.last_generation → new ≡ claim_gives z.last_generation (generation_of key) (claimable (generation_of key)))
      → Allows Rules slots id me word_index (λ word. either (word == unpublished (generation_of key)) new word) (Withdraws z key me)
  withdraw-allows new gives =
      let first : ℕ = unpublished (generation_of key) in
      exchanges content room spots z slots id me one key is-good may.idle first new (Withdraws z key me)
      (λ s at small. told-more content room spots z slots id me one key is-good may.idle s new (MakesWithdraw z key me) (Withdraws z key me first)
      (λ after made. (λ found. made, λ other. absurd (other refl)))
      (withdraws new gives s at))
      (λ s word at small other. told-more content room spots z slots id me one key is-good may.idle s word (Sees z me) (Withdraws z key me word)
      (λ after sees. (λ same. absurd (other same), λ unequal. sees))
      (looks content room spots z slots id me one key is-good may.idle s word at small))
