-- How the counts of a lane's references go on with its calls.
use Rattle.std.proofs.Common.{◌≡◌, ◌≢◌, ◌==◌, ℕ, ◌+◌, ◌-◌, ◌<◌, ◌≤◌, Bool, true, false, cond, List, length, Some, slice_get, slice_set, slice_index_or, replicate, refl, sym, ap, ◌∙◌, subst, arith, eq-eqb, ne_eqb, if◌then◌else◌}
use Rattle.std.proofs.lemmas.Option.{slice_get_within, slice_get-get_or, get_or_from_slice_get}
use Rattle.std.proofs.lemmas.List.{length-set, length-replicate, get_or-set_other, get_or-replicate}
use mathlib.Core.Logic.{dite}
use native.Mathlib.Decide.{ℕ_discrete}
use Rattle.keybits.specs.declared.shape.Shape.{Shape}
use Rattle.keybits.specs.Keys.{is_key, key_number, place_of, generation_of}
use Rattle.keybits.proofs.KeyLemmas.{key_parts}
use Rattle.seqpool.specs.Pool.{pool_after}
use Rattle.poolsteps.specs.Layout.{slot_start, slot_row}
use Rattle.poolsteps.specs.Views.{the_lane}
use Rattle.poolsteps.proofs.SlotLemmas.{in-row, start-injective}
use Rattle.shardpool.specs.Tokens.{LaneOf}
use Rattle.shardpool.specs.Lanes.{holds, refs}
use Rattle.shardpool.specs.AfterCalls.{HoldsAsMany, HoldsOneMore, HoldsOneLess}
use Rattle.shardpool.proofs.free.Stores.{stands-here}
use Rattle.shardpool.proofs.references.RowChanges.{key-now}
use Rattle.poolhandle.specs.declared.counting_lane.KeyCount.{KeyCount}
use Rattle.poolhandle.specs.Counts.{CountsAs, counted, gained}

-- ---- keys to which a lane has references

pub held-key : (lane : LaneOf) (key : ℕ) → 1 ≤ holds lane key → is_key lane.shape key ≡ true
held-key lane key some = (key-now lane.shape (pool_after lane.shape lane.book.seen) (the_lane lane.book).lane key some).0

held-generation : (lane : LaneOf) (key : ℕ) → 1 ≤ holds lane key → (pool_after lane.shape lane.book.seen (place_of key)).generation ≡ generation_of key
held-generation lane key some = (key-now lane.shape (pool_after lane.shape lane.book.seen) (the_lane lane.book).lane key some).1

-- of one place they are of one generation
one-generation : (lane : LaneOf) (key other : ℕ) → 1 ≤ holds lane key → 1 ≤ holds lane other → place_of other ≡ place_of key → generation_of other ≡ generation_of key
one-generation lane key other some others same =
    sym (held-generation lane other others) ∙ (ap (λ (place : ℕ). (pool_after lane.shape lane.book.seen place).generation) same ∙ held-generation lane key some)

-- keys of one place and generation are one
one-key : (z : Shape) (key other : ℕ) → is_key z key ≡ true → is_key z other ≡ true → place_of other ≡ place_of key → generation_of other ≡ generation_of key → other ≡ key
one-key z key other inside others place generation =
    (key_parts z other others).number
    ∙ (ap (λ (p : ℕ). key_number z.tag p (generation_of other)) place ∙ (ap (λ (g : ℕ). key_number z.tag (place_of key) g) generation ∙ sym (key_parts z key inside).number))

-- a key of the pool has a row
pub row-low : {lane : LaneOf} {rows : List KeyCount} (key start : ℕ) → CountsAs lane rows → is_key lane.shape key ≡ true → start ≡ slot_start lane.shape (place_of key) → start < length rows
row-low {lane} {rows} key start counts inside here =
    let low = in-row lane.shape (place_of key) (key_parts lane.shape key inside).place in let wide = counts.wide in omega (arith, low, wide, here)

-- and what it counts is how many references the lane has
pub row-counts : {lane : LaneOf} {rows : List KeyCount} (key start count : ℕ) → CountsAs lane rows → is_key lane.shape key ≡ true → start ≡ slot_start lane.shape (place_of key)
    → ((row : KeyCount) → slice_get rows start ≡ Some row → count ≡ counted row key) → count ≡ holds lane key
row-counts {lane} {rows} key start count counts inside here is =
    let none : KeyCount = record { generation = 0; count = 0 } in
    let stands = slice_get-get_or rows start none (row-low key start counts inside here) in let row = slice_index_or rows start none in
    is row stands ∙ sym (counts.each key row inside (ap (slice_get rows) (sym here) ∙ stands))

-- what counts rightly for a key doesn't for another of its place
counted-here : (row : KeyCount) (key : ℕ) → generation_of key ≡ row.generation → counted row key ≡ row.count
counted-here row key same = ap (λ (b : Bool). if b then row.count else 0) (eq-eqb (generation_of key) row.generation same)

counted-none : (row : KeyCount) (key : ℕ) → generation_of key ≢ row.generation → counted row key ≡ 0
counted-none row key other = ap (λ (b : Bool). if b then row.count else 0) (ne_eqb (generation_of key) row.generation other)

counted-some : (row : KeyCount) (key : ℕ) → 1 ≤ counted row key → generation_of key ≡ row.generation
counted-some row key some = dite (ℕ_discrete (generation_of key) row.generation)
    (λ same. same)
    (λ other. let none = counted-none row key other in absurd (omega (arith, some, none)))

-- so the row of a key's place, where it is of the key's generation
pub row-is : {lane : LaneOf} {rows : List KeyCount} (key start generation : ℕ) → CountsAs lane rows → is_key lane.shape key ≡ true → start ≡ slot_start lane.shape (place_of key)
    → generation ≡ generation_of key → (row : KeyCount) → slice_get rows start ≡ Some row → generation ≡ row.generation → row.count ≡ holds lane key
row-is {lane} {rows} key start generation counts inside here is row stands same =
    sym (counted-here row key (sym is ∙ same)) ∙ sym (counts.each key row inside (ap (slice_get rows) (sym here) ∙ stands))

pub row-some : {lane : LaneOf} {rows : List KeyCount} (key start : ℕ) → CountsAs lane rows → is_key lane.shape key ≡ true → start ≡ slot_start lane.shape (place_of key)
    → 1 ≤ holds lane key → (row : KeyCount) → slice_get rows start ≡ Some row → 1 ≤ row.count
row-some {lane} {rows} key start counts inside here some row stands =
    let is = counts.each key row inside (ap (slice_get rows) (sym here) ∙ stands) in
    let same = counted-some row key (omega (arith, is, some)) in let all = counted-here row key same in omega (arith, is, all, some)

-- ---- the counts of a lane

-- before its first reference
pub counts-none : (lane : LaneOf) (places : ℕ) (rows : List KeyCount) → places ≡ slot_row lane.shape → rows ≡ replicate places (record { generation = 0; count = 0 })
    → refs lane ≡ 0 → ((key : ℕ) → holds lane key ≤ refs lane) → CountsAs lane rows
counts-none lane places rows all is none few =
    let row : KeyCount = record { generation = 0; count = 0 } in record {
      wide = ap length is ∙ (length-replicate places row ∙ all);
      each = λ key found inside at.
          let i : ℕ = slot_start lane.shape (place_of key) in
          let low : i < places = let l = in-row lane.shape (place_of key) (key_parts lane.shape key inside).place in omega (arith, l, all) in
          let there : found ≡ row = sym (get_or_from_slice_get rows i found row at) ∙ (ap (λ (xs : List KeyCount). slice_index_or xs i row) is ∙ get_or-replicate places i row row low) in
          let zero : counted row key ≡ 0 = none-counts key in
          let most = few key in
          omega (arith, most, none) ∙ sym (ap (λ (r : KeyCount). counted r key) there ∙ zero);
    }
  where
    none-counts : (key : ℕ) → counted (record { generation = 0; count = 0 }) key ≡ 0
    none-counts key = either (generation_of key == 0)
      where
        either : (b : Bool) → let n : ℕ = 0 in cond b n n ≡ n
        either true = refl
        either false = refl

-- where no reference came or went
pub counts-stay : (old new : LaneOf) (rows : List KeyCount) → new.shape ≡ old.shape → HoldsAsMany old new → CountsAs old rows → CountsAs new rows
counts-stay old new rows shape held counts = record {
  wide = counts.wide ∙ ap slot_row (sym shape);
  each = λ key row inside at.
      held key ∙ counts.each key row (subst (λ (z : Shape). is_key z key ≡ true) shape inside) (subst (λ (z : Shape). slice_get rows (slot_start z (place_of key)) ≡ Some row) shape at);
}

module _ (old new : LaneOf) (rows : List KeyCount) (shape : new.shape ≡ old.shape) (counts : CountsAs old rows) (key : ℕ) (inside : is_key old.shape key ≡ true) (row : KeyCount)
    (stands : slice_get rows (slot_start old.shape (place_of key)) ≡ Some row) where
  -- where the row of the key's place becomes another
  counts-set : (now : KeyCount) → ((k : ℕ) → is_key old.shape k ≡ true → place_of k ≡ place_of key → holds new k ≡ counted now k)
      → ((k : ℕ) → place_of k ≢ place_of key → holds new k ≡ holds old k) → CountsAs new (slice_set rows (slot_start old.shape (place_of key)) now)
  counts-set now here apart =
      let z : Shape = old.shape in let i : ℕ = slot_start z (place_of key) in let low : i < length rows = slice_get_within rows i row stands in record {
        wide = length-set rows i now ∙ (counts.wide ∙ ap slot_row (sym shape));
        each = λ k found inside_new at_new.
            let inside_k = subst (λ (y : Shape). is_key y k ≡ true) shape inside_new in
            let at = subst (λ (y : Shape). slice_get (slice_set rows i now) (slot_start y (place_of k)) ≡ Some found) shape at_new in
            dite (ℕ_discrete (place_of k) (place_of key))
            (λ (same : place_of k ≡ place_of key).
            let so : Some now ≡ Some found = sym (stands-here rows i now low) ∙ (ap (λ (q : ℕ). slice_get (slice_set rows i now) (slot_start z q)) (sym same) ∙ at) in
            let is : now ≡ found = cc so in
            here k inside_k same ∙ ap (λ (r : KeyCount). counted r k) is)
            (λ (other : place_of k ≢ place_of key).
            let j : ℕ = slot_start z (place_of k) in
            let differ : j ≢ i = λ same. other (start-injective z (place_of k) (place_of key) (key_parts z k inside_k).place (key_parts z key inside).place same) in
            let low_j : j < length rows = subst (λ (n : ℕ). j < n) (length-set rows i now) (slice_get_within (slice_set rows i now) j found at) in
            let before : slice_get rows j ≡ Some found
            = slice_get-get_or rows j found low_j ∙ ap Some (sym (get_or-set_other rows i j now found differ) ∙ get_or_from_slice_get (slice_set rows i now) j found found at) in
            apart k other ∙ counts.each k found inside_k before);
      }

  -- one reference more to the key
  pub counts-gain : HoldsOneMore key old new → 1 ≤ holds new key → CountsAs new (slice_set rows (slot_start old.shape (place_of key)) (gained (generation_of key) row))
  counts-gain more some =
      let now : KeyCount = gained (generation_of key) row in
      let was : holds old key ≡ counted row key = counts.each key row inside stands in
      let one : holds new key ≡ holds old key + 1 = more key ∙ ap (λ (b : Bool). if b then holds old key + 1 else holds old key) (eq-eqb key key refl) in
      counts-set now
      (λ k inside_k same. dite (ℕ_discrete (generation_of k) (generation_of key))
      (λ (equal : generation_of k ≡ generation_of key).
      let is : k ≡ key = one-key old.shape key k inside inside_k same equal in
      subst (λ (n : ℕ). holds new n ≡ counted now n) (sym is)
      (one ∙ (ap (λ (n : ℕ). n + 1) was ∙ (adds (generation_of key == row.generation) row.count ∙ sym (counted-here now key refl)))))
      (λ (differ : generation_of k ≢ generation_of key).
      let zero : holds new k ≡ 0 = none-else k same differ in zero ∙ sym (counted-none now k differ)))
      (λ k other. more k ∙ ap (λ (b : Bool). if b then holds old k + 1 else holds old k) (ne_eqb key k (λ is. other (ap place_of (sym is)))))
    where
      adds : (b : Bool) (n : ℕ) → cond b n 0 + 1 ≡ cond b (n + 1) 1
      adds true n = refl
      adds false n = refl

      none-else : (k : ℕ) → place_of k ≡ place_of key → generation_of k ≢ generation_of key → holds new k ≡ 0
      none-else k same differ = dite (ℕ_discrete (holds new k) 0)
          (λ (zero : holds new k ≡ 0). zero)
          (λ (not : holds new k ≢ 0). absurd (differ (one-generation new key k some (omega (arith, not)) same)))

  -- one reference less to it
  pub counts-lose : HoldsOneLess key old new → 1 ≤ holds old key → CountsAs new (slice_set rows (slot_start old.shape (place_of key)) (record row { count = row.count - 1 }))
  counts-lose less some =
      let now : KeyCount = record row { count = row.count - 1 } in
      let was : holds old key ≡ counted row key = counts.each key row inside stands in
      let equal : generation_of key ≡ row.generation = counted-some row key (omega (arith, was, some)) in
      let whole : counted row key ≡ row.count = counted-here row key equal in
      let one : holds new key ≡ holds old key - 1 = less key ∙ ap (λ (b : Bool). if b then holds old key - 1 else holds old key) (eq-eqb key key refl) in
      counts-set now
      (λ k inside_k same. dite (ℕ_discrete (generation_of k) (generation_of key))
      (λ (of_key : generation_of k ≡ generation_of key).
      let is : k ≡ key = one-key old.shape key k inside inside_k same of_key in
      subst (λ (n : ℕ). holds new n ≡ counted now n) (sym is) (one ∙ (ap (λ (n : ℕ). n - 1) (was ∙ whole) ∙ sym (counted-here now key equal))))
      (λ (differ : generation_of k ≢ generation_of key).
      let apart : generation_of k ≢ row.generation = λ is. differ (is ∙ sym equal) in
      let k_was : holds old k ≡ counted row k = counts.each k row inside_k (ap (λ (p : ℕ). slice_get rows (slot_start old.shape p)) same ∙ stands) in
      less k ∙ (ap (λ (b : Bool). if b then holds old k - 1 else holds old k) (ne_eqb key k (λ is. differ (ap generation_of (sym is))))
      ∙ (k_was ∙ (counted-none row k apart ∙ sym (counted-none now k apart))))))
      (λ k other. less k ∙ ap (λ (b : Bool). if b then holds old k - 1 else holds old k) (ne_eqb key k (λ is. other (ap place_of (sym is)))))

-- the same, of what a call left
module _ (old new : LaneOf) (rows after : List KeyCount) (shape : new.shape ≡ old.shape) (counts : CountsAs old rows) (key start : ℕ) (inside : is_key old.shape key ≡ true)
    (here : start ≡ slot_start old.shape (place_of key)) where
  none : KeyCount
  none = record { generation = 0; count = 0 }

  stands : slice_get rows start ≡ Some (slice_index_or rows start none)
  stands = slice_get-get_or rows start none (row-low key start counts inside here)

  there : slice_get rows (slot_start old.shape (place_of key)) ≡ Some (slice_index_or rows start none)
  there = ap (slice_get rows) (sym here) ∙ stands

  pub after-gain : (generation : ℕ) → generation ≡ generation_of key → ((row : KeyCount) → slice_get rows start ≡ Some row → after ≡ slice_set rows start (gained generation row))
      → HoldsOneMore key old new → 1 ≤ holds new key → CountsAs new after
  after-gain generation is gains more some =
      let row : KeyCount = slice_index_or rows start none in
      let same : after ≡ slice_set rows (slot_start old.shape (place_of key)) (gained (generation_of key) row)
      = gains row stands ∙ (ap (λ (i : ℕ). slice_set rows i (gained generation row)) here ∙ ap (λ (g : ℕ). slice_set rows (slot_start old.shape (place_of key)) (gained g row)) is) in
      subst (CountsAs new) (sym same) (counts-gain old new rows shape counts key inside row there more some)

  pub after-lose : ((row : KeyCount) → slice_get rows start ≡ Some row → after ≡ slice_set rows start (record row { count = row.count - 1 })) → HoldsOneLess key old new → 1 ≤ holds old key
      → CountsAs new after
  after-lose loses less some =
      let row : KeyCount = slice_index_or rows start none in
      let same : after ≡ slice_set rows (slot_start old.shape (place_of key)) (record row { count = row.count - 1 })
      = loses row stands ∙ ap (λ (i : ℕ). slice_set rows i (record row { count = row.count - 1 })) here in
      subst (CountsAs new) (sym same) (counts-lose old new rows shape counts key inside row there less some)

-- one reference to a key came, and one went
pub given-back : (key : ℕ) (old between new : LaneOf) → HoldsOneMore key old between → HoldsOneLess key between new → HoldsAsMany old new
given-back key old between new more less k = back (key == k) (holds old k) (holds between k) (holds new k) (more k) (less k)
  where
    back : (same : Bool) (before meanwhile now : ℕ) → meanwhile ≡ (if same then before + 1 else before) → now ≡ (if same then meanwhile - 1 else meanwhile) → now ≡ before
    back true before meanwhile now come go = omega (arith, come, go)
    back false before meanwhile now come go = go ∙ come
