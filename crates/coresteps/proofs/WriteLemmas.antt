-- The rows of writes: what stands in them, and which bytes they give.
use Rattle.std.proofs.Common.{◌≡◌, ◌≢◌, ℕ, zero, suc, ◌+◌, ◌-◌, ◌<◌, ◌≤◌, Bool, true, false, cond, ltb, List, [], ◌∷◌, ◌++◌, length, get_or, set, take, drop, Some, inl, inr, refl, ap, sym, ◌∙◌, subst, arith, eq-eqb, ne_eqb, length-set, length-append, append-nil, append_assoc, slice_get, Vec}
use Rattle.std.specs.List.{flat_map, All}
use Rattle.std.specs.List.Sorted.{IsPartitionedBy, IsPartitionPoint}
use Rattle.std.specs.declared.alloc.Global.{Global}
use Rattle.std.proofs.lemmas.Bool.{cases_eq, ltb-true, ltb-false, lt-ltb}
use Rattle.std.proofs.lemmas.Grind.{flat_map-append}
use Rattle.std.proofs.lemmas.List.{take-append-drop, length-take-le, length-drop, get_or_append_left, get_or-append_right, take_at, take_all, take_more, drop_at}
use Rattle.std.proofs.lemmas.List.Elements.{All-nil, All-cons, All-append}
use Rattle.std.proofs.lemmas.Option.{slice_get_read}
use Rattle.traces.specs.declared.script.Register.{Register}
use Rattle.traces.specs.declared.script.Command.{Command}
use Rattle.traces.specs.declared.script.Command.TheVariants as commands
use Rattle.coresteps.specs.Lanes.{written_by, written_since}
use Rattle.coresteps.specs.Writes.{write_at, write_indices, bytes_of, bytes_if_some, bytes_at, AreWrites}

-- ---- the indices of writes

-- the indices of the writes of two lists of commands
pub write_indices-append : (number index next : ℕ) (xs ys : List Command) → next ≡ index + length xs
    → write_indices number index (xs ++ ys) ≡ write_indices number index xs ++ write_indices number next ys
write_indices-append number index next [] ys e = ap (λ (n : ℕ). write_indices number n ys) (let same : index ≡ next = omega arith in same)
write_indices-append number index next (x ∷ xs) ys e =
    ap (λ (more : List ℕ). write_at number index x ++ more) (write_indices-append number (index + 1) next xs ys (omega arith))
    ∙ sym (append_assoc (write_at number index x) (write_indices number (index + 1) xs) (write_indices number next ys))

-- one command more
pub write_indices-push : (number index : ℕ) (xs : List Command) (x : Command) → length xs ≡ index
    → write_indices number 0 (xs ++ x ∷ []) ≡ write_indices number 0 xs ++ write_at number index x
write_indices-push number index xs x e =
    write_indices-append number 0 index xs (x ∷ []) (omega arith)
    ∙ ap (λ (more : List ℕ). write_indices number 0 xs ++ more) (append-nil (write_at number index x))

-- only the index itself is noted
only_index : (index : ℕ) (t : Bool) → All (λ k. k ≡ index) (cond t (index ∷ []) [])
only_index index true = All-cons (λ k. k ≡ index) index [] refl (All-nil (λ k. k ≡ index))
only_index index false = All-nil (λ k. k ≡ index)

write_at-only : (number index : ℕ) (x : Command) → All (λ k. k ≡ index) (write_at number index x)
write_at-only number index (commands.Write register bytes) = only_index index _
write_at-only number index command = All-nil (λ k. k ≡ index)

-- no index is below the first one
pub indices_from : (number index : ℕ) (xs : List Command) → All (λ k. index ≤ k) (write_indices number index xs)
indices_from number index [] = All-nil (λ k. index ≤ k)
indices_from number index (x ∷ xs) = All-append (λ k. index ≤ k) (write_at number index x) (write_indices number (index + 1) xs)
    (λ k d inside. let e = write_at-only number index x k d inside in omega arith)
    (λ k d inside. let e = indices_from number (index + 1) xs k d inside in omega arith)

-- each index is below the one that follows the last command
pub indices_below : (number index next : ℕ) (xs : List Command) → next ≡ index + length xs → All (λ k. k < next) (write_indices number index xs)
indices_below number index next [] e = All-nil (λ k. k < next)
indices_below number index next (x ∷ xs) e = All-append (λ k. k < next) (write_at number index x) (write_indices number (index + 1) xs)
    (λ k d inside. let at = write_at-only number index x k d inside in omega arith)
    (indices_below number (index + 1) next xs (omega arith))

-- ---- a row cut at two commands

-- the indices before a command, those from it to before another, and the later ones
pub record IsCut (row before middle after : List ℕ) (created done : ℕ) : Type 0 where
  pub first : row ≡ before ++ (middle ++ after)
  pub end : row ≡ (before ++ middle) ++ after
  pub below_first : All (λ k. k < created) before
  pub from_first : All (λ k. created ≤ k) (middle ++ after)
  pub below_end : All (λ k. k < done) (before ++ middle)
  pub from_end : All (λ k. done ≤ k) after

-- the row of a register is cut at two commands
pub row_cut : (script : List Command) (number created done : ℕ) → created ≤ done → done ≤ length script
    → IsCut (write_indices number 0 script) (write_indices number 0 (take created script))
    (write_indices number created (take (done - created) (drop created script)))
    (write_indices number done (drop (done - created) (drop created script))) created done
row_cut script number created done order inside =
    let before = take created script in
    let rest = drop created script in
    let between = take (done - created) rest in
    let later = drop (done - created) rest in
    let low = write_indices number 0 before in
    let middle = write_indices number created between in
    let high = write_indices number done later in
    let so_many : length before ≡ created = length-take-le created script (omega arith) in
    let room : done - created ≤ length rest = omega (arith, length-drop created script) in
    let long : length between ≡ done - created = length-take-le (done - created) rest room in
    let one : write_indices number 0 script ≡ low ++ write_indices number created rest
    = ap (write_indices number 0) (sym (take-append-drop created script)) ∙ write_indices-append number 0 created before rest (omega arith) in
    let two : write_indices number created rest ≡ middle ++ high
    = ap (write_indices number created) (sym (take-append-drop (done - created) rest))
    ∙ write_indices-append number created done between later (omega arith) in
    let whole : write_indices number 0 script ≡ low ++ (middle ++ high) = one ∙ ap (λ (more : List ℕ). low ++ more) two in
    let lows : All (λ k. k < created) low = indices_below number 0 created before (omega arith) in
    let highs : All (λ k. done ≤ k) high = indices_from number done later in
    record {
      first = whole;
      end = whole ∙ sym (append_assoc low middle high);
      below_first = lows;
      from_first = All-append (λ k. created ≤ k) middle high (indices_from number created between)
          (λ k d within. let far = highs k d within in omega arith);
      below_end = All-append (λ k. k < done) low middle (λ k d within. let near = lows k d within in omega arith)
          (indices_below number created done between (omega arith));
      from_end = highs;
    }

-- a row of writes between two commands, where these are counted
pub record IsPart (row middle : List ℕ) (first end : ℕ) : Type 0 where
  pub order : first ≤ end
  pub within : end ≤ length row
  pub is : take (end - first) (drop first row) ≡ middle

-- this many are below the limit, wherever the row is cut there
abbrev pub IsCount : List ℕ → ℕ → ℕ → Type 0
IsCount row limit count =
    (low high : List ℕ) → row ≡ low ++ high → All (λ k. k < limit) low → All (λ k. limit ≤ k) high → count ≡ length low

-- the part of a cut row between its two counts
cut_part : (row before middle after : List ℕ) (created done first end : ℕ) → IsCut row before middle after created done
    → IsCount row created first → IsCount row done end → IsPart row middle first end
cut_part row before middle after created done first end cut firsts ends =
    let at : first ≡ length before = firsts before (middle ++ after) cut.first cut.below_first cut.from_first in
    let to : end ≡ length (before ++ middle) = ends (before ++ middle) after cut.end cut.below_end cut.from_end in
    let both : length (before ++ middle) ≡ length before + length middle = length-append before middle in
    let long : length row ≡ length (before ++ middle) + length after = ap length cut.end ∙ length-append (before ++ middle) after in
    let rest : drop first row ≡ middle ++ after = ap (drop first) cut.first ∙ drop_at before (middle ++ after) first (sym at) in
    record {
      order = omega arith;
      within = omega arith;
      is = ap (take (end - first)) rest ∙ take_at middle after (end - first) (omega arith);
    }

module _ (script : List Command) (number created done : ℕ) (order : created ≤ done) (inside : done ≤ length script)
    (row : List ℕ) (is : row ≡ write_indices number 0 script) where
  cut : IsCut row (write_indices number 0 (take created script)) (write_indices number created (take (done - created) (drop created script)))
      (write_indices number done (drop (done - created) (drop created script))) created done
  cut = subst (λ (r : List ℕ). IsCut r (write_indices number 0 (take created script))
      (write_indices number created (take (done - created) (drop created script)))
      (write_indices number done (drop (done - created) (drop created script))) created done) (sym is)
      (row_cut script number created done order inside)

  -- the row can be cut at either command
  pub first_cut : (low : List ℕ) × (high : List ℕ) × (row ≡ low ++ high) × All (λ k. k < created) low × All (λ k. created ≤ k) high
  first_cut = (_, _, cut.first, cut.below_first, cut.from_first)

  pub end_cut : (low : List ℕ) × (high : List ℕ) × (row ≡ low ++ high) × All (λ k. k < done) low × All (λ k. done ≤ k) high
  end_cut = (_, _, cut.end, cut.below_end, cut.from_end)

  -- the part between the two counts has the writes between the two commands
  pub part : (first end : ℕ) → IsCount row created first → IsCount row done end
      → IsPart row (write_indices number created (take (done - created) (drop created script))) first end
  part first end = cut_part row _ _ _ created done first end cut

-- each write between two commands stands in the script
pub stands_inside : (script : List Command) (number created done : ℕ) → created ≤ done → done ≤ length script
    → All (λ k. k < length script) (write_indices number created (take (done - created) (drop created script)))
stands_inside script number created done order inside k d within =
    let long : length (take (done - created) (drop created script)) ≡ done - created
    = length-take-le (done - created) (drop created script) (omega (arith, length-drop created script)) in
    let below = indices_below number created done (take (done - created) (drop created script)) (omega arith) k d within in
    omega arith

-- one write more
pub bytes_more : (script : List Command) (indices : List ℕ) (k index : ℕ) (command : Command) → k < length indices → index ≡ get_or indices k 0
    → index < length script → command ≡ get_or script index command
    → flat_map (bytes_at script) (take (k + 1) indices) ≡ flat_map (bytes_at script) (take k indices) ++ bytes_of command
bytes_more script indices k index command within is inside at =
    let here : bytes_at script index ≡ bytes_of command
    = ap bytes_if_some (slice_get_read script (length script) index command refl inside at) in
    ap (flat_map (bytes_at script)) (take_more indices k 0 within ∙ ap (λ (n : ℕ). take k indices ++ n ∷ []) (sym is))
    ∙ (flat_map-append (bytes_at script) (take k indices) (index ∷ [])
    ∙ ap (λ (bytes : List ℕ). flat_map (bytes_at script) (take k indices) ++ bytes) (append-nil (bytes_at script index) ∙ here))

module _ (limit : ℕ) (low high : List ℕ) (lows : All (λ k. k < limit) low) (highs : All (λ k. limit ≤ k) high) where
  -- what is below the limit stands before the others
  stands_before : (j d : ℕ) → j < length (low ++ high) → get_or (low ++ high) j d < limit → j < length low
  stands_before j d inside below =
      let late : length low ≤ j → ⊥
      = λ (over : length low ≤ j). let there = get_or-append_right low high (length low) j d refl over in
      let far = highs (j - length low) d (omega (arith, length-append low high)) in omega arith in
      omega arith

  -- where those below a limit come first, they are partitioned by it
  pub row_partitioned : (row : List ℕ) → row ≡ low ++ high → IsPartitionedBy (λ k. ltb k limit) row
  row_partitioned row is = subst (IsPartitionedBy (λ k. ltb k limit)) (sym is)
      (λ i j d order inside passed. let early = stands_before j d inside (ltb-true (get_or (low ++ high) j d) limit passed) in
      let at = get_or_append_left low high d i (omega arith) in
      let near = lows i d (omega arith) in
      lt-ltb (get_or (low ++ high) i d) limit (omega arith))

  -- the partition point is the number of those below the limit
  point_at : (count : ℕ) → count ≤ length (low ++ high)
      → IsPartitionPoint (λ k. ltb k limit ≡ true) (λ k. ltb k limit ≡ false) (low ++ high) count → count ≡ length low
  point_at count within point =
      let long : length (low ++ high) ≡ length low + length high = length-append low high in
      let small : count < length low → ⊥
      = λ (short : count < length low). let over = ltb-false (get_or (low ++ high) count 0) limit (point.1 count 0 (omega arith) (omega arith)) in
      let at = get_or_append_left low high 0 count short in
      let near = lows count 0 short in omega arith in
      let great : length low < count → ⊥
      = λ (over : length low < count). let below = ltb-true (get_or (low ++ high) (length low) 0) limit (point.0 (length low) 0 (omega arith) over) in
      let early = stands_before (length low) 0 (omega arith) below in omega arith in
      omega arith

  pub point_is : (count : ℕ) (row : List ℕ) → row ≡ low ++ high → count ≤ length row
      → IsPartitionPoint (λ k. ltb k limit ≡ true) (λ k. ltb k limit ≡ false) row count → count ≡ length low
  point_is count row is = subst (λ (xs : List ℕ). count ≤ length xs
      → IsPartitionPoint (λ k. ltb k limit ≡ true) (λ k. ltb k limit ≡ false) xs count → count ≡ length low) (sym is) (point_at count)

-- ---- the bytes

-- the first of the commands that are left
first_dropped : (script : List Command) (index : ℕ) (x : Command) (more : List Command) → drop index script ≡ x ∷ more
    → (slice_get script index ≡ Some x) × (drop (suc index) script ≡ more)
first_dropped [] zero x more e = absurd (cc e)
first_dropped [] (suc index) x more e = absurd (cc e)
first_dropped (y ∷ ys) zero x more e = (let same : y ≡ x = cc in ap Some same, cc)
first_dropped (y ∷ ys) (suc index) x more e = first_dropped ys index x more e

-- the bytes at the index of one command
bytes_where : (script : List Command) (index : ℕ) (bytes : List ℕ) (t : Bool) → bytes_at script index ≡ bytes
    → flat_map (bytes_at script) (cond t (index ∷ []) []) ≡ cond t bytes []
bytes_where script index bytes true e = append-nil (bytes_at script index) ∙ e
bytes_where script index bytes false e = refl

bytes_here : (script : List Command) (number index : ℕ) (x : Command) → slice_get script index ≡ Some x
    → flat_map (bytes_at script) (write_at number index x) ≡ written_by number x
bytes_here script number index (commands.Write register bytes) e = bytes_where script index bytes _ (ap bytes_if_some e)
bytes_here script number index command e = refl

-- the bytes at the indices of the writes are those that were written
bytes_of_writes : (script : List Command) (number index : ℕ) (xs rest : List Command) → drop index script ≡ xs ++ rest
    → flat_map (bytes_at script) (write_indices number index xs) ≡ flat_map (written_by number) xs
bytes_of_writes script number index [] rest e = refl
bytes_of_writes script number index (x ∷ xs) rest e =
    let at = first_dropped script index x (xs ++ rest) e in
    let next : suc index ≡ index + 1 = omega arith in
    let more = bytes_of_writes script number (index + 1) xs rest (subst (λ (n : ℕ). drop n script ≡ xs ++ rest) next at.1) in
    let here = bytes_here script number index x at.0 in
    flat_map-append (bytes_at script) (write_at number index x) (write_indices number (index + 1) xs)
    ∙ (λ i. here i ++ more i)

-- the bytes that were written from one command to before another stand at the indices of these writes
pub bytes_between : (script : List Command) (created done number : ℕ)
    → flat_map (bytes_at script) (write_indices number created (take (done - created) (drop created script))) ≡ written_since script created done number
bytes_between script created done number =
    bytes_of_writes script number created (take (done - created) (drop created script)) (drop (done - created) (drop created script))
    (sym (take-append-drop (done - created) (drop created script)))

-- ---- the rows

-- no writes yet
abbrev pub AreEmpty : List (Vec ℕ Global) → Type 0
AreEmpty rows = (number : ℕ) (row : Vec ℕ Global) → slice_get rows number ≡ Some row → row.items ≡ []

pub AreEmpty-push : (rows : List (Vec ℕ Global)) (last : Vec ℕ Global) → AreEmpty rows → last.items ≡ [] → AreEmpty (rows ++ last ∷ [])
AreEmpty-push [] last are none zero row e = (let same : last ≡ row = cc in subst (λ (r : Vec ℕ Global). r.items ≡ []) same none)
AreEmpty-push [] last are none (suc number) row e = absurd (cc e)
AreEmpty-push (first ∷ rows) last are none zero row e = are zero row e
AreEmpty-push (first ∷ rows) last are none (suc number) row e = AreEmpty-push rows last (λ k r. are (suc k) r) none number row e

pub set_here : {A : Type 0} → (xs : List A) (i : ℕ) (x : A) → i < length xs → slice_get (set xs i x) i ≡ Some x
set_here [] i x h = absurd (omega arith)
set_here (y ∷ ys) zero x h = refl
set_here (y ∷ ys) (suc i) x h = set_here ys i x (omega arith)

pub set_other : {A : Type 0} → (xs : List A) (i j : ℕ) (x : A) → j ≢ i → slice_get (set xs i x) j ≡ slice_get xs j
set_other [] i j x h = refl
set_other (y ∷ ys) zero zero x h = absurd (h refl)
set_other (y ∷ ys) zero (suc j) x h = refl
set_other (y ∷ ys) (suc i) zero x h = refl
set_other (y ∷ ys) (suc i) (suc j) x h = set_other ys i j x (λ e. h (ap suc e))

-- the row of the register has the index of a write to it
pub write_noted : (script : List Command) (rows : List (Vec ℕ Global)) (index : ℕ) (register : Register) (bytes : List ℕ) (old new : Vec ℕ Global)
    → AreWrites script rows → length script ≡ index → register.number < 16 → old ≡ get_or rows register.number old
    → new.items ≡ old.items ++ index ∷ []
    → AreWrites (script ++ commands.Write register bytes ∷ []) (set rows register.number new)
write_noted script rows index register bytes old new are at small was is =
    let here = register.number in
    let write = commands.Write register bytes in
    let within : here < length rows = let count = are.count in omega arith in
    let there : slice_get (set rows here new) here ≡ Some new = set_here rows here new within in
    let own : old.items ≡ write_indices here 0 script = are.each here old (slice_get_read rows (length rows) here old refl within was) in
    let noted : write_at here index write ≡ index ∷ [] = ap (λ (t : Bool). cond t (index ∷ []) []) (eq-eqb here here refl) in
    let grown : new.items ≡ write_indices here 0 (script ++ write ∷ [])
    = is ∙ (ap (λ (xs : List ℕ). xs ++ index ∷ []) own
    ∙ sym (write_indices-push here index script write at ∙ ap (λ (xs : List ℕ). write_indices here 0 script ++ xs) noted)) in
    record {
      count = length-set rows here new ∙ are.count;
      each = λ number row e. elim (cases_eq number here) [
        | inl same ↦ (
            let its : slice_get (set rows here new) here ≡ Some row = ap (slice_get (set rows here new)) (sym same) ∙ e in
            let one : new ≡ row = cc in
            ap (λ (r : Vec ℕ Global). r.items) (sym one) ∙ (grown ∙ ap (λ (n : ℕ). write_indices n 0 (script ++ write ∷ [])) (sym same)))
        | inr other ↦ (
            let none : write_at number index write ≡ []
            = ap (λ (t : Bool). cond t (index ∷ []) []) (ne_eqb here number (λ same. other (sym same))) in
            are.each number row (sym (set_other rows here number new other) ∙ e)
            ∙ sym (write_indices-push number index script write at
            ∙ (ap (λ (xs : List ℕ). write_indices number 0 script ++ xs) none ∙ append-nil (write_indices number 0 script))))
      ];
    }

-- a command that is no write has no index
pub no_write : (command : Command) → ((register : Register) (bytes : List ℕ) → command ≡ commands.Write register bytes → ⊥)
    → (number index : ℕ) → write_at number index command ≡ []
no_write (commands.Write register bytes) not number index = absurd (not register bytes refl)
no_write command not number index = refl

-- another command changes no row
pub none_noted : (script : List Command) (rows : List (Vec ℕ Global)) (command : Command)
    → ((number : ℕ) → write_at number (length script) command ≡ []) → AreWrites script rows → AreWrites (script ++ command ∷ []) rows
none_noted script rows command none are = record {
  count = are.count;
  each = λ number row e. are.each number row e
      ∙ sym (write_indices-push number (length script) script command refl
      ∙ ap (λ (more : List ℕ). write_indices number 0 script ++ more) (none number) ∙ append-nil (write_indices number 0 script));
}

-- a row of a register
pub row_is : (script : List Command) (rows : List (Vec ℕ Global)) (number : ℕ) (row : Vec ℕ Global) → AreWrites script rows → number < 16
    → row ≡ get_or rows number row → row.items ≡ write_indices number 0 script
row_is script rows number row are small at =
    are.each number row (slice_get_read rows (length rows) number row refl (let count = are.count in omega arith) at)

-- the rows after one command more
pub writes_more : (script commands : List Command) (old new : List (Vec ℕ Global)) (index : ℕ) (command : Command) → commands ≡ script
    → index < length commands → command ≡ get_or commands index command → AreWrites (take index script) old
    → ((before : List Command) → AreWrites before old → length before ≡ index → AreWrites (before ++ command ∷ []) new)
    → AreWrites (take (index + 1) script) new
writes_more script commands old new index command same inside read are noted =
    subst (λ (xs : List Command). AreWrites (take (index + 1) xs) new) same
    (subst (λ (xs : List Command). AreWrites xs new)
    (ap (λ (c : Command). take index commands ++ c ∷ []) read ∙ sym (take_more commands index command inside))
    (noted (take index commands) (subst (λ (xs : List Command). AreWrites (take index xs) old) (sym same) are)
    (length-take-le index commands (omega arith))))

-- the rows after all commands
pub writes_all : (script commands : List Command) (rows : List (Vec ℕ Global)) (index : ℕ) → commands ≡ script → length commands ≤ index
    → AreWrites (take index script) rows → AreWrites script rows
writes_all script commands rows index same past are =
    subst (λ (xs : List Command). AreWrites xs rows) (ap (take index) (sym same) ∙ (take_all index commands past ∙ same)) are
