-- The table of the words, and what all lanes share, after a step was made.
use Rattle.std.proofs.Common.{◌≡◌, ◌≢◌, ◌⊎◌, inl, inr, ⊎_elim, length-append, slice_get, ℕ, zero, suc, ◌+◌, ◌*◌, ◌<◌, Bool, true, false, cond, eqb, ◌&&◌, List, [], ◌∷◌, ◌++◌, length, set, get_or, replicate, refl, ap, sym, ◌∙◌, subst, arith, eq-eqb, ne_eqb, length-set, get_or-set_same, get_or-set_other, append-nil, Option, Some, None}
use Rattle.std.proofs.lemmas.List.{length-replicate, get_or-replicate}
use Rattle.std.proofs.lemmas.Nat.{mul-add-lt, same_from_place}
use mathlib.Core.Logic.{dite}
use native.Mathlib.Decide.{ℕ_discrete}
use Rattle.keybits.specs.declared.shape.Shape.{Shape}
use Rattle.keybits.specs.declared.step.Word.{Word}
use Rattle.keybits.specs.declared.step.Word.TheVariants.{Life, Link, Stack}
use Rattle.keybits.specs.Shapes.{IsShape, is_place, shard_places, all_places, position_of}
use Rattle.keybits.specs.Keys.{place_of}
use Rattle.keybits.specs.Words.{fresh_word}
use Rattle.keybits.proofs.ShapeLemmas.{position_of-lt, position_of-injective}
use Rattle.seqpool.specs.declared.act.Act.{Act}
use Rattle.seqpool.specs.declared.act.Act.TheVariants as acts
use Rattle.steplaws.specs.Facts.{Words, put_at, put_two, with_value}
use Rattle.steplaws.proofs.Updates.{at-here, at-else}
use Rattle.seqpool.specs.Pool.{pool_after}
use Rattle.traces.specs.Books.{act_list}
use Rattle.traces.specs.Following.{row_content}
use Rattle.traces.specs.Keeping.{IsKept}
use Rattle.traces.specs.Lawful.{World, first_words, words_after}
use Rattle.traces.specs.declared.script.Command.{Command}
use Rattle.coresteps.specs.declared.lane.Lane.{Lane}
use Rattle.coresteps.specs.declared.words.Table.{Table}
use Rattle.coresteps.specs.declared.shared.Made.{Made}
use Rattle.coresteps.specs.declared.shared.Shared.{Shared}
use Rattle.coresteps.specs.Lanes.{first_progress}
use Rattle.coresteps.specs.Kept.{IsTable, IsPublished, IsDraft, made_acts, made_step, index_of_publish}

-- ---- the table

-- a position of two lanes is within the stack words
pub stack_below : (lanes shard lane : ℕ) → shard < lanes → lane < lanes → shard * lanes + lane < lanes * lanes
stack_below lanes shard lane a b = let step = mul-add-lt shard lanes lane lanes a b in omega (arith, step)

-- each word has its first value
pub first_table : (z : Shape) → (table : Table) → table.life.items ≡ replicate (all_places z) fresh_word → table.links.items ≡ replicate (all_places z) 0
    → table.stacks.items ≡ replicate (z.lanes * z.lanes) 0 → IsTable z first_words table
first_table z table life links stacks = record {
  life_length = ap length life ∙ length-replicate (all_places z) fresh_word;
  life = λ place is. ap (λ (xs : List ℕ). get_or xs (position_of z place) 0) life ∙ get_or-replicate (all_places z) (position_of z place) fresh_word 0 (position_of-lt z place is);
  links_length = ap length links ∙ length-replicate (all_places z) 0;
  links = λ place is. ap (λ (xs : List ℕ). get_or xs (position_of z place) 0) links ∙ get_or-replicate (all_places z) (position_of z place) 0 0 (position_of-lt z place is);
  stacks_length = ap length stacks ∙ length-replicate (z.lanes * z.lanes) 0;
  stacks = λ shard lane a b. ap (λ (xs : List ℕ). get_or xs (shard * z.lanes + lane) 0) stacks
      ∙ get_or-replicate (z.lanes * z.lanes) (shard * z.lanes + lane) 0 0 (stack_below z.lanes shard lane a b);
}

-- a value at the position of a place is the value of that place
pub placed : (z : Shape) → IsShape z → (xs : List ℕ) (f : ℕ → ℕ) (place value : ℕ) → is_place z place ≡ true → length xs ≡ all_places z
    → ((q : ℕ) → is_place z q ≡ true → get_or xs (position_of z q) 0 ≡ f q)
    → (q : ℕ) → is_place z q ≡ true → get_or (set xs (position_of z place) value) (position_of z q) 0 ≡ put_at f place value q
placed z ok xs f place value is long are q is_q = dite (ℕ_discrete q place)
    (λ same. ap (λ (n : ℕ). get_or (set xs (position_of z place) value) (position_of z n) 0) same
    ∙ (get_or-set_same xs (position_of z place) value 0 (let low = position_of-lt z place is in omega arith) ∙ sym (ap (λ (b : Bool). cond b value (f q)) (eq-eqb q place same))))
    (λ other. get_or-set_other xs (position_of z place) (position_of z q) value 0 (λ e. other (position_of-injective z ok q place is_q is e))
    ∙ (are q is_q ∙ sym (ap (λ (b : Bool). cond b value (f q)) (ne_eqb q place other))))

-- a value at the position of two lanes is the value of those two
pub stacked : (lanes : ℕ) (xs : List ℕ) (f : ℕ → ℕ → ℕ) (shard lane value : ℕ) → shard < lanes → lane < lanes → length xs ≡ lanes * lanes
    → ((s l : ℕ) → s < lanes → l < lanes → get_or xs (s * lanes + l) 0 ≡ f s l)
    → (s l : ℕ) → s < lanes → l < lanes → get_or (set xs (shard * lanes + lane) value) (s * lanes + l) 0 ≡ put_two f shard lane value s l
stacked lanes xs f shard lane value a b long are s l c d = dite (ℕ_discrete s shard)
    (λ same. dite (ℕ_discrete l lane)
    (λ also. ap (λ (n : ℕ × ℕ). get_or (set xs (shard * lanes + lane) value) (n.0 * lanes + n.1) 0) (λ i. (same i, also i))
    ∙ (get_or-set_same xs (shard * lanes + lane) value 0 (let low = stack_below lanes shard lane a b in omega arith)
    ∙ sym (ap (λ (t : Bool × Bool). cond (t.0 && t.1) value (f s l)) (λ i. (eq-eqb s shard same i, eq-eqb l lane also i)))))
    (λ other. elsewhere (λ e. other (same_from_place s l shard lane lanes d b e).1)
    (ap (λ (t : Bool × Bool). t.0 && t.1) (λ i. (eq-eqb s shard same i, ne_eqb l lane other i)))))
    (λ other. elsewhere (λ e. other (same_from_place s l shard lane lanes d b e).0) (ap (λ (t : Bool). t && eqb l lane) (ne_eqb s shard other)))
  where
    elsewhere : (s * lanes + l ≢ shard * lanes + lane) → (eqb s shard && eqb l lane) ≡ false
        → get_or (set xs (shard * lanes + lane) value) (s * lanes + l) 0 ≡ put_two f shard lane value s l
    elsewhere apart test = get_or-set_other xs (shard * lanes + lane) (s * lanes + l) value 0 apart
        ∙ (are s l c d ∙ sym (ap (λ (t : Bool). cond t value (f s l)) test))

module _ (z : Shape) (words : Words) (word : Word) (value : ℕ) (old new : Table) (t : IsTable z words old) where
  -- a lifecycle word has a value
  pub stored_life : IsShape z → (place : ℕ) → word ≡ Life place → is_place z place ≡ true → new.life.items ≡ set old.life.items (position_of z place) value
      → new.links.items ≡ old.links.items → new.stacks.items ≡ old.stacks.items → IsTable z (with_value words word value) new
  stored_life ok place named is life links stacks = subst (λ (w : Word). IsTable z (with_value words w value) new) (sym named) record {
    life_length = ap length life ∙ (length-set old.life.items (position_of z place) value ∙ t.life_length);
    life = λ q is_q. ap (λ (xs : List ℕ). get_or xs (position_of z q) 0) life ∙ placed z ok old.life.items words.life place value is t.life_length t.life q is_q;
    links_length = ap length links ∙ t.links_length;
    links = λ q is_q. ap (λ (xs : List ℕ). get_or xs (position_of z q) 0) links ∙ t.links q is_q;
    stacks_length = ap length stacks ∙ t.stacks_length;
    stacks = λ s l a b. ap (λ (xs : List ℕ). get_or xs (s * z.lanes + l) 0) stacks ∙ t.stacks s l a b;
  }

  -- a link word has a value
  pub stored_link : IsShape z → (place : ℕ) → word ≡ Link place → is_place z place ≡ true → new.life.items ≡ old.life.items
      → new.links.items ≡ set old.links.items (position_of z place) value → new.stacks.items ≡ old.stacks.items → IsTable z (with_value words word value) new
  stored_link ok place named is life links stacks = subst (λ (w : Word). IsTable z (with_value words w value) new) (sym named) record {
    life_length = ap length life ∙ t.life_length;
    life = λ q is_q. ap (λ (xs : List ℕ). get_or xs (position_of z q) 0) life ∙ t.life q is_q;
    links_length = ap length links ∙ (length-set old.links.items (position_of z place) value ∙ t.links_length);
    links = λ q is_q. ap (λ (xs : List ℕ). get_or xs (position_of z q) 0) links ∙ placed z ok old.links.items words.link place value is t.links_length t.links q is_q;
    stacks_length = ap length stacks ∙ t.stacks_length;
    stacks = λ s l a b. ap (λ (xs : List ℕ). get_or xs (s * z.lanes + l) 0) stacks ∙ t.stacks s l a b;
  }

  -- a stack word has a value
  pub stored_stack : (shard lane : ℕ) → word ≡ Stack shard lane → shard < z.lanes → lane < z.lanes → new.life.items ≡ old.life.items → new.links.items ≡ old.links.items
      → new.stacks.items ≡ set old.stacks.items (shard * z.lanes + lane) value → IsTable z (with_value words word value) new
  stored_stack shard lane named is_shard is_lane life links stacks = subst (λ (w : Word). IsTable z (with_value words w value) new) (sym named) record {
    life_length = ap length life ∙ t.life_length;
    life = λ q is_q. ap (λ (xs : List ℕ). get_or xs (position_of z q) 0) life ∙ t.life q is_q;
    links_length = ap length links ∙ t.links_length;
    links = λ q is_q. ap (λ (xs : List ℕ). get_or xs (position_of z q) 0) links ∙ t.links q is_q;
    stacks_length = ap length stacks ∙ (length-set old.stacks.items (shard * z.lanes + lane) value ∙ t.stacks_length);
    stacks = λ s l a b. ap (λ (xs : List ℕ). get_or xs (s * z.lanes + l) 0) stacks
        ∙ stacked z.lanes old.stacks.items words.stack shard lane value is_shard is_lane t.stacks_length t.stacks s l a b;
  }

-- ---- which act published a key

-- a count at the position of the key's place is the index of what published the key
pub published_row : (z : Shape) → IsShape z → (rows : List ℕ) (count lane key : ℕ) (content : List ℕ) (with_ref : Bool) → length rows ≡ all_places z
    → is_place z (place_of key) ≡ true → (place : ℕ) → is_place z place ≡ true
    → get_or (set rows (position_of z (place_of key)) count) (position_of z place) 0 ≡ index_of_publish z rows count (acts.Publish lane key content with_ref ∷ []) place
published_row z ok rows count lane key content with_ref long is place is_one = dite (ℕ_discrete (place_of key) place)
    (λ same. ap (λ (n : ℕ). get_or (set rows (position_of z (place_of key)) count) (position_of z n) 0) (sym same)
    ∙ (get_or-set_same rows (position_of z (place_of key)) count 0 (let low = position_of-lt z (place_of key) is in omega arith)
    ∙ sym (ap (λ (b : Bool). cond b count (get_or rows (position_of z place) 0)) (eq-eqb (place_of key) place same))))
    (λ other. get_or-set_other rows (position_of z (place_of key)) (position_of z place) count 0 (λ e. other (sym (position_of-injective z ok place (place_of key) is_one is e)))
    ∙ sym (ap (λ (b : Bool). cond b count (get_or rows (position_of z place) 0)) (ne_eqb (place_of key) place other)))

-- ---- a step is made

-- what all lanes share tells of the world, from its parts
record Tells (z : Shape) (table : Table) (rows : List ℕ) (history : List Act) (w : World) (made : Option Made) : Type 0 where
  pub kept : IsKept z w
  pub acts_are : w.history ≡ history ++ made_acts made
  pub before : Words
  pub table_is : IsTable z before table
  pub words : w.words ≡ words_after before (made_step made)
  pub places : length rows ≡ all_places z
  pub published : (place : ℕ) (content : List ℕ) → is_place z place ≡ true → row_content (pool_after z w.history place).phase ≡ Some content
      → IsPublished w.history (index_of_publish z rows (length history) (made_acts made) place) content

tells : (shared : Shared) (w : World) (made : Option Made) → IsDraft shared w made → Tells shared.shape shared.words shared.published.items shared.acts.items w made
tells shared w made d = record { kept = d.kept; acts_are = d.history; before = d.before; table_is = d.table; words = d.words; places = d.places; published = d.published }

drafted : (shared : Shared) (w : World) (made : Option Made) → Tells shared.shape shared.words shared.published.items shared.acts.items w made → IsDraft shared w made
drafted shared w made t = record { kept = t.kept; history = t.acts_are; before = t.before; table = t.table_is; words = t.words; places = t.places; published = t.published }

-- where nothing of it changed, it still tells of the world
pub same_draft : (old new : Shared) (w : World) (made : Option Made) → new.shape ≡ old.shape → new.words ≡ old.words → new.published.items ≡ old.published.items
    → new.acts.items ≡ old.acts.items → IsDraft old w made → IsDraft new w made
same_draft old new w made shape words rows history d = drafted new w made
    (subst (λ (t : Shape × Table × List ℕ × List Act). Tells t.0 t.1 t.2 t.3 w made) (λ i. (sym shape i, sym words i, sym rows i, sym history i)) (tells old w made d))

-- an act, if there is one, joined the history, and the words are as before
pub record Joined (old : Shared) (act : Option Act) (new : Shared) : Type 0 where
  pub shape : new.shape ≡ old.shape
  pub words : new.words ≡ old.words
  pub acts_are : new.acts.items ≡ old.acts.items ++ act_list act
  pub places : length new.published.items ≡ length old.published.items
  pub rows : (place : ℕ) → is_place old.shape place ≡ true → get_or new.published.items (position_of old.shape place) 0
      ≡ index_of_publish old.shape old.published.items (length old.acts.items) (act_list act) place

-- where there is none, nothing changed
pub joined_none : (old new : Shared) (act : Option Act) → act ≡ None → new ≡ old → Joined old act new
joined_none old new act none same = subst (λ (t : Option Act × Shared). Joined old t.0 t.1) (λ i. (sym none i, sym same i)) record {
  shape = refl;
  words = refl;
  acts_are = sym (append-nil old.acts.items);
  places = refl;
  rows = λ place is. refl;
}

-- the act that there is joined it
pub joined_some : (old new after : Shared) (act : Option Act) (one : Act) → act ≡ Some one → new ≡ after → Joined old (Some one) after → Joined old act new
joined_some old new after act one some same joined = subst (λ (t : Option Act × Shared). Joined old t.0 t.1) (λ i. (sym some i, sym same i)) joined

-- the step's act joined the history and its word has the value after it: the step is made
pub step_kept : (old middle new : Shared) (w : World) (made : Made) → Joined old made.act middle
    → ((words : Words) → IsTable middle.shape words middle.words → IsTable middle.shape (with_value words made.step.word made.step.after) new.words)
    → new.shape ≡ middle.shape → new.published.items ≡ middle.published.items → new.acts.items ≡ middle.acts.items
    → IsDraft old w (Some made) → IsDraft new w None
step_kept old middle new w made joined stored shape rows history d = drafted new w None
    (subst (λ (z : Shape). Tells z new.words new.published.items new.acts.items w None) (sym (shape ∙ joined.shape)) record {
      kept = d.kept;
      acts_are = d.history ∙ sym (append-nil new.acts.items ∙ (history ∙ joined.acts_are));
      before = with_value d.before made.step.word made.step.after;
      table_is = subst (λ (z : Shape). IsTable z (with_value d.before made.step.word made.step.after) new.words) joined.shape
          (stored d.before (subst (λ (t : Shape × Table). IsTable t.0 d.before t.1) (λ i. (sym joined.shape i, sym joined.words i)) d.table));
      words = d.words;
      places = ap length rows ∙ (joined.places ∙ d.places);
      published = λ place content is row. subst (λ (n : ℕ). IsPublished w.history n content)
          (sym (ap (λ (xs : List ℕ). get_or xs (position_of old.shape place) 0) rows ∙ joined.rows place is))
          (d.published place content is row);
    })

-- ---- lanes before their first turns

-- a lane of the script, before its first turn
abbrev pub IsNewLane : Shape → List Command → Lane → Type 0
IsNewLane z script lane = (lane.script ≡ script) × (lane.ring.items ≡ replicate (shard_places z) 0) × (lane.progress ≡ first_progress)

-- lanes of these scripts, before their first turns
pub record AreNewLanes (z : Shape) (scripts : List (List Command)) (lanes : List Lane) : Type 0 where
  pub count : length lanes ≡ length scripts
  pub each : (number : ℕ) (lane : Lane) → slice_get lanes number ≡ Some lane
      → (slice_get scripts number ≡ Some lane.script) × (lane.ring.items ≡ replicate (shard_places z) 0) × (lane.progress ≡ first_progress)

-- two lists of one length, and an element more of each
pub added : {A B : Type 0} (xs : List A) (ys : List B) (x : A) (y : B) (number : ℕ) (z : A) → length xs ≡ length ys → slice_get (xs ++ x ∷ []) number ≡ Some z
    → ((z ≡ x) × (slice_get (ys ++ y ∷ []) number ≡ Some y)) ⊎ ((slice_get xs number ≡ Some z) × (slice_get (ys ++ y ∷ []) number ≡ slice_get ys number))
added [] [] x y zero z same at = inl (let e : Some x ≡ Some z = at in cc e, refl)
added [] [] x y (suc n) z same at = absurd (cc at)
added [] (b ∷ ys) x y n z same at = absurd (omega arith)
added (a ∷ xs) [] x y n z same at = absurd (omega arith)
added (a ∷ xs) (b ∷ ys) x y zero z same at = inr (at, refl)
added (a ∷ xs) (b ∷ ys) x y (suc n) z same at = added xs ys x y n z (omega arith) at

-- a lane more
pub lane_added : (z : Shape) (scripts : List (List Command)) (lanes : List Lane) (script : List Command) (lane : Lane) → AreNewLanes z scripts lanes → IsNewLane z script lane
    → AreNewLanes z (scripts ++ script ∷ []) (lanes ++ lane ∷ [])
lane_added z scripts lanes script lane are is = record {
  count = let long = are.count in omega (arith, length-append lanes (lane ∷ []), length-append scripts (script ∷ []));
  each = λ number one at. ⊎_elim
      (λ (h : (one ≡ lane) × (slice_get (scripts ++ script ∷ []) number ≡ Some script)).
      (h.1 ∙ ap Some (sym (ap (λ (l : Lane). l.script) h.0 ∙ is.0)), ap (λ (l : Lane). l.ring.items) h.0 ∙ is.1, ap (λ (l : Lane). l.progress) h.0 ∙ is.2))
      (λ (h : (slice_get lanes number ≡ Some one) × (slice_get (scripts ++ script ∷ []) number ≡ slice_get scripts number)).
      let e = are.each number one h.0 in (h.1 ∙ e.0, e.1, e.2))
      (added lanes scripts lane script number one are.count at);
}

-- ---- the lifecycle word of a place, after a step

pub life_made : (words : Words) (word : Word) (value changed place : ℕ) → word ≡ Life changed → changed ≡ place
    → (with_value words word value).life place ≡ value
life_made words word value changed place is same =
    ap (λ (x : Word). (with_value words x value).life place) is ∙ at-here words.life changed value place (sym same)

pub life_else : (words : Words) (word : Word) (value changed place : ℕ) → word ≡ Life changed → changed ≢ place
    → (with_value words word value).life place ≡ words.life place
life_else words word value changed place is other =
    ap (λ (x : Word). (with_value words x value).life place) is ∙ at-else words.life changed value place (λ e. other (sym e))

pub life_other : (words : Words) (word : Word) (value place : ℕ) → ((changed : ℕ) → word ≢ Life changed)
    → (with_value words word value).life place ≡ words.life place
life_other words (Life changed) value place isnt = absurd (isnt changed refl)
life_other words (Link changed) value place isnt = refl
life_other words (Stack shard lane) value place isnt = refl
