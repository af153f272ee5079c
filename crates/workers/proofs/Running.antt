-- What each line does, by the clauses of the pool's calls.
use Rattle.std.proofs.Common.{◌≡◌, ◌≢◌, ◌⊎◌, inl, inr, ⊎_elim, ℕ, ◌+◌, ◌-◌, ◌<◌, ◌≤◌, Bool, true, false, cond, ◌==◌, List, [], ◌∷◌, ◌++◌, length, set, Option, Some, None, refl, sym, ap, ◌∙◌, subst, arith, true-eqb, Result, Ok, Err, OnOk, OnErr, is_ok}
use Rattle.std.proofs.lemmas.Bool.{cases_Bool}
use mathlib.Core.List.{IsPrefix}
use Rattle.keybits.specs.declared.shape.Shape.{Shape}
use Rattle.keybits.specs.Keys.{place_of, is_key}
use Rattle.seqpool.specs.declared.act.Act.{Act}
use Rattle.seqpool.specs.declared.act.Act.TheVariants as acts
use Rattle.seqpool.specs.Pool.{Phase, references_in, pool_after}
use Rattle.seqpool.specs.Histories.{PublishedAt}
use Rattle.seqpool.specs.Laws.{GetLaw, OnceLaw}
use Rattle.poolsteps.specs.Shares.{room_of}
use Rattle.steplaws.specs.Calls.{Call}
use Rattle.steplaws.specs.Calls.Call.{Publishing, Getting, Releasing, Clearing}
use Rattle.slotcell.specs.ByteBuf.{ByteBuf}
use Rattle.traces.specs.declared.script.Command.TheVariants.{Create, Write, Publish, Downgrade, Get, Read, Release, Clear}
use Rattle.traces.specs.declared.script.Operand.{Operand}
use Rattle.traces.specs.declared.script.Register.{Register as Number}
use Rattle.traces.specs.declared.reply.Reply.{Reply}
use Rattle.traces.specs.declared.reply.Reply.TheVariants as replies
use Rattle.poolsteps.specs.declared.view.View.{View}
use Rattle.poolsteps.specs.Views.{the_lane}
use Rattle.poolsteps.proofs.ViewLemmas.{prefix-self}
use Rattle.shardpool.specs.Tokens.{PoolOf, LaneOf, FillingOf, RefOf}
use Rattle.shardpool.specs.Lanes.{Owns, IsFilling, Made, SameLane, Calls, Did, Gets, holds, refs}
use Rattle.shardpool.specs.Creates.{Gives, GivesNone}
use Rattle.shardpool.proofs.references.Holdings.{gives-refs}
use Rattle.workers.specs.declared.registers.Register.{Register}
use Rattle.workers.specs.declared.registers.Held.{Held}
use Rattle.workers.specs.declared.registers.Held.TheVariants.{Empty, Filling, Reference}
use Rattle.workers.specs.Held.{is_empty, filling_in, reference_in}
use Rattle.workers.specs.Lines.{register_at, operand_key, with_held, with_new, WhereEmpty, WhereFilling, WhereReference, WhereKey, WhereInside, GetsInto, Clears, IsLine}
use Rattle.workers.specs.Tidy.{desk, weight, key_weight, Tidy, Runs}
use Rattle.workers.proofs.Setting.{at-same, set-again, set-same}
use Rattle.workers.proofs.Keeping.{empty-light, filling-light, reference-heavy, tidy-lane, tidy-set}
use Rattle.workers.proofs.Contents.{got-content}

-- ---- which line does what

where-empty : (h : Held) (Does Else : Type 0) → is_empty h ≡ true → Does → WhereEmpty h Does Else
where-empty Empty Does Else is does = does
where-empty (Filling filling) Does Else is does = absurd (cc is)
where-empty (Reference reference) Does Else is does = absurd (cc is)

where-filling : (h : Held) (Does : FillingOf ByteBuf → Type 0) (Else : Type 0) (filling : FillingOf ByteBuf) → filling_in h ≡ Some filling → Does filling → WhereFilling h Does Else
where-filling Empty Does Else filling is does = absurd (cc is)
where-filling (Filling has) Does Else filling is does = let same : has ≡ filling = cc is in subst Does (sym same) does
where-filling (Reference reference) Does Else filling is does = absurd (cc is)

where-reference : (h : Held) (Does : RefOf → Type 0) (Else : Type 0) (reference : RefOf) → reference_in h ≡ Some reference → Does reference → WhereReference h Does Else
where-reference Empty Does Else reference is does = absurd (cc is)
where-reference (Filling filling) Does Else reference is does = absurd (cc is)
where-reference (Reference has) Does Else reference is does = let same : has ≡ reference = cc is in subst Does (sym same) does

where-key : (o : Option ℕ) (Does : ℕ → Type 0) (Else : Type 0) (key : ℕ) → o ≡ Some key → Does key → WhereKey o Does Else
where-key o Does Else key is does = subst (λ (x : Option ℕ). WhereKey x Does Else) (sym is) does

-- ---- results that were tested

pub on-ok : {A E : Type 0} (r : Result A E) (P : Type 0) → true ≡ is_ok r → OnOk r P → P
on-ok (Ok x) P is p = p
on-ok (Err e) P is p = absurd (cc is)

pub on-err : {A E : Type 0} (r : Result A E) (P : Type 0) → false ≡ is_ok r → OnErr r P → P
on-err (Ok x) P is p = absurd (cc is)
on-err (Err e) P is p = p

-- ---- registers that were taken and put back

-- what was put last is held
pub held-again : (rs : List Register) (n : ℕ) (first last : Held) → n < length rs → with_held (with_held rs n first) n last ≡ with_held rs n last
held-again rs n first last inside =
    let one : Register = record (register_at rs n) { held = first } in
    ap (λ (r : Register). set (set rs n one) n (record r { held = last })) (at-same rs n one inside) ∙ set-again rs n one (record one { held = last })

filling-is : (h : Held) (filling : FillingOf ByteBuf) → filling_in h ≡ Some filling → h ≡ Filling filling
filling-is Empty filling is = absurd (cc is)
filling-is (Filling has) filling is = let same : has ≡ filling = cc is in ap Filling same
filling-is (Reference reference) filling is = absurd (cc is)

-- what was taken is held again
pub held-back : (rs : List Register) (n : ℕ) (filling : FillingOf ByteBuf) → n < length rs → filling_in (register_at rs n).held ≡ Some filling → with_held rs n (Filling filling) ≡ rs
held-back rs n filling inside is = ap (λ (h : Held). with_held rs n h) (sym (filling-is (register_at rs n).held filling is)) ∙ set-same rs n inside

-- ---- views

of-shape : (pool : PoolOf) (lane : LaneOf) (call : Call) (v w : View) → Owns pool lane → Calls pool.shape call v w → Calls lane.shape call v w
of-shape pool lane call v w owns called = subst (λ (z : Shape). Calls z call v w) (sym owns.1) called

same-self : (lane : LaneOf) → SameLane lane lane
same-self lane = (refl, refl, refl, refl)

-- ---- a create

module _ {pool : PoolOf} {old new : LaneOf} {rs : List Register} (register : Number) (tidy : Tidy pool (desk old rs)) (owns : Owns pool new) where
  module _ (fillings : (filling : FillingOf ByteBuf) → Made old filling → Made new filling) (is : is_empty (register_at rs register.number).held ≡ true)
      (filling : FillingOf ByteBuf) (gives : Gives (λ b. b.bytes) (λ b. b.room) old new filling) where
    -- a filling that the lane had is of another key
    given-other : (other : FillingOf ByteBuf) → Made old other → other.key ≢ filling.key
    given-other other made same = gives.unfilled (subst (λ (k : ℕ). IsFilling old (place_of k)) same made.place)

    created : Runs pool (desk old rs) (Create register) (replies.Filling filling.key) (desk new (with_new rs register.number filling.key (Filling filling)))
    created = record {
      line = where-empty (register_at rs register.number).held _ _ is (inl (filling, gives, refl, refl));
      tidy = tidy-set tidy owns register.number (record { held = Filling filling; last_key = Some filling.key }) register.small
          (λ i other there at. fillings other (tidy.made i other at))
          (λ other at. let same : filling ≡ other = cc at in subst (λ (f : FillingOf ByteBuf). Made new f) same gives.made)
          (λ i this other at there also same. let this_is : filling ≡ this = cc at in
          given-other other (tidy.made i other also) (same ∙ ap (λ (f : FillingOf ByteBuf). f.key) (sym this_is)))
          (λ key. let h = gives.created.held key in let light = (empty-light (register_at rs register.number).held is).1 key in omega (arith, h, light))
          (let light = (empty-light (register_at rs register.number).held is).0 in let same = gives-refs gives in omega (arith, light, same));
      same = gives.created.same;
      seen = (gives.created.goes.more, sym gives.created.goes.seen);
    }

    pub runs-create : (key : ℕ) (now : List Register) → key ≡ filling.key → now ≡ with_new rs register.number key (Filling filling)
        → Runs pool (desk old rs) (Create register) (replies.Filling key) (desk new now)
    runs-create key now key_is now_is =
        subst (λ (x : List Register). Runs pool (desk old rs) (Create register) (replies.Filling key) (desk new x)) (sym now_is)
        (subst (λ (k : ℕ). Runs pool (desk old rs) (Create register) (replies.Filling k) (desk new (with_new rs register.number k (Filling filling)))) (sym key_is) created)

  -- a create that gave none
  pub runs-uncreated : ((filling : FillingOf ByteBuf) → Made old filling → Made new filling) → is_empty (register_at rs register.number).held ≡ true → GivesNone old new
      → refs new ≡ refs old → (reply : Reply)
      → ((reply ≡ replies.Full) × (old.pages.opened ≡ old.shape.pages)) ⊎ ((reply ≡ replies.Memory) × (old.pages.opened < old.shape.pages))
      → Runs pool (desk old rs) (Create register) reply (desk new rs)
  runs-uncreated fillings is none refs_same reply why = record {
    line = where-empty (register_at rs register.number).held _ _ is (inr (none, refl, why));
    tidy = tidy-lane tidy owns fillings none.created.held refs_same;
    same = none.created.same;
    seen = (none.created.goes.more, sym none.created.goes.seen);
  }

-- ---- a write

module _ {pool : PoolOf} {lane : LaneOf} {rs : List Register} (register : Number) (tidy : Tidy pool (desk lane rs)) (bytes : List ℕ) (filling : FillingOf ByteBuf)
    (is : filling_in (register_at rs register.number).held ≡ Some filling) (object : ByteBuf) where
  abbrev now_filling : FillingOf ByteBuf
  now_filling = record filling { object = object }

  now-made : Made lane now_filling
  now-made = let made = tidy.made register.number filling is in record { table = made.table; directory = made.directory; start = made.start; place = made.place; may = made.may; emptied = made.emptied }

  written : object.bytes ≡ filling.object.bytes ++ bytes → filling.object.room ≤ object.room
      → Runs pool (desk lane rs) (Write register bytes) replies.Done (desk lane (with_held rs register.number (Filling now_filling)))
  written more roomy = record {
    line = where-filling (register_at rs register.number).held _ _ filling is (refl, inl (object, more, refl, refl, roomy));
    tidy = tidy-set tidy tidy.owns register.number (record (register_at rs register.number) { held = Filling now_filling }) register.small
        (λ i other there at. tidy.made i other at)
        (λ other at. let same : now_filling ≡ other = cc at in subst (λ (f : FillingOf ByteBuf). Made lane f) same now-made)
        (λ i this other at there also same. let this_is : now_filling ≡ this = cc at in
        there (tidy.apart i register.number other filling also is (same ∙ ap (λ (f : FillingOf ByteBuf). f.key) (sym this_is))))
        (λ key. let light = (filling-light (register_at rs register.number).held filling is).1 key in omega (arith, light))
        (let light = (filling-light (register_at rs register.number).held filling is).0 in omega (arith, light));
    same = same-self lane;
    seen = prefix-self lane.book.seen;
  }

  inside : register.number < length rs
  inside = omega (arith, tidy.count, register.small)

  module _ (between now : List Register) (between_is : between ≡ with_held rs register.number Empty) (now_is : now ≡ with_held between register.number (Filling now_filling)) where
    put : now ≡ with_held rs register.number (Filling now_filling)
    put = now_is ∙ (ap (λ (x : List Register). with_held x register.number (Filling now_filling)) between_is ∙ held-again rs register.number Empty (Filling now_filling) inside)

    pub runs-write : object.bytes ≡ filling.object.bytes ++ bytes → filling.object.room ≤ object.room → Runs pool (desk lane rs) (Write register bytes) replies.Done (desk lane now)
    runs-write more roomy = subst (λ (x : List Register). Runs pool (desk lane rs) (Write register bytes) replies.Done (desk lane x)) (sym put) (written more roomy)

    pub runs-refused : object ≡ filling.object → filling.object.room < length filling.object.bytes + length bytes
        → Runs pool (desk lane rs) (Write register bytes) replies.Memory (desk lane now)
    runs-refused same small =
        let back : now ≡ rs = put ∙ (ap (λ (x : ByteBuf). with_held rs register.number (Filling (record filling { object = x }))) same
        ∙ held-back rs register.number filling inside is) in
        subst (λ (x : List Register). Runs pool (desk lane rs) (Write register bytes) replies.Memory (desk lane x)) (sym back) (record {
          line = where-filling (register_at rs register.number).held _ _ filling is (refl, inr (refl, refl, small));
          tidy = tidy;
          same = same-self lane;
          seen = prefix-self lane.book.seen;
        })

-- ---- a publish, and a downgrade

-- a lane has no reference to the key of a filling
pub filling-unheld : (lane : LaneOf) (filling : FillingOf ByteBuf) → Made lane filling → holds lane filling.key ≡ 0
filling-unheld lane filling made =
    ap (λ (b : Bool). cond b (references_in (pool_after lane.shape lane.book.seen (place_of filling.key)).phase (the_lane lane.book).lane) 0) made.may.current
    ∙ ap (λ (p : Phase). references_in p (the_lane lane.book).lane) made.may.with_lane

at-publish : (b : Bool) (m n w : ℕ) → (b ≡ true → m ≡ 0) → n ≡ cond b w m → m + cond b w 0 ≤ n
at-publish true m n w none is = let z = none refl in omega (arith, z, is)
at-publish false m n w none is = omega (arith, is)

module _ {pool : PoolOf} {old new : LaneOf} {rs : List Register} (register : Number) (tidy : Tidy pool (desk old rs)) (owns : Owns pool new) (filling : FillingOf ByteBuf)
    (is : filling_in (register_at rs register.number).held ≡ Some filling) (fillings : (other : FillingOf ByteBuf) → other.key ≢ filling.key → Made old other → Made new other) where
  others-made : (i : ℕ) (other : FillingOf ByteBuf) → i ≢ register.number → filling_in (register_at rs i).held ≡ Some other → Made new other
  others-made i other there at = fillings other (λ same. there (tidy.apart i register.number other filling at is same)) (tidy.made i other at)

  unheld : (key : ℕ) → filling.key == key ≡ true → holds old key ≡ 0
  unheld key same = subst (λ (k : ℕ). holds old k ≡ 0) (true-eqb filling.key key (sym same)) (filling-unheld old filling (tidy.made register.number filling is))

  abbrev light : (weight (register_at rs register.number).held ≡ 0) × ((key : ℕ) → key_weight key (register_at rs register.number).held ≡ 0)
  light = filling-light (register_at rs register.number).held filling is

  module _ (called : Calls pool.shape (Publishing filling.key filling.object.bytes false) old.book new.book)
      (did : Did (acts.Publish old.number filling.key filling.object.bytes false ∷ []) old new) (refs_same : refs new ≡ refs old)
      (roomy : room_of new.book.seen new.book.rooms (place_of filling.key) ≡ filling.object.room) where
    published : Runs pool (desk old rs) (Publish register) (replies.Key filling.key) (desk new (with_held rs register.number Empty))
    published = record {
      line = where-filling (register_at rs register.number).held _ _ filling is (of-shape pool old (Publishing filling.key filling.object.bytes false) old.book new.book tidy.owns called, did, refl, refl, roomy);
      tidy = tidy-set tidy owns register.number (record (register_at rs register.number) { held = Empty }) register.small others-made
          (λ other at. absurd (cc at)) (λ i this other at there also same. absurd (cc at))
          (λ key. let h = at-publish (filling.key == key) (holds old key) (holds new key) 0 (unheld key) (did.held key) in let l = light.1 key in omega (arith, h, l))
          (let l = light.0 in omega (arith, l, refs_same));
      same = did.same;
      seen = called.did.acted.seen;
    }

    pub runs-publish : (key : ℕ) (now : List Register) → key ≡ filling.key → now ≡ with_held rs register.number Empty
        → Runs pool (desk old rs) (Publish register) (replies.Key key) (desk new now)
    runs-publish key now key_is now_is =
        subst (λ (x : List Register). Runs pool (desk old rs) (Publish register) (replies.Key key) (desk new x)) (sym now_is)
        (subst (λ (k : ℕ). Runs pool (desk old rs) (Publish register) (replies.Key k) (desk new (with_held rs register.number Empty))) (sym key_is) published)

  module _ (called : Calls pool.shape (Publishing filling.key filling.object.bytes true) old.book new.book)
      (did : Did (acts.Publish old.number filling.key filling.object.bytes true ∷ []) old new) (refs_more : refs new ≡ refs old + 1)
      (roomy : room_of new.book.seen new.book.rooms (place_of filling.key) ≡ filling.object.room) where
    abbrev of_filling : RefOf
    of_filling = record { key = filling.key }

    downgraded : Runs pool (desk old rs) (Downgrade register) (replies.Key filling.key) (desk new (with_held rs register.number (Reference of_filling)))
    downgraded = record {
      line = where-filling (register_at rs register.number).held _ _ filling is (of-shape pool old (Publishing filling.key filling.object.bytes true) old.book new.book tidy.owns called, did, refl, refl, roomy);
      tidy = tidy-set tidy owns register.number (record (register_at rs register.number) { held = Reference of_filling }) register.small others-made
          (λ other at. absurd (cc at)) (λ i this other at there also same. absurd (cc at))
          (λ key. let h = at-publish (filling.key == key) (holds old key) (holds new key) 1 (unheld key) (did.held key) in let l = light.1 key in omega (arith, h, l))
          (let l = light.0 in omega (arith, l, refs_more));
      same = did.same;
      seen = called.did.acted.seen;
    }

    pub runs-downgrade : (has : RefOf) (key : ℕ) (between now : List Register) → has.key ≡ filling.key → key ≡ has.key → between ≡ with_held rs register.number Empty
        → now ≡ with_held between register.number (Reference has) → Runs pool (desk old rs) (Downgrade register) (replies.Key key) (desk new now)
    runs-downgrade has key between now has_is key_is between_is now_is =
        let one : has ≡ of_filling = ap (λ (k : ℕ). record { key = k }) has_is in
        let put : now ≡ with_held rs register.number (Reference of_filling) =
        now_is ∙ (ap (λ (x : List Register). with_held x register.number (Reference has)) between_is
        ∙ (held-again rs register.number Empty (Reference has) (omega (arith, tidy.count, register.small)) ∙ ap (λ (r : RefOf). with_held rs register.number (Reference r)) one)) in
        subst (λ (x : List Register). Runs pool (desk old rs) (Downgrade register) (replies.Key key) (desk new x)) (sym put)
        (subst (λ (k : ℕ). Runs pool (desk old rs) (Downgrade register) (replies.Key k) (desk new (with_held rs register.number (Reference of_filling)))) (sym (key_is ∙ has_is)) downgraded)

-- ---- a release

at-release : (b : Bool) (m n : ℕ) → n ≡ cond b (m - 1) m → m ≤ n + cond b 1 0
at-release true m n is = omega (arith, is)
at-release false m n is = omega (arith, is)

module _ {pool : PoolOf} {old new : LaneOf} {rs : List Register} (register : Number) (tidy : Tidy pool (desk old rs)) (owns : Owns pool new) (reference : RefOf)
    (is : reference_in (register_at rs register.number).held ≡ Some reference) (fillings : (filling : FillingOf ByteBuf) → Made old filling → Made new filling)
    (called : Calls pool.shape (Releasing reference.key) old.book new.book) (did : (rest : List Act) × Did (acts.Release old.number reference.key ∷ rest) old new)
    (refs_less : refs new + 1 ≡ refs old) (one_less : (k : ℕ) → holds new k ≡ cond (reference.key == k) (holds old k - 1) (holds old k)) where
  abbrev heavy : (weight (register_at rs register.number).held ≡ 1) × ((key : ℕ) → key_weight key (register_at rs register.number).held ≡ cond (reference.key == key) 1 0)
  heavy = reference-heavy (register_at rs register.number).held reference is

  released : Runs pool (desk old rs) (Release register) replies.Done (desk new (with_held rs register.number Empty))
  released = record {
    line = where-reference (register_at rs register.number).held _ _ reference is (of-shape pool old (Releasing reference.key) old.book new.book tidy.owns called, did, refl, refl);
    tidy = tidy-set tidy owns register.number (record (register_at rs register.number) { held = Empty }) register.small
        (λ i other there at. fillings other (tidy.made i other at))
        (λ other at. absurd (cc at)) (λ i this other at there also same. absurd (cc at))
        (λ key. let h = at-release (reference.key == key) (holds old key) (holds new key) (one_less key) in let l = heavy.1 key in omega (arith, h, l))
        (let l = heavy.0 in omega (arith, l, refs_less));
    same = did.1.same;
    seen = called.did.acted.seen;
  }

  pub runs-release : (now : List Register) → now ≡ with_held rs register.number Empty → Runs pool (desk old rs) (Release register) replies.Done (desk new now)
  runs-release now now_is = subst (λ (x : List Register). Runs pool (desk old rs) (Release register) replies.Done (desk new x)) (sym now_is) released

-- ---- a clear

same-as : {old new : LaneOf} → new ≡ old → SameLane old new × IsPrefix old.book.seen new.book.seen
same-as {old = old} is = subst (λ (l : LaneOf). SameLane old l × IsPrefix old.book.seen l.book.seen) (sym is) (same-self old, prefix-self old.book.seen)

module _ {pool : PoolOf} {old new : LaneOf} {rs : List Register} (tidy : Tidy pool (desk old rs)) (owns : Owns pool new) (operand : Operand) (key : ℕ)
    (key_is : operand_key rs operand ≡ Some key) (fillings : (filling : FillingOf ByteBuf) → Made old filling → Made new filling) (refs_same : refs new ≡ refs old) where
  at-old : (b : Bool) → is_key old.shape key ≡ b → is_key pool.shape key ≡ b
  at-old b is = ap (λ (z : Shape). is_key z key) (sym tidy.owns.1) ∙ is

  module _ (marked : Bool) (outside : is_key pool.shape key ≡ false → (marked ≡ false) × (new ≡ old))
      (called : is_key pool.shape key ≡ true → Calls pool.shape (Clearing key) old.book new.book)
      (did : is_key pool.shape key ≡ true → (rest : List Act) × Did (acts.Clear old.number key marked ∷ rest) old new)
      (held : (k : ℕ) → holds new k ≡ holds old k) where
    clears-inside : WhereInside key (desk old rs) (replies.Cleared marked) (desk new rs) (replies.Cleared false) (Clears key (desk old rs) (replies.Cleared marked) (desk new rs))
    clears-inside = (
      λ within. (of-shape pool old (Clearing key) old.book new.book tidy.owns (called (at-old true within)), (marked, did (at-old true within), refl), refl),
      λ off. let o = outside (at-old false off) in (ap replies.Cleared o.0, ap (λ (l : LaneOf). desk l rs) o.1),
    )

    clear-goes : SameLane old new × IsPrefix old.book.seen new.book.seen
    clear-goes = ⊎_elim (λ (within : is_key pool.shape key ≡ true). ((did within).1.same, (called within).did.acted.seen))
        (λ (off : is_key pool.shape key ≡ false). same-as (outside off).1) (cases_Bool (is_key pool.shape key))

    pub runs-clear : Runs pool (desk old rs) (Clear operand) (replies.Cleared marked) (desk new rs)
    runs-clear = record {
      line = where-key (operand_key rs operand) _ _ key key_is clears-inside;
      tidy = tidy-lane tidy owns fillings held refs_same;
      same = clear-goes.0;
      seen = clear-goes.1;
    }

  -- ---- a get

  module _ (register : Number) (is : is_empty (register_at rs register.number).held ≡ true)
      (outside : is_key pool.shape key ≡ false → new ≡ old) (called : is_key pool.shape key ≡ true → Calls pool.shape (Getting key) old.book new.book)
      (gets : is_key pool.shape key ≡ true → Gets key old new None) (no_more : (k : ℕ) → holds new k ≡ holds old k) where
    missed-inside : WhereInside key (desk old rs) replies.Missing (desk new rs) replies.Missing (GetsInto register.number key (desk old rs) replies.Missing (desk new rs))
    missed-inside = (
      λ within. (of-shape pool old (Getting key) old.book new.book tidy.owns (called (at-old true within)), inl (gets (at-old true within), refl, refl)),
      λ off. (refl, ap (λ (l : LaneOf). desk l rs) (outside (at-old false off))),
    )

    missed-goes : SameLane old new × IsPrefix old.book.seen new.book.seen
    missed-goes = ⊎_elim (λ (within : is_key pool.shape key ≡ true). ((gets within).1.same, (called within).did.acted.seen))
        (λ (off : is_key pool.shape key ≡ false). same-as (outside off)) (cases_Bool (is_key pool.shape key))

    pub runs-missed : Runs pool (desk old rs) (Get register operand) replies.Missing (desk new rs)
    runs-missed = record {
      line = where-empty (register_at rs register.number).held _ _ is (where-key (operand_key rs operand) _ _ key key_is missed-inside);
      tidy = tidy-lane tidy owns fillings no_more refs_same;
      same = missed-goes.0;
      seen = missed-goes.1;
    }

at-get : (b : Bool) (m n : ℕ) → n ≡ cond b (m + 1) m → m + cond b 1 0 ≤ n
at-get true m n is = omega (arith, is)
at-get false m n is = omega (arith, is)

module _ {pool : PoolOf} {old new : LaneOf} {rs : List Register} (tidy : Tidy pool (desk old rs)) (owns : Owns pool new) (operand : Operand) (key : ℕ)
    (key_is : operand_key rs operand ≡ Some key) (fillings : (filling : FillingOf ByteBuf) → Made old filling → Made new filling) (refs_more : refs new ≡ refs old + 1)
    (register : Number) (is : is_empty (register_at rs register.number).held ≡ true) (within : is_key pool.shape key ≡ true)
    (called : Calls pool.shape (Getting key) old.book new.book) (reference : RefOf) (gets : Gets key old new (Some reference)) where
  abbrev of_key : RefOf
  of_key = record { key = key }

  abbrev light_there : (weight (register_at rs register.number).held ≡ 0) × ((k : ℕ) → key_weight k (register_at rs register.number).held ≡ 0)
  light_there = empty-light (register_at rs register.number).held is

  found : (reply : Reply) → ((reply ≡ replies.Found gets.2) ⊎ (reply ≡ replies.Memory))
      → Runs pool (desk old rs) (Get register operand) reply (desk new (with_new rs register.number key (Reference of_key)))
  found reply replied = record {
    line = where-empty (register_at rs register.number).held _ _ is (where-key (operand_key rs operand) _ _ key key_is (
      λ inside. (of-shape pool old (Getting key) old.book new.book tidy.owns called, inr (gets.2, gets.3, replied, refl)),
      λ off. let both : true ≡ false = sym within ∙ (ap (λ (z : Shape). is_key z key) (sym tidy.owns.1) ∙ off) in absurd (cc both),
    ));
    tidy = tidy-set tidy owns register.number (record { held = Reference of_key; last_key = Some key }) register.small
        (λ i other there at. fillings other (tidy.made i other at))
        (λ other at. absurd (cc at)) (λ i this other at there also same. absurd (cc at))
        (λ k. let h = at-get (key == k) (holds old k) (holds new k) (gets.3.held k) in let l = light_there.1 k in omega (arith, h, l))
        (let l = light_there.0 in omega (arith, l, refs_more));
    same = gets.3.same;
    seen = called.did.acted.seen;
  }

  pub runs-found : GetLaw → OnceLaw → (bytes shown : List ℕ) (reply : Reply) (now : List Register) → ((j : ℕ) × PublishedAt new.book.seen j reference.key bytes)
      → shown ≡ bytes → (reply ≡ replies.Found shown) ⊎ (reply ≡ replies.Memory) → now ≡ with_new rs register.number key (Reference reference)
      → Runs pool (desk old rs) (Get register operand) reply (desk new now)
  runs-found get once bytes shown reply now published shown_is replied now_is =
      let at_key : PublishedAt new.book.seen published.0 key bytes = subst (λ (k : ℕ). PublishedAt new.book.seen published.0 k bytes) gets.0 published.1 in
      let acted = called.did.acted in
      let content : bytes ≡ gets.2 = got-content get once pool.shape (the_lane new.book).lane old.number key published.0 new.book.seen (the_lane old.book).mine
      (the_lane new.book).mine gets.2 bytes acted.legal acted.own gets.3.mine at_key in
      let one : reference ≡ of_key = ap (λ (k : ℕ). record { key = k }) gets.0 in
      let put : now ≡ with_new rs register.number key (Reference of_key) = now_is ∙ ap (λ (r : RefOf). with_new rs register.number key (Reference r)) one in
      subst (λ (x : List Register). Runs pool (desk old rs) (Get register operand) reply (desk new x)) (sym put)
      (found reply (⊎_elim (λ (f : reply ≡ replies.Found shown). inl (f ∙ ap replies.Found (shown_is ∙ content))) (λ (m : reply ≡ replies.Memory). inr m) replied))

-- ---- a read

pub read-content : (lane : LaneOf) (rs : List Register) (register : Number) (reference : RefOf) (bytes shown : List ℕ) (reply : Reply)
    → reference_in (register_at rs register.number).held ≡ Some reference → ((j : ℕ) × PublishedAt lane.book.seen j reference.key bytes) → shown ≡ bytes
    → (reply ≡ replies.Content shown) ⊎ (reply ≡ replies.Memory) → IsLine (desk lane rs) (Read register) reply (desk lane rs)
read-content lane rs register reference bytes shown reply is published shown_is replied =
    where-reference (register_at rs register.number).held _ _ reference is (
      refl,
      ⊎_elim (λ (c : reply ≡ replies.Content shown). inl (bytes, published.0, published.1, c ∙ ap replies.Content shown_is)) (λ (m : reply ≡ replies.Memory). inr m) replied,
    )
