-- What a lane has seen of its own acts, and of the rooms of places.
use Rattle.std.proofs.Common.{◌≡◌, ◌≢◌, ℕ, zero, suc, ◌+◌, ◌*◌, ◌<◌, ◌≤◌, Bool, true, false, cond, eqb, ◌==◌, List, [], ◌∷◌, ◌++◌, length, take, Some, refl, sym, ap, ◌∙◌, subst, arith, inl, inr, slice_get, eq-eqb, append_assoc, append-nil, length-append}
use Rattle.std.specs.Prelude.{Contains}
use Rattle.std.proofs.lemmas.List.Elements.{Contains-append_right}
use Rattle.keybits.specs.declared.shape.Shape.{Shape}
use Rattle.keybits.specs.Keys.{place_of, generation_of}
use Rattle.seqpool.specs.declared.act.Act.{Act}
use Rattle.seqpool.specs.declared.act.Act.TheVariants.{Publish}
use Rattle.seqpool.specs.Pool.{Pool, with, lane_of, is_current, after, fresh, pool_from, pool_after, IsLegal, LegalFrom}
use Rattle.seqpool.specs.Histories.{At, PublishedAt, acts_of}
use Rattle.seqpool.proofs.Growth.{pool-append, legal-front, legal-rest, legal-take, legal-at}
use Rattle.seqpool.proofs.Ranks.{rank, rank-rises, rank-after, published-ranks, current-key, level-with}
use Rattle.poolsteps.specs.Shares.{room_of}
use Rattle.poolsteps.specs.declared.view.View.{View}
use Rattle.poolsteps.specs.Views.{the_lane}
use Rattle.shardpool.specs.Tokens.{LaneOf, FillingOf}
use Rattle.shardpool.specs.Lanes.{Made, SeesOn}
use Rattle.shardpool.specs.Seen.{RoomLaw}
use Rattle.shardpool.specs.Creates.{Gives}
use Rattle.poollaws.specs.Words.{IsPublished}
use Rattle.poollaws.specs.Rooms.{SawRoom}
use Rattle.poollaws.specs.Laws.{OwnActsLaw, FirstRoomLaw, LessRoomLaw, KeptRoomLaw, ToldRoomLaw, HeardRoomLaw, ReusedRoomLaw, OwnerLaw}

-- ---- a lane's own acts

-- what stands behind a beginning stands in the rest
in-rest : (xs ys : List Act) (i : ℕ) (act : Act) → At (xs ++ ys) i act → length xs ≤ i → (j : ℕ) × At ys j act
in-rest [] ys i act at behind = (i, at)
in-rest (x ∷ xs) ys zero act at behind = absurd (omega (arith, behind))
in-rest (x ∷ xs) ys (suc i) act at behind = in-rest xs ys i act at (omega (arith, behind))

contains-first : (b : Bool) (x : Act) (xs : List Act) → b ≡ true → Contains (cond b (x ∷ xs) xs) x
contains-first true x xs is = (0, omega arith, refl)
contains-first false x xs is = absurd (cc is)

contains-rest : (b : Bool) (x act : Act) (xs : List Act) → Contains xs act → Contains (cond b (x ∷ xs) xs) act
contains-rest true x act xs has = Contains-append_right (x ∷ []) xs act has
contains-rest false x act xs has = has

-- an act of a lane is among its acts
among-acts : (lane : ℕ) (history : List Act) (i : ℕ) (act : Act) → At history i act → lane_of act ≡ lane → Contains (acts_of lane history) act
among-acts lane [] i act at own = absurd (cc at)
among-acts lane (x ∷ xs) zero act at own =
    let same : x ≡ act = cc at in
    subst (λ (a : Act). Contains (acts_of lane (x ∷ xs)) a) same
    (contains-first (lane_of x == lane) x (acts_of lane xs) (eq-eqb (lane_of x) lane (ap lane_of same ∙ own)))
among-acts lane (x ∷ xs) (suc i) act at own = contains-rest (lane_of x == lane) x act (acts_of lane xs) (among-acts lane xs i act at own)

pub own-acts-law : OwnActsLaw
own-acts-law made old new goes i act behind at own =
    let rest = in-rest old.book.seen goes.more i act (subst (λ (h : List Act). At h i act) goes.seen at) behind in
    subst (λ (acts : List Act). Contains acts act) goes.own (among-acts (the_lane old.book).lane goes.more rest.0 act rest.1 own)

-- ---- rooms

-- behind the publish of a key no key of its place is published as long as the place's next key is that of the next generation, and with a lane
none-since : (z : Shape) (front more : List Act) (key next lane : ℕ) (content : List ℕ) → IsLegal z (front ++ more) → IsPublished front key content
    → is_current z (pool_after z (front ++ more)) next ≡ true → (pool_after z (front ++ more) (place_of next)).phase ≡ with lane
    → place_of next ≡ place_of key → generation_of next ≡ generation_of key + 1
    → (j other : ℕ) (what : List ℕ) → PublishedAt more j other what → place_of other ≢ place_of key
none-since z front more key next lane content legal (i, (by, with_ref, at)) current free place generation j other what (who, with_it, there) same =
    let P : Pool = pool_from z fresh front in
    let end : Pool = pool_from z P more in
    let rest : LegalFrom z P more = legal-rest z fresh front more legal in
    let first = published-ranks z (pool_from z fresh (take i front)) by key content with_ref
    (legal-at z fresh front i (Publish by key content with_ref) (legal-front z fresh front more legal) at).1 in
    let since = rank-after z fresh front i (Publish by key content with_ref) (place_of key) (legal-front z fresh front more legal) at in
    let least : 3 * generation_of key + 1 ≤ rank (P (place_of key)) = omega (arith, first.2, since) in
    let Q : Pool = pool_from z P (take j more) in
    let again = published-ranks z Q who other what with_it (legal-at z P more j (Publish who other what with_it) rest there).1 in
    let up = rank-rises z P (take j more) (place_of key) (legal-take z P more j rest) in
    let before : rank (Q (place_of key)) ≡ 3 * generation_of other = subst (λ (p : ℕ). rank (Q p) ≡ 3 * generation_of other) same again.1 in
    let on = rank-after z P more j (Publish who other what with_it) (place_of other) rest there in
    let last : 3 * generation_of other + 1 ≤ rank (end (place_of key)) = subst (λ (p : ℕ). 3 * generation_of other + 1 ≤ rank (end p)) same (omega (arith, again.2, on)) in
    let whole : pool_after z (front ++ more) ≡ end = pool-append z fresh front more in
    let now = current-key z end next (subst (λ (p : Pool). is_current z p next ≡ true) whole current) in
    let none = level-with (end (place_of next)).phase lane (subst (λ (p : Pool). (p (place_of next)).phase ≡ with lane) whole free) in
    let high : rank (end (place_of next)) ≡ 3 * generation_of next = omega (arith, now.1, none) in
    let here : rank (end (place_of key)) ≡ 3 * generation_of next = subst (λ (p : ℕ). rank (end p) ≡ 3 * generation_of next) place high in
    omega (arith, least, up, before, last, here, generation)

-- what has room for some has room for less
pub less-room : LessRoomLaw
less-room lane key size less knows low =
    let roomy = knows.roomy in record {
      front = knows.front;
      more = knows.more;
      seen = knows.seen;
      rooms = knows.rooms;
      kept = knows.kept;
      rooms_are = knows.rooms_are;
      beside = knows.beside;
      paired = knows.paired;
      content = knows.content;
      published = knows.published;
      roomy = omega (arith, roomy, low);
    }

pub first-room : FirstRoomLaw
first-room lane key size content is beside roomy = record {
  front = lane.book.seen;
  more = [];
  seen = sym (append-nil lane.book.seen);
  rooms = lane.book.rooms;
  kept = [];
  rooms_are = sym (append-nil lane.book.rooms);
  beside = beside;
  paired = refl;
  content = content;
  published = is;
  roomy = roomy;
}

-- what was seen goes on with these acts, and so many rooms beside them
saw-more : (old new : View) (key size : ℕ) (more : List Act) (kept : List ℕ) → new.seen ≡ old.seen ++ more → new.rooms ≡ old.rooms ++ kept
    → length kept ≡ length more → SawRoom old key size → SawRoom new key size
saw-more old new key size acts rooms seen beside paired knows =
    let long = length-append knows.kept rooms in
    let longer = length-append knows.more acts in
    let before = knows.paired in record {
      front = knows.front;
      more = knows.more ++ acts;
      seen = seen ∙ (ap (λ (h : List Act). h ++ acts) knows.seen ∙ append_assoc knows.front knows.more acts);
      rooms = knows.rooms;
      kept = knows.kept ++ rooms;
      rooms_are = beside ∙ (ap (λ (r : List ℕ). r ++ rooms) knows.rooms_are ∙ append_assoc knows.rooms knows.kept rooms);
      beside = knows.beside;
      paired = omega (arith, long, longer, before, paired);
      content = knows.content;
      published = knows.published;
      roomy = knows.roomy;
    }

pub kept-room : KeptRoomLaw
kept-room made old new key size goes knows = saw-more old.book new.book key size goes.more goes.kept goes.seen goes.rooms goes.paired knows

pub told-room : ToldRoomLaw
told-room teller note key size seen rooms knows =
    saw-more teller note key size [] [] (seen ∙ sym (append-nil teller.seen)) (rooms ∙ sym (append-nil teller.rooms)) refl knows

-- of a view of which a part is known
saw-paired : (book : View) (key size : ℕ) → SawRoom book key size → length book.rooms ≡ length book.seen
saw-paired book key size knows =
    let acts = ap length knows.seen in
    let rooms = ap length knows.rooms_are in
    let front = length-append knows.front knows.more in
    let beside = length-append knows.rooms knows.kept in
    omega (arith, acts, rooms, front, beside, knows.beside, knows.paired)

pub heard-room : HeardRoomLaw
heard-room note hearer key size (more, seen) (kept, rooms) paired knows =
    let acts = ap length seen in
    let long = ap length rooms in
    let acts_split = length-append note.seen more in
    let rooms_split = length-append note.rooms kept in
    let before = saw-paired note key size knows in
    saw-more note hearer key size more kept (sym seen) (sym rooms) (omega (arith, acts, long, acts_split, rooms_split, before, paired)) knows

module _ {T : Type 0} (content : T → List ℕ) (room : T → ℕ) (stays : RoomLaw) where
  pub reused-room : ReusedRoomLaw content room
  reused-room old new filling key size gives known place generation =
      let knows = kept-room gives.acts_made old new key size gives.created.goes known in
      let may = gives.made.may in
      let legal : IsLegal new.shape (knows.front ++ knows.more) = subst (IsLegal new.shape) knows.seen gives.created.goes.legal in
      let current = subst (λ (h : List Act). is_current new.shape (pool_after new.shape h) filling.key ≡ true) knows.seen may.current in
      let free = subst (λ (h : List Act). (pool_after new.shape h (place_of filling.key)).phase ≡ with (the_lane new.book).lane) knows.seen may.with_lane in
      let same = stays knows.front knows.more knows.rooms knows.kept (place_of key) knows.beside knows.paired
      (none-since new.shape knows.front knows.more key filling.key (the_lane new.book).lane knows.content legal knows.published current free place generation) in
      let now : room_of new.book.seen new.book.rooms (place_of filling.key) ≡ room_of (knows.front ++ knows.more) (knows.rooms ++ knows.kept) (place_of key)
      = ap (λ (h : List Act). room_of h new.book.rooms (place_of filling.key)) knows.seen
      ∙ (ap (λ (r : List ℕ). room_of (knows.front ++ knows.more) r (place_of filling.key)) knows.rooms_are
      ∙ ap (room_of (knows.front ++ knows.more) (knows.rooms ++ knows.kept)) place) in
      let roomy = gives.roomy in
      let had = knows.roomy in omega (arith, same, now, roomy, had)

pub owner : {T : Type 0} → OwnerLaw T
owner lane filling made = made.place.own
