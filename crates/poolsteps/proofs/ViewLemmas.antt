-- Lists of records and of views, and histories that go on.
use Rattle.std.proofs.Common.{◌≡◌, ◌≢◌, ◌⊎◌, inl, inr, ⊎_elim, ℕ, zero, suc, ◌+◌, ◌<◌, ◌≤◌, Bool, true, false, cond, ltb, List, [], ◌∷◌, ◌++◌, length}
use Rattle.std.proofs.Common.{slice_get, slice_set, Option, Some, None, refl, ap, sym, ◌∙◌, subst, arith, eq-eqb, append_assoc, append-nil}
use Rattle.std.specs.List.{All}
use Rattle.std.proofs.lemmas.Bool.{ltb-true, ltb-false}
use Rattle.std.proofs.lemmas.List.Elements.{All-nil, All-cons, All-head, All-tail}
use mathlib.Core.Option.{some, some-injective, some-ne-none}
use mathlib.Core.List.{IsPrefix}
use lib.ListN.{get_elem?}
use Rattle.seqpool.specs.declared.act.Act.{Act}
use Rattle.seqpool.specs.Histories.{acts_of}
use Rattle.seqpool.proofs.Growth.{acts-append}
use Rattle.steplaws.specs.StepLaws.{with_act}
use Rattle.poolsteps.specs.declared.view.LaneRecord.{LaneRecord}
use Rattle.poolsteps.specs.declared.view.View.{View}
use Rattle.poolsteps.specs.Views.{In, times_in, times_among, acts_in}
use Rattle.poolsteps.specs.Seats.{first_of, others_of, longer}

-- ---- records

-- where a record is among these, its lane is
pub times-some : (r : LaneRecord) (rs : List LaneRecord) → In r rs → 0 < times_in r.lane rs
times-some r [] among = absurd among
times-some r (x ∷ more) among = ⊎_elim
    (λ (is : r ≡ x).
    let here = ap (λ b. let n : ℕ = cond b 1 0 in n) (eq-eqb x.lane r.lane (ap (λ (y : LaneRecord). y.lane) (sym is))) in omega arith)
    (λ (there : In r more). let some_more = times-some r more there in omega arith)
    among

-- what is among one record is that record
pub in-one : (r x : LaneRecord) (rs : List LaneRecord) → rs ≡ x ∷ [] → In r rs → r ≡ x
in-one r x rs one among = ⊎_elim (λ (is : r ≡ x). is) (λ (bad : ⊥). absurd bad) (subst (In r) one among)

-- the records are the first and the others
pub in-first : (r : LaneRecord) (rs : List LaneRecord) → In r (first_of rs) → In r rs
in-first r [] among = among
in-first r (x ∷ more) among = ⊎_elim (λ (is : r ≡ x). inl is) (λ (bad : ⊥). absurd bad) among

pub in-others : (r : LaneRecord) (rs : List LaneRecord) → In r (others_of rs) → In r rs
in-others r [] among = among
in-others r (x ∷ more) among = inr among

pub times-split : (lane : ℕ) (rs : List LaneRecord) → times_in lane (others_of rs) + times_in lane (first_of rs) ≡ times_in lane rs
times-split lane [] = refl
times-split lane (r ∷ more) = omega arith

-- the records of two seats at one are those of the one and those of the other
pub in-either : (r : LaneRecord) (front behind : List LaneRecord) → In r (front ++ behind) → In r front ⊎ In r behind
in-either r [] behind among = inr among
in-either r (x ∷ more) behind among = ⊎_elim
    (λ (is : r ≡ x). inl (inl is))
    (λ (there : In r (more ++ behind)). ⊎_elim (λ (here : In r more). inl (inr here)) (λ (other : In r behind). inr other) (in-either r more behind there))
    among

pub in-front : (r : LaneRecord) (front behind : List LaneRecord) → In r front → In r (front ++ behind)
in-front r [] behind among = absurd among
in-front r (x ∷ more) behind among = ⊎_elim (λ (is : r ≡ x). inl is) (λ (there : In r more). inr (in-front r more behind there)) among

pub in-behind : (r : LaneRecord) (front behind : List LaneRecord) → In r behind → In r (front ++ behind)
in-behind r [] behind among = among
in-behind r (x ∷ more) behind among = inr (in-behind r more behind among)

pub times-joined : (lane : ℕ) (front behind : List LaneRecord) → times_in lane (front ++ behind) ≡ times_in lane front + times_in lane behind
times-joined lane [] behind = omega arith
times-joined lane (r ∷ more) behind = let rest = times-joined lane more behind in omega arith

-- ---- how often a lane stands among the records of all seats

same-times : (lane : ℕ) (v w : View) → some v ≡ some w → times_in lane v.lanes ≡ times_in lane w.lanes
same-times lane v w same = ap (λ (u : View). times_in lane u.lanes) (some-injective v w same)

-- after the view of one seat is changed
pub among-set : (lane : ℕ) (views : List View) (seat : ℕ) (v w : View) → get_elem? views seat ≡ some v
    → times_among lane (slice_set views seat w) + times_in lane v.lanes ≡ times_among lane views + times_in lane w.lanes
among-set lane [] seat v w at = absurd (some-ne-none v (sym at))
among-set lane (x ∷ more) zero v w at = let is = same-times lane x v at in omega arith
among-set lane (x ∷ more) (suc seat) v w at = let rest = among-set lane more seat v w at in omega arith

-- in two lists of views
pub among-append : (lane : ℕ) (front behind : List View) → times_among lane (front ++ behind) ≡ times_among lane front + times_among lane behind
among-append lane [] behind = omega arith
among-append lane (x ∷ more) behind = let rest = among-append lane more behind in omega arith

-- one seat has no more of it than all have
pub among-at : (lane : ℕ) (views : List View) (seat : ℕ) (v : View) → get_elem? views seat ≡ some v → times_in lane v.lanes ≤ times_among lane views
among-at lane [] seat v at = absurd (some-ne-none v (sym at))
among-at lane (x ∷ more) zero v at = let is = same-times lane x v at in omega arith
among-at lane (x ∷ more) (suc seat) v at = let rest = among-at lane more seat v at in omega arith

-- nor do two seats
pub among-two : (lane : ℕ) (views : List View) (seat other : ℕ) (v w : View) → seat ≢ other → get_elem? views seat ≡ some v → get_elem? views other ≡ some w
    → times_in lane v.lanes + times_in lane w.lanes ≤ times_among lane views
among-two lane [] seat other v w apart at there = absurd (some-ne-none v (sym at))
among-two lane (x ∷ more) zero zero v w apart at there = absurd (apart refl)
among-two lane (x ∷ more) zero (suc other) v w apart at there =
    let is = same-times lane x v at in let rest = among-at lane more other w there in omega arith
among-two lane (x ∷ more) (suc seat) zero v w apart at there =
    let is = same-times lane x w there in let rest = among-at lane more seat v at in omega arith
among-two lane (x ∷ more) (suc seat) (suc other) v w apart at there = let rest = among-two lane more seat other v w (λ same. apart (ap suc same)) at there in omega arith

-- ---- histories

pub prefix-self : {A : Type 0} (history : List A) → IsPrefix history history
prefix-self history = ([], append-nil history)

pub prefix-trans : {A : Type 0} (first second third : List A) → IsPrefix first second → IsPrefix second third → IsPrefix first third
prefix-trans {A} first second third p q = (p.0 ++ q.0, sym (append_assoc first p.0 q.0) ∙ (ap (λ (entries : List A). entries ++ q.0) p.1 ∙ q.1))

-- the act of a step stands behind the history
pub act-behind : (history : List Act) (act : Option Act) → with_act history act ≡ history ++ acts_in act
act-behind history None = sym (append-nil history)
act-behind history (Some act) = refl

adds-none : (xs ys : List Act) → xs ≡ xs ++ ys → ys ≡ []
adds-none [] ys e = sym e
adds-none (x ∷ xs) ys e = adds-none xs ys (cc e)

-- where a lane has as many acts in a history as in what it saw of it, it has none behind that
pub none-behind : (lane : ℕ) (seen between history : List Act) → seen ++ between ≡ history → acts_of lane seen ≡ acts_of lane history
    → acts_of lane between ≡ []
none-behind lane seen between history is same =
    adds-none (acts_of lane seen) (acts_of lane between) (same ∙ (ap (acts_of lane) (sym is) ∙ acts-append lane seen between))

left-empty : (xs ys : List Act) → xs ++ ys ≡ [] → xs ≡ []
left-empty [] ys e = refl
left-empty (x ∷ xs) ys e = absurd (cc e)

-- where a seat saw all acts of a lane, anything between what it saw and the history has the same of them
pub acts-between : (lane : ℕ) (seen middle history : List Act) → IsPrefix seen middle → IsPrefix middle history → acts_of lane seen ≡ acts_of lane history
    → acts_of lane seen ≡ acts_of lane middle
unfolding prefix-trans
acts-between lane seen middle history p q same =
    let whole = prefix-trans seen middle history p q in
    let none = none-behind lane seen (p.0 ++ q.0) history whole.1 same in
    let rest : acts_of lane p.0 ≡ [] = left-empty (acts_of lane p.0) (acts_of lane q.0) (sym (acts-append lane p.0 q.0) ∙ none) in
    sym (append-nil (acts_of lane seen)) ∙ (ap (λ (acts : List Act). acts_of lane seen ++ acts) (sym rest)
    ∙ (sym (acts-append lane seen p.0) ∙ ap (acts_of lane) p.1))

-- of two beginnings of a history the shorter begins the longer
pub shorter-begins : {A : Type 0} (xs ys history : List A) → IsPrefix xs history → IsPrefix ys history → length xs ≤ length ys → IsPrefix xs ys
shorter-begins [] ys history p q less = (ys, refl)
shorter-begins (x ∷ xs) [] history p q less = absurd (omega arith)
shorter-begins (x ∷ xs) (y ∷ ys) [] p q less = absurd (cc p.1)
shorter-begins (x ∷ xs) (y ∷ ys) (act ∷ history) p q less =
    let heads : x ≡ y = cc (p.1, q.1) in
    let rest = shorter-begins xs ys history (p.0, cc p.1) (q.0, cc q.1) (omega arith) in (rest.0, cc (heads, rest.1))

-- this is a beginning of the history, and begins with each of these
abbrev pub BeginsWith : {A : Type 0} → List A → List A → List A → List A → Type 0
BeginsWith history xs ys most = IsPrefix most history × IsPrefix xs most × IsPrefix ys most

longer-of : {A : Type 0} (less : Bool) (xs ys history : List A) → ltb (length xs) (length ys) ≡ less → IsPrefix xs history → IsPrefix ys history
    → BeginsWith history xs ys (cond less ys xs)
longer-of true xs ys history is p q =
    let below = ltb-true (length xs) (length ys) is in (q, shorter-begins xs ys history p q (omega arith), prefix-self ys)
longer-of false xs ys history is p q = (p, prefix-self xs, shorter-begins ys xs history q p (ltb-false (length xs) (length ys) is))

-- the longer of two beginnings of a history does
pub longer-begins : {A : Type 0} (xs ys history : List A) → IsPrefix xs history → IsPrefix ys history → BeginsWith history xs ys (longer xs ys)
longer-begins xs ys history p q = longer-of (ltb (length xs) (length ys)) xs ys history refl p q

-- ---- lists

-- an entry of a list with one more is of the list, or the one more
pub entry-of : {A : Type 0} (list : List A) (last entry : A) (index : ℕ) → slice_get (list ++ last ∷ []) index ≡ Some entry
    → (slice_get list index ≡ Some entry) ⊎ ((index ≡ length list) × (last ≡ entry))
entry-of [] last entry zero is = inr (refl, cc is)
entry-of [] last entry (suc index) is = absurd (cc is)
entry-of (x ∷ more) last entry zero is = inl is
entry-of (x ∷ more) last entry (suc index) is = ⊎_elim (λ (there : slice_get more index ≡ Some entry). inl there)
    (λ (end : (index ≡ length more) × (last ≡ entry)). inr (ap suc end.0, end.1)) (entry-of more last entry index is)

pub entry-before : {A : Type 0} (list : List A) (last entry : A) (index : ℕ) → slice_get list index ≡ Some entry → slice_get (list ++ last ∷ []) index ≡ Some entry
entry-before [] last entry index is = absurd (cc is)
entry-before (x ∷ more) last entry zero is = is
entry-before (x ∷ more) last entry (suc index) is = entry-before more last entry index is

pub entry-last : {A : Type 0} (list : List A) (last : A) → slice_get (list ++ last ∷ []) (length list) ≡ Some last
entry-last [] last = refl
entry-last (x ∷ more) last = entry-last more last

-- what holds of each of two lists at one holds of each of the one and of the other
pub all-split : {A : Type 0} (P : A → Type 0) (front behind : List A) → All P (front ++ behind) → All P front × All P behind
all-split P [] behind all = (All-nil P, all)
all-split P (x ∷ more) behind all =
    let rest = all-split P more behind (All-tail P x (more ++ behind) all) in
    (All-cons P x more (All-head P x (more ++ behind) all) rest.0, rest.1)
