-- Going through the turns of a lane in two traces at once.
use Rattle.std.proofs.Common.{◌≡◌, ◌≢◌, ◌⊎◌, inl, inr, ℕ, ◌+◌, ◌≤◌, Bool, true, List, [], ◌∷◌, ◌++◌, length, length-append, Option, refl, ap, sym, ◌∙◌, subst, arith}
use Rattle.keybits.specs.declared.shape.Shape.{Shape}
use Rattle.keybits.specs.declared.step.Step.{Step}
use Rattle.traces.specs.declared.reply.Reply.{Reply}
use Rattle.traces.specs.declared.trace.Turn.{Turn}
use Rattle.traces.specs.Books.{Book, all_answered, act_list}
use Rattle.traces.specs.Lawful.{book_after_step}
use Rattle.traces.specs.TurnLaws.{turns_of, all_replies, all_acts}
use Rattle.standings.specs.Alike.{IsAlikeTurn, book_behind, AreSameLanes}
use Rattle.standings.proofs.Books.{IsAlikeBook, alike_book, one_book, replies_alike, left_behind, none_behind, steps_behind, step_alike, step_left, step_same}

-- from one book, what a lane's turns lead to in both traces
pub record Behind (z : Shape) (lane : ℕ) (b : Book) (turns others rest other : List Turn) (same : Bool) : Type 0 where
  pub here : Book
  pub there : Book
  pub alike : IsAlikeBook here there
  pub steps : same ≡ true → here.steps ≡ there.steps
  pub fits : length (all_replies rest) ≤ length here.left
  pub ours : book_behind z lane b turns ≡ book_behind z lane here rest
  pub theirs : book_behind z lane b others ≡ book_behind z lane there other

-- the turns of a lane up to here are alike
pub record Going (lane : ℕ) (turns others rest other : List Turn) (same : Bool) : Type 0 where
  pub replies : all_replies (turns_of lane rest) ≡ all_replies (turns_of lane other) → all_replies (turns_of lane turns) ≡ all_replies (turns_of lane others)
  pub acts : all_acts (turns_of lane rest) ≡ all_acts (turns_of lane other) → all_acts (turns_of lane turns) ≡ all_acts (turns_of lane others)
  pub books : (z : Shape) (b : Book) → length (all_replies (turns_of lane turns)) ≤ length b.left
      → Behind z lane b (turns_of lane turns) (turns_of lane others) (turns_of lane rest) (turns_of lane other) same

pub going_begins : (lane : ℕ) (turns others : List Turn) → Going lane turns others turns others true
going_begins lane turns others = record {
  replies = λ e. e;
  acts = λ e. e;
  books = λ z b fits. record { here = b; there = b; alike = alike_book b; steps = λ e. refl; fits = fits; ours = refl; theirs = refl };
}

-- what keeps the steps of a call under way the same
abbrev pub StaysSame : Bool → Bool → Turn → Turn → Type 0
StaysSame same now t u = now ≡ true → (t.after ≢ []) ⊎ ((t.step ≡ u.step) × ((same ≡ true) ⊎ (t.before ≢ [])))

-- the book after one turn
abbrev pub turn_book : Shape → ℕ → Book → Turn → Book
turn_book z lane b t = all_answered z lane (book_after_step (all_answered z lane b t.before) t.step t.act) t.after

-- two books after turns that are alike
record Turned (z : Shape) (lane : ℕ) (c d : Book) (t u : Turn) (more : List Reply) (now : Bool) : Type 0 where
  alike : IsAlikeBook (turn_book z lane c t) (turn_book z lane d u)
  steps : now ≡ true → (turn_book z lane c t).steps ≡ (turn_book z lane d u).steps
  fits : length more ≤ length (turn_book z lane c t).left

module _ (z : Shape) (lane : ℕ) (c d : Book) (t u : Turn) (more : List Reply) (alike : IsAlikeBook c d) (turns : IsAlikeTurn t u)
    (fits : length (t.before ++ t.after ++ more) ≤ length c.left) where
  parts : length t.before + (length t.after + length more) ≤ length c.left
  parts = let p = length-append (t.before ++ t.after) more in let q = length-append t.before t.after in omega arith

  abbrev cb : Book
  cb = all_answered z lane c t.before

  abbrev db : Book
  db = all_answered z lane d t.before

  abbrev cs : Book
  cs = book_after_step cb t.step t.act

  abbrev ds : Book
  ds = book_after_step db u.step t.act

  begun : IsAlikeBook cb db
  begun = replies_alike z lane t.before c d alike

  stepped : IsAlikeBook cs ds
  stepped = step_alike cb db t.step u.step t.act turns.steps begun

  left_cs : length cs.left + length t.before ≡ length c.left
  left_cs =
      let p = parts in
      let q = left_behind z lane t.before c (omega arith) in
      let r = ap length (step_left cb t.step t.act) in
      omega arith

  before_d : length t.before ≤ length d.left
  before_d = let p = parts in let q = ap length alike.left in omega arith

  before_c : length t.before ≤ length c.left
  before_c = let p = parts in omega arith

  after_c : length t.after ≤ length cs.left
  after_c = let p = parts in let q = left_cs in omega arith

  after_d : length t.after ≤ length ds.left
  after_d = let p = after_c in let q = ap length stepped.left in omega arith

  -- the other lane's turn has the same replies and act
  theirs : all_answered z lane ds t.after ≡ turn_book z lane d u
  theirs = λ i. all_answered z lane (book_after_step (all_answered z lane d (turns.before i)) u.step (turns.acts i)) (turns.after i)

  steps_begun : (same : Bool) → (same ≡ true → c.steps ≡ d.steps) → (same ≡ true) ⊎ (t.before ≢ []) → cb.steps ≡ db.steps
  steps_begun same known (inl is) = steps_behind z lane t.before c d (known is) before_c before_d
  steps_begun same known (inr some) = none_behind z lane t.before c some before_c ∙ sym (none_behind z lane t.before d some before_d)

  steps_stepped : cb.steps ≡ db.steps → t.step ≡ u.step → cs.steps ≡ ds.steps
  steps_stepped same step = step_same cb db t.step t.act same ∙ ap (λ (o : Option Step). (book_after_step db o t.act).steps) step

  steps_ended : (same : Bool) → (same ≡ true → c.steps ≡ d.steps)
      → (t.after ≢ []) ⊎ ((t.step ≡ u.step) × ((same ≡ true) ⊎ (t.before ≢ [])))
      → (all_answered z lane cs t.after).steps ≡ (all_answered z lane ds t.after).steps
  steps_ended same known (inl some) = none_behind z lane t.after cs some after_c ∙ sym (none_behind z lane t.after ds some after_d)
  steps_ended same known (inr is) = steps_behind z lane t.after cs ds (steps_stepped (steps_begun same known is.1) is.0) after_c after_d

  turned : (same now : Bool) → (same ≡ true → c.steps ≡ d.steps) → StaysSame same now t u → Turned z lane c d t u more now
  turned same now known stays = record {
    alike = subst (λ (x : Book). IsAlikeBook (turn_book z lane c t) x) theirs (replies_alike z lane t.after cs ds stepped);
    steps = λ is. steps_ended same known (stays is) ∙ ap (λ (x : Book). x.steps) theirs;
    fits = let p = parts in let q = left_cs in let r = left_behind z lane t.after cs after_c in omega arith;
  }

pub going_on : (lane : ℕ) (turns others rest other more left : List Turn) (same now : Bool) (t u : Turn) → Going lane turns others rest other same
    → turns_of lane rest ≡ t ∷ turns_of lane more → turns_of lane other ≡ u ∷ turns_of lane left → IsAlikeTurn t u → StaysSame same now t u
    → Going lane turns others more left now
going_on lane turns others rest other more left same now t u g r o a stays = record {
  replies = λ e. g.replies (ap all_replies r ∙ (λ i. a.before i ++ a.after i ++ e i) ∙ sym (ap all_replies o));
  acts = λ e. g.acts (ap all_acts r ∙ (λ i. act_list (a.acts i) ++ e i) ∙ sym (ap all_acts o));
  books = λ z b fits.
      let k = g.books z b fits in
      let n = ap (λ (ts : List Turn). length (all_replies ts)) r in
      let f = k.fits in
      let next = turned z lane k.here k.there t u (all_replies (turns_of lane more)) k.alike a (omega arith) same now k.steps stays in
      record {
        here = turn_book z lane k.here t;
        there = turn_book z lane k.there u;
        alike = next.alike;
        steps = next.steps;
        fits = next.fits;
        ours = k.ours ∙ ap (book_behind z lane k.here) r;
        theirs = k.theirs ∙ ap (book_behind z lane k.there) o;
      };
}

pub going_ends : (lane : ℕ) (turns others rest other : List Turn) → Going lane turns others rest other true
    → turns_of lane rest ≡ [] → turns_of lane other ≡ [] → AreSameLanes lane turns others
going_ends lane turns others rest other g r o = record {
  replies = g.replies (ap all_replies r ∙ sym (ap all_replies o));
  acts = g.acts (ap all_acts r ∙ sym (ap all_acts o));
  books = λ z b fits.
      let k = g.books z b fits in
      k.ours ∙ ap (book_behind z lane k.here) r ∙ one_book k.here k.there k.alike (k.steps refl)
      ∙ sym (k.theirs ∙ ap (book_behind z lane k.there) o);
}
