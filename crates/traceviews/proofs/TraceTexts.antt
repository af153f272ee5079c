-- Texts of lines, and of turns.
use Rattle.std.proofs.Common.{◌≡◌, ◌≢◌, ℕ, ◌+◌, ◌<◌, ◌≤◌, ◌⊎◌, inl, inr, List, [], ◌∷◌, ◌++◌, length, map, flat_map, decimal, Option, Some, None, refl, sym, ap, ◌∙◌, arith, subst, append_assoc, append-nil, length-append}
use Rattle.std.specs.List.{AllByRecursion}
use Rattle.std.proofs.lemmas.List.Concat.{flat_map-append}
use Rattle.keybits.specs.declared.step.Kind.{Kind}
use Rattle.keybits.specs.declared.step.Kind.TheVariants as kinds
use Rattle.keybits.specs.declared.step.Step.{Step}
use Rattle.seqpool.specs.ActsText.{IsUpToLineFeed}
use Rattle.seqpool.specs.ReadTexts.{NothingHas, IsFirstLine}
use Rattle.seqpool.proofs.ReadLines.{first-split}
use Rattle.traces.specs.Text.{kind_text, word_text, reply_line, step_lines, turn_text, trace_text}
use Rattle.traces.specs.declared.reply.Reply.{Reply}
use Rattle.traces.specs.declared.trace.Turn.{Turn}
use Rattle.traceviews.specs.declared.line.Line.{Line}
use Rattle.traceviews.specs.Lines.{kind_of, name_of, line_text, lines_text, HasLine, AreLines, BeginWith, IsFirstWrong, reply_entry, step_entries, turn_lines, trace_lines}
use Rattle.traceviews.specs.ReadLines.{IsLineText}
use Rattle.traceviews.proofs.LineTexts.{body, lined, body-Without, line-shape}

-- what was read of the text so far is these lines
pub record IsReadUpTo (lines : List Line) (rest text : List ℕ) : Type 0 where
  pub begins : BeginWith lines rest text
  pub room : length lines + length rest ≤ length text

all-push : (xs : List Line) (x : Line) → AllByRecursion HasLine xs → HasLine x → AllByRecursion HasLine (xs ++ x ∷ [])
all-push [] x all has = (has, tt)
all-push (y ∷ xs) x all has = (all.0, all-push xs x all.1 has)

text-push : (xs : List Line) (x : Line) → lines_text (xs ++ x ∷ []) ≡ lines_text xs ++ line_text x
text-push [] x = append-nil (line_text x)
text-push (y ∷ xs) x = ap (λ (t : List ℕ). line_text y ++ t) (text-push xs x) ∙ sym (append_assoc (line_text y) (lines_text xs) (line_text x))

-- where something is left, all before it was read
pub parts-some : (lines : List Line) (rest text : List ℕ) → BeginWith lines rest text → rest ≢ [] → text ≡ lines_text lines ++ rest
parts-some lines rest text begins some = at begins.parts
  where
    at : (text ≡ lines_text lines ++ rest) ⊎ ((rest ≡ []) × (text ++ 10 ∷ [] ≡ lines_text lines)) → text ≡ lines_text lines ++ rest
    at (inl is) = is
    at (inr (none, is)) = absurd (some none)

pub nothing_left : (rest : List ℕ) → length rest ≡ 0 → rest ≡ []
nothing_left [] is = refl
nothing_left (x ∷ xs) is = absurd (omega (arith, is))

-- a line is read
pub read-line : (lines next : List Line) (l : Line) (rest line after text : List ℕ) → IsReadUpTo lines rest text → 0 < length rest
    → IsFirstLine line after rest → length after < length rest → IsLineText l line → next ≡ lines ++ l ∷ [] → IsReadUpTo next after text
read-line lines next l rest line after text so_far some first shorter (has, written) is =
    subst (λ (xs : List Line). IsReadUpTo xs after text) (sym is) (record {
      begins = record { all = all-push lines l so_far.begins.all has; parts = at first.is };
      room = let fits = so_far.room in
          omega (arith, length-append lines (l ∷ []), fits, shorter);
    })
  where
    before : text ≡ lines_text lines ++ rest
    before = parts-some lines rest text so_far.begins (λ none. let nothing : length rest ≡ 0 = ap length none in omega (arith, nothing, some))

    at : (rest ≡ line ++ 10 ∷ after) ⊎ ((rest ≡ line) × (after ≡ []))
        → (text ≡ lines_text (lines ++ l ∷ []) ++ after) ⊎ ((after ≡ []) × (text ++ 10 ∷ [] ≡ lines_text (lines ++ l ∷ [])))
    at (inl cuts) =
        let whole : rest ≡ line_text l ++ after = cuts ∙ (sym (append_assoc line (10 ∷ []) after) ∙ ap (λ (xs : List ℕ). xs ++ after) written) in
        inl (before ∙ (ap (λ (xs : List ℕ). lines_text lines ++ xs) whole
        ∙ (sym (append_assoc (lines_text lines) (line_text l) after) ∙ ap (λ (xs : List ℕ). xs ++ after) (sym (text-push lines l)))))
    at (inr (all, none)) =
        inr (
          none,
          ap (λ (xs : List ℕ). xs ++ 10 ∷ []) (before ∙ ap (λ (xs : List ℕ). lines_text lines ++ xs) all)
              ∙ (append_assoc (lines_text lines) line (10 ∷ [])
              ∙ (ap (λ (xs : List ℕ). lines_text lines ++ xs) written ∙ sym (text-push lines l))),
        )

-- a line is none
pub read-wrong : (lines : List Line) (rest text : List ℕ) (number : ℕ) → BeginWith lines rest text → number ≡ length lines + 1 → rest ≢ []
    → ((line : Line) (more : List ℕ) → HasLine line → IsUpToLineFeed rest (line_text line ++ more) → ⊥) → IsFirstWrong number text
read-wrong lines rest text number begins counted some wrong = record {
  front = lines;
  rest = rest;
  lines = begins.all;
  parts = parts-some lines rest text begins some;
  counted = counted;
  some = some;
  wrong = wrong;
}

pub no-line : (rest line after : List ℕ) → IsFirstLine line after rest → NothingHas IsLineText line
    → (l : Line) (more : List ℕ) → HasLine l → IsUpToLineFeed rest (line_text l ++ more) → ⊥
no-line rest line after first never l more has up =
    let splits = first-split line after rest (body l) more first (body-Without l has)
    (subst (λ (xs : List ℕ). IsUpToLineFeed rest xs) (ap (λ (xs : List ℕ). xs ++ more) (line-shape l)) up) in
    never l (has, ap (λ (xs : List ℕ). xs ++ 10 ∷ []) splits.0 ∙ sym (line-shape l))

pub read-all : (lines : List Line) (rest text : List ℕ) → BeginWith lines rest text → rest ≡ [] → AreLines lines text
read-all lines rest text begins none = (begins.all, at begins.parts)
  where
    at : (text ≡ lines_text lines ++ rest) ⊎ ((rest ≡ []) × (text ++ 10 ∷ [] ≡ lines_text lines)) → IsUpToLineFeed text (lines_text lines)
    at (inl is) = inl (is ∙ (ap (λ (xs : List ℕ). lines_text lines ++ xs) none ∙ append-nil (lines_text lines)))
    at (inr (_, is)) = inr is

-- where as many lines are read as the text has bytes, nothing is left
pub trace_read : (lines : List Line) (rest text : List ℕ) (most : ℕ) → BeginWith lines rest text → length lines + length rest ≤ length text
    → most ≡ length text → (length lines ≡ most) ⊎ (rest ≡ []) → AreLines lines text
trace_read lines rest text most begins fewer is (inl all) =
    read-all lines rest text begins (nothing_left rest (omega (arith, fewer, is, all)))
trace_read lines rest text most begins fewer is (inr none) = read-all lines rest text begins none

-- lines, and more lines behind them

all-more : (xs ys : List Line) → AllByRecursion HasLine xs → AllByRecursion HasLine ys → AllByRecursion HasLine (xs ++ ys)
all-more [] ys all more = more
all-more (x ∷ xs) ys all more = (all.0, all-more xs ys all.1 more)

pub more-lines : (front more : List Line) (rest after text : List ℕ) → BeginWith front rest text → BeginWith more after rest → rest ≢ []
    → BeginWith (front ++ more) after text
more-lines front more rest after text begins goes some = record { all = all-more front more begins.all goes.all; parts = at goes.parts }
  where
    before : text ≡ lines_text front ++ rest
    before = parts-some front rest text begins some

    joined : lines_text (front ++ more) ≡ lines_text front ++ lines_text more
    joined = flat_map-append line_text front more

    at : (rest ≡ lines_text more ++ after) ⊎ ((after ≡ []) × (rest ++ 10 ∷ [] ≡ lines_text more))
        → (text ≡ lines_text (front ++ more) ++ after) ⊎ ((after ≡ []) × (text ++ 10 ∷ [] ≡ lines_text (front ++ more)))
    at (inl is) =
        inl (before ∙ (ap (λ (xs : List ℕ). lines_text front ++ xs) is ∙ (sym (append_assoc (lines_text front) (lines_text more) after)
        ∙ ap (λ (xs : List ℕ). xs ++ after) (sym joined))))
    at (inr (none, is)) =
        inr (
          none,
          ap (λ (xs : List ℕ). xs ++ 10 ∷ []) before ∙ (append_assoc (lines_text front) rest (10 ∷ [])
              ∙ (ap (λ (xs : List ℕ). lines_text front ++ xs) is ∙ sym joined)),
        )

-- the first wrong line of what comes after some lines
pub wrong-behind : (front : List Line) (rest text : List ℕ) (before number : ℕ) → BeginWith front rest text → before ≡ length front → rest ≢ []
    → IsFirstWrong number rest → IsFirstWrong (before + number) text
wrong-behind front rest text before number begins counted some first = record {
  front = front ++ first.front;
  rest = first.rest;
  lines = all-more front first.front begins.all first.lines;
  parts = parts-some front rest text begins some ∙ (ap (λ (xs : List ℕ). lines_text front ++ xs) first.parts
      ∙ (sym (append_assoc (lines_text front) (lines_text first.front) first.rest)
      ∙ ap (λ (xs : List ℕ). xs ++ first.rest) (sym (flat_map-append line_text front first.front))));
  counted = let here = first.counted in
      omega (arith, here, counted, length-append front first.front);
  some = first.some;
  wrong = first.wrong;
}

-- lines that aren't held any more

-- so many lines of the text were read so far, and the rest is left
pub record AreReadUpTo (before : ℕ) (rest text : List ℕ) : Type 0 where
  pub front : List Line
  pub begins : BeginWith front rest text
  pub counted : before ≡ length front
  pub room : before + length rest ≤ length text

some_left : (rest : List ℕ) → 0 < length rest → rest ≢ []
some_left rest some none = let nothing : length rest ≡ 0 = ap length none in omega (arith, nothing, some)

pub none_read : (text : List ℕ) → AreReadUpTo 0 text text
none_read text = record { front = []; begins = record { all = tt; parts = inl refl }; counted = refl; room = omega arith }

pub more_read : (before : ℕ) (more : List Line) (rest after text : List ℕ) → AreReadUpTo before rest text → BeginWith more after rest
    → length more + length after ≤ length rest → 0 < length rest → AreReadUpTo (before + length more) after text
more_read before more rest after text so_far goes fewer some = record {
  front = so_far.front ++ more;
  begins = more-lines so_far.front more rest after text so_far.begins goes (some_left rest some);
  counted = let here = so_far.counted in
      omega (arith, here, length-append so_far.front more);
  room = let room = so_far.room in
      omega (arith, room, fewer);
}

pub wrong_read : (before number : ℕ) (rest text : List ℕ) → AreReadUpTo before rest text → 0 < length rest → IsFirstWrong number rest
    → IsFirstWrong (before + number) text
wrong_read before number rest text so_far some first =
    wrong-behind so_far.front rest text before number so_far.begins so_far.counted (some_left rest some) first

pub all_read : (before : ℕ) (rest text : List ℕ) → AreReadUpTo before rest text → length rest ≡ 0 → (lines : List Line) × AreLines lines text
all_read before rest text so_far none = (so_far.front, read-all so_far.front rest text so_far.begins (nothing_left rest none))

-- a text of lines has no wrong one

line-some : (l : Line) (more : List ℕ) → [] ≡ line_text l ++ more → ⊥
line-some l more is =
    let long : 0 ≡ length (body l ++ 10 ∷ more) = ap length (is ∙ lined l more) in
    omega (arith, length-append (body l) (10 ∷ more), long)

-- two texts that begin with lines begin with one line, and go on alike
next-up : (x y : Line) (all rest : List ℕ) → HasLine x → HasLine y → IsUpToLineFeed (line_text y ++ rest) (line_text x ++ all)
    → IsUpToLineFeed rest all
next-up x y all rest has had up =
    (first-split (body y) rest (line_text y ++ rest) (body x) all (record { one = body-Without y had; is = inl (lined y rest) }) (body-Without x has)
    (subst (λ (xs : List ℕ). IsUpToLineFeed (line_text y ++ rest) xs) (ap (λ (xs : List ℕ). xs ++ all) (line-shape x)) up)).1

nothing-up : (text : List ℕ) → text ≢ [] → IsUpToLineFeed text [] → ⊥
nothing-up text some (inl is) = some is
nothing-up text some (inr is) = let long : length (text ++ 10 ∷ []) ≡ 0 = ap length is in omega (arith, length-append text (10 ∷ []), long)

none-wrong : (all front : List Line) (rest : List ℕ) → AllByRecursion HasLine all → AllByRecursion HasLine front → rest ≢ []
    → ((line : Line) (more : List ℕ) → HasLine line → IsUpToLineFeed rest (line_text line ++ more) → ⊥)
    → IsUpToLineFeed (lines_text front ++ rest) (lines_text all) → ⊥
none-wrong [] [] rest lines before some wrong up = nothing-up rest some up
none-wrong (x ∷ all) [] rest lines before some wrong up = wrong x (lines_text all) lines.0 up
none-wrong [] (y ∷ front) rest lines before some wrong up =
    nothing-up ((line_text y ++ lines_text front) ++ rest)
    (λ none. line-some y (lines_text front ++ rest) (sym none ∙ append_assoc (line_text y) (lines_text front) rest)) up
none-wrong (x ∷ all) (y ∷ front) rest lines before some wrong up =
    none-wrong all front rest lines.1 before.1 some wrong
    (next-up x y (lines_text all) (lines_text front ++ rest) lines.0 before.0
    (subst (λ (xs : List ℕ). IsUpToLineFeed xs (line_text x ++ lines_text all)) (append_assoc (line_text y) (lines_text front) rest) up))

pub never-wrong : (all : List Line) (number : ℕ) (text : List ℕ) → AreLines all text → IsFirstWrong number text → ⊥
never-wrong all number text (lines, up) first =
    none-wrong all first.front first.rest lines first.lines first.some first.wrong
    (subst (λ (xs : List ℕ). IsUpToLineFeed xs (lines_text all)) first.parts up)

-- the lines of turns have the turns' text

kind-named : (kind : Kind) → kind_text (kind_of (name_of kind)) ≡ kind_text kind
kind-named kinds.Enter = refl
kind-named kinds.Leave = refl
kind-named (kinds.Publish with_ref) = refl
kind-named kinds.Mark = refl
kind-named (kinds.Claim generation) = refl
kind-named (kinds.Link expected) = refl
kind-named (kinds.Push expected link) = refl
kind-named kinds.Take = refl
kind-named kinds.Follow = refl

replies-text : (lane : ℕ) (replies : List Reply) → lines_text (map (reply_entry lane) replies) ≡ flat_map (reply_line lane) replies
replies-text lane [] = refl
replies-text lane (r ∷ replies) = ap (λ (xs : List ℕ). reply_line lane r ++ xs) (replies-text lane replies)

step-text : (lane : ℕ) (step : Option Step) → lines_text (step_entries lane step) ≡ step_lines lane step
step-text lane None = refl
step-text lane (Some step) =
    append-nil _ ∙ ap (λ (name : List ℕ). decimal lane ++ 32 ∷ [] ++ name ++ 32 ∷ [] ++ word_text step.word ++ 32 ∷ [] ++ decimal step.before
    ++ 32 ∷ [] ++ decimal step.after ++ 10 ∷ []) (kind-named step.kind)

turn-text : (t : Turn) → lines_text (turn_lines t) ≡ turn_text t
turn-text t =
    flat_map-append line_text (map (reply_entry t.lane) t.before ++ step_entries t.lane t.step) (map (reply_entry t.lane) t.after)
    ∙ (ap (λ (xs : List ℕ). xs ++ lines_text (map (reply_entry t.lane) t.after))
    (flat_map-append line_text (map (reply_entry t.lane) t.before) (step_entries t.lane t.step)
    ∙ (ap (λ (xs : List ℕ). xs ++ lines_text (step_entries t.lane t.step)) (replies-text t.lane t.before)
    ∙ ap (λ (xs : List ℕ). flat_map (reply_line t.lane) t.before ++ xs) (step-text t.lane t.step)))
    ∙ ap (λ (xs : List ℕ). flat_map (reply_line t.lane) t.before ++ step_lines t.lane t.step ++ xs) (replies-text t.lane t.after))

pub turns-text : (turns : List Turn) → lines_text (trace_lines turns) ≡ trace_text turns
turns-text [] = refl
turns-text (t ∷ turns) =
    flat_map-append line_text (turn_lines t) (trace_lines turns)
    ∙ (ap (λ (xs : List ℕ). xs ++ lines_text (trace_lines turns)) (turn-text t)
    ∙ ap (λ (xs : List ℕ). turn_text t ++ xs) (turns-text turns))

pub turns-lines : (turns : List Turn) (text : List ℕ) → AllByRecursion HasLine (trace_lines turns) → text ≡ trace_text turns
    → AreLines (trace_lines turns) text
turns-lines turns text lines is = (lines, inl (is ∙ sym (turns-text turns)))
