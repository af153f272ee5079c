-- Decoded lines of turns.
use Rattle.std.proofs.Common.{◌≡◌, ◌∙◌, ℕ, Bool, List, [], ◌∷◌, ◌++◌, map, refl, ap}
use Rattle.std.specs.List.{flat_map}
use Rattle.std.proofs.lemmas.List.Concat.{flat_map-append}
use Rattle.std.proofs.lemmas.List.Folds.{flat_map-map}
use Rattle.traces.specs.declared.reply.Reply.{Reply}
use Rattle.traces.specs.declared.trace.Turn.{Turn}
use Rattle.traceviews.specs.Lines.{reply_entry, step_entries, turn_lines, trace_lines}
use Rattle.traceviews.specs.Styles.{reply_words, styled_words}

pub replies_told : (keys : Bool) (lane : ℕ) (replies : List Reply)
    → flat_map (styled_words keys) (map (reply_entry lane) replies) ≡ flat_map (reply_words keys lane) replies
replies_told keys lane replies = flat_map-map (styled_words keys) (reply_entry lane) replies

-- the decoded lines of a turn
abbrev pub turn_words : Bool → Turn → List ℕ
turn_words keys t = flat_map (styled_words keys) (turn_lines t)

pub turns_told : (keys : Bool) (turns : List Turn) → flat_map (styled_words keys) (trace_lines turns) ≡ flat_map (turn_words keys) turns
turns_told keys [] = refl
turns_told keys (t ∷ turns) =
    flat_map-append (styled_words keys) (turn_lines t) (trace_lines turns) ∙ ap (λ (xs : List ℕ). turn_words keys t ++ xs) (turns_told keys turns)

pub turn_told : (keys : Bool) (t : Turn) → turn_words keys t ≡ flat_map (styled_words keys) (map (reply_entry t.lane) t.before)
    ++ flat_map (styled_words keys) (step_entries t.lane t.step) ++ flat_map (styled_words keys) (map (reply_entry t.lane) t.after)
turn_told keys t =
    let before = map (reply_entry t.lane) t.before in
    let step = step_entries t.lane t.step in
    let after = map (reply_entry t.lane) t.after in
    flat_map-append (styled_words keys) (before ++ step) after
    ∙ ap (λ (xs : List ℕ). xs ++ flat_map (styled_words keys) after) (flat_map-append (styled_words keys) before step)
