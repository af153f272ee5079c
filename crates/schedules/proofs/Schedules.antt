-- The entries of a schedule's text.
use Rattle.std.proofs.Common.{◌≡◌, ℕ, List, [], ◌∷◌, ◌++◌, true, Option, Some, None, is_some, option_map, Bor, refl, sym, ap, ◌∙◌}
use Rattle.std.specs.Prelude.{MatchOption}
use Rattle.schedules.specs.Parts.{parts_of}
use Rattle.schedules.specs.Schedules.{entry_of, entries_of, schedule_of, stop_with, stop_of}
use Rattle.schedules.proofs.Splits.{parts_of-some}
use Rattle.schedules.proofs.Entries.{read_so_far, read_so_far-more}

entries_of-entry : (part : List ℕ) (parts : List (List ℕ)) (x : ℕ) → entry_of part ≡ Some x → entries_of (part ∷ parts) ≡ option_map (λ xs. x ∷ xs) (entries_of parts)
entries_of-entry part parts x e = rw e refl

entries_of-none : (part : List ℕ) (parts : List (List ℕ)) → entry_of part ≡ None → entries_of (part ∷ parts) ≡ None
entries_of-none part parts e = rw e refl

-- one more entry is read
pub schedule-next : (text rest part after left done next : List ℕ) (x : ℕ) → schedule_of text ≡ read_so_far done (entries_of (parts_of 44 rest))
    → parts_of 44 rest ≡ part ∷ parts_of 44 after → entry_of part ≡ Some x → next ≡ done ++ x ∷ [] → left ≡ after
    → schedule_of text ≡ read_so_far next (entries_of (parts_of 44 left))
schedule-next text rest part after left done next x so_far parts e is left-is =
    rw (is, left-is) (so_far ∙ ap (λ ps. read_so_far done (entries_of ps)) parts ∙ ap (read_so_far done) (entries_of-entry part (parts_of 44 after) x e) ∙ read_so_far-more done x (entries_of (parts_of 44 after)))

-- the last entry is read
pub schedule-end : (text rest done next : List ℕ) (x : ℕ) → schedule_of text ≡ read_so_far done (entries_of (parts_of 44 rest))
    → parts_of 44 rest ≡ rest ∷ [] → entry_of rest ≡ Some x → next ≡ done ++ x ∷ [] → schedule_of text ≡ Some next
schedule-end text rest done next x so_far is e grown =
    so_far ∙ ap (λ ps. read_so_far done (entries_of ps)) is ∙ ap (read_so_far done) (entries_of-entry rest [] x e) ∙ ap (λ xs. Some xs) (sym grown)

-- a part is no entry
pub schedule-stop : (text rest part : List ℕ) (parts : List (List ℕ)) (done : List ℕ) → schedule_of text ≡ read_so_far done (entries_of (parts_of 44 rest))
    → parts_of 44 rest ≡ part ∷ parts → entry_of part ≡ None → schedule_of text ≡ None
schedule-stop text rest part parts done so_far is e =
    so_far ∙ ap (λ ps. read_so_far done (entries_of ps)) is ∙ ap (read_so_far done) (entries_of-none part parts e)

-- a text of three parts or more is no stop
pub no-stop : (text front after first rest : List ℕ) → parts_of 58 text ≡ front ∷ parts_of 58 after → parts_of 58 after ≡ first ∷ parts_of 58 rest → stop_of text ≡ None
no-stop text front after first rest e more =
    ap stop_with (e ∙ ap (λ ps. front ∷ ps) more) ∙ three front first (parts_of 58 rest) (parts_of-some 58 rest)
  where
    three : (front first : List ℕ) (ps : List (List ℕ)) → (ps ≡ [] → ⊥) → stop_with (front ∷ first ∷ ps) ≡ None
    three front first [] some = absurd (some refl)
    three front first (p ∷ ps) some = refl

pub no-stop-by : (text front after : List ℕ) (cut : Option (Bor (List ℕ) × Bor (List ℕ))) → parts_of 58 text ≡ front ∷ parts_of 58 after → is_some cut ≡ true
    → MatchOption cut (parts_of 58 after ≡ after ∷ []) (λ c. parts_of 58 after ≡ c.0.now ∷ parts_of 58 c.1.now) → stop_of text ≡ None
no-stop-by text front after None e some more = absurd (cc some)
no-stop-by text front after (Some c) e some more = no-stop text front after c.0.now c.1.now e more
