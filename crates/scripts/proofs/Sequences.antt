-- Lists of values that are read one by one.
use Rattle.std.proofs.Common.{◌≡◌, ◌==◌, ◌<◌, ◌≤◌, ℕ, suc, ◌+◌, List, [], ◌∷◌, ◌++◌, length, get_or, map, drop, Bool, true, false, cond, Result, Ok, Err, refl, sym, ap, ◌∙◌, append_assoc, drop-cons, ⊎_elim, inl, inr, arith}
use Rattle.std.proofs.Math.ListN.{drop_of_length-le}
use Rattle.std.proofs.lemmas.Bool.{eqb-true}
use Rattle.std.proofs.lemmas.List.{append-nil}
use Rattle.traces.specs.declared.script.Command.{Command}
use Rattle.serde_json.specs.Data.{Data}
use Rattle.serde_json.specs.View.{view}
use Rattle.serde_json.specs.declared.value.Value.{Value}
use Rattle.scripts.specs.declared.script_fault.ScriptFault.TheVariants.{Field}
use Rattle.scripts.specs.declared.script_place.ScriptPlace.TheVariants as places
use Rattle.scripts.specs.declared.script_refusal.ScriptRefusal.{ScriptRefusal}
use Rattle.scripts.specs.ScriptPlaces.{refusal, out_of_memory}
use Rattle.scripts.specs.Readings.{seen_by, Refuses}
use Rattle.scripts.specs.ScriptFiles.{◌>>=◌, each_of, script_of, scripts_of}

-- what is read of the rest goes behind what is read already
abbrev pub read_so_far : {T : Type 0} → List T → Result (List T) ScriptRefusal → Result (List T) ScriptRefusal
read_so_far done rest = seen_by (λ xs. done ++ xs) rest

-- as many are read as there are
pub each_of-length : {T : Type 0} (read : ℕ → Data → Result T ScriptRefusal) (number : ℕ) (ds : List Data) (xs : List T)
    → each_of read number ds ≡ Ok xs → length xs ≡ length ds
each_of-length read number [] xs e = cc
each_of-length {T} read number (d ∷ more) xs e =
    at (read number d) (each_of read (number + 1) more) refl (λ ys h. each_of-length read (number + 1) more ys h) e
  where
    at : (first : Result T ScriptRefusal) (rest : Result (List T) ScriptRefusal) → each_of read (number + 1) more ≡ rest
        → ((ys : List T) → each_of read (number + 1) more ≡ Ok ys → length ys ≡ length more)
        → (first >>= (λ x. rest >>= (λ ys. Ok (x ∷ ys)))) ≡ Ok xs → length xs ≡ suc (length more)
    at (Ok x) (Ok ys) is shorter h = let both : x ∷ ys ≡ xs = cc in sym (ap length both) ∙ ap suc (shorter ys is)
    at (Ok x) (Err refused) is shorter h = absurd (cc)
    at (Err refused) rest is shorter h = absurd (cc)

-- there are as many scripts as lanes
pub scripts_of-length : (lanes : ℕ) (ds : List Data) (scripts : List (List Command)) → scripts_of lanes ds ≡ Ok scripts → length scripts ≡ lanes
scripts_of-length lanes ds scripts e = at (length ds == lanes) refl e
  where
    at : (b : Bool) → (length ds == lanes) ≡ b → cond b (each_of script_of 0 ds) (Err (refusal Field places.Scripts)) ≡ Ok scripts → length scripts ≡ lanes
    at true same h = each_of-length script_of 0 ds scripts h ∙ eqb-true (length ds) lanes same
    at false same h = absurd (cc)

-- ---- values that are read one by one

-- what is read of the first values, with what is read of the rest, is what is read of all
abbrev pub IsReadUpTo : {T : Type 0} → (ℕ → Data → Result T ScriptRefusal) → List T → ℕ → List Value → Type 0
IsReadUpTo read done i vs = read_so_far done (each_of read i (map view (drop i vs))) ≡ each_of read 0 (map view vs)

pub none-read : {T : Type 0} (read : ℕ → Data → Result T ScriptRefusal) (done : List T) (vs : List Value) → done ≡ [] → IsReadUpTo read done 0 vs
none-read {T} read done vs none = rw none (same (each_of read 0 (map view vs)))
  where
    same : (r : Result (List T) ScriptRefusal) → read_so_far [] r ≡ r
    same (Ok xs) = refl
    same (Err refused) = refl

-- the next value is read ahead of the rest
next-first : {T : Type 0} (read : ℕ → Data → Result T ScriptRefusal) (i : ℕ) (v : Value) (vs : List Value) → i < length vs → v ≡ get_or vs i v
    → each_of read i (map view (drop i vs)) ≡ each_of read i (view v ∷ map view (drop (i + 1) vs))
next-first read i v vs low at =
    let one : suc i ≡ i + 1 = omega arith in
    let here : drop i vs ≡ v ∷ drop (i + 1) vs =
    drop-cons vs i v low ∙ ap (λ (k : ℕ). get_or vs i v ∷ drop k vs) one ∙ ap (λ (w : Value). w ∷ drop (i + 1) vs) (sym at) in
    ap (λ (l : List Value). each_of read i (map view l)) here

pub next-read : {T : Type 0} (read : ℕ → Data → Result T ScriptRefusal) (done next : List T) (x : T) (i : ℕ) (v : Value) (vs : List Value)
    → i < length vs → v ≡ get_or vs i v → IsReadUpTo read done i vs → read i (view v) ≡ Ok x → next ≡ done ++ x ∷ [] → IsReadUpTo read next (i + 1) vs
next-read {T} read done next x i v vs low at so_far is more =
    ap (λ (l : List T). read_so_far l (each_of read (i + 1) (map view (drop (i + 1) vs)))) more
    ∙ behind (each_of read (i + 1) (map view (drop (i + 1) vs)))
    ∙ ap (λ (r : Result T ScriptRefusal). read_so_far done (r >>= (λ y. each_of read (i + 1) (map view (drop (i + 1) vs)) >>= (λ ys. Ok (y ∷ ys))))) (sym is)
    ∙ ap (read_so_far done) (sym (next-first read i v vs low at))
    ∙ so_far
  where
    behind : (rest : Result (List T) ScriptRefusal) → read_so_far (done ++ x ∷ []) rest ≡ read_so_far done (rest >>= (λ ys. Ok (x ∷ ys)))
    behind (Ok xs) = ap (λ (l : List T). let r : Result (List T) ScriptRefusal = Ok l in r) (append_assoc done (x ∷ []) xs)
    behind (Err refused) = refl

-- a refusal of one is a refusal of another, where the other's is that of the one
refuses-as : {A B : Type 0} (one : Result A ScriptRefusal) (other : Result B ScriptRefusal) (refused : ScriptRefusal)
    → (one ≡ Err refused → other ≡ Err refused) → Refuses one refused → Refuses other refused
refuses-as one other refused so h = ⊎_elim (λ (memory : refused ≡ out_of_memory). inl memory) (λ (there : one ≡ Err refused). inr (so there)) h

pub never-read : {T : Type 0} (read : ℕ → Data → Result T ScriptRefusal) (done : List T) (i : ℕ) (v : Value) (vs : List Value) (refused : ScriptRefusal)
    → i < length vs → v ≡ get_or vs i v → IsReadUpTo read done i vs → Refuses (read i (view v)) refused → Refuses (each_of read 0 (map view vs)) refused
never-read {T} read done i v vs refused low at so_far = refuses-as (read i (view v)) (each_of read 0 (map view vs)) refused (λ is.
    sym so_far
    ∙ ap (read_so_far done) (next-first read i v vs low at)
    ∙ ap (λ (r : Result T ScriptRefusal). read_so_far done (r >>= (λ y. each_of read (i + 1) (map view (drop (i + 1) vs)) >>= (λ ys. Ok (y ∷ ys))))) is)

pub all-read : {T : Type 0} (read : ℕ → Data → Result T ScriptRefusal) (done : List T) (i : ℕ) (vs : List Value)
    → length vs ≤ i → IsReadUpTo read done i vs → each_of read 0 (map view vs) ≡ Ok done
all-read {T} read done i vs all so_far =
    sym so_far
    ∙ ap (λ (l : List Value). read_so_far done (each_of read i (map view l))) (drop_of_length-le vs all)
    ∙ ap (λ (l : List T). let r : Result (List T) ScriptRefusal = Ok l in r) (append-nil done)
