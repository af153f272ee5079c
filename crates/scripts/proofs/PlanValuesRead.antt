-- The values of commands, scripts and plans are read as these.
use Rattle.std.proofs.Common.{◌≡◌, ◌∙◌, ◌+◌, ◌<◌, ◌≤◌, ℕ, zero, suc, max, get_or, take, List, [], ◌∷◌, ◌++◌, length, map, Option, Some, Ok, decimal, codes, eq-eqb, refl, sym, ap, subst, arith}
use Rattle.std.specs.Fmt.{digits}
use Rattle.std.proofs.Math.Decide.{dec_lt}
use Rattle.std.proofs.lemmas.Bool.{leb-true, le-leb}
use Rattle.std.proofs.lemmas.List.{map-append, take_more}
use Rattle.hex.proofs.HexLemmas.{decode_of-encode_lower}
use Rattle.keybits.specs.declared.shape.Shape.{Shape}
use Rattle.traces.specs.declared.script.Command.{Command}
use Rattle.traces.specs.declared.script.Command.TheVariants as commands
use Rattle.traces.specs.declared.script.Operand.{Operand}
use Rattle.traces.specs.declared.script.Operand.TheVariants as operands
use Rattle.serde_json.specs.Data.{Data, array, items_depth, depth}
use Rattle.serde_json.specs.View.{items_of, view}
use Rattle.serde_json.specs.declared.value.Value.{Value}
use Rattle.scripts.specs.declared.plan.Plan.{Plan}
use Rattle.keybits.specs.Shapes.{IsNarrow}
use Rattle.scripts.specs.declared.script_place.ScriptPlace.{ScriptPlace}
use Rattle.scripts.specs.ScriptFiles.{◌>>=◌, register_at, register_named, key_of, command_of, script_of, scripts_of, each_of, list_of, shape_of, file_of}
use Rattle.scripts.specs.Readings.{IsPlanOf}
use Rattle.scripts.specs.PlanValues.{whole, key_data, command_data, shape_data, with_fields, AreWithin, IsLineOf, IsScriptOf, IsOfBytes, AreEach}
use Rattle.scripts.proofs.Registers.{register_at-small}

-- a register by its name
named : (n : ℕ) → n < 16 → register_named (codes "@" ++ decimal n) ≡ register_at n
unfolding digits dec_lt
named zero small = refl
named (suc zero) small = refl
named (suc (suc zero)) small = refl
named (suc (suc (suc zero))) small = refl
named (suc (suc (suc (suc zero)))) small = refl
named (suc (suc (suc (suc (suc zero))))) small = refl
named (suc (suc (suc (suc (suc (suc zero)))))) small = refl
named (suc (suc (suc (suc (suc (suc (suc zero))))))) small = refl
named (suc (suc (suc (suc (suc (suc (suc (suc zero)))))))) small = refl
named (suc (suc (suc (suc (suc (suc (suc (suc (suc zero))))))))) small = refl
named (suc (suc (suc (suc (suc (suc (suc (suc (suc (suc zero)))))))))) small = refl
named (suc (suc (suc (suc (suc (suc (suc (suc (suc (suc (suc zero))))))))))) small = refl
named (suc (suc (suc (suc (suc (suc (suc (suc (suc (suc (suc (suc zero)))))))))))) small = refl
named (suc (suc (suc (suc (suc (suc (suc (suc (suc (suc (suc (suc (suc zero))))))))))))) small = refl
named (suc (suc (suc (suc (suc (suc (suc (suc (suc (suc (suc (suc (suc (suc zero)))))))))))))) small = refl
named (suc (suc (suc (suc (suc (suc (suc (suc (suc (suc (suc (suc (suc (suc (suc zero))))))))))))))) small = refl
named (suc (suc (suc (suc (suc (suc (suc (suc (suc (suc (suc (suc (suc (suc (suc (suc n)))))))))))))))) small = absurd (omega arith)

key-read : (place : ScriptPlace) (key : Operand) → key_of place (key_data key) ≡ Ok key
key-read place (operands.Number key) = refl
key-read place (operands.LastOf register) = rw (named register.number register.small, register_at-small register.number register.small) refl

key-flat : (key : Operand) → depth (key_data key) ≡ 0
key-flat (operands.Number key) = refl
key-flat (operands.LastOf register) = refl

line-read : (c : Command) → IsOfBytes c → (lane line : ℕ) → command_of lane line (command_data c) ≡ Ok c
line-read (commands.Create register) small lane line = rw (register_at-small register.number register.small) refl
line-read (commands.Write register bytes) small lane line =
    rw (register_at-small register.number register.small, decode_of-encode_lower bytes small) refl
line-read (commands.Publish register) small lane line = rw (register_at-small register.number register.small) refl
line-read (commands.Downgrade register) small lane line = rw (register_at-small register.number register.small) refl
line-read (commands.Get register key) small lane line =
    rw (register_at-small register.number register.small, key-read _ key) refl
line-read (commands.Read register) small lane line = rw (register_at-small register.number register.small) refl
line-read (commands.Release register) small lane line = rw (register_at-small register.number register.small) refl
line-read (commands.Clear key) small lane line = rw (key-read _ key) refl

line-flat : (c : Command) → depth (command_data c) ≤ 1
line-flat (commands.Create register) = leb-true 1 1 refl
line-flat (commands.Write register bytes) = leb-true 1 1 refl
line-flat (commands.Publish register) = leb-true 1 1 refl
line-flat (commands.Downgrade register) = leb-true 1 1 refl
line-flat (commands.Get register key) = rw (key-flat key) (leb-true 1 1 refl)
line-flat (commands.Read register) = leb-true 1 1 refl
line-flat (commands.Release register) = leb-true 1 1 refl
line-flat (commands.Clear key) = rw (key-flat key) (leb-true 1 1 refl)

pub line-of : (c : Command) (d : Data) → IsOfBytes c → d ≡ command_data c → IsLineOf c d
line-of c d small is = subst (IsLineOf c) (sym is) (record { reads = line-read c small; flat = line-flat c })

-- one more
pub each-more : {T : Type 0} (Is : T → Data → Type 0) (xs : List T) (ds : List Data) (x : T) (d : Data) → AreEach Is xs ds → Is x d
    → AreEach Is (xs ++ x ∷ []) (ds ++ d ∷ [])
each-more Is [] [] x d are is = (is, tt)
each-more Is [] (e ∷ ds) x d are is = absurd are
each-more Is (y ∷ xs) [] x d are is = absurd are
each-more Is (y ∷ xs) (e ∷ ds) x d are is = (are.0, each-more Is xs ds x d are.1 is)

lines-read : (lane line : ℕ) (cs : List Command) (ds : List Data) → AreEach IsLineOf cs ds → each_of (command_of lane) line ds ≡ Ok cs
lines-read lane line [] [] are = refl
lines-read lane line [] (d ∷ ds) are = absurd are
lines-read lane line (c ∷ cs) [] are = absurd are
lines-read lane line (c ∷ cs) (d ∷ ds) are = rw (are.0.reads lane line, lines-read lane (line + 1) cs ds are.1) refl

list-items : (ds : List Data) → list_of (items_of ds) ≡ ds
list-items [] = refl
list-items (d ∷ ds) = ap (λ es. d ∷ es) (list-items ds)

lines-flat : (cs : List Command) (ds : List Data) → AreEach IsLineOf cs ds → items_depth (items_of ds) ≤ 1
lines-flat [] [] are = omega arith
lines-flat [] (d ∷ ds) are = absurd are
lines-flat (c ∷ cs) [] are = absurd are
lines-flat (c ∷ cs) (d ∷ ds) are = let here = are.0.flat in let there = lines-flat cs ds are.1 in omega arith

pub script-of : (cs : List Command) (ds : List Data) → AreEach IsLineOf cs ds → IsScriptOf cs (array (items_of ds))
script-of cs ds are = record {
  reads = λ lane. rw (list-items ds) (lines-read lane 0 cs ds are);
  flat = let inside = lines-flat cs ds are in omega arith;
}

-- the values of the first ones, and of one more
pub each-next : {T : Type 0} (Is : T → Data → Type 0) (xs : List T) (at : ℕ) (x : T) (vs news : List Value) (v : Value)
    → AreEach Is (take at xs) (map view vs) → Is x (view v) → x ≡ get_or xs at x → at < length xs → news ≡ vs ++ v ∷ []
    → AreEach Is (take (at + 1) xs) (map view news)
each-next {T} Is xs at x vs news v are is item within pushed =
    subst (λ (ys : List T). AreEach Is ys (map view news)) (sym (take_more xs at x within ∙ ap (λ y. take at xs ++ y ∷ []) (sym item)))
    (subst (λ (ds : List Data). AreEach Is (take at xs ++ x ∷ []) ds) (sym (ap (map view) pushed ∙ map-append view vs (v ∷ [])))
    (each-more Is (take at xs) (map view vs) x (view v) are is))

scripts-read : (lane : ℕ) (ss : List (List Command)) (ds : List Data) → AreEach IsScriptOf ss ds → each_of script_of lane ds ≡ Ok ss
scripts-read lane [] [] are = refl
scripts-read lane [] (d ∷ ds) are = absurd are
scripts-read lane (s ∷ ss) [] are = absurd are
scripts-read lane (s ∷ ss) (d ∷ ds) are = rw (are.0.reads lane, scripts-read (lane + 1) ss ds are.1) refl

scripts-flat : (ss : List (List Command)) (ds : List Data) → AreEach IsScriptOf ss ds → items_depth (items_of ds) ≤ 2
scripts-flat [] [] are = omega arith
scripts-flat [] (d ∷ ds) are = absurd are
scripts-flat (s ∷ ss) [] are = absurd are
scripts-flat (s ∷ ss) (d ∷ ds) are = let here = are.0.flat in let there = scripts-flat ss ds are.1 in omega arith

as-many : (ss : List (List Command)) (ds : List Data) → AreEach IsScriptOf ss ds → length ds ≡ length ss
as-many [] [] are = refl
as-many [] (d ∷ ds) are = absurd are
as-many (s ∷ ss) [] are = absurd are
as-many (s ∷ ss) (d ∷ ds) are = ap suc (as-many ss ds are.1)

shape-read : (z : Shape) → AreWithin z → z.guests ≡ 0 → shape_of (shape_data z) ≡ Ok z
shape-read z within alone = rw (
  le-leb z.lanes 4294967295 within.lanes,
  le-leb z.first_page 4294967295 within.first_page,
  le-leb z.pages 4294967295 within.pages,
  le-leb z.last_generation 4294967295 within.last_generation,
  le-leb z.tag 4294967295 within.tag,
) (ap (λ (guests : ℕ). Ok (record z { guests = guests })) (sym alone))

-- the value of a plan
abbrev pub file_data : Shape → List Data → Data
file_data z ds = with_fields (array (items_of ds)) (shape_data z)

file-read : (z : Shape) (ds : List Data) → AreWithin z → z.guests ≡ 0 → file_of (file_data z ds) ≡ Ok (z, list_of (items_of ds))
file-read z ds within alone = rw (shape-read z within alone) refl

pub plan-of : (plan : Plan) (ds : List Data) (d : Data) → AreWithin plan.shape → IsNarrow plan.shape → length plan.scripts ≡ plan.shape.lanes
    → AreEach IsScriptOf plan.scripts ds → d ≡ file_data plan.shape ds → IsPlanOf d plan
plan-of plan ds d within narrow lanes are is = subst (λ (e : Data). IsPlanOf e plan) (sym is) (record {
  items = ds;
  file = file-read plan.shape ds within narrow.3 ∙ ap (λ (es : List Data). Ok (plan.shape, es)) (list-items ds);
  shape = narrow;
  scripts = rw (eq-eqb (length ds) plan.shape.lanes (as-many plan.scripts ds are ∙ lanes)) (scripts-read 0 plan.scripts ds are);
  lanes = lanes;
})

pub file-flat : (plan : Plan) (ds : List Data) (d : Data) → AreEach IsScriptOf plan.scripts ds → d ≡ file_data plan.shape ds → depth d ≤ 4
file-flat plan ds d are is = subst (λ (e : Data). depth e ≤ 4) (sym is) (let inside = scripts-flat plan.scripts ds are in omega arith)
