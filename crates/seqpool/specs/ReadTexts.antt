-- What the readers of a text's parts answer: a value whose text the part is, or that no value has this text.
use Rattle.std.specs.Prelude.{◌≡◌, ◌≢◌, ◌⊎◌, ℕ, List, [], ◌∷◌, ◌++◌, Option, IfSome, MatchOption, Result, MatchResult, flat_map, decimal, codes}
use Rattle.std.specs.List.{AllByRecursion}
use Rattle.keybits.specs.declared.shape.Shape.{Shape}
use Rattle.seqpool.specs.declared.act.Act.{Act}
use Rattle.seqpool.specs.declared.act.ActName.{ActName}
use Rattle.seqpool.specs.declared.act.ActName.TheVariants as names
use Rattle.seqpool.specs.declared.acts_fault.ActsFault.{ActsFault}
use Rattle.seqpool.specs.declared.acts_fault.ActsFault.TheVariants as acts_faults
use Rattle.seqpool.specs.ActsText.{hex, content_text, places_text, reply_text, act_line, act_text, AreBytes, IsU32, IsPlaceNumber, HasLine, AreNumbers, IsShapeText, IsUpToLineFeed}

-- no such byte is in the text
abbrev pub Without : ℕ → List ℕ → Type 0
Without separator text = AllByRecursion (λ byte. byte ≢ separator) text

-- two parts with a space between them
abbrev pub spaced : List ℕ → List ℕ → List ℕ
spaced front back = front ++ 32 ∷ back

-- no value has this text
abbrev pub NothingHas : {T : Type 0} → (T → List ℕ → Type 0) → List ℕ → Type 0
NothingHas {T} HasText text = (x : T) → HasText x text → ⊥

-- where a value has this text, it is found
abbrev pub Finds : {T : Type 0} → (T → List ℕ → Type 0) → List ℕ → Option T → Type 0
Finds HasText text found = MatchOption found (NothingHas HasText text) (λ x. HasText x text)

-- a part is refused where no value has its text; no shape is tested in it, and of want of memory nothing is said
abbrev pub Refuses : {T : Type 0} → (T → List ℕ → Type 0) → List ℕ → ActsFault → Type 0
Refuses HasText text acts_faults.ActsLine = NothingHas HasText text
Refuses HasText text (acts_faults.Shape fault) = ⊥
Refuses HasText text acts_faults.Memory = Unit {0}

-- where a value has this text, it is read, unless memory was refused
abbrev pub Reads : {T : Type 0} → (T → List ℕ → Type 0) → List ℕ → Result T ActsFault → Type 0
Reads HasText text read = MatchResult read (λ x. HasText x text) (Refuses HasText text)

-- bytes as pairs of hexadecimal digits
abbrev pub ArePairs : List ℕ → List ℕ → Type 0
ArePairs bytes text = AreBytes bytes × (text ≡ hex bytes)

-- the content of an object
abbrev pub IsContent : List ℕ → List ℕ → Type 0
IsContent bytes text = AreBytes bytes × (text ≡ content_text bytes)

-- the reply of a get
abbrev pub IsReply : Option (List ℕ) → List ℕ → Type 0
IsReply reply text = IfSome reply AreBytes × (text ≡ reply_text reply)

-- the places of a collect
abbrev pub ArePlaces : List ℕ → List ℕ → Type 0
ArePlaces places text = (places ≢ []) × AllByRecursion IsPlaceNumber places × (text ≡ places_text places)

-- the name of an act, in its line
abbrev pub name_text : ActName → List ℕ
name_text names.Publish = codes "publish"
name_text names.Get = codes "get"
name_text names.Release = codes "release"
name_text names.Clear = codes "clear"
name_text names.Reclaim = codes "reclaim"
name_text names.Home = codes "home"
name_text names.Collect = codes "collect"

-- an act whose line has this lane, this name and these operands
abbrev pub HasOperands : ℕ → ActName → Act → List ℕ → Type 0
HasOperands lane name act operands = HasLine act × (act_line act ≡ spaced (decimal lane) (spaced (name_text name) operands))

-- the act of a line
abbrev pub IsAct : Act → List ℕ → Type 0
IsAct act line = HasLine act × (line ≡ act_line act)

-- the acts of some lines
abbrev pub AreActs : List Act → List ℕ → Type 0
AreActs acts text = AllByRecursion HasLine acts × IsUpToLineFeed text (flat_map act_text acts)

-- the shape of a line
abbrev pub IsShapeOf : Shape → List ℕ → Type 0
IsShapeOf z line = AreNumbers z × IsShapeText z (line ++ codes "\n")

-- a last generation and a tag, which is 0 where it isn't there
abbrev pub AreLast : ℕ × ℕ → List ℕ → Type 0
AreLast (generation, tag) text =
    IsU32 generation × IsU32 tag × ((text ≡ spaced (decimal generation) (decimal tag)) ⊎ ((tag ≡ 0) × (text ≡ decimal generation)))

-- the first line of a text, without its line feed, and what comes after it; the last line may lack its line feed
pub record IsFirstLine (line rest text : List ℕ) : Type 0 where
  pub one : Without 10 line
  pub is : (text ≡ line ++ 10 ∷ rest) ⊎ ((text ≡ line) × (rest ≡ []))
