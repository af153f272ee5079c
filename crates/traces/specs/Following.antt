-- Following a script: which reply each command has.
use Rattle.std.specs.Prelude.{◌≡◌, ℕ, true, List, [], ◌∷◌, Option, Some, None}
use Rattle.keybits.specs.declared.shape.Shape.{Shape}
use Rattle.keybits.specs.Keys.{key_number, place_of}
use Rattle.seqpool.specs.Pool.{Pool, Phase, with, published, home, retired, is_current}
use Rattle.traces.specs.declared.script.Command.{Command}
use Rattle.traces.specs.declared.script.Command.TheVariants.{Create, Write, Publish, Downgrade, Get, Read, Release, Clear}
use Rattle.traces.specs.declared.reply.Reply.{Reply}
use Rattle.traces.specs.declared.reply.Reply.TheVariants as replies
use Rattle.traces.specs.declared.registers.Holding.{Holding}
use Rattle.traces.specs.declared.registers.Holding.TheVariants.{Empty, Filling, Reference}
use Rattle.traces.specs.Registers.{operand_key}
use Rattle.traces.specs.Books.{Book, holding_at, handed_out, shown, cleared, next_aim, answered}

-- the content of a published place, with or without the mark
abbrev pub row_content : Phase → Option (List ℕ)
row_content (with lane) = None
row_content (published content references mark) = Some content
row_content home = None
row_content retired = None

-- the key is in the map with this content
abbrev pub HasContent : Shape → Pool → ℕ → List ℕ → Type 0
HasContent z pool key content = (is_current z pool key ≡ true) × (row_content (pool (place_of key)).phase ≡ Some content)

-- create replies the key of the place that it hands out, which is with the lane, at the place's next generation; or that the shard is full
abbrev pub CreateReply : Shape → Pool → ℕ → Option ℕ → Reply → Type 0
CreateReply z pool lane (Some place) reply =
    (reply ≡ replies.Filling (key_number z.tag place (pool place).generation)) × ((pool place).phase ≡ with lane)
CreateReply z pool lane None reply = reply ≡ replies.Full

-- get replies what its act shows
abbrev pub get_reply : Option (List ℕ) → Reply
get_reply (Some content) = replies.Found content
get_reply None = replies.Missing

-- skip where a register is not empty
abbrev pub WhereEmpty : Holding → Reply → Type 0 → Type 0
WhereEmpty Empty reply Says = Says
WhereEmpty (Filling key content) reply Says = reply ≡ replies.Skip
WhereEmpty (Reference key content) reply Says = reply ≡ replies.Skip

-- skip where a register has no filling
abbrev pub WhereFilling : Holding → Reply → (ℕ → Type 0) → Type 0
WhereFilling Empty reply Says = reply ≡ replies.Skip
WhereFilling (Filling key content) reply Says = Says key
WhereFilling (Reference key content) reply Says = reply ≡ replies.Skip

-- skip where a register has no reference
abbrev pub WhereReference : Holding → Reply → (ℕ → Type 0) → Type 0
WhereReference Empty reply Says = reply ≡ replies.Skip
WhereReference (Filling key content) reply Says = reply ≡ replies.Skip
WhereReference (Reference key content) reply Says = Says key

-- skip where an operand has no key
abbrev pub WhereKey : Option ℕ → Reply → (ℕ → Type 0) → Type 0
WhereKey None reply Says = reply ≡ replies.Skip
WhereKey (Some key) reply Says = Says key

-- the reply of a command, in the pool as it is at the reply; skip where the register holds something else or the operand has no key
abbrev pub CommandReplies : Shape → Pool → ℕ → Book → Command → Reply → Type 0
CommandReplies z pool lane b (Create register) reply =
    WhereEmpty (holding_at b register.number) reply (CreateReply z pool lane (handed_out z lane b) reply)
CommandReplies z pool lane b (Write register bytes) reply =
    WhereFilling (holding_at b register.number) reply (λ key. reply ≡ replies.Done)
CommandReplies z pool lane b (Publish register) reply =
    WhereFilling (holding_at b register.number) reply (λ key. reply ≡ replies.Key key)
CommandReplies z pool lane b (Downgrade register) reply =
    WhereFilling (holding_at b register.number) reply (λ key. reply ≡ replies.Key key)
CommandReplies z pool lane b (Get register key) reply =
    WhereEmpty (holding_at b register.number) reply (WhereKey (operand_key b.registers key) reply (λ at. reply ≡ get_reply (shown b.acts)))
CommandReplies z pool lane b (Read register) reply =
    WhereReference (holding_at b register.number) reply (λ key. (content : List ℕ) × HasContent z pool key content
    × (reply ≡ replies.Content content))
CommandReplies z pool lane b (Release register) reply =
    WhereReference (holding_at b register.number) reply (λ key. reply ≡ replies.Done)
CommandReplies z pool lane b (Clear key) reply =
    WhereKey (operand_key b.registers key) reply (λ at. reply ≡ replies.Cleared (cleared b.acts))

-- this is the reply of the first of these commands
abbrev pub FirstReplies : Shape → Pool → ℕ → Book → List Command → Reply → Type 0
FirstReplies z pool lane b [] reply = ⊥
FirstReplies z pool lane b (command ∷ more) reply = CommandReplies z pool lane b command reply

-- the next of the lane's script is this reply: its call has made all its steps
abbrev pub IsReply : Shape → Pool → ℕ → Book → Reply → Type 0
IsReply z pool lane b reply = (next_aim z lane b ≡ None) × FirstReplies z pool lane b b.left reply

-- the next of the lane's script are these replies, without a step between them
abbrev pub AreReplies : Shape → Pool → ℕ → Book → List Reply → Type 0
AreReplies z pool lane b [] = Unit {0}
AreReplies z pool lane b (reply ∷ more) = IsReply z pool lane b reply × AreReplies z pool lane (answered z lane b reply) more
