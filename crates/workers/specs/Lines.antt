-- Running the lines of a script: what each does with a lane and its registers, and what it replies.
use Rattle.std.specs.Prelude.{◌≡◌, ◌⊎◌, ℕ, ◌+◌, ◌<◌, ◌≤◌, Bool, true, false, List, [], ◌∷◌, ◌++◌, length, Option, Some, None, replicate, slice_get, slice_set, if◌then◌else◌}
use Rattle.keybits.specs.Keys.{place_of, is_key}
use Rattle.seqpool.specs.declared.act.Act.{Act}
use Rattle.seqpool.specs.declared.act.Act.TheVariants as acts
use Rattle.seqpool.specs.Histories.{PublishedAt}
use Rattle.poolsteps.specs.Shares.{room_of}
use Rattle.steplaws.specs.Calls.Call.{Publishing, Getting, Releasing, Clearing}
use Rattle.traces.specs.declared.script.Command.{Command}
use Rattle.traces.specs.declared.script.Command.TheVariants.{Create, Write, Publish, Downgrade, Get, Read, Release, Clear}
use Rattle.traces.specs.declared.script.Operand.{Operand}
use Rattle.traces.specs.declared.script.Operand.TheVariants.{Number, LastOf}
use Rattle.traces.specs.declared.reply.Reply.{Reply}
use Rattle.traces.specs.declared.reply.Reply.TheVariants as replies
use Rattle.slotcell.specs.ByteBuf.{ByteBuf}
use Rattle.shardpool.specs.Tokens.{LaneOf, FillingOf, RefOf}
use Rattle.shardpool.specs.Lanes.{Calls, Did, Gets}
use Rattle.shardpool.specs.Creates.{Gives, GivesNone}
use Rattle.workers.specs.declared.registers.Register.{Register}
use Rattle.workers.specs.declared.registers.TheConstants.{REGISTERS}
use Rattle.workers.specs.declared.registers.Held.{Held}
use Rattle.workers.specs.declared.registers.Held.TheVariants.{Empty, Filling, Reference}

-- a lane, and the registers of its script
pub record Desk : Type 0 where
  pub lane : LaneOf
  pub registers : List Register

-- a register that held nothing yet
abbrev pub empty_register : Register
empty_register = record { held = Empty; last_key = None }

-- before the first line all registers are empty
abbrev pub first_desk : LaneOf → Desk
first_desk lane = record { lane = lane; registers = replicate REGISTERS empty_register }

-- the register, or an empty one where there is none of this number
abbrev pub register_or_empty : Option Register → Register
register_or_empty (Some register) = register
register_or_empty None = empty_register

-- the register of this number
abbrev pub register_at : List Register → ℕ → Register
register_at registers number = register_or_empty (slice_get registers number)

-- the key that an operand names, where it names one: a number, or the last key that a register held
abbrev pub operand_key : List Register → Operand → Option ℕ
operand_key registers (Number key) = Some key
operand_key registers (LastOf register) = (register_at registers register.number).last_key

-- the registers, of which this one then holds something else, and remembers its last key
abbrev pub with_held : List Register → ℕ → Held → List Register
with_held registers number held = slice_set registers number (record (register_at registers number) { held = held })

-- the registers, of which this one then holds something of a new key
abbrev pub with_new : List Register → ℕ → ℕ → Held → List Register
with_new registers number key held = slice_set registers number (record { held = held; last_key = Some key })

-- ---- what each line does

-- nothing
abbrev pub Skips : Desk → Reply → Desk → Type 0
Skips old reply new = (reply ≡ replies.Skip) × (new ≡ old)

-- a create into a register: it gives a filling, or none, as the shard is full or memory was refused
abbrev pub Creates : ℕ → Desk → Reply → Desk → Type 0
Creates register old reply new =
    ((filling : FillingOf ByteBuf) × Gives (λ b. b.bytes) (λ b. b.room) old.lane new.lane filling × (reply ≡ replies.Filling filling.key)
    × (new.registers ≡ with_new old.registers register filling.key (Filling filling)))
    ⊎ (GivesNone old.lane new.lane × (new.registers ≡ old.registers)
    × (((reply ≡ replies.Full) × (old.lane.pages.opened ≡ old.lane.shape.pages))
    ⊎ ((reply ≡ replies.Memory) × (old.lane.pages.opened < old.lane.shape.pages))))

-- bytes are appended to a filling, whose room stays or grows; or the room was too small, memory was refused, and the filling is as before
abbrev pub Writes : ℕ → List ℕ → FillingOf ByteBuf → Desk → Reply → Desk → Type 0
Writes register bytes filling old reply new = (new.lane ≡ old.lane)
    × (((object : ByteBuf) × (object.bytes ≡ filling.object.bytes ++ bytes) × (reply ≡ replies.Done)
    × (new.registers ≡ with_held old.registers register (Filling (record filling { object = object })))
    × (filling.object.room ≤ object.room))
    ⊎ ((reply ≡ replies.Memory) × (new.registers ≡ old.registers) × (filling.object.room < length filling.object.bytes + length bytes)))

-- a filling is published, with its content and its room; with a reference, which the register then has
abbrev pub Publishes : ℕ → Bool → FillingOf ByteBuf → Desk → Reply → Desk → Type 0
Publishes register with_ref filling old reply new =
    Calls old.lane.shape (Publishing filling.key filling.object.bytes with_ref) old.lane.book new.lane.book
    × Did (acts.Publish old.lane.number filling.key filling.object.bytes with_ref ∷ []) old.lane new.lane
    × (reply ≡ replies.Key filling.key)
    × (new.registers ≡ with_held old.registers register (if with_ref then Reference (record { key = filling.key }) else Empty))
    × (room_of new.lane.book.seen new.lane.book.rooms (place_of filling.key) ≡ filling.object.room)

-- a get of a key of the pool: the reply is its act's, and where it hit the register has the reference; where the copy of the content for the reply was
-- refused memory, the reply says so, and the act stands
abbrev pub GetsInto : ℕ → ℕ → Desk → Reply → Desk → Type 0
GetsInto register key old reply new = Calls old.lane.shape (Getting key) old.lane.book new.lane.book
    × ((Gets key old.lane new.lane None × (reply ≡ replies.Missing) × (new.registers ≡ old.registers))
    ⊎ ((content : List ℕ) × Did (acts.Get old.lane.number key (Some content) ∷ []) old.lane new.lane
    × ((reply ≡ replies.Found content) ⊎ (reply ≡ replies.Memory))
    × (new.registers ≡ with_new old.registers register key (Reference (record { key = key })))))

-- a read: the content with which the reference's key was published; or the copy for the reply was refused memory
abbrev pub Reads : RefOf → Desk → Reply → Desk → Type 0
Reads reference old reply new = (new ≡ old)
    × (((content : List ℕ) × (at : ℕ) × PublishedAt old.lane.book.seen at reference.key content × (reply ≡ replies.Content content))
    ⊎ (reply ≡ replies.Memory))

-- a reference is given back
abbrev pub Releases : ℕ → RefOf → Desk → Reply → Desk → Type 0
Releases register reference old reply new = Calls old.lane.shape (Releasing reference.key) old.lane.book new.lane.book
    × ((rest : List Act) × Did (acts.Release old.lane.number reference.key ∷ rest) old.lane new.lane)
    × (reply ≡ replies.Done) × (new.registers ≡ with_held old.registers register Empty)

-- a clear of a key of the pool: the reply is its act's
abbrev pub Clears : ℕ → Desk → Reply → Desk → Type 0
Clears key old reply new = Calls old.lane.shape (Clearing key) old.lane.book new.lane.book
    × ((marked : Bool) × ((rest : List Act) × Did (acts.Clear old.lane.number key marked ∷ rest) old.lane new.lane)
    × (reply ≡ replies.Cleared marked))
    × (new.registers ≡ old.registers)

-- for a key of the pool what is said; any other number has this reply, and does nothing
abbrev pub WhereInside : ℕ → Desk → Reply → Desk → Reply → Type 0 → Type 0
WhereInside key old reply new outside Does =
    (is_key old.lane.shape key ≡ true → Does) × (is_key old.lane.shape key ≡ false → (reply ≡ outside) × (new ≡ old))

-- ---- which line does what: a line whose register holds something else, or whose operand has no key, skips

abbrev pub WhereEmpty : Held → Type 0 → Type 0 → Type 0
WhereEmpty Empty Does Else = Does
WhereEmpty (Filling filling) Does Else = Else
WhereEmpty (Reference reference) Does Else = Else

abbrev pub WhereFilling : Held → (FillingOf ByteBuf → Type 0) → Type 0 → Type 0
WhereFilling Empty Does Else = Else
WhereFilling (Filling filling) Does Else = Does filling
WhereFilling (Reference reference) Does Else = Else

abbrev pub WhereReference : Held → (RefOf → Type 0) → Type 0 → Type 0
WhereReference Empty Does Else = Else
WhereReference (Filling filling) Does Else = Else
WhereReference (Reference reference) Does Else = Does reference

abbrev pub WhereKey : Option ℕ → (ℕ → Type 0) → Type 0 → Type 0
WhereKey None Does Else = Else
WhereKey (Some key) Does Else = Does key

-- the line of this command, with its reply
abbrev pub IsLine : Desk → Command → Reply → Desk → Type 0
IsLine old (Create register) reply new =
    WhereEmpty (register_at old.registers register.number).held (Creates register.number old reply new) (Skips old reply new)
IsLine old (Write register bytes) reply new =
    WhereFilling (register_at old.registers register.number).held (λ filling. Writes register.number bytes filling old reply new)
    (Skips old reply new)
IsLine old (Publish register) reply new =
    WhereFilling (register_at old.registers register.number).held (λ filling. Publishes register.number false filling old reply new)
    (Skips old reply new)
IsLine old (Downgrade register) reply new =
    WhereFilling (register_at old.registers register.number).held (λ filling. Publishes register.number true filling old reply new)
    (Skips old reply new)
IsLine old (Get register operand) reply new =
    WhereEmpty (register_at old.registers register.number).held
    (WhereKey (operand_key old.registers operand)
    (λ key. WhereInside key old reply new replies.Missing (GetsInto register.number key old reply new)) (Skips old reply new))
    (Skips old reply new)
IsLine old (Read register) reply new =
    WhereReference (register_at old.registers register.number).held (λ reference. Reads reference old reply new) (Skips old reply new)
IsLine old (Release register) reply new =
    WhereReference (register_at old.registers register.number).held (λ reference. Releases register.number reference old reply new)
    (Skips old reply new)
IsLine old (Clear operand) reply new =
    WhereKey (operand_key old.registers operand) (λ key. WhereInside key old reply new (replies.Cleared false) (Clears key old reply new))
    (Skips old reply new)

-- these lines were run, one after another, each with its reply
abbrev pub AreLines : Desk → List Command → List Reply → Desk → Type 0
AreLines old [] [] new = new ≡ old
AreLines old [] (reply ∷ more) new = ⊥
AreLines old (command ∷ rest) [] new = ⊥
AreLines old (command ∷ rest) (reply ∷ more) new = (between : Desk) × IsLine old command reply between × AreLines between rest more new
