-- Lines of acts, by their parts.
use Rattle.std.proofs.Common.{◌≡◌, ℕ, List, [], ◌∷◌, ◌++◌, Bool, true, false, cond, Option, Some, None, IfSome, decimal, codes, refl, sym, ap, ◌∙◌, arith, subst, append_assoc, length-append}
use Rattle.std.specs.Str.{bytes_eq}
use Rattle.std.proofs.lemmas.Fmt.{decimal_injective}
use Rattle.seqpool.specs.declared.act.Act.{Act}
use Rattle.seqpool.specs.declared.act.Act.TheVariants.{Publish, Get, Release, Clear, Reclaim, Home, Collect}
use Rattle.seqpool.specs.declared.act.ActName.{ActName}
use Rattle.seqpool.specs.declared.act.ActName.TheVariants as names
use Rattle.seqpool.specs.Pool.{lane_of}
use Rattle.seqpool.specs.ActsText.{content_text, flag_text, reply_text, truth_text, places_text, act_line, HasLine, AreBytes, IsU32, IsKeyNumber, IsPlaceNumber}
use Rattle.seqpool.specs.ReadTexts.{Without, spaced, ArePlaces, name_text, HasOperands, IsAct}
use Rattle.seqpool.proofs.Parts.{Without-append, spaced-Without, lacks, lacks-Without, one-cut}
use Rattle.seqpool.proofs.Numbers.{one-u32, one-key, key-same, place-same, u32-Without, key-Without, place-Without, decimal-Without}
use Rattle.seqpool.proofs.HexTexts.{content-same, content-Without}
use Rattle.seqpool.proofs.PlaceTexts.{places-same, places-Without}
use Rattle.seqpool.proofs.ReadLines.{IsLine}

-- the name of an act
abbrev pub name_at : Act → ActName
name_at (Publish lane key content with_ref) = names.Publish
name_at (Get lane key reply) = names.Get
name_at (Release lane key) = names.Release
name_at (Clear lane key reply) = names.Clear
name_at (Reclaim lane key) = names.Reclaim
name_at (Home lane place) = names.Home
name_at (Collect lane places) = names.Collect

-- what stands behind the name
abbrev pub operands : Act → List ℕ
operands (Publish lane key content with_ref) = spaced (decimal key) (spaced (content_text content) (flag_text with_ref))
operands (Get lane key reply) = spaced (decimal key) (reply_text reply)
operands (Release lane key) = decimal key
operands (Clear lane key reply) = spaced (decimal key) (truth_text reply)
operands (Reclaim lane key) = decimal key
operands (Home lane place) = decimal place
operands (Collect lane places) = places_text places

-- what stands behind the lane
abbrev pub named : Act → List ℕ
named act = spaced (name_text (name_at act)) (operands act)

three : (a w k : List ℕ) → (a ++ (32 ∷ (w ++ 32 ∷ []))) ++ k ≡ spaced a (spaced w k)
three a w k = simp append_assoc

four : (a w k v : List ℕ) → (((a ++ (32 ∷ (w ++ 32 ∷ []))) ++ k) ++ 32 ∷ []) ++ v ≡ spaced a (spaced w (spaced k v))
four a w k v = simp append_assoc

five : (a w k c f : List ℕ) → (((((a ++ (32 ∷ (w ++ 32 ∷ []))) ++ k) ++ 32 ∷ []) ++ c) ++ 32 ∷ []) ++ f ≡ spaced a (spaced w (spaced k (spaced c f)))
five a w k c f = simp append_assoc

-- a line is a lane, a name and operands, with single spaces between
pub act_line-parts : (act : Act) → act_line act ≡ spaced (decimal (lane_of act)) (named act)
act_line-parts (Publish lane key content with_ref) =
    five (decimal lane) (codes "publish") (decimal key) (content_text content) (flag_text with_ref)
act_line-parts (Get lane key reply) = four (decimal lane) (codes "get") (decimal key) (reply_text reply)
act_line-parts (Release lane key) = three (decimal lane) (codes "release") (decimal key)
act_line-parts (Clear lane key reply) = four (decimal lane) (codes "clear") (decimal key) (truth_text reply)
act_line-parts (Reclaim lane key) = three (decimal lane) (codes "reclaim") (decimal key)
act_line-parts (Home lane place) = three (decimal lane) (codes "home") (decimal place)
act_line-parts (Collect lane places) = three (decimal lane) (codes "collect") (places_text places)

-- a name has no space and no line feed, and is that of one kind of act

name-lacks : (name : ActName) → (lacks 32 (name_text name) ≡ true) × (lacks 10 (name_text name) ≡ true)
name-lacks names.Publish = (refl, refl)
name-lacks names.Get = (refl, refl)
name-lacks names.Release = (refl, refl)
name-lacks names.Clear = (refl, refl)
name-lacks names.Reclaim = (refl, refl)
name-lacks names.Home = (refl, refl)
name-lacks names.Collect = (refl, refl)

pub name-Without : (name : ActName) → Without 32 (name_text name)
name-Without name = lacks-Without 32 (name_text name) (name-lacks name).0

name_in : List ℕ → ActName
name_in text =
    cond (bytes_eq text (codes "publish")) names.Publish (cond (bytes_eq text (codes "get")) names.Get
    (cond (bytes_eq text (codes "release")) names.Release (cond (bytes_eq text (codes "clear")) names.Clear
    (cond (bytes_eq text (codes "reclaim")) names.Reclaim (cond (bytes_eq text (codes "home")) names.Home names.Collect)))))

name_in-text : (name : ActName) → name_in (name_text name) ≡ name
unfolding name_in
name_in-text names.Publish = refl
name_in-text names.Get = refl
name_in-text names.Release = refl
name_in-text names.Clear = refl
name_in-text names.Reclaim = refl
name_in-text names.Home = refl
name_in-text names.Collect = refl

name-same : (name other : ActName) → name_text name ≡ name_text other → name ≡ other
name-same name other is = sym (name_in-text name) ∙ (ap name_in is ∙ name_in-text other)

-- an act of this name and lane, by its operands
abbrev pub ByOperands : ActName → ℕ → List ℕ → Act → Type 0
ByOperands names.Publish lane text act =
    (key : ℕ) × (content : List ℕ) × (with_ref : Bool) × (act ≡ Publish lane key content with_ref) × IsKeyNumber key × AreBytes content
    × (text ≡ spaced (decimal key) (spaced (content_text content) (flag_text with_ref)))
ByOperands names.Get lane text act =
    (key : ℕ) × (reply : Option (List ℕ)) × (act ≡ Get lane key reply) × IsKeyNumber key × IfSome reply AreBytes
    × (text ≡ spaced (decimal key) (reply_text reply))
ByOperands names.Release lane text act = (key : ℕ) × (act ≡ Release lane key) × IsKeyNumber key × (text ≡ decimal key)
ByOperands names.Clear lane text act =
    (key : ℕ) × (reply : Bool) × (act ≡ Clear lane key reply) × IsKeyNumber key × (text ≡ spaced (decimal key) (truth_text reply))
ByOperands names.Reclaim lane text act = (key : ℕ) × (act ≡ Reclaim lane key) × IsKeyNumber key × (text ≡ decimal key)
ByOperands names.Home lane text act = (place : ℕ) × (act ≡ Home lane place) × IsPlaceNumber place × (text ≡ decimal place)
ByOperands names.Collect lane text act = (places : List ℕ) × (act ≡ Collect lane places) × ArePlaces places text

by-operands : (act : Act) → HasLine act → ByOperands (name_at act) (lane_of act) (operands act) act
by-operands (Publish lane key content with_ref) has = (key, content, with_ref, refl, has.1, has.2, refl)
by-operands (Get lane key reply) has = (key, reply, refl, has.1, has.2, refl)
by-operands (Release lane key) has = (key, refl, has.1, refl)
by-operands (Clear lane key reply) has = (key, reply, refl, has.1, refl)
by-operands (Reclaim lane key) has = (key, refl, has.1, refl)
by-operands (Home lane place) has = (place, refl, has.1, refl)
by-operands (Collect lane places) has = (places, refl, (has.1, has.2, refl))

pub lane-low : (act : Act) → HasLine act → IsU32 (lane_of act)
lane-low (Publish lane key content with_ref) has = has.0
lane-low (Get lane key reply) has = has.0
lane-low (Release lane key) has = has.0
lane-low (Clear lane key reply) has = has.0
lane-low (Reclaim lane key) has = has.0
lane-low (Home lane place) has = has.0
lane-low (Collect lane places) has = has.0

-- an act whose line has this lane, this name and these operands is made of them
pub has-operands : (lane : ℕ) (name : ActName) (act : Act) (text : List ℕ) → IsU32 lane → HasOperands lane name act text
    → ByOperands name lane text act
has-operands lane name act text low (has, is) =
    let (lane-is, others) =
    one-u32 (lane_of act) lane (named act) (spaced (name_text name) text) (lane-low act has) low (sym (act_line-parts act) ∙ is) in
    let (name-is, text-is) =
    one-cut 32 (name_text (name_at act)) (operands act) (name_text name) text (name-Without (name_at act)) (name-Without name) others in
    subst (λ (n : ActName). ByOperands n lane text act) (name-same (name_at act) name name-is)
    (subst (λ (l : ℕ). ByOperands (name_at act) l text act) lane-is
    (subst (λ (xs : List ℕ). ByOperands (name_at act) (lane_of act) xs act) text-is (by-operands act has)))

-- a line is that of one act

flag-same : (one two : Bool) → flag_text one ≡ flag_text two → one ≡ two
flag-same true true is = refl
flag-same true false is = let same : ◌≡◌ {A = ℕ} 1 0 = decimal_injective 1 0 (omega arith) (omega arith) is in absurd (omega arith)
flag-same false true is = let same : ◌≡◌ {A = ℕ} 0 1 = decimal_injective 0 1 (omega arith) (omega arith) is in absurd (omega arith)
flag-same false false is = refl

truth-same : (one two : Bool) → truth_text one ≡ truth_text two → one ≡ two
truth-same true true is = refl
truth-same true false is = absurd (cc)
truth-same false true is = absurd (cc)
truth-same false false is = refl

reply-same : (one two : Option (List ℕ)) → IfSome one AreBytes → IfSome two AreBytes → reply_text one ≡ reply_text two → one ≡ two
reply-same None None all each is = refl
reply-same None (Some y) all each is = absurd (cc)
reply-same (Some x) None all each is = absurd (cc)
reply-same (Some x) (Some y) all each is =
    let same : content_text x ≡ content_text y = cc in ap (λ (xs : List ℕ). Some xs) (content-same x y all each same)

one-act : (name : ActName) (lane : ℕ) (text : List ℕ) (x y : Act) → ByOperands name lane text x → ByOperands name lane text y → x ≡ y
one-act names.Publish lane text x y (k, c, f, x-is, low, all, one) (l, d, g, y-is, small, each, two) =
    let (keys, rests) =
    one-key k l (spaced (content_text c) (flag_text f)) (spaced (content_text d) (flag_text g)) low small (sym one ∙ two) in
    let (texts, flags) =
    one-cut 32 (content_text c) (flag_text f) (content_text d) (flag_text g) (content-Without 32 c (omega arith))
    (content-Without 32 d (omega arith)) rests in
    let contents : c ≡ d = content-same c d all each texts in
    let references : f ≡ g = flag-same f g flags in cc
one-act names.Get lane text x y (k, r, x-is, low, all, one) (l, s, y-is, small, each, two) =
    let (keys, rests) = one-key k l (reply_text r) (reply_text s) low small (sym one ∙ two) in
    let replies : r ≡ s = reply-same r s all each rests in cc
one-act names.Release lane text x y (k, x-is, low, one) (l, y-is, small, two) =
    let keys : k ≡ l = key-same k l low small (sym one ∙ two) in cc
one-act names.Clear lane text x y (k, r, x-is, low, one) (l, s, y-is, small, two) =
    let (keys, rests) = one-key k l (truth_text r) (truth_text s) low small (sym one ∙ two) in
    let replies : r ≡ s = truth-same r s rests in cc
one-act names.Reclaim lane text x y (k, x-is, low, one) (l, y-is, small, two) =
    let keys : k ≡ l = key-same k l low small (sym one ∙ two) in cc
one-act names.Home lane text x y (p, x-is, low, one) (q, y-is, small, two) =
    let places : p ≡ q = place-same p q low small (sym one ∙ two) in cc
one-act names.Collect lane text x y (ps, x-is, one) (qs, y-is, two) = let places : ps ≡ qs = places-same ps qs text one two in cc

pub act-same : (x y : Act) (line : List ℕ) → IsAct x line → IsAct y line → x ≡ y
act-same x y line (has, is) (also, too) =
    let low = lane-low x has in
    one-act (name_at x) (lane_of x) (operands x) x y (has-operands (lane_of x) (name_at x) x (operands x) low (has, act_line-parts x))
    (has-operands (lane_of x) (name_at x) y (operands x) low (also, sym too ∙ (is ∙ act_line-parts x)))

-- a line of an act has no line feed

flag-Without : (with_ref : Bool) → Without 10 (flag_text with_ref)
flag-Without true = decimal-Without 10 1 (omega arith) (omega arith)
flag-Without false = decimal-Without 10 0 (omega arith) (omega arith)

reply-Without : (reply : Option (List ℕ)) → Without 10 (reply_text reply)
reply-Without None = lacks-Without 10 (codes "none") refl
reply-Without (Some content) =
    Without-append 10 (codes "some ") (content_text content) (lacks-Without 10 (codes "some ") refl) (content-Without 10 content (omega arith))

truth-Without : (reply : Bool) → Without 10 (truth_text reply)
truth-Without true = lacks-Without 10 (codes "true") refl
truth-Without false = lacks-Without 10 (codes "false") refl

keyed-Without : (key : ℕ) (text : List ℕ) → IsKeyNumber key → Without 10 text → Without 10 (spaced (decimal key) text)
keyed-Without key text low rest = spaced-Without 10 (decimal key) text (omega arith) (key-Without 10 key (omega arith) low) rest

operands-Without : (act : Act) → HasLine act → Without 10 (operands act)
operands-Without (Publish lane key content with_ref) has =
    keyed-Without key (spaced (content_text content) (flag_text with_ref)) has.1
    (spaced-Without 10 (content_text content) (flag_text with_ref) (omega arith) (content-Without 10 content (omega arith)) (flag-Without with_ref))
operands-Without (Get lane key reply) has = keyed-Without key (reply_text reply) has.1 (reply-Without reply)
operands-Without (Release lane key) has = key-Without 10 key (omega arith) has.1
operands-Without (Clear lane key reply) has = keyed-Without key (truth_text reply) has.1 (truth-Without reply)
operands-Without (Reclaim lane key) has = key-Without 10 key (omega arith) has.1
operands-Without (Home lane place) has = place-Without 10 place (omega arith) has.1
operands-Without (Collect lane places) has = places-Without 10 places (omega arith) has.2

pub act_line-IsLine : (act : Act) → HasLine act → IsLine (act_line act)
act_line-IsLine act has =
    subst (λ (xs : List ℕ). IsLine xs) (sym (act_line-parts act)) (record {
      some = omega (arith, length-append (decimal (lane_of act)) (32 ∷ named act));
      one = spaced-Without 10 (decimal (lane_of act)) (named act) (omega arith) (u32-Without 10 (lane_of act) (omega arith) (lane-low act has))
          (spaced-Without 10 (name_text (name_at act)) (operands act) (omega arith)
          (lacks-Without 10 (name_text (name_at act)) (name-lacks (name_at act)).1) (operands-Without act has));
    })
