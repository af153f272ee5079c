-- Where a line is that of no act.
use Rattle.std.proofs.Common.{◌≡◌, ℕ, List, Bool, sym, ◌∙◌, arith}
use Rattle.keybits.specs.declared.place.TheConstants.{GREATEST_PLACE}
use Rattle.seqpool.specs.declared.act.Act.{Act}
use Rattle.seqpool.specs.declared.act.ActName.TheVariants as names
use Rattle.seqpool.specs.Pool.{lane_of}
use Rattle.seqpool.specs.ActsText.{content_text, flag_text, reply_text, truth_text, AreBytes, IsU32}
use Rattle.seqpool.specs.ReadTexts.{Without, spaced, NothingHas, IsContent, IsReply, ArePlaces, name_text, HasOperands, IsAct}
use Rattle.seqpool.proofs.Parts.{IsCut, one-cut, uncut}
use Rattle.seqpool.proofs.Numbers.{IsNoNumber, IsLed, IsNotLed, one-u32, one-key}
use Rattle.seqpool.proofs.HexTexts.{content-Without}
use Rattle.seqpool.proofs.ActTexts.{name_at, operands, named, act_line-parts, name-Without, lane-low, has-operands}

-- the operands of a publish

pub publish-unkeyed : (lane : ℕ) (text : List ℕ) → IsU32 lane → IsNotLed 18446744073709551615 text → NothingHas (HasOperands lane names.Publish) text
publish-unkeyed lane text low never act has =
    let (key, content, with_ref, is, small, bytes, written) = has-operands lane names.Publish act text low has in
    never key (spaced (content_text content) (flag_text with_ref)) small written

-- what stands behind the key
behind-key : (lane key : ℕ) (text rest : List ℕ) (act : Act) → IsU32 lane → IsLed 18446744073709551615 key text rest
    → HasOperands lane names.Publish act text
    → (content : List ℕ) × (with_ref : Bool) × AreBytes content × (rest ≡ spaced (content_text content) (flag_text with_ref))
behind-key lane key text rest act low (small, keyed) has =
    let (k, content, with_ref, is, few, bytes, written) = has-operands lane names.Publish act text low has in
    (content, with_ref, bytes, (one-key key k rest (spaced (content_text content) (flag_text with_ref)) small few (sym keyed ∙ written)).1)

pub publish-uncut : (lane key : ℕ) (text rest : List ℕ) → IsU32 lane → IsLed 18446744073709551615 key text rest → Without 32 rest
    → NothingHas (HasOperands lane names.Publish) text
publish-uncut lane key text rest low keyed none act has =
    let (content, with_ref, bytes, written) = behind-key lane key text rest act low keyed has in
    uncut 32 rest (content_text content) (flag_text with_ref) none written

pub publish-no_content : (lane key : ℕ) (text rest a b : List ℕ) → IsU32 lane → IsLed 18446744073709551615 key text rest → IsCut 32 rest a b
    → NothingHas IsContent a → NothingHas (HasOperands lane names.Publish) text
publish-no_content lane key text rest a b low keyed (cuts, one) never act has =
    let (content, with_ref, bytes, written) = behind-key lane key text rest act low keyed has in
    let parts = one-cut 32 a b (content_text content) (flag_text with_ref) one (content-Without 32 content (omega arith)) (sym cuts ∙ written) in
    never content (bytes, parts.0)

pub publish-no_flag : (lane key : ℕ) (text rest a b : List ℕ) → IsU32 lane → IsLed 18446744073709551615 key text rest → IsCut 32 rest a b
    → NothingHas (λ with_ref digit. digit ≡ flag_text with_ref) b → NothingHas (HasOperands lane names.Publish) text
publish-no_flag lane key text rest a b low keyed (cuts, one) never act has =
    let (content, with_ref, bytes, written) = behind-key lane key text rest act low keyed has in
    let parts = one-cut 32 a b (content_text content) (flag_text with_ref) one (content-Without 32 content (omega arith)) (sym cuts ∙ written) in
    never with_ref parts.1

-- the operands of the other acts

pub get-unkeyed : (lane : ℕ) (text : List ℕ) → IsU32 lane → IsNotLed 18446744073709551615 text → NothingHas (HasOperands lane names.Get) text
get-unkeyed lane text low never act has =
    let (key, reply, is, small, bytes, written) = has-operands lane names.Get act text low has in never key (reply_text reply) small written

pub get-no_reply : (lane key : ℕ) (text rest : List ℕ) → IsU32 lane → IsLed 18446744073709551615 key text rest → NothingHas IsReply rest
    → NothingHas (HasOperands lane names.Get) text
get-no_reply lane key text rest low (small, keyed) never act has =
    let (k, reply, is, few, bytes, written) = has-operands lane names.Get act text low has in
    never reply (bytes, (one-key key k rest (reply_text reply) small few (sym keyed ∙ written)).1)

pub clear-unkeyed : (lane : ℕ) (text : List ℕ) → IsU32 lane → IsNotLed 18446744073709551615 text → NothingHas (HasOperands lane names.Clear) text
clear-unkeyed lane text low never act has =
    let (key, reply, is, small, written) = has-operands lane names.Clear act text low has in never key (truth_text reply) small written

pub clear-no_reply : (lane key : ℕ) (text rest : List ℕ) → IsU32 lane → IsLed 18446744073709551615 key text rest
    → NothingHas (λ reply word. word ≡ truth_text reply) rest → NothingHas (HasOperands lane names.Clear) text
clear-no_reply lane key text rest low (small, keyed) never act has =
    let (k, reply, is, few, written) = has-operands lane names.Clear act text low has in
    never reply (one-key key k rest (truth_text reply) small few (sym keyed ∙ written)).1

pub release-unkeyed : (lane : ℕ) (text : List ℕ) → IsU32 lane → IsNoNumber 18446744073709551615 text
    → NothingHas (HasOperands lane names.Release) text
release-unkeyed lane text low never act has =
    let (key, is, small, written) = has-operands lane names.Release act text low has in never key small written

pub reclaim-unkeyed : (lane : ℕ) (text : List ℕ) → IsU32 lane → IsNoNumber 18446744073709551615 text
    → NothingHas (HasOperands lane names.Reclaim) text
reclaim-unkeyed lane text low never act has =
    let (key, is, small, written) = has-operands lane names.Reclaim act text low has in never key small written

pub home-unplaced : (lane : ℕ) (text : List ℕ) → IsU32 lane → IsNoNumber GREATEST_PLACE text → NothingHas (HasOperands lane names.Home) text
home-unplaced lane text low never act has =
    let (place, is, small, written) = has-operands lane names.Home act text low has in never place small written

pub collect-unplaced : (lane : ℕ) (text : List ℕ) → IsU32 lane → NothingHas ArePlaces text → NothingHas (HasOperands lane names.Collect) text
collect-unplaced lane text low never act has =
    let (places, is, are) = has-operands lane names.Collect act text low has in never places are

-- the line

pub act-unlaned : (line : List ℕ) → IsNotLed 4294967295 line → NothingHas IsAct line
act-unlaned line never act (has, is) = never (lane_of act) (named act) (lane-low act has) (is ∙ act_line-parts act)

behind-lane : (lane : ℕ) (line rest : List ℕ) (act : Act) → IsLed 4294967295 lane line rest → IsAct act line → rest ≡ named act
behind-lane lane line rest act (low, laned) (has, is) =
    (one-u32 lane (lane_of act) rest (named act) low (lane-low act has) (sym laned ∙ (is ∙ act_line-parts act))).1

pub act-uncut : (lane : ℕ) (line rest : List ℕ) → IsLed 4294967295 lane line rest → Without 32 rest → NothingHas IsAct line
act-uncut lane line rest laned none act is = uncut 32 rest (name_text (name_at act)) (operands act) none (behind-lane lane line rest act laned is)

pub act-unnamed : (lane : ℕ) (line rest a b : List ℕ) → IsLed 4294967295 lane line rest → IsCut 32 rest a b
    → NothingHas (λ name word. word ≡ name_text name) a → NothingHas IsAct line
act-unnamed lane line rest a b laned (cuts, one) never act is =
    never (name_at act)
    (one-cut 32 a b (name_text (name_at act)) (operands act) one (name-Without (name_at act)) (sym cuts ∙ behind-lane lane line rest act laned is)).0
