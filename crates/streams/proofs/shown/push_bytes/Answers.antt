use Rattle.std.proofs.Common.{◌∙◌, ◌++◌, ℕ, List, get_or, take, sym, ap, string_bytes}
use Rattle.std.proofs.lemmas.List.{take_more, flat_map_more}
use Rattle.streams.specs.Shown.{byte_text, bytes_text}
use Rattle.streams.proofs.shown.push_bytes.Goals as goal

pub loop-byte-preserved : goal.loop-byte-preserved
loop-byte-preserved c =
    let at = c.loop-byte in
    let before = take at.byte-index c.args.bytes.now in
    let byte = get_or c.args.bytes.now at.byte-index 0 in
    c.in_ok-push_byte.ensures
    ∙ ap (λ (text : List ℕ). text ++ byte_text byte) at.invariant
    ∙ flat_map_more byte_text (string_bytes c.args.text.now) before byte
    ∙ ap (λ (bytes : List ℕ). string_bytes c.args.text.now ++ bytes_text bytes) (sym (take_more c.args.bytes.now at.byte-index 0 c.loop-byte-test.true))
