use Rattle.std.proofs.Common.{◌≡◌, ◌∙◌, ◌++◌, ℕ, List, take, codes, false, nat_le, length, string_bytes, ap}
use Rattle.std.proofs.lemmas.Bool.{lt-leb}
use Rattle.streams.specs.Shown.{bytes_text, cut}
use Rattle.streams.proofs.SafeLines.{cut-long, shows-more}
use Rattle.streams.proofs.shown.push_cut.Goals as goal

pub returns : goal.returns
returns c =
    let bytes = c.args.bytes.now in
    let old = string_bytes c.args.text.now in
    let long : nat_le (length bytes) 80 ≡ false = lt-leb (length bytes) 80 c.if-bytes-le-WHOLE.false in
    c.in_ok-push_bytes-2.ensures
    ∙ ap (λ (text : List ℕ). text ++ bytes_text (codes "..")) (c.in_ok-push_bytes.ensures ∙ ap (λ (front : List ℕ). old ++ bytes_text front) c.front.ensures)
    ∙ shows-more old (take 60 bytes) (codes "..") (cut bytes) (cut-long bytes long)
