use Rattle.std.proofs.Common.{◌≡◌, ℕ, List, take, codes, false, nat_le, length, subst}
use Rattle.std.proofs.lemmas.Bool.{lt-leb}
use Rattle.streams.specs.Saying.{Says}
use Rattle.streams.specs.Shown.{bytes_text, cut}
use Rattle.streams.proofs.SafeLines.{cut-long, says_shown}
use Rattle.streams.proofs.shown.write_cut.Goals as goal

pub returns : goal.returns
returns g c =
    let bytes = c.args.bytes.now in
    let contents = g.W.Write.contents in
    let one : Says contents c.args.out.now c.write_bytes-2.new.out (bytes_text (take 60 bytes)) =
    subst (λ (b : List ℕ). Says contents c.args.out.now c.write_bytes-2.new.out (bytes_text b)) c.front.ensures c.write_bytes-2.ensures in
    let long : nat_le (length bytes) 80 ≡ false = lt-leb (length bytes) 80 c.if-bytes-le-WHOLE.false in
    says_shown contents c.args.out.now c.write_bytes-2.new.out c.write_bytes-3.new.out (take 60 bytes) (codes "..") (cut bytes) one c.write_bytes-3.ensures (cut-long bytes long)
