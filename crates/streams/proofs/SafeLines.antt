-- What is shown can be printed.
use Rattle.std.proofs.Common.{◌≡◌, ℕ, ◌+◌, ◌≤◌, ◌<◌, ◌/◌, ◌%◌, ◌==◌, ◌&&◌, ◌++◌, List, [], ◌∷◌, All, Bool, true, false, zero, suc, length, take, nat_le, nat_lt, decimal, codes, refl, ap, append_assoc, Option, ◌∙◌, sym, arith, inl, inr, if◌then◌else◌}
use Rattle.std.specs.Fmt.{digit_glyph, digits, digits_onto}
use Rattle.std.proofs.lemmas.List.Elements.{All-append, All-cons, All-head, All-nil, All-same, All-tail}
use Rattle.std.proofs.lemmas.List.Concat.{flat_map-cons}
use Rattle.std.proofs.lemmas.Bool.{leb-true}
use Rattle.std.proofs.lemmas.Grind.{flat_map-append}
use Rattle.std.proofs.lemmas.List.{length-append}
use Rattle.streams.proofs.Sayings.{says_more}
use Rattle.streams.specs.Saying.{Says}
use Rattle.streams.specs.declared.writer.Watched.{Watched}
use Rattle.streams.specs.Shown.{byte_text, bytes_text, cut, in_lines, line_text, lines_text, IsPrintable, IsPrintableOrEnd, IsSafeLine}

glyph_if : (d : ℕ) (is : Bool) → d < 10 → IsPrintable (if is then 48 + d else 87 + d)
glyph_if d true small = (omega arith, omega arith)
glyph_if d false small = (omega arith, omega arith)

glyph : (d : ℕ) → d < 10 → IsPrintable (digit_glyph false d)
glyph d small = glyph_if d (nat_lt d 10) small

last_digit : (n : ℕ) → n % 10 < 10
last_digit n = omega arith

all_digits : (k n : ℕ) (more : List ℕ) → All IsPrintable more → All IsPrintable (digits_onto k 10 false n more)
all_digits zero n more all = all
all_digits (suc k) n more all =
    let longer = All-cons IsPrintable (digit_glyph false (n % 10)) more (glyph (n % 10) (last_digit n)) all in
    elim (n / 10 == 0) as (λ done. All IsPrintable (if done then digit_glyph false (n % 10) ∷ more else digits_onto k 10 false (n / 10) (digit_glyph false (n % 10) ∷ more)))
    [ true ↦ longer | false ↦ all_digits k (n / 10) (digit_glyph false (n % 10) ∷ more) longer ]

-- the digits of a number can be printed
pub printable-decimal : (n : ℕ) → All IsPrintable (decimal n)
unfolding digits
printable-decimal n = all_digits 64 n [] (All-nil IsPrintable)

sign : (byte : ℕ) → 32 ≤ byte → byte ≤ 126 → All IsPrintable (byte ∷ [])
sign byte low high = All-cons IsPrintable byte [] (low, high) (All-nil IsPrintable)

number : (byte : ℕ) → All IsPrintable (codes "<" ++ decimal byte ++ codes ">")
number byte =
    All-append IsPrintable (codes "<" ++ decimal byte) (codes ">")
    (All-append IsPrintable (codes "<") (decimal byte) (sign 60 (omega arith) (omega arith)) (printable-decimal byte)) (sign 62 (omega arith) (omega arith))

told_if : (byte : ℕ) (low high : Bool) → nat_le 32 byte ≡ low → nat_le byte 126 ≡ high → All IsPrintable (if low && high then byte ∷ [] else codes "<" ++ decimal byte ++ codes ">")
told_if byte true true l h = sign byte (leb-true 32 byte l) (leb-true byte 126 h)
told_if byte true false l h = number byte
told_if byte false true l h = number byte
told_if byte false false l h = number byte

told_byte : (byte : ℕ) → All IsPrintable (byte_text byte)
told_byte byte = told_if byte (nat_le 32 byte) (nat_le byte 126) refl refl

-- what is shown of some bytes can be printed
pub printable-bytes : (bytes : List ℕ) → All IsPrintable (bytes_text bytes)
printable-bytes [] = All-nil IsPrintable
printable-bytes (byte ∷ more) =
    All-same IsPrintable _ _ (flat_map-cons byte_text byte more)
    (All-append IsPrintable (byte_text byte) (bytes_text more) (told_byte byte) (printable-bytes more))

end_or : (bytes : List ℕ) → All IsPrintable bytes → All IsPrintableOrEnd bytes
end_or [] all = All-nil IsPrintableOrEnd
end_or (byte ∷ more) all = All-cons IsPrintableOrEnd byte more (inl (All-head IsPrintable byte more all)) (end_or more (All-tail IsPrintable byte more all))

line_byte : (byte : ℕ) (is : Bool) → (byte == 10) ≡ is → All IsPrintableOrEnd (if is then 10 ∷ [] else byte_text byte)
line_byte byte true is = All-cons IsPrintableOrEnd 10 [] (inr refl) (All-nil IsPrintableOrEnd)
line_byte byte false is = end_or (byte_text byte) (told_byte byte)

-- what is shown of a text of several lines can be printed, but for the ends of lines
pub printable-lines : (text : List ℕ) → All IsPrintableOrEnd (lines_text text)
printable-lines [] = All-nil IsPrintableOrEnd
printable-lines (byte ∷ more) =
    All-same IsPrintableOrEnd _ _ (flat_map-cons in_lines byte more)
    (All-append IsPrintableOrEnd (in_lines byte) (lines_text more) (line_byte byte (byte == 10) refl) (printable-lines more))

short : (most : ℕ) (text : List ℕ) → length (take most text) ≤ most
short zero text = omega arith
short (suc most) [] = omega arith
short (suc most) (byte ∷ more) = omega (arith, short most more)

-- a line that shows a text is safe
pub safe-line : (text : List ℕ) → IsSafeLine (line_text text)
safe-line text = record { told = take 2000 text; short = short 2000 text; is = refl; printable = printable-bytes (take 2000 text) }

shown_two : (first second : List ℕ) → bytes_text (first ++ second) ≡ bytes_text first ++ bytes_text second
shown_two first second = flat_map-append byte_text first second

-- of many bytes the first are shown
pub cut-long : (bytes : List ℕ) → nat_le (length bytes) 80 ≡ false → cut bytes ≡ take 60 bytes ++ codes ".."
cut-long bytes long = ap (λ (whole : Bool). if whole then bytes else take 60 bytes ++ codes "..") long

-- a text was appended that shows some bytes, and behind it one that shows others
pub shows-more : (old : List ℕ) (first second bytes : List ℕ) → bytes ≡ first ++ second → (old ++ bytes_text first) ++ bytes_text second ≡ old ++ bytes_text bytes
shows-more old first second bytes is =
    append_assoc old (bytes_text first) (bytes_text second) ∙ ap (λ (shown : List ℕ). old ++ shown) (sym (shown_two first second))
    ∙ ap (λ (all : List ℕ). old ++ bytes_text all) (sym is)

-- the same of what is said
pub says_shown : {W : Type 0} (contents : W → Option (List ℕ)) (old mid new : Watched W) (first second bytes : List ℕ)
    → Says contents old mid (bytes_text first) → Says contents mid new (bytes_text second) → bytes ≡ first ++ second → Says contents old new (bytes_text bytes)
says_shown contents old mid new first second bytes one two is =
    says_more contents old mid new (bytes_text first) (bytes_text second) (bytes_text bytes) one two (ap bytes_text is ∙ shown_two first second)

-- the digits of a number are at most 64
short_digits : (k n : ℕ) (more : List ℕ) → length (digits_onto k 10 false n more) ≤ k + length more
short_digits zero n more = omega arith
short_digits (suc k) n more =
    elim (n / 10 == 0) as (λ done. length (if done then digit_glyph false (n % 10) ∷ more else digits_onto k 10 false (n / 10) (digit_glyph false (n % 10) ∷ more)) ≤ suc k + length more)
    [ true ↦ omega arith | false ↦ omega (arith, short_digits k (n / 10) (digit_glyph false (n % 10) ∷ more)) ]

pub length-decimal : (n : ℕ) → length (decimal n) ≤ 64
unfolding digits
length-decimal n = omega (arith, short_digits 64 n [])

cut_if : (bytes : List ℕ) (whole : Bool) → nat_le (length bytes) 80 ≡ whole → length (if whole then bytes else take 60 bytes ++ codes "..") ≤ 80
cut_if bytes true is = leb-true (length bytes) 80 is
cut_if bytes false is = omega (arith, short 60 bytes, length-append (take 60 bytes) (codes ".."))

-- some bytes that are cut are few
pub length-cut : (bytes : List ℕ) → length (cut bytes) ≤ 80
length-cut bytes = cut_if bytes (nat_le (length bytes) 80) refl
