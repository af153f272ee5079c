-- The lines that explain a fault can be printed, and are short.
use Rattle.std.proofs.Common.{◌≡◌, ℕ, ◌+◌, ◌-◌, ◌≤◌, List, ◌++◌, length, decimal, codes, refl, arith}
use Rattle.std.proofs.lemmas.Bool.{leb-true}
use Rattle.std.proofs.lemmas.List.{length-append}
use Rattle.streams.proofs.SafeLines.{length-cut, length-decimal, printable-bytes}
use Rattle.streams.specs.Lines.{line_at}
use Rattle.streams.specs.Reasons.{reason_text, output_told}
use Rattle.streams.specs.Shown.{cut, IsSafeLine}
use Rattle.streams.specs.declared.reading.Unreadable.{Unreadable}
use Rattle.streams.specs.declared.reading.Unreadable.TheVariants.{Missing, Denied, Folder, NoFolder, Other}
use Rattle.streams.specs.declared.write_failed.Unwritable.{Unwritable}
use Rattle.streams.specs.declared.write_failed.Unwritable.TheVariants as unwritable
use Rattle.poolview.specs.Faults.{wrong_line_told, wrong_file_told, wrong_line_text, wrong_file_text, output_text}

four : (a b c d : List ℕ) → length (a ++ b ++ c ++ d) ≡ length a + length b + length c + length d
four a b c d = omega (arith, length-append (a ++ b ++ c) d, length-append (a ++ b) c, length-append a b)

reason-short : (why : Unreadable) → length (reason_text why) ≤ 200
reason-short Missing = leb-true (length (reason_text Missing)) 200 refl
reason-short Denied = leb-true (length (reason_text Denied)) 200 refl
reason-short Folder = leb-true (length (reason_text Folder)) 200 refl
reason-short NoFolder = leb-true (length (reason_text NoFolder)) 200 refl
reason-short Other = leb-true (length (reason_text Other)) 200 refl

line-short : (front back line : List ℕ) (number : ℕ) → length front ≤ 20 → length back ≤ 200 → length (front ++ decimal number ++ codes ": \"" ++ cut line ++ back) ≤ 2000
line-short front back line number short_front short_back =
    omega (
      arith,
      length-append (front ++ decimal number ++ codes ": \"" ++ cut line) back,
      four front (decimal number) (codes ": \"") (cut line),
      leb-true (length (codes ": \"")) 20 refl,
      length-decimal number,
      length-cut line,
    )

-- the line that tells what is said of a line of a trace
pub safe-line : (what : List ℕ) (number : ℕ) (bytes : List ℕ) → length what ≤ 200 → IsSafeLine (wrong_line_text what number bytes)
safe-line what number bytes brief = record {
  told = wrong_line_told what number bytes;
  short = line-short (codes "line ") what (line_at (number - 1) bytes) number (leb-true (length (codes "line ")) 20 refl) brief;
  is = refl;
  printable = printable-bytes (wrong_line_told what number bytes);
}

-- the line that tells why a file isn't read
pub safe-file : (path : List ℕ) (why : Unreadable) → IsSafeLine (wrong_file_text path why)
safe-file path why = record {
  told = wrong_file_told path why;
  short = omega (
    arith,
    four (codes "\"") (cut path) (codes "\" can't be opened, or not read to its end: ") (reason_text why),
    leb-true (length (codes "\"")) 20 refl,
    leb-true (length (codes "\" can't be opened, or not read to its end: ")) 200 refl,
    length-cut path,
    reason-short why,
  );
  is = refl;
  printable = printable-bytes (wrong_file_told path why);
}

output-short : (why : Unwritable) → length (output_told why) ≤ 2000
output-short unwritable.Closed = leb-true (length (output_told unwritable.Closed)) 2000 refl
output-short unwritable.Full = leb-true (length (output_told unwritable.Full)) 2000 refl
output-short unwritable.Long = leb-true (length (output_told unwritable.Long)) 2000 refl
output-short unwritable.Denied = leb-true (length (output_told unwritable.Denied)) 2000 refl
output-short unwritable.Other = leb-true (length (output_told unwritable.Other)) 2000 refl

-- the line that tells why the output can't be written
pub safe-output : (why : Unwritable) → IsSafeLine (output_text why)
safe-output why = record { told = output_told why; short = output-short why; is = refl; printable = printable-bytes (output_told why) }
