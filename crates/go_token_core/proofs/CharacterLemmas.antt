-- How many bytes characters take.
use Rattle.std.proofs.Common.{◌≡◌, ℕ, ◌+◌, List, [], ◌∷◌, length, refl, ap, ◌∙◌, arith}
use Rattle.std.specs.Prelude.{encode_utf8, encode_utf8_all}
use Rattle.std.specs.Char.{len_utf8}
use Rattle.std.specs.List.{sum_by}
use Rattle.std.specs.Str.{chars, IsUtf8}
use Rattle.std.proofs.lemmas.List.{length-append}
use Rattle.std.proofs.lemmas.List.Sums.{sum_by-cons}
use Rattle.std.proofs.lemmas.Str.{length-encode, encodes-chars}

pub width-cons : (c : ℕ) (cs : List ℕ) → sum_by len_utf8 (c ∷ cs) ≡ len_utf8 c + sum_by len_utf8 cs
width-cons c cs = sum_by-cons len_utf8 c cs

pub width-encodes : (cs : List ℕ) → sum_by len_utf8 cs ≡ length (encode_utf8_all cs)
width-encodes [] = refl
width-encodes (c ∷ cs) = width-cons c cs ∙ (omega (arith, width-encodes cs, length-encode c, length-append (encode_utf8 c) (encode_utf8_all cs)))

-- the characters of a text are as wide as the text
pub width-chars : (bs : List ℕ) → IsUtf8 bs → sum_by len_utf8 (chars bs) ≡ length bs
width-chars bs u = width-encodes (chars bs) ∙ ap length (encodes-chars bs u)
