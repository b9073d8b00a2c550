-- How wide ASCII characters are.
use Rattle.std.proofs.Common.{◌≡◌, ℕ, true, List, [], ◌∷◌, length, refl, arith}
use Rattle.std.specs.Char.{is_ascii, len_utf8}
use Rattle.std.specs.List.{list_all, sum_by}
use Rattle.std.proofs.lemmas.List.Sums.{sum_by-cons}
use Rattle.go_scan_core.proofs.FrontLemmas.{and_true}

one_byte : (c : ℕ) → is_ascii c ≡ true → len_utf8 c ≡ 1
one_byte c h = rw h refl

-- ASCII characters are as wide as they are many
pub ascii_width : (cs : List ℕ) → list_all is_ascii cs ≡ true → length cs ≡ sum_by len_utf8 cs
ascii_width [] h = refl
ascii_width (c ∷ cs) h =
    let both = and_true (is_ascii c) (list_all is_ascii cs) h in
    omega (arith, sum_by-cons len_utf8 c cs, one_byte c both.0, ascii_width cs both.1)
