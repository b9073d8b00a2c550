-- Texts as they are stored.
use Rattle.std.specs.Prelude.{◌≡◌, ℕ, List, [], ◌++◌, length}
use Rattle.std.specs.List.{concat}
use Rattle.std.specs.Arc.{arc_value}
use Rattle.go_constant_core.specs.declared.texts.Form.{Form}
use Rattle.go_constant_core.specs.declared.texts.Form.TheVariants.{Whole, Parts}
use Rattle.go_constant_core.specs.declared.left.Left.{Left}

-- the bytes of a text
abbrev pub text_of : Form → List ℕ
text_of (Whole piece) = piece
text_of (Parts parts) = arc_value parts

-- what is left of a text: behind the bytes in front, and all
abbrev pub pieces_left : Left → List ℕ
pieces_left l = concat l.pieces.now ++ concat l.blocks.now

abbrev pub bytes_left : Left → List ℕ
bytes_left l = l.bytes.now ++ pieces_left l

-- some of what is left stand in front, unless nothing is left
abbrev pub IsFilled : Left → Type 0
IsFilled l = length l.bytes.now ≡ 0 → bytes_left l ≡ []
