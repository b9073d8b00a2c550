-- Edits of a text.
use Rattle.std.specs.Prelude.{ℕ, List, ◌++◌, Option, None, Some, take, drop, min, max}
use Rattle.go_lsp_core.specs.declared.positions.place.Encoding.{Encoding}
use Rattle.go_lsp_core.specs.declared.positions.place.Position.{Position}
use Rattle.go_lsp_core.specs.declared.positions.place.Range.{Range}
use Rattle.go_lsp_core.specs.positions.Positions.{offset_at, units}

-- the offset of a position
abbrev pub offset : Encoding → List ℕ → Position → ℕ
offset encoding text p = offset_at (units encoding) text p.line p.character

-- the text with new in the place of a range, or in the place of all of it where there is none. Of a range whose end stands before its start the two are
-- exchanged
abbrev pub applied : Encoding → List ℕ → Option Range → List ℕ → List ℕ
applied encoding text None new = new
applied encoding text (Some range) new =
    let a = offset encoding text range.start in
    let b = offset encoding text range.end in
    take (min a b) text ++ (new ++ drop (max a b) text)
