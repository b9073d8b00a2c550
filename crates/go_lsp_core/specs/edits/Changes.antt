-- Changes of a text, one after another.
use Rattle.std.specs.Prelude.{ℕ, List}
use Rattle.std.specs.List.{fold}
use Rattle.go_lsp_core.specs.positions.Edits.{applied}
use Rattle.go_lsp_core.specs.declared.positions.place.Encoding.{Encoding}
use Rattle.go_lsp_core.specs.declared.edits.changes.Change.{Change}

-- the text after a change
abbrev pub changed_once : Encoding → List ℕ → Change → List ℕ
changed_once encoding text c = applied encoding text c.range c.new.now

-- and after several, each in the text that those before it made
abbrev pub changed : Encoding → List ℕ → List Change → List ℕ
changed encoding text cs = fold (changed_once encoding) text cs
