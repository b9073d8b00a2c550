-- How a name is kept.
use Rattle.std.specs.Prelude.{◌≡◌, ℕ, ◌≤◌, true, List, take, string_bytes, ⊤}
use Rattle.std.specs.Str.{is_utf8}
use Rattle.go_text_core.specs.declared.name.TheConstants.{SHORT}
use Rattle.go_text_core.specs.declared.name.Form.{Form}
use Rattle.go_text_core.specs.declared.name.Form.TheVariants.{Short, Long}

-- the greatest number of bytes of a name that takes no memory of its own
abbrev pub most_without_memory : ℕ
most_without_memory = 14

-- the bytes of a name
abbrev pub bytes_of : Form → List ℕ
bytes_of (Short len bytes) = take len bytes
bytes_of (Long text) = string_bytes text.value

-- the bytes that are counted are all there, and a text
abbrev pub HoldsText : Form → Type 0
HoldsText (Short len bytes) = (len ≤ SHORT) × (is_utf8 (take len bytes) ≡ true)
HoldsText (Long text) = ⊤
