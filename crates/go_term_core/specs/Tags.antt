-- What the tags of fields stand for.
use Rattle.std.specs.Prelude.{ℕ, List, [], Option, Some, None, Vec, Box}
use Rattle.std.specs.Global.{Global}

abbrev pub tag_bytes : Option (Box (Vec ℕ Global) Global) → List ℕ
tag_bytes None = []
tag_bytes (Some b) = b.value.items
