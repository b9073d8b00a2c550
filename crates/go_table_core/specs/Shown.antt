-- The entries that values of the program hold.
use Rattle.std.specs.Prelude.{◌≡◌, ◌||◌, ℕ, Bool, false, List, [], map, Vec, Option, Some, None}
use Rattle.std.specs.Borrow.{Bor}
use Rattle.go_term_core.specs.declared.term.FieldLine.{FieldLine}
use Rattle.std.specs.Arc.{arc_value}
use Rattle.go_term_core.specs.Shapes.{Line, line_with, line_shape, shape, sign_of}
use Rattle.go_table_core.specs.declared.entry.DeclaredMethod.{DeclaredMethod}
use Rattle.go_table_core.specs.declared.entry.TypeEntry.{TypeEntry}
use Rattle.std.specs.Global.{Global}
use Rattle.std.specs.declared.sync.Arc.{Arc}
use Rattle.go_term_core.specs.decl_core.declared.keys.DeclKey.{DeclKey}
use Rattle.go_term_core.specs.Terms.{Term, NoType, StructOf, Fields, NoField, AField}
use Rattle.go_table_core.specs.Entries.{Member, Entry, has_method}

abbrev pub member_shown : DeclaredMethod → Member
member_shown m = record { name = m.name; place = m.place; pointer = m.pointer; sign = sign_of m.signature }

abbrev pub entry_shown : TypeEntry → Entry
entry_shown e = record { key = e.key; name = e.name; term = shape e.term; methods = map member_shown e.methods.items }

abbrev pub defined_shown : DeclKey → List ℕ → Arc Term Global → Vec DeclaredMethod Global → Entry
defined_shown k n u ms = record { key = k; name = n; term = arc_value u; methods = map member_shown ms.items }

-- some field of a struct type has the identifier of a method of a type in the package of a path
abbrev pub hides_field : List ℕ → List Member → List ℕ → Fields → Bool
hides_field path ms fields_path NoField = false
hides_field path ms fields_path (AField name place embedded t tag fs) = has_method path ms name fields_path || hides_field path ms fields_path fs

abbrev pub hides_some : List ℕ → List Member → Term → Bool
hides_some path ms (StructOf fields_path fs) = hides_field path ms fields_path fs
hides_some path ms _ = false

-- where a type is marked to hide nothing, none of its methods has the identifier of a field
abbrev pub HidesRightly : Bool → Entry → Type 0
HidesRightly hides e = (hides ≡ false) → hides_some e.key.path e.methods e.term ≡ false

-- the line that a field may have
abbrev pub line_shown : Option (Bor FieldLine) → Line
line_shown None = line_with false NoType []
line_shown (Some l) = line_shape l.now
