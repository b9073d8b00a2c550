-- The fields of struct types, as a place sees them.
--
-- docs/RULES.md, "Members and selectors", "Composite literals". The Go specification, "Struct types", "Exported identifiers", "Uniqueness of
-- identifiers".
use Rattle.std.specs.Prelude.{ℕ, Bool, ◌||◌, List, [], ◌∷◌, if◌then◌else◌}
use Rattle.std.specs.Str.{bytes_eq, chars}
use Rattle.go_collections_core.specs.text_core.Text.{exported}
use Rattle.go_term_core.specs.declared.term.MemberPlace.{MemberPlace}
use Rattle.go_term_core.specs.Terms.{Term, NoType, Predeclared, ErrorType, Defined, PointerTo, StructOf, InterfaceOf, Fields, NoField, AField}
use Rattle.go_table_core.specs.Entries.{find_entry, has_method}
use Rattle.go_select_core.specs.embed_core.Owners.{OwnerModel, owner_in}
use Rattle.go_declared_core.specs.handle_core.DecidingRules.{typed}
use Rattle.go_expr_core.specs.denote_core.declared.composite.things.LiteralField.{LiteralField}
use Rattle.go_expr_core.specs.denote_core.CompositeLook.{FieldOf, LiteralRules}
use Rattle.go_declared_core.specs.handle_core.Declarations.{Declaration, InFile}
use Rattle.go_env_core.specs.Scenes.{SceneModel}

abbrev pub TheField : Type 0
TheField = FieldOf Term Declaration

-- a field of a struct type that is written in the package `home` may be named or given a value at a place if it is exported or the place is in
-- that package; `_` is not exported
abbrev pub is_visible : SceneModel → List ℕ → List ℕ → Bool
is_visible s home name = exported (chars name) || bytes_eq home s.path

-- what is known of it: its declaration, its type where it is one, whether it is visible
abbrev pub field_known : SceneModel → List ℕ → List ℕ → MemberPlace → Term → LiteralField Term Declaration
field_known s home name place t = record { decl = InFile home place; field_type = typed (find_entry s.types) t; is_visible = is_visible s home name }

abbrev pub field_seen : SceneModel → List ℕ → List ℕ → MemberPlace → Term → TheField
field_seen s home name place t = record { name = name; known = field_known s home name place t }

-- the fields in order, blank ones included, without those that a method of the type keeps from it
abbrev pub fields_seen : SceneModel → OwnerModel → List ℕ → Fields → List TheField
fields_seen s o home NoField = []
fields_seen s o home (AField name place embedded t tag fs) =
    if has_method o.path o.methods name home then fields_seen s o home fs else field_seen s home name place t ∷ fields_seen s o home fs

-- those of an underlying type: none of what is no struct type
abbrev pub term_seen : SceneModel → OwnerModel → Term → List TheField
term_seen s o NoType = []
term_seen s o (Predeclared b) = []
term_seen s o ErrorType = []
term_seen s o (Defined k) = []
term_seen s o (PointerTo t) = []
term_seen s o (StructOf home fs) = fields_seen s o home fs
term_seen s o (InterfaceOf path ms) = []

abbrev pub owner_seen : SceneModel → OwnerModel → List TheField
owner_seen s o = term_seen s o o.underlying

abbrev pub literals_in : SceneModel → LiteralRules Term Declaration
literals_in s = record { fields = λ t. owner_seen s (owner_in (find_entry s.types) t) }
