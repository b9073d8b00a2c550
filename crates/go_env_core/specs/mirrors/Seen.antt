-- The fields of struct types, as the code has them.
use Rattle.std.specs.Prelude.{ℕ, Bool, true, false, List, [], ◌∷◌, Option, Some, None}
use Rattle.std.specs.Borrow.{Bor}
use Rattle.go_term_core.specs.declared.term.Field.{Field}
use Rattle.go_term_core.specs.Shapes.{Line, fields_in, line_at, line_shapes}
use Rattle.go_table_core.specs.declared.entry.DefinedType.{DefinedType}
use Rattle.go_table_core.specs.Entries.{has_method}
use Rattle.go_select_core.specs.embed_core.Owners.{OwnerModel, nobody}
use Rattle.go_select_core.specs.embed_core.OwnersShown.{entry_owner}
use Rattle.go_env_core.specs.declared.fields.SeenFields.{SeenFields}
use Rattle.go_env_core.specs.Scenes.{SceneModel}
use Rattle.go_env_core.specs.Fields.{TheField, field_seen, fields_seen}

-- the type that has fields, where one of its methods may keep one from it; none keeps any
abbrev pub hider_shown : Option (Bor DefinedType) → OwnerModel
hider_shown None = nobody
hider_shown (Some d) = entry_owner d.now

abbrev pub is_kept : OwnerModel → List ℕ → List ℕ → Bool
is_kept o name home = has_method o.path o.methods name home

-- a field of these lines
abbrev pub listed_field : SceneModel → List ℕ → List Line → Field → TheField
listed_field s home ls f = field_seen s home f.name f.place (line_at ls f.line).term

abbrev pub seen_shown : SceneModel → SeenFields → List TheField
seen_shown s x = fields_seen s (hider_shown x.hider) x.home.now (fields_in (line_shapes x.lines.now) x.fields.now)

abbrev pub some_seen : SceneModel → Option SeenFields → List TheField
some_seen s None = []
some_seen s (Some x) = seen_shown s x

-- a name alone, unless it is kept
abbrev pub name_unless : Bool → List ℕ → List (List ℕ)
name_unless true name = []
name_unless false name = name ∷ []
