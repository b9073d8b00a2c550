-- The object of a package by tables.
use Rattle.std.specs.Prelude.{List}
use Rattle.go_declared_core.specs.handle_core.Declarations.{Declaration}
use Rattle.go_package_core.specs.package_part.Parts.{PartModel}
use Rattle.go_object_core.specs.Objects.{ObjectOf}
use Rattle.go_emit_core.specs.declared.meaning.tables.Tables.{Tables}
use Rattle.go_emit_core.specs.meaning.mirrors.Naming.{scene_with}
use Rattle.go_emit_core.specs.Emitted.{object_in}
use Rattle.go_package_core.specs.package_part.Slots.{if_there}

-- of a package, if it has one
abbrev pub objects_with : Tables → PartModel → List (ObjectOf Declaration)
objects_with t p = if_there (object_in (scene_with t p.input p.content) p.input p.content)
