-- What is held of declarations, as contracts see it.
use Rattle.std.specs.Prelude.{Option, Some, None}
use Rattle.std.specs.Option.{option_map}
use Rattle.go_term_core.specs.Shapes.{shape, sign_of}
use Rattle.go_declared_core.specs.declared.face.Face.TheVariants as faces
use Rattle.go_declared_core.specs.declared.shown.DeclaredFace.{DeclaredFace}
use Rattle.go_declared_core.specs.declared.written.WrittenDecl.{WrittenDecl}
use Rattle.go_declared_core.specs.declared.written.WrittenForm.{WrittenForm}
use Rattle.go_declared_core.specs.declared.written.WrittenForm.TheVariants as forms
use Rattle.go_declared_core.specs.Faces.{TheFace, face_shown, variable_face}
use Rattle.go_declared_core.specs.Packages.{DeclaredOf}
use Rattle.go_declared_core.specs.Written.{WrittenOf}

-- what a declaration is as it is written
abbrev pub form_held : WrittenForm → Option TheFace
form_held (forms.«Type» t) = Some (faces.«Type» (option_map shape t))
form_held (forms.Func g) = Some (faces.Func (sign_of g))
form_held (forms.Variable t) = Some (variable_face (option_map shape t))
form_held forms.Unwritten = None

abbrev pub written_shown : WrittenDecl → WrittenOf
written_shown w = record { decl = w.decl; face = form_held w.form }

abbrev pub declared_shown : DeclaredFace → DeclaredOf
declared_shown d = record { decl = d.decl; face = face_shown d.face }
