-- Where a piece of a package is checked, and all that it is judged by there, by what names mean where they stand.
--
-- docs/RULES.md, "Types inside functions", "Bodies of functions". The Go specification, "Declarations and scope", "Types".
use Rattle.std.specs.Prelude.{ℕ, List, Option, Some}
use Rattle.go_decl_core.specs.declared.keys.DeclKey.{DeclKey}
use Rattle.go_term_core.specs.Terms.{Term}
use Rattle.go_term_core.specs.declared.settling.kind.Kind.{Kind}
use Rattle.go_term_core.specs.settling.Settled.{kind_of_term}
use Rattle.go_table_core.specs.Entries.{find_entry, term_in}
use Rattle.go_typexpr_core.specs.written.Written as types
use Rattle.go_typexpr_core.specs.written.Written.{InFile}
use Rattle.go_local_core.specs.Binding.{NameLook}
use Rattle.go_expr_core.specs.Looks.{WrittenRules}
use Rattle.go_inline_core.specs.Inline.{inline_of}
use Rattle.go_declared_core.specs.Faces.{TheFace}
use Rattle.go_env_core.specs.declared.meaning.Meaning.{Meaning}
use Rattle.go_env_core.specs.Scenes.{SceneModel}
use Rattle.go_env_core.specs.Looks.{TheLooks, looks_in, inline_type, inline_faults}
use Rattle.go_body_core.specs.Rules.{outside_in}
use Rattle.go_body_core.specs.function.Types.{named_where}

-- where a piece of a package is checked
pub record FileStand : Type 0 where
  -- what is known of the package
  pub scene : SceneModel
  -- what its own declarations are, by their places in `scene.written`
  pub known : List (Option TheFace)
  -- its file: the package's path, its number among the package's files in order of name, from 0, and the identifiers that it declares outside
  -- function bodies
  pub file : InFile
  -- what names of types mean at the top of the file
  pub top : types.Meaning

-- what is known of declared types
abbrev pub kinds_in_scene : SceneModel → DeclKey → Kind
kinds_in_scene s k = kind_of_term (term_in (find_entry s.types k))

-- each type that is written is what its names mean where they stand
abbrev pub types_where : FileStand → NameLook Meaning → WrittenRules Term
types_where st look = record {
  type_of = λ named t. inline_type st.scene.types (Some (inline_of (kinds_in_scene st.scene) st.file (named_where look st.top) t));
  faults_of = λ named t. inline_faults (Some (inline_of (kinds_in_scene st.scene) st.file (named_where look st.top) t));
}

-- all that a piece is judged by where names mean this
abbrev pub looks_where : FileStand → NameLook Meaning → TheLooks
looks_where st look = looks_in st.scene st.file.file st.known (types_where st look) look

-- what names mean outside the functions of the file
abbrev pub outer_meanings : FileStand → List ℕ → Option Meaning
outer_meanings st = outside_in st.scene st.file.file

abbrev pub outer_look : FileStand → NameLook Meaning
outer_look st name place = outer_meanings st name

abbrev pub outer_looks : FileStand → TheLooks
outer_looks st = looks_where st (outer_look st)
