-- Two stands in one file of a package that agree on what is near.
use Rattle.std.specs.Prelude.{◌≡◌, ℕ, List, Option}
use Rattle.go_tree_nodes.specs.declared.types.TypeName.{TypeName}
use Rattle.go_body_core.specs.table_core.Entries.{Entry}
use Rattle.go_report_core.specs.handle_core.Declarations.{Declaration}
use Rattle.go_body_core.specs.typexpr_core.WrittenWritten as types
use Rattle.go_body_core.specs.typexpr_core.WrittenWritten.{InFile}
use Rattle.go_names_core.specs.declared.meaning.Outside.{Outside}
use Rattle.go_emit_core.specs.declared_core.Faces.{TheFace}
use Rattle.go_body_core.specs.env_core.Scenes.{SceneModel}
use Rattle.go_body_core.specs.env_core.Found.{found_outside, found_exported}
use Rattle.go_body_core.specs.Rules.{outside_in}
use Rattle.go_body_core.specs.function.Stands.{FileStand}
use Rattle.go_snap_core.specs.near.Near.{NearFound, NearExported}
use Rattle.go_snap_core.specs.near.Tables.{Nearby, IsNear, IsNearPackage, near_rest}
use Rattle.go_snap_core.specs.near.Scenes.{ScenesAgree}

abbrev pub stand : InFile → SceneModel → List (Option TheFace) → types.Meaning → FileStand
stand file s known top = record { scene = s; known = known; file = file; top = top }

-- a scene with another table of types
abbrev pub with_types : SceneModel → List Entry → SceneModel
with_types s es = record { path = s.path; blocks = s.blocks; types = es; others = s.others; written = s.written }

-- in a file, what near packages show is near, what names stand for outside functions, and what names of types mean
pub record IsStandNear (near : Nearby) (file : InFile) (s : SceneModel) (known : List (Option TheFace)) (top : types.Meaning) : Type 0 where
  pub exported : (d : Declaration) (name : List ℕ) → IsNearPackage near d → NearExported (IsNear near) (near_rest near) (found_exported s d name)
  pub outside : (name : List ℕ) (o : Outside) → NearFound (IsNear near) (near_rest near) (found_outside s file.file known name o)
  pub meanings : (n : TypeName) → IsNear near (top n)

-- in a file, the scenes have the same of what is near; names mean the same outside functions, and stand there for the same near things; names of types
-- mean the same near types
pub record StandsAgree (near : Nearby) (file : InFile) (s t : SceneModel) (known others : List (Option TheFace)) (top other : types.Meaning) : Type 0 where
  pub scenes : ScenesAgree near s t
  pub names : (name : List ℕ) → outside_in s file.file name ≡ outside_in t file.file name
  pub outside : (name : List ℕ) (o : Outside) → found_outside s file.file known name o ≡ found_outside t file.file others name o
  pub outside_near : (name : List ℕ) (o : Outside) → NearFound (IsNear near) (near_rest near) (found_outside s file.file known name o)
  pub meanings : (n : TypeName) → top n ≡ other n
  pub meanings_near : (n : TypeName) → IsNear near (top n)
