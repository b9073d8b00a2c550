-- Two scenes of one package with the same of what is near: the types, what other packages show, what names stand for, and written types.
use Rattle.std.specs.Prelude.{◌≡◌, ℕ, List, Option}
use Rattle.go_tree_nodes.specs.declared.types.TypeName.{TypeName}
use Rattle.go_tree_nodes.specs.Trees.{TypeTree}
use Rattle.go_term_core.specs.Terms.{Term}
use Rattle.go_names_core.specs.local_core.Binding.{NameLook}
use Rattle.go_report_core.specs.expr_core.Looks.{WrittenRules}
use Rattle.go_report_core.specs.handle_core.Declarations.{Declaration}
use Rattle.go_emit_core.specs.declared_core.Faces.{TheFace}
use Rattle.go_body_core.specs.env_core.declared.meaning.Meaning.{Meaning}
use Rattle.go_body_core.specs.env_core.Scenes.{SceneModel}
use Rattle.go_body_core.specs.env_core.Found.{found_of, found_exported}
use Rattle.go_snap_core.specs.near.Near.{IfAny, NearFound, NearExported}
use Rattle.go_snap_core.specs.near.Tables.{Nearby, IsNear, IsNearPackage, near_rest, AgreeOn}

-- two scenes of one package have the same of near types, and near packages show them the same near things
pub record ScenesAgree (near : Nearby) (s t : SceneModel) : Type 0 where
  pub path : s.path ≡ t.path
  pub types : AgreeOn near s.types t.types
  pub exported : (d : Declaration) (name : List ℕ) → IsNearPackage near d → found_exported s d name ≡ found_exported t d name
  pub exported_near : (d : Declaration) (name : List ℕ) → IsNearPackage near d → NearExported (IsNear near) (near_rest near) (found_exported s d name)

-- names stand for the same near things
pub record NamesAgree (near : Nearby) (s t : SceneModel) (file : ℕ) (known others : List (Option TheFace)) (look other : NameLook Meaning) : Type 0 where
  pub same : (name : List ℕ) (offset : ℕ) → found_of s file known name (look name offset) ≡ found_of t file others name (other name offset)
  pub are_near : (name : List ℕ) (offset : ℕ) → NearFound (IsNear near) (near_rest near) (found_of s file known name (look name offset))

-- written types are the same near types, with the same faults
pub record WrittenAgree (near : Nearby) (written other : WrittenRules Term) : Type 0 where
  pub type_of : (named : TypeName → Option Term) (t : TypeTree) → written.type_of named t ≡ other.type_of named t
  pub faults_of : (named : TypeName → Option Term) (t : TypeTree) → written.faults_of named t ≡ other.faults_of named t
  pub are_near : (named : TypeName → Option Term) (t : TypeTree) → IfAny (IsNear near) (written.type_of named t)
