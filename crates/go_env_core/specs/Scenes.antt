-- What is known of a package where its expressions are judged.
use Rattle.std.specs.Prelude.{ℕ, List}
use Rattle.go_declared_core.specs.block_core.Blocks.{BlocksModel}
use Rattle.go_table_core.specs.Entries.{Entry}
use Rattle.go_declared_core.specs.Packages.{PackageFacesModel}
use Rattle.go_declared_core.specs.Written.{WrittenOf}
use Rattle.go_env_core.specs.declared.scene.Scene.{Scene}

pub record SceneModel : Type 0 where
  -- the package's path
  pub path : List ℕ
  -- what its package block and its file blocks bind
  pub blocks : BlocksModel
  -- the types of the package and of those that it reaches
  pub types : List Entry
  -- what the packages show that it imports
  pub others : List PackageFacesModel
  -- its own declarations outside functions, as far as they are written
  pub written : List WrittenOf

abbrev pub scene_shown : Scene → SceneModel
scene_shown s = record { path = s.home.now; blocks = s.blocks.now; types = s.types.now; others = s.others.now; written = s.written.now }
