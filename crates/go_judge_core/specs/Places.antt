-- The environment of a place: that of its file, with what is known of its package.
use Rattle.std.specs.Prelude.{◌≡◌, ℕ}
use Rattle.go_names_core.specs.block_core.Blocks.{BlocksModel}
use Rattle.go_env_core.specs.declared.here.Here.{Here}
use Rattle.go_env_core.specs.Scenes.{SceneModel, scene_shown}
use Rattle.go_complete_core.specs.package_core.PackagePartParts.{PartModel}
use Rattle.go_judge_core.specs.declared.known.PackageKnown.{PackageKnown}

-- what is known of a package of these blocks where its expressions are judged
abbrev pub scene_with : BlocksModel → PackageKnown → SceneModel
scene_with blocks k = record { path = k.home; blocks = blocks; types = k.types; others = k.view.faces; written = k.places.written }

-- the same of the package of a part
abbrev pub scene_in : PartModel → PackageKnown → SceneModel
scene_in p k = scene_with p.content.blocks k

-- a place of the file of a number of the part's package
pub record IsPlaceIn (p : PartModel) (k : PackageKnown) (file : ℕ) (h : Here) : Type 0 where
  pub number : h.file ≡ file
  pub scene : scene_shown h.scene.now ≡ scene_in p k
