use Rattle.std.proofs.Common.{◌≡◌, Option, IfOk, subst}
use Rattle.go_env_core.specs.declared.meaning.Meaning.{Meaning}
use Rattle.go_env_core.specs.Scenes.{scene_shown}
use Rattle.go_env_core.specs.Found.{found_of}
use Rattle.go_env_core.proofs.here.HereNames.find.Goals as goal

pub returns : goal.returns
returns c =
    let h = c.args.self.now in
    subst (λ (m : Option Meaning). IfOk c.found_of.result (λ found. found ≡ found_of (scene_shown h.scene.now) h.file h.known.now c.args.name.now m)) (c.in_ok-find.ensures.meaning 0) c.found_of.ensures
