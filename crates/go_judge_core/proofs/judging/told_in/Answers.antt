use Rattle.std.proofs.Common.{ap, ◌∙◌}
use Rattle.go_env_core.specs.Scenes.{scene_shown}
use Rattle.go_judge_core.proofs.judging.told_in.Goals as goal

pub returns : goal.returns
returns c = (
  c.stand-here.result,
  record { number = c.stand-here.ensures.file; scene = ap scene_shown c.stand-here.ensures.scene ∙ c.scene_of-scene.ensures },
  c.in_ok-text.ensures,
)
