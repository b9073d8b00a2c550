use Rattle.go_hall_core.specs.board_core_lemmas.Grows.{sees}
use Rattle.go_hall.proofs.session.Session.enter.Goals as goal

pub enter_as-requires : goal.enter_as-requires
enter_as-requires g c = sees _ _
