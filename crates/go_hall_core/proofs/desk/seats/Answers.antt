use Rattle.go_board_core.proofs.Grows.{admits}
use Rattle.go_hall_core.proofs.desk.seats.Goals as goal

pub reader-requires : goal.reader-requires
reader-requires c = admits
