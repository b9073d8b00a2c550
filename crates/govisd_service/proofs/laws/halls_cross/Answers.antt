use Rattle.govisd_service.specs.contracts.laws.halls_cross.{L-row}
use Rattle.govisd_service.proofs.laws.halls_cross.Goals as goal
use Rattle.govisd_service.proofs.Crossing.{hall_row_send, hall_row_sync}

pub returns : goal.returns
returns g c = (
  hall_row_send (L-row g.row.L) (record { all = g.L.Named.all }) (record { name = g.L.Ledger.name; parts = g.L.Ledger.parts }) (record { book = g.L.NamesBook.book }),
  hall_row_sync (L-row g.row.L) (record { all = g.L.Named.all }) (record { name = g.L.Ledger.name; parts = g.L.Ledger.parts }) (record { book = g.L.NamesBook.book }),
)
