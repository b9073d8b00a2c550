-- What may go to a thread (`IsSend`), and be seen by several at one time (`IsSync`), as the logic has the two.
use denote.RattleType.{RattleType}
use denote.Param.Send.{IsSend, IsSync}
use Rattle.std.specs.declared.sync.ledger.Ledger as ledger
use Rattle.go_hall.specs.hall_core.declared.stamping.book.NamesBook as stamps
use Rattle.go_hall.specs.hall_core.declared.counted.Named as named
use Rattle.go_hall.specs.contracts.hall.Hall as hall

-- a hall under a name of a ledger, and of a book of stamps
abbrev pub HallsCross : (L : RattleType) → named.Ghosts L.Denot → ledger.Ghosts L.Denot → stamps.Ghosts L.Denot → Type 0
HallsCross L n l b = IsSend (hall.the_row L n l b) × IsSync (hall.the_row L n l b)
