-- What holds of the pieces of a function's steps, and what they have, in order.
--
-- docs/RULES.md, "Bodies of functions". The Go specification, "Blocks".
use Rattle.std.specs.Prelude.{List, [], ◌++◌}
use Rattle.go_local_core.specs.Steps.{Piece, Steps, Done, Check, Declare, Inner}

-- what each piece of some steps has, in order
abbrev pub of_pieces : {A : Type 0} → (Piece → List A) → Steps → List A
of_pieces f Done = []
of_pieces f (Check p rest) = f p ++ of_pieces f rest
of_pieces f (Declare m from p xs rest) = f p ++ of_pieces f rest
of_pieces f (Inner o c steps rest) = of_pieces f steps ++ of_pieces f rest

-- it holds of each piece of some steps
abbrev pub AllPieces : (Piece → Type 0) → Steps → Type 0
AllPieces P Done = Unit {0}
AllPieces P (Check p rest) = P p × AllPieces P rest
AllPieces P (Declare m from p xs rest) = P p × AllPieces P rest
AllPieces P (Inner o c steps rest) = AllPieces P steps × AllPieces P rest
