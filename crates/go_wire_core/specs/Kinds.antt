-- Words that replies use.
use Rattle.std.specs.Prelude.{ℕ, List, codes}
use Rattle.go_wire_core.specs.declared.reply.RunEnd.{RunEnd}
use Rattle.go_wire_core.specs.declared.reply.RunEnd.TheVariants.{Ended, Panicked, Spent}
use Rattle.go_wire_core.specs.declared.reply.SymbolKind.{SymbolKind}
use Rattle.go_wire_core.specs.declared.reply.SymbolKind.TheVariants.{Const, Var, «Type» as TypeKind, Func, Field, Method}

abbrev pub kind_word : SymbolKind → List ℕ
kind_word Const = codes "const"
kind_word Var = codes "var"
kind_word TypeKind = codes "type"
kind_word Func = codes "func"
kind_word Field = codes "field"
kind_word Method = codes "method"

abbrev pub end_word : RunEnd → List ℕ
end_word Ended = codes "ended"
end_word Panicked = codes "panicked"
end_word Spent = codes "J3"
