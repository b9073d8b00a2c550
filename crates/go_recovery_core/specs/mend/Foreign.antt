-- Words of other languages.
use Rattle.std.specs.Prelude.{ℕ, List, codes}
use Rattle.go_recovery_core.specs.declared.mend.foreign.ForeignWord.{ForeignWord}
use Rattle.go_recovery_core.specs.declared.mend.foreign.ForeignWord.TheVariants as words

abbrev pub foreign_text : ForeignWord → List ℕ
foreign_text words.While = codes "while"
foreign_text words.Elif = codes "elif"
foreign_text words.Elseif = codes "elseif"
foreign_text words.Try = codes "try"
foreign_text words.Let = codes "let"
foreign_text words.Def = codes "def"
foreign_text words.Fn = codes "fn"
foreign_text words.Function = codes "function"
foreign_text words.Class = codes "class"

-- what stands in Go in its place
abbrev pub foreign_advice : ForeignWord → List ℕ
foreign_advice words.While = codes "Go's loop is for"
foreign_advice words.Elif = codes "Go writes else if"
foreign_advice words.Elseif = codes "Go writes else if"
foreign_advice words.Try = codes "Go has no try: a function returns an error"
foreign_advice words.Let = codes "Go declares a variable with var or :="
foreign_advice words.Def = codes "Go declares a function with func"
foreign_advice words.Fn = codes "Go declares a function with func"
foreign_advice words.Function = codes "Go declares a function with func"
foreign_advice words.Class = codes "Go declares a type with type, and its methods with func"
