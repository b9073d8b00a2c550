-- The predeclared names: how they are spelled, what they are, and which may be used.
use Rattle.std.specs.Prelude.{◌≡◌, ◌↔◌, ℕ, Bool, true, false, List, codes, find, Option, Some}
use Rattle.std.specs.Str.{bytes_eq}
use Rattle.go_universe_core.specs.declared.TheConstants.{PREDECLARED}
use Rattle.go_universe_core.specs.declared.Predeclared.{Predeclared}
use Rattle.go_universe_core.specs.declared.Predeclared.TheVariants as name
use Rattle.go_universe_core.specs.declared.PredeclaredKind.{PredeclaredKind}
use Rattle.go_universe_core.specs.declared.PredeclaredKind.TheVariants.{«Type», Constant, Nil as TheNil, Function}

unfoldable pub spelling_of : Predeclared → List ℕ
spelling_of name.Any = codes "any"
spelling_of name.Append = codes "append"
spelling_of name.Bool = codes "bool"
spelling_of name.Byte = codes "byte"
spelling_of name.Cap = codes "cap"
spelling_of name.Clear = codes "clear"
spelling_of name.Close = codes "close"
spelling_of name.Comparable = codes "comparable"
spelling_of name.Complex = codes "complex"
spelling_of name.Complex128 = codes "complex128"
spelling_of name.Complex64 = codes "complex64"
spelling_of name.Copy = codes "copy"
spelling_of name.Delete = codes "delete"
spelling_of name.Error = codes "error"
spelling_of name.False = codes "false"
spelling_of name.Float32 = codes "float32"
spelling_of name.Float64 = codes "float64"
spelling_of name.Imag = codes "imag"
spelling_of name.Int = codes "int"
spelling_of name.Int16 = codes "int16"
spelling_of name.Int32 = codes "int32"
spelling_of name.Int64 = codes "int64"
spelling_of name.Int8 = codes "int8"
spelling_of name.Iota = codes "iota"
spelling_of name.Len = codes "len"
spelling_of name.Make = codes "make"
spelling_of name.Max = codes "max"
spelling_of name.Min = codes "min"
spelling_of name.New = codes "new"
spelling_of name.Nil = codes "nil"
spelling_of name.Panic = codes "panic"
spelling_of name.Print = codes "print"
spelling_of name.Println = codes "println"
spelling_of name.Real = codes "real"
spelling_of name.Recover = codes "recover"
spelling_of name.Rune = codes "rune"
spelling_of name.String = codes "string"
spelling_of name.True = codes "true"
spelling_of name.Uint = codes "uint"
spelling_of name.Uint16 = codes "uint16"
spelling_of name.Uint32 = codes "uint32"
spelling_of name.Uint64 = codes "uint64"
spelling_of name.Uint8 = codes "uint8"
spelling_of name.Uintptr = codes "uintptr"

unfoldable pub kind_of : Predeclared → PredeclaredKind
kind_of name.Any = «Type»
kind_of name.Append = Function
kind_of name.Bool = «Type»
kind_of name.Byte = «Type»
kind_of name.Cap = Function
kind_of name.Clear = Function
kind_of name.Close = Function
kind_of name.Comparable = «Type»
kind_of name.Complex = Function
kind_of name.Complex128 = «Type»
kind_of name.Complex64 = «Type»
kind_of name.Copy = Function
kind_of name.Delete = Function
kind_of name.Error = «Type»
kind_of name.False = Constant
kind_of name.Float32 = «Type»
kind_of name.Float64 = «Type»
kind_of name.Imag = Function
kind_of name.Int = «Type»
kind_of name.Int16 = «Type»
kind_of name.Int32 = «Type»
kind_of name.Int64 = «Type»
kind_of name.Int8 = «Type»
kind_of name.Iota = Constant
kind_of name.Len = Function
kind_of name.Make = Function
kind_of name.Max = Function
kind_of name.Min = Function
kind_of name.New = Function
kind_of name.Nil = TheNil
kind_of name.Panic = Function
kind_of name.Print = Function
kind_of name.Println = Function
kind_of name.Real = Function
kind_of name.Recover = Function
kind_of name.Rune = «Type»
kind_of name.String = «Type»
kind_of name.True = Constant
kind_of name.Uint = «Type»
kind_of name.Uint16 = «Type»
kind_of name.Uint32 = «Type»
kind_of name.Uint64 = «Type»
kind_of name.Uint8 = «Type»
kind_of name.Uintptr = «Type»

-- the others are outside the profile
unfoldable pub usable : Predeclared → Bool
usable name.Any = true
usable name.Append = false
usable name.Bool = true
usable name.Byte = false
usable name.Cap = false
usable name.Clear = false
usable name.Close = false
usable name.Comparable = false
usable name.Complex = false
usable name.Complex128 = false
usable name.Complex64 = false
usable name.Copy = false
usable name.Delete = false
usable name.Error = true
usable name.False = true
usable name.Float32 = false
usable name.Float64 = false
usable name.Imag = false
usable name.Int = true
usable name.Int16 = false
usable name.Int32 = false
usable name.Int64 = false
usable name.Int8 = false
usable name.Iota = false
usable name.Len = true
usable name.Make = false
usable name.Max = false
usable name.Min = false
usable name.New = false
usable name.Nil = true
usable name.Panic = true
usable name.Print = true
usable name.Println = true
usable name.Real = false
usable name.Recover = false
usable name.Rune = false
usable name.String = true
usable name.True = true
usable name.Uint = false
usable name.Uint16 = false
usable name.Uint32 = false
usable name.Uint64 = false
usable name.Uint8 = false
usable name.Uintptr = false

-- the predeclared name that is spelled so
unfoldable pub found : List ℕ → Option Predeclared
found text = find (λ p. bytes_eq text (spelling_of p)) PREDECLARED

abbrev pub EachIsFound : Type 0
EachIsFound = (text : List ℕ) (p : Predeclared) → (found text ≡ Some p) ↔ (text ≡ spelling_of p)

abbrev pub NamesDiffer : Type 0
NamesDiffer = (p q : Predeclared) → spelling_of p ≡ spelling_of q → p ≡ q
