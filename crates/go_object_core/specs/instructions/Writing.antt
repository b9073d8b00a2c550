-- How instructions are written.
use Rattle.std.specs.Prelude.{ℕ, zero, suc, Bool, true, false, List, [], ◌∷◌, ◌++◌, codes}
use Rattle.std.specs.Fmt.{decimal, signed_decimal}
use Rattle.go_object_core.specs.declared.instructions.letters.Word.{Word}
use Rattle.go_object_core.specs.declared.instructions.letters.Word.TheVariants as words
use Rattle.go_object_core.specs.declared.instructions.instruction.Distance.{Distance}
use Rattle.go_object_core.specs.declared.instructions.instruction.Distance.TheVariants as distances
use Rattle.go_object_core.specs.declared.instructions.instruction.Instruction.{Instruction}
use Rattle.go_object_core.specs.declared.instructions.instruction.Instruction.TheVariants as instructions

abbrev pub word_text : Word → List ℕ
word_text words.Int = codes "i"
word_text words.Bool = codes "b"

-- a letter for each word, or `-` for none
abbrev pub letters_of : List Word → List ℕ
letters_of [] = []
letters_of (w ∷ ws) = word_text w ++ letters_of ws

abbrev pub letters_text : List Word → List ℕ
letters_text [] = codes "-"
letters_text (w ∷ ws) = letters_of (w ∷ ws)

-- forward as it is, back with a sign
abbrev pub distance_text : Distance → List ℕ
distance_text (distances.Forward n) = decimal n
distance_text (distances.Back zero) = codes "0"
distance_text (distances.Back (suc n)) = 45 ∷ decimal (suc n)

abbrev pub result_text : Bool → List ℕ
result_text true = codes "1"
result_text false = codes "0"

-- the name of the operation, and behind it what it is about; of `Panic` the name alone
abbrev pub instruction_text : Instruction → List ℕ
instruction_text (instructions.Push k) = codes "Push " ++ signed_decimal k
instruction_text (instructions.Load s) = codes "Load " ++ decimal s
instruction_text (instructions.Store s) = codes "Store " ++ decimal s
instruction_text instructions.Drop = codes "Drop"
instruction_text instructions.Neg = codes "Neg"
instruction_text instructions.Not = codes "Not"
instruction_text instructions.Add = codes "Add"
instruction_text instructions.Sub = codes "Sub"
instruction_text instructions.Mul = codes "Mul"
instruction_text instructions.Div = codes "Div"
instruction_text instructions.Rem = codes "Rem"
instruction_text instructions.Eq = codes "Eq"
instruction_text instructions.Ne = codes "Ne"
instruction_text instructions.Lt = codes "Lt"
instruction_text instructions.Le = codes "Le"
instruction_text instructions.Gt = codes "Gt"
instruction_text instructions.Ge = codes "Ge"
instruction_text (instructions.Jump d) = codes "Jump " ++ distance_text d
instruction_text (instructions.JumpFalse n) = codes "JumpFalse " ++ decimal n
instruction_text (instructions.Call reference arguments) = codes "Call " ++ decimal reference ++ codes " " ++ decimal arguments
instruction_text (instructions.Return result) = codes "Return " ++ result_text result
instruction_text (instructions.Println ws) = codes "Println " ++ letters_text ws
instruction_text (instructions.Panic w) = codes "Panic"
instruction_text instructions.Outside = codes "Outside"
