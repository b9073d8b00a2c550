-- A program with what it means, worked out by hand.
--
--     func add(a, b int) int { return a + b }
--     func main() { println(add(2, 3), add(2, 3) < 9) }
--
-- Offsets count from the start of each function's text. All other places are one `s`, whatever it is.
use Rattle.std.specs.Prelude.{◌≡◌, ℕ, List, [], ◌∷◌, ◌++◌, Some, codes}
use Rattle.go_constant_core.specs.text_core.declared.span.Span.{Span}
use Rattle.go_tree_nodes.specs.token_core.declared.kind.Operator.TheVariants as operators
use Rattle.go_tree_nodes.specs.Trees.{NoParams, NoResult, ExprTree, Integer, Binary, Call, NoItems, Alone, Simple, NoLines, FuncTree}
use Rattle.go_object_core.specs.declared.instructions.letters.Word.TheVariants as words
use Rattle.go_code_core.specs.declared.fragments.names.Gives.TheVariants as gives
use Rattle.go_code_core.specs.declared.fragments.names.Meaning.TheVariants as meanings
use Rattle.go_code_core.specs.fragments.Names.{CodeLooks}
use Rattle.go_code_core.specs.Samples.{add, add_looks, argument, line, looks_by, name, paren, sample_func}
use Rattle.go_meaning_laws.specs.source_meaning.Meaning.{Done, Unfinished, SourceOf}
use Rattle.go_meaning_laws.specs.source_meaning.Whole.{meaning}
use Rattle.go_meaning_laws.specs.source_meaning.Laws.{HasMeaning}

abbrev pub main_looks : CodeLooks
main_looks = looks_by ((14, meanings.Println) ∷ (22, meanings.Function (gives.One words.Int)) ∷ (33, meanings.Function (gives.One words.Int)) ∷ []) ((25, 0) ∷ (36, 1) ∷ [])

abbrev pub added : Span → ℕ → ℕ → ExprTree
added s at first = Call (name (codes "add") at) (paren first) (argument s (Integer 2 s) (argument s (Integer 3 s) NoItems)) s

abbrev pub main : Span → FuncTree
main s =
    sample_func s (codes "main") NoParams NoResult
    (line s (Simple (Alone (Call (name (codes "println") 14) (paren 21) (argument s (added s 22 25) (argument s (Binary (added s 33 36) operators.Less s (Integer 9 s)) NoItems)) s))) NoLines)

-- both calls in `main` are of the function of number 0
abbrev pub sample : Span → List SourceOf
sample s = record { looks = add_looks; callees = []; tree = add s } ∷ record { looks = main_looks; callees = Some 0 ∷ Some 0 ∷ []; tree = main s } ∷ []

-- it prints a line where two calls may stand in one another, and where one may nothing; and it means something, whatever the bound
pub record IsMeant (program : List SourceOf) (starts : List ℕ) : Type 0 where
  pub ends : meaning program starts 2 ≡ Done tt (codes "5 true" ++ 10 ∷ [])
  pub runs_out : meaning program starts 1 ≡ Unfinished []
  pub meant : HasMeaning program starts

abbrev pub SampleMeans : Type 0
SampleMeans = (s : Span) → IsMeant (sample s) (1 ∷ [])
