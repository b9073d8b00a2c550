-- What functions and whole programs do, by their trees.
--
-- The Go specification, "Calls", "Program initialization and execution".
use Rattle.std.specs.Prelude.{ℕ, zero, suc, List, [], ◌∷◌, length, map, slice_get, if◌then◌else◌}
use Rattle.go_code_core.specs.fragments.Inside.{in_fragment}
use Rattle.go_code_core.specs.fragments.Slots.{slots_of}
use Rattle.go_code_core.specs.Code.{code_of, frame_in}
use Rattle.go_machine_core.specs.Programs.{LinkedOf}
use Rattle.go_meaning_laws.specs.source_meaning.Values.{Value}
use Rattle.go_meaning_laws.specs.source_meaning.Meaning.{Outcome, Done, Unfinished, Nonsense, SourceOf, and_then, just_none, if_some, Calls, scene_of, lines_meaning, results_of, first_values}

-- a function's body
abbrev pub body_meaning : ℕ → Calls → SourceOf → List Value → List ℕ → Outcome (List Value)
body_meaning n calls s arguments out =
    if_some (first_values s arguments) (λ values.
    and_then (lines_meaning n (scene_of calls s) s.tree.body values out) results_of)

-- a function outside the run fragment has no meaning here
abbrev pub function_meaning : ℕ → Calls → SourceOf → List Value → List ℕ → Outcome (List Value)
function_meaning n calls s arguments out = if in_fragment (frame_in s.looks s.tree) s.tree then body_meaning n calls s arguments out else Nonsense

-- what calls of the functions of a program come to, by their numbers, where each loop makes at most n turns, and a call is at most so many deep
abbrev pub calls_of : ℕ → List SourceOf → ℕ → Calls
calls_of n program zero number arguments out = if_some (slice_get program number) (λ s. Unfinished out)
calls_of n program (suc depth) number arguments out = if_some (slice_get program number) (λ s. function_meaning n (calls_of n program depth) s arguments out)

-- functions without arguments and results, one after another
abbrev pub one_by_one : Calls → List ℕ → List ℕ → Outcome (Unit {0})
one_by_one calls [] out = Done tt out
one_by_one calls (number ∷ numbers) out = and_then (calls number [] out) (λ vs out. just_none vs (one_by_one calls numbers out))

-- what the program does that begins with the functions of these numbers, one after another: each loop makes at most n turns, and each chain of calls is at
-- most n deep
abbrev pub meaning : List SourceOf → List ℕ → ℕ → Outcome (Unit {0})
meaning program starts n = one_by_one (calls_of n program n) starts []

-- a function as it is run by the machine
abbrev pub linked_source : SourceOf → LinkedOf
linked_source s = record { slots = length (slots_of s.looks s.tree); callees = s.callees; code = code_of s.looks s.tree }

abbrev pub code_of_program : List SourceOf → List LinkedOf
code_of_program program = map linked_source program
