-- What a function of the parser answers, against what reading gives.
use Rattle.std.specs.Prelude.{◌≡◌, ℕ, List, [], ◌∷◌, Result, Ok, Err}
use Rattle.go_tree_nodes.specs.Terminals.{Terminal}
use Rattle.go_parse_reader.specs.declared.types.stop.Stop.{Stop}
use Rattle.go_parse_reader.specs.declared.types.stop.Stop.TheVariants as stop
use Rattle.go_parse_reader.specs.types.mirrors.Marks.{Stuck, Grammar, TooHigh}

-- reading stops for the same reason, unless memory ran out
abbrev pub Fails : {Y : Type 0} → Stop → Result Y Stuck → Type 0
Fails stop.Memory read = Unit {0}
Fails (stop.Grammar at) read = read ≡ Err Grammar
Fails (stop.TooHigh at) read = read ≡ Err TooHigh

-- reading gives what the program returned, unless memory ran out
abbrev pub Gives : {X Y : Type 0} → (X → Y) → Result X Stop → Result Y Stuck → Type 0
Gives view (Ok x) read = read ≡ Ok (view x)
Gives view (Err e) read = Fails e read

-- no answer is want of memory
abbrev pub NeverMemory : {X : Type 0} → Result X Stop → Type 0
NeverMemory (Ok x) = Unit {0}
NeverMemory (Err stop.Memory) = ⊥
NeverMemory (Err (stop.Grammar at)) = Unit {0}
NeverMemory (Err (stop.TooHigh at)) = Unit {0}

-- the place where the parser stands; at the end of the terminals it is not said here
abbrev pub IsOffset : ℕ → List Terminal → Type 0
IsOffset at [] = Unit {0}
IsOffset at (t ∷ ts) = at ≡ t.span.start
