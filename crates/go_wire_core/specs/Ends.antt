-- How serving ends.
use Rattle.std.specs.Prelude.{◌≡◌, ◌≤◌, ◌-◌, ◌*◌, ℕ, List, [], ◌∷◌, ◌++◌, length, take, Bool, Option, Some}
use Rattle.std.specs.List.{AllByRecursion}
use Rattle.std.specs.Io.KnownBytes.{Appends, Consumes}
use Rattle.go_wire_core.specs.declared.request.Request.{Request}
use Rattle.go_wire_core.specs.declared.reply.WireReply.{WireReply}
use Rattle.go_wire_core.specs.declared.serving.ServeEnd.{ServeEnd}
use Rattle.go_wire_core.specs.declared.serving.ServeEnd.TheVariants.{Done, TooLong, ReadFault, WriteFault, Turns, Memory}
use Rattle.go_wire_core.specs.declared.step.Step.{Step}
use Rattle.go_wire_core.specs.Lines.{lines, ended_lines, most_bytes}
use Rattle.go_wire_core.specs.Steps.{wire, AreDone}

-- all steps were done, and all that goes out for them was written, and nothing else
pub record Served {D : Type 0} (answers : D → Request → WireReply → D → Type 0) (steps : List Step) (d e : D) (old new : Option (List ℕ)) : Type 0 where
  pub out : List ℕ
  pub done : AreDone answers d steps e out
  pub written : Appends old new out

-- only the first of the bytes came, before those that are left: what their whole lines ask was done
pub record ServedSoFar {D : Type 0} (numbered : Bool) (answers : D → Request → WireReply → D → Type 0) (bytes left : Option (List ℕ)) (d e : D) (old new : Option (List ℕ)) : Type 0 where
  pub came : List ℕ
  pub parts : Consumes bytes left came
  pub served : Served answers (wire numbered (ended_lines came)) d e old new

-- the steps before one of them were served; it was done too, of its line the first bytes were written, and nothing else
pub record ServedUpTo {D : Type 0} (answers : D → Request → WireReply → D → Type 0) (steps : List Step) (d e : D) (old new : Option (List ℕ)) : Type 0 where
  pub before : List Step
  pub step : Step
  pub rest : List Step
  pub whole : steps ≡ before ++ step ∷ rest
  pub between : D
  pub middle : Option (List ℕ)
  pub served : Served answers before d between old middle
  pub line : List ℕ
  pub done : AreDone answers between (step ∷ []) e line
  pub count : ℕ
  pub written : Appends middle new (take count line)

-- the first steps were served; at most one more was done, of whose line nothing was written
pub record ServedFirst {D : Type 0} (answers : D → Request → WireReply → D → Type 0) (steps : List Step) (d e : D) (old new : Option (List ℕ)) : Type 0 where
  pub before : List Step
  pub more : List Step
  pub rest : List Step
  pub whole : steps ≡ before ++ (more ++ rest)
  pub few : length more ≤ 1
  pub between : D
  pub served : Served answers before d between old new
  pub line : List ℕ
  pub done : AreDone answers between more e line

abbrev pub IsShort : List ℕ → Type 0
IsShort line = length line ≤ most_bytes

-- how serving these bytes ended, of which those are left, and what was done and written then
abbrev pub IsEnd : {D : Type 0} → ServeEnd → Bool → (D → Request → WireReply → D → Type 0) → List ℕ → Option (List ℕ) → D → D → Option (List ℕ) → Option (List ℕ) → Type 0
IsEnd Done numbered answers bytes left d e old new = Served answers (wire numbered (lines bytes)) d e old new × AllByRecursion IsShort (lines bytes)
IsEnd TooLong numbered answers bytes left d e old new = Served answers (wire numbered (lines bytes)) d e old new × ¬ (AllByRecursion IsShort (lines bytes))
IsEnd ReadFault numbered answers bytes left d e old new = ServedSoFar numbered answers (Some bytes) left d e old new
IsEnd WriteFault numbered answers bytes left d e old new = ServedUpTo answers (wire numbered (lines bytes)) d e old new
IsEnd Turns numbered answers bytes left d e old new = ServedSoFar numbered answers (Some bytes) left d e old new
IsEnd Memory numbered answers bytes left d e old new = ServedFirst answers (wire numbered (lines bytes)) d e old new

-- the most bytes that so many turns read: 65,536 each, and none the turn whose read fails
abbrev pub most_read : ServeEnd → ℕ → ℕ
most_read Done turns = turns * 65536
most_read TooLong turns = turns * 65536
most_read ReadFault turns = (turns - 1) * 65536
most_read WriteFault turns = turns * 65536
most_read Turns turns = turns * 65536
most_read Memory turns = turns * 65536

-- at most so many of the first bytes were read, and those behind them remain
abbrev pub ReadsUpTo : ℕ → Option (List ℕ) → Option (List ℕ) → Type 0
ReadsUpTo most given left = (bytes : List ℕ) × Consumes given left bytes × (length bytes ≤ most)
