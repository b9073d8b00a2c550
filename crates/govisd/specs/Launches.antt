-- What `run` does, over what runs folders.
use Rattle.std.specs.Prelude.{ℕ, ◌⊎◌, List, Option, Some, None}
use Rattle.std.specs.Io.KnownBytes.{Keeps}
use Rattle.govisd_folders.specs.declared.checking.CheckAnswer.{CheckAnswer}
use Rattle.govisd_folders.specs.runs.Answers.{IsAnswerOfRun}
use Rattle.govisd.specs.declared.program.Ran.{Ran}
use Rattle.govisd.specs.Says.{RunsOut, WritesAnswer}

-- what the run of a folder may answer: by the folder, by the path of the module and by that of the package, if they are given, and by the number
-- of steps; none where memory runs out
abbrev pub Launching : Type 1
Launching = List ℕ → Option (List ℕ) → Option (List ℕ) → ℕ → Option CheckAnswer → Type 0

-- this folder was run, and the answer was given
pub record GivesRun (Launches : Launching) (folder : List ℕ) (path main : Option (List ℕ)) (steps : ℕ) (ran : Ran) (out out' err err' : Option (List ℕ)) : Type 0 where
  pub answer : CheckAnswer
  pub launches : Launches folder path main steps (Some answer)
  pub is : IsAnswerOfRun folder path main steps answer
  pub gives : WritesAnswer answer ran out out' err err'

-- or memory ran out in its run
abbrev pub RunsFolder : Launching → List ℕ → Option (List ℕ) → Option (List ℕ) → ℕ → Ran → Option (List ℕ) → Option (List ℕ) → Option (List ℕ) → Option (List ℕ) → Type 0
RunsFolder Launches folder path main steps ran out out' err err' =
    GivesRun Launches folder path main steps ran out out' err err' ⊎ (Launches folder path main steps None × RunsOut ran err err' × Keeps out out')
