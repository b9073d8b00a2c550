-- What is noted on the way through steps with the blocks of a scope, where locals have numbers in a list of what they mean.
use Rattle.std.specs.Prelude.{List, [], ◌++◌}
use Rattle.go_local_core.specs.declared.Fault.{Fault}
use Rattle.go_local_core.specs.Faults.{name_faults}
use Rattle.go_local_core.specs.Steps.{Steps, Done, Check, Declare, Inner}
use Rattle.go_local_core.specs.Law.{Rules}
use Rattle.go_names_core.specs.declared.meaning.Outside.{Outside}
use Rattle.go_names_core.specs.Body.{each_means}
use Rattle.go_names_core.specs.Scenes.{NameScene, name_scene, look_at, entered, news_at, locals_declared}

-- what is noted by the rules, and the faults of names
pub record Noted (N : Type 0) : Type 0 where
  pub notes : List N
  pub faults : List Fault

abbrev pub noted : {N : Type 0} → List N → List Fault → Noted N
noted ns fs = record { notes = ns; faults = fs }

-- the first, and then the second
abbrev pub also : {N : Type 0} → Noted N → Noted N → Noted N
also a b = noted (a.notes ++ b.notes) (a.faults ++ b.faults)

-- what is noted, and what the locals mean in the end
pub record Ran (X N : Type 0) : Type 0 where
  pub noted : Noted N
  pub locals : List X

abbrev pub ran : {X N : Type 0} → Noted N → List X → Ran X N
ran n ms = record { noted = n; locals = ms }

abbrev pub before : {X N : Type 0} → Noted N → Ran X N → Ran X N
before n r = ran (also n r.noted) r.locals

abbrev pub run : {X N : Type 0} → Rules X N → (Outside → X) → NameScene X → Steps → Ran X N
run rules outside s Done = ran (noted [] []) s.locals
run rules outside s (Check p rest) = before (noted (rules.notes (look_at outside s) [] p) []) (run rules outside s rest)
run rules outside s (Declare m from p xs rest) =
    before (noted (rules.notes (look_at outside s) (news_at s xs) p) (name_faults m (news_at s xs) xs))
    (run rules outside (locals_declared s xs (each_means (rules.means (look_at outside s) (news_at s xs) p) 0 xs)) rest)
run rules outside s (Inner o c steps rest) =
    before (run rules outside (entered s) steps).noted (run rules outside (name_scene s.scopes (run rules outside (entered s) steps).locals) rest)
