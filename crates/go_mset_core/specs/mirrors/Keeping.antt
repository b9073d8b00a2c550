-- How the methods of a set are kept of what selectors denote.
use Rattle.std.specs.Prelude.{Bool, true, false, not, ◌||◌, List, [], ◌∷◌, if◌then◌else◌}
use Rattle.go_select_core.specs.embed_core.Owners.{Found, AFieldOf, AMethodOf, AnInterfaces, TheErrorMethod}
use Rattle.go_select_core.specs.embed_core.OwnersShown.{found_shown}
use Rattle.go_select_core.specs.declared.levels.search.Selected.{Selected}
use Rattle.go_mset_core.specs.declared.methods.SetMethod.{SetMethod}

abbrev pub callable : Found → Bool → Bool
callable (AFieldOf path place t) passes = false
callable (AMethodOf path place pointer g) passes = passes || not pointer
callable (AnInterfaces path place g) passes = true
callable TheErrorMethod passes = true

abbrev pub method_of : Selected → SetMethod
method_of s = record { member = s.member; path = s.path }

-- the methods of a set among what selectors denote
abbrev pub kept : List Selected → List SetMethod
kept [] = []
kept (s ∷ ss) = if callable (found_shown s.member) s.through_pointer then method_of s ∷ kept ss else kept ss
