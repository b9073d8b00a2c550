-- What names mean at a place of a function, by the blocks that are open there.
use Rattle.std.specs.Prelude.{ℕ, Bool, true, false, List, [], Option, Some, None, slice_get}
use Rattle.go_scope_core.specs.block_core.Blocks.{BlocksModel}
use Rattle.go_scope_core.specs.Scopes as scopes
use Rattle.go_scope_core.specs.Scopes.{Denoted}
use Rattle.go_scope_core.specs.Models.{ScopesModel, scopes_model}
use Rattle.go_scope_core.specs.Laws.{denotes}
use Rattle.go_local_core.specs.Binding.{NameLook}
use Rattle.go_names_core.specs.declared.meaning.Outside.{Outside}
use Rattle.go_names_core.specs.declared.meaning.Outside.TheVariants as outside
use Rattle.go_names_core.specs.declared.look.OpenNames.{OpenNames}

-- what a name denotes in a scope, where the locals of the function mean these by their numbers
abbrev pub meaning_of : {X : Type 0} → (Outside → X) → List X → Denoted → Option X
meaning_of of_outside locals (scopes.Local id) = slice_get locals id.0
meaning_of of_outside locals (scopes.Package d) = Some (of_outside (outside.Package d))
meaning_of of_outside locals (scopes.File b) = Some (of_outside (outside.File b.at))
meaning_of of_outside locals (scopes.Universe p) = Some (of_outside (outside.Universe p))

abbrev pub some_meaning : {X : Type 0} → (Outside → X) → List X → Option Denoted → Option X
some_meaning of_outside locals None = None
some_meaning of_outside locals (Some found) = meaning_of of_outside locals found

-- what a name means in a scope, wherever it stands
abbrev pub look_in_scope : {X : Type 0} → (Outside → X) → ScopesModel → List X → NameLook X
look_in_scope of_outside s locals name place = some_meaning of_outside locals (denotes s name)

-- what a name means among the names that are open
abbrev pub open_look : {X : Type 0} → (Outside → X) → OpenNames X → NameLook X
open_look of_outside o = look_in_scope of_outside o.scopes.now o.locals.now

-- a name denotes what a function declares
abbrev pub is_of_function : Option Denoted → Bool
is_of_function (Some (scopes.Local id)) = true
is_of_function _ = false

-- what a name means outside the function: in the blocks of the file, of the package and of the universe
abbrev pub beyond_in : {X : Type 0} → (Outside → X) → BlocksModel → ℕ → List ℕ → Option X
beyond_in of_outside blocks file name = some_meaning of_outside [] (denotes (scopes_model blocks file []) name)
