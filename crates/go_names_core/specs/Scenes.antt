-- The walk through a function by the calls of a scope: a piece is checked where blocks are opened, names declared in them and blocks closed.
use Rattle.std.specs.Prelude.{ℕ, Bool, List, [], ◌∷◌, ◌++◌, length, map}
use Rattle.go_tree_nodes.specs.declared.names.Ident.{Ident}
use Rattle.go_tree_nodes.specs.Trees.{FuncTree}
use Rattle.go_local_core.specs.scope_stack.Blocks.{innermost, with_innermost, block_after, short_names, is_short_new}
use Rattle.go_scope_core.specs.block_core.Blocks.{BlocksModel}
use Rattle.go_scope_core.specs.Models.{ScopesModel, scopes_model}
use Rattle.go_scope_core.specs.Scopes.{with_open}
use Rattle.go_local_core.specs.Faults.{spellings}
use Rattle.go_local_core.specs.Steps.{Piece, Steps, Done, Check, Declare, Inner, spell_piece}
use Rattle.go_local_core.specs.Outline.{func_steps}
use Rattle.go_local_core.specs.Binding.{Local, NameLook, bound}
use Rattle.go_local_core.specs.Law.{Rules}
use Rattle.go_local_core.specs.Alike.{Alike, LookAtNames}
use Rattle.go_local_core.specs.Tables.{IsFuncPlaced, IsTable}
use Rattle.go_names_core.specs.declared.meaning.Outside.{Outside}
use Rattle.go_names_core.specs.Scope.{look_in_scope, beyond_in}
use Rattle.go_names_core.specs.Body.{each_means}

-- the open blocks, and what the locals mean that have been declared so far
pub record NameScene (X : Type 0) : Type 0 where
  pub scopes : ScopesModel
  pub locals : List X

abbrev pub name_scene : {X : Type 0} → ScopesModel → List X → NameScene X
name_scene s ms = record { scopes = s; locals = ms }

abbrev pub look_at : {X : Type 0} → (Outside → X) → NameScene X → NameLook X
look_at outside s = look_in_scope outside s.scopes s.locals

-- a block is opened
abbrev pub entered : {X : Type 0} → NameScene X → NameScene X
entered s = name_scene (with_open s.scopes (s.scopes.open_blocks ++ [] ∷ [])) s.locals

-- which of some names are new in the innermost block, one after the other
abbrev pub news_at : {X : Type 0} → NameScene X → List Ident → List Bool
news_at s xs = map is_short_new (short_names (innermost s.scopes.open_blocks) (spellings xs))

-- a name is declared in the innermost block, if it is new there
abbrev pub local_declared : {X : Type 0} → NameScene X → Ident → X → NameScene X
local_declared s x m =
    name_scene (with_open s.scopes (with_innermost s.scopes.open_blocks (block_after (innermost s.scopes.open_blocks) ((x.name, record { 0 = length s.locals }) ∷ [])))) (s.locals ++ m ∷ [])

abbrev pub locals_declared : {X : Type 0} → NameScene X → List Ident → List X → NameScene X
locals_declared s [] ms = s
locals_declared s (x ∷ xs) [] = s
locals_declared s (x ∷ xs) (m ∷ ms) = locals_declared (local_declared s x m) xs ms

-- the names of a piece are declared with what the rules say that they mean
abbrev pub piece_declared : {X N : Type 0} → Rules X N → (Outside → X) → NameScene X → Piece → List Ident → NameScene X
piece_declared rules outside s p xs = locals_declared s xs (each_means (rules.means (look_at outside s) (news_at s xs) p) 0 xs)

-- what the locals mean after some steps
abbrev pub locals_after : {X N : Type 0} → Rules X N → (Outside → X) → NameScene X → Steps → List X
locals_after rules outside s Done = s.locals
locals_after rules outside s (Check p rest) = locals_after rules outside s rest
locals_after rules outside s (Declare m from p xs rest) = locals_after rules outside (piece_declared rules outside s p xs) rest
locals_after rules outside s (Inner o c steps rest) = locals_after rules outside (name_scene s.scopes (locals_after rules outside (entered s) steps)) rest

-- the pieces of some steps, each with what is open where it is checked; a closed block leaves the blocks as they were before it was opened
abbrev pub scenes : {X N : Type 0} → Rules X N → (Outside → X) → NameScene X → Steps → List (Piece × NameScene X)
scenes rules outside s Done = []
scenes rules outside s (Check p rest) = (p, s) ∷ scenes rules outside s rest
scenes rules outside s (Declare m from p xs rest) = (p, s) ∷ scenes rules outside (piece_declared rules outside s p xs) rest
scenes rules outside s (Inner o c steps rest) = scenes rules outside (entered s) steps ++ scenes rules outside (name_scene s.scopes (locals_after rules outside (entered s) steps)) rest

-- a function begins with one block, which has no names
abbrev pub function_scenes : {X N : Type 0} → Rules X N → (Outside → X) → BlocksModel → ℕ → FuncTree → List (Piece × NameScene X)
function_scenes rules outside blocks file f = scenes rules outside (name_scene (scopes_model blocks file ([] ∷ [])) []) (func_steps f)

-- each name that one of these pieces writes means in the scope what this look-up gives at its place
abbrev pub AreSeen : {X : Type 0} → (Outside → X) → NameLook X → List (Piece × NameScene X) → Type 0
AreSeen outside look [] = Unit {0}
AreSeen outside look (e ∷ es) = Alike (look_at outside e.1) look (spell_piece e.0) × AreSeen outside look es

-- where a piece is checked, each name that it writes means in the scope what the intervals of the function's declarations give at its place
abbrev pub OpenNamesAreBound : (X N : Type 0) → Type 0
OpenNamesAreBound X N =
    (rules : Rules X N) → LookAtNames X N rules → (outside : Outside → X) (blocks : BlocksModel) (file : ℕ) (f : FuncTree) → IsFuncPlaced f
    → (all : List (Local X)) → IsTable rules (beyond_in outside blocks file) f all
    → AreSeen outside (bound (beyond_in outside blocks file) all) (function_scenes rules outside blocks file f)
