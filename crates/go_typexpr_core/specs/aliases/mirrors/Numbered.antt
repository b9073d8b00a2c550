-- Aliases by their numbers.
use Rattle.std.specs.Prelude.{ℕ, suc, Bool, ◌&&◌, List, [], ◌∷◌, ◌++◌, Option, Some, None, is_some, option_map, map, slice_get, slice_index_or, if◌then◌else◌}
use Rattle.std.specs.Str.{bytes_eq}
use Rattle.go_term_core.specs.decl_core.declared.keys.DeclKey.{DeclKey}
use Rattle.go_term_core.specs.decl_core.declared.keys.DeclRef.{DeclRef}
use Rattle.go_term_core.specs.Terms.{Term, NoType, Predeclared, ErrorType, Defined, PointerTo, StructOf, InterfaceOf}
use Rattle.go_type_core.specs.table_core.Entries.{Entry, same_decl}
use Rattle.go_typexpr_core.specs.aliases.Aliases.{alias_in, decls_of}

-- the number of a declaration among declarations: the first that it is
abbrev pub decl_number : List DeclRef → DeclRef → Option ℕ
decl_number [] d = None
decl_number (e ∷ ds) d = if same_decl e d then Some 0 else option_map suc (decl_number ds d)

-- the same of any declaration, where they are of the package of a path
abbrev pub own_number : List ℕ → List DeclRef → DeclKey → Option ℕ
own_number path ds k = if bytes_eq path k.path then decl_number ds k.decl else None

-- the number of the declaration that a type names
abbrev pub named_number : List ℕ → List DeclRef → Term → Option ℕ
named_number path ds NoType = None
named_number path ds (Predeclared b) = None
named_number path ds ErrorType = None
named_number path ds (Defined k) = own_number path ds k
named_number path ds (PointerTo t) = None
named_number path ds (StructOf p fs) = None
named_number path ds (InterfaceOf p ms) = None

-- of each alias the number of the one that is behind its `=`
abbrev pub nexts : List ℕ → List (DeclRef × Term) → List (Option ℕ)
nexts path xs = map (λ a. named_number path (decls_of xs) a.1) xs

abbrev pub type_of : Option (DeclRef × Term) → Term
type_of None = NoType
type_of (Some a) = a.1

-- what is written of the alias at which a chain ends, if it has an end
abbrev pub ended : List (DeclRef × Term) → Option ℕ → Term
ended xs None = NoType
ended xs (Some j) = type_of (slice_get xs j)

-- aliases, numbered from i on, each with what its chain ends in
abbrev pub ends_from : List (DeclRef × Term) → List (Option ℕ) → ℕ → List (DeclRef × Term) → List (DeclRef × Term)
ends_from all ends i [] = []
ends_from all ends i (a ∷ xs) = (a.0, ended all (slice_index_or ends i None)) ∷ ends_from all ends (suc i) xs

abbrev pub ends_in : List (DeclRef × Term) → List (Option ℕ) → List (DeclRef × Term)
ends_in xs ends = ends_from xs ends 0 xs

-- the declaration of an entry, if it is marked and an alias
abbrev pub marked_alias : List (DeclRef × Term) → Bool → Entry → List DeclRef
marked_alias xs m w = if m && is_some (alias_in xs w.key.decl) then w.key.decl ∷ [] else []

-- those of entries
abbrev pub marked_aliases : List (DeclRef × Term) → List Bool → List Entry → List DeclRef
marked_aliases xs [] ws = []
marked_aliases xs (m ∷ ms) [] = []
marked_aliases xs (m ∷ ms) (w ∷ ws) = marked_alias xs m w ++ marked_aliases xs ms ws
