-- The numbers of a package's types, and lists that are made item by item.
use Rattle.std.specs.Prelude.{◌≡◌, ℕ, suc, ◌<◌, true, List, [], ◌∷◌, Option, Some, None, option_map, map, length, slice_get, slice_index_or, if◌then◌else◌}
use Rattle.go_term_core.specs.decl_core.declared.keys.DeclKey.{DeclKey}
use Rattle.go_term_core.specs.decl_core.declared.keys.DeclRef.{DeclRef}
use Rattle.go_term_core.specs.Terms.{Term}
use Rattle.go_table_core.specs.Entries.{Entry, same_key, term_in}
use Rattle.go_term_core.specs.decl_core.Order.{is_ref_before}

-- the keys of entries
abbrev pub keys_of : List Entry → List DeclKey
keys_of es = map (λ e. e.key) es

-- the keys of declarations of one package
abbrev pub keys_in : List ℕ → List DeclRef → List DeclKey
keys_in path ds = map (λ d. record { path = path; decl = d }) ds

-- the number of a key among keys: the first that it is
abbrev pub number_of : List DeclKey → DeclKey → Option ℕ
number_of [] k = None
number_of (j ∷ js) k = if same_key j k then Some 0 else option_map suc (number_of js k)

-- what is written of the type with a number
abbrev pub term_at : List Entry → ℕ → Term
term_at es i = term_in (slice_get es i)

abbrev pub RefsRise : List DeclRef → Type 0
RefsRise ds = (i j : ℕ) (d : DeclRef) → i < j → j < length ds → is_ref_before (slice_index_or ds i d) (slice_index_or ds j d) ≡ true

-- a list of as many items as a count, of which each is what a function has at its number
pub record IsTable {A : Type 0} (xs : List A) (count : ℕ) (f : ℕ → A) : Type 0 where
  pub as_many : length xs ≡ count
  pub each : (i : ℕ) → i < count → slice_get xs i ≡ Some (f i)
