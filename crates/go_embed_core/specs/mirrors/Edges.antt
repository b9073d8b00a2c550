-- The fields and embedded fields of an owner, as the program reads them.
use Rattle.std.specs.Prelude.{◌≡◌, ◌⊎◌, ℕ, zero, suc, Bool, true, false, List, [], ◌++◌, Option, Some, None, option_to_list, if◌then◌else◌}
use Rattle.go_term_core.specs.Terms.{Term, NoType, Predeclared, ErrorType, Defined, PointerTo, StructOf, InterfaceOf}
use Rattle.go_type_core.specs.table_core.Entries.{Member, has_method}
use Rattle.go_type_core.specs.table_core.Shown.{hides_some}
use Rattle.go_embed_core.specs.Owners.{OwnerModel, EmbeddedEdge, embedded_edge}

-- a method has the identifier of a field that is so named
abbrev pub hidden_in : List ℕ → List Member → List ℕ → Term → Bool
hidden_in own ms name NoType = false
hidden_in own ms name (Predeclared b) = false
hidden_in own ms name ErrorType = false
hidden_in own ms name (Defined k) = false
hidden_in own ms name (PointerTo t) = false
hidden_in own ms name (StructOf path fs) = has_method own ms name path
hidden_in own ms name (InterfaceOf path methods) = false

abbrev pub hidden_by : OwnerModel → List ℕ → Term → Bool
hidden_by o name u = hidden_in o.path o.methods name u

-- an answer to whether fields of a name are kept from an owner: it may be no also where no field at all is kept from it
pub record IsHiding (hides : Bool) (o : OwnerModel) (name : List ℕ) : Type 0 where
  pub kept : hides ≡ true → hidden_by o name o.underlying ≡ true
  pub left : hides ≡ false → (hidden_by o name o.underlying ≡ false) ⊎ (hides_some o.path o.methods o.underlying ≡ false)

-- the edge of a field
abbrev pub edge_if : Bool → ℕ → Term → Option EmbeddedEdge
edge_if b i t = if b then Some (embedded_edge i t) else None

-- the edges at as many places, from one on
abbrev pub edges_from : (ℕ → Option EmbeddedEdge) → ℕ → ℕ → List EmbeddedEdge
edges_from f k zero = []
edges_from f k (suc n) = option_to_list (f k) ++ edges_from f (suc k) n
