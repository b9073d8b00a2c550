-- A method of an interface type that is the same as a method of another.
use Rattle.std.specs.Prelude.{◌≡◌, ℕ, Bool, false, List, []}
use Rattle.go_tree_nodes.specs.text_core.Text.{SameId}
use Rattle.go_term_core.specs.declared.term.MemberPlace.{MemberPlace}
use Rattle.go_term_core.specs.Terms.{NoType, Methods, Sign}
use Rattle.go_term_core.specs.Shapes.{Line}
use Rattle.go_term_core.specs.Identity.{IdenticalBy, TagsAgree, IsMethod, SameSignBy}

-- one of these methods is the same identifier, with the same signature
abbrev pub HasAlike : Bool → List ℕ → List ℕ → Sign → List ℕ → Methods → Type 0
HasAlike tags p name g q ns = (name' : List ℕ) × (place' : MemberPlace) × (g' : Sign) × IsMethod ns name' place' g' × SameId name p name' q × SameSignBy tags g g'

-- lines whose fields are of identical types, embedded alike, with the same tag
abbrev pub SameLine : Bool → Line → Line → Type 0
SameLine tags l k = (l.embedded ≡ k.embedded) × IdenticalBy tags l.term k.term × TagsAgree tags l.tag k.tag

-- a line as one that is not there
abbrev pub IsNoLine : Bool → Line → Type 0
IsNoLine tags l = (l.embedded ≡ false) × (l.term ≡ NoType) × TagsAgree tags l.tag []
