-- Laws of types as they are written.
use Rattle.std.specs.Prelude.{◌≡◌, List, Contains}
use Rattle.go_tree_nodes.specs.declared.types.TypeName.{TypeName}
use Rattle.go_tree_nodes.specs.Trees.{TypeTree, SignatureTree}
use Rattle.go_term_core.specs.decl_core.declared.keys.DeclKey.{DeclKey}
use Rattle.go_term_core.specs.Terms.{term_keys, sign_keys}
use Rattle.go_typexpr_core.specs.written.Written.{Meaning, InFile, term_of, signature_of}
use Rattle.go_tree_nodes.specs.TypeNames.{type_names_in, signature_names_in}

-- a name among these means a type that mentions a key
abbrev pub NameMentions : Meaning → List TypeName → DeclKey → Type 0
NameMentions mean names k = (n : TypeName) × Contains names n × Contains (term_keys (mean n)) k

-- the term of a type looks at the names of types that stand in it alone, and mentions what these mean
pub record WrittenByNames : Type 0 where
  pub types : (mean other : Meaning) (f : InFile) (t : TypeTree) → ((n : TypeName) → Contains (type_names_in t) n → mean n ≡ other n) → term_of mean f t ≡ term_of other f t
  pub signatures : (mean other : Meaning) (f : InFile) (g : SignatureTree) → ((n : TypeName) → Contains (signature_names_in g) n → mean n ≡ other n) → signature_of mean f g ≡ signature_of other f g
  pub mentioned : (mean : Meaning) (f : InFile) (t : TypeTree) (k : DeclKey) → Contains (term_keys (term_of mean f t)) k → NameMentions mean (type_names_in t) k
  pub mentioned_in_signature : (mean : Meaning) (f : InFile) (g : SignatureTree) (k : DeclKey) → Contains (sign_keys (signature_of mean f g)) k → NameMentions mean (signature_names_in g) k
