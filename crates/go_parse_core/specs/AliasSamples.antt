-- Files of aliases, and files that are none.
--
-- The Go specification, "Alias declarations".
use Rattle.std.specs.Prelude.{ℕ, List, [], ◌∷◌, Some, None, codes}
use Rattle.go_tree_nodes.specs.text_core.declared.rule.Rule.TheVariants.{P1}
use Rattle.go_tree_nodes.specs.token_core.declared.kind.Keyword.TheVariants as keyword
use Rattle.go_tree_nodes.specs.token_core.declared.kind.Operator.TheVariants as operator
use Rattle.go_tree_nodes.specs.declared.types.TypeName.TheVariants as type_names
use Rattle.go_tree_nodes.specs.Samples.{at, called, type_at, alias_of}
use Rattle.go_tree_nodes.specs.Spelling.{mark, word, spell_ident}
use Rattle.go_tree_nodes.specs.Terminals.{Terminal}
use Rattle.go_tree_nodes.specs.Trees.{NamedType, Specs, Single, Group, TypeSpecTree, Types, FileTree}
use Rattle.go_parse_core.specs.Correct.{IsTreeOf}
use Rattle.go_parse_core.specs.Refusing.{IsRuleOf}
use Rattle.go_parse_core.specs.mirrors.FileReading.{file_at}

-- a name of one letter, as a terminal
abbrev pub letter_at : List ℕ → ℕ → Terminal
letter_at name n = spell_ident (called name n)

-- package p; type ..
abbrev pub types_before : List Terminal → List Terminal
types_before ts = word keyword.Package (at 0) ∷ (letter_at (codes "p") 1 ∷ (mark operator.Semicolon (at 2) ∷ (word keyword.«Type» (at 3) ∷ ts)))

-- package p; type A = ..
abbrev pub alias_before : List Terminal → List Terminal
alias_before ts = types_before (letter_at (codes "A") 4 ∷ (mark operator.Assign (at 5) ∷ ts))

-- the file of one declaration of types, with the place of its semicolon
abbrev pub types_file : Specs TypeSpecTree → ℕ → FileTree
types_file specs n = record { clause = at 0; name = called (codes "p") 1; semicolon = at 2; imports = []; decls = record { decl = Types (record { keyword = at 3; specs = specs }); semicolon = at n } ∷ [] }

-- package p; type A = B;
abbrev pub one_alias : List Terminal
one_alias = alias_before (letter_at (codes "B") 6 ∷ (mark operator.Semicolon (at 7) ∷ []))

abbrev pub one_alias_tree : FileTree
one_alias_tree = types_file (Single (alias_of (called (codes "A") 4) 5 (type_at (codes "B") 6))) 7

-- A = B;
abbrev pub first_alias : List Terminal → List Terminal
first_alias ts = letter_at (codes "A") 5 ∷ (mark operator.Assign (at 6) ∷ (letter_at (codes "B") 7 ∷ (mark operator.Semicolon (at 8) ∷ ts)))

-- C = q.D
abbrev pub second_alias : List Terminal → List Terminal
second_alias ts = letter_at (codes "C") 9 ∷ (mark operator.Assign (at 10) ∷ (letter_at (codes "q") 11 ∷ (mark operator.Dot (at 12) ∷ (letter_at (codes "D") 13 ∷ ts))))

-- package p; type ( A = B; C = q.D );
abbrev pub two_aliases : List Terminal
two_aliases = types_before (mark operator.OpenParen (at 4) ∷ first_alias (second_alias (mark operator.CloseParen (at 14) ∷ (mark operator.Semicolon (at 15) ∷ []))))

abbrev pub two_aliases_tree : FileTree
two_aliases_tree = types_file (Group (at 4) ((alias_of (called (codes "A") 5) 6 (type_at (codes "B") 7), Some (at 8)) ∷ ((alias_of (called (codes "C") 9) 10 (NamedType (type_names.Qualified (called (codes "q") 11) (at 12) (called (codes "D") 13))), None) ∷ [])) (at 14)) 15

-- no tree writes the terminals, and reading them stops by P1
pub record IsNoFile (ts : List Terminal) : Type 0 where
  pub no_tree : (f : FileTree) → IsTreeOf f ts → ⊥
  pub rule : IsRuleOf (file_at 199 ts) P1

pub record AliasesAreOfNames : Type 0 where
  -- package p; type A = B;
  pub one : IsTreeOf one_alias_tree one_alias
  -- package p; type ( A = B; C = q.D );
  pub group : IsTreeOf two_aliases_tree two_aliases
  -- package p; type A = *..
  pub pointer : (ts : List Terminal) → IsNoFile (alias_before (mark operator.Star (at 6) ∷ ts))
  -- package p; type A = (..
  pub parentheses : (ts : List Terminal) → IsNoFile (alias_before (mark operator.OpenParen (at 6) ∷ ts))
  -- package p; type A = struct ..
  pub struct_type : (ts : List Terminal) → IsNoFile (alias_before (word keyword.Struct (at 6) ∷ ts))
  -- package p; type A = interface ..
  pub interface_type : (ts : List Terminal) → IsNoFile (alias_before (word keyword.Interface (at 6) ∷ ts))
  -- package p; type A = ;
  pub nothing : IsNoFile (alias_before (mark operator.Semicolon (at 6) ∷ []))
