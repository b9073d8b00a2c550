-- What a source file holds.
use Rattle.std.specs.Prelude.{refl, ℕ, ⊤, List, Result, Ok, Err, Option, Some, None}
use Rattle.std.specs.Coded.{Coded, code_by, coded×, coded_list, coded_ℕ, coded_result}
use denote.Ref.{Bor}
use Rattle.go_tree_nodes.specs.declared.files.File.{File}
use Rattle.go_tree_nodes.specs.declared.names.Ident.{Ident}
use Rattle.go_tree_nodes.specs.Shapes.{file_of}
use Rattle.go_tree_nodes.specs.Spelling.{IsPlaced}
use Rattle.go_tree_nodes.specs.Trees.{FileTree}
use Rattle.go_parse_core.specs.declared.error.SynFault.{SynFault}
use Rattle.go_parse_core.specs.contracts.error.SynFault as syn_fault
use Rattle.go_parse_core.specs.Correct.{IsSynFault}
use Rattle.go_parse_core.specs.Parsing.{IsParse}
use Rattle.go_parse_core.specs.Refusing.{IsRuleRead}
use Rattle.go_tree_nodes.specs.codes.TreeCodes.{coded_file}

-- the tree is that of the text, or this is why the text has none: it is such a fault, and of P1 and P2 it is the one by which reading stops
abbrev pub IsContent : List ℕ → Result FileTree SynFault → Type 0
IsContent text (Ok f) = IsParse text f
IsContent text (Err fault) = IsSynFault text fault × IsRuleRead text fault.rule

-- the same of a content, where it is a tree
abbrev pub IsPlacedContent : Result FileTree SynFault → Type 0
IsPlacedContent (Ok f) = IsPlaced f
IsPlacedContent (Err fault) = ⊤

-- a file: its name, its text, and a tree or why there is none
pub record SourceModel : Type 0 where
  pub name : List ℕ
  pub text : List ℕ
  pub content : Result FileTree SynFault

abbrev pub source : List ℕ → List ℕ → Result FileTree SynFault → SourceModel
source name text content = record { name = name; text = text; content = content }

-- a file is stored as the tuple of its fields
abbrev pub coded_source : Coded SourceModel
coded_source = code_by (List ℕ × (List ℕ × Result FileTree SynFault)) (coded× (coded_list coded_ℕ) (coded× (coded_list coded_ℕ) (coded_result coded_file syn_fault.the_row.coded))) (λ s. (s.name, (s.text, s.content))) (λ p. source p.0 p.1.0 p.1.1) (λ _. refl)

-- the content of a file is that of its text
abbrev pub IsRead : SourceModel → Type 0
IsRead s = IsContent s.text s.content

-- the tree of a file, where it has one, is a placed one
abbrev pub IsPlacedSource : SourceModel → Type 0
IsPlacedSource s = IsPlacedContent s.content

-- a content without where its tree lies in memory
abbrev pub content_of : Result File SynFault → Result FileTree SynFault
content_of (Ok f) = Ok (file_of f)
content_of (Err fault) = Err fault

-- the content that a reference to a tree shows
abbrev pub content_shown : Result (Bor File) SynFault → Result FileTree SynFault
content_shown (Ok f) = Ok (file_of f.now)
content_shown (Err fault) = Err fault

-- the name in a file's package clause, if the file has a tree
abbrev pub clause_in : Result FileTree SynFault → Option Ident
clause_in (Ok f) = Some f.name
clause_in (Err fault) = None

abbrev pub clause_of : SourceModel → Option Ident
clause_of s = clause_in s.content
