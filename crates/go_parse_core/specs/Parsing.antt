-- What `parse` answers.
use Rattle.std.specs.Prelude.{◌≡◌, ◌≤◌, ◌^◌, ◌<◌, ℕ, List, length, Result, Ok, Err}
use Rattle.go_tree_nodes.specs.token_core.declared.token.Comment.{Comment}
use Rattle.go_scan_core.specs.Cutting.{comments_in}
use Rattle.go_scan_core.specs.Tokens.{IsAnswerOf}
use Rattle.go_tree_nodes.specs.declared.files.File.{File}
use Rattle.go_tree_nodes.specs.Shapes.{file_of}
use Rattle.go_tree_nodes.specs.Trees.{FileTree}
use Rattle.go_tree_core.specs.Occurrences.{file_occs}
use Rattle.go_tree_nodes.specs.Terminals.{InOrder}
use Rattle.go_tree_nodes.specs.Heights.{file_height}
use Rattle.go_tree_nodes.specs.Spelling.{spell_file}
use Rattle.go_parse_core.specs.declared.error.ParseError.{ParseError}
use Rattle.go_parse_core.specs.declared.error.ParseError.TheVariants as errors
use Rattle.go_parse_core.specs.Correct.{HasTree, IsSynFault, max_height}

-- the tree is that of the text, and low enough; its tokens follow one another in the text
pub record IsParse (text : List ℕ) (f : FileTree) : Type 0 where
  pub found : HasTree text f
  pub low : file_height f ≤ max_height
  pub placed : InOrder 0 (spell_file f) (length text)
  pub few : length (file_occs f) < 2 ^ 64

-- a parsed text is seen as its text, which has that one tree
abbrev pub Parses : List ℕ → Result (List ℕ) ParseError → Type 0
Parses text (Ok parsed) = parsed ≡ text
Parses text (Err errors.Memory) = Unit {0}
Parses text (Err (errors.Fault fault)) = IsSynFault text fault

-- a text with a tree that is low enough is parsed, unless memory runs out
abbrev pub IsParsedUnlessMemory : Result (List ℕ) ParseError → Type 0
IsParsedUnlessMemory (Ok parsed) = Unit {0}
IsParsedUnlessMemory (Err errors.Memory) = Unit {0}
IsParsedUnlessMemory (Err (errors.Fault fault)) = ⊥

-- the comments of a text, in the words of the lexical grammar
abbrev pub AreComments : List ℕ → List Comment → Type 0
AreComments text cs = IsAnswerOf comments_in text (Ok cs)

-- the tree is that of the text, or this is why the text is refused
abbrev pub IsTreeAnswer : List ℕ → Result File ParseError → Type 0
IsTreeAnswer text (Ok tree) = IsParse text (file_of tree)
IsTreeAnswer text (Err errors.Memory) = Unit {0}
IsTreeAnswer text (Err (errors.Fault fault)) = IsSynFault text fault

-- no fault
abbrev pub IsTreeUnlessMemory : Result File ParseError → Type 0
IsTreeUnlessMemory (Ok tree) = Unit {0}
IsTreeUnlessMemory (Err errors.Memory) = Unit {0}
IsTreeUnlessMemory (Err (errors.Fault fault)) = ⊥
