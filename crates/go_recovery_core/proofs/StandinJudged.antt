-- What the parser says of a text.
use Rattle.std.proofs.Common.{◌≡◌, ℕ, List, IsUtf8, Bool, true, false, sym, subst}
use Rattle.std.specs.Prelude.{MatchBool}
use Rattle.go_tree_nodes.specs.Trees.{FileTree}
use Rattle.go_parse_core.specs.Correct.{HasNoLowTree}
use Rattle.go_parse_core.specs.Parsing.{IsParse}
use Rattle.go_recovery_core.specs.standin.Files.{HasLowTree, IsFile, IsNoFile}

-- a tree that was parsed
pub parsed_low : (text : List ℕ) (f : FileTree) → IsParse text f → HasLowTree text
parsed_low text f h = (f, h.found, h.low)

-- a text is a file just where it parses
pub file_is : (bs t : List ℕ) (b : Bool) → t ≡ bs → IsUtf8 bs → MatchBool b (HasLowTree t) (HasNoLowTree t) → MatchBool b (IsFile bs) (IsNoFile bs)
file_is bs t true e u h = (u, subst HasLowTree e h)
file_is bs t false e u h = λ k. (let low = subst HasLowTree (sym e) k.1 in h low.0 low.1 low.2)
