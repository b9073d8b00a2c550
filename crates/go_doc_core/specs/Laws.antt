-- Laws of doc comments.
use Rattle.std.specs.Prelude.{◌≡◌, ℕ, List, All, length}
use Rattle.go_tree_nodes.specs.token_core.declared.token.Comment.{Comment}
use Rattle.go_scan_core.specs.Texts.{CommentHasItsText}
use Rattle.go_scan_core.specs.Tokens.{CommentsInOrder}
use Rattle.go_doc_core.specs.DocComments.{IsDocComment}

-- there is one
abbrev pub HasDocComment : Type 0
HasDocComment = (text : List ℕ) (comments : List Comment) (at behind : ℕ) → CommentsInOrder 0 comments (length text) → (doc : List ℕ) × IsDocComment text comments at behind doc

-- and no other
abbrev pub HasNoOtherDocComment : Type 0
HasNoOtherDocComment =
    (text : List ℕ) (comments : List Comment) (at behind : ℕ) (one other : List ℕ) → CommentsInOrder 0 comments (length text) → All (CommentHasItsText text) comments
    → IsDocComment text comments at behind one → IsDocComment text comments at behind other → one ≡ other
