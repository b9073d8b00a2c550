-- The occurrences of a file are pieces of its text, where the terminals that it writes are.
use Rattle.std.proofs.Common.{◌≡◌, ℕ, List, [], ◌∷◌, Some, sym, ap, ◌∙◌, subst, arith}
use Rattle.std.specs.Prelude.{All}
use Rattle.std.proofs.lemmas.List.Elements.{All-head, All-tail, All-cons}
use Rattle.go_tree_nodes.specs.text_core.declared.span.Span.{Span}
use Rattle.go_tree_nodes.specs.text_core.Slices.{slice_of}
use Rattle.go_tree_nodes.specs.token_core.declared.kind.Operator.TheVariants as operator
use Rattle.go_tree_nodes.specs.Terminals.{Terminal, TerminalKind, Spelled, Quoted, Mark}
use Rattle.go_tree_nodes.specs.Trees.{FileTree}
use Rattle.go_tree_nodes.specs.Spelling.{spell_file}
use Rattle.go_tree_core.specs.declared.occurrence.Role.{Role}
use Rattle.go_tree_core.specs.declared.occurrence.Role.TheVariants as role
use Rattle.go_tree_core.specs.declared.occurrence.Occ.{Occ}
use Rattle.go_tree_core.specs.Occurrences.{file_occs}
use Rattle.go_tree_core.specs.Laws.{IsKindOf, IsWritten, AreWritten, NoneLeft, Passed, Written}
use Rattle.go_tree_core.proofs.Telling.{occurrences_are_written}

-- what holds of each terminal holds of each occurrence that is written among them
pub all_written : (P : Terminal → Type 0) (Q : Occ → Type 0) → ((o : Occ) (t : Terminal) → IsWritten o t → P t → Q o) → {os : List Occ} {ts : List Terminal} → AreWritten os ts → All P ts → All Q os
all_written P Q step NoneLeft all = λ k d h. absurd (omega arith)
all_written P Q step (Passed {t = t} {ts = ts} h) all = all_written P Q step h (All-tail P t ts all)
all_written P Q step (Written {o = o} {t = t} {os = os} {ts = ts} w h) all = All-cons Q o os (step o t w (All-head P t ts all)) (all_written P Q step h (All-tail P t ts all))

-- a name, a string literal or an opening parenthesis is a piece of the text, where its span lies

abbrev pub IsPieceOf : List ℕ → TerminalKind → Span → Type 0
IsPieceOf text (Spelled name) s = slice_of text s ≡ Some name
IsPieceOf text (Quoted spelled) s = slice_of text s ≡ Some spelled
IsPieceOf text (Mark operator.OpenParen) s = slice_of text s ≡ Some (40 ∷ [])
IsPieceOf text _ s = Unit

piece_moved : (text : List ℕ) (t : Terminal) (kind : TerminalKind) (s : Span) → t.kind ≡ kind → t.span ≡ s → IsPieceOf text t.kind t.span → IsPieceOf text kind s
piece_moved text t kind s k same piece = subst (IsPieceOf text kind) same (subst (λ k. IsPieceOf text k t.span) k piece)

written_piece : (text : List ℕ) (r : Role) (n : List ℕ) (s : Span) (t : Terminal) → t.span ≡ s → IsKindOf r n t.kind → IsPieceOf text t.kind t.span → slice_of text s ≡ Some n
written_piece text role.Import n s t same k piece = piece_moved text t (Quoted n) s k same piece
written_piece text role.Call n s t same k piece = piece_moved text t (Mark operator.OpenParen) s k.1 same piece ∙ ap (λ n. Some n) (sym k.0)
written_piece text role.«Type» n s t same k piece = piece_moved text t (Spelled n) s k same piece
written_piece text role.«Value» n s t same k piece = piece_moved text t (Spelled n) s k same piece
written_piece text role.Callee n s t same k piece = piece_moved text t (Spelled n) s k same piece
written_piece text role.Qualifier n s t same k piece = piece_moved text t (Spelled n) s k same piece
written_piece text (role.Selector u) n s t same k piece = piece_moved text t (Spelled n) s k same piece
written_piece text role.Key n s t same k piece = piece_moved text t (Spelled n) s k same piece

-- so each occurrence is spelled as the text has it there
pub occurrences_are_pieces : (text : List ℕ) (f : FileTree) → All (λ t. IsPieceOf text t.kind t.span) (spell_file f) → All (λ o. slice_of text o.span ≡ Some o.spelling) (file_occs f)
occurrences_are_pieces text f all =
    all_written (λ t. IsPieceOf text t.kind t.span) (λ o. slice_of text o.span ≡ Some o.spelling) (λ o t w piece. written_piece text o.role o.spelling o.span t w.0 w.1 piece) (occurrences_are_written f) all
