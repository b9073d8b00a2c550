-- The rules of the checker look at the names of a piece alone.
use Rattle.std.proofs.Common.{◌≡◌, ℕ, Bool, List, [], ◌∷◌, Option, refl, ap}
use Rattle.go_tree_nodes.specs.Trees.{TypeTree}
use Rattle.go_term_core.specs.Terms.{Term, Sign}
use Rattle.go_handle_core.specs.Declarations.{Declaration}
use Rattle.go_local_core.specs.Binding.{NameLook}
use Rattle.go_local_core.specs.Alike.{LookAtNames}
use Rattle.go_expr_core.specs.Locality.{SameType}
use Rattle.go_stmt_core.specs.piece.Laws.{FindByNames}
use Rattle.go_local_core.specs.Pieces.{piece_types}
use Rattle.go_stmt_core.proofs.PieceShown.{pieces_look}
use Rattle.go_stmt_core.proofs.PieceLocal.{all_made}
use Rattle.go_declared_core.specs.Faces.{TheFace}
use Rattle.go_inline_core.specs.Types.{InlineOf}
use Rattle.go_env_core.specs.declared.meaning.Meaning.{Meaning}
use Rattle.go_env_core.specs.Scenes.{SceneModel, scene_shown}
use Rattle.go_env_core.specs.Found.{found_of}
use Rattle.go_env_core.specs.Looks.{TheLooks, looks_in, inline_rules}
use Rattle.go_body_core.specs.declared.pieces.Pieces.{Pieces}
use Rattle.go_body_core.specs.Notes.{TheLocal, NoteOf, note}
use Rattle.go_body_core.specs.Rules.{local_at, piece_locals, rules_by, rules_of}

module _ (s : SceneModel) (file : ℕ) (known : List (Option TheFace)) (types : List (ℕ × InlineOf)) where
  abbrev looks : NameLook Meaning → TheLooks
  looks look = looks_in s file known (inline_rules s types) look

  -- what stands for a written type depends on its place alone
  type_same : (look other : NameLook Meaning) (t : TypeTree) → SameType Term Sign Declaration (List ℕ) (looks look) (looks other) t
  type_same look other t = record { type_of = refl; faults_of = refl }

  pub by_names : FindByNames Meaning Term Sign Declaration (List ℕ) looks
  by_names = record {
    rest = λ look other. refl;
    find = λ look other name offset h. ap (found_of s file known name) h;
    written = λ look other p h. all_made (looks look) (looks other) (type_same look other) (piece_types p);
  }

-- what is noted, with other locals
abbrev with_locals : List TheLocal → List NoteOf → List NoteOf
with_locals ls [] = []
with_locals ls (n ∷ ns) = note n.uses n.faults ls ∷ with_locals ls ns

-- rules by look-ups that find what names mean look at the names of a piece alone
pub look_at_names : (looks : NameLook Meaning → TheLooks) (results : List (Option Term)) (has_names : Bool) → FindByNames Meaning Term Sign Declaration (List ℕ) looks → LookAtNames Meaning NoteOf (rules_by looks results has_names)
look_at_names looks results has_names law =
    let plain = pieces_look Meaning NoteOf Term Sign Declaration (List ℕ) looks results has_names (λ p us fs. note us fs [] ∷ []) (λ p vs. local_at p vs) law in
    record {
      notes = λ look other firsts p h. (λ j. with_locals (piece_locals firsts p (plain.means look other firsts p h j)) (plain.notes look other firsts p h j));
      means = plain.means;
    }

pub rules_look_at_names : (a : Pieces) → LookAtNames Meaning NoteOf (rules_of a)
rules_look_at_names a =
    let s = scene_shown a.scene.now in
    look_at_names (λ look. looks_in s a.file a.known.now (inline_rules s a.inline.now) look) a.results.now a.has_names (by_names s a.file a.known.now a.inline.now)
