-- What the checker notes of a piece.
use Rattle.std.specs.Prelude.{Bool, List, Option}
use Rattle.go_tree_nodes.specs.declared.names.Ident.{Ident}
use Rattle.go_operand_core.specs.declared.types.Operand.{Operand}
use Rattle.go_term_core.specs.Terms.{Term}
use Rattle.go_stmt_core.specs.piece.Pieces.{piece_uses}
use Rattle.go_names_core.specs.declared.look.OpenNames.{OpenNames}
use Rattle.go_names_core.specs.Scope.{open_look}
use Rattle.go_env_core.specs.declared.meaning.Meaning.{Meaning}
use Rattle.go_env_core.specs.declared.meaning.Meaning.TheVariants as meanings
use Rattle.go_env_core.specs.Scenes.{scene_shown}
use Rattle.go_env_core.specs.Looks.{TheLooks, looks_in, inline_rules}
use Rattle.go_body_core.specs.declared.pieces.Pieces.{Pieces}
use Rattle.go_body_core.specs.declared.piece_trees.PieceTree.{PieceTree}
use Rattle.go_body_core.specs.Notes.{NoteOf, note}
use Rattle.go_body_core.specs.Rules.{declared_among, locals_of}
use Rattle.go_body_core.specs.mirrors.PieceTrees.{piece_of, faults_of, values_of}

-- the look-ups of a place, by what is open there
abbrev pub looks_at : Pieces → OpenNames Meaning → TheLooks
looks_at a names = looks_in (scene_shown a.scene.now) a.file a.known.now (inline_rules (scene_shown a.scene.now) a.inline.now) (open_look meanings.Outside names)

-- what its names stand for
abbrev pub values_at : Pieces → OpenNames Meaning → List Bool → PieceTree → List (Option (Operand Term))
values_at a names firsts t = values_of (looks_at a names) firsts t

-- what is noted of it, where it declares these names
abbrev pub noted_at : Pieces → OpenNames Meaning → List Bool → PieceTree → List Ident → NoteOf
noted_at a names firsts t idents =
    note (piece_uses (looks_at a names) (piece_of t)) (faults_of (looks_at a names) a.results.now a.has_names firsts t) (declared_among firsts (locals_of idents (values_at a names firsts t)))
