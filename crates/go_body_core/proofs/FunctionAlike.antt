-- Where the names of a piece mean the same, the types that it writes are the same, and the rules of a function say the same of it.
use Rattle.std.proofs.Common.{◌≡◌, ℕ, List, [], ◌∷◌, Option, Some, None, refl, sym, ap, subst, ◌∙◌}
use Rattle.std.specs.Prelude.{if◌then◌else◌}
use Rattle.go_text_core.proofs.Each.{Each}
use Rattle.go_text_core.specs.declared.span.Span.{Span}
use Rattle.go_tree_nodes.specs.Terminals.{Terminal, TerminalKind, Spelled, Number, Quoted, Word, Mark, Stray}
use Rattle.go_tree_nodes.specs.Trees.{TypeTree, FuncTree}
use Rattle.go_decl_core.specs.declared.keys.DeclKey.{DeclKey}
use Rattle.go_term_core.specs.Terms.{Term, Sign, NoType}
use Rattle.go_term_core.specs.declared.settling.kind.Kind.{Kind}
use Rattle.go_typexpr_core.specs.written.Written as types
use Rattle.go_typexpr_core.specs.written.Written.{InFile}
use Rattle.go_handle_core.specs.Declarations.{Declaration}
use Rattle.go_local_core.specs.Steps.{Piece, spell_piece}
use Rattle.go_local_core.specs.Binding.{NameLook}
use Rattle.go_local_core.specs.Pieces.{piece_types}
use Rattle.go_local_core.specs.Alike.{Alike, AlikeAt, LookAtNames}
use Rattle.go_expr_core.specs.Locality.{SameWritten}
use Rattle.go_inline_core.specs.declared.scoped.Scoped.{Scoped}
use Rattle.go_inline_core.specs.declared.scoped.Scoped.TheVariants as scoped
use Rattle.go_inline_core.specs.Types.{InlineOf}
use Rattle.go_inline_core.specs.Inline.{inline_of, inlines}
use Rattle.go_inline_core.specs.Functions.{looked_up_ident, is_local, meaning_in}
use Rattle.go_inline_core.specs.mirrors.Alike.{inlines_alike}
use Rattle.go_stmt_core.specs.piece.Headers.{returned_types, returned_names}
use Rattle.go_stmt_core.specs.piece.Laws.{FindByNames}
use Rattle.go_env_core.specs.declared.meaning.Meaning.{Meaning}
use Rattle.go_env_core.specs.declared.meaning.Meaning.TheVariants as meanings
use Rattle.go_env_core.specs.Found.{found_of}
use Rattle.go_env_core.specs.Looks.{inline_type, inline_faults}
use Rattle.go_body_core.specs.Notes.{NoteOf}
use Rattle.go_body_core.specs.mirrors.Names.{look_at_names}
use Rattle.go_body_core.specs.function.Types.{is_local_meaning, named_where}
use Rattle.go_body_core.specs.function.Stands.{FileStand, kinds_in_scene, looks_where, outer_looks}
use Rattle.go_body_core.specs.function.Functions.{func_rules}

-- a name that is a local, as one that is known for a local alone

abbrev scoped_of : Option Meaning → Option Scoped
scoped_of o = if is_local_meaning o then Some scoped.Local else None

abbrev scoped_look : NameLook Meaning → NameLook Scoped
scoped_look look name place = scoped_of (look name place)

is_same : (o : Option Meaning) → is_local (scoped_of o) ≡ is_local_meaning o
is_same None = refl
is_same (Some (meanings.Outside o)) = refl
is_same (Some (meanings.Local at value)) = refl

means_same : (look : NameLook Meaning) (top : types.Meaning) → meaning_in (scoped_look look) top ≡ named_where look top
means_same look top = λ j n. ap (λ b. if b then NoType else top n) (is_same (look (looked_up_ident n).name (looked_up_ident n).span.start)) j

at_scoped : (look other : NameLook Meaning) (k : TerminalKind) (s : Span) → AlikeAt look other k s → AlikeAt (scoped_look look) (scoped_look other) k s
at_scoped look other (Spelled n) s h = ap scoped_of h
at_scoped look other (Number n) s h = tt
at_scoped look other (Quoted bs) s h = tt
at_scoped look other (Word k) s h = tt
at_scoped look other (Mark o) s h = tt
at_scoped look other Stray s h = tt

alike_scoped : (look other : NameLook Meaning) (ts : List Terminal) → Alike look other ts → Alike (scoped_look look) (scoped_look other) ts
alike_scoped look other [] h = tt
alike_scoped look other (t ∷ ts) h = (at_scoped look other t.kind t.span h.0, alike_scoped look other ts h.1)

-- types that are listed with what they are, one by one

abbrev first_or : InlineOf → List (ℕ × InlineOf) → InlineOf
first_or i [] = i
first_or i (x ∷ xs) = x.1

abbrev behind : List (ℕ × InlineOf) → List (ℕ × InlineOf)
behind [] = []
behind (x ∷ xs) = xs

module _ (kind : DeclKey → Kind) (f : InFile) where
  -- types are the same by two meanings of names
  abbrev pub AreSame : types.Meaning → types.Meaning → List TypeTree → Type 0
  AreSame mean one ts = Each (λ t. inline_of kind f mean t ≡ inline_of kind f one t) ts

  each_same : (mean one : types.Meaning) (ts : List TypeTree) → inlines kind f mean ts ≡ inlines kind f one ts → AreSame mean one ts
  each_same mean one [] h = tt
  each_same mean one (t ∷ ts) h = (ap (first_or (inline_of kind f mean t)) h, each_same mean one ts (ap behind h))

  -- the types of a piece are the same where the names that it writes mean the same
  pub types_same : (top : types.Meaning) (look other : NameLook Meaning) (p : Piece) → Alike look other (spell_piece p) → AreSame (named_where look top) (named_where other top) (piece_types p)
  types_same top look other p h =
      let ts = piece_types p in
      each_same (named_where look top) (named_where other top) ts
      (ap (λ mean. inlines kind f mean ts) (sym (means_same look top))
      ∙ ((inlines_alike kind f top).notes (scoped_look look) (scoped_look other) [] p (alike_scoped look other (spell_piece p) h)
      ∙ ap (λ mean. inlines kind f mean ts) (means_same other top)))

module _ (st : FileStand) where
  made_same : (look other : NameLook Meaning) (ts : List TypeTree) → AreSame (kinds_in_scene st.scene) st.file (named_where look st.top) (named_where other st.top) ts → SameWritten (looks_where st look) (looks_where st other) ts
  made_same look other [] h = tt
  made_same look other (t ∷ ts) h = (
    record { type_of = ap (λ i. inline_type st.scene.types (Some i)) h.0; faults_of = ap (λ i. inline_faults (Some i)) h.0 },
    made_same look other ts h.1,
  )

  by_names : FindByNames Meaning Term Sign Declaration (List ℕ) (looks_where st)
  by_names = record {
    rest = λ look other. refl;
    find = λ look other name offset h. ap (found_of st.scene st.file.file st.known name) h;
    written = λ look other p h.
        made_same look other (piece_types p) (types_same (kinds_in_scene st.scene) st.file st.top look other p h);
  }

  pub rules_look_at_names : (f : FuncTree) → LookAtNames Meaning NoteOf (func_rules st f)
  rules_look_at_names f =
      look_at_names (looks_where st) (returned_types (outer_looks st) f.signature) (returned_names f.signature) by_names
