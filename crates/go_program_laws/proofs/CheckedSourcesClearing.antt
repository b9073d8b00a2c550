-- The pieces of functions of packages without faults break no rule, and their names are what they are to the check.
use Rattle.std.proofs.Common.{◌≡◌, inl, ℕ, suc, ◌<◌, Bool, true, List, [], ◌∷◌, ◌++◌, AllPairs, Contains, Some, refl, sym, ap, ◌∙◌, subst, arith}
use Rattle.std.specs.Prelude.{slice_get}
use Rattle.go_tree_nodes.specs.Rules.{Wf_file}
use Rattle.go_tree_nodes.specs.Spelling.{IsPlaced}
use Rattle.go_tree_nodes.specs.Trees.{FileTree, FuncTree}
use Rattle.go_names_core.specs.local_core.Binding.{Local}
use Rattle.go_names_core.specs.local_core.Outline.{func_closes, func_opens, func_steps}
use Rattle.go_names_core.specs.local_core.Steps.{Piece}
use Rattle.go_names_core.specs.local_core.Tables.{out_by_intervals, IsFuncPlaced}
use Rattle.go_term_core.specs.Terms.{Term, Sign}
use Rattle.go_report_core.specs.denote_core.declared.things.Outcome.TheVariants as outcomes
use Rattle.go_body_core.specs.stmt_core.PieceHeaders.{returned_names, returned_types}
use Rattle.go_body_core.specs.stmt_core.PiecePieces.{piece_faults, piece_uses}
use Rattle.go_emit_core.specs.lookup.Looking.{meaning_or_other}
use Rattle.go_workspace_laws.specs.folding.Laws.{AreMeant, HasDeclaration}
use Rattle.go_workspace_laws.specs.folding.Reading.{AreRead}
use Rattle.go_workspace_laws.proofs.FoldingFolding.{read_over}
use Rattle.go_workspace_laws.proofs.FoldingInside.{none_left}
use Rattle.go_body_core.specs.Body.{BodyOf}
use Rattle.go_body_core.specs.Notes.{NoteOf, TheLocal, TheUse, noted_faults}
use Rattle.go_body_core.specs.env_core.Looks.{TheLooks}
use Rattle.go_body_core.specs.env_core.declared.meaning.Meaning.{Meaning as NameMeaning}
use Rattle.go_meaning_laws.specs.handle_core.Declarations.{Declaration}
use Rattle.go_emit_core.specs.meaning.Looking.{locals_meant}
use Rattle.go_emit_core.specs.meaning.Meanings.{local_meaning}
use Rattle.go_emit_core.specs.meaning.Scenes.{outcome_meaning}
use Rattle.go_emit_core.specs.package_core.PackagePartInputs.{InputModel, IsInput, path_in}
use Rattle.go_emit_core.specs.package_core.PackagePartParts.{ContentOf, FileOf, IsPart, package_seen, seen_by}
use Rattle.go_emit_core.specs.package_core.PreparePackages.{trees_in}
use Rattle.go_report_core.specs.summary_core.Views.{types_told}
use Rattle.go_emit_core.specs.Emitted.{are_clean, code_scene_over, told_to}
use Rattle.go_emit_core.specs.Laws.{BodiesAreBetweenBraces, ObjectsAreOfFaultless}
use Rattle.go_workspace_laws.specs.Calling.{without_methods}
use Rattle.go_workspace_laws.specs.ConstantLaws.{ImportsAreOthers, code_names_of}
use Rattle.go_workspace_laws.specs.Standing.{looks_among, pieces_of, stand_in_part}
use Rattle.go_body_core.specs.file.Files.{decl_faults, decl_uses, tops_uses}
use Rattle.go_body_core.specs.file.Imports.{imports_uses}
use Rattle.go_body_core.specs.file.Laws.{FunctionsArePlaced}
use Rattle.go_body_core.specs.file.Stands.{file_funcs}
use Rattle.go_body_core.specs.function.Functions.{AreFuncDeclarations, checked_func, func_by, func_rules}
use Rattle.go_body_core.specs.function.Laws.{FunctionsHaveOneTable}
use Rattle.go_body_core.specs.function.Locals.{LocalsAreDeclarations}
use Rattle.go_body_core.specs.function.Stands.{FileStand, outer_looks, outer_meanings}
use Rattle.go_workspace_laws.proofs.Clean.{IsCleanFile, is_clean_file}
use Rattle.go_workspace_laws.proofs.ConstantCalling.{meant_calm}
use Rattle.go_workspace_laws.proofs.ConstantLists.{HasItem, Rising, contained, found_at, has, has_flat, has_right, none_in}
use Rattle.go_workspace_laws.proofs.Names.{are_read}
use Rattle.go_workspace_laws.proofs.Pieces.{IsNoted, file_has, file_none, noted}
use Rattle.go_workspace_laws.proofs.Within.{file_rises}
use Rattle.go_names_core.specs.block_core.Naming.{file_specs}
use Rattle.go_emit_core.specs.package_core.Checked.{imports_at}
use Rattle.go_snap_core.specs.whole_workspace.LocalLaws.{ImportsBindTheirs}
use Rattle.go_report_core.specs.usage.Used.{TheOutcome, is_declared}
use Rattle.go_program_laws.specs.checked_sources.Pieces.{ConstantsAreTyped, PiecesAreClear, meaning_in}
use Rattle.go_program_laws.specs.checked_sources.Statements.{IsClear}
use Rattle.go_program_laws.proofs.CheckedSourcesNamed.{are_typed}
use Rattle.go_program_laws.proofs.CheckedSourcesTypes.{types_keep_basics}

declared_from : (o : TheOutcome) → is_declared o ≡ true → HasDeclaration o
declared_from (outcomes.Declared d) h = tt
declared_from (outcomes.Selected d path) h = tt
declared_from (outcomes.Refused rule) h = absurd (cc h)

rising_from : {X V : Type 0} (at : X → ℕ) (value : X → V) (xs : List X) → AllPairs (λ (x y : X). at x < at y) xs → Rising at value xs
rising_from at value [] h = tt
rising_from at value (x ∷ xs) h = (
  (λ y k. (let c = contained xs y k in let low = c.1 in subst (λ z. at x < at z) c.2 (h 0 (suc c.0) y (omega arith) (omega (arith, low))))),
  rising_from at value xs (λ i j d lt within. h (suc i) (suc j) d (omega (arith, lt)) (omega (arith, within))),
)

module _ (fine : ObjectsAreOfFaultless) (one : FunctionsHaveOneTable) (of_locals : LocalsAreDeclarations) (funcs : FunctionsArePlaced) (binds : ImportsBindTheirs) (between : BodiesAreBetweenBraces) (i : InputModel) (c : ContentOf) (well : IsInput i) (others : ImportsAreOthers i) (part : IsPart i c) (clean : are_clean c.files ≡ true)
    (n : ℕ) (t : FileTree) (f : FileOf) (tree : slice_get (trees_in i.source) n ≡ Some t) (there : slice_get c.files n ≡ Some f) (grammar : Wf_file t) (in_order : IsPlaced t) (g : FuncTree) (func : Contains (file_funcs t) g) (all : List (Local NameMeaning)) (right : AreFuncDeclarations (stand_in_part i c n t) g all) where
  abbrev st : FileStand
  st = stand_in_part i c n t

  abbrev looks : TheLooks
  looks = looks_among st all

  file : IsCleanFile i c n t f
  file = is_clean_file fine i c well part clean n t f tree there

  rises : Rising (λ (l : TheLocal). l.offset) (λ (l : TheLocal). local_meaning (types_told (told_to i c)) l.offset l.value) f.answers.locals
  rises =
      subst (Rising (λ (l : TheLocal). l.offset) (λ (l : TheLocal). local_meaning (types_told (told_to i c)) l.offset l.value)) (sym file.locals)
      (file_rises one st (λ (l : TheLocal). local_meaning (types_told (told_to i c)) l.offset l.value) t in_order)

  placed : IsFuncPlaced g
  placed = funcs t in_order g func

  g_there : HasItem (file_funcs t) g
  g_there = has (file_funcs t) g func

  read : AreRead Term Sign Declaration (List ℕ) looks (meaning_in i c n f)
  read = are_read binds of_locals i c well others part n t f file rises g g_there placed all right

  same_body : func_by st g all ≡ checked_func st g
  same_body = one.regions st g placed all right

  abbrev notes : List NoteOf
  notes = (out_by_intervals (func_rules st g) (outer_meanings st) g all).notes

  module _ (p : Piece) (piece : Contains (pieces_of g) p) where
    noted_piece : IsNoted (func_rules st g) (outer_meanings st) all notes p
    noted_piece = noted (func_rules st g) (outer_meanings st) all (func_steps g) (func_opens g) (func_closes g) p (has (pieces_of g) p piece)

    in_file : (u : TheUse) → Contains (piece_uses looks p) u → HasItem f.answers.uses u
    in_file u h =
        let here = subst (λ (b : BodyOf). HasItem b.uses u) same_body (has_flat (λ (x : NoteOf). x.uses) notes _ u (noted_piece.there _ (inl refl)) (has (piece_uses looks p) u h)) in
        subst (λ us. HasItem us u) (sym file.uses)
        (has_right (imports_uses (file_specs t) (imports_at (package_seen i c.blocks (seen_by i)) n)) (tops_uses st t.decls) u (file_has (decl_uses st) t g g_there u here))

    meant : AreMeant (code_names_of i c n f g) (outcome_meaning (code_scene_over (told_to i c) i c) n (locals_meant (types_told (told_to i c)) f.answers.locals)) (piece_uses looks p)
    meant u h =
        let here = in_file u h in
        let value = λ (v : TheUse). outcome_meaning (code_scene_over (told_to i c) i c) n (locals_meant (types_told (told_to i c)) f.answers.locals) v.outcome in
        record {
          meaning = ap meaning_or_other (found_at (λ (v : TheUse). v.offset) value f.answers.uses u (rising_from (λ (v : TheUse). v.offset) value f.answers.uses (between i c well part n t f tree there grammar in_order).0) here);
          declared = declared_from u.outcome (file.declared u here);
        }

    sound : piece_faults looks (returned_types (outer_looks st) g.signature) (returned_names g.signature) noted_piece.firsts p ≡ []
    sound =
        let whole : noted_faults notes ++ _ ≡ [] = ap (λ (b : BodyOf). b.faults) same_body ∙ file_none (decl_faults st) t g g_there file.faults in
        none_in (λ (x : NoteOf). x.faults) notes _ (none_left (noted_faults notes) _ whole) (noted_piece.there _ (inl refl))

    clear : ConstantsAreTyped Term Sign Declaration (List ℕ) looks
        → (firsts : List Bool) × IsClear Term Sign Declaration (List ℕ) looks (without_methods (code_names_of i c n f g)) (meaning_in i c n f) (returned_types (outer_looks st) g.signature) (returned_names g.signature) firsts p
    clear constants = (
      noted_piece.firsts,
      record {
        alike = record {
          read = read_over looks (meaning_in i c n f) read;
          typed = are_typed of_locals i c n t f file rises g g_there placed all right read constants;
          keep = types_keep_basics.keep (types_told (told_to i c)) (path_in i);
          identity = types_keep_basics.identity (types_told (told_to i c)) (path_in i);
        };
        meant = meant_calm looks (outcome_meaning (code_scene_over (told_to i c) i c) n (locals_meant (types_told (told_to i c)) f.answers.locals)) (code_names_of i c n f g) (piece_uses looks p) meant;
        sound = sound;
      },
    )

pub pieces_clear : ObjectsAreOfFaultless → FunctionsHaveOneTable → LocalsAreDeclarations → FunctionsArePlaced → ImportsBindTheirs → BodiesAreBetweenBraces → PiecesAreClear
pieces_clear fine one of_locals funcs binds between i c well others part clean n t f tree there grammar in_order g func all right constants p piece =
    clear fine one of_locals funcs binds between i c well others part clean n t f tree there grammar in_order g func all right p piece constants
