-- The pieces of a function of a package of which nothing is reported: what their names come to in code, that they break no rule, and what they declare.
use Rattle.std.proofs.Common.{◌≡◌, inl, ℕ, suc, ◌<◌, Bool, true, false, not, List, [], ◌∷◌, AllPairs, Contains, Some, None, refl, sym, ap, ◌∙◌, subst, arith}
use Rattle.go_constant_core.specs.text_core.Text.{is_blank}
use Rattle.go_tree_nodes.specs.declared.names.Ident.{Ident}
use Rattle.go_tree_nodes.specs.Trees.{FileTree, FuncTree}
use Rattle.go_names_core.specs.local_core.Binding.{Local, is_second}
use Rattle.go_names_core.specs.local_core.Law.{Out}
use Rattle.go_names_core.specs.local_core.Outline.{func_closes, func_opens, func_steps}
use Rattle.go_names_core.specs.local_core.Pieces.{ident_place, piece_declares}
use Rattle.go_names_core.specs.local_core.Steps.{Piece}
use Rattle.go_names_core.specs.local_core.Tables.{IsFuncPlaced, out_by_intervals}
use Rattle.go_names_core.specs.block_core.Naming.{file_specs}
use Rattle.go_term_core.specs.Terms.{Term, Sign}
use Rattle.go_body_core.specs.table_core.Entries.{Entry}
use Rattle.go_report_core.specs.operand_core.declared.types.Operand.{Operand}
use Rattle.go_report_core.specs.denote_core.declared.things.Outcome.TheVariants as outcomes
use Rattle.go_meaning_laws.specs.handle_core.Declarations.{Declaration}
use Rattle.go_body_core.specs.stmt_core.PieceHeaders.{returned_names, returned_types}
use Rattle.go_body_core.specs.stmt_core.PiecePieces.{piece_faults, piece_uses, piece_values}
use Rattle.go_body_core.specs.env_core.declared.meaning.Meaning.{Meaning as NameMeaning}
use Rattle.go_body_core.specs.env_core.declared.meaning.Meaning.TheVariants as means
use Rattle.go_body_core.specs.env_core.Looks.{TheLooks}
use Rattle.go_body_core.specs.Body.{BodyOf}
use Rattle.go_body_core.specs.Notes.{NoteOf, TheLocal, TheUse, TheValue, noted_faults}
use Rattle.go_body_core.specs.Rules.{local_if, value_at}
use Rattle.go_body_core.specs.function.Functions.{checked_func, func_by, func_rules}
use Rattle.go_body_core.specs.function.Laws.{FunctionsHaveOneTable}
use Rattle.go_body_core.specs.function.Locals.{LocalsAreDeclarations}
use Rattle.go_body_core.specs.function.Stands.{FileStand, outer_looks, outer_meanings}
use Rattle.go_body_core.specs.file.Files.{decl_faults, decl_locals, decl_uses, tops_uses}
use Rattle.go_body_core.specs.file.Imports.{imports_uses}
use Rattle.go_body_core.specs.file.Laws.{FunctionsArePlaced}
use Rattle.go_body_core.specs.file.Stands.{file_funcs}
use Rattle.go_report_core.specs.usage.Used.{TheOutcome, is_declared}
use Rattle.go_emit_core.specs.package_core.Checked.{imports_at}
use Rattle.go_emit_core.specs.package_core.PackagePartInputs.{InputModel}
use Rattle.go_emit_core.specs.package_core.PackagePartParts.{ContentOf, FileOf, package_seen, seen_by}
use Rattle.go_snap_core.specs.whole_workspace.LocalLaws.{ImportsBindTheirs}
use Rattle.go_object_core.specs.declared.instructions.letters.Word.{Word}
use Rattle.go_code_core.specs.declared.fragments.names.Meaning.{Meaning}
use Rattle.go_code_core.specs.fragments.Names.{CodeLooks}
use Rattle.go_emit_core.specs.meaning.Meanings.{constant_meaning_or, local_meaning, variable_meaning}
use Rattle.go_emit_core.specs.meaning.Words.{value_word}
use Rattle.go_emit_core.specs.lookup.Looking.{meaning_or_other}
use Rattle.go_emit_core.specs.Laws.{BodiesAreBetweenBraces, ObjectsAreOfFaultless}
use Rattle.go_workspace_laws.specs.folding.Laws.{AreMeant, HasDeclaration}
use Rattle.go_workspace_laws.specs.folding.Reading.{AreNamesRead}
use Rattle.go_workspace_laws.proofs.FoldingInside.{none_left, none_right}
use Rattle.go_workspace_laws.specs.ConstantLaws.{code_names_of}
use Rattle.go_workspace_laws.specs.Standing.{looks_among, pieces_of, stand_in_part}
use Rattle.go_workspace_laws.proofs.Agree.{names}
use Rattle.go_workspace_laws.proofs.Clean.{IsCleanFile, is_clean_file}
use Rattle.go_workspace_laws.proofs.ConstantLists.{HasItem, Rising, contained, found_at, has, has_flat, has_right, none_in}
use Rattle.go_workspace_laws.proofs.Pieces.{file_has, file_none}
use Rattle.go_workspace_laws.proofs.Within.{file_rises}
use Rattle.go_program_laws.specs.checked_sources.Variables.{variable_word}
use Rattle.go_program_laws.specs.types.Functions.{IsFunction, known_types, meaning_there, typing_in}
use Rattle.go_program_laws.proofs.TypesChecks.{steps_are_declaring}
use Rattle.go_program_laws.proofs.TypesSteps.{IsHeld, IsMade, among_item, made}

-- the laws of the crates below
pub record AreGiven : Type 0 where
  pub fine : ObjectsAreOfFaultless
  pub one : FunctionsHaveOneTable
  pub of_locals : LocalsAreDeclarations
  pub funcs : FunctionsArePlaced
  pub binds : ImportsBindTheirs
  pub between : BodiesAreBetweenBraces

declared_from : (o : TheOutcome) → is_declared o ≡ true → HasDeclaration o
declared_from (outcomes.Declared d) h = tt
declared_from (outcomes.Selected d path) h = tt
declared_from (outcomes.Refused rule) h = absurd (cc h)

rising_from : {X V : Type 0} (at : X → ℕ) (value : X → V) (xs : List X) → AllPairs (λ (x y : X). at x < at y) xs → Rising at value xs
rising_from at value [] h = tt
rising_from at value (x ∷ xs) h = (
  (λ y k. (let c = contained xs y k in let low = c.1 in subst (λ z. at x < at z) c.2 (h 0 (suc c.0) y (omega arith) (omega (arith, low))))),
  rising_from at value xs (λ i j d lt within. h (suc i) (suc j) d (omega (arith, lt)) (omega (arith, within))),
)

module _ (laws : AreGiven) (i : InputModel) (c : ContentOf) (n : ℕ) (t : FileTree) (f : FileOf) (g : FuncTree) (all : List (Local NameMeaning)) (h : IsFunction i c n t f g all) where
  abbrev pub st : FileStand
  st = stand_in_part i c n t

  abbrev pub looks : TheLooks
  looks = looks_among st all

  abbrev pub code : CodeLooks
  code = code_names_of i c n f g

  abbrev pub es : List Entry
  es = known_types i c

  pub file : IsCleanFile i c n t f
  file = is_clean_file laws.fine i c h.input h.part h.clean n t f h.tree h.file

  pub placed : IsFuncPlaced g
  placed = laws.funcs t h.placed g h.func

  pub g_there : HasItem (file_funcs t) g
  g_there = has (file_funcs t) g h.func

  pub rises : Rising (λ (l : TheLocal). l.offset) (λ (l : TheLocal). local_meaning es l.offset l.value) f.answers.locals
  rises =
      subst (Rising (λ (l : TheLocal). l.offset) (λ (l : TheLocal). local_meaning es l.offset l.value)) (sym file.locals)
      (file_rises laws.one st (λ (l : TheLocal). local_meaning es l.offset l.value) t h.placed)

  pub read : AreNamesRead Term Sign Declaration (List ℕ) looks (meaning_there i c n f)
  read = names laws.fine laws.one laws.of_locals laws.funcs laws.binds laws.between i c h.input h.others h.part h.clean n t f h.tree h.file h.grammar h.placed g h.func all h.right

  same_body : func_by st g all ≡ checked_func st g
  same_body = laws.one.regions st g placed all h.right

  abbrev pub law : Out NameMeaning NoteOf
  law = out_by_intervals (func_rules st g) (outer_meanings st) g all

  whole : (func_by st g all).faults ≡ []
  whole = ap (λ (b : BodyOf). b.faults) same_body ∙ file_none (decl_faults st) t g g_there file.faults

  -- no name is declared twice in its block
  pub none_twice : law.faults ≡ []
  none_twice = none_left law.faults _ (none_left _ _ (none_right (noted_faults law.notes) _ whole))

  -- a declaration that holds is a local of the file
  pub held_local : (at : ℕ) (value : TheValue) → IsHeld all law.declares (means.Local at value) → HasItem f.answers.locals (record { offset = at; value = value })
  held_local at value d =
      let l : TheLocal = record { offset = at; value = value } in
      let there : HasItem all d.item = subst (λ ds. HasItem ds d.item) (sym h.right) (among_item law.declares d.item d.there) in
      let here : HasItem (local_if (not (is_second all d.item.opens d.item.name d.item.at)) d.item.means) l =
      subst (λ b. HasItem (local_if (not b) d.item.means) l) (sym d.holds) (subst (λ m. HasItem (local_if true m) l) (sym d.means_is) (inl refl)) in
      let own : HasItem (checked_func st g).locals l =
      subst (λ ls. HasItem ls l) (sym (laws.of_locals.declared st g placed all h.right)) (has_flat (λ (e : Local NameMeaning). local_if (not (is_second all e.opens e.name e.at)) e.means) all d.item l there here) in
      subst (λ ls. HasItem ls l) (sym file.locals) (file_has (decl_locals st) t g g_there l own)

  -- a variable among them is over this in code
  pub typed_local : (at : ℕ) (o : Operand Term) (w : Word) → HasItem f.answers.locals (record { offset = at; value = Some o }) → o.constant ≡ None → value_word es o.value_type ≡ Some w → typing_in i c f at ≡ Some w
  typed_local at o w there none over =
      ap (λ m. variable_word (meaning_or_other m)) (found_at (λ (l : TheLocal). l.offset) (λ (l : TheLocal). local_meaning es l.offset l.value) f.answers.locals (record { offset = at; value = Some o }) rises there)
      ∙ (ap (λ k. variable_word (constant_meaning_or k (variable_meaning at (value_word es o.value_type)))) none ∙ ap (λ u. variable_word (variable_meaning at u)) over)

  module _ (p : Piece) (piece : Contains (pieces_of g) p) where
    step : IsMade (func_rules st g) (outer_meanings st) all law.notes law.declares p
    step = made (func_rules st g) (outer_meanings st) all (func_steps g) (func_opens g) (func_closes g) p (steps_are_declaring g) none_twice (has (pieces_of g) p piece)

    -- which of its names are the first of their block
    pub firsts : List Bool
    firsts = step.firsts

    in_file : (u : TheUse) → Contains (piece_uses looks p) u → HasItem f.answers.uses u
    in_file u k =
        let here = subst (λ (b : BodyOf). HasItem b.uses u) same_body (has_flat (λ (x : NoteOf). x.uses) law.notes _ u (step.notes _ (inl refl)) (has (piece_uses looks p) u k)) in
        subst (λ us. HasItem us u) (sym file.uses)
        (has_right (imports_uses (file_specs t) (imports_at (package_seen i c.blocks (seen_by i)) n)) (tops_uses st t.decls) u (file_has (decl_uses st) t g g_there u here))

    pub meant : AreMeant code (meaning_there i c n f) (piece_uses looks p)
    meant u k =
        let here = in_file u k in
        let value : TheUse → Meaning = λ v. meaning_there i c n f v.outcome in
        record {
          meaning = ap meaning_or_other (found_at (λ (v : TheUse). v.offset) value f.answers.uses u (rising_from (λ (v : TheUse). v.offset) value f.answers.uses (laws.between i c h.input h.part n t f h.tree h.file h.grammar h.placed).0) here);
          declared = declared_from u.outcome (file.declared u here);
        }

    pub sound : piece_faults looks (returned_types (outer_looks st) g.signature) (returned_names g.signature) firsts p ≡ []
    unfolding firsts step
    sound = none_in (λ (x : NoteOf). x.faults) law.notes _ (none_left (noted_faults law.notes) _ whole) (step.notes _ (inl refl))

    -- the one name that it declares
    pub single : (x : Ident) → piece_declares p ≡ x ∷ [] → is_blank x.name ≡ false → (firsts ≡ true ∷ []) × HasItem f.answers.locals (record { offset = x.span.start; value = value_at (piece_values looks (true ∷ []) p) 0 })
    unfolding firsts step
    single x e named =
        let s = step.single x e named in
        let at : ident_place (piece_declares p) 0 ≡ x.span.start = ap (λ xs. ident_place xs 0) e in (
          s.0,
          subst (λ k. HasItem f.answers.locals (record { offset = k; value = value_at (piece_values looks (true ∷ []) p) 0 })) at (held_local (ident_place (piece_declares p) 0) (value_at (piece_values looks (true ∷ []) p) 0) s.1),
        )
