-- The constants of a package are of types over what their values are, where those are so that it imports.
use Rattle.std.proofs.Common.{◌≡◌, inl, inr, ℕ, zero, suc, ◌||◌, Bool, true, false, List, [], ◌∷◌, ◌++◌, map, length, All, Contains, Option, Some, None, nat_eq, refl, sym, ap, subst, ◌∙◌, append-nil, if◌then◌else◌}
use Rattle.std.specs.Prelude.{slice_get, slice_index_or}
use Rattle.std.specs.List.{AllByRecursion, enumerate_from, list_any, range_with_len}
use Rattle.std.specs.Str.{bytes_eq}
use Rattle.std.proofs.lemmas.Bool.{eq-eqb, eqb-true}
use Rattle.std.proofs.lemmas.Grind.{flat_map-append}
use Rattle.go_constant_core.specs.text_core.declared.span.Span.{Span}
use Rattle.go_tree_nodes.specs.declared.decls.ValueKind.{ValueKind}
use Rattle.go_tree_nodes.specs.declared.decls.ValueKind.TheVariants as kinds
use Rattle.go_tree_nodes.specs.Spelling.{IsPlaced}
use Rattle.go_tree_nodes.specs.Trees.{TypeTree, ValueSpecTree}
use Rattle.go_term_core.specs.decl_core.TopDecls.{FormTree, FuncForm, TopDeclTree, TypeForm, ValueForm}
use Rattle.go_term_core.specs.decl_core.declared.keys.DeclRef.{DeclRef}
use Rattle.go_digraph_core.specs.needs.Needs.{EndsWithin, known_in, needed}
use Rattle.go_term_core.specs.Terms.{Term, Sign}
use Rattle.go_report_core.specs.operand_core.declared.types.Operand.{Operand}
use Rattle.go_report_core.specs.operand_core.TypeRules.{TypeRules}
use Rattle.go_meaning_laws.specs.handle_core.DecidingRules.{term_rules}
use Rattle.go_body_core.specs.stmt_core.StatementDeclarations.{initial_types}
use Rattle.go_body_core.specs.env_core.Looks.{inline_rules}
use Rattle.go_body_core.specs.env_core.Scenes.{SceneModel}
use Rattle.go_body_core.specs.env_core.declared.meaning.Meaning.{Meaning as NameMeaning}
use Rattle.go_body_core.specs.env_core.declared.meaning.Meaning.TheVariants as means
use Rattle.go_emit_core.specs.declared_core.Faces.{TheFace, variable_face}
use Rattle.go_emit_core.specs.declared_core.Packages.{PackageFacesModel, face_by, package_in}
use Rattle.go_emit_core.specs.declared_core.Written.{WrittenOf, declared_face, face_found, file_written, form_as_written, type_written, value_as_written, written_at}
use Rattle.go_meaning_laws.specs.handle_core.Declarations.{Declaration}
use Rattle.go_names_core.specs.declared.meaning.Outside.{Outside}
use Rattle.go_body_core.specs.typexpr_core.WrittenWritten.{InFile as WrittenFile, Meaning as WrittenMeaning}
use Rattle.go_body_core.specs.typexpr_core.EntryEntries.{file_at, package_meanings}
use Rattle.go_body_core.specs.typexpr_core.EntryOutlines.{FileOutline}
use Rattle.go_body_core.specs.function.Types.{is_local_meaning}
use Rattle.go_body_core.specs.inline_core.Types.{InlineOf}
use Rattle.go_emit_core.specs.package_core.PackagePartInputs.{InputModel}
use Rattle.go_emit_core.specs.package_core.PackagePartParts.{ContentOf, IsPart, package_seen, seen_by}
use Rattle.go_body_core.specs.stmt_core.PieceSpecifications.{values_given}
use Rattle.go_emit_core.specs.package_core.PrepareLaws.{package_placed}
use Rattle.go_emit_core.specs.package_core.PreparePackages.{PackageIn, outlines_in, scene_in, shows_in, trees_in}
use Rattle.go_emit_core.specs.package_core.PrepareValues.{AreDeclared}
use Rattle.go_report_core.specs.summary_core.Summaries.{SummaryModel}
use Rattle.go_report_core.specs.summary_core.Views.{faces_told, types_told}
use Rattle.go_body_core.specs.table_core.Entries.{Entry}
use Rattle.go_snap_core.specs.value_core.Initial.{initialiser_values, some_written_type, spec_name_count}
use Rattle.go_snap_core.specs.value_core.Laws.{AreFaces}
use Rattle.go_snap_core.specs.value_core.Package.{PlacedOf, first_values, form_face, package_needs, some_face, top_look, top_looks, value_face, written_face}
use Rattle.go_snap_core.specs.value_core.Seeing.{looks_at_needs}
use Rattle.go_emit_core.specs.Emitted.{told_to}
use Rattle.go_body_core.proofs.FunctionRegions.{none_outside}
use Rattle.go_emit_core.specs.package_core.PrepareTables.{values_as_written}
use Rattle.go_body_core.specs.file.Laws.{FunctionsArePlaced}
use Rattle.go_body_core.specs.function.Laws.{FunctionsHaveOneTable}
use Rattle.go_body_core.specs.function.Locals.{LocalsAreDeclarations}
use Rattle.go_body_core.specs.function.Stands.{FileStand, outer_meanings}
use Rattle.go_workspace_laws.specs.Standing.{stand_in_part}
use Rattle.go_workspace_laws.proofs.ConstantLists.{HasItem, contained, from_flat, has, has_get, has_of_all}
use Rattle.go_program_laws.specs.calls.Constants.{IsValueOver, NamesAreOver}
use Rattle.go_program_laws.specs.calls.Packages.{AreToldOver, DeclarationsKeepTypes, FunctionsKeepTypes, IsFaceOver, IsSomeFaceOver, rules_in}
use Rattle.go_program_laws.proofs.CallsDenoting.{all_constants_over, given_over, variables_over}
use Rattle.go_program_laws.proofs.CallsScenes.{IsMeaningOver, function_typed, kept_types, names_over}

-- lists

any_there : (xs : List ℕ) (b : ℕ) → list_any (nat_eq b) xs ≡ true → HasItem xs b
any_there [] b h = absurd (cc h)
any_there (x ∷ xs) b h = by (nat_eq b x) refl (λ k. any_there xs b k) h
  where
    by : (t : Bool) → nat_eq b x ≡ t → (list_any (nat_eq b) xs ≡ true → HasItem xs b) → (t || list_any (nat_eq b) xs) ≡ true → HasItem (x ∷ xs) b
    by true e rest h = inl (sym (eqb-true b x e))
    by false e rest h = inr (rest h)

there_any : (xs : List ℕ) (b : ℕ) → HasItem xs b → list_any (nat_eq b) xs ≡ true
there_any [] b h = absurd h
there_any (x ∷ xs) b (inl e) = ap (λ t. t || list_any (nat_eq b) xs) (eq-eqb b x (sym e))
there_any (x ∷ xs) b (inr h) = by (nat_eq b x) (there_any xs b h)
  where
    by : (t : Bool) → list_any (nat_eq b) xs ≡ true → (t || list_any (nat_eq b) xs) ≡ true
    by true e = refl
    by false e = e

module _ (rules : TypeRules Term) where
  indexed_over : (vs : List (Option (Operand Term))) → AllByRecursion (IsValueOver rules) vs → (n : ℕ) → IsValueOver rules (slice_index_or vs n None)
  indexed_over [] h n = tt
  indexed_over (v ∷ vs) h zero = h.0
  indexed_over (v ∷ vs) h (suc n) = indexed_over vs h.1 n

  firsts_over : (f : ℕ → Option TheFace) → ((b : ℕ) → IsSomeFaceOver rules (f b)) → (xs : List ℕ) (k : ℕ) → IsSomeFaceOver rules (slice_index_or (map f xs) k None)
  firsts_over f h [] k = tt
  firsts_over f h (x ∷ xs) zero = h x
  firsts_over f h (x ∷ xs) (suc k) = firsts_over f h xs k

  -- what is written of a declaration is no constant

  variable_written : (t : Option Term) → IsFaceOver rules (variable_face t)
  variable_written None = tt
  variable_written (Some t) = tt

  value_written : (mean : WrittenMeaning) (f : WrittenFile) (es : List Entry) (k : ValueKind) (t : Option TypeTree) → IsSomeFaceOver rules (value_as_written mean f es k t)
  value_written mean f es kinds.Var (Some t) = variable_written (type_written mean f es t)
  value_written mean f es kinds.Var None = tt
  value_written mean f es kinds.Const t = tt

  type_face_written : (mark : Option Span) (mean : WrittenMeaning) (f : WrittenFile) (es : List Entry) (n : ℕ) (t : TypeTree) → IsFaceOver rules (declared_face mark mean f es n t)
  type_face_written None mean f es n t = tt
  type_face_written (Some m) mean f es n t = tt

  form_written : (mean : WrittenMeaning) (f : WrittenFile) (es : List Entry) (n : ℕ) (t : FormTree) → IsSomeFaceOver rules (form_as_written mean f es n t)
  form_written mean f es n (ValueForm k v i) = value_written mean f es k v.type_expr
  form_written mean f es n (TypeForm t) = type_face_written t.alias mean f es n t.type_expr
  form_written mean f es n (FuncForm g) = tt

  decls_written : (mean : WrittenMeaning) (f : WrittenFile) (es : List Entry) (ds : List TopDeclTree) (w : WrittenOf) → HasItem (file_written mean f es ds) w → IsSomeFaceOver rules w.face
  decls_written mean f es [] w h = absurd h
  decls_written mean f es (d ∷ ds) w (inl e) = subst (λ (x : WrittenOf). IsSomeFaceOver rules x.face) e (form_written mean f es d.number d.form)
  decls_written mean f es (d ∷ ds) w (inr h) = decls_written mean f es ds w h

  found_written : (ws : List WrittenOf) → ((w : WrittenOf) → HasItem ws w → IsSomeFaceOver rules w.face) → (o : Option WrittenOf) (n : ℕ) → slice_get ws n ≡ o → IsSomeFaceOver rules (face_found o)
  found_written ws h None n e = tt
  found_written ws h (Some w) n e = h w (has_get ws n w e)

  some_written : (o : Option TheFace) → IsSomeFaceOver rules o → IsFaceOver rules (written_face o)
  some_written None h = tt
  some_written (Some f) h = h

  packages_shown : (ws : List PackageFacesModel) (q : List ℕ) (w : PackageFacesModel) → package_in ws q ≡ Some w → HasItem ws w
  packages_shown [] q w e = absurd (cc e)
  packages_shown (x ∷ ws) q w e = by (bytes_eq q x.path) (λ k. packages_shown ws q w k) e
    where
      by : (t : Bool) → (package_in ws q ≡ Some w → HasItem ws w) → (if t then Some x else package_in ws q) ≡ Some w → HasItem (x ∷ ws) w
      by true rest e = (let same : x ≡ w = cc e in inl same)
      by false rest e = inr (rest e)

  faces_over : (ss : List SummaryModel) → ((s : SummaryModel) → HasItem ss s → (d : DeclRef) → IsSomeFaceOver rules (face_by s.faces d)) → (w : PackageFacesModel) → HasItem (faces_told ss) w → (d : DeclRef) → IsSomeFaceOver rules (face_by w d)
  faces_over [] h w there d = absurd there
  faces_over (s ∷ ss) h w (inl e) d = subst (λ (x : PackageFacesModel). IsSomeFaceOver rules (face_by x d)) e (h s (inl refl) d)
  faces_over (s ∷ ss) h w (inr there) d = faces_over ss (λ x k. h x (inr k)) w there d

-- outside functions a name means no local

outer_over : (P : NameMeaning → Type 0) → ((o : Outside) → P (means.Outside o)) → (o : Option NameMeaning) → is_local_meaning o ≡ false → (m : NameMeaning) → o ≡ Some m → P m
outer_over P h None none m e = absurd (cc e)
outer_over P h (Some (means.Outside x)) none m e = (let same : means.Outside x ≡ m = cc e in subst P same (h x))
outer_over P h (Some (means.Local at v)) none m e = absurd (cc none)

-- a scene

module _ (s : SceneModel) (written : (n : ℕ) → IsSomeFaceOver (term_rules s.types s.path) (written_at s.written n)) (shown : (q : List ℕ) (w : PackageFacesModel) → package_in s.others q ≡ Some w → (d : DeclRef) → IsSomeFaceOver (term_rules s.types s.path) (face_by w d)) where
  abbrev rules : TypeRules Term
  rules = term_rules s.types s.path

  module _ (f : ℕ → Option TheFace) (known : (b : ℕ) → IsSomeFaceOver rules (f b)) (file : ℕ) (types : List (ℕ × InlineOf)) where
    abbrev table : List (Option TheFace)
    table = first_values (length s.written) f

    own : (k : ℕ) → IsSomeFaceOver rules (slice_index_or table k None)
    own k = firsts_over rules f known (range_with_len 0 (length s.written)) k

    top_over : (name : List ℕ) (place : ℕ) (x : NameMeaning) → top_look s.blocks file name place ≡ Some x → IsMeaningOver s file table own shown x
    top_over name place x e = outer_over (IsMeaningOver s file table own shown) (λ o. tt) (top_look s.blocks file name place) (none_outside s.blocks file name) x e

    looks_over : NamesAreOver Term Sign Declaration (List ℕ) (top_looks s file types f)
    looks_over = names_over s file table own shown (inline_rules s types) (top_look s.blocks file) top_over

    value_face_over : (o : Option TheFace) → IsSomeFaceOver rules o → (k : ValueKind) (t : Option TypeTree) (v : ValueSpecTree) (i : ℕ) → IsFaceOver rules (value_face (top_looks s file types f) o k t v i)
    value_face_over o h kinds.Const t v i =
        indexed_over rules (initialiser_values (top_looks s file types f) kinds.Const v)
        (all_constants_over (top_looks s file types f) (kept_types s) looks_over (some_written_type (top_looks s file types f) v.type_expr) (spec_name_count v) (values_given (top_looks s file types f) v.values) (given_over (top_looks s file types f) (kept_types s) looks_over v.values)) i
    value_face_over o h kinds.Var None v i =
        indexed_over rules (initialiser_values (top_looks s file types f) kinds.Var v)
        (variables_over (top_looks s file types f) (kept_types s) looks_over (initial_types rules (some_written_type (top_looks s file types f) v.type_expr) (spec_name_count v) (values_given (top_looks s file types f) v.values))) i
    value_face_over o h kinds.Var (Some t) v i = some_written rules o h

    form_face_over : (o : Option TheFace) → IsSomeFaceOver rules o → (t : FormTree) → IsFaceOver rules (form_face (top_looks s file types f) o t)
    form_face_over o h (ValueForm k v i) = value_face_over o h k v.type_expr v i
    form_face_over o h (TypeForm t) = some_written rules o h
    form_face_over o h (FuncForm g) = some_written rules o h

  face_over : (f : ℕ → Option TheFace) → ((b : ℕ) → IsSomeFaceOver rules (f b)) → (n : ℕ) (o : Option PlacedOf) → IsFaceOver rules (some_face s f n o)
  face_over f known n None = some_written rules (written_at s.written n) (written n)
  face_over f known n (Some p) = form_face_over f known p.file p.types (written_at s.written n) (written n) p.decl.form

  module _ (ds : List PlacedOf) (table : List (Option TheFace)) (right : AreFaces s ds table) where
    abbrev rows : List (List ℕ)
    rows = package_needs s ds

    -- what is known of what a declaration needs
    abbrev near : ℕ → ℕ → Option TheFace
    near a b = if list_any (nat_eq b) (needed rows a) then known_in table b else None

    near_same : (a b : ℕ) → Contains (needed rows a) b → known_in table b ≡ near a b
    near_same a b h = sym (ap (λ (t : Bool). if t then known_in table b else None) (there_any (needed rows a) b (has (needed rows a) b h)))

    near_over : (n a : ℕ) → EndsWithin rows (suc n) a → ((b : ℕ) (x : TheFace) → EndsWithin rows n b → known_in table b ≡ Some x → IsFaceOver rules x) → (b : ℕ) → IsSomeFaceOver rules (near a b)
    near_over n a ends h b = by (list_any (nat_eq b) (needed rows a)) refl
      where
        some : EndsWithin rows n b → (o : Option TheFace) → known_in table b ≡ o → IsSomeFaceOver rules o
        some end None is = tt
        some end (Some x) is = h b x end is

        by : (t : Bool) → list_any (nat_eq b) (needed rows a) ≡ t → IsSomeFaceOver rules (if t then known_in table b else None)
        by false e = tt
        by true e = some (ends b (contained (needed rows a) b (any_there (needed rows a) b e))) (known_in table b) refl

    known_over : (n a : ℕ) (face : TheFace) → EndsWithin rows n a → known_in table a ≡ Some face → IsFaceOver rules face
    known_over zero a face ends e = absurd ends
    known_over (suc n) a face ends e =
        subst (IsFaceOver rules) (sym (right.values a face e ∙ looks_at_needs s ds (known_in table) (near a) a (λ b h. near_same a b h)))
        (face_over (near a) (λ b. near_over n a ends (λ d x end is. known_over n d x end is) b) a (slice_get ds a))

    pub table_over : (k : ℕ) → IsSomeFaceOver rules (slice_index_or table k None)
    table_over k = by (known_in table k) refl
      where
        by : (o : Option TheFace) → known_in table k ≡ o → IsSomeFaceOver rules o
        by None e = tt
        by (Some x) e = known_over (length rows) k x (right.ends k x e) e

-- a part

module _ (i : InputModel) (c : ContentOf) (part : IsPart i c) (placed : All IsPlaced (trees_in i.source)) (told : AreToldOver i c) where
  abbrev p : PackageIn
  p = package_seen i c.blocks (seen_by i)

  abbrev es : List Entry
  es = types_told (told_to i c)

  types_are : es ≡ types_told i.reached ++ part.checked.types
  types_are =
      flat_map-append (λ (s : SummaryModel). s.types.entries) i.reached (c.summary ∷ [])
      ∙ ap (λ l. types_told i.reached ++ l) (append-nil c.summary.types.entries ∙ ap (λ (s : SummaryModel). s.types.entries) part.summary)

  declared : AreDeclared p es c.declared
  declared = subst (AreDeclared p es) (sym part.declared) (subst (λ ts. AreDeclared p ts part.checked.declared) (sym types_are) part.is_checked.declared)

  part_written : (n : ℕ) → IsSomeFaceOver (rules_in i c) (written_at (scene_in p es).written n)
  part_written n =
      found_written (rules_in i c) (scene_in p es).written
      (λ w h. (let one = from_flat (λ (q : ℕ × FileOutline). file_written (package_meanings (shows_in p) p.path p.blocks q.0) (file_at p.path q.0 q.1) es q.1.decls) (enumerate_from 0 (outlines_in p)) w h in
      decls_written (rules_in i c) _ _ es one.item.1.decls w one.here))
      (slice_get (scene_in p es).written n) n refl

  pub part_shown : (q : List ℕ) (w : PackageFacesModel) → package_in (faces_told i.reached) q ≡ Some w → (d : DeclRef) → IsSomeFaceOver (rules_in i c) (face_by w d)
  part_shown q w e d = faces_over (rules_in i c) i.reached (λ s h. told s (contained i.reached s h)) w (packages_shown (rules_in i c) (faces_told i.reached) q w e) d

  pub part_own : (k : ℕ) → IsSomeFaceOver (rules_in i c) (slice_index_or c.declared k None)
  part_own k = table_over (scene_in p es) part_written part_shown (package_placed p es) c.declared ((values_as_written.values p es c.declared placed).1 declared) k

pub declarations_keep : DeclarationsKeepTypes
declarations_keep i c part placed told k = part_own i c part placed told k

pub functions_keep : FunctionsHaveOneTable → LocalsAreDeclarations → FunctionsArePlaced → FunctionsKeepTypes
functions_keep one of_locals funcs i c part placed told n t tree g func all right =
    let st : FileStand = stand_in_part i c n t in
    let own = part_own i c part placed told in
    let shown = part_shown i c part placed told in
    let t_placed = has_of_all IsPlaced (trees_in i.source) t placed (has_get (trees_in i.source) n t tree) in
    function_typed one of_locals st own shown
    (λ name m e. outer_over (IsMeaningOver st.scene st.file.file st.known own shown) (λ o. tt) (outer_meanings st name) (none_outside st.scene.blocks st.file.file name) m e)
    g (funcs t t_placed g func) all right
