-- What the check of a package gives is declared in some packages alone, and mentions these alone, where its imports bind what is theirs and what they
-- tell does.
use Rattle.std.proofs.Common.{◌≡◌, ◌⊎◌, ◌++◌, ℕ, zero, suc, Bool, true, false, List, [], ◌∷◌, All, length, inl, inr, if◌then◌else◌, refl, sym, ap, subst, ◌∙◌}
use Rattle.std.specs.Prelude.{Option, Some, None, Contains, slice_get, slice_index_or}
use Rattle.std.specs.List.{AllZip, enumerate_from, range_with_len}
use Rattle.go_path_core.specs.text_core.declared.span.Span.{Span}
use Rattle.go_tree_nodes.specs.declared.decls.ValueKind.{ValueKind}
use Rattle.go_tree_nodes.specs.declared.decls.ValueKind.TheVariants as value_kinds
use Rattle.go_tree_nodes.specs.declared.types.TypeName.{TypeName}
use Rattle.go_tree_nodes.specs.Trees.{FileTree, TypeTree, ValueSpecTree}
use Rattle.go_term_core.specs.decl_core.declared.keys.DeclKey.{DeclKey}
use Rattle.go_term_core.specs.decl_core.declared.keys.DeclRef.{DeclRef}
use Rattle.go_term_core.specs.decl_core.TopDecls.{TopDeclTree, FormTree, ValueForm, TypeForm, FuncForm}
use Rattle.go_term_core.specs.Terms.{Term, Defined}
use Rattle.go_term_core.specs.settling.Settled.{settled}
use Rattle.go_body_core.specs.table_core.Entries.{Entry, find_entry}
use Rattle.govisd_resolve.specs.handle_core.DecidingConversion.{is_type_term}
use Rattle.govisd_resolve.specs.handle_core.DecidingRules.{typed}
use Rattle.go_report_core.specs.operand_core.declared.types.Operand.{Operand}
use Rattle.go_body_core.specs.typexpr_core.WrittenWritten.{InFile, Meaning, signature_of, term_of}
use Rattle.go_body_core.specs.typexpr_core.EntryEntries.{Meanings, file_at, package_meanings, type_key}
use Rattle.go_body_core.specs.typexpr_core.EntryOutlines.{FileOutline, outline_of}
use Rattle.go_body_core.specs.typexpr_core.EntryAmong.{Among, among_flat, among_from, among_map, among_to}
use Rattle.go_emit_core.specs.declared_core.Faces.{TheFace, variable_face}
use Rattle.go_emit_core.specs.declared_core.Laws.{FileDecl}
use Rattle.go_emit_core.specs.declared_core.Packages.{PackageFacesModel, face_among, face_by, face_in}
use Rattle.go_emit_core.specs.declared_core.Written as writing
use Rattle.go_emit_core.specs.declared_core.Written.{WrittenOf, declared_face, decls_of, face_found, file_written, same_decl_place, type_written, written_at, written_of, written_with}
use Rattle.go_body_core.specs.env_core.Looks.{TheLooks}
use Rattle.go_body_core.specs.function.Stands.{outer_looks}
use Rattle.go_body_core.specs.stmt_core.PieceSpecifications.{outer_values}
use Rattle.go_digraph_core.specs.needs.Needs.{EndsWithin, known_in, needed}
use Rattle.go_snap_core.specs.value_core.Initial.{initial}
use Rattle.go_snap_core.specs.value_core.Package as values
use Rattle.go_snap_core.specs.value_core.Package.{first_values, form_face, written_face}
use Rattle.go_snap_core.specs.value_core.Owning.{outer_alike}
use Rattle.go_snap_core.specs.value_core.Deciding.{needs_decide}
use Rattle.go_report_core.specs.answer.Shown.{exported_decls, is_decl_listed, shown_among, shown_if}
use Rattle.go_emit_core.specs.package_core.PrepareLaws.{package_placed}
use Rattle.go_emit_core.specs.declared_core.Places.{among_at}
use Rattle.go_emit_core.specs.package_core.PreparePackages.{PackageIn, entries_in, outlines_in, scene_in, shows_in, stand_in}
use Rattle.go_emit_core.specs.package_core.PrepareValues.{declared_in, decls_in, needs_in, some_decl_face}
use Rattle.go_emit_core.specs.package_core.PrepareValuesProofs.{faces_same, needs_same}
use Rattle.go_emit_core.specs.package_core.Checked.{AnswersOf, CheckedOf, IsChecked, IsFileChecked, imports_at, stand_at}
use Rattle.go_snap_core.specs.near.Near.{IfAny, NearOperand}
use Rattle.go_snap_core.proofs.NearClosing.{either}
use Rattle.go_snap_core.proofs.NearPieces.{outer_nearby}
use Rattle.go_snap_core.specs.whole_workspace.Known.{BindsInside}
use Rattle.go_snap_core.proofs.WholeWorkspaceValues.{each_at, is_or_not, mapped_at}
use Rattle.go_workspace_laws.proofs.Terms.{IsTermIn, settled_in, settled_sign_in, signature_in, term_in}
use Rattle.go_workspace_laws.proofs.Tables.{AreEntriesIn, IsEntryIn, both_in, own_in, written_in}
use Rattle.go_workspace_laws.proofs.Answers.{alike_itself}
use Rattle.go_workspace_laws.proofs.Uses.{IsUseIn}
use Rattle.go_workspace_laws.proofs.Functions.{IsImportIn, IsLocalIn, IsStandIn, Near, Rest, file_locals_in, file_uses_in, outer_closed}
use Rattle.go_workspace_laws.proofs.Meanings.{IsAnyIn, IsFaceIn, behind_dot_in, outside_in}
use Rattle.go_workspace_laws.proofs.Targets.{meaning_in}
use Rattle.go_tree_nodes.specs.Spelling.{IsPlaced}
use Rattle.go_body_core.specs.table_core.Entries.{kinds_in}
use Rattle.go_body_core.specs.stmt_core.StatementLocality.{Each}

-- what a table has for the numbers of a list, and nothing for others
abbrev kept : (ℕ → Option TheFace) → (ns : List ℕ) (m : ℕ) → Among ns m ⊎ (Among ns m → ⊥) → Option TheFace
kept known ns m (inl h) = known m
kept known ns m (inr other) = None

-- each that stands in such a relation is so
zipped_each : {A B : Type 0} (R : A → B → Type 0) (Is : B → Type 0) → ((x : A) (y : B) → R x y → Is y) → (xs : List A) (ys : List B) → AllZip R xs ys → Each Is ys
zipped_each R Is f [] [] h = tt
zipped_each R Is f [] (y ∷ ys) h = absurd h
zipped_each R Is f (x ∷ xs) [] h = tt
zipped_each R Is f (x ∷ xs) (y ∷ ys) h = (f x y h.0, zipped_each R Is f xs ys h.1)

-- what is shown is what declarations are

module _ (Is : TheFace → Type 0) where
  shown_all : (these ds : List DeclRef) (known : List (Option TheFace)) → ((n : ℕ) (f : TheFace) → slice_index_or known n None ≡ Some f → Is f)
      → (d : DeclRef) (f : TheFace) → face_among (shown_among these ds known) d ≡ Some f → Is f
  shown_all these [] known h d f e = absurd (let no : None ≡ Some f = e in cc)
  shown_all these (x ∷ ds) [] h d f e = absurd (let no : None ≡ Some f = e in cc)
  shown_all these (x ∷ ds) (o ∷ known) h d f e = by (is_decl_listed these x) o (h 0) (shown_all these ds known (λ n g k. h (suc n) g k) d f) e
    where
      one : (b : Bool) (g : TheFace) → Is g → (face_among (shown_among these ds known) d ≡ Some f → Is f) → (if b then Some g else face_among (shown_among these ds known) d) ≡ Some f → Is f
      one true g is rest same = subst Is (let s : Some g ≡ Some f = same in let t : g ≡ f = cc in t) is
      one false g is rest same = rest same

      by : (b : Bool) (o : Option TheFace) → ((g : TheFace) → o ≡ Some g → Is g) → (face_among (shown_among these ds known) d ≡ Some f → Is f) → face_among (shown_if b x o ++ shown_among these ds known) d ≡ Some f → Is f
      by b None k rest same = rest same
      by true (Some g) k rest same = one (same_decl_place x d) g (k g refl) rest same
      by false (Some g) k rest same = rest same

module _ (Inside : List ℕ → Type 0) where
  -- declarations as they are written

  module _ (mean : Meaning) (f : InFile) (es : List Entry) (named : (n : TypeName) → IsTermIn Inside (mean n)) (own : Inside f.path) where
    typed_any : (t : Term) → IsTermIn Inside t → IfAny (IsTermIn Inside) (typed (find_entry es) t)
    typed_any t h = either (IfAny (IsTermIn Inside)) (is_type_term (find_entry es) t) _ _ h tt

    type_any : (t : TypeTree) → IfAny (IsTermIn Inside) (type_written mean f es t)
    type_any t = typed_any (settled (kinds_in es) (term_of mean f t)) (settled_in Inside (kinds_in es) (term_of mean f t) (term_in Inside mean f named own t))

    variable_in : (o : Option Term) → IfAny (IsTermIn Inside) o → IsFaceIn Inside (variable_face o)
    variable_in None h = tt
    variable_in (Some t) h = h

    value_in : (k : ValueKind) (t : Option TypeTree) → IsAnyIn Inside (writing.value_as_written mean f es k t)
    value_in value_kinds.Var (Some t) = variable_in (type_written mean f es t) (type_any t)
    value_in value_kinds.Var None = tt
    value_in value_kinds.Const t = tt

    -- an alias is the type that it is written as
    type_face_in : (mark : Option Span) (n : ℕ) (t : TypeTree) → IsFaceIn Inside (declared_face mark mean f es n t)
    type_face_in None n t = typed_any (Defined (type_key f n)) own
    type_face_in (Some m) n t = type_any t

    form_in : (n : ℕ) (form : FormTree) → IsAnyIn Inside (writing.form_as_written mean f es n form)
    form_in n (ValueForm k v i) = value_in k v.type_expr
    form_in n (TypeForm t) = type_face_in t.alias n t.type_expr
    form_in n (FuncForm g) = settled_sign_in Inside (kinds_in es) (signature_of mean f g.signature) (signature_in Inside mean f named own g.signature)

    file_in : (ds : List TopDeclTree) (w : WrittenOf) → Among (file_written mean f es ds) w → IsAnyIn Inside w.face
    file_in ds w at = (let d = among_map (written_of mean f es) ds w at in subst (λ (x : WrittenOf). IsAnyIn Inside x.face) d.2 (form_in d.0.number d.0.form))

  module _ (means : Meanings) (path : List ℕ) (es : List Entry) (os : List FileOutline) (named : (file : ℕ) (n : TypeName) → IsTermIn Inside (means file n)) (own : Inside path) where
    listed_in : (w : WrittenOf) → Among (written_with means path es os) w → IsAnyIn Inside w.face
    listed_in w at =
        let q = among_flat (λ (q : ℕ × FileOutline). file_written (means q.0) (file_at path q.0 q.1) es q.1.decls) (enumerate_from 0 os) w at in
        file_in (means q.0.0) (file_at path q.0.0 q.0.1) es (named q.0.0) own q.0.1.decls w q.2

    found_in : (n : ℕ) (o : Option WrittenOf) → slice_get (written_with means path es os) n ≡ o → IsAnyIn Inside (face_found o)
    found_in n None e = tt
    found_in n (Some w) e = listed_in w (among_at (written_with means path es os) n w e)

    faces_written_in : (n : ℕ) → IsAnyIn Inside (written_at (written_with means path es os) n)
    faces_written_in n = found_in n (slice_get (written_with means path es os) n) refl

  written_face_in : (o : Option TheFace) → IsAnyIn Inside o → IsFaceIn Inside (written_face o)
  written_face_in None h = tt
  written_face_in (Some f) h = h

  -- all that the declarations of a table are
  abbrev pub AreKnownIn : List (Option TheFace) → Type 0
  AreKnownIn known = (n : ℕ) → IsAnyIn Inside (slice_index_or known n None)

  -- of a file
  abbrev pub AreAnswersIn : AnswersOf → Type 0
  AreAnswersIn a = Each (IsUseIn Inside) a.uses × Each (IsLocalIn Inside) a.locals

  module _ (p : PackageIn) (far : List Entry) (c : CheckedOf) (placed : All IsPlaced p.trees) (own : Inside p.path) (binds : BindsInside Inside p.blocks)
      (types : (k : DeclKey) (e : Entry) → Inside k.path → find_entry far k ≡ Some e → IsEntryIn Inside e)
      (shown : (path : List ℕ) (d : DeclRef) (f : TheFace) → Inside path → face_in p.others path d ≡ Some f → IsFaceIn Inside f)
      (imported : (n : ℕ) → Each (IsImportIn Inside) (imports_at p n))
      (given : IsChecked p far c) where
    abbrev es : List Entry
    es = far ++ c.types

    abbrev os : List FileOutline
    os = outlines_in p

    abbrev means : Meanings
    means = package_meanings (shows_in p) p.path p.blocks

    named : (file : ℕ) (n : TypeName) → IsTermIn Inside (means file n)
    named file n = meaning_in Inside p.shows p.others p.path p.blocks os own binds shown file n

    written : AreEntriesIn Inside (entries_in p)
    written = written_in Inside means p.path os named own

    pub types_in : AreEntriesIn Inside c.types
    types_in = own_in Inside far (entries_in p) c.types given.types.loops written types given.types.built

    pub table : (k : DeclKey) (e : Entry) → Inside k.path → find_entry es k ≡ Some e → IsEntryIn Inside e
    table k e h found = both_in Inside far (entries_in p) c.types given.types.loops written types given.types.built k e h found

    faces_in : (n : ℕ) → IsAnyIn Inside (written_at (scene_in p es).written n)
    faces_in n = faces_written_in means p.path es os named own n

    stand : (known : List (Option TheFace)) → AreKnownIn known → (n : ℕ) (o : FileOutline) → IsStandIn Inside (stand_in p es known n o)
    stand known h n o = record {
      own = own;
      file = own;
      table = table;
      exported = behind_dot_in Inside (scene_in p es) shown;
      outside = outside_in Inside (scene_in p es) shown own binds n known h;
      meanings = named n;
    }

    -- what its declarations are

    module _ (known : List (Option TheFace)) (h : AreKnownIn known) (n : ℕ) (o : FileOutline) where
      abbrev looks : TheLooks
      looks = outer_looks (stand_in p es known n o)

      initial_in : (k : ValueKind) (v : ValueSpecTree) (i : ℕ) → IfAny (NearOperand (Near Inside)) (initial looks k v i)
      initial_in k v i =
          subst (λ (l : List (Option (Operand Term))). IfAny (NearOperand (Near Inside)) (slice_index_or l i None)) (sym (outer_alike looks k v))
          (each_at (NearOperand (Near Inside)) (outer_values looks k v) i
          (outer_nearby (Near Inside) (Rest Inside) looks looks (outer_closed Inside (stand_in p es known n o) (stand known h n o)) (alike_itself (Near Inside) (Rest Inside) looks) k v).near)

      value_near : (w : Option TheFace) → IsAnyIn Inside w → (k : ValueKind) (t : Option TypeTree) (v : ValueSpecTree) (i : ℕ) → IsFaceIn Inside (values.value_face looks w k t v i)
      value_near w x value_kinds.Const t v i = initial_in value_kinds.Const v i
      value_near w x value_kinds.Var None v i = initial_in value_kinds.Var v i
      value_near w x value_kinds.Var (Some t) v i = written_face_in w x

      form_near : (w : Option TheFace) → IsAnyIn Inside w → (form : FormTree) → IsFaceIn Inside (form_face looks w form)
      form_near w x (ValueForm k v i) = value_near w x k v.type_expr v i
      form_near w x (TypeForm t) = written_face_in w x
      form_near w x (FuncForm g) = written_face_in w x

    firsts_in : (f : ℕ → Option TheFace) → ((m : ℕ) → IsAnyIn Inside (f m)) → (n : ℕ) → AreKnownIn (first_values n f)
    firsts_in f h n = λ m. mapped_at (IsFaceIn Inside) f (range_with_len 0 n) m h

    module _ (f : ℕ → Option TheFace) (h : (m : ℕ) → IsAnyIn Inside (f m)) (n : ℕ) where
      some_near : (d : Option FileDecl) → IsFaceIn Inside (some_decl_face p es f n d)
      some_near None = written_face_in (written_at (scene_in p es).written n) (faces_in n)
      some_near (Some d) =
          form_near (first_values (length (scene_in p es).written) f) (firsts_in f h (length (scene_in p es).written)) d.file d.outline (written_at (scene_in p es).written n) (faces_in n) d.decl.form

      declared_near : IsFaceIn Inside (declared_in p es f n)
      declared_near = some_near (slice_get (decls_in p) n)

    looks_at_needs : (f g : ℕ → Option TheFace) (n : ℕ) → ((m : ℕ) → Contains (needed (needs_in p es) n) m → f m ≡ g m) → declared_in p es f n ≡ declared_in p es g n
    looks_at_needs f g n h =
        sym (faces_same p es placed f n)
        ∙ (needs_decide (scene_in p es) (package_placed p es) f g n (λ m c. h m (subst (λ (rows : List (List ℕ)). Contains (needed rows n) m) (needs_same p es) c))
        ∙ faces_same p es placed g n)

    abbrev rows : List (List ℕ)
    rows = needs_in p es

    near_if : (o : Option TheFace) (m : ℕ) → known_in c.declared m ≡ o → ((v : TheFace) → known_in c.declared m ≡ Some v → IsFaceIn Inside v) → IsAnyIn Inside o
    near_if None m e h = tt
    near_if (Some v) m e h = h v e

    kept_near : (ns : List ℕ) (m : ℕ) (d : Among ns m ⊎ (Among ns m → ⊥)) → ((b : ℕ) → Contains ns b → (v : TheFace) → known_in c.declared b ≡ Some v → IsFaceIn Inside v) → IsAnyIn Inside (kept (known_in c.declared) ns m d)
    kept_near ns m (inl at) h = near_if (known_in c.declared m) m refl (h m (among_to ns m at))
    kept_near ns m (inr other) h = tt

    kept_same : (ns : List ℕ) (m : ℕ) (d : Among ns m ⊎ (Among ns m → ⊥)) → Contains ns m → known_in c.declared m ≡ kept (known_in c.declared) ns m d
    kept_same ns m (inl at) x = refl
    kept_same ns m (inr other) x = absurd (other (among_from ns m x))

    near_at : (n a : ℕ) → EndsWithin rows n a → (v : TheFace) → known_in c.declared a ≡ Some v → IsFaceIn Inside v
    near_at zero a ends v e = absurd ends
    near_at (suc n) a ends v e =
        let ns = needed rows a in
        let f : ℕ → Option TheFace = λ m. kept (known_in c.declared) ns m (is_or_not ns m) in
        let near = declared_near f (λ m. kept_near ns m (is_or_not ns m) (λ b x w k. near_at n b (ends b x) w k)) a in
        let same = given.declared.values a v e ∙ looks_at_needs (known_in c.declared) f a (λ m x. kept_same ns m (is_or_not ns m) x) in
        subst (IsFaceIn Inside) (sym same) near

    pub known_inside : AreKnownIn c.declared
    known_inside n = near_if (known_in c.declared n) n refl (λ v e. near_at (length rows) n (given.declared.ends n v e) v e)

    -- its files

    file_checked_in : (f : ℕ × FileTree) (a : AnswersOf) → IsFileChecked p es c.declared given.type_faults given.looped f a → AreAnswersIn a
    file_checked_in f a h =
        let st = stand_at p es c.declared f in
        let law = stand c.declared known_inside f.0 (outline_of f.1) in (
          subst (Each (IsUseIn Inside)) (sym h.uses) (file_uses_in Inside st law (imports_at p f.0) f.1 (imported f.0)),
          subst (Each (IsLocalIn Inside)) (sym h.locals) (file_locals_in Inside st law f.1),
        )

    pub files_in : Each AreAnswersIn c.files
    files_in = zipped_each (IsFileChecked p es c.declared given.type_faults given.looped) AreAnswersIn file_checked_in (enumerate_from 0 p.trees) c.files given.files

    -- what it shows

    known_item : (n : ℕ) (f : TheFace) → slice_index_or c.declared n None ≡ Some f → IsFaceIn Inside f
    known_item n f e = subst (IsAnyIn Inside) e (known_inside n)

    pub shown_inside : (d : DeclRef) (f : TheFace) → face_by c.faces d ≡ Some f → IsFaceIn Inside f
    shown_inside d f e =
        shown_all (IsFaceIn Inside) (exported_decls p.blocks.names) (decls_of (scene_in p es).written) c.declared known_item d f (ap (λ (q : PackageFacesModel). face_by q d) (sym given.faces) ∙ e)
