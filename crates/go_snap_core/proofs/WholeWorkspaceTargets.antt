-- What the names of types mean in a package that has aliases mentions types of the packages that are led to, and is the same where the same is known
-- of these: aliases of the package lead to what its names denote, and those of others are what their faces are.
use Rattle.std.proofs.Common.{◌≡◌, ℕ, zero, suc, true, List, [], ◌∷◌, length, if◌then◌else◌, inl, inr, refl, ap, subst, ◌∙◌}
use Rattle.std.specs.Prelude.{Option, Some, None}
use Rattle.std.specs.Str.{bytes_eq}
use Rattle.std.specs.List.{enumerate_from}
use Rattle.std.proofs.lemmas.List.Elements.{Contains-push}
use Rattle.go_tree_nodes.specs.declared.types.TypeName.{TypeName}
use Rattle.go_path_core.specs.text_core.declared.span.Span.{Span}
use Rattle.go_term_core.specs.decl_core.declared.keys.DeclKey.{DeclKey}
use Rattle.go_term_core.specs.decl_core.declared.keys.DeclRef.{DeclRef}
use Rattle.go_term_core.specs.decl_core.TopDecls.{TopDeclTree, FormTree, ValueForm, TypeForm, FuncForm}
use Rattle.go_term_core.specs.Terms.{Term, NoType, Predeclared, ErrorType, Defined, PointerTo, StructOf, InterfaceOf, term_keys}
use Rattle.go_names_core.specs.block_core.declared.binding.Binding.{Binding}
use Rattle.go_names_core.specs.block_core.Blocks.{BlocksModel, file_binding}
use Rattle.go_body_core.specs.table_core.Entries.{same_decl}
use Rattle.go_body_core.specs.typexpr_core.WrittenWritten.{InFile, Meaning}
use Rattle.go_body_core.specs.typexpr_core.WrittenByNames.{written_by_names}
use Rattle.go_body_core.specs.typexpr_core.EntryAmong.{Among, among_flat, among_map}
use Rattle.go_body_core.specs.typexpr_core.EntryEntries.{Meanings, all_entries, entries_by, file_at, package_meanings}
use Rattle.go_body_core.specs.typexpr_core.EntryMeanings.{Shown, declared_alone, file_meaning, named_meaning, through}
use Rattle.go_body_core.specs.typexpr_core.EntryOutlines.{FileOutline}
use Rattle.go_body_core.specs.typexpr_core.AliasesAliases.{alias_ends, alias_in, aliased, end_by, end_of, far_alone, own_alias, target_by, target_or}
use Rattle.go_body_core.specs.typexpr_core.AliasesOutlined.{alias_if, alias_of, alias_spec, aliases_with, file_aliases, names_in, written_aliases}
use Rattle.go_emit_core.specs.declared_core.declared.face.Face.TheVariants as faces
use Rattle.go_emit_core.specs.declared_core.Faces.{TheFace}
use Rattle.go_emit_core.specs.declared_core.Here.{face_type, far_type, type_of_face}
use Rattle.go_emit_core.specs.declared_core.Packages.{PackageFacesModel, face_in}
use Rattle.go_snap_core.proofs.NearClosing.{either}
use Rattle.go_snap_core.specs.whole_workspace.Known.{IsTargetIn, type_keys}
use Rattle.go_snap_core.proofs.WholeWorkspaceNames.{AllInside, none_inside, one_inside, named_inside, named_same}
use Rattle.go_snap_core.proofs.WholeWorkspaceSeeing.{IsFaceInside, IsAnyInside, face_inside}

module _ (Inside : List ℕ → Type 0) where
  -- a type that is a name, by what the name means

  module _ (mean : DeclKey → Term) (near : (k : DeclKey) → Inside k.path → AllInside Inside (term_keys (mean k))) where
    pub through_inside : (t : Term) → AllInside Inside (term_keys t) → AllInside Inside (term_keys (through mean t))
    through_inside NoType h = h
    through_inside (Predeclared b) h = h
    through_inside ErrorType h = h
    through_inside (Defined k) h = near k (h k (Contains-push [] k))
    through_inside (PointerTo t) h = h
    through_inside (StructOf q fs) h = h
    through_inside (InterfaceOf q ms) h = h

  pub through_same : (mean other : DeclKey → Term) → ((k : DeclKey) → Inside k.path → mean k ≡ other k) → (t : Term) → AllInside Inside (term_keys t) → through mean t ≡ through other t
  through_same mean other alike NoType h = refl
  through_same mean other alike (Predeclared b) h = refl
  through_same mean other alike ErrorType h = refl
  through_same mean other alike (Defined k) h = alike k (h k (Contains-push [] k))
  through_same mean other alike (PointerTo t) h = refl
  through_same mean other alike (StructOf q fs) h = refl
  through_same mean other alike (InterfaceOf q ms) h = refl

  -- aliases and the ends of their chains

  abbrev pub AreAliasesInside : List (DeclRef × Term) → Type 0
  AreAliasesInside xs = (a : DeclRef × Term) → Among xs a → AllInside Inside (term_keys a.1)

  pub alias_inside : (xs : List (DeclRef × Term)) → AreAliasesInside xs → (d : DeclRef) → AllInside Inside (type_keys (alias_in xs d))
  alias_inside [] h d = none_inside Inside
  alias_inside (a ∷ xs) h d = either (λ (o : Option Term). AllInside Inside (type_keys o)) (same_decl a.0 d) (Some a.1) (alias_in xs d) (h a (inl refl)) (alias_inside xs (λ b at. h b (inr at)) d)

  module _ (xs : List (DeclRef × Term)) (inside : AreAliasesInside xs) (path : List ℕ) where
    own_alias_inside : (k : DeclKey) → AllInside Inside (type_keys (own_alias xs path k))
    own_alias_inside k = either (λ (o : Option Term). AllInside Inside (type_keys o)) (bytes_eq path k.path) (alias_in xs k.decl) None (alias_inside xs inside k.decl) (none_inside Inside)

    aliased_inside : (t : Term) → AllInside Inside (type_keys (aliased xs path t))
    aliased_inside NoType = none_inside Inside
    aliased_inside (Predeclared b) = none_inside Inside
    aliased_inside ErrorType = none_inside Inside
    aliased_inside (Defined k) = own_alias_inside k
    aliased_inside (PointerTo t) = none_inside Inside
    aliased_inside (StructOf q fs) = none_inside Inside
    aliased_inside (InterfaceOf q ms) = none_inside Inside

    end_inside : (n : ℕ) (t : Term) (o : Option Term) → AllInside Inside (term_keys t) → AllInside Inside (type_keys o) → AllInside Inside (term_keys (end_by n xs path t o))
    end_inside n t None here next = here
    end_inside zero t (Some w) here next = none_inside Inside
    end_inside (suc n) t (Some w) here next = end_inside n w (aliased xs path w) next (aliased_inside w)

    pub ends_inside : AreAliasesInside (alias_ends xs path)
    ends_inside e at =
        let a = among_map (λ (a : DeclRef × Term). (a.0, end_of (length xs) xs path a.1)) xs e at in
        subst (λ (b : DeclRef × Term). AllInside Inside (term_keys b.1)) a.2 (end_inside (length xs) a.0.1 (aliased xs path a.0.1) (inside a.0 a.1) (aliased_inside a.0.1))

  -- what declarations mean: those of the package of a path by the ends of its aliases, those of others by what they mean there

  module _ (path : List ℕ) (far : DeclKey → Term) (far_in : (k : DeclKey) → Inside k.path → AllInside Inside (term_keys (far k))) where
    alone_inside : (k : DeclKey) → Inside k.path → AllInside Inside (term_keys (far_alone path far k))
    alone_inside k h = either (λ (t : Term). AllInside Inside (term_keys t)) (bytes_eq path k.path) (Defined k) (far k) (one_inside Inside k h) (far_in k h)

    own_inside : (k : DeclKey) (o : Option Term) → Inside k.path → AllInside Inside (type_keys o) → AllInside Inside (term_keys (target_or k (far_alone path far) o))
    own_inside k None h inside = one_inside Inside k h
    own_inside k (Some t) h inside = through_inside (far_alone path far) alone_inside t inside

    pub target_inside : (ends : List (DeclRef × Term)) → AreAliasesInside ends → (k : DeclKey) → Inside k.path → AllInside Inside (term_keys (target_by path ends far k))
    target_inside ends inside k h =
        either (λ (t : Term). AllInside Inside (term_keys t)) (bytes_eq path k.path) (target_or k (far_alone path far) (alias_in ends k.decl)) (far k)
        (own_inside k (alias_in ends k.decl) h (alias_inside ends inside k.decl)) (far_in k h)

  module _ (path : List ℕ) (far other : DeclKey → Term) (alike : (k : DeclKey) → Inside k.path → far k ≡ other k) where
    alone_same : (k : DeclKey) → Inside k.path → far_alone path far k ≡ far_alone path other k
    alone_same k h = λ j. if bytes_eq path k.path then Defined k else alike k h j

    own_same : (k : DeclKey) (o : Option Term) → AllInside Inside (type_keys o) → target_or k (far_alone path far) o ≡ target_or k (far_alone path other) o
    own_same k None inside = refl
    own_same k (Some t) inside = through_same (far_alone path far) (far_alone path other) alone_same t inside

    pub target_same : (ends : List (DeclRef × Term)) → AreAliasesInside ends → (k : DeclKey) → Inside k.path → target_by path ends far k ≡ target_by path ends other k
    target_same ends inside k h = (let own = own_same k (alias_in ends k.decl) (alias_inside ends inside k.decl) in λ j. if bytes_eq path k.path then own j else alike k h j)

  -- the aliases that files declare

  module _ (mean : Meaning) (f : InFile) (near : (n : TypeName) → AllInside Inside (term_keys (mean n))) where
    marked_inside : (mark : Option Span) (a b : DeclRef × Term) → AllInside Inside (term_keys a.1) → Among (alias_if mark a) b → AllInside Inside (term_keys b.1)
    marked_inside None a b h at = absurd at
    marked_inside (Some mark) a b h at = elim at [
      | inl same ↦ subst (λ (c : DeclRef × Term). AllInside Inside (term_keys c.1)) same h
      | inr none ↦ absurd none
    ]

    form_inside : (d : TopDeclTree) (form : FormTree) (a : DeclRef × Term) → Among (alias_of mean f d form) a → AllInside Inside (term_keys a.1)
    form_inside d (ValueForm k v i) a at = absurd at
    form_inside d (TypeForm t) a at = marked_inside t.alias (alias_spec mean f d t) a (λ k h. (let m = written_by_names.mentioned mean f t.type_expr k h in near m.0 k m.2)) at
    form_inside d (FuncForm g) a at = absurd at

    file_inside : (ds : List TopDeclTree) (a : DeclRef × Term) → Among (file_aliases mean f ds) a → AllInside Inside (term_keys a.1)
    file_inside ds a at = (let d = among_flat (λ (d : TopDeclTree). alias_of mean f d d.form) ds a at in form_inside d.0 d.0.form a d.2)

  aliases_inside : (means : Meanings) (path : List ℕ) (os : List FileOutline) → ((file : ℕ) (n : TypeName) → AllInside Inside (term_keys (means file n))) → AreAliasesInside (aliases_with means path os)
  aliases_inside means path os near a at =
      let q = among_flat (λ (q : ℕ × FileOutline). file_aliases (means q.0) (file_at path q.0 q.1) q.1.decls) (enumerate_from 0 os) a at in
      file_inside (means q.0.0) (file_at path q.0.0 q.0.1) (near q.0.0) q.0.1.decls a q.2

  -- a package

  module _ (path : List ℕ) (b : BlocksModel) (os : List FileOutline) (own : Inside path) (binds : (file : ℕ) (name : List ℕ) (x : Binding) → file_binding b file name ≡ Some x → IsTargetIn Inside x.target) where
    -- where each name means the declaration that it denotes

    raw_inside : (shown : Shown) (file : ℕ) (n : TypeName) → AllInside Inside (term_keys (file_meaning (declared_alone shown) path b file n))
    raw_inside shown file n = through_inside Defined (λ k h. one_inside Inside k h) (named_meaning shown path b file n) (named_inside Inside path b own binds shown file n)

    own_aliases_inside : (shown : Shown) → AreAliasesInside (written_aliases shown path b os)
    own_aliases_inside shown = aliases_inside (package_meanings (declared_alone shown) path b) path os (raw_inside shown)

    pub own_ends_inside : (shown : Shown) → AreAliasesInside (alias_ends (written_aliases shown path b os) path)
    own_ends_inside shown = ends_inside (written_aliases shown path b os) (own_aliases_inside shown) path

    pub meaning_inside : (shown : Shown) (far : DeclKey → Term) → ((k : DeclKey) → Inside k.path → AllInside Inside (term_keys (far k)))
        → (file : ℕ) (n : TypeName) → AllInside Inside (term_keys (file_meaning (names_in shown far path b os) path b file n))
    meaning_inside shown far far_in file n =
        through_inside (target_by path (alias_ends (written_aliases shown path b os) path) far) (target_inside path far far_in (alias_ends (written_aliases shown path b os) path) (own_ends_inside shown))
        (named_meaning shown path b file n) (named_inside Inside path b own binds shown file n)

    -- where the same is shown

    module _ (shown other : Shown) (alike : (q name : List ℕ) → Inside q → shown q name ≡ other q name) where
      pub raw_same : package_meanings (declared_alone shown) path b ≡ package_meanings (declared_alone other) path b
      raw_same = λ j file n. through Defined (named_same Inside path b own binds shown other alike file n j)

      pub aliases_same : written_aliases shown path b os ≡ written_aliases other path b os
      aliases_same = λ j. aliases_with (raw_same j) path os

      pub all_same : all_entries shown path b os ≡ all_entries other path b os
      all_same = λ j. entries_by true (raw_same j) path [] os

      module _ (far faraway : DeclKey → Term) (alike_far : (k : DeclKey) → Inside k.path → far k ≡ faraway k) where
        targets_same : (k : DeclKey) → Inside k.path
            → target_by path (alias_ends (written_aliases shown path b os) path) far k ≡ target_by path (alias_ends (written_aliases other path b os) path) faraway k
        targets_same k h =
            (λ j. target_by path (alias_ends (aliases_same j) path) far k)
            ∙ target_same path far faraway alike_far (alias_ends (written_aliases other path b os) path) (own_ends_inside other) k h

        pub meaning_same : (file : ℕ) (n : TypeName) → file_meaning (names_in shown far path b os) path b file n ≡ file_meaning (names_in other faraway path b os) path b file n
        meaning_same file n =
            through_same (target_by path (alias_ends (written_aliases shown path b os) path) far) (target_by path (alias_ends (written_aliases other path b os) path) faraway) targets_same
            (named_meaning shown path b file n) (named_inside Inside path b own binds shown file n)
            ∙ ap (through (target_by path (alias_ends (written_aliases other path b os) path) faraway)) (named_same Inside path b own binds shown other alike file n)

        pub meanings_same : package_meanings (names_in shown far path b os) path b ≡ package_meanings (names_in other faraway path b os) path b
        meanings_same = λ j file n. meaning_same file n j

  -- what declarations of other packages mean

  typed_inside : (t : Option Term) → IsFaceInside Inside (faces.«Type» t) → AllInside Inside (term_keys (type_of_face (faces.«Type» t)))
  typed_inside None h = none_inside Inside
  typed_inside (Some t) h = h

  type_inside : (o : Option TheFace) → IsAnyInside Inside o → AllInside Inside (term_keys (face_type o))
  type_inside None h = none_inside Inside
  type_inside (Some (faces.«Type» t)) h = typed_inside t h
  type_inside (Some (faces.Func g)) h = none_inside Inside
  type_inside (Some (faces.«Value» o)) h = none_inside Inside

  pub far_inside : (others : List PackageFacesModel) → ((path : List ℕ) (d : DeclRef) (f : TheFace) → Inside path → face_in others path d ≡ Some f → IsFaceInside Inside f)
      → (k : DeclKey) → Inside k.path → AllInside Inside (term_keys (far_type others k))
  far_inside others mentions k h = type_inside (face_in others k.path k.decl) (face_inside Inside others mentions k.path k.decl (face_in others k.path k.decl) h refl)

  pub far_same : (others faraway : List PackageFacesModel) → ((path : List ℕ) (d : DeclRef) → Inside path → face_in others path d ≡ face_in faraway path d)
      → (k : DeclKey) → Inside k.path → far_type others k ≡ far_type faraway k
  far_same others faraway alike k h = ap face_type (alike k.path k.decl h)
