-- What names of types mean with their targets mentions some packages alone, where what they denote and what other packages show does.
use Rattle.std.proofs.Common.{◌≡◌, ℕ, zero, suc, Bool, true, false, List, [], ◌∷◌, map, length, inl, inr, refl, subst, if◌then◌else◌}
use Rattle.std.specs.Prelude.{Option, Some, None}
use Rattle.std.specs.List.{enumerate_from}
use Rattle.std.specs.Str.{bytes_eq}
use Rattle.go_path_core.specs.text_core.declared.span.Span.{Span}
use Rattle.go_tree_nodes.specs.declared.types.TypeName.{TypeName}
use Rattle.go_tree_nodes.specs.Trees.{TypeSpecTree}
use Rattle.go_term_core.specs.decl_core.declared.keys.DeclKey.{DeclKey}
use Rattle.go_term_core.specs.decl_core.declared.keys.DeclRef.{DeclRef}
use Rattle.go_term_core.specs.decl_core.TopDecls.{TopDeclTree, FormTree, ValueForm, TypeForm, FuncForm}
use Rattle.go_term_core.specs.Terms.{Term, NoType, Predeclared, ErrorType, Defined, PointerTo, StructOf, InterfaceOf}
use Rattle.go_names_core.specs.block_core.declared.binding.Binding.{Binding}
use Rattle.go_names_core.specs.block_core.Blocks.{BlocksModel, file_binding}
use Rattle.go_body_core.specs.table_core.Entries.{same_decl}
use Rattle.go_body_core.specs.typexpr_core.WrittenWritten.{InFile, Meaning}
use Rattle.go_body_core.specs.typexpr_core.EntryAmong.{Among, among_flat}
use Rattle.go_body_core.specs.typexpr_core.EntryEntries.{file_at, package_meanings}
use Rattle.go_body_core.specs.typexpr_core.EntryMeanings.{Shown, declared_alone, file_meaning, named_meaning, through}
use Rattle.go_body_core.specs.typexpr_core.EntryOutlines.{FileOutline}
use Rattle.go_body_core.specs.typexpr_core.AliasesAliases.{alias_ends, alias_in, aliased, end_by, end_of, far_alone, own_alias, target_by, target_or}
use Rattle.go_body_core.specs.typexpr_core.AliasesOutlined.{alias_if, alias_of, alias_spec, file_aliases, written_aliases}
use Rattle.go_emit_core.specs.declared_core.declared.face.Face.TheVariants as faces
use Rattle.go_emit_core.specs.declared_core.Faces.{TheFace}
use Rattle.go_emit_core.specs.declared_core.Here.{face_type, far_type, names_here}
use Rattle.go_emit_core.specs.declared_core.Packages.{PackageFacesModel, face_in}
use Rattle.go_snap_core.specs.whole_workspace.Known.{IsTargetIn}
use Rattle.go_workspace_laws.proofs.Terms.{IsTermIn, term_in}
use Rattle.go_workspace_laws.proofs.Meanings.{IsFaceIn, named_in}

-- aliases and their targets

module _ (Is : Term → Type 0) (none : Is NoType) where
  -- a name has what is had by what it means
  through_has : (mean : DeclKey → Term) → ((k : DeclKey) → Is (Defined k) → Is (mean k)) → (t : Term) → Is t → Is (through mean t)
  through_has mean h NoType x = x
  through_has mean h (Predeclared b) x = x
  through_has mean h ErrorType x = x
  through_has mean h (Defined k) x = h k x
  through_has mean h (PointerTo t) x = x
  through_has mean h (StructOf path fs) x = x
  through_has mean h (InterfaceOf path ms) x = x

  alias_has : (xs : List (DeclRef × Term)) → ((a : DeclRef × Term) → Among xs a → Is a.1) → (d : DeclRef) (w : Term) → alias_in xs d ≡ Some w → Is w
  alias_has [] each d w e = absurd (let no : None ≡ Some w = e in cc)
  alias_has (a ∷ xs) each d w e = by (same_decl a.0 d) (λ rest. alias_has xs (λ b m. each b (inr m)) d w rest) e
    where
      by : (b : Bool) → (alias_in xs d ≡ Some w → Is w) → (if b then Some a.1 else alias_in xs d) ≡ Some w → Is w
      by true rest same = subst Is (let s : Some a.1 ≡ Some w = same in let t : a.1 ≡ w = cc in t) (each a (inl refl))
      by false rest same = rest same

  ends_have : (f : Term → Term) (xs : List (DeclRef × Term)) → ((a : DeclRef × Term) → Among xs a → Is (f a.1)) → (d : DeclRef) (t : Term) → alias_in (map (λ (a : DeclRef × Term). (a.0, f a.1)) xs) d ≡ Some t → Is t
  ends_have f [] each d t e = absurd (let no : None ≡ Some t = e in cc)
  ends_have f (a ∷ xs) each d t e = by (same_decl a.0 d) (λ rest. ends_have f xs (λ b m. each b (inr m)) d t rest) e
    where
      by : (b : Bool) → (alias_in (map (λ (x : DeclRef × Term). (x.0, f x.1)) xs) d ≡ Some t → Is t) → (if b then Some (f a.1) else alias_in (map (λ (x : DeclRef × Term). (x.0, f x.1)) xs) d) ≡ Some t → Is t
      by true rest same = subst Is (let s : Some (f a.1) ≡ Some t = same in let u : f a.1 ≡ t = cc in u) (each a (inl refl))
      by false rest same = rest same

  module _ (path : List ℕ) (xs : List (DeclRef × Term)) (each : (a : DeclRef × Term) → Among xs a → Is a.1) where
    own_has : (k : DeclKey) (w : Term) → own_alias xs path k ≡ Some w → Is w
    own_has k w e = by (bytes_eq path k.path) e
      where
        by : (b : Bool) → (if b then alias_in xs k.decl else None) ≡ Some w → Is w
        by true same = alias_has xs each k.decl w same
        by false same = absurd (let no : None ≡ Some w = same in cc)

    aliased_has : (t w : Term) → aliased xs path t ≡ Some w → Is w
    aliased_has NoType w e = absurd (let no : None ≡ Some w = e in cc)
    aliased_has (Predeclared b) w e = absurd (let no : None ≡ Some w = e in cc)
    aliased_has ErrorType w e = absurd (let no : None ≡ Some w = e in cc)
    aliased_has (Defined k) w e = own_has k w e
    aliased_has (PointerTo t) w e = absurd (let no : None ≡ Some w = e in cc)
    aliased_has (StructOf home fs) w e = absurd (let no : None ≡ Some w = e in cc)
    aliased_has (InterfaceOf home ms) w e = absurd (let no : None ≡ Some w = e in cc)

    end_has_by : (n : ℕ) (t : Term) (o : Option Term) → aliased xs path t ≡ o → Is t → Is (end_by n xs path t o)
    end_has_by n t None e h = h
    end_has_by zero t (Some w) e h = none
    end_has_by (suc n) t (Some w) e h = end_has_by n w (aliased xs path w) refl (aliased_has t w e)

    end_has : (n : ℕ) (t : Term) → Is t → Is (end_of n xs path t)
    end_has n t h = end_has_by n t (aliased xs path t) refl h

    -- so has what a declaration means
    module _ (far : DeclKey → Term) (there : (k : DeclKey) → Is (Defined k) → Is (far k)) where
      far_has : (k : DeclKey) → Is (Defined k) → Is (far_alone path far k)
      far_has k h = by (bytes_eq path k.path)
        where
          by : (b : Bool) → Is (if b then Defined k else far k)
          by true = h
          by false = there k h

      pub target_has : (k : DeclKey) → Is (Defined k) → Is (target_by path (alias_ends xs path) far k)
      target_has k h = by (bytes_eq path k.path)
        where
          or : (o : Option Term) → alias_in (alias_ends xs path) k.decl ≡ o → Is (target_or k (far_alone path far) o)
          or None e = h
          or (Some t) e = through_has (far_alone path far) far_has t (ends_have (end_of (length xs) xs path) xs (λ a m. end_has (length xs) a.1 (each a m)) k.decl t e)

          by : (b : Bool) → Is (if b then target_or k (far_alone path far) (alias_in (alias_ends xs path) k.decl) else far k)
          by true = or (alias_in (alias_ends xs path) k.decl) refl
          by false = there k h

-- those of a package

module _ (Inside : List ℕ → Type 0) where
  module _ (mean : Meaning) (f : InFile) (named : (n : TypeName) → IsTermIn Inside (mean n)) (own : Inside f.path) where
    spec_in : (mark : Option Span) (d : TopDeclTree) (t : TypeSpecTree) (a : DeclRef × Term) → Among (alias_if mark (alias_spec mean f d t)) a → IsTermIn Inside a.1
    spec_in None d t a at = absurd at
    spec_in (Some m) d t a (inl e) = subst (λ (x : DeclRef × Term). IsTermIn Inside x.1) e (term_in Inside mean f named own t.type_expr)
    spec_in (Some m) d t a (inr none) = absurd none

    alias_of_in : (d : TopDeclTree) (form : FormTree) (a : DeclRef × Term) → Among (alias_of mean f d form) a → IsTermIn Inside a.1
    alias_of_in d (ValueForm k v i) a at = absurd at
    alias_of_in d (TypeForm t) a at = spec_in t.alias d t a at
    alias_of_in d (FuncForm g) a at = absurd at

    file_aliases_in : (ds : List TopDeclTree) (a : DeclRef × Term) → Among (file_aliases mean f ds) a → IsTermIn Inside a.1
    file_aliases_in ds a at = (let d = among_flat (λ (d : TopDeclTree). alias_of mean f d d.form) ds a at in alias_of_in d.0 d.0.form a d.2)

  -- what another package shows
  face_type_in : (others : List PackageFacesModel) (k : DeclKey) → ((f : TheFace) → face_in others k.path k.decl ≡ Some f → IsFaceIn Inside f) → IsTermIn Inside (far_type others k)
  face_type_in others k given = by (face_in others k.path k.decl) given
    where
      by : (o : Option TheFace) → ((f : TheFace) → o ≡ Some f → IsFaceIn Inside f) → IsTermIn Inside (face_type o)
      by None h = tt
      by (Some (faces.«Type» None)) h = tt
      by (Some (faces.«Type» (Some t))) h = h (faces.«Type» (Some t)) refl
      by (Some (faces.Func g)) h = tt
      by (Some (faces.«Value» o)) h = tt

  module _ (shown : Shown) (others : List PackageFacesModel) (path : List ℕ) (b : BlocksModel) (os : List FileOutline) (own : Inside path)
      (binds : (file : ℕ) (name : List ℕ) (x : Binding) → file_binding b file name ≡ Some x → IsTargetIn Inside x.target)
      (given : (home : List ℕ) (d : DeclRef) (f : TheFace) → Inside home → face_in others home d ≡ Some f → IsFaceIn Inside f) where
    raw_in : (file : ℕ) (n : TypeName) → IsTermIn Inside (file_meaning (declared_alone shown) path b file n)
    raw_in file n = through_has (IsTermIn Inside) tt Defined (λ k h. h) (named_meaning shown path b file n) (named_in Inside path b own binds shown file n)

    aliases_in : (a : DeclRef × Term) → Among (written_aliases shown path b os) a → IsTermIn Inside a.1
    aliases_in a at =
        let q = among_flat (λ (q : ℕ × FileOutline). file_aliases (package_meanings (declared_alone shown) path b q.0) (file_at path q.0 q.1) q.1.decls) (enumerate_from 0 os) a at in
        file_aliases_in (package_meanings (declared_alone shown) path b q.0.0) (file_at path q.0.0 q.0.1) (raw_in q.0.0) own q.0.1.decls a q.2

    pub meaning_in : (file : ℕ) (n : TypeName) → IsTermIn Inside (file_meaning (names_here shown others path b os) path b file n)
    meaning_in file n =
        through_has (IsTermIn Inside) tt (names_here shown others path b os).target
        (λ k h. target_has (IsTermIn Inside) tt path (written_aliases shown path b os) aliases_in (far_type others) (λ j i. face_type_in others j (λ f e. given j.path j.decl f i e)) k h)
        (named_meaning shown path b file n) (named_in Inside path b own binds shown file n)
