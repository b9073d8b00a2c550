-- What an alias means is what the name behind its `=` means.
use Rattle.std.proofs.Common.{◌≡◌, ℕ, ◌⊎◌, inl, inr, Bool, true, false, List, [], ◌∷◌, length, Option, Some, None, refl, sym, ap, subst, ◌∙◌, if◌then◌else◌}
use Rattle.std.specs.Prelude.{option_map, slice_get}
use Rattle.std.specs.Str.{bytes_eq}
use Rattle.std.proofs.lemmas.Slice.Eq.{bytes_eq-Decides}
use Rattle.go_constant_core.specs.text_core.declared.span.Span.{Span}
use Rattle.go_tree_nodes.specs.declared.types.TypeName.{TypeName}
use Rattle.go_tree_nodes.specs.Rules.{IsAliasOfName}
use Rattle.go_tree_nodes.specs.Trees.{TypeSpecTree, TypeTree, NamedType, Pointer, ParenType, Struct, Interface}
use Rattle.go_term_core.specs.decl_core.declared.keys.DeclKey.{DeclKey}
use Rattle.go_term_core.specs.decl_core.declared.keys.DeclRef.{DeclRef}
use Rattle.go_term_core.specs.decl_core.TopDecls.{FormTree, FuncForm, TopDeclTree, TypeForm, ValueForm}
use Rattle.go_names_core.specs.block_core.Blocks.{BlocksModel}
use Rattle.go_term_core.specs.Terms.{Term, NoType, Predeclared, ErrorType, Defined, PointerTo, StructOf, InterfaceOf}
use Rattle.go_body_core.specs.table_core.Entries.{same_decl}
use Rattle.go_body_core.specs.typexpr_core.WrittenWritten.{InFile, Meaning, term_of}
use Rattle.go_body_core.specs.typexpr_core.EntryAmong.{Among}
use Rattle.go_body_core.specs.typexpr_core.EntryBelonging.{Found, found_in, put_in}
use Rattle.go_body_core.specs.typexpr_core.EntryEntries.{Meanings, file_at, package_meanings, type_key}
use Rattle.go_body_core.specs.typexpr_core.EntryMeanings.{Shown, declared_alone, through}
use Rattle.go_body_core.specs.typexpr_core.EntryOrdered.{outline_rises}
use Rattle.go_body_core.specs.typexpr_core.EntryOutlines.{FileOutline, IsOutline}
use Rattle.go_body_core.specs.typexpr_core.AliasesAliases.{alias_ends, alias_in, aliased, end_of, far_alone, own_alias, target_by, target_or}
use Rattle.go_body_core.specs.typexpr_core.AliasesChains.{target_more}
use Rattle.go_body_core.specs.typexpr_core.AliasesEnding.{end_in, none_in, target_from, target_in, targets_are_ends}
use Rattle.go_body_core.specs.typexpr_core.AliasesLaws.{AliasesLead, IsTarget}
use Rattle.go_body_core.specs.typexpr_core.AliasesNumbers.{is_name, own_alias_by, same_decl_from, same_decl_true}
use Rattle.go_body_core.specs.typexpr_core.AliasesOutlined.{alias_if, alias_of, alias_spec, written_aliases}
use Rattle.go_program_laws.proofs.FaultlessMethods.{one_number}

-- behind `=` stands a name
pub named_alone : (mark : Option Span) (m : Span) (t : TypeTree) → mark ≡ Some m → IsAliasOfName mark t → (n : TypeName) × (t ≡ NamedType n)
named_alone None m t e h = absurd (let no : None ≡ Some m = e in cc)
named_alone (Some s) m (NamedType n) e h = (n, refl)
named_alone (Some s) m (Pointer star t) e h = absurd h
named_alone (Some s) m (ParenType first t last) e h = absurd h
named_alone (Some s) m (Struct k first fs last) e h = absurd h
named_alone (Some s) m (Interface k first ms last) e h = absurd h

-- the aliases of a package, by their declarations

alias_there : (xs : List (DeclRef × Term)) (r : DeclRef) (w : Term) → Among xs (r, w) → ((a : DeclRef × Term) → Among xs a → a.0 ≡ r → a.1 ≡ w) → alias_in xs r ≡ Some w
alias_there [] r w at one = absurd at
alias_there (a ∷ xs) r w at one = by (same_decl a.0 r) refl (λ more. alias_there xs r w more (λ b m. one b (inr m)))
  where
    later : same_decl a.0 r ≡ false → (a ≡ (r, w)) ⊎ Among xs (r, w) → Among xs (r, w)
    later apart (inl e) = absurd (let no : false ≡ true = sym apart ∙ same_decl_from a.0 r (ap (λ (p : DeclRef × Term). p.0) e) in cc)
    later apart (inr m) = m

    by : (b : Bool) → same_decl a.0 r ≡ b → (Among xs (r, w) → alias_in xs r ≡ Some w) → (if b then Some a.1 else alias_in xs r) ≡ Some w
    by true e rest = ap (λ t. Some t) (one a (inl refl) (same_decl_true a.0 r e))
    by false e rest = rest (later e at)

alias_gone : (xs : List (DeclRef × Term)) (r : DeclRef) → ((a : DeclRef × Term) → Among xs a → a.0 ≡ r → ⊥) → alias_in xs r ≡ None
alias_gone [] r none = refl
alias_gone (a ∷ xs) r none = by (same_decl a.0 r) refl (alias_gone xs r (λ b m. none b (inr m)))
  where
    by : (b : Bool) → same_decl a.0 r ≡ b → alias_in xs r ≡ None → (if b then Some a.1 else alias_in xs r) ≡ None
    by true e rest = absurd (none a (inl refl) (same_decl_true a.0 r e))
    by false e rest = rest

-- what an item of a package's aliases is
record IsOfSpec (mean : Meaning) (f : InFile) (d : TopDeclTree) (a : DeclRef × Term) : Type 0 where
  spec : TypeSpecTree
  form : d.form ≡ TypeForm spec
  mark : Span
  marked : spec.alias ≡ Some mark
  is : alias_spec mean f d spec ≡ a

marked_spec : (mark : Option Span) (s a : DeclRef × Term) → Among (alias_if mark s) a → (m : Span) × (mark ≡ Some m) × (s ≡ a)
marked_spec None s a h = absurd h
marked_spec (Some m) s a (inl e) = (m, refl, e)
marked_spec (Some m) s a (inr none) = absurd none

form_spec : (mean : Meaning) (f : InFile) (d : TopDeclTree) (form : FormTree) (a : DeclRef × Term) → d.form ≡ form → Among (alias_of mean f d form) a → IsOfSpec mean f d a
form_spec mean f d (ValueForm k v i) a e h = absurd h
form_spec mean f d (TypeForm t) a e h = (let r = marked_spec t.alias (alias_spec mean f d t) a h in record { spec = t; form = e; mark = r.0; marked = r.1; is = r.2 })
form_spec mean f d (FuncForm g) a e h = absurd h

spec_put : (mean : Meaning) (f : InFile) (d : TopDeclTree) (form : FormTree) (t : TypeSpecTree) (m : Span) → form ≡ TypeForm t → t.alias ≡ Some m → Among (alias_of mean f d form) (alias_spec mean f d t)
spec_put mean f d form t m e marked =
    subst (λ (g : FormTree). Among (alias_of mean f d g) (alias_spec mean f d t)) (sym e)
    (subst (λ (o : Option Span). Among (alias_if o (alias_spec mean f d t)) (alias_spec mean f d t)) (sym marked) (inl refl))

module _ (shown : Shown) (path : List ℕ) (b : BlocksModel) (os : List FileOutline) (outlines : (n : ℕ) (o : FileOutline) → slice_get os n ≡ Some o → IsOutline o) where
  abbrev pub aliases : List (DeclRef × Term)
  aliases = written_aliases shown path b os

  abbrev raws : Meanings
  raws = package_meanings (declared_alone shown) path b

  abbrev key : Found os → DeclKey
  key d = type_key (file_at path d.file d.outline) d.decl.number

  -- a type declaration that has the place of another is it
  record IsSameSpec (d e : Found os) (t u : TypeSpecTree) : Type 0 where
    file : e.file ≡ d.file
    outline : e.outline ≡ d.outline
    spec : u ≡ t

  same_spec : (d e : Found os) (t u : TypeSpecTree) → d.decl.form ≡ TypeForm t → e.decl.form ≡ TypeForm u → (key e).decl ≡ (key d).decl → IsSameSpec d e t u
  same_spec d e t u p q same =
      let file : e.file ≡ d.file = ap (λ (r : DeclRef). r.file) same in
      let both : Some e.outline ≡ Some d.outline = sym e.there ∙ (ap (slice_get os) file ∙ d.there) in
      let outline : e.outline ≡ d.outline = cc both in
      let there : Among e.outline.decls d.decl = subst (λ (o : FileOutline). Among o.decls d.decl) (sym outline) d.among in
      let decl : e.decl ≡ d.decl = one_number 0 e.outline.decls (outline_rises e.outline (outlines e.file e.outline e.there)) e.decl d.decl e.among there (ap (λ (r : DeclRef). r.number) same) in
      let forms : TypeForm u ≡ TypeForm t = sym q ∙ (ap (λ (x : TopDeclTree). x.form) decl ∙ p) in
      record { file = file; outline = outline; spec = cc forms }

  item_of : (a : DeclRef × Term) → Among aliases a → (e : Found os) × IsOfSpec (raws e.file) (file_at path e.file e.outline) e.decl a
  item_of a at =
      let d = found_in os (λ n o x. alias_of (raws n) (file_at path n o) x x.form) a at in
      (d.0, form_spec (raws d.0.file) (file_at path d.0.file d.0.outline) d.0.decl d.0.decl.form a refl d.1)

  own_path : bytes_eq path path ≡ true
  own_path = (bytes_eq-Decides path path).1 refl

  -- a declaration with a mark is an alias, of what is written there
  pub alias_is : (d : Found os) (t : TypeSpecTree) (m : Span) → d.decl.form ≡ TypeForm t → t.alias ≡ Some m → own_alias aliases path (key d) ≡ Some (term_of (raws d.file) (file_at path d.file d.outline) t.type_expr)
  alias_is d t m form marked =
      let f : InFile = file_at path d.file d.outline in
      let there : Among aliases (alias_spec (raws d.file) f d.decl t) =
      put_in os (λ n o x. alias_of (raws n) (file_at path n o) x x.form) (alias_spec (raws d.file) f d.decl t) d (spec_put (raws d.file) f d.decl d.decl.form t m form marked) in
      ap (own_alias_by aliases (key d)) own_path ∙ alias_there aliases (key d).decl (term_of (raws d.file) f t.type_expr) there one
    where
      one : (a : DeclRef × Term) → Among aliases a → a.0 ≡ (key d).decl → a.1 ≡ term_of (raws d.file) (file_at path d.file d.outline) t.type_expr
      one a at same =
          let x = item_of a at in
          let s = same_spec d x.0 t x.1.spec form x.1.form (ap (λ (p : DeclRef × Term). p.0) x.1.is ∙ same) in
          sym (ap (λ (p : DeclRef × Term). p.1) x.1.is) ∙ (λ i. term_of (raws (s.file i)) (file_at path (s.file i) (s.outline i)) (s.spec i).type_expr)

  -- one without is none
  pub is_no_alias : (d : Found os) (t : TypeSpecTree) → d.decl.form ≡ TypeForm t → t.alias ≡ None → own_alias aliases path (key d) ≡ None
  is_no_alias d t form plain = ap (own_alias_by aliases (key d)) own_path ∙ alias_gone aliases (key d).decl none
    where
      none : (a : DeclRef × Term) → Among aliases a → a.0 ≡ (key d).decl → ⊥
      none a at same =
          let x = item_of a at in
          let s = same_spec d x.0 t x.1.spec form x.1.form (ap (λ (p : DeclRef × Term). p.0) x.1.is ∙ same) in
          let no : Some x.1.mark ≡ None = sym x.1.marked ∙ (ap (λ (y : TypeSpecTree). y.alias) s.spec ∙ plain) in
          cc no

-- chains

module _ (xs : List (DeclRef × Term)) (path : List ℕ) where
  -- what a name of an alias leads to, the alias does, and the other way round
  target_less : (ks : List DeclKey) (w v u : Term) → aliased xs path w ≡ Some v → AliasesLead xs path w ks u → aliased xs path u ≡ None → IsTarget xs path v u
  target_less [] w v u s h none = absurd (let no : None ≡ Some v = sym none ∙ (ap (aliased xs path) (sym h) ∙ s) in cc no)
  target_less (k ∷ ks) w v u s h none =
      let both : Some h.1.0 ≡ Some v = sym h.1.1 ∙ (ap (aliased xs path) (sym h.0) ∙ s) in
      let same : h.1.0 ≡ v = cc both in
      (ks, subst (λ (y : Term). AliasesLead xs path y ks u) same h.1.2, none)

  -- an alias of an alias has its end
  shared_end : (d e : DeclRef) (w v : Term) → alias_in xs d ≡ Some w → aliased xs path w ≡ Some v → alias_in xs e ≡ Some v → (x : Term) × (alias_in (alias_ends xs path) d ≡ Some x) × (alias_in (alias_ends xs path) e ≡ Some x)
  shared_end d e w v h s k =
      let u : Term = end_of (length xs) xs path v in
      let at : alias_in (alias_ends xs path) e ≡ Some u = end_in xs path e ∙ ap (option_map (λ (t : Term). end_of (length xs) xs path t)) k in
      let f = target_from xs path e u at in
      let both : Some f.0 ≡ Some v = sym f.1 ∙ k in
      let same : f.0 ≡ v = cc both in
      elim f.2 [
        | inl g ↦ (u, target_in xs path d w u h (target_more xs path w v u s (subst (λ (y : Term). IsTarget xs path y u) same g)), at)
        | inr n ↦ (NoType, targets_are_ends.endless xs path d w h (λ y g. n.1 y (subst (λ (z : Term). IsTarget xs path z y) (sym same) (target_less g.0 w v y s g.1 g.2))), at ∙ ap (λ (t : Term). Some t) n.0)
      ]

  own_in : (k : DeclKey) (w : Term) → own_alias xs path k ≡ Some w → (bytes_eq path k.path ≡ true) × (alias_in xs k.decl ≡ Some w)
  own_in k w h = by (bytes_eq path k.path) refl h
    where
      by : (b : Bool) → bytes_eq path k.path ≡ b → own_alias_by xs k b ≡ Some w → (bytes_eq path k.path ≡ true) × (alias_in xs k.decl ≡ Some w)
      by true t e = (t, e)
      by false t e = absurd (let no : None ≡ Some w = e in cc no)

  module _ (far : DeclKey → Term) where
    abbrev pub mean : DeclKey → Term
    mean = target_by path (alias_ends xs path) far

    abbrev mean_by : DeclKey → Bool → Term
    mean_by k b = if b then target_or k (far_alone path far) (alias_in (alias_ends xs path) k.decl) else far k

    -- what is no alias means itself
    pub mean_itself : (k : DeclKey) → bytes_eq path k.path ≡ true → own_alias xs path k ≡ None → mean k ≡ Defined k
    mean_itself k t plain = ap (mean_by k) t ∙ ap (target_or k (far_alone path far)) (none_in xs path k.decl (sym (ap (own_alias_by xs k) t) ∙ plain))

    -- a declaration of another package means what it means there
    pub mean_far : (k : DeclKey) → bytes_eq path k.path ≡ false → mean k ≡ far k
    mean_far k t = ap (mean_by k) t

    plain_alone : (k : DeclKey) → own_alias xs path k ≡ None → far_alone path far k ≡ mean k
    plain_alone k plain = by (bytes_eq path k.path) refl
      where
        by : (b : Bool) → bytes_eq path k.path ≡ b → (if b then Defined k else far k) ≡ mean k
        by true t = sym (mean_itself k t plain)
        by false t = sym (mean_far k t)

    plain_through : (w : Term) → aliased xs path w ≡ None → through (far_alone path far) w ≡ through mean w
    plain_through NoType h = refl
    plain_through (Predeclared p) h = refl
    plain_through ErrorType h = refl
    plain_through (Defined k) h = plain_alone k h
    plain_through (PointerTo t) h = refl
    plain_through (StructOf home fs) h = refl
    plain_through (InterfaceOf home ms) h = refl

    -- an alias means what its name means
    pub mean_step : (k : DeclKey) (w : Term) → own_alias xs path k ≡ Some w → mean k ≡ through mean w
    mean_step k w h = by (aliased xs path w) refl
      where
        ends : (j : DeclKey) (x : Term) → bytes_eq path j.path ≡ true → alias_in (alias_ends xs path) j.decl ≡ Some x → mean j ≡ through (far_alone path far) x
        ends j x t e = ap (mean_by j) t ∙ ap (target_or j (far_alone path far)) e

        own : (bytes_eq path k.path ≡ true) × (alias_in xs k.decl ≡ Some w)
        own = own_in k w h

        by : (o : Option Term) → aliased xs path w ≡ o → mean k ≡ through mean w
        by None e = ends k w own.0 (target_in xs path k.decl w w own.1 ([], refl, e)) ∙ plain_through w e
        by (Some v) e =
            let j = is_name xs path w v e in
            let there = own_in j.0 v j.2 in
            let s = shared_end k.decl j.0.decl w v own.1 e there.1 in
            ends k s.0 own.0 s.1 ∙ (sym (ends j.0 s.0 there.0 s.2) ∙ sym (ap (through mean) j.1))
