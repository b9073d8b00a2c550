-- The declarations of a package in which one specification is written anew.
use Rattle.std.proofs.Common.{◌≡◌, ◌⊎◌, ℕ, ◌+◌, inl, inr, List, [], ◌∷◌, ◌++◌, map, length, refl, subst, arith}
use Rattle.std.specs.Prelude.{⊤, Option}
use Rattle.std.specs.List.{flat_map, enumerate_from}
use Rattle.go_tree_nodes.specs.text_core.declared.span.Span.{Span}
use Rattle.go_tree_nodes.specs.declared.names.Ident.{Ident}
use Rattle.go_tree_nodes.specs.declared.decls.ValueKind.{ValueKind}
use Rattle.go_tree_nodes.specs.Trees.{Separated, One, Then, ValueSpecTree, Specs, TopTree, FileTree, of_specs}
use Rattle.go_term_core.specs.decl_core.Outer.{value_spec_outers, decl_outers}
use Rattle.go_term_core.specs.decl_core.TopDecls.{TopDeclTree, ValueForm, numbered, named_decls, value_spec_decls, specs_decls, decl_decls, tops_decls}
use Rattle.go_typexpr_core.specs.entry.Outlines.{FileOutline, outline_of}
use Rattle.go_candidate_core.specs.declared_core.Laws.{FileDecl, file_decl, package_decls}
use Rattle.go_complete_core.specs.spelling.Trees.{RespellsValues, InValues}
use Rattle.go_complete_core.specs.spelling.Files.{WritesInGroup, AtFirst, AtLater, WritesInSpecs, InTheOnly, InTheGroup, WritesInTops, InTop, InLaterTops, with_decls}
use Rattle.go_complete_core.proofs.SpellingPlaces.{same_long, spec_same, specs_same, tops_same}

-- a declaration of the specification
pub record IsAnew (v w : ValueSpecTree) (d e : TopDeclTree) : Type 0 where
  pub numbers : d.number ≡ e.number
  pub kind : ValueKind
  pub position : ℕ
  pub before : d.form ≡ ValueForm kind v position
  pub after : e.form ≡ ValueForm kind w position

abbrev DeclsAnew : ValueSpecTree → ValueSpecTree → List TopDeclTree → List TopDeclTree → Type 0
DeclsAnew v w [] [] = ⊤
DeclsAnew v w [] (e ∷ es) = ⊥
DeclsAnew v w (d ∷ ds) [] = ⊥
DeclsAnew v w (d ∷ ds) (e ∷ es) = ((d ≡ e) ⊎ IsAnew v w d e) × DeclsAnew v w ds es

-- the declarations of a package, by their files
pub record IsPlacedAnew (n : ℕ) (v w : ValueSpecTree) (d e : FileDecl) : Type 0 where
  pub files : d.file ≡ e.file
  pub places : d.outline.places ≡ e.outline.places
  pub decls : (d.decl ≡ e.decl) ⊎ ((d.file ≡ n) × IsAnew v w d.decl e.decl)

abbrev pub AllAnew : ℕ → ValueSpecTree → ValueSpecTree → List FileDecl → List FileDecl → Type 0
AllAnew n v w [] [] = ⊤
AllAnew n v w [] (e ∷ es) = ⊥
AllAnew n v w (d ∷ ds) [] = ⊥
AllAnew n v w (d ∷ ds) (e ∷ es) = IsPlacedAnew n v w d e × AllAnew n v w ds es

types_same : (x : Ident) (name : List ℕ) (v w : ValueSpecTree) → RespellsValues x name v w → v.type_expr ≡ w.type_expr
types_same x name v w (InValues r) = refl

names_same : (x : Ident) (name : List ℕ) (v w : ValueSpecTree) → RespellsValues x name v w → v.names ≡ w.names
names_same x name v w (InValues r) = refl

module _ (x : Ident) (name : List ℕ) (v w : ValueSpecTree) (r : RespellsValues x name v w) where
  pub type_same : v.type_expr ≡ w.type_expr
  type_same = types_same x name v w r

  -- in a file

  decls_same : (ds : List TopDeclTree) → DeclsAnew v w ds ds
  decls_same [] = tt
  decls_same (d ∷ ds) = (inl refl, decls_same ds)

  decls_both : (ds es fs gs : List TopDeclTree) → DeclsAnew v w ds es → DeclsAnew v w fs gs → DeclsAnew v w (ds ++ fs) (es ++ gs)
  decls_both [] [] fs gs h k = k
  decls_both [] (e ∷ es) fs gs h k = elim h [ ]
  decls_both (d ∷ ds) [] fs gs h k = elim h [ ]
  decls_both (d ∷ ds) (e ∷ es) fs gs h k = (h.0, decls_both ds es fs gs h.1 k)

  names_anew : (k : ValueKind) (n i : ℕ) (xs : Separated Ident) → DeclsAnew v w (named_decls k v n i xs) (named_decls k w n i xs)
  names_anew k n i (One y) = (inr (record { numbers = refl; kind = k; position = i; before = refl; after = refl }), tt)
  names_anew k n i (Then y comma ys) = (inr (record { numbers = refl; kind = k; position = i; before = refl; after = refl }), names_anew k n (i + 1) ys)

  spec_anew : (k : ValueKind) (n : ℕ) → DeclsAnew v w (value_spec_decls k n v) (value_spec_decls k n w)
  spec_anew k n = subst (λ xs. DeclsAnew v w (named_decls k v n 0 v.names) (named_decls k w n 0 xs)) (names_same x name v w r) (names_anew k n 0 v.names)

  abbrev of_group : ValueKind → ℕ → List (ValueSpecTree × Option Span) → List TopDeclTree
  of_group k n ls = numbered (λ l. value_spec_outers k l.0) (λ m l. value_spec_decls k m l.0) n ls

  group_anew : (k : ValueKind) (n : ℕ) (vs ws : List (ValueSpecTree × Option Span)) → WritesInGroup v w vs ws → DeclsAnew v w (of_group k n vs) (of_group k n ws)
  group_anew k n vs ws (AtFirst {more = more}) =
      let old = n + length (value_spec_outers k v) in
      decls_both (value_spec_decls k n v) (value_spec_decls k n w) (of_group k old more) (of_group k (n + length (value_spec_outers k w)) more) (spec_anew k n)
      (subst (λ m. DeclsAnew v w (of_group k old more) (of_group k (n + m) more)) (same_long (value_spec_outers k v) (value_spec_outers k w) (spec_same x name v w r k)) (decls_same (of_group k old more)))
  group_anew k n vs ws (AtLater {u = u} {more = more} {rest = rest} s) =
      let next = n + length (value_spec_outers k u.0) in
      decls_both (value_spec_decls k n u.0) (value_spec_decls k n u.0) (of_group k next more) (of_group k next rest) (decls_same (value_spec_decls k n u.0)) (group_anew k next more rest s)

  specs_anew : (k : ValueKind) (n : ℕ) (vs ws : Specs ValueSpecTree) → WritesInSpecs v w vs ws
      → DeclsAnew v w (specs_decls (value_spec_outers k) (value_spec_decls k) n vs) (specs_decls (value_spec_outers k) (value_spec_decls k) n ws)
  specs_anew k n vs ws InTheOnly = spec_anew k n
  specs_anew k n vs ws (InTheGroup {vs = olds} {ws = news} s) = group_anew k n olds news s

  tops_anew : (n : ℕ) (ds es : List TopTree) → WritesInTops v w ds es → DeclsAnew v w (tops_decls n ds) (tops_decls n es)
  tops_anew n ds es (InTop {k = k} {vs = vs} {ws = ws} {more = more} s) =
      let old = of_specs (value_spec_outers k) vs in
      let new = of_specs (value_spec_outers k) ws in
      decls_both (specs_decls (value_spec_outers k) (value_spec_decls k) n vs) (specs_decls (value_spec_outers k) (value_spec_decls k) n ws) (tops_decls (n + length old) more) (tops_decls (n + length new) more) (specs_anew k n vs ws s)
      (subst (λ m. DeclsAnew v w (tops_decls (n + length old) more) (tops_decls (n + m) more)) (same_long old new (specs_same x name v w r k vs ws s)) (decls_same (tops_decls (n + length old) more)))
  tops_anew n ds es (InLaterTops {d = d} {more = more} {rest = rest} s) =
      let next = n + length (decl_outers d.decl) in
      decls_both (decl_decls n d.decl) (decl_decls n d.decl) (tops_decls next more) (tops_decls next rest) (decls_same (decl_decls n d.decl)) (tops_anew next more rest s)

  -- in a package

  module _ (n : ℕ) where
    all_same : (ds : List FileDecl) → AllAnew n v w ds ds
    all_same [] = tt
    all_same (d ∷ ds) = (record { files = refl; places = refl; decls = inl refl }, all_same ds)

    all_both : (ds es fs gs : List FileDecl) → AllAnew n v w ds es → AllAnew n v w fs gs → AllAnew n v w (ds ++ fs) (es ++ gs)
    all_both [] [] fs gs h k = k
    all_both [] (e ∷ es) fs gs h k = elim h [ ]
    all_both (d ∷ ds) [] fs gs h k = elim h [ ]
    all_both (d ∷ ds) (e ∷ es) fs gs h k = (h.0, all_both ds es fs gs h.1 k)

    in_file : (k : ℕ) (o p : FileOutline) → k ≡ n → o.places ≡ p.places → (ds es : List TopDeclTree) → DeclsAnew v w ds es → AllAnew n v w (map (file_decl k o) ds) (map (file_decl k p) es)
    in_file k o p here q [] [] h = tt
    in_file k o p here q [] (e ∷ es) h = elim h [ ]
    in_file k o p here q (d ∷ ds) [] h = elim h [ ]
    in_file k o p here q (d ∷ ds) (e ∷ es) h = (record { files = refl; places = q; decls = one h.0 }, in_file k o p here q ds es h.1)
      where
        one : ((d ≡ e) ⊎ IsAnew v w d e) → (d ≡ e) ⊎ ((k ≡ n) × IsAnew v w d e)
        one (inl same) = inl same
        one (inr anew) = inr (here, anew)

    abbrev of_files : ℕ → List FileOutline → List FileDecl
    of_files k os = flat_map (λ p. map (file_decl p.0 p.1) p.1.decls) (enumerate_from k os)

    files_anew : (k : ℕ) (front back : List FileTree) (f : FileTree) (ds : List TopTree) → WritesInTops v w f.decls ds → n ≡ k + length front
        → AllAnew n v w (of_files k (map outline_of (front ++ f ∷ back))) (of_files k (map outline_of (front ++ with_decls f ds ∷ back)))
    files_anew k [] back f ds s here =
        let rest = of_files (k + 1) (map outline_of back) in
        let here' : k ≡ n = omega (arith, here) in
        all_both (map (file_decl k (outline_of f)) (tops_decls 0 f.decls)) (map (file_decl k (outline_of (with_decls f ds))) (tops_decls 0 ds)) rest rest
        (in_file k (outline_of f) (outline_of (with_decls f ds)) here' (tops_same x name v w r f.decls ds s) (tops_decls 0 f.decls) (tops_decls 0 ds) (tops_anew 0 f.decls ds s))
        (all_same rest)
    files_anew k (h ∷ hs) back f ds s here =
        let first = map (file_decl k (outline_of h)) (tops_decls 0 h.decls) in
        let next : n ≡ k + 1 + length hs = omega (arith, here) in
        all_both first first (of_files (k + 1) (map outline_of (hs ++ f ∷ back))) (of_files (k + 1) (map outline_of (hs ++ with_decls f ds ∷ back))) (all_same first) (files_anew (k + 1) hs back f ds s next)

  pub package_anew : (front back : List FileTree) (f : FileTree) (ds : List TopTree) → WritesInTops v w f.decls ds → (n : ℕ) → n ≡ length front
      → AllAnew n v w (package_decls (map outline_of (front ++ f ∷ back))) (package_decls (map outline_of (front ++ with_decls f ds ∷ back)))
  package_anew front back f ds s n here = (let q : n ≡ 0 + length front = omega (arith, here) in files_anew n 0 front back f ds s q)
