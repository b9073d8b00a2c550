-- The declarations of a package in which a function has another body.
use Rattle.std.proofs.Common.{◌≡◌, ◌⊎◌, ℕ, ◌+◌, inl, inr, List, [], ◌∷◌, ◌++◌, map, length, refl, ap}
use Rattle.std.specs.Prelude.{⊤}
use Rattle.std.specs.List.{flat_map, enumerate_from}
use Rattle.go_tree_nodes.specs.Trees.{FuncTree, Lines, TopTree, FileTree}
use Rattle.go_term_core.specs.decl_core.Outer.{decl_outers, tops_outers, place_of}
use Rattle.go_term_core.specs.decl_core.TopDecls.{TopDeclTree, FuncForm, decl_decls, tops_decls}
use Rattle.go_typexpr_core.specs.entry.Outlines.{FileOutline, outline_of}
use Rattle.go_candidate_core.specs.declared_core.Laws.{FileDecl, file_decl}
use Rattle.go_complete_core.specs.spelling.Files.{WritesBody, InFunc, BehindTop, with_decls}
use Rattle.go_complete_core.specs.spelling.Trees.{with_body}

-- one declaration of both: the same, or the function
abbrev pub IsOther : FuncTree → Lines → TopDeclTree → TopDeclTree → Type 0
IsOther f body d e = (d ≡ e) ⊎ ((d.number ≡ e.number) × (d.form ≡ FuncForm f) × (e.form ≡ FuncForm (with_body f body)) × (d.ident ≡ e.ident))

abbrev DeclsOther : FuncTree → Lines → List TopDeclTree → List TopDeclTree → Type 0
DeclsOther f body [] [] = ⊤
DeclsOther f body [] (e ∷ es) = ⊥
DeclsOther f body (d ∷ ds) [] = ⊥
DeclsOther f body (d ∷ ds) (e ∷ es) = IsOther f body d e × DeclsOther f body ds es

pub record IsPlacedOther (f : FuncTree) (body : Lines) (d e : FileDecl) : Type 0 where
  pub files : d.file ≡ e.file
  pub places : d.outline.places ≡ e.outline.places
  pub decls : IsOther f body d.decl e.decl

abbrev pub AllOther : FuncTree → Lines → List FileDecl → List FileDecl → Type 0
AllOther f body [] [] = ⊤
AllOther f body [] (e ∷ es) = ⊥
AllOther f body (d ∷ ds) [] = ⊥
AllOther f body (d ∷ ds) (e ∷ es) = IsPlacedOther f body d e × AllOther f body ds es

module _ (f : FuncTree) (body : Lines) where
  -- in a file

  decls_same : (ds : List TopDeclTree) → DeclsOther f body ds ds
  decls_same [] = tt
  decls_same (d ∷ ds) = (inl refl, decls_same ds)

  decls_behind : (ds fs gs : List TopDeclTree) → DeclsOther f body fs gs → DeclsOther f body (ds ++ fs) (ds ++ gs)
  decls_behind [] fs gs k = k
  decls_behind (d ∷ ds) fs gs k = (inl refl, decls_behind ds fs gs k)

  tops_other : (n : ℕ) (ds es : List TopTree) → WritesBody f body ds es → DeclsOther f body (tops_decls n ds) (tops_decls n es)
  tops_other n ds es (InFunc {semicolon = s} {more = more}) = (inr (refl, refl, refl, refl), decls_same _)
  tops_other n ds es (BehindTop {d = d} {more = more} {rest = rest} r) =
      let next = n + length (decl_outers d.decl) in
      decls_behind (decl_decls n d.decl) (tops_decls next more) (tops_decls next rest) (tops_other next more rest r)

  pub outers_same : (ds es : List TopTree) → WritesBody f body ds es → tops_outers ds ≡ tops_outers es
  outers_same ds es (InFunc {more = more}) = refl
  outers_same ds es (BehindTop {d = d} {more = more} {rest = rest} r) = ap (λ l. decl_outers d.decl ++ l) (outers_same more rest r)

  -- in a package

  all_same : (ds : List FileDecl) → AllOther f body ds ds
  all_same [] = tt
  all_same (d ∷ ds) = (record { files = refl; places = refl; decls = inl refl }, all_same ds)

  all_both : (ds es fs gs : List FileDecl) → AllOther f body ds es → AllOther f body fs gs → AllOther f body (ds ++ fs) (es ++ gs)
  all_both [] [] fs gs h k = k
  all_both [] (e ∷ es) fs gs h k = elim h [ ]
  all_both (d ∷ ds) [] fs gs h k = elim h [ ]
  all_both (d ∷ ds) (e ∷ es) fs gs h k = (h.0, all_both ds es fs gs h.1 k)

  in_file : (k : ℕ) (o p : FileOutline) → o.places ≡ p.places → (ds es : List TopDeclTree) → DeclsOther f body ds es → AllOther f body (map (file_decl k o) ds) (map (file_decl k p) es)
  in_file k o p q [] [] h = tt
  in_file k o p q [] (e ∷ es) h = elim h [ ]
  in_file k o p q (d ∷ ds) [] h = elim h [ ]
  in_file k o p q (d ∷ ds) (e ∷ es) h = (record { files = refl; places = q; decls = h.0 }, in_file k o p q ds es h.1)

  abbrev of_files : ℕ → List FileOutline → List FileDecl
  of_files k os = flat_map (λ p. map (file_decl p.0 p.1) p.1.decls) (enumerate_from k os)

  pub files_other : (k : ℕ) (front back : List FileTree) (g : FileTree) (ds : List TopTree) → WritesBody f body g.decls ds
      → AllOther f body (of_files k (map outline_of (front ++ g ∷ back))) (of_files k (map outline_of (front ++ with_decls g ds ∷ back)))
  files_other k [] back g ds r =
      let rest = of_files (k + 1) (map outline_of back) in
      all_both (map (file_decl k (outline_of g)) (tops_decls 0 g.decls)) (map (file_decl k (outline_of (with_decls g ds))) (tops_decls 0 ds)) rest rest
      (in_file k (outline_of g) (outline_of (with_decls g ds)) (ap (map place_of) (outers_same g.decls ds r)) (tops_decls 0 g.decls) (tops_decls 0 ds) (tops_other 0 g.decls ds r))
      (all_same rest)
  files_other k (h ∷ hs) back g ds r =
      let first = map (file_decl k (outline_of h)) (tops_decls 0 h.decls) in
      all_both first first (of_files (k + 1) (map outline_of (hs ++ g ∷ back))) (of_files (k + 1) (map outline_of (hs ++ with_decls g ds ∷ back))) (all_same first) (files_other (k + 1) hs back g ds r)
