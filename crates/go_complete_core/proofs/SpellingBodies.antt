-- A file with another body of a function is checked by what it was checked by.
use Rattle.std.proofs.Common.{◌≡◌, ℕ, ◌+◌, List, [], ◌∷◌, ◌++◌, map, length, refl, sym, ap, ◌∙◌}
use Rattle.std.specs.Prelude.{Option}
use Rattle.std.specs.List.{flat_map, enumerate_from}
use Rattle.std.proofs.lemmas.List.{map-append}
use Rattle.go_tree_nodes.specs.Trees.{FuncTree, Lines, TopTree, FileTree}
use Rattle.go_term_core.specs.decl_core.declared.places.Place.{Place}
use Rattle.go_term_core.specs.decl_core.Outer.{decl_outers, tops_outers, places_of, place_of}
use Rattle.go_term_core.specs.decl_core.TopDecls.{decl_decls, tops_decls}
use Rattle.go_names_core.specs.block_core.Blocks.{BlocksModel}
use Rattle.go_typexpr_core.specs.written.Written.{InFile}
use Rattle.go_typexpr_core.specs.entry.Meanings.{Shows, file_meaning}
use Rattle.go_typexpr_core.specs.entry.Outlines.{FileOutline, outline_of}
use Rattle.go_type_core.specs.table_core.Entries.{Entry}
use Rattle.go_candidate_core.specs.declared_core.Faces.{TheFace}
use Rattle.go_candidate_core.specs.declared_core.Written.{WrittenOf, written_of, file_written, package_written}
use Rattle.go_package_core.specs.body_core.FunctionStands.{FileStand}
use Rattle.go_package_core.specs.prepare.Packages.{PackageIn, shows_in, stand_in}
use Rattle.go_complete_core.specs.spelling.Files.{WritesBody, InFunc, BehindTop, with_decls, with_trees}
use Rattle.go_complete_core.proofs.SpellingNames.{names_other}

module _ (f : FuncTree) (body : Lines) where
  -- the identifiers that it declares outside bodies

  outers_same : (ds es : List TopTree) → WritesBody f body ds es → tops_outers ds ≡ tops_outers es
  outers_same ds es (InFunc {more = more}) = refl
  outers_same ds es (BehindTop {d = d} {more = more} {rest = rest} r) = ap (λ l. decl_outers d.decl ++ l) (outers_same more rest r)

  places_same : (g : FileTree) (ds : List TopTree) → WritesBody f body g.decls ds → places_of g ≡ places_of (with_decls g ds)
  places_same g ds r = ap (map place_of) (outers_same g.decls ds r)

  -- what is written of its declarations

  module _ (shows : Shows) (path : List ℕ) (blocks : BlocksModel) (types : List Entry) where
    abbrev in_file : ℕ → List Place → InFile
    in_file k places = record { path = path; file = k; places = places }

    abbrev of_decls : ℕ → List Place → ℕ → List TopTree → List WrittenOf
    of_decls k places m ds = file_written (file_meaning shows path blocks k) (in_file k places) types (tops_decls m ds)

    decls_same : (k : ℕ) (places : List Place) (m : ℕ) (ds es : List TopTree) → WritesBody f body ds es → of_decls k places m ds ≡ of_decls k places m es
    decls_same k places m ds es (InFunc {more = more}) = refl
    decls_same k places m ds es (BehindTop {d = d} {more = more} {rest = rest} r) =
        let write = written_of (file_meaning shows path blocks k) (in_file k places) types in
        let first = decl_decls m d.decl in
        let next = m + length (decl_outers d.decl) in
        map-append write first (tops_decls next more) ∙ (ap (λ l. map write first ++ l) (decls_same k places next more rest r) ∙ sym (map-append write first (tops_decls next rest)))

    abbrev of_file : ℕ × FileOutline → List WrittenOf
    of_file o = file_written (file_meaning shows path blocks o.0) (in_file o.0 o.1.places) types o.1.decls

    files_same : (k : ℕ) (front back : List FileTree) (g : FileTree) (ds : List TopTree) → WritesBody f body g.decls ds
        → flat_map of_file (enumerate_from k (map outline_of (front ++ g ∷ back))) ≡ flat_map of_file (enumerate_from k (map outline_of (front ++ with_decls g ds ∷ back)))
    files_same k [] back g ds r =
        ap (λ l. l ++ flat_map of_file (enumerate_from (k + 1) (map outline_of back)))
        (ap (λ ps. of_decls k ps 0 g.decls) (places_same g ds r) ∙ decls_same k (places_of (with_decls g ds)) 0 g.decls ds r)
    files_same k (h ∷ hs) back g ds r = ap (λ l. of_file (k, outline_of h) ++ l) (files_same (k + 1) hs back g ds r)

  -- where it is checked

  abbrev stand_by : PackageIn → Shows → List Entry → List WrittenOf → List (Option TheFace) → ℕ → List Place → FileStand
  stand_by p shows types written known n places = record {
    scene = record { path = p.path; blocks = p.blocks; types = types; others = p.others; written = written };
    known = known;
    file = record { path = p.path; file = n; places = places };
    top = file_meaning shows p.path p.blocks n;
  }

  pub stands_same : (p q : PackageIn) (types others : List Entry) (known known' : List (Option TheFace)) (n : ℕ) (front back : List FileTree) (g : FileTree) (ds : List TopTree) → WritesBody f body g.decls ds
      → p.trees ≡ front ++ g ∷ back → q ≡ with_trees p (front ++ with_decls g ds ∷ back) → types ≡ others → known ≡ known'
      → stand_in q others known' n (outline_of (with_decls g ds)) ≡ stand_in p types known n (outline_of g)
  stands_same p q types others known known' n front back g ds r before after same_types same_known =
      let new = with_decls g ds in
      let news : List FileTree = front ++ new ∷ back in
      let names : List FileTree → Shows = λ fs. shows_in (with_trees p fs) in
      let write : Shows → List Entry → List FileTree → List WrittenOf = λ shows es fs. package_written shows p.path p.blocks es (map outline_of fs) in
      let stand : Shows → List Entry → List FileTree → List (Option TheFace) → List Place → FileStand = λ shows es fs ks ps. stand_by p shows es (write shows es fs) ks n ps in
      let old = names (front ++ g ∷ back) in
      ap (λ (k : PackageIn). stand_in k others known' n (outline_of new)) after
      ∙ (ap (λ (k : Shows). stand k others news known' (places_of new)) (sym (names_other p front back g ds f body r))
      ∙ (ap (λ es. stand old es news known' (places_of new)) (sym same_types)
      ∙ (ap (λ ks. stand old types news ks (places_of new)) (sym same_known)
      ∙ (ap (stand old types news known) (sym (places_same g ds r))
      ∙ (ap (λ ws. stand_by p old types ws known n (places_of g)) (sym (files_same old p.path p.blocks types 0 front back g ds r))
      ∙ ap (λ fs. stand (names fs) types fs known (places_of g)) (sym before))))))
