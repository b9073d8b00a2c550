-- Loops over the declarations of a package.
use Rattle.std.proofs.Common.{◌≡◌, ℕ, ◌+◌, ◌<◌, List, [], ◌∷◌, ◌++◌, length, get_or, take, map, sym, ap, ◌∙◌, append_assoc}
use Rattle.std.proofs.lemmas.List.{map-append, map_more}
use Rattle.go_term_core.specs.decl_core.declared.tops.Outline.{Outline}
use Rattle.go_term_core.specs.decl_core.declared.tops.TopDecl.{TopDecl}
use Rattle.go_term_core.specs.decl_core.Shown.{decl_shown}
use Rattle.go_handle_core.specs.table_core.Entries.{Entry}
use Rattle.go_typexpr_core.specs.written.Written.{InFile, Meaning}
use Rattle.go_typexpr_core.specs.entry.Entries.{Meanings, file_at}
use Rattle.go_typexpr_core.specs.entry.Outlines.{outline_shown}
use Rattle.go_typexpr_core.proofs.EntryNumbered.{flat_more}
use Rattle.go_declared_core.specs.declared.written.WrittenDecl.{WrittenDecl}
use Rattle.go_declared_core.specs.Held.{written_shown}
use Rattle.go_declared_core.specs.Written.{WrittenOf, file_written, written_of, written_with}

module _ (mean : Meaning) (f : InFile) (es : List Entry) (ds : List TopDecl) (i : ℕ) (d : TopDecl) (lt : i < length ds) (is : d ≡ get_or ds i d) where
  one_more : file_written mean f es (map decl_shown (take (i + 1) ds)) ≡ file_written mean f es (map decl_shown (take i ds)) ++ written_of mean f es (decl_shown d) ∷ []
  one_more =
      ap (file_written mean f es) (map_more decl_shown ds i d lt ∙ ap (λ x. map decl_shown (take i ds) ++ decl_shown x ∷ []) (sym is))
      ∙ map-append (written_of mean f es) (map decl_shown (take i ds)) (decl_shown d ∷ [])

  pub decls_step : (first : List WrittenOf) (old new : List WrittenDecl) (one : WrittenDecl) → map written_shown old ≡ first ++ file_written mean f es (map decl_shown (take i ds))
      → new ≡ old ++ one ∷ [] → written_shown one ≡ written_of mean f es (decl_shown d) → map written_shown new ≡ first ++ file_written mean f es (map decl_shown (take (i + 1) ds))
  decls_step first old new one was e w =
      ap (map written_shown) e
      ∙ (map-append written_shown old (one ∷ [])
      ∙ (ap (λ l. l ++ written_shown one ∷ []) was
      ∙ (append_assoc first (file_written mean f es (map decl_shown (take i ds))) (written_shown one ∷ [])
      ∙ ap (λ l. first ++ l) (ap (λ x. file_written mean f es (map decl_shown (take i ds)) ++ x ∷ []) w ∙ sym one_more))))

pub files_step : (means : Meanings) (path : List ℕ) (es : List Entry) (os : List Outline) (i : ℕ) (o : Outline) (old new : List WrittenOf) → i < length os → o ≡ get_or os i o → old ≡ written_with means path es (map outline_shown (take i os))
    → new ≡ old ++ file_written (means i) (file_at path i (outline_shown o)) es (outline_shown o).decls → new ≡ written_with means path es (map outline_shown (take (i + 1) os))
files_step means path es os i o old new lt is was e =
    e
    ∙ (ap (λ l. l ++ file_written (means i) (file_at path i (outline_shown o)) es (outline_shown o).decls) was
    ∙ sym (flat_more outline_shown (λ p. file_written (means p.0) (file_at path p.0 p.1) es p.1.decls) os i o lt is))
