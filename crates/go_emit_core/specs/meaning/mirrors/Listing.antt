-- A package by the outlines of its files.
use Rattle.std.specs.Prelude.{ℕ, suc, List, [], ◌∷◌, ◌++◌, map}
use Rattle.go_term_core.specs.decl_core.declared.keys.DeclRef.{DeclRef}
use Rattle.go_declared_core.specs.typexpr_core.EntryOutlines.{FileOutline}
use Rattle.go_emit_core.specs.meaning.Scenes.{decl_at}

-- its declarations outside functions
abbrev pub outlines_decls : ℕ → List FileOutline → List DeclRef
outlines_decls n [] = []
outlines_decls n (o ∷ os) = map (decl_at n) o.decls ++ outlines_decls (suc n) os
