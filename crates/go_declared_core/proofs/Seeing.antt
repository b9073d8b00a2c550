-- The names of a package block as other packages see them.
use Rattle.std.proofs.Common.{◌≡◌, ℕ, true, false, List, [], ◌∷◌, ◌++◌, map, Option, Some, None, is_some, refl, sym, ap, ◌∙◌}
use Rattle.std.specs.Prelude.{if◌then◌else◌}
use Rattle.std.proofs.lemmas.Bool.{true≢false}
use Rattle.std.proofs.lemmas.List.{map-append}
use Rattle.go_term_core.specs.decl_core.declared.keys.DeclRef.{DeclRef}
use Rattle.go_block_core.specs.declared.exports.NamedDecl.{NamedDecl}
use Rattle.go_block_core.specs.Exports.{name_and_decl}
use Rattle.go_block_core.specs.Tables.{has, in_block, with_first}
use Rattle.go_declared_core.specs.Packages.{as_seen, seen_after}

abbrev Seen : Type 0
Seen = List (List ℕ × Option DeclRef)

-- one name more

pub seen_before : (seen : Seen) (name : List ℕ) (x : Option DeclRef) → has seen name ≡ true → seen ≡ with_first seen name x
seen_before seen name x there = sym (ap (λ b. if b then seen else seen ++ (name, x) ∷ []) there)

pub seen_last : (seen : Seen) (name : List ℕ) (x : Option DeclRef) → has seen name ≡ false → seen ++ (name, x) ∷ [] ≡ with_first seen name x
seen_last seen name x absent = sym (ap (λ b. if b then seen else seen ++ (name, x) ∷ []) absent)

pub not_seen : (seen : Seen) (name : List ℕ) → has seen name ≡ false → in_block seen name ≡ None
not_seen seen name = by (in_block seen name)
  where
    by : (o : Option (Option DeclRef)) → is_some o ≡ false → o ≡ None
    by None h = refl
    by (Some d) h = absurd (true≢false h)

-- the names of a block

seen-push : (seen : Seen) (es : List (List ℕ × DeclRef)) (e : List ℕ × DeclRef) → seen_after seen (es ++ e ∷ []) ≡ with_first (seen_after seen es) e.0 (as_seen e.0 e.1)
seen-push seen [] e = refl
seen-push seen (x ∷ es) e = seen-push (with_first seen x.0 (as_seen x.0 x.1)) es e

pub seen_step : (ns : List NamedDecl) (n : NamedDecl) (old new : Seen) → old ≡ seen_after [] (map name_and_decl ns) → new ≡ with_first old n.name (as_seen n.name n.decl) → new ≡ seen_after [] (map name_and_decl (ns ++ n ∷ []))
seen_step ns n old new was e =
    e
    ∙ (ap (λ (s : Seen). with_first s n.name (as_seen n.name n.decl)) was
    ∙ (sym (seen-push [] (map name_and_decl ns) (name_and_decl n)) ∙ ap (seen_after []) (sym (map-append name_and_decl ns (n ∷ [])))))
