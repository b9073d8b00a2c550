-- The order in which declarations are kept.
use Rattle.std.specs.Prelude.{Bool, ◌&&◌, ◌||◌, nat_eq, nat_lt}
use Rattle.std.specs.Ordering.{nat_cmp, ordering_then}
use Rattle.std.specs.declared.cmp.Ordering.{Ordering}
use Rattle.go_decl_core.specs.declared.keys.DeclRef.{DeclRef}

-- declarations by file, then by number there
abbrev pub place_cmp : DeclRef → DeclRef → Ordering
place_cmp a b = ordering_then (nat_cmp a.file b.file) (nat_cmp a.number b.number)

-- a declaration stands before another of its package: by file, then by number there
abbrev pub is_ref_before : DeclRef → DeclRef → Bool
is_ref_before a b = nat_lt a.file b.file || (nat_eq a.file b.file && nat_lt a.number b.number)
