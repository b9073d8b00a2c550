-- Two places of declarations are the same in either order.
use Rattle.std.proofs.Common.{◌≡◌, ℕ, List, ◌&&◌, nat_eq, ap₂, arith}
use Rattle.std.specs.Str.{bytes_eq}
use Rattle.std.proofs.lemmas.Cmp.{nat_eq_equiv}
use Rattle.std.proofs.lemmas.Slice.Eq.{bytes_eq-Decides}
use Rattle.go_emit_core.specs.declared.lookup.decl_table.DeclSpot.{DeclSpot}
use Rattle.go_emit_core.specs.lookup.mirrors.Spotting.{same_key}

bytes_back : (x y : List ℕ) → bytes_eq x y ≡ bytes_eq y x
bytes_back x y = grind (arith, bytes_eq-Decides x y, bytes_eq-Decides y x)

pub offset_back : (a b : ℕ) → nat_eq a b ≡ nat_eq b a
offset_back a b = nat_eq_equiv.symm a b

pub key_back : (a b : DeclSpot) → same_key a b ≡ same_key b a
key_back a b = ap₂ ◌&&◌ (bytes_back a.path.now b.path.now) (ap₂ ◌&&◌ (offset_back a.file b.file) (offset_back a.number b.number))
