-- Declarations of a package, by its path.
use Rattle.std.proofs.Common.{◌≡◌, ℕ, Bool, true, false, List, refl, sym}
use Rattle.std.specs.Prelude.{◌↔◌, IsTrue}
use Rattle.std.specs.Str.{bytes_eq}
use Rattle.std.proofs.lemmas.Bool.{true≢false, false_from_ne_true}
use Rattle.std.proofs.lemmas.Slice.Eq.{bytes_eq-Decides}

pub own_by_bytes : (b : Bool) (path other : List ℕ) → (IsTrue b ↔ (path ≡ other)) → b ≡ bytes_eq path other
own_by_bytes true path other h = sym ((bytes_eq-Decides path other).1 (h.0 refl))
own_by_bytes false path other h = sym (false_from_ne_true (bytes_eq path other) (λ yes. true≢false (sym (h.1 ((bytes_eq-Decides path other).0 yes)))))
