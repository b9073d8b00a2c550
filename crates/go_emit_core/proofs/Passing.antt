-- Occurrences before an offset, and those of a body.
use Rattle.std.proofs.Common.{◌≡◌, ℕ, Bool, cond, ◌+◌, ◌-◌, ◌≤◌, List, [], ◌∷◌, length, take, drop, take_while, nat_lt, refl, sym, ap, ◌∙◌, arith}
use Rattle.std.specs.List.{prefix_len}
use Rattle.std.proofs.lemmas.Bool.{le-ltb}
use Rattle.std.proofs.lemmas.List.Sums.{prefix_len-le-length}
use Rattle.go_package_core.specs.body_core.Notes.{TheUse}
use Rattle.go_emit_core.specs.Emitted.{uses_before}
use Rattle.go_emit_core.proofs.Cutting.{counted_on, sooner}

abbrev is_before : ℕ → TheUse → Bool
is_before bound u = nat_lt u.offset bound

pub known_within : (uses : List TheUse) (count known : ℕ) → count ≡ uses_before uses known → count ≤ length uses
known_within uses count known e = (let le = prefix_len-le-length (is_before known) uses in omega (arith, e, le))

pub from_known : (uses : List TheUse) (count known bound : ℕ) → count ≡ uses_before uses known → known ≤ bound → count + prefix_len (λ u. nat_lt u.offset bound) (drop count uses) ≡ uses_before uses bound
from_known uses count known bound e le =
    ap (λ (n : ℕ). n + prefix_len (is_before bound) (drop n uses)) e ∙ counted_on (is_before known) (is_before bound) (λ u h. sooner u.offset known bound le h) uses

pub from_start : (uses : List TheUse) (bound : ℕ) → 0 + prefix_len (λ u. nat_lt u.offset bound) (drop 0 uses) ≡ uses_before uses bound
from_start uses bound = omega arith

pub cut_body : (uses : List TheUse) (first last close : ℕ) → last ≡ first + prefix_len (λ u. nat_lt u.offset close) (drop first uses)
    → take (last - first) (drop first uses) ≡ take_while (λ u. nat_lt u.offset close) (drop first uses)
cut_body uses first last close e = (let n : last - first ≡ prefix_len (is_before close) (drop first uses) = omega (arith, e) in ap (λ (m : ℕ). take m (drop first uses)) n)

pub none_before : (uses : List TheUse) → 0 ≡ uses_before uses 0
none_before [] = refl
none_before (u ∷ us) = sym (ap (λ (b : Bool). cond b (1 + uses_before us 0) 0) (le-ltb u.offset 0 (omega arith)))
