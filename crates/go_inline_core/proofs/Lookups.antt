-- Looking up by offset: by recursion, and by the place of the first that is there.
use Rattle.std.proofs.Common.{◌≡◌, ℕ, suc, ◌+◌, ◌<◌, Bool, true, false, cond, List, [], ◌∷◌, length, get_or, nat_eq, Some, None, refl, ap, ◌∙◌, arith}
use Rattle.std.specs.List.{position_from}
use Rattle.go_inline_core.specs.Types.{InlineOf, inline_at}

pub record Found (types : List (ℕ × InlineOf)) (offset k n : ℕ) (d : ℕ × InlineOf) : Type 0 where
  pub place : ℕ
  pub is : n ≡ k + place
  pub within : place < length types
  pub has : inline_at types offset ≡ Some (get_or types place d).1

pub found : (types : List (ℕ × InlineOf)) (offset k n : ℕ) (d : ℕ × InlineOf) → position_from (λ t. nat_eq offset t.0) k types ≡ Some n → Found types offset k n d
found [] offset k n d h = cc
found (t ∷ types) offset k n d h = by (nat_eq offset t.0) refl h (found types offset (k + 1) n d)
  where
    by : (b : Bool) → nat_eq offset t.0 ≡ b → cond b (Some k) (position_from (λ t. nat_eq offset t.0) (k + 1) types) ≡ Some n
        → (position_from (λ t. nat_eq offset t.0) (k + 1) types ≡ Some n → Found types offset (k + 1) n d) → Found (t ∷ types) offset k n d
    by true e h rest = record {
      place = 0;
      is = (let same : k ≡ n = (let s : Some k ≡ Some n = h in cc) in omega (arith, same));
      within = omega arith;
      has = ap (λ (b : Bool). cond b (Some t.1) (inline_at types offset)) e;
    }
    by false e h rest = (let behind = rest h in record {
      place = suc behind.place;
      is = omega (arith, behind.is);
      within = omega (arith, behind.within);
      has = ap (λ (b : Bool). cond b (Some t.1) (inline_at types offset)) e ∙ behind.has;
    })

pub missing : (types : List (ℕ × InlineOf)) (offset k : ℕ) → position_from (λ t. nat_eq offset t.0) k types ≡ None → inline_at types offset ≡ None
missing [] offset k h = refl
missing (t ∷ types) offset k h = by (nat_eq offset t.0) refl h (missing types offset (k + 1))
  where
    by : (b : Bool) → nat_eq offset t.0 ≡ b → cond b (Some k) (position_from (λ t. nat_eq offset t.0) (k + 1) types) ≡ None → (position_from (λ t. nat_eq offset t.0) (k + 1) types ≡ None → inline_at types offset ≡ None)
        → inline_at (t ∷ types) offset ≡ None
    by true e h rest = cc
    by false e h rest = ap (λ (b : Bool). cond b (Some t.1) (inline_at types offset)) e ∙ rest h
