-- The keys that are left of the fields of a struct type.
use Rattle.std.proofs.Common.{◌≡◌, ℕ, ◌+◌, Bool, true, false, not, ◌&&◌, ◌||◌, List, [], ◌∷◌, ◌++◌, drop, Some, refl, sym, ap, ap₂, ◌∙◌, subst, arith, ◌⊎◌, inl, inr}
use Rattle.std.specs.Prelude.{◌↔◌, Contains, slice_get, if◌then◌else◌}
use Rattle.std.specs.Str.{bytes_eq}
use Rattle.std.proofs.lemmas.Slice.Eq.{bytes_eq-Decides}
use Rattle.go_tree_nodes.specs.text_core.Text.{is_blank}
use Rattle.go_candidate_core.specs.after_dot.mirrors.Kept.{named_if}
use Rattle.go_expr_core.specs.denote_core.declared.composite.things.LiteralField.{LiteralField}
use Rattle.go_expr_core.specs.denote_core.declared.composite.things.NamedField.TheVariants.{Visible, Hidden, Missing}
use Rattle.go_expr_core.specs.denote_core.CompositeLook.{FieldOf}
use Rattle.go_expr_core.specs.denote_core.CompositeFields.{shown_field, named_field}
use Rattle.go_expr_core.specs.denote_core.CompositeRepeats.{has_name}
use Rattle.go_expr_core.specs.denote_core.CompositeMirrors.Sets.{HasNames}
use Rattle.go_candidate_core.specs.after_dot.mirrors.Keyed.{is_left, keys_left, is_shown}
use Rattle.go_candidate_core.proofs.AfterDotKeeping.{either, in_first, in_rest, nothing_in}

-- a name that a list has

pub has_from : (ns : List (List ℕ)) (m : List ℕ) → Contains ns m → has_name m ns ≡ true
has_from [] m h = absurd (nothing_in m h)
has_from (n ∷ ns) m h = elim (either n ns m h) [
  | inl same ↦ ap (λ b. b || has_name m ns) ((bytes_eq-Decides n m).1 same)
  | inr rest ↦ ap (λ b. bytes_eq n m || b) (has_from ns m rest) ∙ any_true (bytes_eq n m)
]
  where
    any_true : (b : Bool) → (b || true) ≡ true
    any_true true = refl
    any_true false = refl

pub has_to : (ns : List (List ℕ)) (m : List ℕ) → has_name m ns ≡ true → Contains ns m
has_to [] m h = absurd (cc)
has_to (n ∷ ns) m h = by (λ k. has_to ns m k) (bytes_eq n m) refl h
  where
    by : (has_name m ns ≡ true → Contains ns m) → (b : Bool) → bytes_eq n m ≡ b → (b || has_name m ns) ≡ true → Contains (n ∷ ns) m
    by more true e k = subst (λ (z : List ℕ). Contains (n ∷ ns) z) ((bytes_eq-Decides n m).0 e) (in_first n ns)
    by more false e k = in_rest n ns m (more k)

-- one of the fields
has_if : (b : Bool) (n m : List ℕ) (rest : List (List ℕ)) → has_name m (named_if b n ++ rest) ≡ ((b && bytes_eq n m) || has_name m rest)
has_if true n m rest = refl
has_if false n m rest = refl

abbrev pub left_with : Bool → Bool → Bool → Bool
left_with seen blank shown = not seen && (not blank && shown)

module _ {T D : Type 0} where
  -- by what a set answers
  pub left_same : (fs : List (FieldOf T D)) (ms ns : List (List ℕ)) → HasNames ms ns → keys_left ms fs ≡ keys_left ns fs
  left_same [] ms ns h = refl
  left_same (f ∷ fs) ms ns h =
      ap₂ (λ (b : Bool) (rest : List (List ℕ)). named_if ((not b && not (is_blank f.name)) && f.known.is_visible) f.name ++ rest) (h f.name) (left_same fs (f.name ∷ ms) (f.name ∷ ns) (λ n. ap (λ b. bytes_eq f.name n || b) (h n)))

  shown_is : (field : LiteralField T D) (b : Bool) → is_shown (shown_field b field) ≡ b
  shown_is field true = refl
  shown_is field false = refl

  pub is_in_left : (fs : List (FieldOf T D)) (seen : List (List ℕ)) (m : List ℕ) → has_name m (keys_left seen fs) ≡ left_with (has_name m seen) (is_blank m) (is_shown (named_field fs m))
  is_in_left [] seen m = sym (none (has_name m seen) (is_blank m))
    where
      none : (a b : Bool) → left_with a b false ≡ false
      none true b = refl
      none false true = refl
      none false false = refl
  is_in_left (f ∷ fs) seen m = has_if (is_left seen f) f.name m (keys_left (f.name ∷ seen) fs) ∙ by (bytes_eq f.name m) refl (is_in_left fs (f.name ∷ seen) m)
    where
      last : (a b v : Bool) (rest : Bool) → rest ≡ false → (((((not a && not b) && v) && true) || rest) ≡ left_with a b v)
      last true b v rest e = e
      last false true v rest e = e
      last false false true rest e = refl
      last false false false rest e = e

      drop_and : (a r : Bool) → ((a && false) || r) ≡ r
      drop_and true r = refl
      drop_and false r = refl

      by : (b : Bool) → bytes_eq f.name m ≡ b → has_name m (keys_left (f.name ∷ seen) fs) ≡ left_with (bytes_eq f.name m || has_name m seen) (is_blank m) (is_shown (named_field fs m))
          → ((is_left seen f && bytes_eq f.name m) || has_name m (keys_left (f.name ∷ seen) fs)) ≡ left_with (has_name m seen) (is_blank m) (is_shown (if bytes_eq f.name m then shown_field f.known.is_visible f.known else named_field fs m))
      by true e rest =
          let same : f.name ≡ m = (bytes_eq-Decides f.name m).0 e in
          let none : has_name m (keys_left (f.name ∷ seen) fs) ≡ false = rest ∙ ap (λ (b : Bool). left_with (b || has_name m seen) (is_blank m) (is_shown (named_field fs m))) e in
          ap₂ (λ (n : List ℕ) (b : Bool). (((not (has_name n seen) && not (is_blank n)) && f.known.is_visible) && b) || has_name m (keys_left (f.name ∷ seen) fs)) same e
          ∙ (last (has_name m seen) (is_blank m) f.known.is_visible (has_name m (keys_left (f.name ∷ seen) fs)) none
          ∙ (ap (λ (b : Bool). left_with (has_name m seen) (is_blank m) b) (sym (shown_is f.known f.known.is_visible))
          ∙ ap (λ (b : Bool). left_with (has_name m seen) (is_blank m) (is_shown (if b then shown_field f.known.is_visible f.known else named_field fs m))) (sym e)))
      by false e rest =
          ap (λ (b : Bool). (is_left seen f && b) || has_name m (keys_left (f.name ∷ seen) fs)) e
          ∙ (drop_and (is_left seen f) (has_name m (keys_left (f.name ∷ seen) fs))
          ∙ (rest ∙ (ap (λ (b : Bool). left_with (b || has_name m seen) (is_blank m) (is_shown (named_field fs m))) e
          ∙ ap (λ (b : Bool). left_with (has_name m seen) (is_blank m) (is_shown (if b then shown_field f.known.is_visible f.known else named_field fs m))) (sym e))))
