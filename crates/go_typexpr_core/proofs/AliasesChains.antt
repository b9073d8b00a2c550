-- Chains of aliases, by their numbers.
use Rattle.std.proofs.Common.{◌≡◌, ℕ, zero, suc, ◌⊎◌, inl, inr, List, [], ◌∷◌, Option, Some, None, option_map, length, refl, sym, ap, ◌∙◌, subst}
use Rattle.std.specs.Prelude.{slice_get}
use Rattle.std.proofs.lemmas.List.{length-map}
use Rattle.std.proofs.lemmas.Option.{slice_get-map}
use Rattle.go_digraph_core.specs.chain.Chains.{EndsAt}
use Rattle.go_digraph_core.specs.chain.Laws.{counted_end, end_within}
use Rattle.go_digraph_core.proofs.ChainCounted.{ends_are_counted}
use Rattle.go_term_core.specs.decl_core.declared.keys.DeclKey.{DeclKey}
use Rattle.go_term_core.specs.decl_core.declared.keys.DeclRef.{DeclRef}
use Rattle.go_term_core.specs.Terms.{Term, NoType, Defined}
use Rattle.go_typexpr_core.specs.aliases.Aliases.{aliased, decls_of, end_by, end_of}
use Rattle.go_typexpr_core.specs.aliases.Laws.{AliasesLead, IsTarget}
use Rattle.go_typexpr_core.specs.aliases.mirrors.Numbered.{named_number, nexts, ended, type_of}
use Rattle.go_typexpr_core.proofs.AliasesNumbers.{is_name, named_at, named_gone, named_stands, not_named}

module _ (xs : List (DeclRef × Term)) (path : List ℕ) where
  abbrev next : List (Option ℕ)
  next = nexts path xs

  abbrev number : DeclRef × Term → Option ℕ
  number a = named_number path (decls_of xs) a.1

  pub next_at : (i : ℕ) (a : DeclRef × Term) → slice_get xs i ≡ Some a → slice_get next i ≡ Some (number a)
  next_at i a at = slice_get-map number xs i ∙ ap (option_map number) at

  -- one alias more in front
  pub target_more : (t w u : Term) → aliased xs path t ≡ Some w → IsTarget xs path w u → IsTarget xs path t u
  target_more t w u s g = (let k = is_name xs path t w s in (k.0 ∷ g.0, (k.1, (w, k.2, g.1)), g.2))

  -- what a chain of n aliases at most leads to, by the number at which it ends
  abbrev pub Shows : ℕ → Term → Option ℕ → Type 0
  Shows n t None = end_of n xs path t ≡ NoType
  Shows n t (Some j) = (b : DeclRef × Term) × (slice_get xs j ≡ Some b) × IsTarget xs path t b.1 × (end_of n xs path t ≡ b.1)

  shows_on : (n : ℕ) (t w : Term) (o : Option ℕ) → aliased xs path t ≡ Some w → Shows n w o → Shows (suc n) t o
  shows_on n t w None s r = ap (end_by (suc n) xs path t) s ∙ r
  shows_on n t w (Some j) s r = (r.0, r.1, target_more t w r.0.1 s r.2, ap (end_by (suc n) xs path t) s ∙ r.3)

  shows_from : (n i : ℕ) (a : DeclRef × Term) (o : Option ℕ) → slice_get xs i ≡ Some a → number a ≡ o → Shows n a.1 (end_within n next i (Some o))
  shows_from n i a None at e = (let none : aliased xs path a.1 ≡ None = named_gone xs path a.1 e in (a, at, ([], refl, none), ap (end_by n xs path a.1) none))
  shows_from zero i a (Some m) at e = (let s = named_stands xs path a.1 m e in ap (end_by zero xs path a.1) s.2)
  shows_from (suc n) i a (Some m) at e =
      let s = named_stands xs path a.1 m e in
      let rest : Shows n s.0.1 (end_within n next m (Some (number s.0))) = shows_from n m s.0 (number s.0) s.1 refl in
      let here : Shows n s.0.1 (end_within n next m (slice_get next m)) = subst (λ o. Shows n s.0.1 (end_within n next m o)) (sym (next_at m s.0 s.1)) rest in
      shows_on n a.1 s.0.1 (end_within n next m (slice_get next m)) s.2 here

  pub shows : (n i : ℕ) (a : DeclRef × Term) → slice_get xs i ≡ Some a → Shows n a.1 (counted_end n next i)
  shows n i a at = subst (λ o. Shows n a.1 (end_within n next i o)) (sym (next_at i a at)) (shows_from n i a (number a) at refl)

  -- aliases lead on as their numbers do
  pub lead_ends : (ks : List DeclKey) (i : ℕ) (a : DeclRef × Term) (u : Term) → slice_get xs i ≡ Some a → AliasesLead xs path a.1 ks u → aliased xs path u ≡ None
      → (j : ℕ) × (b : DeclRef × Term) × EndsAt next i j × (slice_get xs j ≡ Some b) × (b.1 ≡ u)
  lead_ends [] i a u at h none =
      (let last : number a ≡ None = not_named xs path a.1 (ap (aliased xs path) h ∙ none) in (i, a, ([], refl, next_at i a at ∙ ap Some last), at, h))
  lead_ends (k ∷ ks) i a u at h none =
      let s = named_at xs path (Defined k) h.1.0 h.1.1 in
      let rest = lead_ends ks s.0 s.1 u s.3 (subst (λ (x : Term). AliasesLead xs path x ks u) (sym s.4) h.1.2) none in
      let on : slice_get next i ≡ Some (Some s.0) = next_at i a at ∙ ap Some (ap (named_number path (decls_of xs)) h.0 ∙ s.2) in
      (rest.0, rest.1, (s.0 ∷ rest.2.0, (on, rest.2.1), rest.2.2), rest.3, rest.4)

  pub as_many : length next ≡ length xs
  as_many = length-map xs number

  pub counted : (ks : List DeclKey) (i : ℕ) (a : DeclRef × Term) (u : Term) → slice_get xs i ≡ Some a → AliasesLead xs path a.1 ks u → aliased xs path u ≡ None
      → (j : ℕ) × (b : DeclRef × Term) × (counted_end (length xs) next i ≡ Some j) × (slice_get xs j ≡ Some b) × (b.1 ≡ u)
  counted ks i a u at h none =
      let l = lead_ends ks i a u at h none in
      (l.0, l.1, ap (λ n. counted_end n next i) (sym as_many) ∙ (ends_are_counted.counted next i l.0).0 l.2, l.3, l.4)

  -- a chain with an end is followed to it
  pub target_end : (i : ℕ) (a : DeclRef × Term) (u : Term) → slice_get xs i ≡ Some a → IsTarget xs path a.1 u → end_of (length xs) xs path a.1 ≡ u
  target_end i a u at g =
      let c = counted g.0 i a u at g.1 g.2 in
      let r : Shows (length xs) a.1 (Some c.0) = subst (Shows (length xs) a.1) c.2 (shows (length xs) i a at) in
      let both : Some r.0 ≡ Some c.1 = sym r.1 ∙ c.3 in
      let same : r.0 ≡ c.1 = cc in
      r.3 ∙ (ap (λ (b : DeclRef × Term). b.1) same ∙ c.4)

  abbrev Ends : Term → Term → Type 0
  Ends t u = IsTarget xs path t u ⊎ ((u ≡ NoType) × ((v : Term) → IsTarget xs path t v → ⊥))

  ends_by : (i : ℕ) (a : DeclRef × Term) (o : Option ℕ) → slice_get xs i ≡ Some a → counted_end (length xs) next i ≡ o → Shows (length xs) a.1 o → Ends a.1 (end_of (length xs) xs path a.1)
  ends_by i a None at e r = inr (r, λ v g. (let c = counted g.0 i a v at g.1 g.2 in let both : None ≡ Some c.0 = sym e ∙ c.2 in cc))
  ends_by i a (Some j) at e r = inl (subst (IsTarget xs path a.1) (sym r.3) r.2)

  -- what is followed to is the target, or no type where there is none
  pub end_is : (i : ℕ) (a : DeclRef × Term) → slice_get xs i ≡ Some a → Ends a.1 (end_of (length xs) xs path a.1)
  end_is i a at = ends_by i a (counted_end (length xs) next i) at refl (shows (length xs) i a at)

  ended_by : (n : ℕ) (t : Term) (o : Option ℕ) → Shows n t o → ended xs o ≡ end_of n xs path t
  ended_by n t None r = sym r
  ended_by n t (Some j) r = ap (λ (x : Option (DeclRef × Term)). type_of x) r.1 ∙ sym r.3

  -- what stands at the end of a chain that was followed by numbers
  pub ended_is : (i : ℕ) (a : DeclRef × Term) → slice_get xs i ≡ Some a → ended xs (counted_end (length xs) next i) ≡ end_of (length xs) xs path a.1
  ended_is i a at = ended_by (length xs) a.1 (counted_end (length xs) next i) (shows (length xs) i a at)
