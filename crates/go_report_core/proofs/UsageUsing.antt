-- Which imports are used, by the occurrences of a file.
use Rattle.std.proofs.Common.{◌≡◌, ◌⊎◌, inl, inr, ⊎_elim, ℕ, zero, suc, Bool, true, false, List, [], ◌∷◌, Option, Some, None, refl, sym, ap, subst}
use Rattle.std.specs.Prelude.{if◌then◌else◌, slice_get}
use Rattle.go_term_core.proofs.Members.{In, in_back, in_either, in_front}
use Rattle.go_tree_core.specs.declared.occurrence.Occ.{Occ}
use Rattle.go_block_core.specs.declared.binding.Binding.{Binding}
use Rattle.go_block_core.specs.Blocks.{BlocksModel, file_binding}
use Rattle.go_report_core.specs.usage.Laws.{IsBoundBy, IsByDot, IsQualified}
use Rattle.go_report_core.specs.usage.Used.{FileUse, is_name_role, used_by, used_if, used_places, uses_binding}
use Rattle.go_report_core.proofs.UsageBound.{Dots, Qualifies, dots_used, qualifies_used, used_is}

module _ (b : BlocksModel) (file : ℕ) (at : ℕ) where
  abbrev IsUsed : List Occ → List FileUse → Type 0
  IsUsed os us = IsQualified b file os us at ⊎ IsByDot b file os us at

  -- one occurrence more in front

  bound_behind : (o x : Occ) (u v : FileUse) (os : List Occ) (us : List FileUse) (n : ℕ) (binding : Binding) → IsBoundBy b file os us at n x v binding → IsBoundBy b file (o ∷ os) (u ∷ us) at (suc n) x v binding
  bound_behind o x u v os us n binding h = record { occurrence = h.occurrence; has = h.has; bound = h.bound; place = h.place }

  behind : (o : Occ) (u : FileUse) (os : List Occ) (us : List FileUse) → IsUsed os us → IsUsed (o ∷ os) (u ∷ us)
  behind o u os us (inl q) = inl (record { number = suc q.number; o = q.o; u = q.u; binding = q.binding; there = bound_behind o q.o u q.u os us q.number q.binding q.there; role = q.role; path = q.path; denotes = q.denotes; selector = q.selector; behind = q.behind; declared = q.declared })
  behind o u os us (inr d) = inr (record { number = suc d.number; o = d.o; u = d.u; binding = d.binding; there = bound_behind o d.o u d.u os us d.number d.binding d.there; role = d.role; key = d.key; dot = d.dot; decl = d.decl; outcome = d.outcome; same = d.same })

  -- the first occurrence

  here : (o : Occ) (u : FileUse) (os : List Occ) (us : List FileUse) → In (used_by b file o u (slice_get us 0)) at → IsUsed (o ∷ os) (u ∷ us)
  here o u os us h = by (is_name_role o.role) refl h
    where
      bound : (binding : Binding) → file_binding b file o.spelling ≡ Some binding → binding.at ≡ at → IsBoundBy b file (o ∷ os) (u ∷ us) at 0 o u binding
      bound binding e same = record { occurrence = refl; has = refl; bound = e; place = same }

      uses : (binding : Binding) → is_name_role o.role ≡ true → file_binding b file o.spelling ≡ Some binding → binding.at ≡ at → Qualifies o.role u.outcome (slice_get us 0) ⊎ Dots binding.target u.outcome → IsUsed (o ∷ os) (u ∷ us)
      uses binding name e same (inl q) = inl (record { number = 0; o = o; u = u; binding = binding; there = bound binding e same; role = q.role; path = q.path; denotes = q.denotes; selector = q.selector; behind = q.behind; declared = q.declared })
      uses binding name e same (inr d) = inr (record { number = 0; o = o; u = u; binding = binding; there = bound binding e same; role = name; key = d.key; dot = d.dot; decl = d.decl; outcome = d.outcome; same = d.same })

      test : (binding : Binding) → is_name_role o.role ≡ true → file_binding b file o.spelling ≡ Some binding → (t : Bool) → uses_binding binding.target o.role u.outcome (slice_get us 0) ≡ t → In (if t then binding.at ∷ [] else []) at → IsUsed (o ∷ os) (u ∷ us)
      test binding name e true h (inl same) = uses binding name e same (used_is binding.target o.role u.outcome (slice_get us 0) h)
      test binding name e true h (inr none) = absurd none
      test binding name e false h k = absurd k

      some : is_name_role o.role ≡ true → (x : Option Binding) → file_binding b file o.spelling ≡ x → In (used_if x o.role u.outcome (slice_get us 0)) at → IsUsed (o ∷ os) (u ∷ us)
      some name None e k = absurd k
      some name (Some binding) e k = test binding name e (uses_binding binding.target o.role u.outcome (slice_get us 0)) refl k

      by : (t : Bool) → is_name_role o.role ≡ t → In (if t then used_if (file_binding b file o.spelling) o.role u.outcome (slice_get us 0) else []) at → IsUsed (o ∷ os) (u ∷ us)
      by true e k = some e (file_binding b file o.spelling) refl k
      by false e k = absurd k

  pub used_to : (os : List Occ) (us : List FileUse) → In (used_places b file os us) at → IsUsed os us
  used_to [] us h = absurd h
  used_to (o ∷ os) [] h = absurd h
  used_to (o ∷ os) (u ∷ us) h =
      ⊎_elim (here o u os us) (λ k. behind o u os us (used_to os us k))
      (in_either (used_by b file o u (slice_get us 0)) (used_places b file os us) at h)

  -- an occurrence that uses the import

  there : (o : Occ) (u : FileUse) (next : Option FileUse) (binding : Binding) → is_name_role o.role ≡ true → file_binding b file o.spelling ≡ Some binding → binding.at ≡ at → uses_binding binding.target o.role u.outcome next ≡ true → In (used_by b file o u next) at
  there o u next binding name e same h =
      subst (λ (t : Bool). In (if t then used_if (file_binding b file o.spelling) o.role u.outcome next else []) at) (sym name)
      (subst (λ x. In (used_if x o.role u.outcome next) at) (sym e)
      (subst (λ (t : Bool). In (if t then binding.at ∷ [] else []) at) (sym h) (inl same)))

  at_number : (os : List Occ) (us : List FileUse) (n : ℕ) (o : Occ) (u : FileUse) → slice_get os n ≡ Some o → slice_get us n ≡ Some u → In (used_by b file o u (slice_get us (suc n))) at → In (used_places b file os us) at
  at_number [] us n o u e f h = cc
  at_number (x ∷ os) [] n o u e f h = cc
  at_number (x ∷ os) (v ∷ us) zero o u e f h =
      let occ : x ≡ o = cc in
      let held : v ≡ u = cc in
      in_front (used_by b file x v (slice_get us 0)) (used_places b file os us) at (subst (λ z. In (used_by b file z v (slice_get us 0)) at) (sym occ) (subst (λ z. In (used_by b file o z (slice_get us 0)) at) (sym held) h))
  at_number (x ∷ os) (v ∷ us) (suc n) o u e f h = in_back (used_by b file x v (slice_get us 0)) (used_places b file os us) at (at_number os us n o u e f h)

  pub used_from : (os : List Occ) (us : List FileUse) → IsUsed os us → In (used_places b file os us) at
  used_from os us (inl q) =
      let next = slice_get us (suc q.number) in
      let name : is_name_role q.o.role ≡ true = ap is_name_role q.role in
      let how : Qualifies q.o.role q.u.outcome next = record { role = q.role; path = q.path; denotes = q.denotes; selector = q.selector; behind = q.behind; declared = q.declared } in
      at_number os us q.number q.o q.u q.there.occurrence q.there.has (there q.o q.u next q.binding name q.there.bound q.there.place (qualifies_used q.binding.target q.o.role q.u.outcome next how))
  used_from os us (inr d) =
      let next = slice_get us (suc d.number) in
      let how : Dots d.binding.target d.u.outcome = record { key = d.key; dot = d.dot; decl = d.decl; outcome = d.outcome; same = d.same } in
      at_number os us d.number d.o d.u d.there.occurrence d.there.has (there d.o d.u next d.binding d.role d.there.bound d.there.place (dots_used d.binding.target d.o.role d.u.outcome next how))
