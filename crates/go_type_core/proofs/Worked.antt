-- Samples of declarations.
use Rattle.std.proofs.Common.{◌≡◌, inl, inr, List, [], ◌∷◌, Some, None, refl, sym, ap, ◌∙◌, subst}
use Rattle.std.specs.List.{Contains}
use Rattle.go_term_core.specs.decl_core.declared.keys.DeclKey.{DeclKey}
use Rattle.go_term_core.specs.Terms.{Term, NoType, Defined, PointerTo}
use Rattle.go_table_core.specs.Entries.{Entry, EntryLook, find_entry}
use Rattle.go_type_core.specs.Built.{base, direct_keys, NamesNothing, IsNothingBy, Uses, UsesAlong, IsLooped}
use Rattle.go_type_core.specs.Sample.{sample_key, type_sample, sample_struct, WorkedDeclaredTypes}
use Rattle.go_type_core.proofs.Keyed.{found_first}
use Rattle.go_table_core.proofs.Keys.{same_key_itself}
use Rattle.go_type_core.proofs.Looping.{contains_first, none_there}

sample_found : (t : Term) → find_entry (type_sample t ∷ []) sample_key ≡ Some (type_sample t)
sample_found t = found_first (type_sample t) [] sample_key (same_key_itself sample_key)

sample_only : (t : Term) (e : Entry) → find_entry (type_sample t ∷ []) sample_key ≡ Some e → type_sample t ≡ e
sample_only t e h = (let both : Some (type_sample t) ≡ Some e = sym (sample_found t) ∙ h in cc)

-- a type that uses nothing does not reach itself
no_loop : (t : Term) → direct_keys t ≡ [] → IsLooped (type_sample t ∷ []) sample_key → ⊥
no_loop t none loop = first loop.0 loop.1
  where
    use_none : (j : DeclKey) → Uses (type_sample t ∷ []) sample_key j → ⊥
    use_none j u = none_there j (subst (λ l. Contains l j) none (subst (λ (x : Entry). Contains (direct_keys x.term) j) (sym (sample_only t u.0 u.1)) u.2))

    first : (between : List DeclKey) → UsesAlong (type_sample t ∷ []) sample_key between sample_key → ⊥
    first [] u = use_none sample_key u
    first (m ∷ ms) u = use_none m u.0

names_none : (t : Term) (far : EntryLook) (k : DeclKey) → direct_keys t ≡ [] → sample_key ≡ k → NamesNothing (type_sample t ∷ []) far k → ⊥
names_none t far k none e n = elim n [
  | inl loop ↦ no_loop t none (subst (IsLooped (type_sample t ∷ [])) (sym e) loop)
  | inr gone ↦ (let both : Some (type_sample t) ≡ None = sym (sample_found t) ∙ (ap (find_entry (type_sample t ∷ [])) e ∙ gone.0) in absurd (cc))
]

endless_by : (far : EntryLook) (t : Term) (through : List DeclKey) → base t ≡ Defined sample_key → IsNothingBy (type_sample (PointerTo (Defined sample_key)) ∷ []) far t through → ⊥
endless_by far t [] is n = elim n [
  | inl none ↦ (let both : Defined sample_key ≡ NoType = sym is ∙ none in absurd (cc))
  | inr k ↦ (let both : Defined sample_key ≡ Defined k.0 = sym is ∙ k.1 in names_none (PointerTo (Defined sample_key)) far k.0 refl (let e : sample_key ≡ k.0 = cc in e) k.2)
]
endless_by far t (k ∷ ks) is n =
    let both : Defined sample_key ≡ Defined k = sym is ∙ n.0 in
    let e : sample_key ≡ k = cc in
    let only = sample_only (PointerTo (Defined sample_key)) n.1.0 (ap (find_entry (type_sample (PointerTo (Defined sample_key)) ∷ [])) e ∙ n.1.1) in
    endless_by far n.1.0.term ks (ap (λ (x : Entry). base x.term) (sym only)) n.1.2

struct_by : (far : EntryLook) (through : List DeclKey) → IsNothingBy (type_sample (sample_struct (PointerTo (Defined sample_key))) ∷ []) far (Defined sample_key) through → ⊥
struct_by far [] n = elim n [
  | inl none ↦ absurd (cc)
  | inr k ↦ (let both = k.1 in names_none (sample_struct (PointerTo (Defined sample_key))) far k.0 refl (let e : sample_key ≡ k.0 = cc in e) k.2)
]
struct_by far (k ∷ ks) n =
    let both = n.0 in
    let e : sample_key ≡ k = cc in
    let only = sample_only (sample_struct (PointerTo (Defined sample_key))) n.1.0 (ap (find_entry (type_sample (sample_struct (PointerTo (Defined sample_key))) ∷ [])) e ∙ n.1.1) in
    struct_end ks (subst (λ (x : Entry). IsNothingBy (type_sample (sample_struct (PointerTo (Defined sample_key))) ∷ []) far x.term ks) (sym only) n.1.2)
  where
    struct_end : (ks : List DeclKey) → IsNothingBy (type_sample (sample_struct (PointerTo (Defined sample_key))) ∷ []) far (sample_struct (PointerTo (Defined sample_key))) ks → ⊥
    struct_end [] n = elim n [ inl none ↦ absurd (cc) | inr k ↦ (let both = k.1 in absurd (cc)) ]
    struct_end (j ∷ js) n = (let both = n.0 in absurd (cc))

itself : IsLooped (type_sample (sample_struct (Defined sample_key)) ∷ []) sample_key
itself = ([], (type_sample (sample_struct (Defined sample_key)), sample_found (sample_struct (Defined sample_key)), contains_first sample_key []))

own_name : IsLooped (type_sample (Defined sample_key) ∷ []) sample_key
own_name = ([], (type_sample (Defined sample_key), sample_found (Defined sample_key), contains_first sample_key []))

pub worked : WorkedDeclaredTypes
worked = record {
  holds_itself = itself;
  is_nothing = λ far. ([], inr (sample_key, refl, inl itself));
  pointer_is_nothing = λ far. ([], inr (sample_key, refl, inl itself));
  holds_pointer = no_loop (sample_struct (PointerTo (Defined sample_key))) refl;
  is_type = λ far n. struct_by far n.0 n.1;
  endless_is_type = λ far n. endless_by far (Defined sample_key) n.0 refl n.1;
  own_name_is_nothing = λ far. ([], inr (sample_key, refl, inl own_name));
}
