-- Identity is decided.
use Rattle.std.proofs.Common.{◌≡◌, ◌↔◌, ℕ, Bool, true, false, ◌&&◌, List, IsTrue, ◌⊎◌, inl, inr, refl, sym, subst}
use Rattle.std.specs.Prelude.{nat_eq}
use Rattle.go_denote_core.specs.text_core.Text.{SameId}
use Rattle.go_term_core.specs.declared.term.MemberPlace.{MemberPlace}
use Rattle.go_term_core.specs.Terms.{Term, NoType, Predeclared, ErrorType, Defined, PointerTo, StructOf, InterfaceOf, Fields, NoField, AField, Methods, NoMethod, AMethod, Sign, SignOf, Terms, NoTerm, ATerm}
use Rattle.go_term_core.specs.Identity.{IsMethod, method_count, IdenticalBy, SameFieldsBy, HasAllBy, SameSignBy, SameTermsBy}
use Rattle.go_term_core.specs.mirrors.Alike.{HasAlike}
use Rattle.go_table_core.specs.Entries.{same_id}
use Rattle.go_table_core.specs.Underlying.{written_out, IdenticalUnder}
use Rattle.go_mset_core.specs.embed_core.Ids.{same_id_is, same_id_from}
use Rattle.go_handle_core.specs.deciding.Identity.{tags_agree, has_alike, identical_by, same_fields, has_all, same_sign, same_terms, identical_under_of}
use Rattle.go_handle_core.specs.deciding.Laws.{IdentityIsDecided}
use Rattle.go_handle_core.proofs.DecidingTests.{both_decide, some_decide, never, decides_number, decides_flag, decides_tags, decides_basic, decides_key}
use Rattle.go_constant_core.specs.Values.{bool_same}

pub decides_id : (a p b q : List ℕ) → IsTrue (same_id a p b q) ↔ SameId a p b q
decides_id a p b q = (λ h. same_id_is a p b q h, λ h. same_id_from a p b q h)

-- the name, the flag, the type and the tag of a field, and what is behind it
field_decides : {P Q R : Type 0} (name p name' q : List ℕ) (embedded embedded' a b c : Bool) → (IsTrue a ↔ P) → (IsTrue b ↔ Q) → (IsTrue c ↔ R)
    → IsTrue (same_id name p name' q && (bool_same embedded embedded' && (a && (b && c)))) ↔ (SameId name p name' q × (embedded ≡ embedded') × P × Q × R)
field_decides name p name' q embedded embedded' a b c x y z =
    let all =
    both_decide (same_id name p name' q) (bool_same embedded embedded' && (a && (b && c))) (decides_id name p name' q)
    (both_decide (bool_same embedded embedded') (a && (b && c)) (decides_flag embedded embedded') (both_decide a (b && c) x (both_decide b c y z))) in
    (λ h. let r = all.0 h in (r.0, r.1.0, r.1.1.0, r.1.1.1.0, r.1.1.1.1), λ h. all.1 (h.0, (h.1, (h.2, (h.3, h.4)))))

module _ (tags : Bool) where
  -- one method among those of an interface type
  alike_in : (passes : Sign → Bool) (name p : List ℕ) (g : Sign) (q : List ℕ) (ns : Methods) → ((h : Sign) → IsTrue (passes h) ↔ SameSignBy tags g h)
      → IsTrue (has_alike passes name p q ns) ↔ HasAlike tags p name g q ns
  alike_in passes name p g q NoMethod test = never (λ h. h.3)
  alike_in passes name p g q (AMethod name' place' g' ns) test =
      let here = both_decide (same_id name p name' q) (passes g') (decides_id name p name' q) (test g') in
      let both = some_decide (same_id name p name' q && passes g') (has_alike passes name p q ns) here (alike_in passes name p g q ns test) in (
        λ h. elim (both.0 h) [
          | inl x ↦ (name', place', g', inl (refl, refl, refl), x.0, x.1)
          | inr y ↦ (y.0, y.1, y.2, inr y.3, y.4, y.5)
        ],
        λ h. both.1 (from h.0 h.1 h.2 h.3 h.4 h.5),
      )
    where
      from : (n : List ℕ) (place : MemberPlace) (k : Sign) → IsMethod (AMethod name' place' g' ns) n place k → SameId name p n q → SameSignBy tags g k
          → (SameId name p name' q × SameSignBy tags g g') ⊎ HasAlike tags p name g q ns
      from n place k (inl e) id same = inl (subst (λ m. SameId name p m q) (sym e.0) id, subst (λ h. SameSignBy tags g h) (sym e.2) same)
      from n place k (inr e) id same = inr (n, place, k, e, id, same)

  mutual
    pub decides_by : (t u : Term) → IsTrue (identical_by tags t u) ↔ IdenticalBy tags t u
    decides_by NoType NoType = (λ h. tt, λ h. refl)
    decides_by (Predeclared b) (Predeclared c) = decides_basic b c
    decides_by ErrorType ErrorType = (λ h. tt, λ h. refl)
    decides_by (Defined k) (Defined j) = decides_key k j
    decides_by (PointerTo t) (PointerTo u) = decides_by t u
    decides_by (StructOf p fs) (StructOf q gs) = decides_fields p fs q gs
    decides_by (InterfaceOf p ms) (InterfaceOf q ns) =
        both_decide (nat_eq (method_count ms) (method_count ns)) (has_all tags p ms q ns) (decides_number (method_count ms) (method_count ns)) (decides_all p ms q ns)
    decides_by NoType _ = never (λ h. h)
    decides_by (Predeclared b) _ = never (λ h. h)
    decides_by ErrorType _ = never (λ h. h)
    decides_by (Defined k) _ = never (λ h. h)
    decides_by (PointerTo t) _ = never (λ h. h)
    decides_by (StructOf p fs) _ = never (λ h. h)
    decides_by (InterfaceOf p ms) _ = never (λ h. h)

    decides_fields : (p : List ℕ) (fs : Fields) (q : List ℕ) (gs : Fields) → IsTrue (same_fields tags p fs q gs) ↔ SameFieldsBy tags p fs q gs
    decides_fields p NoField q NoField = (λ h. tt, λ h. refl)
    decides_fields p NoField q (AField name' place' embedded' t' tag' gs) = never (λ h. h)
    decides_fields p (AField name place embedded t tag fs) q NoField = never (λ h. h)
    decides_fields p (AField name place embedded t tag fs) q (AField name' place' embedded' t' tag' gs) =
        field_decides name p name' q embedded embedded' (identical_by tags t t') (tags_agree tags tag tag') (same_fields tags p fs q gs) (decides_by t t') (decides_tags tags tag tag') (decides_fields p fs q gs)

    decides_all : (p : List ℕ) (ms : Methods) (q : List ℕ) (ns : Methods) → IsTrue (has_all tags p ms q ns) ↔ HasAllBy tags p ms q ns
    decides_all p NoMethod q ns = (λ h. tt, λ h. refl)
    decides_all p (AMethod name place g ms) q ns =
        both_decide (has_alike (λ g'. same_sign tags g g') name p q ns) (has_all tags p ms q ns) (alike_in (λ g'. same_sign tags g g') name p g q ns (λ h. decides_signs g h)) (decides_all p ms q ns)

    pub decides_signs : (g h : Sign) → IsTrue (same_sign tags g h) ↔ SameSignBy tags g h
    decides_signs (SignOf ps rs) (SignOf qs us) = both_decide (same_terms tags ps qs) (same_terms tags rs us) (decides_terms ps qs) (decides_terms rs us)

    decides_terms : (ts us : Terms) → IsTrue (same_terms tags ts us) ↔ SameTermsBy tags ts us
    decides_terms NoTerm NoTerm = (λ h. tt, λ h. refl)
    decides_terms NoTerm (ATerm u us) = never (λ h. h)
    decides_terms (ATerm t ts) NoTerm = never (λ h. h)
    decides_terms (ATerm t ts) (ATerm u us) = both_decide (identical_by tags t u) (same_terms tags ts us) (decides_by t u) (decides_terms ts us)

pub decides_under : (tags : Bool) (t u : Term) → IsTrue (identical_under_of tags t u) ↔ IdenticalUnder tags t u
decides_under tags t u = decides_by tags (written_out t) (written_out u)

pub identity_decided : IdentityIsDecided
identity_decided = record { identical = λ t u. decides_by true t u; but_for_tags = λ t u. decides_by false t u; signs = λ g h. decides_signs true g h; under = decides_under }
