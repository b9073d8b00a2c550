-- The faces that a package shows rise by file and number.
use Rattle.std.proofs.Common.{◌≡◌, ◌⊎◌, inl, inr, ℕ, zero, suc, ◌<◌, Bool, true, false, ◌&&◌, List, [], ◌∷◌, ◌++◌, length, get_or, Option, Some, None, sym, ◌∙◌, arith}
use Rattle.std.specs.Prelude.{⊤, nat_eq, nat_lt}
use Rattle.std.specs.declared.cmp.Ordering.TheVariants.{Less, Equal}
use Rattle.std.proofs.lemmas.Bool.{and_parts, and_from, or_cases, or_left, or_right, eqb-true, eq-eqb, ltb-true, lt-ltb}
use Rattle.std.proofs.lemmas.Cmp.{tied_itself}
use Rattle.go_term_core.specs.decl_core.declared.keys.DeclRef.{DeclRef}
use Rattle.go_summary_core.specs.declared_core.Faces.{TheFace}
use Rattle.go_summary_core.specs.declared_core.Packages.{DeclaredOf, decls_declared}
use Rattle.go_summary_core.specs.declared_core.Written.{DeclsRise, IsDeclBefore}
use Rattle.go_term_core.specs.decl_core.Order.{place_cmp}
use Rattle.go_summary_core.specs.declared_core.Placed.{place_total, before_less}
use Rattle.go_report_core.specs.answer.Shown.{is_decl_listed, shown_among, shown_if}

-- before, by numbers

abbrev IsAt : DeclRef → DeclRef → Type 0
IsAt a b = (a.file < b.file) ⊎ ((a.file ≡ b.file) × (a.number < b.number))

before_at : (a b : DeclRef) → IsDeclBefore a b → IsAt a b
before_at a b h = elim (or_cases (nat_lt a.file b.file) (nat_eq a.file b.file && nat_lt a.number b.number) h) [
  | inl f ↦ inl (ltb-true a.file b.file f)
  | inr s ↦ (let p = and_parts (nat_eq a.file b.file) (nat_lt a.number b.number) s in inr (eqb-true a.file b.file p.0, ltb-true a.number b.number p.1))
]

at_before : (a b : DeclRef) → IsAt a b → IsDeclBefore a b
at_before a b (inl f) = or_left (nat_lt a.file b.file) (nat_eq a.file b.file && nat_lt a.number b.number) (lt-ltb a.file b.file f)
at_before a b (inr s) = or_right (nat_lt a.file b.file) (nat_eq a.file b.file && nat_lt a.number b.number) (and_from (nat_eq a.file b.file) (nat_lt a.number b.number) (eq-eqb a.file b.file s.0) (lt-ltb a.number b.number s.1))

at_onward : (a b c : DeclRef) → IsAt a b → IsAt b c → IsAt a c
at_onward a b c (inl f) (inl g) = inl (omega (arith, f, g))
at_onward a b c (inl f) (inr t) = let e = t.0 in inl (omega (arith, f, e))
at_onward a b c (inr s) (inl g) = let e = s.0 in inl (omega (arith, e, g))
at_onward a b c (inr s) (inr t) = let m = s.1 in let n = t.1 in inr (s.0 ∙ t.0, omega (arith, m, n))

before_onward : (a b c : DeclRef) → IsDeclBefore a b → IsDeclBefore b c → IsDeclBefore a c
before_onward a b c f g = at_before a c (at_onward a b c (before_at a b f) (before_at b c g))

-- before all of a list

abbrev IsBeforeAll : DeclRef → List DeclRef → Type 0
IsBeforeAll d [] = ⊤
IsBeforeAll d (e ∷ es) = IsDeclBefore d e × IsBeforeAll d es

earlier_all : (d e : DeclRef) (es : List DeclRef) → IsDeclBefore d e → IsBeforeAll e es → IsBeforeAll d es
earlier_all d e [] first all = tt
earlier_all d e (f ∷ es) first all = (before_onward d e f first all.0, earlier_all d e es first all.1)

rise_all : (d : DeclRef) (ds : List DeclRef) → DeclsRise (d ∷ ds) → IsBeforeAll d ds
rise_all d [] rise = tt
rise_all d (e ∷ ds) rise = (rise.0, earlier_all d e ds rise.0 (rise_all e ds rise.1))

rise_tail : (d : DeclRef) (ds : List DeclRef) → DeclsRise (d ∷ ds) → DeclsRise ds
rise_tail d [] rise = tt
rise_tail d (e ∷ ds) rise = rise.1

all_rise : (d : DeclRef) (ds : List DeclRef) → IsBeforeAll d ds → DeclsRise ds → DeclsRise (d ∷ ds)
all_rise d [] all rise = tt
all_rise d (e ∷ ds) all rise = (all.0, rise)

-- what is shown

shown_behind : (these : List DeclRef) (d : DeclRef) (ds : List DeclRef) (known : List (Option TheFace)) → IsBeforeAll d ds → IsBeforeAll d (decls_declared (shown_among these ds known))
shown_behind these d [] known all = tt
shown_behind these d (e ∷ ds) [] all = tt
shown_behind these d (e ∷ ds) (face ∷ known) all = by (is_decl_listed these e) face (shown_behind these d ds known all.1)
  where
    by : (b : Bool) (o : Option TheFace) → IsBeforeAll d (decls_declared (shown_among these ds known)) → IsBeforeAll d (decls_declared (shown_if b e o ++ shown_among these ds known))
    by b None rest = rest
    by true (Some f) rest = (all.0, rest)
    by false (Some f) rest = rest

pub shown_rise : (these ds : List DeclRef) (known : List (Option TheFace)) → DeclsRise ds → DeclsRise (decls_declared (shown_among these ds known))
shown_rise these [] known rise = tt
shown_rise these (d ∷ ds) [] rise = tt
shown_rise these (d ∷ ds) (face ∷ known) rise = by (is_decl_listed these d) face (shown_behind these d ds known (rise_all d ds rise)) (shown_rise these ds known (rise_tail d ds rise))
  where
    by : (b : Bool) (o : Option TheFace) → IsBeforeAll d (decls_declared (shown_among these ds known)) → DeclsRise (decls_declared (shown_among these ds known)) → DeclsRise (decls_declared (shown_if b d o ++ shown_among these ds known))
    by b None all rest = rest
    by true (Some f) all rest = all_rise d (decls_declared (shown_among these ds known)) all rest
    by false (Some f) all rest = rest

-- the order of faces

abbrev pub IsEarlier : DeclaredOf → DeclaredOf → Type 0
IsEarlier a b = place_cmp a.decl b.decl ≡ Less

pub never_earlier : (e : DeclaredOf) → IsEarlier e e → ⊥
never_earlier e h = (let no : Equal ≡ Less = sym (tied_itself place_total e.decl) ∙ h in cc)

pub earlier_onward : (a b c : DeclaredOf) → IsEarlier a b → IsEarlier b c → IsEarlier a c
earlier_onward a b c f g = place_total.trans a.decl b.decl c.decl f g

later_at : (d : DeclRef) (es : List DeclaredOf) → IsBeforeAll d (decls_declared es) → (j : ℕ) (x : DeclaredOf) → j < length es → place_cmp d (get_or es j x).decl ≡ Less
later_at d [] all j x lt = absurd (omega (arith, lt))
later_at d (e ∷ es) all zero x lt = before_less d e.decl all.0
later_at d (e ∷ es) all (suc j) x lt = later_at d es all.1 j x (omega (arith, lt))

pub rise_pairs : (es : List DeclaredOf) → DeclsRise (decls_declared es) → (i j : ℕ) (d : DeclaredOf) → i < j → j < length es → IsEarlier (get_or es i d) (get_or es j d)
rise_pairs [] rise i j d low high = absurd (omega (arith, high))
rise_pairs (e ∷ es) rise zero zero d low high = absurd (omega (arith, low))
rise_pairs (e ∷ es) rise zero (suc j) d low high = later_at e.decl es (rise_all e.decl (decls_declared es) rise) j d (omega (arith, high))
rise_pairs (e ∷ es) rise (suc i) zero d low high = absurd (omega (arith, low))
rise_pairs (e ∷ es) rise (suc i) (suc j) d low high = rise_pairs es (rise_tail e.decl (decls_declared es) rise) i j d (omega (arith, low)) (omega (arith, high))
