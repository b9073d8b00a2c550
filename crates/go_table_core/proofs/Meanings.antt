-- The laws of tables.
use Rattle.std.proofs.Common.{◌≡◌, ◌<◌, ◌⊎◌, true, [], ◌∷◌, Option, Some, None, refl, sym, ap, subst, arith}
use Rattle.std.specs.Prelude.{IsTrue, Contains}
use Rattle.std.proofs.lemmas.List.Elements.{Contains-append_left}
use Rattle.go_term_core.specs.decl_core.declared.keys.DeclKey.{DeclKey}
use Rattle.go_term_core.specs.declared.term.Basic.TheVariants as basics
use Rattle.go_term_core.specs.Terms.{Term, NoType, Predeclared, ErrorType, Defined, PointerTo, StructOf, InterfaceOf, term_keys}
use Rattle.go_table_core.specs.Entries.{Entry, EntryLook, term_in, underlying_in, methods_in, declared_methods, members_keys}
use Rattle.go_table_core.specs.Underlying.{IdenticalUnder}
use Rattle.go_table_core.specs.Assign.{Assigned, AValue, ANil, AnInteger, AText, ABoolean, IsInterface, IsPointer, IsValueAssignable, identical, alike, implements_it, IsFitting, IsTermAssignable}
use Rattle.go_table_core.specs.Laws.{IsReached, AgreeFrom, UnderlyingIsLocal, AssignedAgrees, AssignableIsLocal}

pub alone : (k : DeclKey) → Contains (k ∷ []) k
alone k = (0, omega arith, refl)

pub reached_itself : (look : EntryLook) (k : DeclKey) → IsReached look (Defined k) k
reached_itself look k = ([], alone k)

same_underlying : (look other : EntryLook) (t : Term) → AgreeFrom look other t → underlying_in look t ≡ underlying_in other t
same_underlying look other NoType agree = refl
same_underlying look other (Predeclared b) agree = refl
same_underlying look other ErrorType agree = refl
same_underlying look other (Defined k) agree = ap term_in (agree k (reached_itself look k))
same_underlying look other (PointerTo t) agree = refl
same_underlying look other (StructOf path fs) agree = refl
same_underlying look other (InterfaceOf path ms) agree = refl

same_methods : (look other : EntryLook) (t : Term) → AgreeFrom look other t → declared_methods look t ≡ declared_methods other t
same_methods look other NoType agree = refl
same_methods look other (Predeclared b) agree = refl
same_methods look other ErrorType agree = refl
same_methods look other (Defined k) agree = ap methods_in (agree k (reached_itself look k))
same_methods look other (PointerTo t) agree = refl
same_methods look other (StructOf path fs) agree = refl
same_methods look other (InterfaceOf path ms) agree = refl

-- what an underlying type mentions is reached
mentioned : (look : EntryLook) (t : Term) (k : DeclKey) → Contains (term_keys (underlying_in look t)) k → IsReached look t k
mentioned look NoType k h = ([], h)
mentioned look (Predeclared b) k h = ([], h)
mentioned look ErrorType k h = ([], h)
mentioned look (Defined j) k h = by (look j) refl h
  where
    by : (o : Option Entry) → look j ≡ o → Contains (term_keys (term_in o)) k → IsReached look (Defined j) k
    by None is h = absurd (let lt : h.0 < 0 = h.1 in omega arith)
    by (Some e) is h = (j ∷ [], (alone j, (e, is, Contains-append_left (term_keys e.term) (members_keys e.methods) k h)))
mentioned look (PointerTo t) k h = ([], h)
mentioned look (StructOf path fs) k h = ([], h)
mentioned look (InterfaceOf path ms) k h = ([], h)

pub underlying_local : UnderlyingIsLocal
underlying_local = record { same = same_underlying; methods = same_methods; inside = mentioned }

-- what is assignable depends on underlying types alone

value_moves : (look other : EntryLook) (v t : Term) (implements : Type 0) → underlying_in look v ≡ underlying_in other v → underlying_in look t ≡ underlying_in other t → IsValueAssignable look v t implements → IsValueAssignable other v t implements
value_moves look other v t implements vs ts (identical h) = identical h
value_moves look other v t implements vs ts (alike h apart) =
    alike (subst (λ (u : Term). IdenticalUnder true (underlying_in other v) u) ts (subst (λ (u : Term). IdenticalUnder true u (underlying_in look t)) vs h)) apart
value_moves look other v t implements vs ts (implements_it i h) = implements_it (subst (λ (u : Term). IsInterface u) ts i) h

-- the operand's underlying type is the same
abbrev SameOperand : EntryLook → EntryLook → Assigned → Type 0
SameOperand look other (AValue v) = underlying_in look v ≡ underlying_in other v
SameOperand look other ANil = Unit {0}
SameOperand look other AnInteger = Unit {0}
SameOperand look other AText = Unit {0}
SameOperand look other ABoolean = Unit {0}

fits_moves : (look other : EntryLook) (a : Assigned) (t : Term) (implements : Type 0) → SameOperand look other a → underlying_in look t ≡ underlying_in other t → IsFitting look a t implements → IsFitting other a t implements
fits_moves look other (AValue v) t implements vs ts h = (subst (λ (u : Term). u ≡ NoType → ⊥) vs h.0, value_moves look other v t implements vs ts h.1)
fits_moves look other ANil t implements vs ts h = subst (λ (u : Term). IsPointer u ⊎ IsInterface u) ts h
fits_moves look other AnInteger t implements vs ts h = subst (λ (u : Term). (u ≡ Predeclared basics.Int) ⊎ (IsInterface u × implements)) ts h
fits_moves look other AText t implements vs ts h = subst (λ (u : Term). (u ≡ Predeclared basics.Text) ⊎ (IsInterface u × implements)) ts h
fits_moves look other ABoolean t implements vs ts h = subst (λ (u : Term). (u ≡ Predeclared basics.Bool) ⊎ (IsInterface u × implements)) ts h

moves : (look other : EntryLook) (a : Assigned) (t : Term) (implements : Type 0) → SameOperand look other a → underlying_in look t ≡ underlying_in other t → IsTermAssignable look a t implements → IsTermAssignable other a t implements
moves look other a t implements vs ts h = (subst (λ (u : Term). u ≡ NoType → ⊥) ts h.0, fits_moves look other a t implements vs ts h.1)

operand_agrees : (look other : EntryLook) (a : Assigned) → AssignedAgrees look other a → SameOperand look other a × SameOperand other look a
operand_agrees look other (AValue v) agree = (let e = same_underlying look other v agree in (e, sym e))
operand_agrees look other ANil agree = (tt, tt)
operand_agrees look other AnInteger agree = (tt, tt)
operand_agrees look other AText agree = (tt, tt)
operand_agrees look other ABoolean agree = (tt, tt)

pub assignable_local : AssignableIsLocal
assignable_local look other a t implements operand target =
    let both = operand_agrees look other a operand in
    let ts = same_underlying look other t target in
    (moves look other a t (IsTrue implements) both.0 ts, moves other look a t (IsTrue implements) both.1 (sym ts))
