-- Names with their targets.
use Rattle.std.proofs.Common.{◌≡◌, Some, None, refl}
use Rattle.go_term_core.specs.decl_core.declared.keys.DeclKey.{DeclKey}
use Rattle.go_term_core.specs.Terms.{Term, NoType, Predeclared, ErrorType, Defined, PointerTo, StructOf, InterfaceOf}
use Rattle.go_typexpr_core.specs.entry.Meanings.{through}
use Rattle.go_typexpr_core.specs.entry.mirrors.Targeted.{named_target}

-- what means itself, goes through as it is
pub through_itself : (t : Term) → t ≡ through Defined t
through_itself NoType = refl
through_itself (Predeclared b) = refl
through_itself ErrorType = refl
through_itself (Defined k) = refl
through_itself (PointerTo t) = refl
through_itself (StructOf path fs) = refl
through_itself (InterfaceOf path ms) = refl

pub through_some : (mean : DeclKey → Term) (t u : Term) → Some u ≡ named_target mean t → u ≡ through mean t
through_some mean NoType u h = absurd (cc)
through_some mean (Predeclared b) u h = absurd (cc)
through_some mean ErrorType u h = absurd (cc)
through_some mean (Defined k) u h = (cc)
through_some mean (PointerTo t) u h = absurd (cc)
through_some mean (StructOf path fs) u h = absurd (cc)
through_some mean (InterfaceOf path ms) u h = absurd (cc)

pub through_none : (mean : DeclKey → Term) (t : Term) → None ≡ named_target mean t → t ≡ through mean t
through_none mean NoType h = refl
through_none mean (Predeclared b) h = refl
through_none mean ErrorType h = refl
through_none mean (Defined k) h = absurd (cc)
through_none mean (PointerTo t) h = refl
through_none mean (StructOf path fs) h = refl
through_none mean (InterfaceOf path ms) h = refl
