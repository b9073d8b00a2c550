-- How entries are stored, so that a model may hold one.
use Rattle.std.specs.Prelude.{refl, ℕ, Bool, List}
use Rattle.std.specs.Coded.{Coded, code_by, coded×, coded_list, coded_ℕ, coded_bool}
use Rattle.go_term_core.specs.decl_core.declared.keys.DeclKey.{DeclKey}
use Rattle.go_term_core.specs.decl_core.contracts.keys.DeclKey as decl_key
use Rattle.go_term_core.specs.declared.term.MemberPlace.{MemberPlace}
use Rattle.go_term_core.specs.contracts.term.MemberPlace as member_place
use Rattle.go_term_core.specs.Terms.{Term, Sign}
use Rattle.go_term_core.specs.codes.TermCodes.{coded_term, coded_sign}
use Rattle.go_table_core.specs.Entries.{Member, Entry}
use Rattle.go_table_core.specs.Tables.{PackageTypesModel, package_types}

-- a member is stored as the tuple of its fields
abbrev pub coded_member : Coded Member
coded_member = code_by (List ℕ × (MemberPlace × (Bool × Sign))) (coded× (coded_list coded_ℕ) (coded× member_place.the_row.coded (coded× coded_bool coded_sign))) (λ m. (m.name, (m.place, (m.pointer, m.sign)))) (λ p. record { name = p.0; place = p.1.0; pointer = p.1.1.0; sign = p.1.1.1 }) (λ _. refl)

-- an entry too
abbrev pub coded_entry : Coded Entry
coded_entry = code_by (DeclKey × (List ℕ × (Term × List Member))) (coded× decl_key.the_row.coded (coded× (coded_list coded_ℕ) (coded× coded_term (coded_list coded_member)))) (λ e. (e.key, (e.name, (e.term, e.methods)))) (λ p. record { key = p.0; name = p.1.0; term = p.1.1.0; methods = p.1.1.1 }) (λ _. refl)

-- and the types of a package
abbrev pub coded_package_types : Coded PackageTypesModel
coded_package_types = code_by (List ℕ × List Entry) (coded× (coded_list coded_ℕ) (coded_list coded_entry)) (λ t. (t.path, t.entries)) (λ p. package_types p.0 p.1) (λ _. refl)
