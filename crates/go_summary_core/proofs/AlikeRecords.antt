-- What is the same in each part is the same.
use Rattle.std.proofs.Common.{◌≡◌}
use Rattle.go_operand_core.specs.declared.types.Operand.{Operand}
use Rattle.go_term_core.specs.Terms.{Term}
use Rattle.go_table_core.specs.Entries.{Entry, Member}
use Rattle.go_table_core.specs.Tables.{PackageTypesModel}
use Rattle.go_declared_core.specs.block_core.Exports.{ExportsModel}
use Rattle.go_declared_core.specs.Packages.{DeclaredOf, PackageFacesModel}

pub members_same : (a b : Member) → a.name ≡ b.name → a.place ≡ b.place → a.pointer ≡ b.pointer → a.sign ≡ b.sign → a ≡ b
members_same a b n p r s = λ i. record { name = n i; place = p i; pointer = r i; sign = s i }

pub entries_same : (a b : Entry) → a.key ≡ b.key → a.name ≡ b.name → a.term ≡ b.term → a.methods ≡ b.methods → a ≡ b
entries_same a b k n t m = λ i. record { key = k i; name = n i; term = t i; methods = m i }

pub types_same : (a b : PackageTypesModel) → a.path ≡ b.path → a.entries ≡ b.entries → a ≡ b
types_same a b p e = λ i. record { path = p i; entries = e i }

pub exports_same : (a b : ExportsModel) → a.path ≡ b.path → a.name ≡ b.name → a.names ≡ b.names → a ≡ b
exports_same a b p n ns = λ i. record { path = p i; name = n i; names = ns i }

pub operands_same : (a b : Operand Term) → a.value_type ≡ b.value_type → a.constant ≡ b.constant → a.addressable ≡ b.addressable → a ≡ b
operands_same a b t c d = λ i. record { value_type = t i; constant = c i; addressable = d i }

pub declared_same : (a b : DeclaredOf) → a.decl ≡ b.decl → a.face ≡ b.face → a ≡ b
declared_same a b d f = λ i. record { decl = d i; face = f i }

pub faces_same : (a b : PackageFacesModel) → a.path ≡ b.path → a.names ≡ b.names → a.faces ≡ b.faces → a ≡ b
faces_same a b p n f = λ i. record { path = p i; names = n i; faces = f i }
