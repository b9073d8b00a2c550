-- What is defined at an offset has its references there.
use Rattle.std.proofs.Common.{refl}
use Rattle.go_reference_core.specs.Laws.{DefinedAreReferences}
use Rattle.go_reference_core.proofs.Found.{ref}

pub defined_are_references : DefinedAreReferences
defined_are_references s path name offset d f u at used identifier declares =
    let part = at.in_workspace in (
      ref part.number f.number used.number u.offset,
      record {
        of_file = f.made;
        is_file = record { of_part = f.of_part; there = part.there; in_package = at.made };
        used = u;
        has = used.has;
        declares = record { identifier = identifier; declares = declares };
        offset = refl;
      },
      refl,
      refl,
    )
