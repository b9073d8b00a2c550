use Rattle.go_package_values.proofs.Alike.{decls_stand_alike}
use Rattle.go_package_values.proofs.laws.places_agree.Goals as goal

pub returns : goal.returns
returns c = decls_stand_alike
