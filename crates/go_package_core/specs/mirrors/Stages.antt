-- What is known of a package between the steps of its check.
use Rattle.std.specs.Prelude.{◌≡◌, List, map}
use Rattle.go_type_core.specs.table_core.Entries.{Entry}
use Rattle.go_package_core.specs.declared.prepare.ready.Ready.{Ready}
use Rattle.go_package_core.specs.prepare.Inlines.{AreFunctionsIn, initial_in}
use Rattle.go_package_core.specs.prepare.Packages.{PackageIn, scene_in}

-- what is made of it before its files are checked
pub record IsReady (p : PackageIn) (types : List Entry) (r : Ready) : Type 0 where
  pub home : r.home ≡ p.path
  pub written : r.written ≡ (scene_in p types).written
  pub initial : r.initial.items ≡ initial_in p types
  pub functions : AreFunctionsIn p types (map (λ of_file. of_file.items) r.functions.items)
